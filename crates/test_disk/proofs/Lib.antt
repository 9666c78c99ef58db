pub mod Zeros
pub mod NextLives
