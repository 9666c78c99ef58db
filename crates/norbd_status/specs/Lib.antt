pub mod Erasing
pub mod Status
