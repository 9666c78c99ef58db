pub mod Kept
pub mod Chronicles
