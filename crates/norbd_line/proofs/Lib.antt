pub mod Odd
pub mod Flags
