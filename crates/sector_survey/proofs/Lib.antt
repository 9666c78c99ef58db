pub mod Voting
pub mod Faults
pub mod Verdicts
pub mod Counting
pub mod Erasing
pub mod Cleaning
