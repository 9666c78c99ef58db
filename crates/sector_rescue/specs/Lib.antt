pub mod Rescue
pub mod Given
pub mod Doubts
pub mod Steps
