pub mod Beginnings
pub mod Cells
pub mod Steps
pub mod Meeting
