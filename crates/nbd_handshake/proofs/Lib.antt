pub mod Fronts
pub mod Names
pub mod Cuts
pub mod Steps
