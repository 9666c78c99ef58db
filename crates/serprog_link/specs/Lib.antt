pub mod Place
pub mod Halves
