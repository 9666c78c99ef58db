pub mod Turns
pub mod Connections
pub mod Plain
pub mod Units
pub mod Sweeping
pub mod ToldParts
