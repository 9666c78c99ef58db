mod Accepted
mod Mending
pub mod Faults
mod Holding
