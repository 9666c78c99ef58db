pub mod Faults
pub mod Trust
