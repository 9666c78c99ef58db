pub mod Copies
pub mod Giving
pub mod Holding
pub mod Joining
pub mod Saying
