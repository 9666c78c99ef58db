pub mod Resuming
pub mod Lives
