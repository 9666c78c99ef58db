pub mod Answering
pub mod Beyond
pub mod Erasing
pub mod Meant
