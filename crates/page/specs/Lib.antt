pub mod Tape
pub mod Story
pub mod Steps
