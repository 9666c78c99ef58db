pub mod Answered
pub mod Simulated
pub mod Lives
pub mod NextLife
pub mod Running
pub mod GroupChips
