pub mod Frames
pub mod Instruction
