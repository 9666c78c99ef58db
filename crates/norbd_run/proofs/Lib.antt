pub mod Differing
pub mod Opening
pub mod Refusals
pub mod Sizes
pub mod Lines
pub mod Settling
