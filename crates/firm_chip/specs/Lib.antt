pub mod FirmChips
pub mod Draws
pub mod Losses
pub mod Stores
pub mod Fit
