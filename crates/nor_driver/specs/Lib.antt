pub mod State
pub mod Steps
pub mod Probe
pub mod Shown
pub mod Unprotect
