pub mod Looking
pub mod Places
pub mod Founds
pub mod Replacing
pub mod Tables
pub mod Retiring
pub mod Grouping
pub mod MapSteps
pub mod Mounting
pub mod Marking
pub mod Following
pub mod MapCalls
pub mod Restoring
pub mod Mending
pub mod Voiding
pub mod Opening
pub mod Clearing
pub mod Leaving
pub mod KeepLosses
mod Pigeonhole
mod GroupRoom
pub mod Grouped
pub mod Evening
pub mod Zeroing
mod Alike
mod Moving
mod Renewal
pub mod Firmness
mod MountFirmly
pub mod FirmFilling
mod SetLosses
pub mod FirmMaps
mod FirmBegins
