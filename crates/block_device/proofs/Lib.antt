mod Sectors
mod Sending
pub mod Streams
mod Standing
pub mod Receiving
