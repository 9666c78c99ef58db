pub mod Attending
pub mod Ends
pub mod Sending
