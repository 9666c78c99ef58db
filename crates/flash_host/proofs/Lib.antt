pub mod Turns
pub mod ReadingBack
