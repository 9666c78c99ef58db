pub mod Rows
pub mod Word
pub mod Words
