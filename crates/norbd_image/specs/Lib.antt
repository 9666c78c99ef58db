pub mod Both
pub mod Image
pub mod Mended
