pub mod Piecing
pub mod Mapping
