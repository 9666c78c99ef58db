pub mod Programs
pub mod Clean
