pub mod Numbers
pub mod Heads
pub mod Commands
pub mod Lent
pub mod Options
pub mod Units
pub mod Parser
pub use Rattle.byteorder.specs.Endian
