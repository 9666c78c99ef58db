pub mod Greeting
pub mod Negotiating
pub mod Asked
pub mod Parser
pub mod Fronts
pub use Rattle.nbd_wire.specs.Options
pub use Rattle.nbd_wire.specs.Units
pub use Rattle.nbd_wire.specs.Parser as WireParser
