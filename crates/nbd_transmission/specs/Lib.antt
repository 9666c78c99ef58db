pub mod Taking
pub mod Parser
pub use Rattle.nbd_wire.specs.Heads
pub use Rattle.nbd_wire.specs.Commands
pub use Rattle.nbd_wire.specs.Units
pub use Rattle.nbd_wire.specs.Parser as WireParser
pub mod Apply
