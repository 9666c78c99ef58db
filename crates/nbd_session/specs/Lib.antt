pub mod Parts
pub mod Lent
pub mod Sessions
pub mod Unknown
pub mod Lending
pub use Rattle.nbd_wire.specs.Heads
pub use Rattle.nbd_wire.specs.Commands
pub use Rattle.nbd_wire.specs.Options
pub use Rattle.nbd_wire.specs.Units
pub use Rattle.nbd_wire.specs.Parser as WireParser
pub use Rattle.nbd_handshake.specs.Greeting
pub use Rattle.nbd_handshake.specs.Negotiating
pub use Rattle.nbd_handshake.specs.Asked
pub use Rattle.nbd_transmission.specs.Apply
