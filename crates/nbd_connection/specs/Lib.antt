pub use Rattle.nbd_wire.specs.Commands
pub use Rattle.nbd_wire.specs.Lent
pub use Rattle.nbd_transmission.specs.Apply
pub use Rattle.nbd_session.specs.Sessions
pub use Rattle.nbd_session.specs.Parts
pub use Rattle.block_device.specs.Facts
pub mod Effects
pub mod Turning
