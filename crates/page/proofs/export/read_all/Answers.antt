use Rattle.std.proofs.Common.{arith}
use Rattle.page.proofs.export.read_all.Goals as goal

pub read-requires : goal.read-requires
read-requires g c = record { within = omega (arith, c.requires.room, c.requires.size); whole = (70, c.requires.room) }
