use Rattle.std.proofs.Common.{arith}
use Rattle.sector_rescue.proofs.Holding.{table-below, zeros-are}
use Rattle.sector_rescue.proofs.gathering.doubt_of.Goals as goal

pub given-requires-clause-zeros : goal.given-requires-clause-zeros
given-requires-clause-zeros c = zeros-are

pub given-requires-clause-below : goal.given-requires-clause-below
given-requires-clause-below c = table-below c.args.layout c.args.image.now _ c.args.table.now c.in-Holds.tag.number c.requires.table (omega (arith, c.requires.small c.in-Holds.tag c.in-Holds.is, c.requires.table.size))
