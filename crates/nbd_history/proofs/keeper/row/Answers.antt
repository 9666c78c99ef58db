use Rattle.nbd_history.proofs.Cells.{kept_row}
use Rattle.nbd_history.proofs.keeper.row.Goals as goal

pub open_row-requires : goal.open_row-requires
open_row-requires g c = (kept_row g.E.OfHand.by c.args.count c.requires, λ xs. tt, c.alone.ensures.1)
