use Rattle.std.proofs.Common.{◌≡◌, take}
use Rattle.nbd_share.specs.Locking.{AreMet}
use Rattle.nbd_share.proofs.chronicle.Chronicle.meet_all.Given as goal

abbrev pub invariant-loop-hand : goal.invariant-loop-hand
invariant-loop-hand g l = (l.self ≡ l.initial.self) × AreMet l.initial.self.rows (take l.hand-index l.hands)
