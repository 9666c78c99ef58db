use Rattle.std.proofs.Common.{◌-◌, ◌≤◌, ℕ, List, arith}
use Rattle.std.specs.Prelude.{Result, Ok, Err, OnErr}
use Rattle.chip_model.specs.Chip.{Chip}
use Rattle.chip_model.specs.Cut.{Loses, falls, was_off}
use Rattle.restored_disk.specs.Lives.{begun_at}
use Rattle.restored_disk.proofs.one_life.OneLifeSpiBus.transact.Goals as goal

-- a loss counts from anywhere before it
since : (c new : Chip) (base n n' : ℕ) (sent : List ℕ) → base ≤ n → Loses c n sent new n' → Loses c (n - base) sent new (n' - base)
since c new base n n' sent low (falls on inside more) = falls on inside (omega (arith, low, more))
since c new base n n' sent low (was_off off same kept) = was_off off same (omega (arith, kept))

on-err : {A E : Type 0} (r : Result A E) (P Q : Type 0) → (P → Q) → OnErr r P → OnErr r Q
on-err (Ok v) P Q f p = p
on-err (Err e) P Q f p = f p

pub returns-clause-lost : goal.returns-clause-lost
returns-clause-lost g c = on-err c.transact.result _ _ (since (g.B.SpiBus.chip c.args.self.now.bus) (g.B.SpiBus.chip c.transact.new.self) (begun_at g.B.SpiBus.cuts c.args.self.now.begun.items) (g.B.SpiBus.cuts c.args.self.now.bus) (g.B.SpiBus.cuts c.transact.new.self) c.args.send.now c.args.self.now.since) c.transact.ensures.lost
