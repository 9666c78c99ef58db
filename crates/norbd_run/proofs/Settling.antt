-- The steps of a settling, one after another.
use Rattle.std.proofs.Common.{◌≡◌, ◌+◌, ◌-◌, ◌<◌, ℕ, zero, suc, List, arith, refl, subst}
use Rattle.erase_journal.specs.Journals.{unused}
use Rattle.erase_journal.specs.Renewal.{RenewsAll}
use Rattle.sector_slots.specs.Slots.{IsSpareIn}
use Rattle.norbd_run.specs.Settling.{StepRenews, StepsRenew}

this-step : (step : ℕ) (old new : List ℕ) → (step ≡ 0 → RenewsAll (unused old) (unused new)) → (0 < step → IsSpareIn new (step - 1)) → StepRenews step old new
this-step zero old new journals block = journals refl
this-step (suc b) old new journals block =
    let e : suc b - 1 ≡ b = omega arith in
    let some : 0 < suc b = omega arith in
    subst (λ x. IsSpareIn new x) e (block some)

is_next : (n : ℕ) → suc n ≡ n + 1
is_next n = omega arith

-- one more step
pub next-step : (step : ℕ) (first old new : List ℕ) → StepsRenew step first old → (step ≡ 0 → RenewsAll (unused old) (unused new)) → (0 < step → IsSpareIn new (step - 1)) → StepsRenew (step + 1) first new
next-step step first old new before journals block = subst (λ n. StepsRenew n first new) (is_next step) (old, before, this-step step old new journals block)
