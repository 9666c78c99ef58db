use Rattle.std.proofs.Common.{◌≡◌, Bool, true, false, ℕ, refl, if◌then◌else◌}
use Rattle.std.specs.Prelude.{IsFalse}
use Rattle.std.proofs.lemmas.Result.{IfOk-weaker}
use Rattle.sector_stock.specs.Takes.{is_short, work_of, urgent_work}
use Rattle.sector_map.proofs.steps.tidy_when_short.Goals as goal

none-urgent : (b : Bool) (w : ℕ) → w ≡ 0 → (if b then w else 0) ≡ 0
none-urgent true w e = e
none-urgent false w e = refl

pub returns-clause-none : goal.returns-clause-none
returns-clause-none g c =
    let m = (g.S.SlotCalls.state c.args.stock.now).memory in
    IfOk-weaker c.tidy_levelled.result (λ more. IsFalse more → work_of m ≡ 0) (λ more. IsFalse more → urgent_work m ≡ 0) (λ more h f. none-urgent (is_short m) (work_of m) (h f)) c.tidy_levelled.ensures.none
