use Rattle.std.proofs.Common.{◌+◌, ◌∷◌, List, [], ℕ, Result, Err, sym, ap, ◌∙◌, subst}
use Rattle.std.proofs.lemmas.Result.{err_from_is_err_and}
use Rattle.chip_model.specs.Chip.{completed}
use Rattle.nor_driver.specs.Steps.{ChangeFails, started}
use Rattle.nor_driver.specs.Unprotect.{Unprotects}
use Rattle.nor_driver.specs.declared.error.ProbeError.{ProbeError}
use Rattle.nor_driver.proofs.Clearing.{clearing_failed, clearing_lost}
use Rattle.nor_driver.proofs.protection.unprotect.Goals as goal

pub returns-in_err-change-clause-unprotects : goal.returns-in_err-change-clause-unprotects
returns-in_err-change-clause-unprotects g c =
    let e = err_from_is_err_and c.from_residual-in_err-change.result c.from_residual-in_err-change.ensures.1 in
    let frame = c.deref-2.ensures.0 ∙ c.write_status.ensures in
    let old = g.B.SpiBus.chip c.args.bus.now in
    let cuts = g.B.SpiBus.cuts c.args.bus.now in
    let slows = g.B.SpiBus.slows c.args.bus.now in
    let new = g.B.SpiBus.chip c.change.new.bus in
    let cuts' = g.B.SpiBus.cuts c.change.new.bus in
    let slows' = g.B.SpiBus.slows c.change.new.bus in
    let n = c.in_err-change.field-0.0 in
    let sent = subst (λ (s : List ℕ). ChangeFails n (g.B.SpiBus.chip c.wake.new.bus) (g.B.SpiBus.cuts c.wake.new.bus) (g.B.SpiBus.slows c.wake.new.bus) s new cuts' slows') frame c.in_err-change.ensures.err in
    let counted = subst (λ (k : ℕ). ChangeFails n (g.B.SpiBus.chip c.wake.new.bus) k (g.B.SpiBus.slows c.wake.new.bus) (1 ∷ 0 ∷ []) new cuts' slows') c.in_ok-wake.ensures.cuts sent in
    let told = subst (λ (k : ℕ). ChangeFails n (g.B.SpiBus.chip c.wake.new.bus) cuts k (1 ∷ 0 ∷ []) new cuts' slows') c.in_ok-wake.ensures.slows counted in
    subst (λ (r : Result (Unit {0}) ProbeError). Unprotects r old cuts slows new cuts' slows') (sym (e.1 ∙ ap (λ (x : ProbeError). Err x) e.2))
    (clearing_failed n old (g.B.SpiBus.chip c.wake.new.bus) new cuts slows cuts' slows' c.in_ok-wake.ensures.woken told)

pub returns-in_err-is_protected-clause-unprotects : goal.returns-in_err-is_protected-clause-unprotects
returns-in_err-is_protected-clause-unprotects g c =
    let e = err_from_is_err_and c.from_residual-in_err-is_protected.result c.from_residual-in_err-is_protected.ensures.1 in
    let frame = c.deref-2.ensures.0 ∙ c.write_status.ensures in
    let old = g.B.SpiBus.chip c.args.bus.now in
    let on = g.B.SpiBus.chip c.wake.new.bus in
    let done = g.B.SpiBus.chip c.change.new.bus in
    let new = g.B.SpiBus.chip c.is_protected.new.bus in
    let h = clearing_lost old on done new _ _ c.in_ok-wake.ensures.woken (c.in_ok-change.ensures.chip ∙ ap (λ (s : List ℕ). completed (started on s)) frame) c.in_err-is_protected.ensures.lost in
    let cuts = c.in_ok-change.ensures.cuts ∙ c.in_ok-wake.ensures.cuts in
    subst (λ (r : Result (Unit {0}) ProbeError). Unprotects r old (g.B.SpiBus.cuts c.args.bus.now) (g.B.SpiBus.slows c.args.bus.now) new (g.B.SpiBus.cuts c.is_protected.new.bus) (g.B.SpiBus.slows c.is_protected.new.bus))
    (sym (e.1 ∙ ap (λ (x : ProbeError). Err x) e.2))
    (h.0, h.1 ∙ ap (λ (n : ℕ). n + 1) cuts, c.is_protected.ensures.slows ∙ (c.in_ok-change.ensures.slows ∙ c.in_ok-wake.ensures.slows))
