-- What a failed end of protection leaves.
use Rattle.std.proofs.Common.{[], ◌∷◌, ◌≡◌, ℕ, ◌+◌, List, sym, ap, ◌∙◌, subst, Err}
use Rattle.std.proofs.lemmas.Bool.{true≢false}
use Rattle.chip_model.specs.Chip.{Chip, Operation, completed}
use Rattle.chip_model.specs.Cut.{Cut, TornMemory, TornProtection, weakened, with_power}
use Rattle.chip_model.specs.Frames.{with_polls}
use Rattle.nor_driver.specs.Steps.{Woken, Lost, fell, was_off, started, ChangeFails, ChangeInterrupted, not_begun, torn, whole, no_power}
use Rattle.nor_driver.specs.Unprotect.{probe_error, clearing, ClearingCut, before_it, in_it, after_it, Unprotects}
use Rattle.nor_driver.specs.declared.error.NorError.{NorError}
use Rattle.nor_driver.specs.declared.error.NorError.TheVariants as errors

-- a loss of power on a chip whose power came anew is one of the chip before
cut_again : (c off new : Chip) → Cut c off → Cut (with_power off) new → Cut c new
cut_again c off new k h =
    let m : new.memory ≡ off.memory = subst (λ (o : Operation). TornMemory o off.memory new.memory) k.operation h.memory in
    let p : new.protection ≡ off.protection = subst (λ (o : Operation). TornProtection o off.protection new.protection) k.operation h.protection in
    record {
      memory = subst (λ (x : List ℕ). TornMemory c.operation c.memory x) (sym m) k.memory;
      weak = h.weak ∙ (ap (λ (o : Operation). weakened o off.memory off.weak) k.operation ∙ k.weak);
      sfdp = h.sfdp ∙ k.sfdp;
      protection = subst (λ (x : ℕ). TornProtection c.operation c.protection x) (sym p) k.protection;
      status2 = h.status2 ∙ k.status2;
      status3 = h.status3 ∙ k.status3;
      enabled = h.enabled;
      operation = h.operation;
      polls = h.polls;
      powered = h.powered;
    }

cut_clearing : (c on new : Chip) (cuts cuts' : ℕ) → Woken c on → ChangeInterrupted on cuts (1 ∷ 0 ∷ []) new cuts' → ClearingCut c new × (cuts' ≡ cuts + 1)
cut_clearing c on new cuts cuts' w i = elim i [
  | not_begun p k n ↦ (before_it (cut_again c w.off new w.left (subst (λ (d : Chip). Cut d new) w.on k)), n)
  | torn p k n ↦ (in_it w.off w.left (subst (λ (d : Chip). Cut (started d (1 ∷ 0 ∷ [])) new) w.on k), n)
  | whole p k n ↦ (after_it w.off w.left (subst (λ (d : Chip). Cut (completed (started d (1 ∷ 0 ∷ []))) new) w.on k), n)
  | no_power off same n ↦ absurd (true≢false (sym (ap (λ (d : Chip). d.powered) w.on) ∙ off))
]

pub clearing_failed : (e : NorError) (c on new : Chip) (cuts slows cuts' slows' : ℕ) → Woken c on → ChangeFails e on cuts slows (1 ∷ 0 ∷ []) new cuts' slows'
    → Unprotects (Err (probe_error e)) c cuts slows new cuts' slows'
clearing_failed errors.Cut c on new cuts slows cuts' slows' w h = let k = cut_clearing c on new cuts cuts' w h.0 in (k.0, k.1, h.1)
clearing_failed errors.Slow c on new cuts slows cuts' slows' w h =
    (record { off = w.off; left = w.left; is = h.1 ∙ ap (λ (d : Chip). with_polls (started d (1 ∷ 0 ∷ [])) 65535) w.on }, h.2, h.3)

pub clearing_lost : (c on done new : Chip) (cuts cuts' : ℕ) → Woken c on → done ≡ completed (started on (1 ∷ 0 ∷ [])) → Lost done cuts new cuts' → ClearingCut c new × (cuts' ≡ cuts + 1)
clearing_lost c on done new cuts cuts' w is l =
    let e : done ≡ completed (clearing w.off) = is ∙ ap (λ (d : Chip). completed (started d (1 ∷ 0 ∷ []))) w.on in
    elim l [
      | fell p k n ↦ (after_it w.off w.left (subst (λ (d : Chip). Cut d new) e k), n)
      | was_off p same n ↦ absurd (true≢false (sym (ap (λ (d : Chip). d.powered) e) ∙ p))
    ]
