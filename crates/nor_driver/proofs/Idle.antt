-- The answer of a probe of an idle chip is known before its power comes anew.
use Rattle.std.proofs.Common.{◌≡◌, ℕ, true, refl, sym, ◌∙◌, Err, ◌⊎◌, inl, inr}
use Rattle.chip_model.specs.Chip.{Chip, is_idle}
use Rattle.chip_model.proofs.FrameLaws.{idle_not_setting}
use Rattle.nor_driver.specs.Steps.{Woken}
use Rattle.nor_driver.specs.Probe.{told, probe_answer, Probes}
use Rattle.nor_driver.specs.declared.error.ProbeError.{ProbeError}
use Rattle.nor_driver.specs.declared.error.ProbeError.TheVariants as refusals
use Rattle.nor_driver.proofs.Stays.{woken_answer}

pub answer_stays : (c new : Chip) → is_idle c.operation ≡ true → Woken c new → probe_answer (told new) ≡ probe_answer (told c)
answer_stays c new idle w = woken_answer c new (idle_not_setting c.operation idle) w

-- the refusals of a probe of an idle chip
pub refusal_stays : (e : ProbeError) (c new : Chip) (cuts slows cuts' slows' : ℕ) → is_idle c.operation ≡ true → Probes (Err e) c cuts slows new cuts' slows' → (e ≡ refusals.Cut) ⊎ (probe_answer (told c) ≡ Err e)
refusal_stays refusals.Cut c new cuts slows cuts' slows' i h = inl refl
refusal_stays refusals.Slow c new cuts slows cuts' slows' i h = absurd h
refusal_stays refusals.WrongId c new cuts slows cuts' slows' i h = inr (sym (h.0.table ∙ answer_stays c new i h.0.woken))
refusal_stays (refusals.Sfdp e) c new cuts slows cuts' slows' i h = inr (sym (h.0.table ∙ answer_stays c new i h.0.woken))
refusal_stays refusals.Protected c new cuts slows cuts' slows' i h = inr (sym (h.0.table ∙ answer_stays c new i h.0.woken))
