-- What leaves the answer of a probe as it was: all but a write of a status register.
use Rattle.std.proofs.Common.{◌≡◌, ℕ, Bool, false, not, cond, List, length, refl, sym, ap, ◌∙◌, subst, Result, Ok, Err, is_ok}
use Rattle.std.specs.Prelude.{OnOk, OnErr}
use Rattle.sfdp.specs.Params.{params_of}
use Rattle.sfdp.specs.declared.params.Params.{Params}
use Rattle.chip_model.specs.Chip.{Chip, is_setting}
use Rattle.chip_model.specs.Cut.{Cut}
use Rattle.chip_model.specs.Frames.{is_unprotected, id_from, status_1}
use Rattle.chip_model.proofs.FrameLaws.{KeepsShape, cut_shape}
use Rattle.nor_driver.specs.Steps.{Woken, Lost, fell, was_off}
use Rattle.nor_driver.specs.Probe.{told, is_served_id, is_unprotected_by, sized, unless_protected, probe_answer, IsAcceptedChip, Probes}
use Rattle.nor_driver.specs.declared.error.ProbeError.{ProbeError}
use Rattle.nor_driver.specs.declared.error.ProbeError.TheVariants as refusals
use Rattle.nor_driver.proofs.Survey.{free_open}

-- what a chip of so many bytes and with this table is known as
abbrev named : ℕ → List ℕ → Result Params ProbeError
named size table = cond (not (is_served_id 239 64 (id_from 9 16 size))) (Err refusals.WrongId) (sized (id_from 9 16 size) (params_of table))

same_answer : (c d : Chip) → length d.memory ≡ length c.memory → d.sfdp ≡ c.sfdp → is_unprotected d ≡ is_unprotected c → probe_answer (told d) ≡ probe_answer (told c)
same_answer c d m s o =
    let free : is_unprotected_by (status_1 d) d.status2 d.status3 ≡ is_unprotected_by (status_1 c) c.status2 c.status3 = free_open d ∙ (o ∙ sym (free_open c)) in
    ap (λ (b : Bool). unless_protected b (named (length d.memory) d.sfdp)) free
    ∙ (ap (λ (n : ℕ). unless_protected (is_unprotected_by (status_1 c) c.status2 c.status3) (named n d.sfdp)) m
    ∙ ap (λ (x : List ℕ). unless_protected (is_unprotected_by (status_1 c) c.status2 c.status3) (named (length c.memory) x)) s)

-- a chip of the same shape, with the same table
pub shape_answer : (c d : Chip) → KeepsShape c d → d.sfdp ≡ c.sfdp → probe_answer (told d) ≡ probe_answer (told c)
shape_answer c d k s =
    let o : is_unprotected d ≡ is_unprotected c = rw (k.protection, k.status2, k.status3) refl in
    same_answer c d k.size s o

pub cut_answer : (c new : Chip) → is_setting c.operation ≡ false → Cut c new → probe_answer (told new) ≡ probe_answer (told c)
cut_answer c new n k = shape_answer c new (cut_shape c new n k) k.sfdp

pub woken_answer : (c new : Chip) → is_setting c.operation ≡ false → Woken c new → probe_answer (told new) ≡ probe_answer (told c)
woken_answer c new n w = subst (λ (x : Chip). probe_answer (told x) ≡ probe_answer (told c)) (sym w.on) (cut_answer c w.off n w.left)

-- what a refused probe hands back tells what the chip told
pub refusal_tells : (e : ProbeError) (c new : Chip) (cuts slows cuts' slows' : ℕ) → is_setting c.operation ≡ false → Probes (Err e) c cuts slows new cuts' slows' → probe_answer (told new) ≡ probe_answer (told c)
refusal_tells refusals.Cut c new cuts slows cuts' slows' n h = cut_answer c new n h.0
refusal_tells refusals.Slow c new cuts slows cuts' slows' n h = absurd h
refusal_tells refusals.WrongId c new cuts slows cuts' slows' n h = woken_answer c new n h.0.woken
refusal_tells (refusals.Sfdp e) c new cuts slows cuts' slows' n h = woken_answer c new n h.0.woken
refusal_tells refusals.Protected c new cuts slows cuts' slows' n h = woken_answer c new n h.0.woken

-- so an accepted chip stays one
accepted_as : (c d : Chip) → probe_answer (told d) ≡ probe_answer (told c) → IsAcceptedChip c → IsAcceptedChip d
accepted_as c d e a = ap is_ok e ∙ a

pub accepted_shape : (c d : Chip) → KeepsShape c d → d.sfdp ≡ c.sfdp → IsAcceptedChip c → IsAcceptedChip d
accepted_shape c d k s a = accepted_as c d (shape_answer c d k s) a

pub accepted_cut : (c new : Chip) → is_setting c.operation ≡ false → Cut c new → IsAcceptedChip c → IsAcceptedChip new
accepted_cut c new n k a = accepted_as c new (cut_answer c new n k) a

pub accepted_woken : (c new : Chip) → is_setting c.operation ≡ false → Woken c new → IsAcceptedChip c → IsAcceptedChip new
accepted_woken c new n w a = accepted_as c new (woken_answer c new n w) a

pub accepted_lost : (c new : Chip) (cuts cuts' : ℕ) → is_setting c.operation ≡ false → Lost c cuts new cuts' → IsAcceptedChip c → IsAcceptedChip new
accepted_lost c new cuts cuts' n l a = elim l [
  | fell p k m ↦ accepted_cut c new n k a
  | was_off p same m ↦ subst (λ (x : Chip). IsAcceptedChip x) (sym same) a
]

-- after a frame that changes nothing, and after one that follows a new power, answered or not
pub accepted_asked : {T E : Type 0} (r : Result T E) (c new : Chip) (cuts cuts' : ℕ) → is_setting c.operation ≡ false → OnOk r (new ≡ c) → OnErr r (Lost c cuts new cuts')
    → IsAcceptedChip c → IsAcceptedChip new
accepted_asked (Ok x) c new cuts cuts' n same lost a = subst (λ (x : Chip). IsAcceptedChip x) (sym same) a
accepted_asked (Err e) c new cuts cuts' n same lost a = accepted_lost c new cuts cuts' n lost a

pub accepted_waked : {T E : Type 0} (r : Result T E) (c new : Chip) → is_setting c.operation ≡ false → OnOk r (Woken c new) → OnErr r (Cut c new) → IsAcceptedChip c → IsAcceptedChip new
accepted_waked (Ok x) c new n woken lost a = accepted_woken c new n woken a
accepted_waked (Err e) c new n woken lost a = accepted_cut c new n lost a
