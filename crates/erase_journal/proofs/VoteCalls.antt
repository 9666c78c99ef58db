-- A vote is opened or closed.
use Rattle.std.proofs.Common.{◌≡◌, ◌≢◌, ℕ, ◌+◌, ◌<◌, ◌≤◌, List, [], ◌∷◌, length, subst, arith, inl, inr}
use Rattle.std.specs.Prelude.{bit_and}
use Rattle.chip_model.specs.Memory.{byte, and_at, TornAnd}
use Rattle.chip_model.specs.Wavering.{Bits}
use Rattle.nor_driver.specs.State.{NorState, bits_in, Leaves, TornProgramBits, program_bits}
use Rattle.erase_journal.specs.Steps.{OneChanged, PerhapsChanged, VoteInterrupted, not_begun, done, in_it}
use Rattle.erase_journal.proofs.Drawing.{same-bits}
use Rattle.erase_journal.proofs.Effects.{program-leaves, program-changes, OneBit}

module _ (m mid new : List ℕ) (region place old value : ℕ) (same : mid ≡ m) (range : region + 1024 ≤ length m) (low : place < 1024) (was : byte m (region + place) ≡ old)
    (first : (k : ℕ) → k < place → byte m (region + k) ≢ old) where
  pub set-ok : new ≡ and_at mid (region + place) (value ∷ []) → OneChanged region old (bit_and old value) m new
  set-ok e = record { at = place; within = low; lowest = first; change = rw (e, same) (program-changes m (region + place) old value (omega arith) was) }

  pub set-cut : (j : ℕ) → OneBit j old (bit_and old value) → Leaves mid (TornAnd mid (region + place) (value ∷ [])) (and_at mid (region + place) (value ∷ [])) new
      → PerhapsChanged region old (bit_and old value) m new
  set-cut j one h = elim (program-leaves j m (region + place) old value new (omega arith) was one (rw same at h)) [
    | inl e ↦ not_begun e
    | inr c ↦ done (record { at = place; within = low; lowest = first; change = c })
  ]

-- and the bits, also where nothing was programmed yet
pub set-cut-bits : (a mid b : NorState) (region place old value : ℕ) → mid.memory ≡ a.memory → mid.weak ≡ a.weak → place < 1024 → byte a.memory (region + place) ≡ old → ((k : ℕ) → k < place → byte a.memory (region + k) ≢ old)
    → Leaves (bits_in mid) (TornProgramBits (bits_in mid) (region + place) (value ∷ [])) (program_bits (bits_in mid) (region + place) (value ∷ [])) (bits_in b) → VoteInterrupted region old value (bits_in a) (bits_in b)
set-cut-bits a mid b region place old value same weak low was first l =
    in_it place low was first (subst (λ (x : Bits). Leaves x (TornProgramBits x (region + place) (value ∷ [])) (program_bits x (region + place) (value ∷ [])) (bits_in b)) (same-bits mid.memory a.memory mid.weak a.weak same weak) l)
