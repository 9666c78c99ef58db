-- Byte 15 of the superblock is programmed.
use Rattle.std.proofs.Common.{◌≡◌, ℕ, ◌+◌, ◌*◌, ◌<◌, ◌≤◌, ◌⊎◌, List, [], ◌∷◌, length, refl, sym, ap, ◌∙◌, arith, inl, inr}
use Rattle.std.specs.Prelude.{Result, Ok, Err, OnOk}
use Rattle.std.specs.Result.{IsErrOf}
use Rattle.std.proofs.lemmas.Bool.{cases_lt}
use Rattle.chip_model.specs.Memory.{byte, and_at, TornAnd}
use Rattle.nor_driver.specs.State.{NorState, IsNorReady, AnswersWhatIsLatched, Leaves}
use Rattle.nor_driver.proofs.CallLaws.{first-or-ready, first-cut}
use Rattle.nor_driver.specs.declared.error.NorError.{NorError}
use Rattle.nor_driver.specs.declared.error.NorError.TheVariants as errors
use Rattle.erase_journal.specs.declared.phase.ErasePhase.TheVariants.{Idle}
use Rattle.erase_journal.specs.Places.{Spoiled}
use Rattle.erase_journal.specs.Journals.{IsSettled, IsHealthy}
use Rattle.erase_journal.specs.Blocks.{OnlySuper}
use Rattle.erase_journal.proofs.Regions.{spoiled-above}
use Rattle.erase_journal.proofs.Entries.{super-spoiled}
use Rattle.erase_journal.proofs.Blocks.{own-kept}
use Rattle.erase_journal.proofs.Data.{settled-own}
use Rattle.erase_journal.proofs.Effects.{and-spoiled, and-leaves, bit-open, program-changes, program-leaves}

super-settled : (at n : ℕ) (m m' : List ℕ) → IsSettled m → at + n ≤ 4096 → Spoiled at n m m' → IsSettled m'
super-settled at n m m' h low s = let d = super-spoiled at n m m' h.sound low s in record { sound = d.0; none = d.1.opened ∙ h.none }

super-only : (at : ℕ) (m m' : List ℕ) → IsSettled m → IsSettled m' → at < 4096 → Spoiled at 1 m m' → OnlySuper at m m'
super-only at m m' h h' low s = record {
  same_length = s.same_length;
  superblock = λ k inside other. elim (cases_lt k at) [ inl below ↦ s.below k below | inr above ↦ s.above k (omega (arith, above, other)) ];
  each = λ b from to. settled-own m' b h' ∙ (own-kept b m m' (spoiled-above at 1 (4096 * b) 4096 m m' s (omega arith)) s.same_length ∙ sym (settled-own m b h));
}

super-refl : (at : ℕ) (m m' : List ℕ) → m' ≡ m → OnlySuper at m m'
super-refl at m m' e = rw e (record { same_length = refl; superblock = λ k low other. refl; each = λ b from to. refl })

-- a program of byte 15, whatever it answered
module _ (old new : NorState) (h : IsNorReady old → IsSettled old.memory) where
  left : Leaves old.memory (TornAnd old.memory 15 (254 ∷ [])) (and_at old.memory 15 (254 ∷ [])) new.memory → Spoiled 15 1 old.memory new.memory
  left l = and-leaves old.memory 15 (254 ∷ []) new.memory l

  pub mark-settled : (r : Result (Unit {0}) NorError) → OnOk r (new.memory ≡ and_at old.memory 15 (254 ∷ [])) → OnOk r (IsNorReady old)
      → OnOk r (IsSettled new.memory)
  mark-settled (Ok x) e ready = super-settled 15 1 old.memory new.memory (h ready) (omega arith) (rw e (and-spoiled old.memory 15 (254 ∷ [])))
  mark-settled (Err e) p q = p

  pub mark-only : (r : Result (Unit {0}) NorError) → OnOk r (new.memory ≡ and_at old.memory 15 (254 ∷ [])) → OnOk r (IsNorReady old)
      → (IsErrOf r errors.Cut → Leaves old.memory (TornAnd old.memory 15 (254 ∷ [])) (and_at old.memory 15 (254 ∷ [])) new.memory)
      → (IsErrOf r errors.Slow → new.memory ≡ old.memory) → AnswersWhatIsLatched old r new → OnlySuper 15 old.memory new.memory
  mark-only (Ok x) e ready cut slow latches =
      let s : Spoiled 15 1 old.memory new.memory = rw e (and-spoiled old.memory 15 (254 ∷ [])) in
      super-only 15 old.memory new.memory (h ready) (super-settled 15 1 old.memory new.memory (h ready) (omega arith) s) (omega arith) s
  mark-only (Err errors.Cut) e ready cut slow latches = elim (first-or-ready errors.Cut old new (first-cut old new latches)) [
    | inl on ↦ super-only 15 old.memory new.memory (h on) (super-settled 15 1 old.memory new.memory (h on) (omega arith) (left (cut refl))) (omega arith) (left (cut refl))
    | inr same ↦ super-refl 15 old.memory new.memory (ap (λ s. s.memory) same)
  ]
  mark-only (Err errors.Slow) e ready cut slow latches = super-refl 15 old.memory new.memory (slow refl)

  pub mark-healthy : (r : Result (Unit {0}) NorError)
      → (IsErrOf r errors.Cut → Leaves old.memory (TornAnd old.memory 15 (254 ∷ [])) (and_at old.memory 15 (254 ∷ [])) new.memory)
      → AnswersWhatIsLatched old r new → IsErrOf r errors.Cut → IsHealthy old.memory → IsHealthy new.memory
  mark-healthy r cut latches is healthy = elim (first-or-ready errors.Cut old new (first-cut old new (rw is at latches))) [
    | inl on ↦ (Idle, (super-settled 15 1 old.memory new.memory (h on) (omega arith) (left (cut is))).sound)
    | inr same ↦ rw (ap (λ s. s.memory) same) healthy
  ]

-- the byte is programmed, or as it was
pub mark-ok : (m m' : List ℕ) → 15 < length m → m' ≡ and_at m 15 (254 ∷ []) → byte m 15 ≡ 255 → byte m' 15 ≡ 254
mark-ok m m' low e was = rw e (program-changes m 15 255 254 low was).is

pub mark-cut : (m m' : List ℕ) → 15 < length m → Leaves m (TornAnd m 15 (254 ∷ [])) (and_at m 15 (254 ∷ [])) m' → byte m 15 ≡ 255
    → (m' ≡ m) ⊎ (byte m' 15 ≡ 254)
mark-cut m m' low l was = elim (program-leaves 0 m 15 255 254 m' low was bit-open l) [ inl same ↦ inl same | inr changed ↦ inr changed.is ]
