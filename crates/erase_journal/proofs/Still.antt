-- Calls that change no byte: whatever they answer, no bit becomes weak.
use Rattle.std.proofs.Common.{◌≡◌, ℕ, List, length, refl, sym, ap, ◌∙◌, arith, inl, inr}
use Rattle.std.specs.Prelude.{Result, Ok, Err, OnOk}
use Rattle.std.specs.Result.{IsErrOf}
use Rattle.std.specs.Int.{bit_at}
use Rattle.std.proofs.lemmas.Bool.{cases_eq}
use Rattle.std.proofs.lemmas.Nat.Bits.{bit_at-lt}
use Rattle.chip_model.specs.Memory.{byte, and_at}
use Rattle.chip_model.specs.Wavering.{Bits, Drawn}
use Rattle.nor_driver.specs.State.{Leaves, as_before, torn_in_it, changed_whole, TornProgramBits, program_bits, IsFirmer}
use Rattle.nor_driver.specs.declared.error.NorError.{NorError}
use Rattle.nor_driver.specs.declared.error.NorError.TheVariants as errors
use Rattle.nor_layout.specs.declared.journal.JournalId.TheVariants.{J0, J1, J2}
use Rattle.erase_journal.specs.declared.phase.ErasePhase.{ErasePhase}
use Rattle.erase_journal.specs.declared.phase.ErasePhase.TheVariants.{Idle, Asked, Doomed, Closing}
use Rattle.erase_journal.specs.Journals.{AreJournalsSound, IsSettled}
use Rattle.erase_journal.specs.Weak.{AreInterruptedAtEachDraw}
use Rattle.erase_journal.proofs.FirmJournals.{program-clears}
use Rattle.erase_journal.proofs.Losses.{differs-not}
use Rattle.erase_journal.proofs.Interrupted.{interrupted-same}
use Rattle.erase_journal.proofs.WeakLaws.{firm-stays}

pub firmer-same : (a b : Bits) → b.shown ≡ a.shown → ((i k : ℕ) → bit_at (byte b.weak i) k ≡ 1 → bit_at (byte a.weak i) k ≡ 1) → IsFirmer a b
firmer-same a b same fewer = record {
  weak = fewer;
  reads = λ i k x weak e. ap (λ (m : List ℕ). bit_at (byte m i) k) same ∙ e;
  zeros = λ i k j l weak here zero. ap (λ (m : List ℕ). bit_at (byte m j) l) same ∙ zero;
}

pub firmer-still : (a b : Bits) → b.shown ≡ a.shown → b.weak ≡ a.weak → IsFirmer a b
firmer-still a b same weak = firmer-same a b same (λ i k is. ap (λ (w : List ℕ). bit_at (byte w i) k) (sym weak) ∙ is)

-- a program of bytes as they read
and-fewer : (w : List ℕ) (at : ℕ) (bytes : List ℕ) (i k : ℕ) → bit_at (byte (and_at w at bytes) i) k ≡ 1 → bit_at (byte w i) k ≡ 1
and-fewer w at bytes i k one = elim (cases_eq (bit_at (byte w i) k) 1) [
  | inl is ↦ is
  | inr not ↦
      let two = bit_at-lt (byte w i) k in
      let zero = program-clears w at bytes i k (omega (arith, two, not)) in
      absurd (omega (arith, zero, one))
]

again-leaves : (a b : Bits) (at : ℕ) (bytes : List ℕ) → and_at a.shown at bytes ≡ a.shown → b.shown ≡ a.shown → Leaves a (TornProgramBits a at bytes) (program_bits a at bytes) b → IsFirmer a b
again-leaves a b at bytes is same (as_before e) = firmer-still a b same (ap (λ (x : Bits). x.weak) e)
again-leaves a b at bytes is same (torn_in_it t) = firmer-same a b same (λ i k one.
    sym (ap (λ x. bit_at x k) (ap (λ (w : List ℕ). byte w i) t.1 ∙ differs-not a.shown (and_at a.shown at bytes) a.weak i (ap (λ (m : List ℕ). byte m i) is))) ∙ one)
again-leaves a b at bytes is same (changed_whole e) = firmer-same a b same (λ i k one.
    and-fewer a.weak at bytes i k (sym (ap (λ (x : Bits). bit_at (byte x.weak i) k) e) ∙ one))

pub again-firmer : (a b : Bits) (at : ℕ) (bytes : List ℕ) (r : Result (Unit {0}) NorError) → and_at a.shown at bytes ≡ a.shown → b.shown ≡ a.shown
    → OnOk r (b ≡ program_bits a at bytes) → (IsErrOf r errors.Cut → Leaves a (TornProgramBits a at bytes) (program_bits a at bytes) b) → (IsErrOf r errors.Slow → b.weak ≡ a.weak) → IsFirmer a b
again-firmer a b at bytes (Ok x) is same ok cut slow = again-leaves a b at bytes is same (changed_whole ok)
again-firmer a b at bytes (Err errors.Cut) is same ok cut slow = again-leaves a b at bytes is same (cut refl)
again-firmer a b at bytes (Err errors.Slow) is same ok cut slow = firmer-still a b same (slow refl)

-- what is wanted at each draw holds where fewer bits are weak
pub fewer-interrupted : (a b : Bits) → IsFirmer a b → b.shown ≡ a.shown → AreInterruptedAtEachDraw a → AreInterruptedAtEachDraw b
fewer-interrupted a b f same h v d =
    let drawn : Drawn a.weak a.shown v = record {
      same_length = d.same_length ∙ ap (λ (m : List ℕ). length m) same;
      firm = λ i k zero. d.firm i k (firm-stays a b i k f zero) ∙ ap (λ (m : List ℕ). bit_at (byte m i) k) same;
    } in
    let x = h v drawn in
    (x.0, interrupted-same (record { shown = v; weak = a.weak }) (record { shown = v; weak = b.weak }) (firmer-same (record { shown = v; weak = a.weak }) (record { shown = v; weak = b.weak }) refl f.weak) refl x.1)

-- where no erase goes on the journals are in no other phase
pub settled-idle : (p : ErasePhase) (m : List ℕ) → IsSettled m → AreJournalsSound p m → p ≡ Idle
settled-idle Idle m h s = refl
settled-idle (Asked J0) m h s = (let a = s.phase.0.0 in let b = h.sound.phase.0.0.0 in absurd (omega (arith, a, b)))
settled-idle (Asked J1) m h s = (let a = s.phase.0.0 in let b = h.sound.phase.1.0.0 in absurd (omega (arith, a, b)))
settled-idle (Asked J2) m h s = (let a = s.phase.0.0 in let b = h.sound.phase.2.0.0 in absurd (omega (arith, a, b)))
settled-idle (Doomed J0) m h s = (let a = s.phase.0.0 in let b = h.sound.phase.0.0.0 in absurd (omega (arith, a, b)))
settled-idle (Doomed J1) m h s = (let a = s.phase.0.0 in let b = h.sound.phase.1.0.0 in absurd (omega (arith, a, b)))
settled-idle (Doomed J2) m h s = (let a = s.phase.0.0 in let b = h.sound.phase.2.0.0 in absurd (omega (arith, a, b)))
settled-idle (Closing J0) m h s = (let a = s.phase.1.0 in let b = h.sound.phase.0.1.0 in absurd (omega (arith, a, b)))
settled-idle (Closing J1) m h s = (let a = s.phase.1.0 in let b = h.sound.phase.1.1.0 in absurd (omega (arith, a, b)))
settled-idle (Closing J2) m h s = (let a = s.phase.1.0 in let b = h.sound.phase.2.1.0 in absurd (omega (arith, a, b)))
