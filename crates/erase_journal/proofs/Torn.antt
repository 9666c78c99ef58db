-- What calls leave of the bits of data blocks, also where the power goes.
use Rattle.std.proofs.Common.{◌≡◌, ℕ, ◌+◌, ◌*◌, ◌<◌, ◌≤◌, ◌⊎◌, List, length, refl, sym, ap, ◌∙◌, arith, inl, inr, Bool, true, false}
use Rattle.std.specs.Prelude.{Result, Ok, Err, OnOk, IsErrOf}
use Rattle.std.proofs.lemmas.Nat.Bits.{same_from_bits}
use Rattle.std.proofs.lemmas.Bool.Decides.{nat_tests}
use Rattle.chip_model.specs.Memory.{byte}
use Rattle.chip_model.specs.Parts.{part}
use Rattle.chip_model.specs.Wavering.{Bits, Drawn}
use Rattle.chip_model.proofs.MemoryLaws.{not-within-above, not-within-below}
use Rattle.chip_model.proofs.PartLaws.{get-part}
use Rattle.nor_driver.specs.State.{NorState, bits_in, Leaves, changed_whole, TornProgramBits, program_bits, TornEraseBits, erase_bits}
use Rattle.nor_driver.specs.declared.error.NorError.{NorError}
use Rattle.nor_driver.specs.declared.error.NorError.TheVariants as errors
use Rattle.nor_layout.specs.declared.journal.JournalId.{JournalId}
use Rattle.nor_layout.specs.declared.journal.JournalId.TheVariants.{J0, J1, J2}
use Rattle.nor_layout.specs.Journals.{first_at, second_at, journal_at}
use Rattle.erase_journal.specs.Blocks.{blank, is_opened}
use Rattle.erase_journal.specs.Journals.{IsSettled}
use Rattle.erase_journal.specs.Recovery.{seen}
use Rattle.erase_journal.specs.Steps.{IsOpened}
use Rattle.erase_journal.specs.Torn.{SameAt, SameData, BlockInterrupted, as_it_was, opened, is_erased}
use Rattle.erase_journal.specs.Weak.{AreFirm, AreFirmJournals}
use Rattle.erase_journal.proofs.Drawing.{read_as, erase-beside, erase-drawn, erase-weak-beside}
use Rattle.erase_journal.proofs.Losses.{program-beside}
use Rattle.erase_journal.proofs.BlockLaws.{byte-blank}
use Rattle.erase_journal.proofs.EntryCalls.{block-spoiled, opened-named}
use Rattle.erase_journal.proofs.EntryCuts.{opened-as}

pub same-after : (a b c : Bits) (i : ℕ) → SameAt a b i → SameAt b c i → SameAt a c i
same-after a b c i s t = (t.0 ∙ s.0, t.1 ∙ s.1)

-- the bytes of a call that failed or answered Ok, beside those that it programs
pub program-aside : (r : Result (Unit {0}) NorError) (a b : NorState) (at : ℕ) (bytes : List ℕ) → OnOk r (bits_in b ≡ program_bits (bits_in a) at bytes)
    → (IsErrOf r errors.Cut → Leaves (bits_in a) (TornProgramBits (bits_in a) at bytes) (program_bits (bits_in a) at bytes) (bits_in b))
    → (IsErrOf r errors.Slow → b.memory ≡ a.memory) → (IsErrOf r errors.Slow → b.weak ≡ a.weak) → (i : ℕ) → (i < at) ⊎ (at + length bytes ≤ i) → SameAt (bits_in a) (bits_in b) i
program-aside (Ok x) a b at bytes done cut slow weak i out = program-beside (bits_in a) (bits_in b) at bytes (changed_whole done) i out
program-aside (Err errors.Cut) a b at bytes done cut slow weak i out = program-beside (bits_in a) (bits_in b) at bytes (cut refl) i out
program-aside (Err errors.Slow) a b at bytes done cut slow weak i out = (ap (λ m. byte m i) (slow refl), ap (λ m. byte m i) (weak refl))

shown-aside : (a b : Bits) (at size : ℕ) → Leaves a (TornEraseBits a at size) (erase_bits a at size) b → (i : ℕ) → (i < at) ⊎ (at + size ≤ i) → byte b.shown i ≡ byte a.shown i
shown-aside a b at size l i out = same_from_bits (byte b.shown i) (byte a.shown i) (λ k. (erase-beside a b at size l i k (elim out [ inl low ↦ not-within-below at size i low | inr high ↦ not-within-above at size i high ])).0)

-- beside those that it erases
pub erase-aside : (r : Result (Unit {0}) NorError) (a b : NorState) (at size : ℕ) → OnOk r (bits_in b ≡ erase_bits (bits_in a) at size)
    → (IsErrOf r errors.Cut → Leaves (bits_in a) (TornEraseBits (bits_in a) at size) (erase_bits (bits_in a) at size) (bits_in b))
    → (IsErrOf r errors.Slow → b.memory ≡ a.memory) → (IsErrOf r errors.Slow → b.weak ≡ a.weak) → (i : ℕ) → (i < at) ⊎ (at + size ≤ i) → SameAt (bits_in a) (bits_in b) i
erase-aside (Ok x) a b at size done cut slow weak i out = (shown-aside (bits_in a) (bits_in b) at size (changed_whole done) i out, erase-weak-beside (bits_in a) (bits_in b) at size (changed_whole done) i out)
erase-aside (Err errors.Cut) a b at size done cut slow weak i out = (shown-aside (bits_in a) (bits_in b) at size (cut refl) i out, erase-weak-beside (bits_in a) (bits_in b) at size (cut refl) i out)
erase-aside (Err errors.Slow) a b at size done cut slow weak i out = (ap (λ m. byte m i) (slow refl), ap (λ m. byte m i) (weak refl))

-- the votes lie below the data blocks
pub votes-below : (x : JournalId) → (first_at x + 1024 ≤ 16384) × (second_at x + 1024 ≤ 16384)
votes-below J0 = (omega arith, omega arith)
votes-below J1 = (omega arith, omega arith)
votes-below J2 = (omega arith, omega arith)

pub journals-below : (x : JournalId) → journal_at x + 4096 ≤ 16384
journals-below J0 = omega arith
journals-below J1 = omega arith
journals-below J2 = omega arith

opened-is : (m : List ℕ) (i c : ℕ) → IsOpened i c m → is_opened m c ≡ true
opened-is m i c o = let some = opened-named i c m o in let p = o.sound.phase in grind (arith, nat_tests)

-- While the entry of a block is open, an erase of the block leaves it open, whatever is read.
pub erase-opened : (a b : Bits) → AreFirmJournals a → (i c : ℕ) → IsOpened i c a.shown → 4 ≤ c → Leaves a (TornEraseBits a (4096 * c) 4096) (erase_bits a (4096 * c) 4096) b → (v : List ℕ) → Drawn b.weak b.shown v → is_opened v c ≡ true
erase-opened a b h i c o least l v w = opened-is v i c (block-spoiled i c (read_as v a.weak a.shown) v (opened-as a h v i c o) least (erase-drawn a b (4096 * c) 4096 v l w)).0

-- A block that was erased, once a program beside it was interrupted.
pub erased-interrupted : (a b c : Bits) (n : ℕ) → 4 ≤ n → 4096 * n + 4096 ≤ length b.shown → part 4096 b.shown n ≡ blank → AreFirm b.weak (4096 * n) 4096 → SameData b c → BlockInterrupted n a c
erased-interrupted a b c n least long is firm same = is_erased
    (λ k low. (same (4096 * n + k) (omega (arith, least))).0 ∙ (sym (get-part 4096 b.shown n k low) ∙ (ap (λ x. byte x k) is ∙ byte-blank k low)))
    (λ k low. (same (4096 * n + k) (omega (arith, least))).1 ∙ firm k low)

-- What an erase leaves, after what leaves the data blocks as they were.
pub interrupted-since : (a b c : Bits) (n : ℕ) → 4 ≤ n → SameData a b → BlockInterrupted n b c → BlockInterrupted n a c
interrupted-since a b c n least same (as_it_was s) = as_it_was (λ k low. same-after a b c (4096 * n + k) (same (4096 * n + k) (omega (arith, least))) (s k low))
interrupted-since a b c n least same (opened o) = opened o
interrupted-since a b c n least same (is_erased e f) = is_erased e f

-- what a journal shows of an erase
pub seen-interrupted : (sound : Bool) (n : ℕ) (a b : NorState) → (IsSettled a.memory → AreFirmJournals (bits_in a) → BlockInterrupted n (bits_in a) (bits_in b)) → IsSettled (seen sound a).memory → AreFirmJournals (bits_in (seen sound a)) → BlockInterrupted n (bits_in (seen sound a)) (bits_in (seen sound b))
seen-interrupted true n a b h = h
seen-interrupted false n a b h = h
