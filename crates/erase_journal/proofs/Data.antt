-- Bytes of a data block are read and programmed.
use Rattle.std.proofs.Common.{◌≡◌, ℕ, ◌+◌, ◌-◌, ◌*◌, ◌<◌, ◌≤◌, List, length, drop, get_or-take, get_or-drop, length-take, length-drop, refl, sym, ap, ◌∙◌, arith, inl, inr, add_assoc}
use Rattle.std.specs.Prelude.{slice_range, bit_and, Result, Ok, Err, OnOk}
use Rattle.std.specs.Result.{IsErrOf}
use Rattle.std.proofs.lemmas.Bool.{cases_lt}
use Rattle.std.proofs.lemmas.Grind.{same_number_lists}
use Rattle.chip_model.specs.Memory.{byte, and_at, TornAnd}
use Rattle.chip_model.specs.Parts.{part}
use Rattle.chip_model.proofs.PartLaws.{part-whole, get-part, part-placed, part-torn}
use Rattle.chip_model.specs.Geometry.{block_count}
use Rattle.nor_driver.specs.State.{NorState, IsNorReady, IsFirst, AnswersWhatIsLatched, Leaves, as_before, torn_in_it, changed_whole}
use Rattle.nor_driver.proofs.CallLaws.{first-or-ready, first-cut}
use Rattle.nor_driver.specs.declared.error.NorError.{NorError}
use Rattle.nor_driver.specs.declared.error.NorError.TheVariants as errors
use Rattle.erase_journal.specs.declared.phase.ErasePhase.TheVariants.{Idle}
use Rattle.erase_journal.specs.Places.{Spoiled}
use Rattle.erase_journal.specs.Journals.{IsSettled, IsHealthy}
use Rattle.erase_journal.specs.Blocks.{block, OnlyBlock}
use Rattle.erase_journal.proofs.Regions.{spoiled-below, spoiled-above}
use Rattle.erase_journal.proofs.Entries.{data-spoiled}
use Rattle.erase_journal.proofs.Blocks.{own-kept, chip-kept, plain-none}
use Rattle.erase_journal.proofs.Effects.{and-spoiled, and-leaves}

-- Where no erase goes on, each block represents its own bytes.
pub settled-own : (m : List ℕ) (b : ℕ) → IsSettled m → block m b ≡ part 4096 m b
settled-own m b h = (plain-none m h.none).own b

-- Bytes of a block.
pub slice-byte : (m : List ℕ) (a n k : ℕ) → k < n → byte (slice_range m a (a + n)) k ≡ byte m (a + k)
slice-byte m a n k low = let l : k < a + n - a = omega arith in rw (get_or-take, get_or-drop) refl

pub slice-length : (m : List ℕ) (a n : ℕ) → a + n ≤ length m → length (slice_range m a (a + n)) ≡ n
slice-length m a n fits = let e = length-take (a + n - a) (drop a m) in let d = length-drop a m in omega (arith, e, d)

own-range : (m : List ℕ) (b at n : ℕ) → at + n ≤ 4096 → 4096 * b + 4096 ≤ length m → slice_range m (4096 * b + at) (4096 * b + at + n) ≡ slice_range (part 4096 m b) at (at + n)
own-range m b at n small fits =
    let whole = part-whole 4096 m b fits in
    let long = slice-length m (4096 * b + at) n (omega arith) in
    same_number_lists (slice_range m (4096 * b + at) (4096 * b + at + n)) (slice_range (part 4096 m b) at (at + n))
    (long ∙ sym (slice-length (part 4096 m b) at n (omega (arith, whole))))
    (λ k low.
    let inner : k < n = omega (arith, long) in
    slice-byte m (4096 * b + at) n k inner ∙ (ap (λ i. byte m i) (add_assoc (4096 * b) at k)
    ∙ sym (slice-byte (part 4096 m b) at n k inner ∙ get-part 4096 m b (at + k) (omega arith))))

pub read-ok : (m into : List ℕ) (b at n : ℕ) → IsSettled m → at + n ≤ 4096 → b < block_count (length m)
    → into ≡ slice_range m (4096 * b + at) (4096 * b + at + n) → into ≡ slice_range (block m b) at (at + n)
read-ok m into b at n h small number e = e ∙ (own-range m b at n small (omega arith) ∙ ap (λ x. slice_range x at (at + n)) (sym (settled-own m b h)))

-- What a change of bytes of block b leaves.
data-settled : (at n : ℕ) (m m' : List ℕ) → IsSettled m → 16384 ≤ at → Spoiled at n m m' → IsSettled m'
data-settled at n m m' h low s = let d = data-spoiled at n m m' h.sound low s in record { sound = d.0; none = d.1.opened ∙ h.none }

data-only : (b at n : ℕ) (m m' : List ℕ) → IsSettled m → IsSettled m' → 4 ≤ b → at + n ≤ 4096 → Spoiled (4096 * b + at) n m m' → OnlyBlock b m m'
data-only b at n m m' h h' least small s = record {
  chip = chip-kept (4096 * b + at) n m m' s (omega arith);
  others = λ c from to other. settled-own m' c h' ∙ (own-kept c m m'
      (elim (cases_lt c b) [
        | inl below ↦ spoiled-below (4096 * b + at) n (4096 * c) 4096 m m' s (omega arith)
        | inr above ↦ spoiled-above (4096 * b + at) n (4096 * c) 4096 m m' s (omega arith)
      ]) s.same_length ∙ sym (settled-own m c h));
}

pub record Programmed (b at : ℕ) (bytes m m' : List ℕ) : Type 0 where
  pub settled : IsSettled m'
  pub only : OnlyBlock b m m'
  pub bytes_of : block m' b ≡ and_at (block m b) at bytes

pub program-ok : (b at : ℕ) (bytes m m' : List ℕ) → IsSettled m → 4 ≤ b → b < block_count (length m) → at + length bytes ≤ 4096
    → m' ≡ and_at m (4096 * b + at) bytes → Programmed b at bytes m m'
program-ok b at bytes m m' h least number small e =
    let s : Spoiled (4096 * b + at) (length bytes) m m' = rw e (and-spoiled m (4096 * b + at) bytes) in
    let h' = data-settled (4096 * b + at) (length bytes) m m' h (omega arith) s in
    record {
      settled = h';
      only = data-only b at (length bytes) m m' h h' least small s;
      bytes_of = settled-own m' b h' ∙ (ap (λ x. part 4096 x b) e ∙ (part-placed bit_and 4096 m b at bytes (omega arith) ∙ ap (λ x. and_at x at bytes) (sym (settled-own m b h))));
    }

pub record ProgramCut (b at : ℕ) (bytes m m' : List ℕ) : Type 0 where
  pub settled : IsSettled m'
  pub only : OnlyBlock b m m'
  pub leaves : Leaves (block m b) (TornAnd (block m b) at bytes) (and_at (block m b) at bytes) (block m' b)

leaves-part : (b at : ℕ) (bytes m m' : List ℕ) → 4096 * b + 4096 ≤ length m → Leaves m (TornAnd m (4096 * b + at) bytes) (and_at m (4096 * b + at) bytes) m'
    → Leaves (part 4096 m b) (TornAnd (part 4096 m b) at bytes) (and_at (part 4096 m b) at bytes) (part 4096 m' b)
leaves-part b at bytes m m' fits (as_before e) = as_before (ap (λ x. part 4096 x b) e)
leaves-part b at bytes m m' fits (torn_in_it t) = torn_in_it (part-torn bit_and 4096 m b at bytes m' fits t)
leaves-part b at bytes m m' fits (changed_whole e) = changed_whole (ap (λ x. part 4096 x b) e ∙ part-placed bit_and 4096 m b at bytes fits)

pub program-cut : (b at : ℕ) (bytes m m' : List ℕ) → IsSettled m → 4 ≤ b → b < block_count (length m) → at + length bytes ≤ 4096
    → Leaves m (TornAnd m (4096 * b + at) bytes) (and_at m (4096 * b + at) bytes) m' → ProgramCut b at bytes m m'
program-cut b at bytes m m' h least number small l =
    let s = and-leaves m (4096 * b + at) bytes m' l in
    let h' = data-settled (4096 * b + at) (length bytes) m m' h (omega arith) s in
    record {
      settled = h';
      only = data-only b at (length bytes) m m' h h' least small s;
      leaves = rw (settled-own m b h, settled-own m' b h') (leaves-part b at bytes m m' (omega arith) l);
    }

-- a memory against itself
pub only-refl : (b : ℕ) (m m' : List ℕ) → m' ≡ m → OnlyBlock b m m'
only-refl b m m' e = rw e (record { chip = record { same_length = refl; superblock = λ k low. refl }; others = λ c from to other. refl })

module _ (old new : NorState) (b at : ℕ) (bytes : List ℕ) (h : IsNorReady old → IsSettled old.memory) (least : 4 ≤ b) (number : b < block_count (length old.memory))
    (small : at + length bytes ≤ 4096) where
  -- a program of block b that was cut
  pub cut-leaves : IsFirst errors.Cut old new → Leaves old.memory (TornAnd old.memory (4096 * b + at) bytes) (and_at old.memory (4096 * b + at) bytes) new.memory
      → Leaves (block old.memory b) (TornAnd (block old.memory b) at bytes) (and_at (block old.memory b) at bytes) (block new.memory b)
  cut-leaves f l = elim (first-or-ready errors.Cut old new f) [
    | inl ready ↦ (program-cut b at bytes old.memory new.memory (h ready) least number small l).leaves
    | inr same ↦ as_before (ap (λ s. block s.memory b) same)
  ]

  pub cut-only : IsFirst errors.Cut old new → Leaves old.memory (TornAnd old.memory (4096 * b + at) bytes) (and_at old.memory (4096 * b + at) bytes) new.memory
      → OnlyBlock b old.memory new.memory
  cut-only f l = elim (first-or-ready errors.Cut old new f) [
    | inl ready ↦ (program-cut b at bytes old.memory new.memory (h ready) least number small l).only
    | inr same ↦ only-refl b old.memory new.memory (ap (λ s. s.memory) same)
  ]

  pub cut-healthy : IsFirst errors.Cut old new → Leaves old.memory (TornAnd old.memory (4096 * b + at) bytes) (and_at old.memory (4096 * b + at) bytes) new.memory
      → IsHealthy old.memory → IsHealthy new.memory
  cut-healthy f l healthy = elim (first-or-ready errors.Cut old new f) [
    | inl ready ↦ (Idle, (program-cut b at bytes old.memory new.memory (h ready) least number small l).settled.sound)
    | inr same ↦ rw (ap (λ s. s.memory) same) healthy
  ]

-- a program of block b, whatever it answered
module _ (old new : NorState) (b at : ℕ) (bytes : List ℕ) (h : IsNorReady old → IsSettled old.memory) (least : 4 ≤ b) (number : b < block_count (length old.memory))
    (small : at + length bytes ≤ 4096) where
  pub program-bytes : (r : Result (Unit {0}) NorError) → OnOk r (new.memory ≡ and_at old.memory (4096 * b + at) bytes) → OnOk r (IsNorReady old)
      → OnOk r (block new.memory b ≡ and_at (block old.memory b) at bytes)
  program-bytes (Ok x) e ready = (program-ok b at bytes old.memory new.memory (h ready) least number small e).bytes_of
  program-bytes (Err e) p q = p

  pub program-settled : (r : Result (Unit {0}) NorError) → OnOk r (new.memory ≡ and_at old.memory (4096 * b + at) bytes) → OnOk r (IsNorReady old)
      → OnOk r (IsSettled new.memory)
  program-settled (Ok x) e ready = (program-ok b at bytes old.memory new.memory (h ready) least number small e).settled
  program-settled (Err e) p q = p

  pub program-only : (r : Result (Unit {0}) NorError) → OnOk r (new.memory ≡ and_at old.memory (4096 * b + at) bytes) → OnOk r (IsNorReady old)
      → (IsErrOf r errors.Cut → Leaves old.memory (TornAnd old.memory (4096 * b + at) bytes) (and_at old.memory (4096 * b + at) bytes) new.memory)
      → (IsErrOf r errors.Slow → new.memory ≡ old.memory) → AnswersWhatIsLatched old r new → OnlyBlock b old.memory new.memory
  program-only (Ok x) e ready cut slow latches = (program-ok b at bytes old.memory new.memory (h ready) least number small e).only
  program-only (Err errors.Cut) e ready cut slow latches = cut-only old new b at bytes h least number small (first-cut old new latches) (cut refl)
  program-only (Err errors.Slow) e ready cut slow latches = only-refl b old.memory new.memory (slow refl)

  pub program-leaves : (r : Result (Unit {0}) NorError)
      → (IsErrOf r errors.Cut → Leaves old.memory (TornAnd old.memory (4096 * b + at) bytes) (and_at old.memory (4096 * b + at) bytes) new.memory)
      → AnswersWhatIsLatched old r new → IsErrOf r errors.Cut → Leaves (block old.memory b) (TornAnd (block old.memory b) at bytes) (and_at (block old.memory b) at bytes) (block new.memory b)
  program-leaves r cut latches is = cut-leaves old new b at bytes h least number small (first-cut old new (rw is at latches)) (cut is)

  pub program-healthy : (r : Result (Unit {0}) NorError)
      → (IsErrOf r errors.Cut → Leaves old.memory (TornAnd old.memory (4096 * b + at) bytes) (and_at old.memory (4096 * b + at) bytes) new.memory)
      → AnswersWhatIsLatched old r new → IsErrOf r errors.Cut → IsHealthy old.memory → IsHealthy new.memory
  program-healthy r cut latches is = cut-healthy old new b at bytes h least number small (first-cut old new (rw is at latches)) (cut is)
