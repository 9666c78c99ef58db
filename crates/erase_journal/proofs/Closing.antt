-- Entries of which none is open are programmed again, so that none can come to be open; and the lowest free one is given up.
use Rattle.std.proofs.Common.{◌≡◌, ◌≢◌, ℕ, ◌+◌, ◌-◌, ◌*◌, ◌<◌, ◌≤◌, ◌⊎◌, true, false, List, [], ◌∷◌, length, refl, sym, ap, ◌∙◌, arith, inl, inr, lit<}
use Rattle.std.specs.Prelude.{slice_range}
use Rattle.std.proofs.lemmas.Bool.{cases_lt}
use Rattle.std.proofs.lemmas.Bool.Decides.{nat_tests}
use Rattle.chip_model.specs.Memory.{byte, and_at, TornAnd}
use Rattle.nor_driver.specs.State.{Leaves}
use Rattle.erase_journal.specs.declared.phase.ErasePhase.TheVariants.{Idle}
use Rattle.erase_journal.specs.Places.{Spoiled, Changed}
use Rattle.erase_journal.specs.Firm.{LeavesEntry}
use Rattle.erase_journal.specs.Journals.{entry_byte, is_free_entry, is_open_entry, open_blocks, IsSettled}
use Rattle.erase_journal.specs.Blocks.{SameBlocks}
use Rattle.erase_journal.specs.Spending.{KeepsUse, IsUsed}
use Rattle.erase_journal.specs.Steps.{KeepsBlocks, IsRestful}
use Rattle.erase_journal.proofs.SameBytes.{leaves-here}
use Rattle.erase_journal.proofs.Blocks.{plain-none, plain-kept}
use Rattle.erase_journal.proofs.Opened.{none-open, none-blocks}
use Rattle.erase_journal.proofs.Data.{slice-byte}
use Rattle.erase_journal.proofs.Effects.{and-leaves, and-spoiled, program-changes}
use Rattle.erase_journal.proofs.Entries.{same-votes-entry, idle-moved, last-moved}
use Rattle.erase_journal.proofs.EntryCalls.{free-bytes, taken-settled, take-cut}
use Rattle.erase_journal.proofs.Uses.{entries-keep, entry-gone}

-- entry k keeps its first three bytes, and where it is free or its last byte isn't FFh that too
record KeepsEntry (k : ℕ) (m m' : List ℕ) : Type 0 where
  b0 : entry_byte m' k 0 ≡ entry_byte m k 0
  b1 : entry_byte m' k 1 ≡ entry_byte m k 1
  b2 : entry_byte m' k 2 ≡ entry_byte m k 2
  last : (entry_byte m' k 3 ≡ entry_byte m k 3) ⊎ ((entry_byte m k 3 ≡ 255) × (is_free_entry m k ≡ false))

keeps-free : (k : ℕ) (m m' : List ℕ) → KeepsEntry k m m' → is_free_entry m' k ≡ is_free_entry m k
keeps-free k m m' h = elim h.last [
  | inl same ↦ rw (h.b0, h.b1, h.b2, same) refl
  | inr used ↦ rw (h.b0, h.b1, h.b2) (let e = used.0 in let f = used.1 in grind (arith, nat_tests))
]

keeps-closed : (k : ℕ) (m m' : List ℕ) → length m' ≡ length m → KeepsEntry k m m' → is_open_entry m k ≡ false → is_open_entry m' k ≡ false
keeps-closed k m m' size h closed = elim h.last [
  | inl same ↦ rw (h.b0, h.b1, h.b2, same, size) closed
  | inr used ↦ rw (h.b0, h.b1, h.b2, size) (let e = used.0 in grind (arith, nat_tests))
]

still-none : (m m' : List ℕ) → open_blocks m ≡ 0 → ((k : ℕ) → k < 512 → is_open_entry m k ≡ false → is_open_entry m' k ≡ false) → open_blocks m' ≡ 0
still-none m m' none h = none-blocks m' (λ k low. h k low (none-open m none k low))

none-free : (m m' : List ℕ) → KeepsUse m m' → IsSettled m → Spoiled 6144 2048 m m' → open_blocks m' ≡ 0 → IsSettled m'
none-free m m' u h s none =
    let v = same-votes-entry 6144 2048 m m' s (omega arith) (omega arith) in
    record { sound = idle-moved m m' h.sound v (omega arith) (last-moved m m' h.sound v u.numbers.free); none = none }

pub record EntriesClosed (m m' : List ℕ) : Type 0 where
  pub uses : KeepsUse m m'
  pub settled : IsSettled m'
  pub same : SameBlocks m m'

entries-closed : (m m' : List ℕ) → IsSettled m → Spoiled 6144 2048 m m' → ((k : ℕ) → k < 512 → KeepsEntry k m m') → EntriesClosed m m'
entries-closed m m' h s each =
    let u = entries-keep m m' (same-votes-entry 6144 2048 m m' s (omega arith) (omega arith)) (λ k low. keeps-free k m m' (each k low)) in
    let none = still-none m m' h.none (λ k low. keeps-closed k m m' s.same_length (each k low)) in
    record { uses = u; settled = none-free m m' u h s none; same = plain-kept 6144 2048 m m' (plain-none m h.none) (plain-none m' none) s (omega arith) (omega arith) }

-- a page of 64 entries, programmed whole or torn
module _ (m b b' new : List ℕ) (p : ℕ) (page : p < 8) (long : 16384 ≤ length m) (read : b ≡ slice_range m (6144 + 256 * p) (6144 + 256 * p + 256)) (size : length b' ≡ 256)
    (left : (i : ℕ) → i < 64 → LeavesEntry i b b') (l : Leaves m (TornAnd m (6144 + 256 * p) b') (and_at m (6144 + 256 * p) b') new) where
  byte-read : (q : ℕ) → q < 256 → byte b q ≡ byte m (6144 + 256 * p + q)
  byte-read q low = ap (λ x. byte x q) read ∙ slice-byte m (6144 + 256 * p) 256 q low

  byte-left : (q : ℕ) → q < 256 → byte b' q ≡ byte b q → byte new (6144 + 256 * p + q) ≡ byte m (6144 + 256 * p + q)
  byte-left q low same = leaves-here m b' (6144 + 256 * p) q new (omega arith) (omega arith) (same ∙ byte-read q low) l

  page-spoiled : Spoiled (6144 + 256 * p) 256 m new
  page-spoiled = rw size at (and-leaves m (6144 + 256 * p) b' new l)

  entry-inside : (i : ℕ) → i < 64 → KeepsEntry (64 * p + i) m new
  entry-inside i low =
      let h = left i low in
      let at : (j : ℕ) → 6144 + 4 * (64 * p + i) + j ≡ 6144 + 256 * p + (4 * i + j) = λ j. omega arith in
      let keep : (j : ℕ) → j < 4 → byte b' (4 * i + j) ≡ byte b (4 * i + j) → entry_byte new (64 * p + i) j ≡ entry_byte m (64 * p + i) j =
      λ j small same. ap (λ x. byte new x) (at j) ∙ (byte-left (4 * i + j) (omega arith) same ∙ ap (λ x. byte m x) (sym (at j))) in
      let was : (j : ℕ) → j < 4 → entry_byte m (64 * p + i) j ≡ byte b (4 * i + j) = λ j small. ap (λ x. byte m x) (at j) ∙ sym (byte-read (4 * i + j) (omega arith)) in
      let zero : 4 * i + 0 ≡ 4 * i = omega arith in
      record {
        b0 = keep 0 (lit< tt) (rw zero h.b0);
        b1 = keep 1 (lit< tt) h.b1;
        b2 = keep 2 (lit< tt) h.b2;
        last = elim h.last [
          | inl same ↦ inl (keep 3 (lit< tt) same)
          | inr used ↦ inr (was 3 (lit< tt) ∙ used.0, rw (was 0 (lit< tt), was 1 (lit< tt), was 2 (lit< tt), was 3 (lit< tt), zero) used.1)
        ];
      }

  entry-outside : (k : ℕ) → (k < 64 * p) ⊎ (64 * p + 64 ≤ k) → (j : ℕ) → j < 4 → entry_byte new k j ≡ entry_byte m k j
  entry-outside k out j small = elim out [
    | inl low ↦ page-spoiled.below (6144 + 4 * k + j) (omega arith)
    | inr high ↦ page-spoiled.above (6144 + 4 * k + j) (omega arith)
  ]

  elsewhere : (k : ℕ) → (k < 64 * p) ⊎ (64 * p + 64 ≤ k) → KeepsEntry k m new
  elsewhere k out = record {
    b0 = entry-outside k out 0 (lit< tt);
    b1 = entry-outside k out 1 (lit< tt);
    b2 = entry-outside k out 2 (lit< tt);
    last = inl (entry-outside k out 3 (lit< tt));
  }

  each-entry : (k : ℕ) → k < 512 → KeepsEntry k m new
  each-entry k low = elim (cases_lt k (64 * p)) [
    | inl below ↦ elsewhere k (inl below)
    | inr from ↦ elim (cases_lt k (64 * p + 64)) [
      | inl inside ↦ let is : 64 * p + (k - 64 * p) ≡ k = omega arith in rw is at (entry-inside (k - 64 * p) (omega arith))
      | inr past ↦ elsewhere k (inr past)
    ]
  ]

  wide : Spoiled 6144 2048 m new
  wide = record {
    same_length = page-spoiled.same_length;
    below = λ k low. page-spoiled.below k (omega arith);
    above = λ k high. page-spoiled.above k (omega arith);
  }

  pub page-closed : IsSettled m → EntriesClosed m new
  page-closed h = entries-closed m new h wide each-entry

pub closed-cut : (m m' : List ℕ) → EntriesClosed m m' → KeepsBlocks m m'
closed-cut m m' h = record { healthy = (Idle, h.settled.sound); blocks = h.same }

-- The last byte of a free entry is programmed, whole or torn.
module _ (m : List ℕ) (i : ℕ) (long : 16384 ≤ length m) (small : i < 512) (free : is_free_entry m i ≡ true) where
  last-spoiled : (m' : List ℕ) → Spoiled (6144 + 4 * i + 3) 1 m m' → Spoiled (6144 + 4 * i) 4 m m'
  last-spoiled m' s = record { same_length = s.same_length; below = λ k low. s.below k (omega arith); above = λ k past. s.above k (omega arith) }

  first-kept : (m' : List ℕ) → Spoiled (6144 + 4 * i + 3) 1 m m' → entry_byte m' i 0 ≢ 252
  first-kept m' s is = let f = free-bytes m i free in let e = s.below (6144 + 4 * i + 0) (omega arith) in omega arith

  pub given-ok : (new : List ℕ) → IsRestful m → new ≡ and_at m (6144 + 4 * i + 3) (0 ∷ []) → IsSettled new × SameBlocks m new
  given-ok new r e =
      let s : Spoiled (6144 + 4 * i + 3) 1 m new = rw e (and-spoiled m (6144 + 4 * i + 3) (0 ∷ [])) in
      taken-settled i m new r small (last-spoiled new s) (first-kept new s)

  pub given-cut : (new : List ℕ) → IsRestful m → Leaves m (TornAnd m (6144 + 4 * i + 3) (0 ∷ [])) (and_at m (6144 + 4 * i + 3) (0 ∷ [])) new → KeepsBlocks m new
  given-cut new r l =
      let s = and-leaves m (6144 + 4 * i + 3) (0 ∷ []) new l in
      take-cut i m new r small (last-spoiled new s) (first-kept new s)

  pub given-used : (new : List ℕ) → new ≡ and_at m (6144 + 4 * i + 3) (0 ∷ []) → IsUsed i m new
  given-used new e =
      let s : Spoiled (6144 + 4 * i + 3) 1 m new = rw e (and-spoiled m (6144 + 4 * i + 3) (0 ∷ [])) in
      let change : Changed (6144 + 4 * i + 3) 255 0 m new = rw e (program-changes m (6144 + 4 * i + 3) 255 0 (omega arith) (free-bytes m i free).3) in
      let last : entry_byte new i 3 ≡ 0 = change.is in
      entry-gone i m new small (last-spoiled new s) free (grind (arith, nat_tests))

-- The same of the code's place of a page.
pub page-done : (m b b' new : List ℕ) (at p : ℕ) → at ≡ 6144 + 4 * (64 * p) → p < 8 → 16384 ≤ length m → b ≡ slice_range m at (at + 256) → length b' ≡ 256
    → ((i : ℕ) → i < 64 → LeavesEntry i b b') → IsSettled m → Leaves m (TornAnd m at b') (and_at m at b') new → EntriesClosed m new
page-done m b b' new at p place page long read size left h l =
    let is : at ≡ 6144 + 256 * p = omega arith in
    page-closed m b b' new p page long (rw is at read) size left (rw is at l) h
