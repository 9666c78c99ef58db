-- What the calls of an erase make of the votes and entries that are left.
use Rattle.std.proofs.Common.{◌≡◌, ◌≢◌, ℕ, ◌+◌, ◌*◌, ◌<◌, ◌≤◌, true, false, List, [], ◌∷◌, length, refl, sym, ap, ◌∙◌, subst, arith, inl, inr, lit<, add-zero}
use Rattle.std.proofs.lemmas.Bool.{cases_eq}
use Rattle.chip_model.specs.Memory.{byte, erased, and_at}
use Rattle.nor_layout.specs.declared.journal.JournalId.{JournalId}
use Rattle.erase_journal.specs.declared.unused.Unused.{Unused}
use Rattle.erase_journal.specs.Places.{Spoiled, Changed}
use Rattle.erase_journal.specs.Votes.{IsLowestTired, once_erased}
use Rattle.erase_journal.specs.Journals.{entry_byte, is_free_entry, free_entries, unused}
use Rattle.erase_journal.specs.Steps.{SameNumbers, IsTaken, IsOpened}
use Rattle.erase_journal.specs.Spending.{Maintains, erases, once_used, IsUsed, KeepsUse}
use Rattle.erase_journal.proofs.Counts.{how_many-same}
use Rattle.erase_journal.proofs.Lasting.{same-on, same-unused}
use Rattle.erase_journal.proofs.Regions.{entry-kept, spoiled-below, spoiled-above, entries-below, entries-above}
use Rattle.erase_journal.proofs.Entries.{SameVotes, same-votes-entry, same-votes-data, same-votes-super, entry-elsewhere, free-change, not-free, state-is}
use Rattle.erase_journal.proofs.Effects.{erased-spoiled, program-changes}
use Rattle.erase_journal.proofs.EntryCalls.{state-open}

-- one erase of maintenance
pub maintains-on : (rest u v : Unused) (x : JournalId) → IsLowestTired x u → SameNumbers (once_erased x u) v → Maintains rest v → Maintains rest u
maintains-on rest u v x tired n h = erases u x tired (subst (λ w. Maintains rest w) (same-unused (once_erased x u) v n) h)

-- the numbers, where the votes are the same
counted : (m m' : List ℕ) (u : Unused) → SameVotes m m' → u ≡ record (unused m) { free = u.free } → free_entries m' ≡ u.free → SameNumbers u (unused m')
counted m m' u v is free = record {
  n01 = ap (λ v. v.unused) v.s1 ∙ sym (ap (λ w. w.j0_for_1) is);
  n02 = ap (λ v. v.unused) v.f2 ∙ sym (ap (λ w. w.j0_for_2) is);
  n10 = ap (λ v. v.unused) v.f0 ∙ sym (ap (λ w. w.j1_for_0) is);
  n12 = ap (λ v. v.unused) v.s2 ∙ sym (ap (λ w. w.j1_for_2) is);
  n20 = ap (λ v. v.unused) v.s0 ∙ sym (ap (λ w. w.j2_for_0) is);
  n21 = ap (λ v. v.unused) v.f1 ∙ sym (ap (λ w. w.j2_for_1) is);
  free = free;
}

free-elsewhere : (i : ℕ) (m m' : List ℕ) → Spoiled (6144 + 4 * i) 4 m m' → (k : ℕ) → k ≢ i → is_free_entry m' k ≡ is_free_entry m k
free-elsewhere i m m' s k other =
    let e = λ (j : ℕ) (h : j < 4). entry-elsewhere i m m' s k j other h in
    rw (e 0 (lit< tt), e 1 (lit< tt), e 2 (lit< tt), e 3 (lit< tt)) refl

pub spoiled-on : (at n : ℕ) (m m1 m2 : List ℕ) → Spoiled at n m m1 → Spoiled at n m1 m2 → Spoiled at n m m2
spoiled-on at n m m1 m2 a b = record {
  same_length = b.same_length ∙ a.same_length;
  below = λ k low. b.below k low ∙ a.below k low;
  above = λ k high. b.above k high ∙ a.above k high;
}

-- entry i is used
pub entry-gone : (i : ℕ) (m m' : List ℕ) → i < 512 → Spoiled (6144 + 4 * i) 4 m m' → is_free_entry m i ≡ true → is_free_entry m' i ≡ false → IsUsed i m m'
entry-gone i m m' low s free gone =
    let f = rw (free, gone) at (free-change i m m' low s) in
    let v = same-votes-entry (6144 + 4 * i) 4 m m' s (omega arith) (omega arith) in
    record {
      numbers = counted m m' (once_used (unused m)) v refl (omega arith);
      here = gone;
      others = λ k small other. free-elsewhere i m m' s k other;
    }

entry-used : (i : ℕ) (m m' : List ℕ) → i < 512 → Spoiled (6144 + 4 * i) 4 m m' → is_free_entry m i ≡ true → entry_byte m' i 0 ≢ 255 → IsUsed i m m'
entry-used i m m' low s free state = entry-gone i m m' low s free (not-free m' i state)

-- the entries are free that were, and no vote changed
pub entries-keep : (m m' : List ℕ) → SameVotes m m' → ((k : ℕ) → k < 512 → is_free_entry m' k ≡ is_free_entry m k) → KeepsUse m m'
unfolding free_entries
entries-keep m m' v each = record {
  numbers = counted m m' (unused m) v refl (how_many-same (is_free_entry m') (is_free_entry m) 512 each);
  entries = each;
}

-- it was in use
pub entry-stays : (i : ℕ) (m m' : List ℕ) → i < 512 → Spoiled (6144 + 4 * i) 4 m m' → entry_byte m i 0 ≢ 255 → entry_byte m' i 0 ≢ 255 → KeepsUse m m'
entry-stays i m m' low s was state =
    let before = not-free m i was in
    let after = not-free m' i state in
    let f = rw (before, after) at (free-change i m m' low s) in
    let v = same-votes-entry (6144 + 4 * i) 4 m m' s (omega arith) (omega arith) in
    record {
      numbers = counted m m' (unused m) v refl (omega arith);
      entries = λ k small. elim (cases_eq k i) [
        | inl same ↦ rw same (after ∙ sym before)
        | inr other ↦ free-elsewhere i m m' s k other
      ];
    }

-- a data block is made anything
pub data-keeps : (at n : ℕ) (m m' : List ℕ) → 16384 ≤ at → Spoiled at n m m' → KeepsUse m m'
data-keeps at n m m' low s =
    let e = entries-below at n m m' s (omega arith) in
    let b = entry-kept m m' (spoiled-below at n 6144 2048 m m' s (omega arith)) in
    record {
      numbers = counted m m' (unused m) (same-votes-data at n m m' s low) refl e.free;
      entries = λ k small. rw (b k 0 small (lit< tt), b k 1 small (lit< tt), b k 2 small (lit< tt), b k 3 small (lit< tt)) refl;
    }

-- the superblock is made anything
pub super-keeps : (at n : ℕ) (m m' : List ℕ) → at + n ≤ 4096 → Spoiled at n m m' → KeepsUse m m'
super-keeps at n m m' low s =
    let e = entries-above at n m m' s (omega arith) in
    let b = entry-kept m m' (spoiled-above at n 6144 2048 m m' s (omega arith)) in
    record {
      numbers = counted m m' (unused m) (same-votes-super at n m m' s low) refl e.free;
      entries = λ k small. rw (b k 0 small (lit< tt), b k 1 small (lit< tt), b k 2 small (lit< tt), b k 3 small (lit< tt)) refl;
    }

pub keeps-on : (m m1 m2 : List ℕ) → KeepsUse m m1 → KeepsUse m1 m2 → KeepsUse m m2
keeps-on m m1 m2 a b = record {
  numbers = same-on (unused m) (unused m1) (unused m2) a.numbers b.numbers;
  entries = λ k small. b.entries k small ∙ a.entries k small;
}

pub used-then : (i : ℕ) (m m1 m2 : List ℕ) → i < 512 → IsUsed i m m1 → KeepsUse m1 m2 → IsUsed i m m2
used-then i m m1 m2 low a b = record {
  numbers = same-on (once_used (unused m)) (unused m1) (unused m2) a.numbers b.numbers;
  here = b.entries i low ∙ a.here;
  others = λ k small other. b.entries k small ∙ a.others k small other;
}

one-byte : (i old new : ℕ) (m m' : List ℕ) → Changed (6144 + 4 * i) old new m m' → Spoiled (6144 + 4 * i) 4 m m'
one-byte i old new m m' h = record {
  same_length = h.same_length;
  below = λ k low. h.rest k (λ same. omega arith);
  above = λ k high. h.rest k (λ same. omega arith);
}

-- The calls.
pub opening-uses : (i c : ℕ) (m m1 m2 : List ℕ) → 16384 ≤ length m → i < 512 → is_free_entry m i ≡ true → IsTaken i c m m1 → m2 ≡ and_at m1 (6144 + 4 * i) (252 ∷ []) → IsUsed i m m2
opening-uses i c m m1 m2 long low free t e =
    let state : byte m1 (6144 + 4 * i) ≡ 254 = rw add-zero at t.state in
    let size = t.spoiled.same_length in
    let change : Changed (6144 + 4 * i) 254 252 m1 m2 = rw e (program-changes m1 (6144 + 4 * i) 254 252 (omega arith) state) in
    entry-used i m m2 low (spoiled-on (6144 + 4 * i) 4 m m1 m2 t.spoiled (one-byte i 254 252 m1 m2 change)) free (λ is. let s = state-is i 254 252 m1 m2 change in omega arith)

pub finishing-keeps : (i c : ℕ) (m m1 m2 : List ℕ) → 16384 ≤ length m → IsOpened i c m → 4 ≤ c → m1 ≡ erased m (4096 * c) 4096 → IsOpened i c m1
    → m2 ≡ and_at m1 (6144 + 4 * i) (248 ∷ []) → KeepsUse m m2
finishing-keeps i c m m1 m2 long o least e1 o1 e2 =
    let s : Spoiled (4096 * c) 4096 m m1 = rw e1 (erased-spoiled m (4096 * c) 4096) in
    let w = o.within in
    let size = s.same_length in
    let was = state-open m1 i o1.opened in
    let change : Changed (6144 + 4 * i) 252 248 m1 m2 = rw e2 (program-changes m1 (6144 + 4 * i) 252 248 (omega arith) (rw add-zero at was)) in
    keeps-on m m1 m2 (data-keeps (4096 * c) 4096 m m1 (omega arith) s)
    (entry-stays i m1 m2 w (one-byte i 252 248 m1 m2 change) (λ is. omega arith) (λ is. let n = state-is i 252 248 m1 m2 change in omega arith))
