-- The steps of an erase of a data block leave the journals sound.
use Rattle.std.proofs.Common.{◌≡◌, ◌≢◌, ℕ, ◌+◌, ◌*◌, ◌<◌, ◌≤◌, Bool, true, false, ◌&&◌, List, length, refl, sym, ap, ◌∙◌, arith, inl, inr, lit<, if◌then◌else◌, add-zero}
use Rattle.std.proofs.lemmas.Bool.{cases_lt, cases_eq}
use Rattle.std.proofs.lemmas.Bool.Decides.{nat_tests}
use Rattle.std.specs.Prelude.{◌==◌}
use Rattle.erase_journal.specs.Places.{Spoiled, Changed}
use Rattle.nor_layout.specs.declared.journal.JournalId.TheVariants.{J0, J1, J2}
use Rattle.erase_journal.specs.declared.phase.ErasePhase.TheVariants.{Idle}
use Rattle.erase_journal.specs.Votes.{IsRested, Last}
use Rattle.erase_journal.specs.Journals.{votes_at, unused, free_entries, open_blocks, entries_for, entry_byte, entry_block, is_free_entry, is_open_entry, AreJournalsSound}
use Rattle.erase_journal.specs.Spending.{once_used}
use Rattle.erase_journal.proofs.Counts.{how_many-change, how_many-same}
use Rattle.erase_journal.proofs.Opened.{none-open, none-blocks, one-block, same-block}
use Rattle.erase_journal.proofs.Regions.{SameEntries, blocks-named, votes-below, votes-above, entries-below, entries-above}
use Rattle.erase_journal.proofs.Lasting.{Last-moved, Last-rested}

-- no vote changed
pub record SameVotes (m m' : List ℕ) : Type 0 where
  pub f0 : votes_at m' 9216 ≡ votes_at m 9216
  pub s0 : votes_at m' 12288 ≡ votes_at m 12288
  pub f1 : votes_at m' 13312 ≡ votes_at m 13312
  pub s1 : votes_at m' 4096 ≡ votes_at m 4096
  pub f2 : votes_at m' 5120 ≡ votes_at m 5120
  pub s2 : votes_at m' 8192 ≡ votes_at m 8192

pub same-votes-entry : (at n : ℕ) (m m' : List ℕ) → Spoiled at n m m' → 6144 ≤ at → at + n ≤ 8192 → SameVotes m m'
same-votes-entry at n m m' s low high = record {
  f0 = votes-above 9216 at n m m' s (omega arith);
  s0 = votes-above 12288 at n m m' s (omega arith);
  f1 = votes-above 13312 at n m m' s (omega arith);
  s1 = votes-below 4096 at n m m' s (omega arith);
  f2 = votes-below 5120 at n m m' s (omega arith);
  s2 = votes-above 8192 at n m m' s (omega arith);
}

pub same-votes-data : (at n : ℕ) (m m' : List ℕ) → Spoiled at n m m' → 16384 ≤ at → SameVotes m m'
same-votes-data at n m m' s low = record {
  f0 = votes-below 9216 at n m m' s (omega arith);
  s0 = votes-below 12288 at n m m' s (omega arith);
  f1 = votes-below 13312 at n m m' s (omega arith);
  s1 = votes-below 4096 at n m m' s (omega arith);
  f2 = votes-below 5120 at n m m' s (omega arith);
  s2 = votes-below 8192 at n m m' s (omega arith);
}

pub same-votes-super : (at n : ℕ) (m m' : List ℕ) → Spoiled at n m m' → at + n ≤ 4096 → SameVotes m m'
same-votes-super at n m m' s low = record {
  f0 = votes-above 9216 at n m m' s (omega arith);
  s0 = votes-above 12288 at n m m' s (omega arith);
  f1 = votes-above 13312 at n m m' s (omega arith);
  s1 = votes-above 4096 at n m m' s (omega arith);
  f2 = votes-above 5120 at n m m' s (omega arith);
  s2 = votes-above 8192 at n m m' s (omega arith);
}

-- with no vote changed, and one block at most that has open entries
pub idle-moved : (m m' : List ℕ) → AreJournalsSound Idle m → SameVotes m m' → open_blocks m' ≤ 1 → Last (unused m') → AreJournalsSound Idle m'
idle-moved m m' h s one last =
    let p = h.phase in
    let f0 = s.f0 in let s0 = s.s0 in let f1 = s.f1 in let s1 = s.s1 in let f2 = s.f2 in let s2 = s.s2 in
    record {
      phase = simp (f0, s0, f1, s1, f2, s2) (p.0, p.1, p.2, one);
      lasts = last;
    }

-- and the same free entries
pub last-moved : (m m' : List ℕ) → AreJournalsSound Idle m → SameVotes m m' → free_entries m' ≡ free_entries m → Last (unused m')
last-moved m m' h s free = Last-moved (unused m) (unused m') (record {
  n01 = ap (λ v. v.unused) s.s1;
  n02 = ap (λ v. v.unused) s.f2;
  n10 = ap (λ v. v.unused) s.f0;
  n12 = ap (λ v. v.unused) s.s2;
  n20 = ap (λ v. v.unused) s.s0;
  n21 = ap (λ v. v.unused) s.f1;
  free = free;
}) h.lasts

-- Of the entries only entry i changes.
pub entry-elsewhere : (i : ℕ) (m m' : List ℕ) → Spoiled (6144 + 4 * i) 4 m m' → (j k : ℕ) → j ≢ i → k < 4 → entry_byte m' j k ≡ entry_byte m j k
entry-elsewhere i m m' s j k other small = elim (cases_lt j i) [
  | inl low ↦ s.below (6144 + 4 * j + k) (omega arith)
  | inr high ↦ s.above (6144 + 4 * j + k) (omega arith)
]

pub open-elsewhere : (i : ℕ) (m m' : List ℕ) → Spoiled (6144 + 4 * i) 4 m m' → (k : ℕ) → k ≢ i → is_open_entry m' k ≡ is_open_entry m k
open-elsewhere i m m' s k other =
    let e = λ (j : ℕ) (h : j < 4). entry-elsewhere i m m' s k j other h in
    rw (e 0 (lit< tt), e 1 (lit< tt), e 2 (lit< tt), e 3 (lit< tt), s.same_length) refl

pub block-elsewhere : (i : ℕ) (m m' : List ℕ) → Spoiled (6144 + 4 * i) 4 m m' → (k : ℕ) → k ≢ i → entry_block m' k ≡ entry_block m k
block-elsewhere i m m' s k other =
    let e = λ (j : ℕ) (h : j < 4). entry-elsewhere i m m' s k j other h in
    rw (e 1 (lit< tt), e 2 (lit< tt)) refl

-- none is open, where entry i isn't and no other was
pub none-beside : (i : ℕ) (m m' : List ℕ) → Spoiled (6144 + 4 * i) 4 m m' → ((k : ℕ) → k < 512 → k ≢ i → is_open_entry m k ≡ false) → is_open_entry m' i ≡ false → open_blocks m' ≡ 0
none-beside i m m' s others closed = none-blocks m' (λ k low. elim (cases_eq k i) [
  | inl same ↦ rw same closed
  | inr other ↦ open-elsewhere i m m' s k other ∙ others k low other
])

pub named-change : (i b : ℕ) (m m' : List ℕ) → i < 512 → Spoiled (6144 + 4 * i) 4 m m'
    → entries_for m' b + (if is_open_entry m i && entry_block m i == b then 1 else 0) ≡ entries_for m b + (if is_open_entry m' i && entry_block m' i == b then 1 else 0)
unfolding entries_for
named-change i b m m' low s = how_many-change (λ j. is_open_entry m j && entry_block m j == b) (λ j. is_open_entry m' j && entry_block m' j == b) 512 i low
    (λ j small other. let e = λ (k : ℕ) (h : k < 4). entry-elsewhere i m m' s j k other h in
    rw (e 0 (lit< tt), e 1 (lit< tt), e 2 (lit< tt), e 3 (lit< tt), s.same_length) refl)

pub free-change : (i : ℕ) (m m' : List ℕ) → i < 512 → Spoiled (6144 + 4 * i) 4 m m'
    → free_entries m' + (if is_free_entry m i then 1 else 0) ≡ free_entries m + (if is_free_entry m' i then 1 else 0)
unfolding free_entries
free-change i m m' low s = how_many-change (is_free_entry m) (is_free_entry m') 512 i low
    (λ j small other. let e = λ (k : ℕ) (h : k < 4). entry-elsewhere i m m' s j k other h in
    rw (e 0 (lit< tt), e 1 (lit< tt), e 2 (lit< tt), e 3 (lit< tt)) refl)

-- an entry is not open unless its state is FCh
pub not-open : (m : List ℕ) (i : ℕ) → entry_byte m i 0 ≢ 252 → is_open_entry m i ≡ false
not-open m i other = grind (arith, nat_tests)

pub not-free : (m : List ℕ) (i : ℕ) → entry_byte m i 0 ≢ 255 → is_free_entry m i ≡ false
not-free m i other = grind (arith, nat_tests)

-- Taking an entry, whole or torn: where no journal is tired, the journals stay sound.
pub entry-taken : (i : ℕ) (m m' : List ℕ) → AreJournalsSound Idle m → open_blocks m ≡ 0 → i < 512 → Spoiled (6144 + 4 * i) 4 m m' → entry_byte m' i 0 ≢ 252
    → IsRested J0 (unused m) → IsRested J1 (unused m) → IsRested J2 (unused m)
    → AreJournalsSound Idle m' × (open_blocks m' ≡ 0)
entry-taken i m m' h none low s state r0 r1 r2 =
    let none' : open_blocks m' ≡ 0 = none-beside i m m' s (λ k small other. none-open m none k small) (not-open m' i state) in
    let v = same-votes-entry (6144 + 4 * i) 4 m m' s (omega arith) (omega arith) in (
      idle-moved m m' h v (omega arith) (Last-rested (unused m) (unused m') r0 r1 r2 (ap (λ v. v.unused) v.s1) (ap (λ v. v.unused) v.f2) (ap (λ v. v.unused) v.f0)
          (ap (λ v. v.unused) v.s2) (ap (λ v. v.unused) v.s0) (ap (λ v. v.unused) v.f1)),
      none',
    )

-- an entry whose state changes keeps its other bytes
pub state-changed : (i old new : ℕ) (m m' : List ℕ) → Changed (6144 + 4 * i) old new m m' → Spoiled (6144 + 4 * i) 4 m m'
state-changed i old new m m' h = record {
  same_length = h.same_length;
  below = λ k low. h.rest k (λ same. omega arith);
  above = λ k high. h.rest k (λ same. omega arith);
}

pub state-was : (i old new : ℕ) (m m' : List ℕ) → Changed (6144 + 4 * i) old new m m' → entry_byte m i 0 ≡ old
state-was i old new m m' h = rw add-zero h.was

pub state-is : (i old new : ℕ) (m m' : List ℕ) → Changed (6144 + 4 * i) old new m m' → entry_byte m' i 0 ≡ new
state-is i old new m m' h = rw add-zero h.is

free-closed : (m : List ℕ) (i : ℕ) → is_free_entry m i ≡ true → entry_byte m i 0 ≢ 252
free-closed m i free is = grind (arith, nat_tests)

-- the votes last, with as many free entries or one fewer
begun-last : (m m' : List ℕ) (t : Bool) → AreJournalsSound Idle m → Last (once_used (unused m)) → SameVotes m m'
    → free_entries m' + 1 ≡ free_entries m + (if t then 1 else 0) → Last (unused m')
begun-last m m' true h last v f = last-moved m m' h v (omega arith)
begun-last m m' false h last v f = Last-moved (once_used (unused m)) (unused m') (record {
  n01 = ap (λ v. v.unused) v.s1;
  n02 = ap (λ v. v.unused) v.f2;
  n10 = ap (λ v. v.unused) v.f0;
  n12 = ap (λ v. v.unused) v.s2;
  n20 = ap (λ v. v.unused) v.s0;
  n21 = ap (λ v. v.unused) v.f1;
  free = omega arith;
}) last

-- Opening it, and closing it.
-- where those that are open name the same block
pub entry-opened : (i : ℕ) (m m' : List ℕ) → AreJournalsSound Idle m → ((k : ℕ) → k < 512 → is_open_entry m k ≡ true → entry_block m k ≡ entry_block m' i) → i < 512
    → Changed (6144 + 4 * i) 254 252 m m' → AreJournalsSound Idle m'
entry-opened i m m' h others low change =
    let s = state-changed i 254 252 m m' change in
    let was = state-was i 254 252 m m' change in
    let is = state-is i 254 252 m m' change in
    let f = free-change i m m' low s in
    let f' = rw (not-free m i (λ e. omega arith), not-free m' i (λ e. omega arith)) at f in
    let one : open_blocks m' ≤ 1 = one-block m' (entry_block m' i) (λ k small opened. elim (cases_eq k i) [
      | inl same ↦ rw same refl
      | inr other ↦ block-elsewhere i m m' s k other ∙ others k small (sym (open-elsewhere i m m' s k other) ∙ opened)
    ]) in
    let same : free_entries m' ≡ free_entries m = omega arith in
    let v = same-votes-entry (6144 + 4 * i) 4 m m' s (omega arith) (omega arith) in
    idle-moved m m' h v one (last-moved m m' h v same)

pub entry-closed : (i : ℕ) (m m' : List ℕ) → AreJournalsSound Idle m → is_open_entry m i ≡ true → i < 512 → Changed (6144 + 4 * i) 252 248 m m'
    → AreJournalsSound Idle m' × (is_open_entry m' i ≡ false)
entry-closed i m m' h opened low change =
    let s = state-changed i 252 248 m m' change in
    let was = state-was i 252 248 m m' change in
    let is = state-is i 252 248 m m' change in
    let closed = not-open m' i (λ e. omega arith) in
    let f = free-change i m m' low s in
    let f' = rw (not-free m i (λ e. omega arith), not-free m' i (λ e. omega arith)) at f in
    let p = h.phase in
    let one : open_blocks m' ≤ 1 = one-block m' (entry_block m i) (λ k small also. elim (cases_eq k i) [
      | inl same ↦ absurd (let no = rw same at also in cc)
      | inr other ↦ block-elsewhere i m m' s k other ∙ same-block m k i p.3 small low (sym (open-elsewhere i m m' s k other) ∙ also) opened
    ]) in
    let same : free_entries m' ≡ free_entries m = omega arith in
    let v = same-votes-entry (6144 + 4 * i) 4 m m' s (omega arith) (omega arith) in
    (idle-moved m m' h v one (last-moved m m' h v same), closed)

-- the same entries are open, for the same blocks
pub same-open : (m m' : List ℕ) → length m' ≡ length m → ((k : ℕ) → k < 512 → is_open_entry m' k ≡ is_open_entry m k)
    → ((k : ℕ) → k < 512 → is_open_entry m k ≡ true → entry_block m' k ≡ entry_block m k) → (b : ℕ) → entries_for m' b ≡ entries_for m b
unfolding entries_for
same-open m m' same opened names b = how_many-same (λ i. is_open_entry m' i && entry_block m' i == b) (λ i. is_open_entry m i && entry_block m i == b) 512
    (λ k low. let o = opened k low in let n = names k low in grind (arith, nat_tests))

-- Taking a free entry, whole or torn, beside open ones.
pub entry-begun : (i : ℕ) (m m' : List ℕ) → AreJournalsSound Idle m → Last (once_used (unused m)) → i < 512 → is_free_entry m i ≡ true → Spoiled (6144 + 4 * i) 4 m m' → entry_byte m' i 0 ≢ 252
    → AreJournalsSound Idle m' × ((b : ℕ) → entries_for m' b ≡ entries_for m b)
entry-begun i m m' h last low free s state =
    let was = not-open m i (free-closed m i free) in
    let is = not-open m' i state in
    let named = same-open m m' s.same_length
    (λ k small. elim (cases_eq k i) [ inl same ↦ rw same (is ∙ sym was) | inr other ↦ open-elsewhere i m m' s k other ])
    (λ k small opened. elim (cases_eq k i) [ inl same ↦ absurd (let no = rw same at opened in cc) | inr other ↦ block-elsewhere i m m' s k other ]) in
    let f = rw free at (free-change i m m' low s) in
    let v = same-votes-entry (6144 + 4 * i) 4 m m' s (omega arith) (omega arith) in
    let o = blocks-named m m' s.same_length named in
    let p = h.phase in
    (idle-moved m m' h v (omega arith) (begun-last m m' (is_free_entry m' i) h last v f), named)

-- A data block is made anything.
pub data-spoiled : (at n : ℕ) (m m' : List ℕ) → AreJournalsSound Idle m → 16384 ≤ at → Spoiled at n m m' → AreJournalsSound Idle m' × SameEntries m m'
data-spoiled at n m m' h low s =
    let e = entries-below at n m m' s (omega arith) in
    let p = h.phase in
    let v = same-votes-data at n m m' s low in
    (idle-moved m m' h v (omega arith) (last-moved m m' h v e.free), e)

pub bytes-below : (at n : ℕ) (m m' : List ℕ) → Spoiled at n m m' → 8192 ≤ at → (k j : ℕ) → k < 512 → j < 4 → entry_byte m' k j ≡ entry_byte m k j
bytes-below at n m m' s high k j low small = s.below (6144 + 4 * k + j) (omega arith)

pub open-below : (at n : ℕ) (m m' : List ℕ) → Spoiled at n m m' → 8192 ≤ at → (k : ℕ) → k < 512 → is_open_entry m' k ≡ is_open_entry m k
open-below at n m m' s high k low =
    let e = λ (j : ℕ) (h : j < 4). bytes-below at n m m' s high k j low h in
    rw (e 0 (lit< tt), e 1 (lit< tt), e 2 (lit< tt), e 3 (lit< tt), s.same_length) refl

pub block-below : (at n : ℕ) (m m' : List ℕ) → Spoiled at n m m' → 8192 ≤ at → (k : ℕ) → k < 512 → entry_block m' k ≡ entry_block m k
block-below at n m m' s high k low =
    let e = λ (j : ℕ) (h : j < 4). bytes-below at n m m' s high k j low h in
    rw (e 1 (lit< tt), e 2 (lit< tt)) refl

-- The superblock is made anything.
pub super-spoiled : (at n : ℕ) (m m' : List ℕ) → AreJournalsSound Idle m → at + n ≤ 4096 → Spoiled at n m m' → AreJournalsSound Idle m' × SameEntries m m'
super-spoiled at n m m' h low s =
    let e = entries-above at n m m' s (omega arith) in
    let p = h.phase in
    let v = same-votes-super at n m m' s low in
    (idle-moved m m' h v (omega arith) (last-moved m m' h v e.free), e)
