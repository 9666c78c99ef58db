-- What a change of the memory does to the votes and entries.
use Rattle.std.proofs.Common.{◌≡◌, ℕ, ◌+◌, ◌*◌, ◌/◌, ◌<◌, ◌≤◌, Bool, not, ◌&&◌, ◌||◌, List, length, refl, ap, arith, add_assoc, lit<, if◌then◌else◌}
use Rattle.std.specs.Prelude.{nat_lt, ◌==◌}
use Rattle.chip_model.specs.Memory.{byte}
use Rattle.erase_journal.specs.Places.{how_many, Spoiled, Changed}
use Rattle.erase_journal.specs.declared.scan.VoteCounts.{VoteCounts}
use Rattle.erase_journal.specs.Journals.{votes_at, entry_byte, entry_block, is_free_entry, is_open_entry, free_entries, open_blocks, entries_for}
use Rattle.erase_journal.proofs.Counts.{how_many-same, how_many-change}

-- the bytes from a place on are as they were
pub record BytesKept (at n : ℕ) (m m' : List ℕ) : Type 0 where
  pub bytes : (k : ℕ) → k < n → byte m' (at + k) ≡ byte m (at + k)

pub spoiled-below : (at n place size : ℕ) (m m' : List ℕ) → Spoiled at n m m' → place + size ≤ at → BytesKept place size m m'
spoiled-below at n place size m m' h low = record { bytes = λ k below. h.below (place + k) (omega arith) }

pub spoiled-above : (at n place size : ℕ) (m m' : List ℕ) → Spoiled at n m m' → at + n ≤ place → BytesKept place size m m'
spoiled-above at n place size m m' h high = record { bytes = λ k below. h.above (place + k) (omega arith) }

pub votes-kept : (place : ℕ) (m m' : List ℕ) → BytesKept place 1024 m m' → votes_at m' place ≡ votes_at m place
unfolding votes_at
votes-kept place m m' h =
    let e1 = how_many-same (λ k. byte m' (place + k) == 255) (λ k. byte m (place + k) == 255) 1024 (λ k low. rw (h.bytes k low) refl) in
    let e2 = how_many-same (λ k. byte m' (place + k) == 254) (λ k. byte m (place + k) == 254) 1024 (λ k low. rw (h.bytes k low) refl) in
    let e3 = how_many-same (λ k. not (byte m' (place + k) == 255 || byte m' (place + k) == 254 || byte m' (place + k) == 252 || byte m' (place + k) == 253)) (λ k. not (byte m (place + k) == 255 || byte m (place + k) == 254 || byte m (place + k) == 252 || byte m (place + k) == 253)) 1024 (λ k low. rw (h.bytes k low) refl) in
    cc

-- one place of a region changes
test-change : (test : ℕ → Bool) (place i old new : ℕ) (m m' : List ℕ) → i < 1024 → Changed (place + i) old new m m'
    → how_many (λ k. test (byte m' (place + k))) 1024 + (if test old then 1 else 0)
    ≡ how_many (λ k. test (byte m (place + k))) 1024 + (if test new then 1 else 0)
test-change test place i old new m m' low h =
    let e = how_many-change (λ k. test (byte m (place + k))) (λ k. test (byte m' (place + k))) 1024 i low
    (λ k below other. ap test (h.rest (place + k) (λ same. other (omega arith)))) in
    rw (h.was, h.is) at e

-- v' is v with one more vote open, and with one more closed
pub record OneOpened (v v' : VoteCounts) : Type 0 where
  pub unused : v'.unused + 1 ≡ v.unused
  pub opened : v'.opened ≡ v.opened + 1
  pub wrong : v'.wrong ≡ v.wrong

pub record OneClosed (v v' : VoteCounts) : Type 0 where
  pub unused : v'.unused ≡ v.unused
  pub opened : v'.opened + 1 ≡ v.opened
  pub wrong : v'.wrong ≡ v.wrong

pub vote-opened : (place i : ℕ) (m m' : List ℕ) → i < 1024 → Changed (place + i) 255 254 m m' → OneOpened (votes_at m place) (votes_at m' place)
unfolding votes_at
vote-opened place i m m' low h =
    let e1 = test-change (λ b. b == 255) place i 255 254 m m' low h in
    let e2 = test-change (λ b. b == 254) place i 255 254 m m' low h in
    let e3 = test-change (λ b. not (b == 255 || b == 254 || b == 252 || b == 253)) place i 255 254 m m' low h in
    record { unused = omega arith; opened = omega arith; wrong = omega arith }

pub vote-closed : (place i : ℕ) (m m' : List ℕ) → i < 1024 → Changed (place + i) 254 252 m m' → OneClosed (votes_at m place) (votes_at m' place)
unfolding votes_at
vote-closed place i m m' low h =
    let e1 = test-change (λ b. b == 255) place i 254 252 m m' low h in
    let e2 = test-change (λ b. b == 254) place i 254 252 m m' low h in
    let e3 = test-change (λ b. not (b == 255 || b == 254 || b == 252 || b == 253)) place i 254 252 m m' low h in
    record { unused = omega arith; opened = omega arith; wrong = omega arith }

-- v' is v with one more vote given up
pub record OneGivenUp (v v' : VoteCounts) : Type 0 where
  pub unused : v'.unused + 1 ≡ v.unused
  pub opened : v'.opened ≡ v.opened
  pub wrong : v'.wrong ≡ v.wrong

pub vote-given-up : (place i : ℕ) (m m' : List ℕ) → i < 1024 → Changed (place + i) 255 253 m m' → OneGivenUp (votes_at m place) (votes_at m' place)
unfolding votes_at
vote-given-up place i m m' low h =
    let e1 = test-change (λ b. b == 255) place i 255 253 m m' low h in
    let e2 = test-change (λ b. b == 254) place i 255 253 m m' low h in
    let e3 = test-change (λ b. not (b == 255 || b == 254 || b == 252 || b == 253)) place i 255 253 m m' low h in
    record { unused = omega arith; opened = omega arith; wrong = omega arith }

-- the entries are as they were
pub record SameEntries (m m' : List ℕ) : Type 0 where
  pub free : free_entries m' ≡ free_entries m
  pub opened : open_blocks m' ≡ open_blocks m
  pub named : (b : ℕ) → entries_for m' b ≡ entries_for m b

pub entry-kept : (m m' : List ℕ) → BytesKept 6144 2048 m m' → (i j : ℕ) → i < 512 → j < 4 → entry_byte m' i j ≡ entry_byte m i j
entry-kept m m' h i j low small = rw (add_assoc 6144 (4 * i) j) (h.bytes (4 * i + j) (omega arith))

named-kept : (m m' : List ℕ) → BytesKept 6144 2048 m m' → length m' ≡ length m → (b : ℕ) → entries_for m' b ≡ entries_for m b
unfolding entries_for
named-kept m m' h same b =
    let e = entry-kept m m' h in
    how_many-same (λ i. is_open_entry m' i && entry_block m' i == b) (λ i. is_open_entry m i && entry_block m i == b) 512 (λ i low. rw (e i 0 low (lit< tt), e i 1 low (lit< tt), e i 2 low (lit< tt), e i 3 low (lit< tt), same) refl)

pub blocks-named : (m m' : List ℕ) → length m' ≡ length m → ((b : ℕ) → entries_for m' b ≡ entries_for m b) → open_blocks m' ≡ open_blocks m
unfolding open_blocks
blocks-named m m' same named = rw same (how_many-same (λ b. nat_lt 0 (entries_for m' b)) (λ b. nat_lt 0 (entries_for m b)) (length m / 4096) (λ b low. rw (named b) refl))

pub entries-kept : (m m' : List ℕ) → BytesKept 6144 2048 m m' → length m' ≡ length m → SameEntries m m'
unfolding free_entries
entries-kept m m' h same =
    let e = entry-kept m m' h in
    record {
      free = how_many-same (is_free_entry m') (is_free_entry m) 512 (λ i low. rw (e i 0 low (lit< tt), e i 1 low (lit< tt), e i 2 low (lit< tt), e i 3 low (lit< tt)) refl);
      opened = blocks-named m m' same (named-kept m m' h same);
      named = named-kept m m' h same;
    }

pub changed-spoiled : (at old new : ℕ) (m m' : List ℕ) → Changed at old new m m' → Spoiled at 1 m m'
changed-spoiled at old new m m' h = record {
  same_length = h.same_length;
  below = λ k low. h.rest k (λ same. omega arith);
  above = λ k high. h.rest k (λ same. omega arith);
}

-- a region elsewhere is as it was
pub votes-below : (place at n : ℕ) (m m' : List ℕ) → Spoiled at n m m' → place + 1024 ≤ at → votes_at m' place ≡ votes_at m place
votes-below place at n m m' h low = votes-kept place m m' (spoiled-below at n place 1024 m m' h low)

pub votes-above : (place at n : ℕ) (m m' : List ℕ) → Spoiled at n m m' → at + n ≤ place → votes_at m' place ≡ votes_at m place
votes-above place at n m m' h high = votes-kept place m m' (spoiled-above at n place 1024 m m' h high)

pub entries-below : (at n : ℕ) (m m' : List ℕ) → Spoiled at n m m' → 8192 ≤ at → SameEntries m m'
entries-below at n m m' h low = entries-kept m m' (spoiled-below at n 6144 2048 m m' h low) h.same_length

pub entries-above : (at n : ℕ) (m m' : List ℕ) → Spoiled at n m m' → at + n ≤ 6144 → SameEntries m m'
entries-above at n m m' h high = entries-kept m m' (spoiled-above at n 6144 2048 m m' h high) h.same_length
