-- What a power-on reads of firm votes and entries.
use Rattle.std.proofs.Common.{◌≡◌, ◌≢◌, ℕ, suc, ◌+◌, ◌<◌, ◌≤◌, ◌⊎◌, true, false, not, ◌||◌, List, length, refl, sym, ap, ◌∙◌, arith, inl, inr, lit<}
use Rattle.std.specs.Prelude.{◌/◌, ◌==◌}
use Rattle.std.specs.Int.{bit_at}
use Rattle.std.proofs.lemmas.Bool.{cases_eq}
use Rattle.std.proofs.lemmas.Bool.Decides.{nat_tests}
use Rattle.std.proofs.lemmas.Nat.Bits.{same_from_bits, bit_at-zero, bit_at-suc}
use Rattle.chip_model.specs.Memory.{byte}
use Rattle.chip_model.specs.Geometry.{block_count}
use Rattle.chip_model.specs.Wavering.{Bits, Drawn}
use Rattle.nor_layout.specs.declared.journal.JournalId.TheVariants.{J0, J1, J2}
use Rattle.nor_layout.specs.Journals.{first_at, second_at}
use Rattle.nor_layout.specs.Entries.{entry_at, is_open, block_in}
use Rattle.erase_journal.specs.Journals.{votes_at, free_entries, open_blocks, entries_for, entry_byte, entry_bytes, entry_block, is_free_entry, is_open_entry, tally_of}
use Rattle.erase_journal.specs.Weak.{AreFirm, IsFirmVote, firm, given_up, AreFirmVotes, IsUsedForGood, AreFirmJournals}
use Rattle.erase_journal.proofs.Counts.{how_many-same}
use Rattle.erase_journal.proofs.Entries.{same-open}
use Rattle.erase_journal.proofs.Regions.{blocks-named}
use Rattle.erase_journal.proofs.RecoveredVotes.{not-unused}

-- a byte without a weak bit is as it was
pub firm-byte : (m w m' : List ℕ) (i : ℕ) → Drawn w m m' → byte w i ≡ 0 → byte m' i ≡ byte m i
firm-byte m w m' i d e = same_from_bits (byte m' i) (byte m i) (λ k. d.firm i k (ap (λ x. bit_at x k) e ∙ bit_at-zero k))

-- A vote reads as before; or as closed or given up, before and after.
pub vote-drawn : (m w m' : List ℕ) (at : ℕ) → Drawn w m m' → IsFirmVote m w at
    → (byte m' at ≡ byte m at) ⊎ (((252 ≤ byte m at) × (byte m at ≤ 253)) × ((252 ≤ byte m' at) × (byte m' at ≤ 253)))
vote-drawn m w m' at d (firm e) = inl (firm-byte m w m' at d e)
vote-drawn m w m' at d (given_up h a b) =
    let none : byte w at / 2 ≡ 0 = omega (arith, h) in
    let half : byte m' at / 2 ≡ byte m at / 2 = same_from_bits (byte m' at / 2) (byte m at / 2) (λ k.
    sym (bit_at-suc (byte m' at) k) ∙ (d.firm at (suc k) (bit_at-suc (byte w at) k ∙ (ap (λ x. bit_at x k) none ∙ bit_at-zero k)) ∙ bit_at-suc (byte m at) k)) in
    inr ((a, b), (omega (arith, half, a, b), omega (arith, half, a, b)))

closed-tests : (x : ℕ) → 252 ≤ x → x ≤ 253 → ((x == 255) ≡ false) × (((x == 254) ≡ false) × (not (x == 255 || x == 254 || x == 252 || x == 253) ≡ false))
closed-tests x a b = elim (cases_eq x 252) [
  | inl e ↦ rw e (refl, (refl, refl))
  | inr n ↦ let e : x ≡ 253 = omega (arith, a, b, n) in rw e (refl, (refl, refl))
]

tests-drawn : (x y : ℕ) → (y ≡ x) ⊎ (((252 ≤ x) × (x ≤ 253)) × ((252 ≤ y) × (y ≤ 253)))
    → ((y == 255) ≡ (x == 255)) × (((y == 254) ≡ (x == 254)) × (not (y == 255 || y == 254 || y == 252 || y == 253) ≡ not (x == 255 || x == 254 || x == 252 || x == 253)))
tests-drawn x y (inl e) = rw e (refl, (refl, refl))
tests-drawn x y (inr h) =
    let p = closed-tests x h.0.0 h.0.1 in
    let q = closed-tests y h.1.0 h.1.1 in
    (q.0 ∙ sym p.0, (q.1.0 ∙ sym p.1.0, q.1.1 ∙ sym p.1.1))

-- the votes of a region
pub votes-drawn : (m w m' : List ℕ) (at : ℕ) → Drawn w m m' → ((k : ℕ) → k < 1024 → IsFirmVote m w (at + k)) → votes_at m' at ≡ votes_at m at
unfolding votes_at
votes-drawn m w m' at d f =
    let each = λ (k : ℕ) (h : k < 1024). tests-drawn (byte m (at + k)) (byte m' (at + k)) (vote-drawn m w m' (at + k) d (f k h)) in
    let e1 = how_many-same (λ k. byte m' (at + k) == 255) (λ k. byte m (at + k) == 255) 1024 (λ k h. (each k h).0) in
    let e2 = how_many-same (λ k. byte m' (at + k) == 254) (λ k. byte m (at + k) == 254) 1024 (λ k h. (each k h).1.0) in
    let e3 = how_many-same (λ k. not (byte m' (at + k) == 255 || byte m' (at + k) == 254 || byte m' (at + k) == 252 || byte m' (at + k) == 253)) (λ k. not (byte m (at + k) == 255 || byte m (at + k) == 254 || byte m (at + k) == 252 || byte m (at + k) == 253)) 1024 (λ k h. (each k h).1.1) in
    cc

-- What is said of an entry: whether it is free and open, and for which block.
pub record SameEntry (m m' : List ℕ) (i : ℕ) : Type 0 where
  pub free : is_free_entry m' i ≡ is_free_entry m i
  pub opened : is_open_entry m' i ≡ is_open_entry m i
  pub named : is_open_entry m i ≡ true → entry_block m' i ≡ entry_block m i

pub last-not-open : (m : List ℕ) (i : ℕ) → entry_byte m i 3 ≢ 255 → is_open_entry m i ≡ false
last-not-open m i other = grind (arith, nat_tests)

pub last-not-free : (m : List ℕ) (i : ℕ) → entry_byte m i 3 ≢ 255 → is_free_entry m i ≡ false
last-not-free m i other = grind (arith, nat_tests)

pub neither : (m m' : List ℕ) (i : ℕ) → is_free_entry m i ≡ false → is_free_entry m' i ≡ false → is_open_entry m i ≡ false → is_open_entry m' i ≡ false → SameEntry m m' i
neither m m' i f f' o o' = record { free = f' ∙ sym f; opened = o' ∙ sym o; named = λ e. absurd (let h : true ≡ false = sym e ∙ o in cc) }

-- one that is firm
pub firm-entry-drawn : (m w m' : List ℕ) (i : ℕ) → Drawn w m m' → AreFirm w (entry_at i) 4 → SameEntry m m' i
firm-entry-drawn m w m' i d f =
    let e = λ (j : ℕ) (h : j < 4). firm-byte m w m' (entry_at i + j) d (f j h) in
    let four : entry_bytes m' i ≡ entry_bytes m i = rw (e 0 (lit< tt), e 1 (lit< tt), e 2 (lit< tt), e 3 (lit< tt)) refl in
    record {
      free = rw (e 0 (lit< tt), e 1 (lit< tt), e 2 (lit< tt), e 3 (lit< tt)) refl;
      opened = ap (λ b. is_open (block_count (length m')) b) four ∙ ap (λ n. is_open (block_count n) (entry_bytes m i)) d.same_length;
      named = λ _. ap (λ b. block_in b) four;
    }

-- or used for good
used-drawn : (b : Bits) (m' : List ℕ) (i : ℕ) → Drawn b.weak b.shown m' → IsUsedForGood b i → SameEntry b.shown m' i
used-drawn b m' i d u =
    let was = not-unused (entry_byte b.shown i 3) u.bit u.inside u.reads in
    let is = not-unused (entry_byte m' i 3) u.bit u.inside (d.firm (entry_at i + 3) u.bit u.firm ∙ u.reads) in
    neither b.shown m' i (last-not-free b.shown i was) (last-not-free m' i is) (last-not-open b.shown i was) (last-not-open m' i is)

module _ (b : Bits) (m' : List ℕ) (d : Drawn b.weak b.shown m') (h : AreFirmJournals b) where
  pub entry-drawn : (i : ℕ) → i < 512 → SameEntry b.shown m' i
  entry-drawn i low = elim (h.entries i low) [ inl f ↦ firm-entry-drawn b.shown b.weak m' i d f | inr u ↦ used-drawn b m' i d u ]

  pub entries-drawn : (k : ℕ) → entries_for m' k ≡ entries_for b.shown k
  entries-drawn = same-open b.shown m' d.same_length (λ k low. (entry-drawn k low).opened) (λ k low. (entry-drawn k low).named)

  free-drawn : free_entries m' ≡ free_entries b.shown
  unfolding free_entries
  free-drawn = how_many-same (is_free_entry m') (is_free_entry b.shown) 512 (λ k low. (entry-drawn k low).free)

  region-drawn : (place : ℕ) → AreFirmVotes b place → votes_at m' place ≡ votes_at b.shown place
  region-drawn place f = votes-drawn b.shown b.weak m' place d f

  -- all numbers of the journals
  pub tally-drawn : tally_of m' ≡ tally_of b.shown
  tally-drawn =
      let f0 = region-drawn (first_at J0) (h.votes J0).0 in
      let s0 = region-drawn (second_at J0) (h.votes J0).1 in
      let f1 = region-drawn (first_at J1) (h.votes J1).0 in
      let s1 = region-drawn (second_at J1) (h.votes J1).1 in
      let f2 = region-drawn (first_at J2) (h.votes J2).0 in
      let s2 = region-drawn (second_at J2) (h.votes J2).1 in
      let free = free-drawn in
      let opened : open_blocks m' ≡ open_blocks b.shown = blocks-named b.shown m' d.same_length entries-drawn in
      rw (f0, s0, f1, s1, f2, s2, free, opened) refl

  firm-vote-drawn : (at : ℕ) → IsFirmVote b.shown b.weak at → IsFirmVote m' b.weak at
  firm-vote-drawn at (firm none) = firm none
  firm-vote-drawn at (given_up low from to) = elim (vote-drawn b.shown b.weak m' at d (given_up low from to)) [
    | inl e ↦ given_up low (omega (arith, e, from)) (omega (arith, e, to))
    | inr q ↦ given_up low q.1.0 q.1.1
  ]

  -- and they are firm still
  pub firm-drawn : AreFirmJournals (record { shown = m'; weak = b.weak })
  firm-drawn = record {
    superblock = h.superblock;
    votes = λ x. (λ k low. firm-vote-drawn (first_at x + k) ((h.votes x).0 k low), λ k low. firm-vote-drawn (second_at x + k) ((h.votes x).1 k low));
    entries = λ i low. elim (h.entries i low) [
      | inl f ↦ inl f
      | inr u ↦ inr (record { bit = u.bit; inside = u.inside; reads = d.firm (entry_at i + 3) u.bit u.firm ∙ u.reads; firm = u.firm })
    ];
  }
