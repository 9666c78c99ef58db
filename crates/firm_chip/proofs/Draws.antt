-- What a draw leaves of firm bytes, of votes and of entries.
use Rattle.std.proofs.Common.{◌≡◌, ◌≢◌, ℕ, ◌+◌, ◌-◌, ◌<◌, ◌≤◌, List, refl, sym, ap, ◌∙◌, arith}
use Rattle.std.specs.Int.{bit_at}
use Rattle.chip_model.specs.Memory.{byte}
use Rattle.chip_model.specs.Wavering.{Drawn}
use Rattle.nor_layout.specs.declared.journal.JournalId.{JournalId}
use Rattle.nor_layout.specs.declared.journal.JournalId.TheVariants.{J0, J1, J2}
use Rattle.nor_layout.specs.Journals.{journal_at}
use Rattle.nor_layout.specs.Entries.{entry_at}
use Rattle.erase_journal.specs.Journals.{votes_at, free_entries, open_blocks, entries_for, entry_byte, is_free_entry, tally_of}
use Rattle.erase_journal.specs.Blocks.{is_believed0}
use Rattle.erase_journal.proofs.Counts.{how_many-same}
use Rattle.erase_journal.proofs.Regions.{BytesKept, blocks-named}
use Rattle.erase_journal.proofs.Entries.{not-open, not-free, same-open}
use Rattle.erase_journal.specs.Weak.{AreFirm}
use Rattle.erase_journal.proofs.Draws.{SameEntry, firm-byte, firm-entry-drawn, last-not-free, last-not-open, neither}
use Rattle.erase_journal.proofs.Draws as region
use Rattle.firm_chip.specs.FirmChips.{AreVotesFirm, NeverReads, IsFirmEntry, firm, ended, begun, IsFirmChip}

-- the journals of a firm chip, and the first bytes of its superblock
pub record AreChipJournals (m w : List ℕ) : Type 0 where
  pub superblock : AreFirm w 0 16
  pub votes : (j : JournalId) → AreVotesFirm m w (journal_at j)
  pub entries : (i : ℕ) → i < 512 → IsFirmEntry m w i

pub of-chip : (m w : List ℕ) → IsFirmChip m w → AreChipJournals m w
of-chip m w f = record { superblock = f.superblock; votes = f.votes; entries = f.entries }

-- one that never reads v doesn't, before and after
pub never-was : (m w : List ℕ) (at v : ℕ) → NeverReads m w at v → byte m at ≢ v
never-was m w at v n e = n.differs (ap (λ x. bit_at x n.bit) e)

pub never-is : (m w m' : List ℕ) (at v : ℕ) → Drawn w m m' → NeverReads m w at v → byte m' at ≢ v
never-is m w m' at v d n e = n.differs (sym (d.firm at n.bit n.firm) ∙ ap (λ x. bit_at x n.bit) e)

-- bytes among those that are firm
pub kept-part : (m w m' : List ℕ) (base n at size : ℕ) → Drawn w m m' → AreFirm w base n → base ≤ at → at + size ≤ base + n → BytesKept at size m m'
kept-part m w m' base n at size d f low high = record {
  bytes = λ k h.
      let e : base + ((at - base) + k) ≡ at + k = omega arith in
      let z = f ((at - base) + k) (omega arith) in
      firm-byte m w m' (at + k) d (rw e at z);
}

first-byte : (m : List ℕ) (i : ℕ) → entry_byte m i 0 ≡ byte m (entry_at i)
first-byte m i = ap (λ k. byte m k) (omega arith)

pub entry-drawn : (m w m' : List ℕ) (i : ℕ) → Drawn w m m' → IsFirmEntry m w i → SameEntry m m' i
entry-drawn m w m' i d (firm f) = firm-entry-drawn m w m' i d f
entry-drawn m w m' i d (ended n) =
    let was = never-was m w (entry_at i + 3) 255 n in
    let is = never-is m w m' (entry_at i + 3) 255 d n in
    neither m m' i (last-not-free m i was) (last-not-free m' i is) (last-not-open m i was) (last-not-open m' i is)
entry-drawn m w m' i d (begun a b) =
    let fw = never-was m w (entry_at i) 255 a in
    let fi = never-is m w m' (entry_at i) 255 d a in
    let ow = never-was m w (entry_at i) 252 b in
    let oi = never-is m w m' (entry_at i) 252 d b in
    let z = first-byte m i in
    let z' = first-byte m' i in
    neither m m' i (not-free m i (λ e. fw (sym z ∙ e))) (not-free m' i (λ e. fi (sym z' ∙ e))) (not-open m i (λ e. ow (sym z ∙ e))) (not-open m' i (λ e. oi (sym z' ∙ e)))

pub named-drawn : (m w m' : List ℕ) → AreChipJournals m w → Drawn w m m' → (b : ℕ) → entries_for m' b ≡ entries_for m b
named-drawn m w m' f d = same-open m m' d.same_length (λ k low. (entry-drawn m w m' k d (f.entries k low)).opened) (λ k low. (entry-drawn m w m' k d (f.entries k low)).named)

free-drawn : (m w m' : List ℕ) → AreChipJournals m w → Drawn w m m' → free_entries m' ≡ free_entries m
unfolding free_entries
free-drawn m w m' f d = how_many-same (is_free_entry m') (is_free_entry m) 512 (λ k low. (entry-drawn m w m' k d (f.entries k low)).free)

-- the votes of a region, in a journal that begins at a place
votes-drawn : (m w m' : List ℕ) (base at : ℕ) → Drawn w m m' → AreVotesFirm m w base → base ≤ at → at + 1024 ≤ base + 2048 → votes_at m' at ≡ votes_at m at
votes-drawn m w m' base at d f low high = region.votes-drawn m w m' at d (λ k h. (let e : base + ((at - base) + k) ≡ at + k = omega arith in rw e at (f ((at - base) + k) (omega arith))))

-- all numbers of the journals
pub tally-drawn : (m w m' : List ℕ) → AreChipJournals m w → Drawn w m m' → tally_of m' ≡ tally_of m
tally-drawn m w m' f d =
    let a : votes_at m' 4096 ≡ votes_at m 4096 = votes-drawn m w m' 4096 4096 d (f.votes J0) (omega arith) (omega arith) in
    let b : votes_at m' 5120 ≡ votes_at m 5120 = votes-drawn m w m' 4096 5120 d (f.votes J0) (omega arith) (omega arith) in
    let g : votes_at m' 8192 ≡ votes_at m 8192 = votes-drawn m w m' 8192 8192 d (f.votes J1) (omega arith) (omega arith) in
    let h : votes_at m' 9216 ≡ votes_at m 9216 = votes-drawn m w m' 8192 9216 d (f.votes J1) (omega arith) (omega arith) in
    let p : votes_at m' 12288 ≡ votes_at m 12288 = votes-drawn m w m' 12288 12288 d (f.votes J2) (omega arith) (omega arith) in
    let q : votes_at m' 13312 ≡ votes_at m 13312 = votes-drawn m w m' 12288 13312 d (f.votes J2) (omega arith) (omega arith) in
    let free : free_entries m' ≡ free_entries m = free-drawn m w m' f d in
    let opened : open_blocks m' ≡ open_blocks m = blocks-named m m' d.same_length (named-drawn m w m' f d) in
    rw (a, b, g, h, p, q, free, opened) refl

pub believed-drawn : (m w m' : List ℕ) → AreChipJournals m w → Drawn w m m' → is_believed0 m' ≡ is_believed0 m
believed-drawn m w m' f d =
    let h : votes_at m' 9216 ≡ votes_at m 9216 = votes-drawn m w m' 8192 9216 d (f.votes J1) (omega arith) (omega arith) in
    let p : votes_at m' 12288 ≡ votes_at m 12288 = votes-drawn m w m' 12288 12288 d (f.votes J2) (omega arith) (omega arith) in
    rw (h, p) refl
