-- Where weak bits may lie in the journals. Source: own.
use Rattle.std.specs.Prelude.{◌≡◌, ◌≢◌, ◌⊎◌, ℕ, ◌+◌, ◌*◌, ◌<◌, ◌≤◌, true, false, List}
use Rattle.std.specs.Int.{bit_at}
use Rattle.chip_model.specs.Memory.{byte}
use Rattle.chip_model.specs.Wavering.{Bits, Drawn}
use Rattle.nor_layout.specs.declared.journal.JournalId.{JournalId}
use Rattle.nor_layout.specs.declared.journal.JournalId.TheVariants.{J0}
use Rattle.nor_layout.specs.Journals.{journal_at, block_len, region_len, first_at, second_at}
use Rattle.nor_layout.specs.Entries.{entry_count, entry_at}
use Rattle.erase_journal.specs.declared.phase.ErasePhase.{ErasePhase}
use Rattle.erase_journal.specs.declared.phase.ErasePhase.TheVariants.{Doomed}
use Rattle.erase_journal.specs.Journals.{AreEntryBytes, AreJournalsSound, votes_at, entry_byte}
use Rattle.erase_journal.specs.Journals.{begun, entries_for, is_free_entry, IsHealthy}
use Rattle.erase_journal.specs.Blocks.{is_opened}

-- none of the n bytes from a place on has a weak bit
abbrev pub AreFirm : List ℕ → ℕ → ℕ → Type 0
AreFirm w at n = (k : ℕ) → k < n → byte w (at + k) ≡ 0

-- of a block that has an open entry in m no bit is weak
abbrev pub AreNamedFirm : List ℕ → List ℕ → Type 0
AreNamedFirm m w = (b : ℕ) → 0 < entries_for m b → AreFirm w (block_len * b) block_len

-- the same where the believed J0 holds that entry
abbrev pub AreOpenedFirm : List ℕ → List ℕ → Type 0
AreOpenedFirm m w = (b : ℕ) → is_opened m b ≡ true → AreFirm w (block_len * b) block_len

-- of the n bytes from a place on each bit that reads 0 is firm
abbrev pub AreZerosFirm : Bits → ℕ → ℕ → Type 0
AreZerosFirm b at n = (i k : ℕ) → at ≤ i → i < at + n → k < 8 → bit_at (byte b.shown i) k ≡ 0
    → bit_at (byte b.weak i) k ≡ 0

-- no bit of a journal is weak
abbrev pub IsFirmJournal : List ℕ → JournalId → Type 0
IsFirmJournal w j = AreFirm w (journal_at j) block_len

-- of the votes of all journals each bit that reads 0 is firm
abbrev pub AreVotesBelieved : Bits → Type 0
AreVotesBelieved b = (j : JournalId) → AreZerosFirm b (journal_at j) (2 * region_len)

-- What a firm recovery leaves of the weak bits, in a phase of the journals: each bit of a vote that
-- read 0 is firm, and so is the journal whose erase went on.
pub record SettlesFirmly (old new : Bits) : Type 0 where
  pub phase : ErasePhase
  pub sound : AreJournalsSound phase old.shown
  pub bytes : AreEntryBytes old.shown
  pub erased : (x : JournalId) → begun phase ≡ Doomed x → IsFirmJournal new.weak x
  pub zeros : (j : JournalId) (i k : ℕ) → journal_at j ≤ i → i < journal_at j + 2 * region_len
      → k < 8 → bit_at (byte old.shown i) k ≡ 0 → bit_at (byte new.weak i) k ≡ 0

-- A vote is firm; or it was given up: it reads as closed or given up, and bit 0, by which these
-- differ, is perhaps weak.
pub data IsFirmVote (m w : List ℕ) (at : ℕ) : Type 0 where
  firm : byte w at ≡ 0 → IsFirmVote m w at
  given_up : byte w at ≤ 1 → 252 ≤ byte m at → byte m at ≤ 253 → IsFirmVote m w at

-- vote k of a region is the lowest one that is unused
pub record IsLowestUnused (m : List ℕ) (place k : ℕ) : Type 0 where
  pub unused : byte m (place + k) ≡ 255
  pub below : (i : ℕ) → i < k → byte m (place + i) ≢ 255

-- What a firm recovery leaves of the votes of a region: all are firm, but for the lowest unused
-- one, whose bits 0 and 1 are perhaps weak.
pub data IsRecoveredVote (b : Bits) (place k : ℕ) : Type 0 where
  is_firm : IsFirmVote b.shown b.weak (place + k) → IsRecoveredVote b place k
  lowest : byte b.weak (place + k) < 4 → IsLowestUnused b.shown place k
      → IsRecoveredVote b place k

abbrev pub AreRecoveredVotes : Bits → ℕ → Type 0
AreRecoveredVotes b place = (k : ℕ) → k < region_len → IsRecoveredVote b place k

-- all votes of a region are firm
abbrev pub AreFirmVotes : Bits → ℕ → Type 0
AreFirmVotes b place = (k : ℕ) → k < region_len → IsFirmVote b.shown b.weak (place + k)

-- they are, or are as a recovery left them, and at most five are unused: one more is given up only
-- while the votes last
pub data AreFirmOrFew (b : Bits) (place : ℕ) : Type 0 where
  are_firm : AreFirmVotes b place → AreFirmOrFew b place
  few : (votes_at b.shown place).unused ≤ 5 → AreRecoveredVotes b place → AreFirmOrFew b place

-- something holds of each of the six regions
abbrev pub InEachRegion : (ℕ → Type 0) → Type 0
InEachRegion P = (x : JournalId) → P (first_at x) × P (second_at x)

-- Entry i of J0 is used for good: a bit of its last byte reads 0, and is firm.
pub record IsUsedForGood (b : Bits) (i : ℕ) : Type 0 where
  pub bit : ℕ
  pub inside : bit < 8
  pub reads : bit_at (entry_byte b.shown i 3) bit ≡ 0
  pub firm : bit_at (byte b.weak (entry_at i + 3)) bit ≡ 0

-- entry i is the lowest free one
pub record IsLowestFreeEntry (m : List ℕ) (i : ℕ) : Type 0 where
  pub within : i < entry_count
  pub free : is_free_entry m i ≡ true
  pub below : (k : ℕ) → k < i → is_free_entry m k ≡ false

-- The lowest free entry of before is used for good.
pub record GivesUpLowest (old new : Bits) : Type 0 where
  pub at : ℕ
  pub lowest : IsLowestFreeEntry old.shown at
  pub used : IsUsedForGood new at

-- Of the entries that are used each is used for good.
abbrev pub AreUsedForGood : Bits → Type 0
AreUsedForGood b = (i : ℕ) → i < entry_count → is_free_entry b.shown i ≡ false → IsUsedForGood b i

-- What one interrupted step leaves of a vote: its bits 0 and 1 alone are weak, of an unused one
-- only where it is the lowest of its region.
pub record IsHalfVote (b : Bits) (place k : ℕ) : Type 0 where
  pub bits : byte b.weak (place + k) < 4
  pub unused : byte b.shown (place + k) ≡ 255
      → (byte b.weak (place + k) ≡ 0) ⊎ IsLowestUnused b.shown place k

abbrev pub AreHalfVotes : Bits → ℕ → Type 0
AreHalfVotes b place = (k : ℕ) → k < region_len → IsHalfVote b place k

-- of the entries each free one is firm, or the lowest
abbrev pub AreHalfEntries : Bits → Type 0
AreHalfEntries b = (i : ℕ) → i < entry_count → is_free_entry b.shown i ≡ true
    → AreFirm b.weak (entry_at i) 4 ⊎ IsLowestFreeEntry b.shown i

-- What is said of the journals that are believed in a phase; one that is being erased may have any
-- weak bits.
pub record AreHalfFirm (p : ErasePhase) (b : Bits) : Type 0 where
  pub votes : (j : JournalId) → (begun p ≡ Doomed j → ⊥)
      → AreHalfVotes b (journal_at j) × AreHalfVotes b (journal_at j + region_len)
  pub entries : (begun p ≡ Doomed J0 → ⊥) → AreHalfEntries b

-- What one interrupted operation leaves of firm journals, in whatever phase they read to be.
pub record AreInterruptedJournals (b : Bits) : Type 0 where
  pub superblock : AreFirm b.weak 0 16
  pub half : (p : ErasePhase) → AreJournalsSound p b.shown → AreHalfFirm p b

-- What a loss of power leaves of firm journals: however the weak bits read at the next power-on,
-- the journals are healthy, and of them one operation was interrupted.
abbrev pub AreInterruptedAtEachDraw : Bits → Type 0
AreInterruptedAtEachDraw b = (v : List ℕ) → Drawn b.weak b.shown v
    → IsHealthy v × AreInterruptedJournals (record { shown = v; weak = b.weak })

-- What a firm recovery leaves of these: the first 16 bytes of the superblock are firm, all votes
-- but the lowest unused one of a region, and each free entry but the lowest.
pub record AreRecoveredJournals (b : Bits) : Type 0 where
  pub superblock : AreFirm b.weak 0 16
  pub votes : InEachRegion (AreRecoveredVotes b)
  pub entries : AreHalfEntries b

-- Firm journals: the first 16 bytes of the superblock are firm, all votes, and each entry that
-- isn't used for good.
pub record AreFirmJournals (b : Bits) : Type 0 where
  pub superblock : AreFirm b.weak 0 16
  pub votes : InEachRegion (AreFirmVotes b)
  pub entries : (i : ℕ) → i < entry_count → AreFirm b.weak (entry_at i) 4 ⊎ IsUsedForGood b i
