-- What a draw of a firm chip's weak bits leaves. Source: own, layout 2.
use Rattle.std.specs.Prelude.{◌≡◌, ℕ, ◌<◌, List, length}
use Rattle.chip_model.specs.Geometry.{sector_count}
use Rattle.chip_model.specs.Wavering.{Bits, Drawn}
use Rattle.chip_model.specs.declared.geometry.Geometry.{Geometry}
use Rattle.nor_layout.specs.Layouts.{layout_of}
use Rattle.nor_layout.specs.declared.journal.JournalId.{JournalId}
use Rattle.nor_layout.specs.Journals.{journal_at}
use Rattle.nor_layout.specs.Entries.{entry_count}
use Rattle.erase_journal.specs.Journals.{tally_of, IsHealthy}
use Rattle.erase_journal.specs.Weak.{AreFirm, AreFirmJournals}
use Rattle.sector_slots.specs.Slots.{IsClean}
use Rattle.sector_slots.specs.Sectors.{IsSoundMap, sector_at}
use Rattle.firm_chip.specs.FirmChips.{AreVotesFirm, IsFirmChip, IsFirmEntry}

-- A mount reads the same of both: the superblock says the same; the journals have the same numbers,
-- and are healthy; slots and blocks are sound; each sector is as it was. What reads as free is
-- erased.
pub record IsSameDisk (m m' : List ℕ) : Type 0 where
  pub same_length : length m' ≡ length m
  pub superblock : (chip : Geometry) → layout_of m' chip ≡ layout_of m chip
  pub numbers : tally_of m' ≡ tally_of m
  pub journals : IsHealthy m'
  pub slots : IsSoundMap m'
  pub sectors : (g : ℕ) → g < sector_count (length m) → sector_at m' g ≡ sector_at m g
  pub clean : IsClean m'

-- Of a firm chip whose journals are healthy and whose slots and blocks are sound, also while a
-- block is copied or erased, each draw of the weak bits is the same disk.
abbrev pub EachDrawIsTheSameDisk : Type 0
EachDrawIsTheSameDisk = (m w m' : List ℕ) → IsFirmChip m w → IsHealthy m → IsSoundMap m
    → Drawn w m m' → IsSameDisk m m'

-- Firm journals are as those of a firm chip: superblock, votes and entries.
abbrev pub FirmJournalsAreOfFirmChips : Type 0
FirmJournalsAreOfFirmChips = (b : Bits) → AreFirmJournals b → AreFirm b.weak 0 16
    × ((j : JournalId) → AreVotesFirm b.shown b.weak (journal_at j))
    × ((i : ℕ) → i < entry_count → IsFirmEntry b.shown b.weak i)
