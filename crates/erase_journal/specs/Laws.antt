-- What follows from the definitions, for the crates above and for a reader. Source: own.
use Rattle.std.specs.Prelude.{◌≡◌, ◌↔◌, ℕ, ◌<◌, ◌≤◌, true, List, length}
use Rattle.chip_model.specs.Geometry.{IsChipSize, block_count}
use Rattle.chip_model.specs.Wavering.{Bits, Drawn}
use Rattle.nor_driver.specs.State.{NorState, bits_in}
use Rattle.nor_layout.specs.declared.journal.JournalId.{JournalId}
use Rattle.nor_layout.specs.Journals.{block_len}
use Rattle.erase_journal.specs.declared.unused.Unused.{Unused}
use Rattle.erase_journal.specs.Votes.{Last, IsLowestTired, once_erased}
use Rattle.nor_layout.specs.Entries.{entry_count}
use Rattle.erase_journal.specs.Journals.{IsHealthy, IsSettled, entry_block, is_open_entry}
use Rattle.erase_journal.specs.Journals.{open_blocks}
use Rattle.erase_journal.specs.Blocks.{block, blank, blocks_of, IsErasedBehind, SameBlocks}
use Rattle.erase_journal.specs.Steps.{SucceedsSettled}
use Rattle.erase_journal.specs.Weak.{AreFirmJournals, AreInterruptedJournals}

-- all blocks have one length
abbrev pub BlocksHaveOneSize : Type 0
BlocksHaveOneSize = (m : List ℕ) (b : ℕ) → b < block_count (length m)
    → length (block m b) ≡ block_len

-- two memories with the same data blocks have the same list of them
abbrev pub SameBlocksMakeOneList : Type 0
SameBlocksMakeOneList = (m m' : List ℕ) → SameBlocks m m' → blocks_of m' ≡ blocks_of m

-- votes that last still do after an erase of maintenance, which so never takes the last vote of a
-- region
abbrev pub MaintenanceKeepsVotes : Type 0
MaintenanceKeepsVotes = (x : JournalId) (u : Unused) → Last u → IsLowestTired x u
    → Last (once_erased x u)

-- one block at most has open entries exactly where any two of these name the same block
abbrev pub OneBlockIsOpen : Type 0
OneBlockIsOpen = (m : List ℕ) → (open_blocks m ≤ 1) ↔ ((i k : ℕ) → i < entry_count
    → k < entry_count → is_open_entry m i ≡ true → is_open_entry m k ≡ true
    → entry_block m i ≡ entry_block m k)

-- a chip that is erased behind its superblock is a settled journal's, and each of its data blocks
-- is erased
abbrev pub ErasedChipsAreSettled : Type 0
ErasedChipsAreSettled = (m : List ℕ) → IsChipSize (length m) → IsErasedBehind m
    → IsSettled m × ((b : ℕ) → 4 ≤ b → b < block_count (length m) → block m b ≡ blank)

-- a call that answered Ok, with no erase going on before it and after it, leaves firm journals firm
abbrev pub FirmJournalsStayFirm : Type 0
FirmJournalsStayFirm = (a b : NorState) → IsSettled a.memory → SucceedsSettled a b
    → AreFirmJournals (bits_in a) → AreFirmJournals (bits_in b)

-- firm journals at a power-on: healthy where they were, firm, and as a firm recovery wants them
abbrev pub FirmJournalsStandEachDraw : Type 0
FirmJournalsStandEachDraw = (b : Bits) (v : List ℕ) → AreFirmJournals b → Drawn b.weak b.shown v
    → (IsHealthy b.shown → IsHealthy v)
    × AreFirmJournals (record { shown = v; weak = b.weak })
    × AreInterruptedJournals (record { shown = v; weak = b.weak })
