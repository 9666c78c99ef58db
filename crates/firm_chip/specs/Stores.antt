-- What a draw of the weak bits leaves of a chip that a firm mount left. Source: own, layout 2.
use Rattle.std.specs.Prelude.{◌≡◌, ◌<◌, ℕ, List, length}
use Rattle.chip_model.specs.Geometry.{sector_count}
use Rattle.chip_model.specs.Wavering.{Bits, Drawn}
use Rattle.erase_journal.specs.Journals.{IsHealthy, IsSettled}
use Rattle.erase_journal.specs.Weak.{AreFirmJournals}
use Rattle.sector_slots.specs.Blocks.{AreSettled}
use Rattle.sector_slots.specs.Slots.{IsClean}
use Rattle.sector_slots.specs.Sectors.{HasSlotsAlone, IsSingle, IsSoundMap, sector_at}
use Rattle.sector_slots.specs.Weak.{IsDoubtedStore, IsHalfChip, IsHalfStore}
use Rattle.sector_map.specs.Maps.{IsMountable}
use Rattle.firm_chip.specs.Draws.{IsSameDisk}

-- Of a chip whose journals and data blocks are as a firm mount leaves them, each draw of the weak
-- bits is the same disk: where it has no corrupt case, no block is of a group, no sector has two
-- live slots, and what reads as free is erased. An erase or a copying of a data block may go on.
abbrev pub EachDrawOfADoubtedStoreIsTheSameDisk : Type 0
EachDrawOfADoubtedStoreIsTheSameDisk = (b : Bits) (m' : List ℕ) → AreFirmJournals b
    → IsDoubtedStore b → IsHealthy b.shown → IsSoundMap b.shown → HasSlotsAlone b.shown
    → IsSingle b.shown → IsClean b.shown → Drawn b.weak b.shown m' → IsSameDisk b.shown m'

-- Of a memory as it is between two calls, none of whose blocks is of a group: however its weak bits
-- read at a later power-on, the data blocks that a firm mount left are ones of which one change was
-- interrupted, as the next firm mount needs them; also where it reads as if an erase went on.
abbrev pub DoubtedStoresAreHalfAtEachDraw : Type 0
DoubtedStoresAreHalfAtEachDraw = (b : Bits) (m' : List ℕ) → IsSettled b.shown
    → IsSoundMap b.shown → AreSettled b.shown → HasSlotsAlone b.shown
    → IsDoubtedStore b → Drawn b.weak b.shown m'
    → IsHalfChip (record { shown = m'; weak = b.weak })
    × (IsSettled m' → IsHalfStore (record { shown = m'; weak = b.weak }))

-- A mount takes m', and reads of each sector what m has.
pub record ReadsAgain (m m' : List ℕ) : Type 0 where
  pub same_length : length m' ≡ length m
  pub mountable : IsMountable m'
  pub sectors : (g : ℕ) → g < sector_count (length m) → sector_at m' g ≡ sector_at m g
