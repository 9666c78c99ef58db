-- The table of a map: which slots hold each sector. Source: own.
use Rattle.std.specs.Prelude.{◌≡◌, ◌≢◌, ◌⊎◌, ℕ, ◌<◌, ◌≤◌, Bool, true, false, List, length, Option}
use Rattle.std.specs.Prelude.{Some, None, if◌then◌else◌, slice_index_or}
use Rattle.nor_layout.specs.declared.header.Generation.{Generation}
use Rattle.nor_layout.specs.declared.header.Header.{Header}
use Rattle.nor_layout.specs.declared.header.Header.TheVariants as headers
use Rattle.nor_layout.specs.Headers.{next_generation}
use Rattle.chip_model.specs.Geometry.{sector_count}
use Rattle.erase_journal.specs.Blocks.{SameChip}
use Rattle.sector_slots.specs.Slots.{Slot, NoGeneration, slot_at, slot_count, IsClean}
use Rattle.sector_slots.specs.Blocks.{AreSettled}
use Rattle.sector_slots.specs.Sectors.{LiveAt, IsAbsent, is_next, IsSingle}
use Rattle.sector_slots.specs.Sectors.{IsSoundMap, HoldsSectors, sector_at}
use Rattle.nor_layout.specs.Superblock.{mixed_in}
use Rattle.sector_map.specs.Marking.{SameDisk, IsUnmarked, mixed_mark}
use Rattle.sector_map.specs.declared.table.Held.{Held}
use Rattle.sector_map.specs.declared.table.LiveSlots.{LiveSlots}
use Rattle.sector_map.specs.declared.table.LiveSlots.TheVariants.{Absent, One, Two}

-- the slot of this holder is live with sector g
abbrev pub IsHeldIn : Held → (ℕ → Slot) → ℕ → ℕ → Type 0
IsHeldIn held f n g = (x : List ℕ) × LiveAt f n held.slot g held.generation x

pub record OneHolds (held : Held) (f : ℕ → Slot) (n g : ℕ) : Type 0 where
  pub live : IsHeldIn held f n g
  pub only : (s : ℕ) (k : Generation) (x : List ℕ) → LiveAt f n s g k x → s ≡ held.slot

pub record TwoHold (newer older : Held) (f : ℕ → Slot) (n g : ℕ) : Type 0 where
  pub newer_live : IsHeldIn newer f n g
  pub older_live : IsHeldIn older f n g
  pub next : newer.generation ≡ next_generation older.generation
  pub only : (s : ℕ) (k : Generation) (x : List ℕ) → LiveAt f n s g k x
      → (s ≡ newer.slot) ⊎ (s ≡ older.slot)

-- the live slots of sector g, of those below n, are those of its entry
abbrev pub EntryHolds : LiveSlots → (ℕ → Slot) → ℕ → ℕ → Type 0
EntryHolds Absent f n g = IsAbsent f n g
EntryHolds (One held) f n g = OneHolds held f n g
EntryHolds (Two newer older) f n g = TwoHold newer older f n g

-- The table says it of each sector; each live slot's sector is in it, and no slot is without a
-- generation.
pub record IsTabled (table : List LiveSlots) (f : ℕ → Slot) (n : ℕ) : Type 0 where
  pub each : (g : ℕ) → g < length table → EntryHolds (slice_index_or table g Absent) f n g
  pub within : (s g : ℕ) (k : Generation) (x : List ℕ) → LiveAt f n s g k x → g < length table
  pub whole : (s : ℕ) → s < n → f s ≢ NoGeneration

-- an entry once one more live slot was found; None where the slots are corrupt
abbrev pub noted : LiveSlots → Held → Option LiveSlots
noted Absent held = Some (One held)
noted (One first) held =
    if is_next held.generation first.generation then Some (Two held first) else
    if is_next first.generation held.generation then Some (Two first held) else
    None
noted (Two newer older) held = None

-- a table in which every sector is absent
abbrev pub IsBlankTable : List LiveSlots → Type 0
IsBlankTable table = (g : ℕ) → g < length table → slice_index_or table g Absent ≡ Absent

-- what the entry of one more live slot leaves of the table: the sector's entry with this slot, and
-- every other as it was
pub record Entered (old : List LiveSlots) (g : ℕ) (held : Held) (new : List LiveSlots)
    : Type 0 where
  pub number : g < length old
  pub size : length new ≡ length old
  pub entry : noted (slice_index_or old g Absent) held ≡ Some (slice_index_or new g Absent)
  pub others : (h : ℕ) → h < length old → h ≢ g
      → slice_index_or new h Absent ≡ slice_index_or old h Absent

-- nothing, where there is no such sector, or the slots are corrupt
abbrev pub Enters : List LiveSlots → ℕ → Held → Bool → List LiveSlots → Type 0
Enters old g held true new = Entered old g held new
Enters old g held false new = (new ≡ old)
    × ((length old ≤ g) ⊎ (noted (slice_index_or old g Absent) held ≡ None))

-- the same of a slot with this descriptor: nothing to enter where it is free or dead
abbrev pub Heads : List LiveSlots → ℕ → Header → Bool → List LiveSlots → Type 0
Heads old n headers.Free true new = new ≡ old
Heads old n headers.Free false new = ⊥
Heads old n (headers.Live tag) true new =
    Entered old tag.number (record { slot = n; generation = tag.generation }) new
Heads old n (headers.Live tag) false new = (new ≡ old)
    × ((length old ≤ tag.number) ⊎ (noted (slice_index_or old tag.number Absent)
    (record { slot = n; generation = tag.generation }) ≡ None))
Heads old n headers.NoGeneration true new = ⊥
Heads old n headers.NoGeneration false new = new ≡ old
Heads old n headers.Dead true new = new ≡ old
Heads old n headers.Dead false new = ⊥

-- the entry of sector g with this one slot, and every other as it was
pub record KeptOne (old : List LiveSlots) (g : ℕ) (held : Held) (new : List LiveSlots)
    : Type 0 where
  pub size : length new ≡ length old
  pub entry : slice_index_or new g Absent ≡ One held
  pub others : (h : ℕ) → h < length old → h ≢ g
      → slice_index_or new h Absent ≡ slice_index_or old h Absent

-- the entry of sector g without a slot, and every other as it was
pub record Unset (old : List LiveSlots) (g : ℕ) (new : List LiveSlots) : Type 0 where
  pub size : length new ≡ length old
  pub entry : slice_index_or new g Absent ≡ Absent
  pub others : (h : ℕ) → h < length old → h ≢ g
      → slice_index_or new h Absent ≡ slice_index_or old h Absent

-- no two slots
abbrev pub IsOneAtMost : LiveSlots → Type 0
IsOneAtMost Absent = Unit {0}
IsOneAtMost (One held) = Unit {0}
IsOneAtMost (Two newer older) = ⊥

-- the slot that holds the sector, the newer one of two
abbrev pub holder : LiveSlots → Option Held
holder Absent = None
holder (One held) = Some held
holder (Two newer older) = Some newer

-- The table says it of all slots of a memory, and no sector has two.
pub record IsTableOf (table : List LiveSlots) (m : List ℕ) : Type 0 where
  pub size : length table ≡ sector_count (length m)
  pub tabled : IsTabled table (slot_at m) (slot_count m)
  pub single : (g : ℕ) → g < length table → IsOneAtMost (slice_index_or table g Absent)

-- What a step of a mount leaves that mends the blocks: the same sectors, and what read as free and
-- was erased still is.
pub record Mends (m m' : List ℕ) : Type 0 where
  pub chip : SameChip m m'
  pub sectors : (sectors : ℕ → List ℕ) → HoldsSectors sectors m → HoldsSectors sectors m'
  pub clean : IsClean m → IsClean m'

-- The blocks were mended, the older of two slots retired, and the table is that of the memory.
pub record Repairs (m : List ℕ) (table : List LiveSlots) (m' : List ℕ) : Type 0 where
  pub mends : Mends m m'
  pub tabled : IsTableOf table m'
  pub blocks : AreSettled m'

-- A table that was made, a copying ended, room made, and the older of two slots or groups of a
-- sector retired: slots and blocks were sound, and the sectors are what they were.
pub record Mounts (m : List ℕ) (table : List LiveSlots) (m' : List ℕ) : Type 0 where
  pub sound : IsSoundMap m
  pub disk : SameDisk m m'
  pub marked : IsUnmarked m → mixed_in m' ≡ mixed_mark
  pub sectors : HoldsSectors (sector_at m) m'
  pub tabled : IsTableOf table m'
  pub single : IsSingle m'
  pub blocks : AreSettled m'
  pub clean : IsClean m → IsClean m'

-- One that was cut: where the slots were sound they are, and the sectors are what they were; a chip
-- of layout 1 is mixed, or nothing has changed.
pub record MountCut (m m' : List ℕ) : Type 0 where
  pub disk : SameDisk m m'
  pub first : IsUnmarked m → (m' ≡ m) ⊎ (mixed_in m' ≡ mixed_mark)
  pub sectors : IsSoundMap m → HoldsSectors (sector_at m) m'
  pub clean : IsClean m → IsClean m'
