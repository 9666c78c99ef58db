-- What the descriptors of a block say of its slots, and of the table that is made of them. Source:
-- own, layout 2.
use Rattle.std.specs.Prelude.{◌≡◌, ◌≢◌, ℕ, ◌+◌, ◌*◌, ◌<◌, ◌≤◌, List, length, Option, Some, None}
use Rattle.std.specs.Prelude.{slice_index_or}
use Rattle.nor_layout.specs.declared.header.Generation.{Generation}
use Rattle.nor_layout.specs.declared.header.Header.{Header}
use Rattle.nor_layout.specs.declared.header.Header.TheVariants as headers
use Rattle.nor_layout.specs.declared.header.Tag.{Tag}
use Rattle.sector_slots.specs.Slots.{Slot, Live, slot_with, read_header, slot_at}
use Rattle.sector_slots.specs.Sectors.{SoundSlots}
use Rattle.sector_map.specs.Table.{IsTabled, KeptOne}
use Rattle.sector_stock.specs.declared.given.Copied.{Copied}
use Rattle.sector_map.specs.declared.table.LiveSlots.{LiveSlots}
use Rattle.sector_map.specs.declared.table.LiveSlots.TheVariants.{Absent, One}

-- the slots of data block b have these seven descriptors
abbrev pub HeadsOf : List Header → (ℕ → Slot) → ℕ → Type 0
HeadsOf heads f b = (i : ℕ) → i < 7
    → (x : List ℕ) × (f (7 * b + i) ≡ slot_with (read_header heads i) x)

-- the table was that of the slots before data block b, and is that of those before b + 1
abbrev pub EntersBlock : List Header → ℕ → List LiveSlots → List LiveSlots → Type 0
EntersBlock heads b old new = (f : ℕ → Slot) → HeadsOf heads f b → IsTabled old f (7 * b)
    → IsTabled new f (7 * b + 7)

abbrev pub RefusesBlock : List Header → ℕ → List LiveSlots → Type 0
RefusesBlock heads b old = (f : ℕ → Slot) (total count : ℕ) → HeadsOf heads f b → 7 * b + 7 ≤ total
    → IsTabled old f (7 * b) → length old ≡ count → SoundSlots f total count → ⊥

-- The entries of the sectors of a block whose first n descriptors are these name its slots; all
-- other entries are as they were.
pub record Follows (n b : ℕ) (heads : List Header) (old new : List LiveSlots) : Type 0 where
  pub size : length new ≡ length old
  pub here : (i : ℕ) (tag : Tag) → i < n → read_header heads i ≡ headers.Live tag
      → slice_index_or new tag.number Absent
      ≡ One (record { slot = 7 * b + i; generation = tag.generation })
  pub others : (g : ℕ) → g < length old
      → ((i : ℕ) (k : Generation) → i < n
      → read_header heads i ≢ headers.Live (record { number = g; generation = k }))
      → slice_index_or new g Absent ≡ slice_index_or old g Absent

-- no two of these descriptors are live with one sector, and each sector is one of the table
pub record AreApart (heads : List Header) (count : ℕ) : Type 0 where
  pub within : (i : ℕ) (tag : Tag) → i < 7 → read_header heads i ≡ headers.Live tag
      → tag.number < count
  pub one : (i j : ℕ) (a b : Tag) → i < 7 → j < 7 → read_header heads i ≡ headers.Live a
      → read_header heads j ≡ headers.Live b → a.number ≡ b.number → i ≡ j

-- The same in the words of a memory: the entries of the sectors of block b name its slots, and all
-- other entries are as they were.
pub record FollowsBlock (b : ℕ) (old new : List LiveSlots) (m : List ℕ) : Type 0 where
  pub size : length new ≡ length old
  pub here : (i : ℕ) (tag : Tag) (x : List ℕ) → i < 7 → slot_at m (7 * b + i) ≡ Live tag x
      → slice_index_or new tag.number Absent
      ≡ One (record { slot = 7 * b + i; generation = tag.generation })
  pub others : (g : ℕ) → g < length old
      → ((i : ℕ) (k : Generation) (x : List ℕ) → i < 7
      → slot_at m (7 * b + i) ≢ Live (record { number = g; generation = k }) x)
      → slice_index_or new g Absent ≡ slice_index_or old g Absent

-- what becomes of the table once a slot was taken: it follows the block that was copied, if one was
abbrev pub TableFollows : Option Copied → List LiveSlots → List LiveSlots → List ℕ → Type 0
TableFollows None old new m = new ≡ old
TableFollows (Some copied) old new m = FollowsBlock copied.target old new m

-- what becomes of it by one descriptor
abbrev pub FollowsHead : ℕ → Header → List LiveSlots → List LiveSlots → Type 0
FollowsHead n headers.Free old new = new ≡ old
FollowsHead n (headers.Live tag) old new =
    KeptOne old tag.number (record { slot = n; generation = tag.generation }) new
FollowsHead n headers.NoGeneration old new = new ≡ old
FollowsHead n headers.Dead old new = new ≡ old
