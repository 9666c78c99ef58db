-- The sectors that slots represent: a finite map from a sector's number to its 512 bytes. Slots are
-- given by their number, from 0 to n - 1; sectors have the numbers below `count`. Source: own.
use Rattle.std.specs.Prelude.{◌≡◌, ◌≢◌, ◌⊎◌, ℕ, zero, suc, Bool, false, ◌/◌, ◌<◌, ◌==◌, List}
use Rattle.std.specs.Prelude.{if◌then◌else◌, length, replicate}
use Rattle.chip_model.specs.Geometry.{sector_count}
use Rattle.nor_layout.specs.declared.header.Generation.{Generation}
use Rattle.nor_layout.specs.declared.header.Generation.TheVariants as generations
use Rattle.nor_layout.specs.Headers.{next_generation, generation_byte}
use Rattle.sector_slots.specs.Slots.{Slot, Free, Live, NoGeneration, Dead, Outside, slot_at}
use Rattle.nor_layout.specs.declared.kind.Kind.{Kind}
use Rattle.nor_layout.specs.Superblock.{layout_in}
use Rattle.sector_slots.specs.Slots.{is_group, slot_count, kind_at, data_blocks}
use Rattle.sector_slots.specs.Blocks.{AreSound, AreSettled}

-- what an absent sector holds
unfoldable pub zeros : List ℕ
zeros = replicate 512 0

-- slot s is live with sector g, generation k and content x
pub record LiveAt (f : ℕ → Slot) (n s g : ℕ) (k : Generation) (x : List ℕ) : Type 0 where
  pub number : s < n
  pub is : f s ≡ Live (record { number = g; generation = k }) x

-- no slot is live with sector g
abbrev pub IsAbsent : (ℕ → Slot) → ℕ → ℕ → Type 0
IsAbsent f n g = (s : ℕ) (k : Generation) (x : List ℕ) → LiveAt f n s g k x → ⊥

-- What sector g holds: zeros where it is absent, else the content of its newest live slot, the one
-- whose generation is the next of every other one's.
pub data SectorIs (f : ℕ → Slot) (n g : ℕ) (x : List ℕ) : Type 0 where
  absent : IsAbsent f n g → x ≡ zeros → SectorIs f n g x
  held : (s : ℕ) (k : Generation) → LiveAt f n s g k x
      → ((t : ℕ) (j : Generation) (y : List ℕ) → LiveAt f n t g j y → t ≢ s → k ≡ next_generation j)
      → SectorIs f n g x

-- the sectors below `count` hold these contents
pub record Maps (f : ℕ → Slot) (n count : ℕ) (sectors : ℕ → List ℕ) : Type 0 where
  pub each : (g : ℕ) → g < count → SectorIs f n g (sectors g)

-- None of the cases of corrupt slots: each live slot's sector is one of the chip; two live slots of
-- a sector are neighbours in generation; there are no three of one sector; and no slot is without a
-- generation.
pub record SoundSlots (f : ℕ → Slot) (n count : ℕ) : Type 0 where
  pub sector : (s g : ℕ) (k : Generation) (x : List ℕ) → LiveAt f n s g k x → g < count
  pub neighbours : (s t g : ℕ) (j k : Generation) (x y : List ℕ) → LiveAt f n s g j x
      → LiveAt f n t g k y → s ≢ t
      → (j ≡ next_generation k) ⊎ (k ≡ next_generation j)
  pub two : (r s t g : ℕ) (i j k : Generation) (x y z : List ℕ) → LiveAt f n r g i x
      → LiveAt f n s g j y → LiveAt f n t g k z
      → (r ≡ s) ⊎ ((s ≡ t) ⊎ (r ≡ t))
  pub whole : (s : ℕ) → s < n → f s ≢ NoGeneration

-- no two live slots of one sector, as it is between two calls
pub record Single (f : ℕ → Slot) (n : ℕ) : Type 0 where
  pub one : (s t g : ℕ) (j k : Generation) (x y : List ℕ) → LiveAt f n s g j x → LiveAt f n t g k y
      → s ≡ t

-- the generation for a new content of sector g: Zero where it is absent, else the one after that of
-- a live slot
pub data NextGeneration (f : ℕ → Slot) (n g : ℕ) (k : Generation) : Type 0 where
  begun : IsAbsent f n g → k ≡ generations.Zero → NextGeneration f n g k
  after : (s : ℕ) (j : Generation) (x : List ℕ) → LiveAt f n s g j x → k ≡ next_generation j
      → NextGeneration f n g k

-- no sector is live both in a slot of its own and in a block with its group
pub record GroupsAreApart (kind : ℕ → Kind) (f : ℕ → Slot) (n : ℕ) : Type 0 where
  pub apart : (s t g : ℕ) (j k : Generation) (x y : List ℕ) → LiveAt f n s g j x
      → LiveAt f n t g k y → is_group (kind (s / 7)) ≡ is_group (kind (t / 7))

-- slots without a corrupt case that represent these sectors
pub record SlotsRepresent (f : ℕ → Slot) (n count : ℕ) (sectors : ℕ → List ℕ) : Type 0 where
  pub sound : SoundSlots f n count
  pub maps : Maps f n count sectors

-- these sectors, but with this content in sector g
abbrev pub with_sector : (ℕ → List ℕ) → ℕ → List ℕ → ℕ → List ℕ
with_sector sectors g x h = if h == g then x else sectors h

-- all slots but w are as they were
pub record OthersKept (n w : ℕ) (f f' : ℕ → Slot) : Type 0 where
  pub each : (s : ℕ) → s < n → s ≢ w → f' s ≡ f s

-- The same by computation. Whether a slot is live with sector g:
abbrev pub is_of : ℕ → Slot → Bool
is_of g Free = false
is_of g (Live tag x) = tag.number == g
is_of g NoGeneration = false
is_of g Dead = false
is_of g Outside = false

-- the generation of a live slot
abbrev pub generation_in : Slot → Generation
generation_in Free = generations.Zero
generation_in (Live tag x) = tag.generation
generation_in NoGeneration = generations.Zero
generation_in Dead = generations.Zero
generation_in Outside = generations.Zero

-- what a live slot holds, and zeros for any other
abbrev pub content_in : Slot → List ℕ
content_in Free = zeros
content_in (Live tag x) = x
content_in NoGeneration = zeros
content_in Dead = zeros
content_in Outside = zeros

-- whether generation k comes right after generation j
abbrev pub is_next : Generation → Generation → Bool
is_next k j = generation_byte k == generation_byte (next_generation j)

-- of two slots the one that holds sector g, the newer one where both are live with it
abbrev pub newer : ℕ → Slot → Slot → Slot
newer g s t = if is_of g s then (if is_of g t
    then (if is_next (generation_in s) (generation_in t) then s else t) else s) else t

-- of the slots below n the one that holds sector g, and a dead one where none does
unfoldable pub winner : (ℕ → Slot) → ℕ → ℕ → Slot
winner f zero g = Dead
winner f (suc n) g = newer g (f n) (winner f n g)

abbrev pub sector_content : (ℕ → Slot) → ℕ → ℕ → List ℕ
sector_content f n g = content_in (winner f n g)

-- A memory's: sector g of it; whether its slots and blocks are sound; whether no sector has two
-- live slots; and whether it holds these sectors.
abbrev pub sector_at : List ℕ → ℕ → List ℕ
sector_at m g = sector_content (slot_at m) (slot_count m) g

-- No block is of a group, live or dead.
abbrev pub HasSlotsAlone : List ℕ → Type 0
HasSlotsAlone m = (c : ℕ) → c < data_blocks m → is_group (kind_at m c) ≡ false

-- So it is where the superblock says layout 2.
abbrev pub HasOnlySlots : List ℕ → Type 0
HasOnlySlots m = layout_in m ≡ 2 → HasSlotsAlone m

-- what is asked of blocks with groups
pub record GroupsFit (m : List ℕ) : Type 0 where
  pub sectors : GroupsAreApart (kind_at m) (slot_at m) (slot_count m)
  pub layout : HasOnlySlots m

pub record IsSoundMap (m : List ℕ) : Type 0 where
  pub slots : SoundSlots (slot_at m) (slot_count m) (sector_count (length m))
  pub blocks : AreSound m
  pub groups : GroupsFit m

abbrev pub IsSingle : List ℕ → Type 0
IsSingle m = Single (slot_at m) (slot_count m)

pub record HoldsSectors (sectors : ℕ → List ℕ) (m : List ℕ) : Type 0 where
  pub slots : SlotsRepresent (slot_at m) (slot_count m) (sector_count (length m)) sectors
  pub blocks : AreSound m
  pub groups : GroupsFit m

-- As it is between two calls: no sector has two live slots, no copying goes on, and a block is
-- wholly free.
pub record IsAtRestMap (m : List ℕ) : Type 0 where
  pub single : IsSingle m
  pub blocks : AreSettled m
