-- A sector that is written anew: what has to stand before, and what it leaves. Source: own.
use Rattle.std.specs.Prelude.{◌≡◌, ◌≢◌, ◌⊎◌, ℕ, ◌/◌, ◌<◌, false, List, length, Option, Some, None}
use Rattle.chip_model.specs.Geometry.{sector_count}
use Rattle.nor_layout.specs.Headers.{next_generation}
use Rattle.nor_layout.specs.declared.header.Generation.{Generation}
use Rattle.nor_layout.specs.declared.header.Generation.TheVariants as generations
use Rattle.nor_layout.specs.declared.header.Tag.{Tag}
use Rattle.erase_journal.specs.Blocks.{SameChip}
use Rattle.sector_slots.specs.Slots.{Free, slot_at, slot_count, data_blocks, IsClean, IsSpareIn}
use Rattle.sector_slots.specs.Slots.{kind_at, is_group}
use Rattle.sector_slots.specs.Blocks.{AreSettled}
use Rattle.sector_slots.specs.Sectors.{LiveAt, IsAbsent, IsSingle, IsSoundMap, HoldsSectors}
use Rattle.sector_slots.specs.Sectors.{HasSlotsAlone, sector_at, with_sector}
use Rattle.sector_stock.specs.Room.{IsOutside}
use Rattle.sector_map.specs.declared.table.Held.{Held}

-- which slot holds sector g; None where the sector is absent
abbrev pub HeldBy : Option Held → ℕ → List ℕ → Type 0
HeldBy None g m = IsAbsent (slot_at m) (slot_count m) g
HeldBy (Some held) g m = (content : List ℕ)
    × LiveAt (slot_at m) (slot_count m) held.slot g held.generation content

-- the generation of a sector's new content
abbrev pub generation_after : Option Held → Generation
generation_after None = generations.Zero
generation_after (Some held) = next_generation held.generation

-- and its tag
abbrev pub tag_after : ℕ → Option Held → Tag
tag_after g holder = record { number = g; generation = generation_after holder }

-- slot w lies outside a wholly free block
pub record IsPlaced (w : ℕ) (m : List ℕ) : Type 0 where
  pub reserve : ℕ
  pub number : reserve < data_blocks m
  pub spare : IsSpareIn m reserve
  pub apart : reserve ≢ w / 7

-- no block with its group holds sector g: each live slot that does is in a block of slots
abbrev pub IsInSlots : ℕ → List ℕ → Type 0
IsInSlots g m = (s : ℕ) (k : Generation) (x : List ℕ) → LiveAt (slot_at m) (slot_count m) s g k x
    → is_group (kind_at m (s / 7)) ≡ false

-- Sector g, which this slot holds, can be written anew into slot w, which is free.
pub record IsReplaceable (w g : ℕ) (holder : Option Held) (m : List ℕ) : Type 0 where
  pub free : slot_at m w ≡ Free
  pub place : IsPlaced w m
  pub outside : IsOutside w m
  pub sound : IsSoundMap m
  pub single : IsSingle m
  pub blocks : AreSettled m
  pub sector : g < sector_count (length m)
  pub held : HeldBy holder g m
  pub own : IsInSlots g m

-- Sector g has the content x, and every other sector the one that it had; no slot but this one
-- holds g, no copying goes on, and where no block is of a group none is.
pub record Replaces (g : ℕ) (x : List ℕ) (holder : Held) (m m' : List ℕ) : Type 0 where
  pub chip : SameChip m m'
  pub sectors : HoldsSectors (with_sector (sector_at m) g x) m'
  pub alone : HasSlotsAlone m → HasSlotsAlone m'
  pub single : IsSingle m'
  pub blocks : AreSettled m'
  pub held : HeldBy (Some holder) g m'
  pub others : (h : ℕ) (other : Option Held) → h ≢ g → HeldBy other h m → HeldBy other h m'

-- What it leaves where it is cut: every sector as it was, or sector g new and every other as it
-- was.
pub record ReplaceLeaves (g : ℕ) (x : List ℕ) (m m' : List ℕ) : Type 0 where
  pub chip : SameChip m m'
  pub sectors : HoldsSectors (sector_at m) m' ⊎ HoldsSectors (with_sector (sector_at m) g x) m'
  pub alone : HasSlotsAlone m → HasSlotsAlone m'

-- The content x was written into sector g. Where free slots were erased the sector has it, and they
-- are still; else it has some content, and every other sector its own.
pub record Rewrites (g : ℕ) (x : List ℕ) (holder : Held) (m m' : List ℕ) : Type 0 where
  pub content : List ℕ
  pub replaces : Replaces g content holder m m'
  pub exact : IsClean m → content ≡ x
  pub clean : IsClean m → IsClean m'

-- and the same of a write that was cut
pub record RewriteLeaves (g : ℕ) (x : List ℕ) (m m' : List ℕ) : Type 0 where
  pub content : List ℕ
  pub leaves : ReplaceLeaves g content m m'
  pub exact : IsClean m → content ≡ x
  pub clean : IsClean m → IsClean m'
