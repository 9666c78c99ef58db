-- What the calls of a map leave of a chip, by their answer. Source: own, layout 2.
use Rattle.std.specs.Prelude.{◌≡◌, ◌≢◌, ◌⊎◌, ℕ, ◌+◌, ◌<◌, ◌≤◌, Bool, true, false, List, length}
use Rattle.std.specs.Prelude.{Option, Some, None, Result, Ok, Err}
use Rattle.chip_model.specs.Geometry.{block_count, group_count, sector_count}
use Rattle.chip_model.specs.declared.geometry.Geometry.{Geometry}
use Rattle.nor_layout.specs.Layouts.{layout_of}
use Rattle.nor_layout.specs.declared.layout.Layout.{Layout}
use Rattle.nor_layout.specs.Superblock.{mixed_in}
use Rattle.nor_driver.specs.State.{NorState, IsNorReady, OnlyMemoryChanges}
use Rattle.nor_driver.specs.declared.error.NorError.{NorError}
use Rattle.erase_journal.specs.Blocks.{SameChip, SameBlocks}
use Rattle.erase_journal.specs.Journals.{IsHealthy, IsSettled}
use Rattle.sector_slots.specs.Slots.{IsClean}
use Rattle.sector_slots.specs.Blocks.{AreSettled}
use Rattle.sector_slots.specs.Sectors.{IsSingle, IsSoundMap, HasSlotsAlone, sector_at}
use Rattle.sector_map.specs.Marking.{SameDisk, IsUnmarked, mixed_mark}
use Rattle.sector_map.specs.Table.{IsTableOf}
use Rattle.sector_map.specs.declared.table.LiveSlots.{LiveSlots}
use Rattle.sector_map.specs.declared.error.MapError.{MapError}
use Rattle.nor_layout.specs.declared.superblock.SuperError.{SuperError}
use Rattle.nor_layout.specs.declared.superblock.SuperError.TheVariants as refusals
use Rattle.nor_driver.specs.declared.error.NorError.TheVariants as errors
use Rattle.sector_map.specs.declared.error.MapError.TheVariants as mounts
use Rattle.sector_stock.specs.Index.{erases_of, AreWithin}
use Rattle.sector_stock.specs.declared.index.BlockState.{BlockState}
use Rattle.sector_stock.specs.declared.policy.Policy.{Policy}
use Rattle.sector_stock.specs.declared.policy.Policy.TheVariants as policies

-- the counts of a chip of so many bytes
abbrev pub geometry_of : ℕ → Geometry
geometry_of bytes = record {
  blocks = block_count bytes;
  groups = group_count bytes;
  sectors = sector_count bytes;
}

-- Behind the superblock: the journals are healthy, slots and blocks sound. A block is of slots, or
-- of a group.
pub record IsStore (m : List ℕ) : Type 0 where
  pub journals : IsHealthy m
  pub slots : IsSoundMap m

-- the superblock is that of a chip of its size, of layout 1 or 2 or mixed
abbrev pub is_layout : Result Layout SuperError → Bool
is_layout (Ok layout) = true
is_layout (Err error) = false

abbrev pub IsLaidOut : List ℕ → Type 0
IsLaidOut m = is_layout (layout_of m (geometry_of (length m))) ≡ true

-- A healthy chip: besides, the journals are healthy, and slots and blocks sound.
pub record IsMountable (m : List ℕ) : Type 0 where
  pub superblock : IsLaidOut m
  pub store : IsStore m

-- What a call leaves that writes no sector: a memory that is still one of a map, and where no block
-- was of a group none is; and where what read as free was erased it still is, and each sector is as
-- it was.
pub record KeepsMap (m m' : List ℕ) : Type 0 where
  pub chip : SameChip m m'
  pub store : IsStore m'
  pub alone : HasSlotsAlone m → HasSlotsAlone m'
  pub sectors : IsClean m → (g : ℕ) → g < sector_count (length m) → sector_at m' g ≡ sector_at m g
  pub clean : IsClean m → IsClean m'

-- What a mount and a restore leave, of any memory, also where what read as free wasn't erased. The
-- superblock is as it was, but that of a chip of layout 1 may say that it is mixed.
pub record KeepsEach (m m' : List ℕ) : Type 0 where
  pub disk : SameDisk m m'
  pub store : IsStore m'
  pub sectors : (g : ℕ) → g < sector_count (length m) → sector_at m' g ≡ sector_at m g
  pub clean : IsClean m → IsClean m'

-- And what a write of x into sector g leaves: this sector has it, and every other its own.
pub record Sets (g : ℕ) (x m m' : List ℕ) : Type 0 where
  pub chip : SameChip m m'
  pub store : IsStore m'
  pub alone : HasSlotsAlone m → HasSlotsAlone m'
  pub there : IsClean m → sector_at m' g ≡ x
  pub others : IsClean m → (h : ℕ) → h < sector_count (length m) → h ≢ g
      → sector_at m' h ≡ sector_at m h
  pub clean : IsClean m → IsClean m'

-- Cut, it leaves every sector as it was, or this one new.
abbrev pub SetLeaves : ℕ → List ℕ → List ℕ → List ℕ → Type 0
SetLeaves g x m m' = KeepsMap m m' ⊎ Sets g x m m'

-- Whether the latched error is a Slow, and what is known while it does: where nothing is latched,
-- the power is on, table and index are those of the memory, and no copying goes on; while a Cut is
-- latched, the memory is that of a map.
abbrev pub is_slow_in : Option NorError → Bool
is_slow_in None = false
is_slow_in (Some errors.Cut) = false
is_slow_in (Some errors.Slow) = true

pub record IsServing (table : List LiveSlots) (state : NorState) (indexed : Bool) : Type 0 where
  pub ready : IsNorReady state
  pub settled : IsSettled state.memory
  pub store : IsStore state.memory
  pub blocks : AreSettled state.memory
  pub tabled : IsTableOf table state.memory
  pub index : indexed ≡ true

-- No erase of the journals and no copying goes on, and no sector has two live slots.
pub record IsSettledMap (m : List ℕ) : Type 0 where
  pub journals : IsSettled m
  pub blocks : AreSettled m
  pub single : IsSingle m

pub record IsCutOff (state : NorState) : Type 0 where
  pub off : state.powered ≡ false
  pub quick : state.is_slow ≡ false
  pub store : IsStore state.memory

abbrev pub KnownWhile : Option NorError → List LiveSlots → NorState → Bool → Type 0
KnownWhile None table state indexed = IsServing table state indexed
KnownWhile (Some errors.Cut) table state indexed = IsCutOff state
KnownWhile (Some errors.Slow) table state indexed = Unit {0}

-- what a map shows of the store behind it: a Slow that was answered stands until a restore answers
-- Ok
abbrev pub shown_with : Option NorError → NorState → NorState
shown_with latched state = record state { is_slow = is_slow_in latched }

-- what a write that answered Ok leaves beside the sectors: the table is again that of the memory
pub record Wrote (g : ℕ) (x : List ℕ) (table : List LiveSlots) (old new : NorState)
    (indexed : Bool) : Type 0 where
  pub sets : Sets g x old.memory new.memory
  pub served : IsServing table new indexed

-- and a call that writes none
pub record KeptServing (table : List LiveSlots) (old new : NorState) (indexed : Bool) : Type 0 where
  pub keeps : KeepsMap old.memory new.memory
  pub served : IsServing table new indexed

-- A mount that answered Ok: a chip of layout 1 is mixed now.
pub record Mounted (old new : NorState) : Type 0 where
  pub mountable : IsMountable old.memory
  pub keeps : KeepsEach old.memory new.memory
  pub marked : IsUnmarked old.memory → mixed_in new.memory ≡ mixed_mark
  pub ready : IsNorReady old
  pub kept : OnlyMemoryChanges old new

-- One that was cut: a mountable memory stays one, with the same sectors. No block of a chip of
-- layout 1 has changed until it is mixed.
pub record MountWasCut (old new : NorState) : Type 0 where
  pub came : (old.cuts < new.cuts) ⊎ (old.powered ≡ false)
  pub slows : new.slows ≡ old.slows
  pub powered : new.powered ≡ false
  pub quick : old.is_slow ≡ false → new.is_slow ≡ false
  pub size : length new.memory ≡ length old.memory
  pub keeps : IsMountable old.memory → KeepsEach old.memory new.memory
  pub first : IsMountable old.memory → IsUnmarked old.memory
      → SameBlocks old.memory new.memory ⊎ (mixed_in new.memory ≡ mixed_mark)

-- One that met a slow operation.
pub record MountWasSlow (old new : NorState) : Type 0 where
  pub came : (old.slows < new.slows) ⊎ (old.is_slow ≡ true)
  pub cuts : new.cuts ≡ old.cuts
  pub size : length new.memory ≡ length old.memory

-- One that met what no write leaves: nothing changed, or the journals were healthy and went on with
-- an erase, which changes no block. So no sector changed. The superblock's name is there, and its
-- seal.
pub record MountWasCorrupt (old new : NorState) : Type 0 where
  pub corrupt : IsMountable old.memory → ⊥
  pub formatted : layout_of old.memory (geometry_of (length old.memory)) ≢ Err refusals.NotFormatted
  pub cuts : new.cuts ≡ old.cuts
  pub slows : new.slows ≡ old.slows
  pub quick : old.is_slow ≡ false → new.is_slow ≡ false
  pub leaves : (new.memory ≡ old.memory) ⊎ (IsHealthy old.memory × SameBlocks old.memory new.memory)
  pub size : length new.memory ≡ length old.memory
  pub sectors : (g : ℕ) → sector_at new.memory g ≡ sector_at old.memory g

-- One that changed nothing.
pub record MountChangedNothing (old new : NorState) : Type 0 where
  pub same : new.memory ≡ old.memory
  pub kept : OnlyMemoryChanges old new

abbrev pub MountFails : MapError → NorState → NorState → Type 0
MountFails mounts.Cut old new = MountWasCut old new
MountFails mounts.Slow old new = MountWasSlow old new
MountFails mounts.Corrupt old new = MountWasCorrupt old new
MountFails mounts.OutOfMemory old new = MountChangedNothing old new
MountFails mounts.NotFormatted old new =
    (layout_of old.memory (geometry_of (length old.memory)) ≡ Err refusals.NotFormatted)
    × MountChangedNothing old new

-- A restore that answered Ok; where no Slow was latched, the sectors are as they were.
pub record MapRestored (old new : NorState) : Type 0 where
  pub cuts : new.cuts ≡ old.cuts
  pub slows : new.slows ≡ old.slows
  pub ready : IsNorReady new
  pub size : length new.memory ≡ length old.memory
  pub store : IsStore new.memory
  pub keeps : old.is_slow ≡ false → KeepsEach old.memory new.memory

-- One that was cut, which is only where a loss of power came in it. A Slow that was latched still
-- stands.
pub record MapRestoreCut (old new : NorState) : Type 0 where
  pub cuts : old.cuts < new.cuts
  pub slows : new.slows ≡ old.slows
  pub powered : new.powered ≡ false
  pub slow : new.is_slow ≡ old.is_slow
  pub size : length new.memory ≡ length old.memory
  pub keeps : old.is_slow ≡ false → KeepsEach old.memory new.memory

-- One that answered Slow: an operation didn't end in it, or an earlier one that didn't left a
-- memory that can't be mounted.
pub record MapRestoreSlow (old new : NorState) : Type 0 where
  pub came : (old.slows < new.slows) ⊎ ((old.is_slow ≡ true) × (IsStore new.memory → ⊥))
  pub cuts : new.cuts ≡ old.cuts
  pub risen : old.slows ≤ new.slows
  pub powered : new.powered ≡ true
  pub slow : new.is_slow ≡ true
  pub size : length new.memory ≡ length old.memory

abbrev pub MapRestoreFails : NorError → NorState → NorState → Type 0
MapRestoreFails errors.Cut old new = MapRestoreCut old new
MapRestoreFails errors.Slow old new = MapRestoreSlow old new

-- Where blocks are chosen by erases, none of n was erased over k times more often than another one.
abbrev pub IsEven : ℕ → Policy → ℕ → List BlockState → Type 0
IsEven k policy n blocks = policy ≡ policies.Level → AreWithin k n (erases_of blocks)

-- by how much the counts of n blocks lie apart at most, it is one less
abbrev pub Nearer : ℕ → (ℕ → ℕ) → (ℕ → ℕ) → Type 0
Nearer n erases erases' = (k : ℕ) → AreWithin (k + 1) n erases → AreWithin k n erases'
