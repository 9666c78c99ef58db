-- The copying of a block into the reserve, as its calls leave it. Source: own, layout 2.
use Rattle.std.specs.Prelude.{◌≡◌, ◌≢◌, ℕ, ◌+◌, ◌<◌, List, [], length}
use Rattle.std.specs.Int.{bit_at}
use Rattle.chip_model.specs.Memory.{byte}
use Rattle.chip_model.specs.Wavering.{Bits}
use Rattle.erase_journal.specs.Blocks.{SameChip}
use Rattle.sector_slots.specs.Slots.{Slot, Free, Live, NoGeneration, Dead, Outside, data_blocks}
use Rattle.sector_slots.specs.Slots.{data_block, kind_at, raw_slot, slot_at, slot_count, IsClean}
use Rattle.sector_slots.specs.Slots.{IsSpareIn, content_bytes, blank_sector}
use Rattle.sector_slots.specs.Blocks.{AreAtRest, AreSettled, IsTarget}
use Rattle.sector_slots.specs.Firm.{SameStates}
use Rattle.sector_slots.specs.Weak.{mark_place}
use Rattle.sector_slots.specs.Copying.{SameLive, copy_slot, source_slot}
use Rattle.sector_slots.specs.Sectors.{IsSingle, IsSoundMap, HasSlotsAlone, HoldsSectors}
use Rattle.nor_layout.specs.declared.kind.Kind.TheVariants as kinds

-- a slot without its content: where the free slots of a memory aren't erased throughout, a copy has
-- the tag, and any content
abbrev pub bare : Slot → Slot
bare Free = Free
bare (Live tag content) = Live tag []
bare NoGeneration = NoGeneration
bare Dead = Dead
bare Outside = Outside

-- each map of sectors that m holds, m' does
abbrev pub SameSectors : List ℕ → List ℕ → Type 0
SameSectors m m' = (sectors : ℕ → List ℕ) → HoldsSectors sectors m → HoldsSectors sectors m'

-- what leaves the map of sectors as it was, a clean memory clean, and makes no block one of a group
pub record KeepsSectors (m m' : List ℕ) : Type 0 where
  pub chip : SameChip m m'
  pub sectors : SameSectors m m'
  pub alone : HasSlotsAlone m → HasSlotsAlone m'
  pub clean : IsClean m → IsClean m'

-- What a copying leaves that was cut: slots and blocks that a mount accepts; and the sectors as
-- they were, where what read as free was erased.
pub record Stays (m m' : List ℕ) : Type 0 where
  pub chip : SameChip m m'
  pub sound : IsSoundMap m → IsSoundMap m'
  pub alone : HasSlotsAlone m → HasSlotsAlone m'
  pub exact : IsClean m → KeepsSectors m m'

-- nothing was programmed into the slots of block t since it was erased
abbrev pub IsFresh : ℕ → List ℕ → Type 0
IsFresh t m = (i : ℕ) → i < 7 → content_bytes (data_block m t) i ≡ blank_sector

-- Block s can be copied into block t: no copying goes on, and t is wholly free.
pub record IsCopyable (s t : ℕ) (m : List ℕ) : Type 0 where
  pub source : s < data_blocks m
  pub target : t < data_blocks m
  pub other : s ≢ t
  pub rest : AreAtRest (kind_at m) (data_blocks m)
  pub spare : IsSpareIn m t
  pub sound : IsSoundMap m
  pub single : IsSingle m

-- what a mount that ends a copying leaves: the same sectors, and no copying goes on
pub record Reclaimed (m m' : List ℕ) : Type 0 where
  pub chip : SameChip m m'
  pub sectors : SameSectors m m'
  pub single : IsSingle m → IsSingle m'
  pub blocks : AreSettled m'
  pub alone : HasSlotsAlone m → HasSlotsAlone m'
  pub clean : IsClean m → IsClean m'

-- besides, each slot that counts is as it was, or represents nothing before and after
pub record EndsCopy (m m' : List ℕ) : Type 0 where
  pub whole : Reclaimed m m'
  pub live : SameLive (slot_at m) (slot_at m') (slot_count m)

-- What the erase of block s and the settling of block t leave of each block.
pub record IsFinished (s t : ℕ) (m m' : List ℕ) : Type 0 where
  pub same_length : length m' ≡ length m
  pub blocks : (d : ℕ) → d < data_blocks m → d ≢ s → d ≢ t → data_block m' d ≡ data_block m d
  pub target : (i : ℕ) → i < 7 → raw_slot m' t i ≡ raw_slot m t i
  pub settled : kind_at m' t ≡ kinds.Settled
  pub erased : IsSpareIn m' s

-- Block s was copied into block t, in every slot: t is settled and has the copies of the slots of
-- s, s is wholly free, and all other blocks are as they were.
pub record IsCopiedWhole (s t : ℕ) (m m' : List ℕ) : Type 0 where
  pub same_length : length m' ≡ length m
  pub same_kind : (d : ℕ) → d < data_blocks m → d ≢ s → d ≢ t → kind_at m' d ≡ kind_at m d
  pub same_slots : (d i : ℕ) → d < data_blocks m → d ≢ s → d ≢ t → raw_slot m' d i ≡ raw_slot m d i
  pub settled : kind_at m' t ≡ kinds.Settled
  pub copied : (i : ℕ) → i < 7 → bare (raw_slot m' t i) ≡ copy_slot (bare (source_slot m s i))
  pub erased : IsSpareIn m' s

-- What a whole copying leaves: every slot as above, and no copying goes on; and where what read as
-- free was erased it still is, and the sectors are what they were, as they are where block t was
-- fresh.
pub record Copies (s t : ℕ) (m m' : List ℕ) : Type 0 where
  pub chip : SameChip m m'
  pub blocks : AreSettled m'
  pub slots : IsCopiedWhole s t m m'
  pub sectors : IsClean m → SameSectors m m'
  pub clean : IsClean m → IsClean m'
  pub fresh : IsFresh t m → KeepsSectors m m'

-- Block t was erased, and block s copied into it: the sectors are what they were, whatever block t
-- held.
pub record MovesAfresh (s t : ℕ) (m m' : List ℕ) : Type 0 where
  pub copies : Copies s t m m'
  pub keeps : KeepsSectors m m'

-- all blocks but s and t are as they were
abbrev pub OthersStay : ℕ → ℕ → List ℕ → List ℕ → Type 0
OthersStay s t m m' = (d : ℕ) → d < data_blocks m → d ≢ s → d ≢ t → data_block m' d ≡ data_block m d

-- Block t, a committed copy, was settled: the states of its slots are the same bytes, and the bit
-- of its mark that tells the two apart is firm.
pub record SettlesCopy (t : ℕ) (old new : Bits) : Type 0 where
  pub states : SameStates t old.shown new.shown
  pub third : bit_at (byte new.weak (mark_place t)) 2 ≡ 0

-- Block t was made settled: none of its slots changed, and no other block.
pub record OnlySettles (t : ℕ) (m m' : List ℕ) : Type 0 where
  pub others : OthersStay t t m m'
  pub target : (i : ℕ) → i < 7 → raw_slot m' t i ≡ raw_slot m t i
  pub settled : kind_at m' t ≡ kinds.Settled

-- Block t is void, whatever goes on beside it. So a mount may find it.
pub record IsVoidIn (t : ℕ) (m : List ℕ) : Type 0 where
  pub number : t < data_blocks m
  pub void : kind_at m t ≡ kinds.Void

-- What its erase leaves, one void block fewer: block t is wholly free, all others are as they were,
-- and each slot that counts is as it was, or represents nothing before and after.
pub record EndsVoid (t : ℕ) (m m' : List ℕ) : Type 0 where
  pub keeps : KeepsSectors m m'
  pub single : IsSingle m → IsSingle m'
  pub erased : IsSpareIn m' t
  pub blocks : (d : ℕ) → d < data_blocks m → d ≢ t → data_block m' d ≡ data_block m d
  pub live : SameLive (slot_at m) (slot_at m') (slot_count m)

-- Block t is the committed copy of block s, and no other copying goes on. So a mount may find it
-- once it has erased the void blocks.
pub record IsCommittedIn (s t : ℕ) (m : List ℕ) : Type 0 where
  pub target : IsTarget t (data_blocks m) (kind_at m)
  pub committed : kind_at m t ≡ kinds.Committed (s + 4)
  pub sound : IsSoundMap m
