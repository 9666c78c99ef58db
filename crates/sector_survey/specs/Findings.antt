-- What a finding says of a memory: each case that a mount refuses as corrupt, with its place.
-- Source: own, layouts 1 and 2 (docs/LAYOUT.md).
use Rattle.std.specs.Prelude.{◌≡◌, ◌≢◌, ◌⊎◌, ℕ, ◌+◌, ◌/◌, ◌<◌, ◌≤◌, List, length, Err, true}
use Rattle.chip_model.specs.Geometry.{sector_count}
use Rattle.nor_layout.specs.Layouts.{layout_of}
use Rattle.nor_layout.specs.Superblock.{layout_in}
use Rattle.nor_layout.specs.Headers.{next_generation}
use Rattle.nor_layout.specs.declared.header.Generation.{Generation}
use Rattle.nor_layout.specs.declared.kind.Kind.{Kind}
use Rattle.nor_layout.specs.declared.kind.Kind.TheVariants as kinds
use Rattle.nor_layout.specs.declared.superblock.SuperError.TheVariants as refusals
use Rattle.erase_journal.specs.Journals.{tally_of}
use Rattle.sector_slots.specs.Slots.{Slot, is_group, NoGeneration, slot_at, slot_count, kind_at}
use Rattle.sector_slots.specs.Slots.{data_blocks, IsSpareIn}
use Rattle.sector_slots.specs.Blocks.{AreAtRest, HasGroupRoom}
use Rattle.sector_slots.specs.Sectors.{LiveAt}
use Rattle.sector_map.specs.Maps.{IsMountable, geometry_of}
use Rattle.sector_survey.specs.Journals.{IsJournalFault}
use Rattle.sector_survey.specs.declared.finding.Finding.{Finding}
use Rattle.sector_survey.specs.declared.finding.Finding.TheVariants as findings

-- a block that is a committed copy
abbrev pub IsCommitted : Kind → Type 0
IsCommitted kinds.Plain = ⊥
IsCommitted kinds.Void = ⊥
IsCommitted (kinds.Committed source) = Unit {0}
IsCommitted kinds.Settled = ⊥
IsCommitted (kinds.Group tag) = ⊥
IsCommitted kinds.DeadGroup = ⊥
IsCommitted kinds.SpoiltGroup = ⊥
IsCommitted kinds.Unknown = ⊥

-- block b of a chip with n data blocks can't be what data block c is the copy of: it is no data
-- block, or this one
abbrev pub IsNoSource : ℕ → ℕ → ℕ → Type 0
IsNoSource b c n = (b < 4) ⊎ ((n + 4 ≤ b) ⊎ (b ≡ c + 4))

-- some generation and content with which slot s is live with sector g
pub record HoldsOne (f : ℕ → Slot) (n s g : ℕ) : Type 0 where
  pub generation : Generation
  pub content : List ℕ
  pub live : LiveAt f n s g generation content

-- two slots are live with sector g, and neither generation is the next of the other one's
pub record AreNoNeighbours (f : ℕ → Slot) (n s t g : ℕ) : Type 0 where
  pub first : HoldsOne f n s g
  pub second : HoldsOne f n t g
  pub other : s ≢ t
  pub not_after : first.generation ≢ next_generation second.generation
  pub not_before : second.generation ≢ next_generation first.generation

-- three are
pub record AreThree (f : ℕ → Slot) (n r s t g : ℕ) : Type 0 where
  pub first : HoldsOne f n r g
  pub second : HoldsOne f n s g
  pub third : HoldsOne f n t g
  pub one_two : r ≢ s
  pub two_three : s ≢ t
  pub one_three : r ≢ t

-- two are, of which one lies in a block of a group and the other doesn't
pub record AreOfTwoLayouts (kind : ℕ → Kind) (f : ℕ → Slot) (n s t g : ℕ) : Type 0 where
  pub first : HoldsOne f n s g
  pub second : HoldsOne f n t g
  pub differ : is_group (kind (s / 7)) ≢ is_group (kind (t / 7))

-- no copying goes on, no block is wholly free, and none can be made so
pub record HasNoRoom (m : List ℕ) : Type 0 where
  pub rest : AreAtRest (kind_at m) (data_blocks m)
  pub none : (c : ℕ) → c < data_blocks m → IsSpareIn m c → ⊥
  pub groups : HasGroupRoom (kind_at m) (data_blocks m) → ⊥

-- What a finding says of slots; the others say nothing of them.
abbrev pub IsSlotFault : Finding → (ℕ → Slot) → ℕ → ℕ → Type 0
IsSlotFault findings.OtherLayout f n count = ⊥
IsSlotFault findings.OtherSize f n count = ⊥
IsSlotFault (findings.Journals fault) f n count = ⊥
IsSlotFault (findings.UnknownBlock c) f n count = ⊥
IsSlotFault (findings.GroupOnSlots c) f n count = ⊥
IsSlotFault (findings.TwoCopyings c d) f n count = ⊥
IsSlotFault (findings.WrongSource c b) f n count = ⊥
IsSlotFault findings.NoRoom f n count = ⊥
IsSlotFault (findings.NoGeneration s) f n count = (s < n) × (f s ≡ NoGeneration)
IsSlotFault (findings.NoSuchSector s g) f n count = HoldsOne f n s g × (count ≤ g)
IsSlotFault (findings.NotNeighbours s t g) f n count = AreNoNeighbours f n s t g
IsSlotFault (findings.ThreeSlots r s t g) f n count = AreThree f n r s t g
IsSlotFault (findings.TwoLayouts s t g) f n count = ⊥

abbrev pub IsSlotFaultIn : Finding → List ℕ → Type 0
IsSlotFaultIn finding m = IsSlotFault finding (slot_at m) (slot_count m) (sector_count (length m))

-- What a finding says of a memory.
abbrev pub Explains : Finding → List ℕ → Type 0
Explains findings.OtherLayout m = layout_of m (geometry_of (length m)) ≡ Err refusals.Layout
Explains findings.OtherSize m = layout_of m (geometry_of (length m)) ≡ Err refusals.Geometry
Explains (findings.Journals fault) m = IsJournalFault fault (tally_of m)
Explains (findings.UnknownBlock c) m = (c < data_blocks m) × (kind_at m c ≡ kinds.Unknown)
Explains (findings.GroupOnSlots c) m =
    (layout_in m ≡ 2) × (c < data_blocks m) × (is_group (kind_at m c) ≡ true)
Explains (findings.TwoCopyings c d) m =
    (c < d) × (d < data_blocks m) × IsCommitted (kind_at m c) × IsCommitted (kind_at m d)
Explains (findings.WrongSource c b) m =
    (c < data_blocks m) × (kind_at m c ≡ kinds.Committed b) × IsNoSource b c (data_blocks m)
Explains findings.NoRoom m = HasNoRoom m
Explains (findings.NoGeneration s) m = IsSlotFaultIn (findings.NoGeneration s) m
Explains (findings.NoSuchSector s g) m = IsSlotFaultIn (findings.NoSuchSector s g) m
Explains (findings.NotNeighbours s t g) m = IsSlotFaultIn (findings.NotNeighbours s t g) m
Explains (findings.ThreeSlots r s t g) m = IsSlotFaultIn (findings.ThreeSlots r s t g) m
Explains (findings.TwoLayouts s t g) m =
    AreOfTwoLayouts (kind_at m) (slot_at m) (slot_count m) s t g

-- A memory of which a finding is true is refused by a mount.
abbrev pub FindingsAreRefused : Type 0
FindingsAreRefused = (finding : Finding) (m : List ℕ) → Explains finding m → IsMountable m → ⊥
