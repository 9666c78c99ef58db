-- What the steps of a diagnosis answer. Words of private functions: no claim rests on them.
-- Source: own.
use Rattle.std.specs.Prelude.{◌≡◌, ℕ, ◌+◌, ◌*◌, ◌<◌, ◌≤◌, Bool, true, false, List, length, None}
use Rattle.std.specs.Prelude.{slice_index_or}
use Rattle.nor_layout.specs.declared.header.Header.{Header}
use Rattle.nor_layout.specs.declared.header.Header.TheVariants as headers
use Rattle.nor_layout.specs.declared.header.Tag.{Tag}
use Rattle.nor_layout.specs.declared.kind.Kind.{Kind}
use Rattle.nor_layout.specs.declared.kind.Kind.TheVariants as kinds
use Rattle.sector_slots.specs.Slots.{Slot, is_group}
use Rattle.sector_map.specs.Scan.{HeadsOf}
use Rattle.sector_map.specs.Table.{IsTabled, noted}
use Rattle.sector_map.specs.declared.table.LiveSlots.{LiveSlots}
use Rattle.sector_map.specs.declared.table.LiveSlots.TheVariants.{Absent, One, Two}
use Rattle.sector_map.specs.declared.found.Found.{Found}
use Rattle.sector_map.specs.declared.found.Found.TheVariants.{AtRest, Void, Committed}
use Rattle.sector_map.specs.declared.table.Held.{Held}
use Rattle.sector_survey.specs.Findings.{IsCommitted, IsNoSource, IsSlotFault}
use Rattle.sector_survey.specs.declared.finding.Finding.{Finding}
use Rattle.sector_survey.specs.declared.finding.Finding.TheVariants as findings

-- the committed copy that was found, and that none was
abbrev pub IsTargetOf : Found → ℕ → Type 0
IsTargetOf AtRest c = ⊥
IsTargetOf (Void t) c = ⊥
IsTargetOf (Committed s t) c = c ≡ t

abbrev pub HasNoCopy : Found → Type 0
HasNoCopy AtRest = Unit {0}
HasNoCopy (Void t) = Unit {0}
HasNoCopy (Committed s t) = ⊥

-- why one more block of this kind, of n, is refused
abbrev pub IsKindFault : Finding → Bool → Found → ℕ → Kind → ℕ → Type 0
IsKindFault findings.OtherLayout groups found block kind n = ⊥
IsKindFault findings.OtherSize groups found block kind n = ⊥
IsKindFault (findings.Journals fault) groups found block kind n = ⊥
IsKindFault (findings.UnknownBlock c) groups found block kind n =
    (c ≡ block) × (kind ≡ kinds.Unknown)
IsKindFault (findings.GroupOnSlots c) groups found block kind n =
    (c ≡ block) × (is_group kind ≡ true) × (groups ≡ false)
IsKindFault (findings.TwoCopyings c d) groups found block kind n =
    (d ≡ block) × IsCommitted kind × IsTargetOf found c
IsKindFault (findings.WrongSource c b) groups found block kind n =
    (c ≡ block) × (kind ≡ kinds.Committed b) × IsNoSource b block n
IsKindFault findings.NoRoom groups found block kind n = ⊥
IsKindFault (findings.NoGeneration s) groups found block kind n = ⊥
IsKindFault (findings.NoSuchSector s g) groups found block kind n = ⊥
IsKindFault (findings.NotNeighbours s t g) groups found block kind n = ⊥
IsKindFault (findings.ThreeSlots r s t g) groups found block kind n = ⊥
IsKindFault (findings.TwoLayouts s t g) groups found block kind n = ⊥

-- why one more live slot n, with this tag, is not entered into a table
abbrev pub IsTagFault : Finding → List LiveSlots → ℕ → Tag → Type 0
IsTagFault findings.OtherLayout table n tag = ⊥
IsTagFault findings.OtherSize table n tag = ⊥
IsTagFault (findings.Journals fault) table n tag = ⊥
IsTagFault (findings.UnknownBlock c) table n tag = ⊥
IsTagFault (findings.GroupOnSlots c) table n tag = ⊥
IsTagFault (findings.TwoCopyings c d) table n tag = ⊥
IsTagFault (findings.WrongSource c b) table n tag = ⊥
IsTagFault findings.NoRoom table n tag = ⊥
IsTagFault (findings.NoGeneration s) table n tag = ⊥
IsTagFault (findings.NoSuchSector s g) table n tag =
    (s ≡ n) × (g ≡ tag.number) × (length table ≤ g)
IsTagFault (findings.NotNeighbours s t g) table n tag =
    (t ≡ n) × (g ≡ tag.number) × (g < length table) × (held : Held) × (s ≡ held.slot)
    × (slice_index_or table g Absent ≡ One held)
    × (noted (One held) (record { slot = n; generation = tag.generation }) ≡ None)
IsTagFault (findings.ThreeSlots r s t g) table n tag =
    (t ≡ n) × (g ≡ tag.number) × (g < length table) × (newer : Held) × (older : Held)
    × (r ≡ newer.slot) × (s ≡ older.slot) × (slice_index_or table g Absent ≡ Two newer older)
IsTagFault (findings.TwoLayouts s t g) table n tag = ⊥

-- why one more slot n, with this descriptor, isn't
abbrev pub IsHeadFault : Finding → List LiveSlots → ℕ → Header → Type 0
IsHeadFault finding table n headers.Free = ⊥
IsHeadFault finding table n (headers.Live tag) = IsTagFault finding table n tag
IsHeadFault finding table n headers.NoGeneration = finding ≡ findings.NoGeneration n
IsHeadFault finding table n headers.Dead = ⊥

-- so the slots of data block b, which has these descriptors, are corrupt
abbrev pub FaultsBlock : List Header → ℕ → List LiveSlots → Finding → Type 0
FaultsBlock heads b old finding = (f : ℕ → Slot) (total count : ℕ) → HeadsOf heads f b
    → 7 * b + 7 ≤ total → IsTabled old f (7 * b) → length old ≡ count
    → IsSlotFault finding f total count
