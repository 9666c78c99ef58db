-- The copying of one block into another, as a machine over the blocks: what each step does to the
-- kinds and the slots of n data blocks, and what becomes of the slots that count. Source: own,
-- layout 2.
use Rattle.std.specs.Prelude.{◌≡◌, ◌≢◌, ◌⊎◌, ℕ, ◌+◌, ◌*◌, ◌/◌, ◌%◌, ◌<◌, ◌==◌, List, if◌then◌else◌}
use Rattle.nor_layout.specs.declared.header.Generation.{Generation}
use Rattle.nor_layout.specs.declared.header.Generation.TheVariants as generations
use Rattle.nor_layout.specs.Headers.{next_generation}
use Rattle.nor_layout.specs.declared.header.Tag.{Tag}
use Rattle.nor_layout.specs.declared.kind.Kind.{Kind}
use Rattle.nor_layout.specs.declared.kind.Kind.TheVariants as kinds
use Rattle.sector_slots.specs.Slots.{Slot, Free, Live, NoGeneration, Dead, Outside, IsSpare}
use Rattle.sector_slots.specs.Slots.{kind_at, raw_slot}
use Rattle.sector_slots.specs.Sectors.{LiveAt}
use Rattle.sector_slots.specs.Blocks.{AreAtRest, IsTarget}

-- all data blocks but c are as they were, in kind and slots
pub record OnlyData (c n : ℕ) (kind kind' : ℕ → Kind) (slots slots' : ℕ → ℕ → Slot) : Type 0 where
  pub same_kind : (d : ℕ) → d < n → d ≢ c → kind' d ≡ kind d
  pub same_slots : (d i : ℕ) → d < n → d ≢ c → slots' d i ≡ slots d i

-- a slot that represents nothing
abbrev pub HoldsNothing : Slot → Type 0
HoldsNothing Free = Unit {0}
HoldsNothing (Live tag content) = ⊥
HoldsNothing NoGeneration = ⊥
HoldsNothing Dead = Unit {0}
HoldsNothing Outside = Unit {0}

-- each of n slots is as it was, or represents nothing before and after: the sectors are the same,
-- and the slots that hold them
abbrev pub SameLive : (ℕ → Slot) → (ℕ → Slot) → ℕ → Type 0
SameLive f f' n = (s : ℕ) → s < n → (f' s ≡ f s) ⊎ (HoldsNothing (f s) × HoldsNothing (f' s))

-- what the copy of a slot is: of a live one the same sector and content; of any other nothing
pub data IsCopy (old new : Slot) : Type 0 where
  copied : (g : ℕ) (k j : Generation) (x : List ℕ)
      → old ≡ Live (record { number = g; generation = k }) x
      → new ≡ Live (record { number = g; generation = j }) x → IsCopy old new
  skipped : HoldsNothing old → HoldsNothing new → IsCopy old new

-- what `copy` leaves of a slot in the other block: of a live one the same tag and content; of any
-- other nothing was written
abbrev pub copy_slot : Slot → Slot
copy_slot Free = Free
copy_slot (Live tag content) = Live tag content
copy_slot NoGeneration = Free
copy_slot Dead = Free
copy_slot Outside = Free

-- The tag of a slot is that of its copy: of a live one the same, of any other none, since nothing
-- was written.
pub data CopiesTag (old new : Slot) : Type 0 where
  same_tag : (tag : Tag) (x y : List ℕ) → old ≡ Live tag x → new ≡ Live tag y → CopiesTag old new
  left_free : ((tag : Tag) (x : List ℕ) → old ≢ Live tag x) → new ≡ Free → CopiesTag old new

-- What the copy of a slot is to hold that lies in a block of this kind: the slot itself; of a
-- group's sector, which becomes a slot by it, with the first generation.
abbrev pub copied_tag : Kind → Tag → Tag
copied_tag kinds.Plain tag = tag
copied_tag kinds.Void tag = tag
copied_tag (kinds.Committed source) tag = tag
copied_tag kinds.Settled tag = tag
copied_tag (kinds.Group group) tag = record { number = tag.number; generation = generations.Zero }
copied_tag kinds.DeadGroup tag = tag
copied_tag kinds.SpoiltGroup tag = tag
copied_tag kinds.Unknown tag = tag

abbrev pub to_copy : Kind → Slot → Slot
to_copy kind Free = Free
to_copy kind (Live tag content) = Live (copied_tag kind tag) content
to_copy kind NoGeneration = NoGeneration
to_copy kind Dead = Dead
to_copy kind Outside = Outside

abbrev pub source_slot : List ℕ → ℕ → ℕ → Slot
source_slot m s i = to_copy (kind_at m s) (raw_slot m s i)

-- the live slots of f are those of f', under other numbers
pub record MovesSlots (f f' : ℕ → Slot) (n : ℕ) (to from : ℕ → ℕ) : Type 0 where
  pub on : (s g : ℕ) (k : Generation) (x : List ℕ) → LiveAt f n s g k x
      → (j : Generation) × LiveAt f' n (to s) g j x
  pub back : (t g : ℕ) (k : Generation) (x : List ℕ) → LiveAt f' n t g k x
      → (j : Generation) × LiveAt f n (from t) g j x
  pub round : (t g : ℕ) (k : Generation) (x : List ℕ) → LiveAt f' n t g k x → to (from t) ≡ t
  pub whole : (s : ℕ) → s < n → f' s ≢ NoGeneration

-- The steps of a copying of block s into block t, by the block that changes.
-- begin: a wholly free block becomes void.
pub record BeginsCopy (t n : ℕ) (kind kind' : ℕ → Kind) (slots slots' : ℕ → ℕ → Slot) : Type 0 where
  pub number : t < n
  pub rest : AreAtRest kind n
  pub spare : IsSpare kind slots t
  pub only : OnlyData t n kind kind' slots slots'
  pub now : kind' t ≡ kinds.Void

-- copy: anything in a void block.
pub record CopiesIn (t n : ℕ) (kind kind' : ℕ → Kind) (slots slots' : ℕ → ℕ → Slot) : Type 0 where
  pub target : IsTarget t n kind
  pub was : kind t ≡ kinds.Void
  pub only : OnlyData t n kind kind' slots slots'
  pub now : kind' t ≡ kinds.Void

-- commit: a void block that holds the copies of the slots of block s becomes the committed copy of
-- it.
pub record Commits (s t n : ℕ) (kind kind' : ℕ → Kind) (slots slots' : ℕ → ℕ → Slot) : Type 0 where
  pub target : IsTarget t n kind
  pub was : kind t ≡ kinds.Void
  pub number : s < n
  pub other : s ≢ t
  pub copies : (i : ℕ) → i < 7 → IsCopy (slots s i) (slots' t i)
  pub only : OnlyData t n kind kind' slots slots'
  pub now : kind' t ≡ kinds.Committed (s + 4)

-- erase of the source of a committed block.
pub record ErasesSource (s t n : ℕ) (kind kind' : ℕ → Kind)
    (slots slots' : ℕ → ℕ → Slot) : Type 0 where
  pub target : IsTarget t n kind
  pub was : kind t ≡ kinds.Committed (s + 4)
  pub only : OnlyData s n kind kind' slots slots'
  pub now : IsSpare kind' slots' s

-- settle: a committed block whose source is wholly free.
pub record Settles (s t n : ℕ) (kind kind' : ℕ → Kind) (slots slots' : ℕ → ℕ → Slot) : Type 0 where
  pub target : IsTarget t n kind
  pub was : kind t ≡ kinds.Committed (s + 4)
  pub source : IsSpare kind slots s
  pub only : OnlyData t n kind kind' slots slots'
  pub same : (i : ℕ) → i < 7 → slots' t i ≡ slots t i
  pub now : kind' t ≡ kinds.Settled

-- and the erase of a void block, at mount, whatever goes on beside it.
pub record ErasesVoid (t n : ℕ) (kind kind' : ℕ → Kind) (slots slots' : ℕ → ℕ → Slot) : Type 0 where
  pub number : t < n
  pub was : kind t ≡ kinds.Void
  pub only : OnlyData t n kind kind' slots slots'
  pub now : IsSpare kind' slots' t

-- On a mixed chip a mount makes room: of two blocks that are live with the same group the older, c,
-- is retired;
pub record RetiresGroup (c d n : ℕ) (kind kind' : ℕ → Kind) (slots slots' : ℕ → ℕ → Slot)
    : Type 0 where
  pub rest : AreAtRest kind n
  pub number : c < n
  pub newer : d < n
  pub other : c ≢ d
  pub group : ℕ
  pub generation : Generation
  pub was : kind c ≡ kinds.Group (record { number = group; generation = generation })
  pub by : kind d
      ≡ kinds.Group (record { number = group; generation = next_generation generation })
  pub only : OnlyData c n kind kind' slots slots'
  pub now : kind' c ≡ kinds.DeadGroup

-- and a dead one is erased.
pub record ErasesGroup (c n : ℕ) (kind kind' : ℕ → Kind) (slots slots' : ℕ → ℕ → Slot)
    : Type 0 where
  pub rest : AreAtRest kind n
  pub number : c < n
  pub was : kind c ≡ kinds.DeadGroup
  pub only : OnlyData c n kind kind' slots slots'
  pub now : IsSpare kind' slots' c

-- where a slot of block s goes in block t, and back
abbrev pub shifted : ℕ → ℕ → ℕ → ℕ
shifted s t w = if w / 7 == s then 7 * t + w % 7 else w
