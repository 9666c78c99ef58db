-- What giving a slot leaves: nothing changed, or a block was copied into a wholly free one first.
-- Source: own, layout 2.
use Rattle.std.specs.Prelude.{◌≡◌, ◌≢◌, ◌⊎◌, ℕ, ◌+◌, ◌-◌, ◌*◌, Bool, true, false, ◌/◌, ◌<◌, ◌≤◌}
use Rattle.std.specs.Prelude.{List, length, Option, Some, None, if◌then◌else◌, nat_lt, MatchOption}
use Rattle.nor_layout.specs.declared.header.Generation.{Generation}
use Rattle.nor_layout.specs.declared.header.Generation.TheVariants as generations
use Rattle.nor_layout.specs.declared.header.Tag.{Tag}
use Rattle.nor_layout.specs.declared.kind.Kind.TheVariants as kinds
use Rattle.erase_journal.specs.Blocks.{SameChip, blank}
use Rattle.erase_journal.specs.Places.{how_many}
use Rattle.sector_slots.specs.Slots.{Free, Live, NoGeneration, Dead, slot_at, slot_count}
use Rattle.sector_slots.specs.Slots.{data_block, data_blocks, raw_slot}
use Rattle.sector_slots.specs.Slots.{IsClean, IsSpareIn, kind_at, is_group}
use Rattle.sector_slots.specs.Sectors.{LiveAt}
use Rattle.sector_slots.specs.Blocks.{AreSettled, IsReserveOf}
use Rattle.sector_slots.specs.Copying.{shifted}
use Rattle.sector_stock.specs.declared.given.Copied.{Copied}
use Rattle.sector_stock.specs.Room.{HasNoneDead, IsSpareBlock, IsFull}
use Rattle.sector_stock.specs.Index.{tally, is_dead, is_free_slot, is_live_group}
use Rattle.sector_stock.specs.Index.{IsWholeBlock, one_erase_more, in_block, erases_of}
use Rattle.sector_stock.specs.declared.index.BlockState.{BlockState}
use Rattle.sector_stock.specs.declared.index.Cursors.{Cursors}
use Rattle.sector_stock.specs.declared.policy.Policy.{Policy}
use Rattle.sector_stock.specs.declared.policy.Policy.TheVariants as policies
use Rattle.sector_stock.specs.Copy.{SameSectors, KeepsSectors}

-- how many slots of data block c are dead, and of all
abbrev pub dead_in : List ℕ → ℕ → ℕ
dead_in m c = tally is_dead (slot_at m) c

abbrev pub dead_slots : List ℕ → ℕ
dead_slots m = how_many (λ s. is_dead (slot_at m s)) (slot_count m)

-- a slot of block s is dead
pub record HasDead (s : ℕ) (m : List ℕ) : Type 0 where
  pub number : s < data_blocks m
  pub some : 0 < dead_in m s

-- a block with the most dead slots
pub record HasMostDead (s : ℕ) (m : List ℕ) : Type 0 where
  pub number : s < data_blocks m
  pub some : 0 < dead_in m s
  pub most : (c : ℕ) → c < data_blocks m → dead_in m c ≤ dead_in m s

-- where no block of a lower number has so many
abbrev pub HasFewerBelow : ℕ → List ℕ → Type 0
HasFewerBelow s m = (c : ℕ) → c < s → dead_in m c < dead_in m s

-- no block is of a group that wasn't one of it
abbrev pub MakesNoGroup : List ℕ → List ℕ → Type 0
MakesNoGroup m m' = (c : ℕ) → c < data_blocks m → is_group (kind_at m c) ≡ false
    → is_group (kind_at m' c) ≡ false

-- The live slots of block s moved to the same places of block t, and keep their tags; all others
-- stay, and no copying goes on. Where what read as free was erased the sectors are what they were,
-- and it still is.
pub record Shifts (s t : ℕ) (m m' : List ℕ) : Type 0 where
  pub chip : SameChip m m'
  pub on : (w g : ℕ) (k : Generation) (x : List ℕ) → LiveAt (slot_at m) (slot_count m) w g k x
      → (y : List ℕ) × LiveAt (slot_at m') (slot_count m) (shifted s t w) g k y
  pub back : (w g : ℕ) (k : Generation) (x : List ℕ) → LiveAt (slot_at m') (slot_count m) w g k x
      → (y : List ℕ) × LiveAt (slot_at m) (slot_count m) (shifted t s w) g k y
  pub round : (w g : ℕ) (k : Generation) (x : List ℕ) → LiveAt (slot_at m') (slot_count m) w g k x
      → shifted s t (shifted t s w) ≡ w
  pub whole : (w : ℕ) → w < slot_count m → slot_at m' w ≢ NoGeneration
  pub blocks : AreSettled m'
  pub groups : MakesNoGroup m m'
  pub sectors : IsClean m → SameSectors m m'
  pub clean : IsClean m → IsClean m'

-- block s was copied into block t, which was wholly free; now s is
pub record MovesInto (s t : ℕ) (m m' : List ℕ) : Type 0 where
  pub source : s < data_blocks m
  pub target : IsSpareBlock t m
  pub shifts : Shifts s t m m'
  pub erased : IsSpareIn m' s

-- block s, which was wholly free, was erased once more: it is wholly free, and each slot is what it
-- was
pub record ErasesSpare (s : ℕ) (m m' : List ℕ) : Type 0 where
  pub spare : IsSpareBlock s m
  pub chip : SameChip m m'
  pub erased : data_block m' s ≡ blank
  pub kinds : (c : ℕ) → c < data_blocks m → kind_at m' c ≡ kind_at m c
  pub slots : (w : ℕ) → w < slot_count m → slot_at m' w ≡ slot_at m w
  pub blocks : AreSettled m'
  pub sectors : SameSectors m m'
  pub clean : IsClean m → IsClean m'

-- Free slots were made dead: each other slot is what it was, and so is the kind of each block. The
-- sectors are what they were.
pub record MakesFirm (m m' : List ℕ) : Type 0 where
  pub slots : (w : ℕ) → w < slot_count m → (slot_at m' w ≡ slot_at m w)
      ⊎ ((slot_at m w ≡ Free) × (slot_at m' w ≡ Dead))
  pub kinds : (c : ℕ) → c < data_blocks m → kind_at m' c ≡ kind_at m c
  pub blocks : AreSettled m'
  pub keeps : KeepsSectors m m'

-- of data block c the first free slot was made dead
pub record KillsFirstFree (c : ℕ) (m m' : List ℕ) : Type 0 where
  pub place : ℕ
  pub within : place < 7
  pub was : raw_slot m c place ≡ Free
  pub first : (i : ℕ) → i < place → raw_slot m c i ≢ Free
  pub now : raw_slot m' c place ≡ Dead

-- Each block that was suspect and is trusted was erased for it, or its first free slot was made
-- dead. A block that is suspect still, or was trusted before, is as it was.
pub record MadeTrusted (blocks blocks' : List BlockState) (m m' : List ℕ) : Type 0 where
  pub made : (c : ℕ) → c < length blocks → (in_block blocks c).suspect ≡ true
      → (in_block blocks' c).suspect ≡ false → (data_block m' c ≡ blank) ⊎ KillsFirstFree c m m'
  pub others : (c : ℕ) → c < length blocks
      → (in_block blocks' c).suspect ≡ (in_block blocks c).suspect
      → data_block m' c ≡ data_block m c

-- block s, of which a slot was dead, was copied into block t, which was wholly free; now s is
pub record CopiesInto (s t : ℕ) (m m' : List ℕ) : Type 0 where
  pub source : HasDead s m
  pub target : IsSpareBlock t m
  pub shifts : Shifts s t m m'
  pub erased : IsSpareIn m' s

-- of n blocks, block s was erased once more, and no other
pub record IsErasedOnce (n s : ℕ) (erases erases' : ℕ → ℕ) : Type 0 where
  pub here : erases' s ≡ one_erase_more (erases s)
  pub rises : erases s ≤ erases' s
  pub others : (c : ℕ) → c < n → c ≢ s → erases' c ≡ erases c

abbrev pub KeepsErases : ℕ → (ℕ → ℕ) → (ℕ → ℕ) → Type 0
KeepsErases n erases erases' = (c : ℕ) → c < n → erases' c ≡ erases c

-- the counts once a block was copied, if one was
abbrev pub CountsErase : ℕ → Option Copied → (ℕ → ℕ) → (ℕ → ℕ) → Type 0
CountsErase n copied erases erases' = MatchOption copied (KeepsErases n erases erases')
    (λ c. IsErasedOnce n c.source erases erases')

-- By erases: the block that is copied was erased least of those with as many dead slots; it goes
-- into the reserve, and is the next one.
pub record CopiesLeastWorn (erases : ℕ → ℕ) (reserve reserve' : ℕ) (c : Copied) (m : List ℕ)
    : Type 0 where
  pub least : (d : ℕ) → d < data_blocks m → dead_in m d ≡ dead_in m c.source
      → erases c.source ≤ erases d
  pub target : c.target ≡ reserve
  pub next : reserve' ≡ c.source

-- a slot of block n is free, and n isn't the reserve r
pub record HasFreeIn (n r : ℕ) (m : List ℕ) : Type 0 where
  pub other : n ≢ r
  pub slot : ℕ
  pub number : slot < slot_count m
  pub block : slot / 7 ≡ n
  pub free : slot_at m slot ≡ Free

-- By erases: slot w is a free one of block n, from which one was given last, while that has one and
-- isn't the reserve r; else of a block but r that was erased least of those that have one.
pub record FillsUp (n r : ℕ) (erases : ℕ → ℕ) (w : ℕ) (m : List ℕ) : Type 0 where
  pub number : w < slot_count m
  pub free : slot_at m w ≡ Free
  pub outside : r ≢ w / 7
  pub goes_on : HasFreeIn n r m → w / 7 ≡ n
  pub begins : (HasFreeIn n r m → ⊥) → (s : ℕ) → s < slot_count m → s / 7 ≢ r
      → slot_at m s ≡ Free → erases (w / 7) ≤ erases (s / 7)

-- the sectors of block c rest: it has at least three live slots, and isn't live with a group
abbrev pub SectorsRest : List ℕ → ℕ → Type 0
SectorsRest m c = (is_live_group (kind_at m c) ≡ false)
    × (tally is_free_slot (slot_at m) c + dead_in m c ≤ 4)

-- By erases: the block that is moved was erased least of those whose sectors rest, but block n,
-- from which a slot was given last.
pub record MovesLeastWorn (erases : ℕ → ℕ) (n s : ℕ) (m : List ℕ) : Type 0 where
  pub rests : SectorsRest m s
  pub other : s ≢ n
  pub least : (c : ℕ) → c < data_blocks m → c ≢ n → SectorsRest m c → erases s ≤ erases c

-- how many slots are free; and whether fewer than an eighth of those beyond what the sectors need
-- are, the reserve's not counted
abbrev pub free_slots : List ℕ → ℕ
free_slots m = how_many (λ s. is_free_slot (slot_at m s)) (slot_count m)

unfoldable pub is_short : List ℕ → Bool
is_short m = nat_lt (8 * (free_slots m - 7))
    (7 * data_blocks m - 7 - 7 * (7 * data_blocks m / 8))

-- how many blocks are live with a group, and what is left to be tidied: dead slots, and those
-- blocks
abbrev pub live_groups : List ℕ → ℕ
live_groups m = how_many (λ c. is_live_group (kind_at m c)) (data_blocks m)

abbrev pub work_of : List ℕ → ℕ
work_of m = dead_slots m + live_groups m

-- what of it is to be done at once: nothing, while enough slots are free
abbrev pub urgent_work : List ℕ → ℕ
urgent_work m = if is_short m then work_of m else 0

abbrev pub IsLiveGroup : ℕ → List ℕ → Type 0
IsLiveGroup s m = (group : Tag) × (kind_at m s ≡ kinds.Group group)

-- Block s, which was live with a group, was converted into slots: those of block t, which was
-- wholly free, hold the seven sectors, with the first generation; s is wholly free, all other slots
-- are as they were, and less is left to be tidied.
pub record Converts (s t : ℕ) (m m' : List ℕ) : Type 0 where
  pub group : Tag
  pub was : kind_at m s ≡ kinds.Group group
  pub source : s < data_blocks m
  pub target : IsSpareBlock t m
  pub chip : SameChip m m'
  pub slots : (i : ℕ) → i < 7 → (y : List ℕ) × (slot_at m' (7 * t + i)
      ≡ Live (record { number = 7 * group.number + i; generation = generations.Zero }) y)
  pub freed : (i : ℕ) → i < 7 → slot_at m' (7 * s + i) ≡ Free
  pub others : (w : ℕ) → w < slot_count m → w / 7 ≢ s → w / 7 ≢ t → slot_at m' w ≡ slot_at m w
  pub blocks : AreSettled m'
  pub groups : MakesNoGroup m m'
  pub erased : IsSpareIn m' s
  pub fewer : work_of m' < work_of m
  pub sectors : IsClean m → SameSectors m m'
  pub clean : IsClean m → IsClean m'

-- Block s was erased once more, whatever it held: a wholly free one as it is; of any other one the
-- live slots, or the sectors of its group, are in block t.
pub data Renews (s : ℕ) (copied : Option Copied) (m m' : List ℕ) : Type 0 where
  erases : copied ≡ None → ErasesSpare s m m' → Renews s copied m m'
  moves : (c : Copied) → copied ≡ Some c → c.source ≡ s → MovesInto c.source c.target m m'
      → Renews s copied m m'
  converts_group : (c : Copied) → copied ≡ Some c → c.source ≡ s
      → Converts c.source c.target m m' → Renews s copied m m'

-- of n blocks none was erased less often than block b
pub record IsLeastErased (b n : ℕ) (erases : ℕ → ℕ) : Type 0 where
  pub number : b < n
  pub least : (c : ℕ) → c < n → erases b ≤ erases c

-- no block is live with a group
abbrev pub HasNoGroups : List ℕ → Type 0
HasNoGroups m = (c : ℕ) → c < data_blocks m → is_live_group (kind_at m c) ≡ false

-- Less is left to be tidied: a block with dead slots was copied; or, where no slot is dead, the
-- lowest-numbered block that is live with a group was converted.
pub data TidiesStock (s t : ℕ) (m m' : List ℕ) : Type 0 where
  copies : CopiesInto s t m m' → TidiesStock s t m m'
  converts : HasNoneDead m → ((c : ℕ) → c < s → is_live_group (kind_at m c) ≡ false)
      → Converts s t m m' → TidiesStock s t m m'

-- slot w is the lowest-numbered free one outside the reserve
pub record IsLowestFree (w : ℕ) (m : List ℕ) : Type 0 where
  pub number : w < slot_count m
  pub free : slot_at m w ≡ Free
  pub reserve : ℕ
  pub is_reserve : IsReserveOf reserve m
  pub outside : reserve ≢ w / 7
  pub lowest : (s : ℕ) → s < w → s / 7 ≢ reserve → slot_at m s ≢ Free

-- What is free isn't suspect in the block of the slot that is given next, where one is without a
-- copy.
pub record GivesTrusted (policy : Policy) (at : Cursors) (blocks : List BlockState) (m : List ℕ)
    : Type 0 where
  pub lowest : policy ≡ policies.Lowest → (w : ℕ) → IsLowestFree w m
      → (in_block blocks (w / 7)).suspect ≡ false
  pub level : policy ≡ policies.Level → (w : ℕ)
      → FillsUp at.newest at.reserve (erases_of blocks) w m
      → (in_block blocks (w / 7)).suspect ≡ false

-- Where the slot that is given next, without a copy, is of a wholly free block, what is free isn't
-- suspect in the reserve either. So in a firm store the reserve reads as wholly free at each
-- power-on, until it is used.
pub record TrustsReserve (policy : Policy) (at : Cursors) (blocks : List BlockState) (m : List ℕ)
    : Type 0 where
  pub lowest : policy ≡ policies.Lowest → (w : ℕ) → IsLowestFree w m
      → IsWholeBlock (in_block blocks (w / 7)) → (in_block blocks at.reserve).suspect ≡ false
  pub level : policy ≡ policies.Level → (w : ℕ)
      → FillsUp at.newest at.reserve (erases_of blocks) w m
      → IsWholeBlock (in_block blocks (w / 7)) → (in_block blocks at.reserve).suspect ≡ false

-- slot w is free, and another block than its own is wholly free
pub record IsGivable (w : ℕ) (m : List ℕ) : Type 0 where
  pub number : w < slot_count m
  pub free : slot_at m w ≡ Free
  pub reserve : ℕ
  pub is_spare : IsSpareBlock reserve m
  pub apart : reserve ≢ w / 7

-- slot w was given, by whatever policy
pub data Takes (w : ℕ) (copied : Option Copied) (m m' : List ℕ) : Type 0 where
  was_free : copied ≡ None → m' ≡ m → IsGivable w m' → Takes w copied m m'
  was_copied : (c : Copied) → copied ≡ Some c → IsFull m
      → CopiesInto c.source c.target m m' → IsGivable w m' → Takes w copied m m'
