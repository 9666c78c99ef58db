-- The index of a store's slots in memory: what it says of each slot and block, and where it looks
-- next. Source: own, layout 2.
use Rattle.std.specs.Prelude.{◌≡◌, ◌≢◌, ◌⊎◌, ℕ, ◌+◌, ◌-◌, ◌*◌, ◌/◌, ◌<◌, ◌≤◌, Bool, true, false}
use Rattle.std.specs.Prelude.{List, length, slice_index_or, min}
use Rattle.chip_model.specs.Geometry.{IsChipSize}
use Rattle.chip_model.specs.Wavering.{Bits}
use Rattle.erase_journal.specs.Places.{how_many}
pub use Rattle.nor_layout.specs.Kinds.{is_plain}
use Rattle.nor_layout.specs.declared.header.Header.{Header}
use Rattle.nor_layout.specs.declared.kind.Kind.{Kind}
use Rattle.sector_slots.specs.Slots.{Slot, Free, Live, NoGeneration, Dead, Outside, slot_at}
use Rattle.sector_slots.specs.Slots.{slot_count, kind_at, raw_slot, data_blocks}
use Rattle.sector_stock.specs.declared.index.SlotState.{SlotState}
use Rattle.sector_stock.specs.declared.index.BlockState.{BlockState}
use Rattle.sector_stock.specs.declared.index.Cursors.{Cursors}
use Rattle.sector_stock.specs.declared.policy.Policy.{Policy}
use Rattle.sector_stock.specs.declared.policy.Policy.TheVariants as policies
use Rattle.sector_stock.specs.declared.policy.Wanted.{Wanted}
use Rattle.sector_stock.specs.declared.policy.Wanted.TheVariants as wanteds
use Rattle.sector_slots.specs.Blocks.{IsReserveOf}
use Rattle.sector_slots.specs.Weak.{IsFirmStore}
use Rattle.sector_stock.specs.Room.{IsSpareBlock}
use Rattle.nor_layout.specs.declared.header.Header.TheVariants as headers
use Rattle.nor_layout.specs.declared.kind.Kind.TheVariants as kinds
use Rattle.sector_stock.specs.declared.index.SlotState.TheVariants as states

-- what the index keeps of a slot
abbrev pub state_of : Slot → SlotState
state_of Free = states.Free
state_of (Live tag content) = states.Live
state_of NoGeneration = states.Live
state_of Dead = states.Dead
state_of Outside = states.Live

abbrev pub is_free_slot : Slot → Bool
is_free_slot Free = true
is_free_slot (Live tag content) = false
is_free_slot NoGeneration = false
is_free_slot Dead = false
is_free_slot Outside = false

abbrev pub is_dead : Slot → Bool
is_dead Free = false
is_dead (Live tag content) = false
is_dead NoGeneration = false
is_dead Dead = true
is_dead Outside = false

-- whether a block is live with a group
abbrev pub is_live_group : Kind → Bool
is_live_group kinds.Plain = false
is_live_group kinds.Void = false
is_live_group (kinds.Committed source) = false
is_live_group kinds.Settled = false
is_live_group (kinds.Group group) = true
is_live_group kinds.DeadGroup = false
is_live_group kinds.SpoiltGroup = false
is_live_group kinds.Unknown = false

-- how many of the seven slots of data block c pass a test
unfoldable pub tally : (Slot → Bool) → (ℕ → Slot) → ℕ → ℕ
tally test f c = how_many (λ i. test (f (7 * c + i))) 7

-- what the index keeps of a block
pub record Tallies (b : BlockState) (f : ℕ → Slot) (kind : ℕ → Kind) (c : ℕ) : Type 0 where
  pub free : b.free ≡ tally is_free_slot f c
  pub dead : b.dead ≡ tally is_dead f c
  pub plain : b.plain ≡ is_plain (kind c)
  pub group : b.group ≡ is_live_group (kind c)

-- past the end of the list, for reading it
abbrev pub no_block : BlockState
no_block = record {
  free = 0;
  dead = 0;
  plain = false;
  group = false;
  erases = 0;
  suspect = false;
}

abbrev pub in_block : List BlockState → ℕ → BlockState
in_block blocks c = slice_index_or blocks c no_block

-- The two lists say it of n data blocks and their slots.
pub record IsListed (slots : List SlotState) (blocks : List BlockState) (f : ℕ → Slot)
    (kind : ℕ → Kind) (n : ℕ) : Type 0 where
  pub slot_size : length slots ≡ 7 * n
  pub block_size : length blocks ≡ n
  pub each_slot : (s : ℕ) → s < 7 * n → slice_index_or slots s states.Free ≡ state_of (f s)
  pub each_block : (c : ℕ) → c < n → Tallies (in_block blocks c) f kind c

-- a block is wholly free
abbrev pub IsWholeBlock : BlockState → Type 0
IsWholeBlock b = (b.plain ≡ true) × (b.free ≡ 7)

-- A run is 64 blocks. A row of bounds has for each run a number of erases; these are the rows, and
-- the blocks of which they speak. Any block may come to rest.
abbrev pub bound_row : Wanted → ℕ
bound_row wanteds.Free = 0
bound_row (wanteds.Dead count) = count
bound_row wanteds.Resting = 8

abbrev pub Counts : Wanted → BlockState → Type 0
Counts wanteds.Free b = 0 < b.free
Counts (wanteds.Dead count) b = (0 < count) × (count < 8) × (b.dead ≡ count)
Counts wanteds.Resting b = Unit {0}

abbrev pub in_bounds : List ℕ → ℕ → ℕ → ℕ
in_bounds bounds row c = slice_index_or bounds (64 * row + c / 64) 0

-- no block of which a row speaks was erased less often than the bound of its run
abbrev pub AreBounds : List BlockState → List ℕ → Type 0
AreBounds blocks bounds = (wanted : Wanted) (c : ℕ) → c < length blocks
    → Counts wanted (in_block blocks c)
    → in_bounds bounds (bound_row wanted) c ≤ (in_block blocks c).erases

-- How often each block was erased, by the counts of a list; and each from `least` to `most` times.
abbrev pub erases_of : List BlockState → ℕ → ℕ
erases_of blocks c = (in_block blocks c).erases

abbrev pub AreWorn : ℕ → ℕ → List BlockState → Type 0
AreWorn least most blocks = (c : ℕ) → c < length blocks
    → (least ≤ erases_of blocks c) × (erases_of blocks c ≤ most)

-- of n blocks none was erased over k times more often than another one
abbrev pub AreWithin : ℕ → ℕ → (ℕ → ℕ) → Type 0
AreWithin k n erases = (c d : ℕ) → c < n → d < n → erases c ≤ erases d + k

-- and none will have been by over 32 times, once block s is erased
abbrev pub MayWear : ℕ → ℕ → (ℕ → ℕ) → Type 0
MayWear s n erases = (c : ℕ) → c < n → erases s < erases c + 32

-- Where the index looks next: below `cursor`, and from `beyond` on, no block but the reserve has a
-- free slot; each other wholly free block lies below `spares`; no block has more dead slots than
-- `most`, and below `from` none has so many; the bounds of erases are right, of runs and of all.
pub record IsAhead (blocks : List BlockState) (at : Cursors) : Type 0 where
  pub cursor : (c : ℕ) → c < length blocks → c < at.cursor → c ≢ at.reserve
      → (in_block blocks c).free ≡ 0
  pub beyond : (c : ℕ) → c < length blocks → at.beyond ≤ c → c ≢ at.reserve
      → (in_block blocks c).free ≡ 0
  pub spares : (c : ℕ) → c < length blocks → IsWholeBlock (in_block blocks c) → c ≢ at.reserve
      → c < at.spares
  pub within : (at.beyond ≤ length blocks) × (at.spares ≤ length blocks)
  pub most : (c : ℕ) → c < length blocks → (in_block blocks c).dead ≤ at.most
  pub from : (c : ℕ) → c < length blocks → c < at.from → (in_block blocks c).dead ≢ at.most
  pub high : at.most ≤ 7
  pub bounds : AreBounds blocks at.bounds
  pub worn : AreWorn at.least_erases at.most_erases blocks

-- The index of a memory: its reserve is wholly free, and where it chooses by number the highest-
-- numbered such block; where it chooses by erases, no two blocks differ by more than 32 of them.
pub record IsIndexOf (slots : List SlotState) (blocks : List BlockState) (at : Cursors)
    (m : List ℕ) : Type 0 where
  pub listed : IsListed slots blocks (slot_at m) (kind_at m) (data_blocks m)
  pub ahead : IsAhead blocks at
  pub reserve : IsSpareBlock at.reserve m
  pub highest : at.policy ≡ policies.Lowest → IsReserveOf at.reserve m
  pub even : at.policy ≡ policies.Level → AreWithin 32 (length blocks) (erases_of blocks)

-- What the lists and cursors of a store with this memory are: of its size, and where they are said
-- to be right, its index.
pub record IsStocked (slots : List SlotState) (blocks : List BlockState) (at : Cursors)
    (indexed : Bool) (m : List ℕ) : Type 0 where
  pub sized : IsChipSize (length m)
  pub slots_size : length slots ≡ slot_count m
  pub blocks_size : length blocks ≡ data_blocks m
  pub index : indexed ≡ true → IsIndexOf slots blocks at m

-- the lists in which slot w has this state and its block these numbers
pub record Marked (w : ℕ) (state : SlotState) (block : BlockState) (slots slots' : List SlotState)
    (blocks blocks' : List BlockState) : Type 0 where
  pub slot_size : length slots' ≡ length slots
  pub block_size : length blocks' ≡ length blocks
  pub here : slice_index_or slots' w states.Free ≡ state
  pub others : (s : ℕ) → s < length slots → s ≢ w
      → slice_index_or slots' s states.Free ≡ slice_index_or slots s states.Free
  pub its_block : in_block blocks' (w / 7) ≡ block
  pub other_blocks : (c : ℕ) → c < length blocks → c ≢ w / 7
      → in_block blocks' c ≡ in_block blocks c

-- a slot became dead, a slot became live
abbrev pub one_dead_more : BlockState → BlockState
one_dead_more b = record b { dead = b.dead + 1 }

abbrev pub one_free_fewer : BlockState → BlockState
one_free_fewer b = record b { free = b.free - 1 }

-- a block with the most dead slots; the lowest-numbered of them; or none is dead
abbrev pub IsMostDead : List BlockState → ℕ → Type 0
IsMostDead blocks b = (b < length blocks) × (0 < (in_block blocks b).dead)
    × ((c : ℕ) → c < length blocks → (in_block blocks c).dead ≤ (in_block blocks b).dead)

abbrev pub IsLowestDead : List BlockState → ℕ → Type 0
IsLowestDead blocks b = (c : ℕ) → c < b → (in_block blocks c).dead < (in_block blocks b).dead

abbrev pub HasNoDead : List BlockState → Type 0
HasNoDead blocks = (c : ℕ) → c < length blocks → (in_block blocks c).dead ≡ 0

-- the lowest-numbered block that is live with a group; or none is
abbrev pub IsLowestGroup : List BlockState → ℕ → Type 0
IsLowestGroup blocks b = (b < length blocks) × ((in_block blocks b).group ≡ true)
    × ((c : ℕ) → c < b → (in_block blocks c).group ≡ false)

abbrev pub HasNoGroup : List BlockState → Type 0
HasNoGroup blocks = (c : ℕ) → c < length blocks → (in_block blocks c).group ≡ false

-- the lowest-numbered block but the reserve that has a free slot; or none has
abbrev pub IsLowestWithFree : List BlockState → ℕ → ℕ → Type 0
IsLowestWithFree blocks r b = (b < length blocks) × (b ≢ r) × (0 < (in_block blocks b).free)
    × ((c : ℕ) → c < b → c ≢ r → (in_block blocks c).free ≡ 0)

-- a block but the reserve that has one
abbrev pub HasFreeBut : List BlockState → ℕ → ℕ → Type 0
HasFreeBut blocks r b = (b < length blocks) × (b ≢ r) × (0 < (in_block blocks b).free)

abbrev pub HasNoFreeBut : List BlockState → ℕ → Type 0
HasNoFreeBut blocks r = (c : ℕ) → c < length blocks → c ≢ r → (in_block blocks c).free ≡ 0

-- what the index says of a slot's copy
abbrev pub copied_state : SlotState → SlotState
copied_state states.Free = states.Free
copied_state states.Live = states.Live
copied_state states.Dead = states.Free

-- the state of a slot in a list of states
abbrev pub in_slots : List SlotState → ℕ → SlotState
in_slots slots s = slice_index_or slots s states.Free

-- Of the first k places: block t has the copies of the states of block s, and block s is free.
pub record Shifted (k s t : ℕ) (slots slots' : List SlotState) : Type 0 where
  pub size : length slots' ≡ length slots
  pub target : (i : ℕ) → i < k → in_slots slots' (7 * t + i)
      ≡ copied_state (in_slots slots (7 * s + i))
  pub source : (i : ℕ) → i < k → in_slots slots' (7 * s + i) ≡ states.Free
  pub others : (w : ℕ) → w < length slots → ((i : ℕ) → i < k → (w ≢ 7 * t + i) × (w ≢ 7 * s + i))
      → in_slots slots' w ≡ in_slots slots w

-- a count of erases and one more, at most 65,535
abbrev pub one_erase_more : ℕ → ℕ
one_erase_more n = min (n + 1) 65535

-- Block s was copied into block t: t has as many free slots as s had free and dead ones, and none
-- dead; s is wholly free, and was erased once more. What is free in them isn't suspect.
pub record BlocksMoved (s t : ℕ) (blocks blocks' : List BlockState) : Type 0 where
  pub size : length blocks' ≡ length blocks
  pub source : in_block blocks' s ≡
      record {
        free = 7;
        dead = 0;
        plain = true;
        group = false;
        erases = one_erase_more (in_block blocks s).erases;
        suspect = false;
      }
  pub target : in_block blocks' t ≡
      record {
        free = (in_block blocks s).free + (in_block blocks s).dead;
        dead = 0;
        plain = false;
        group = false;
        erases = (in_block blocks t).erases;
        suspect = false;
      }
  pub others : (c : ℕ) → c < length blocks → c ≢ s → c ≢ t → in_block blocks' c ≡ in_block blocks c

-- What is free is suspect in each of the first k blocks, and nothing else changed; it is trusted
-- now in block s alone.
pub record Suspects (k : ℕ) (blocks blocks' : List BlockState) : Type 0 where
  pub size : length blocks' ≡ length blocks
  pub each : (c : ℕ) → c < length blocks → c < k
      → in_block blocks' c ≡ record (in_block blocks c) { suspect = true }
  pub others : (c : ℕ) → k ≤ c → in_block blocks' c ≡ in_block blocks c

pub record Trusts (s : ℕ) (blocks blocks' : List BlockState) : Type 0 where
  pub size : length blocks' ≡ length blocks
  pub here : in_block blocks' s ≡ record (in_block blocks s) { suspect = false }
  pub others : (c : ℕ) → c < length blocks → c ≢ s → in_block blocks' c ≡ in_block blocks c

-- A block came to be trusted: at most one of its slots died for it, and no erase was counted. The
-- others stay.
pub record ComesToBeTrusted (b b' : BlockState) : Type 0 where
  pub was : b.suspect ≡ true
  pub now : b'.suspect ≡ false
  pub dead : b'.dead ≤ b.dead + 1
  pub erases : b'.erases ≡ b.erases

pub record TrustsMore (blocks blocks' : List BlockState) : Type 0 where
  pub size : length blocks' ≡ length blocks
  pub each : (c : ℕ) → c < length blocks → (in_block blocks' c ≡ in_block blocks c)
      ⊎ ComesToBeTrusted (in_block blocks c) (in_block blocks' c)

-- no block is suspect
abbrev pub AreTrusted : List BlockState → Type 0
AreTrusted blocks = (c : ℕ) → c < length blocks → (in_block blocks c).suspect ≡ false

-- Marks and slots are sure but where a block is suspect by these lists.
abbrev pub IsFirmIn : Bits → List BlockState → Type 0
IsFirmIn b blocks = IsFirmStore b (λ c. (in_block blocks c).suspect)

-- block r is the highest-numbered wholly free one
pub record IsHighestWhole (blocks : List BlockState) (r : ℕ) : Type 0 where
  pub number : r < length blocks
  pub whole : IsWholeBlock (in_block blocks r)
  pub highest : (c : ℕ) → c < length blocks → IsWholeBlock (in_block blocks c) → c ≤ r

-- block r is wholly free, and where blocks are chosen by number the highest-numbered such block
pub record IsNextReserve (policy : Policy) (blocks : List BlockState) (r : ℕ) : Type 0 where
  pub number : r < length blocks
  pub whole : IsWholeBlock (in_block blocks r)
  pub highest : policy ≡ policies.Lowest → IsHighestWhole blocks r

-- what the index keeps of a slot with this descriptor
abbrev pub header_state : Header → SlotState
header_state headers.Free = states.Free
header_state (headers.Live tag) = states.Live
header_state headers.NoGeneration = states.Live
header_state headers.Dead = states.Dead

abbrev pub is_free_state : SlotState → Bool
is_free_state states.Free = true
is_free_state states.Live = false
is_free_state states.Dead = false

abbrev pub is_dead_state : SlotState → Bool
is_dead_state states.Free = false
is_dead_state states.Live = false
is_dead_state states.Dead = true

-- how many of the first k states of block c in a list pass a test; and of its seven
unfoldable pub states_count : (SlotState → Bool) → List SlotState → ℕ → ℕ → ℕ
states_count test slots c k = how_many (λ i. test (in_slots slots (7 * c + i))) k

abbrev pub states_tally : (SlotState → Bool) → List SlotState → ℕ → ℕ
states_tally test slots c = states_count test slots c 7

-- the lists in which block c has these descriptors and is of this kind
abbrev pub in_heads : List Header → ℕ → Header
in_heads heads i = slice_index_or heads i headers.Free

pub record StatesNoted (k c : ℕ) (heads : List Header)
    (slots slots' : List SlotState) : Type 0 where
  pub size : length slots' ≡ length slots
  pub here : (i : ℕ) → i < k → in_slots slots' (7 * c + i) ≡ header_state (in_heads heads i)
  pub others : (w : ℕ) → w < length slots → ((i : ℕ) → i < k → w ≢ 7 * c + i)
      → in_slots slots' w ≡ in_slots slots w

pub record BlockNoted (c : ℕ) (kind : Kind) (heads : List Header) (slots slots' : List SlotState)
    (blocks blocks' : List BlockState) : Type 0 where
  pub states : StatesNoted 7 c heads slots slots'
  pub block_size : length blocks' ≡ length blocks
  pub block : in_block blocks' c ≡
      record {
        free = states_tally is_free_state slots' c;
        dead = states_tally is_dead_state slots'
            c;
        plain = is_plain kind;
        group = is_live_group kind;
        erases = 0;
        suspect = false;
      }
  pub other_blocks : (d : ℕ) → d < length blocks → d ≢ c → in_block blocks' d ≡ in_block blocks d

-- the lists say of block c what its bytes say
pub record IsNoted (c : ℕ) (slots : List SlotState) (blocks : List BlockState)
    (m : List ℕ) : Type 0 where
  pub states : (i : ℕ) → i < 7 → in_slots slots (7 * c + i) ≡ state_of (raw_slot m c i)
  pub block : in_block blocks c ≡ record {
    free = states_tally is_free_state slots c;
    dead = states_tally is_dead_state slots c;
    plain = is_plain (kind_at m c);
    group = is_live_group (kind_at m c);
    erases = 0;
    suspect = false;
  }
