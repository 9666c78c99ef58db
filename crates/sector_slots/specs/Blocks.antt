-- The data blocks while one is copied: no copying goes on, or one does, or several were cut; all
-- else is corrupt. Source: own, layout 2.
use Rattle.std.specs.Prelude.{◌≡◌, ◌≢◌, ◌⊎◌, ◌↔◌, ℕ, ◌+◌, ◌<◌, ◌≤◌, List}
use Rattle.nor_layout.specs.declared.header.Tag.{Tag}
use Rattle.nor_layout.specs.declared.kind.Kind.{Kind}
use Rattle.nor_layout.specs.declared.kind.Kind.TheVariants as kinds
use Rattle.sector_slots.specs.Slots.{Slot, IsSpare, kind_at, raw_slot, data_blocks}

-- a block into which nothing is being copied
abbrev pub IsAtRest : Kind → Type 0
IsAtRest kinds.Plain = Unit {0}
IsAtRest kinds.Void = ⊥
IsAtRest (kinds.Committed b) = ⊥
IsAtRest kinds.Settled = Unit {0}
IsAtRest (kinds.Group tag) = Unit {0}
IsAtRest kinds.DeadGroup = Unit {0}
IsAtRest kinds.SpoiltGroup = Unit {0}
IsAtRest kinds.Unknown = ⊥

-- a block that is known and no committed copy: at rest, or void
abbrev pub IsUncommitted : Kind → Type 0
IsUncommitted kinds.Plain = Unit {0}
IsUncommitted kinds.Void = Unit {0}
IsUncommitted (kinds.Committed b) = ⊥
IsUncommitted kinds.Settled = Unit {0}
IsUncommitted (kinds.Group tag) = Unit {0}
IsUncommitted kinds.DeadGroup = Unit {0}
IsUncommitted kinds.SpoiltGroup = Unit {0}
IsUncommitted kinds.Unknown = ⊥

-- A block of this kind, data block t of n, is one into which a block is copied: void, or the
-- committed copy of another data block.
abbrev pub IsCopying : Kind → ℕ → ℕ → Type 0
IsCopying kinds.Plain t n = ⊥
IsCopying kinds.Void t n = Unit {0}
IsCopying (kinds.Committed b) t n = (s : ℕ) × ((b ≡ s + 4) × ((s < n) × (s ≢ t)))
IsCopying kinds.Settled t n = ⊥
IsCopying (kinds.Group tag) t n = ⊥
IsCopying kinds.DeadGroup t n = ⊥
IsCopying kinds.SpoiltGroup t n = ⊥
IsCopying kinds.Unknown t n = ⊥

-- no copying goes on
abbrev pub AreAtRest : (ℕ → Kind) → ℕ → Type 0
AreAtRest kind n = (d : ℕ) → d < n → IsAtRest (kind d)

-- one goes on, into block t
pub record IsTarget (t n : ℕ) (kind : ℕ → Kind) : Type 0 where
  pub number : t < n
  pub copying : IsCopying (kind t) t n
  pub others : (d : ℕ) → d < n → d ≢ t → IsAtRest (kind d)

-- What losses of power may leave: block t is one into which a block was copied, and any number of
-- the others are void. (The mark of a copying that was cut as it began may read as free until a
-- later power-on, so two void blocks may be seen at once; their slots don't count.)
pub record IsCutTarget (t n : ℕ) (kind : ℕ → Kind) : Type 0 where
  pub number : t < n
  pub copying : IsCopying (kind t) t n
  pub others : (d : ℕ) → d < n → d ≢ t → IsUncommitted (kind d)

-- As it is between two calls: no copying goes on, and a block is wholly free.
pub record IsSettledBlocks (kind : ℕ → Kind) (slots : ℕ → ℕ → Slot) (n : ℕ) : Type 0 where
  pub rest : AreAtRest kind n
  pub reserve : ℕ
  pub number : reserve < n
  pub spare : IsSpare kind slots reserve

-- On a mixed chip a mount can make a block wholly free: one with a group is dead, or two are live
-- with the same group, of which it retires the older.
pub data HasGroupRoom (kind : ℕ → Kind) (n : ℕ) : Type 0 where
  dead_group : (c : ℕ) → c < n → kind c ≡ kinds.DeadGroup → HasGroupRoom kind n
  two_blocks : (c d : ℕ) (a b : Tag) → c < n → d < n → c ≢ d → kind c ≡ kinds.Group a
      → kind d ≡ kinds.Group b → a.number ≡ b.number → HasGroupRoom kind n

-- Blocks without a corrupt case: no copying goes on, and a block is wholly free or can be made so;
-- or one goes on, or several were cut, at most one of them after its commit.
pub data SoundBlocks (kind : ℕ → Kind) (slots : ℕ → ℕ → Slot) (n : ℕ) : Type 0 where
  settled : IsSettledBlocks kind slots n → SoundBlocks kind slots n
  crowded : AreAtRest kind n → HasGroupRoom kind n → SoundBlocks kind slots n
  copying : (t : ℕ) → IsCutTarget t n kind → SoundBlocks kind slots n

-- A memory's.
abbrev pub AreSound : List ℕ → Type 0
AreSound m = SoundBlocks (kind_at m) (raw_slot m) (data_blocks m)

abbrev pub AreSettled : List ℕ → Type 0
AreSettled m = IsSettledBlocks (kind_at m) (raw_slot m) (data_blocks m)

-- the reserve: the highest-numbered wholly free block
pub record IsReserve (r : ℕ) (kind : ℕ → Kind) (slots : ℕ → ℕ → Slot) (n : ℕ) : Type 0 where
  pub number : r < n
  pub spare : IsSpare kind slots r
  pub highest : (c : ℕ) → c < n → IsSpare kind slots c → c ≤ r

abbrev pub IsReserveOf : ℕ → List ℕ → Type 0
IsReserveOf r m = IsReserve r (kind_at m) (raw_slot m) (data_blocks m)

-- The corrupt cases one by one, for a reader: blocks are sound where none of them holds.
pub record BlocksHaveNoFault (kind : ℕ → Kind) (slots : ℕ → ℕ → Slot) (n : ℕ) : Type 0 where
  -- each block is of slots, its state byte one of the four, or of a group
  pub known : (c : ℕ) → c < n → kind c ≢ kinds.Unknown
  -- no two blocks are committed
  pub one : (c d a b : ℕ) → c < n → d < n → c ≢ d → kind c ≡ kinds.Committed a
      → kind d ≢ kinds.Committed b
  -- a committed block's source is another data block, by its number on the chip
  pub source : (c b : ℕ) → c < n → kind c ≡ kinds.Committed b → (4 ≤ b) × (b < n + 4) × (b ≢ c + 4)
  -- where none is void or committed, one is wholly free, or can be made so
  pub spare : AreAtRest kind n → ((c : ℕ) × ((c < n) × IsSpare kind slots c)) ⊎ HasGroupRoom kind n

abbrev pub SoundBlocksHaveNoFault : Type 0
SoundBlocksHaveNoFault = (kind : ℕ → Kind) (slots : ℕ → ℕ → Slot) (n : ℕ) → SoundBlocks kind slots n
    ↔ BlocksHaveNoFault kind slots n
