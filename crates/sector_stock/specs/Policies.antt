-- Which block is wanted for what, and which of them is the least worn. Source: own.
use Rattle.std.specs.Prelude.{◌≡◌, ◌≢◌, ℕ, ◌+◌, ◌-◌, ◌<◌, ◌≤◌, false, List, length, ◌==◌}
use Rattle.std.specs.Prelude.{if◌then◌else◌, Option, None, IfSome, MatchOption, slice_index_or}
use Rattle.sector_stock.specs.declared.index.BlockState.{BlockState}
use Rattle.sector_stock.specs.declared.policy.Policy.TheVariants as policies
use Rattle.sector_stock.specs.declared.policy.Wanted.{Wanted}
use Rattle.sector_stock.specs.declared.policy.Wanted.TheVariants as wanteds
use Rattle.sector_stock.specs.Index.{in_block, IsWholeBlock, HasFreeBut, in_bounds}
use Rattle.sector_stock.specs.declared.index.Cursors.{Cursors}

-- What a block is that is wanted. The sectors of one rest that has at least three live slots, and
-- isn't live with a group.
abbrev pub Wants : Wanted → BlockState → Type 0
Wants wanteds.Free b = 0 < b.free
Wants (wanteds.Dead count) b = b.dead ≡ count
Wants wanteds.Resting b = (b.group ≡ false) × (b.free + b.dead ≤ 4)

-- of the first n blocks none but block r is wanted
abbrev pub HasNoneWanted : Wanted → ℕ → List BlockState → ℕ → Type 0
HasNoneWanted wanted r blocks n = (c : ℕ) → c < n → c ≢ r → Wants wanted (in_block blocks c) → ⊥

-- of the first n blocks, but block r, block b is wanted, and none that is was erased less
pub record IsLeastWorn (wanted : Wanted) (r : ℕ) (blocks : List BlockState) (n b : ℕ)
    : Type 0 where
  pub number : b < n
  pub other : b ≢ r
  pub is_wanted : Wants wanted (in_block blocks b)
  pub least : (c : ℕ) → c < n → c ≢ r → Wants wanted (in_block blocks c)
      → (in_block blocks b).erases ≤ (in_block blocks c).erases

-- The block that is filled up: block n, while it has a free slot and isn't the reserve r; else the
-- least worn one but r that has one.
pub record IsFilledUp (n r : ℕ) (blocks : List BlockState) (b : ℕ) : Type 0 where
  pub goes_on : HasFreeBut blocks r n → b ≡ n
  pub begins : (HasFreeBut blocks r n → ⊥)
      → IsLeastWorn wanteds.Free r blocks (length blocks) b

-- a kind that has a row of bounds
abbrev pub HasRow : Wanted → Type 0
HasRow wanteds.Free = Unit {0}
HasRow (wanteds.Dead count) = (0 < count) × (count < 8)
HasRow wanteds.Resting = Unit {0}

-- Of the blocks from `from` on and below `end`, but block r, and of an older find, the new one is
-- wanted, and none that is was erased less; None where there is none.
abbrev pub IsWantedBut : Wanted → ℕ → List BlockState → ℕ → Type 0
IsWantedBut wanted r blocks b = (b < length blocks) × (b ≢ r) × Wants wanted (in_block blocks b)

abbrev pub IsNotMore : List BlockState → ℕ → Option ℕ → Type 0
IsNotMore blocks b old = IfSome old (λ o. (in_block blocks b).erases ≤ (in_block blocks o).erases)

pub record IsLeastOf (wanted : Wanted) (r : ℕ) (blocks : List BlockState) (from end : ℕ)
    (old : Option ℕ) (b : ℕ) : Type 0 where
  pub is_wanted : IsWantedBut wanted r blocks b
  pub least : (c : ℕ) → from ≤ c → c < end → c ≢ r → Wants wanted (in_block blocks c)
      → (in_block blocks b).erases ≤ (in_block blocks c).erases
  pub older : IsNotMore blocks b old

pub record IsNoneOf (wanted : Wanted) (r : ℕ) (blocks : List BlockState) (from end : ℕ)
    (old : Option ℕ) : Type 0 where
  pub older : old ≡ None
  pub none : (c : ℕ) → from ≤ c → c < end → c ≢ r → Wants wanted (in_block blocks c) → ⊥

abbrev pub Improves : Wanted → ℕ → List BlockState → ℕ → ℕ → Option ℕ → Option ℕ → Type 0
Improves wanted r blocks from end old new = MatchOption new
    (IsNoneOf wanted r blocks from end old) (λ b. IsLeastOf wanted r blocks from end old b)

-- no bound of a list was raised, and the one at place p is at most n
pub record Lowered (p n : ℕ) (old new : List ℕ) : Type 0 where
  pub size : length new ≡ length old
  pub below : (q : ℕ) → slice_index_or new q 0 ≤ slice_index_or old q 0
  pub here : p < length old → slice_index_or new p 0 ≤ n

-- No bound of a run was raised, those of block s and of the reserve hold, the bound of all wasn't
-- lowered and holds for block s, and all else stays.
pub record IsBoundFor (blocks : List BlockState) (s : ℕ) (old new : Cursors) : Type 0 where
  pub rest : new ≡ record old { bounds = new.bounds; most_erases = new.most_erases }
  pub kept : old.most_erases ≤ new.most_erases
  pub most : (in_block blocks s).erases ≤ new.most_erases
  pub size : length new.bounds ≡ length old.bounds
  pub below : (q : ℕ) → slice_index_or new.bounds q 0 ≤ slice_index_or old.bounds q 0
  pub source : in_bounds new.bounds 0 s ≤ (in_block blocks s).erases
  pub target : in_bounds new.bounds 0 old.reserve ≤ (in_block blocks old.reserve).erases

-- the block before another one, counted round
abbrev pub block_before : List BlockState → ℕ → ℕ
block_before blocks b = if b == 0 then length blocks - 1 else b - 1

-- Block b is wholly free, and the sectors of the block before it rest: blocks that are written
-- often lie side by side, and b is the first of them.
pub record IsTail (but : ℕ) (blocks : List BlockState) (b : ℕ) : Type 0 where
  pub number : b < length blocks
  pub whole : IsWholeBlock (in_block blocks b)
  pub other : block_before blocks b ≢ but
  pub rests : Wants wanteds.Resting (in_block blocks (block_before blocks b))

-- each block whose sectors rest has fewer dead slots than block w
abbrev pub AreRestingFewer : List BlockState → ℕ → Type 0
AreRestingFewer blocks w = (c : ℕ) → c < length blocks → Wants wanteds.Resting (in_block blocks c)
    → (in_block blocks c).dead < (in_block blocks w).dead

-- a block that is neither wholly free nor live with a group: it can be copied as slots
abbrev pub IsInUse : BlockState → Type 0
IsInUse b = (b.group ≡ false) × (IsWholeBlock b → ⊥)

-- The sectors of block s rest, and block t is wholly free. Another block has more dead slots
-- than s.
pub record IsDue (blocks : List BlockState) (s t : ℕ) : Type 0 where
  pub source : s < length blocks
  pub target : t < length blocks
  pub used : IsInUse (in_block blocks s)
  pub whole : IsWholeBlock (in_block blocks t)
  pub worst : ℕ
  pub is_worst : worst < length blocks
  pub more : (in_block blocks s).dead < (in_block blocks worst).dead

-- by erases another wholly free block, which was erased less often than the reserve
pub record IsOtherReserve (blocks : List BlockState) (at : Cursors) (r : ℕ) : Type 0 where
  pub number : r < length blocks
  pub whole : IsWholeBlock (in_block blocks r)
  pub less : (in_block blocks r).erases < (in_block blocks at.reserve).erases
  pub level : at.policy ≡ policies.Lowest → ⊥
