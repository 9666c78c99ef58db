-- How far a search of the index has come. Words of private functions: no claim rests on them.
-- Source: own.
use Rattle.std.specs.Prelude.{◌≡◌, ◌≢◌, ◌⊎◌, ℕ, zero, suc, ◌+◌, ◌*◌, ◌/◌, ◌<◌, ◌≤◌, false, List}
use Rattle.std.specs.Prelude.{length}
use Rattle.erase_journal.specs.Places.{how_many}
use Rattle.sector_slots.specs.Slots.{Free, slot_at}
use Rattle.sector_stock.specs.declared.index.SlotState.{SlotState}
use Rattle.sector_stock.specs.declared.index.BlockState.{BlockState}
use Rattle.sector_stock.specs.declared.index.Cursors.{Cursors}
use Rattle.sector_stock.specs.declared.index.SlotState.TheVariants as states
use Rattle.sector_stock.specs.Index.{in_block, IsWholeBlock, in_slots, IsNextReserve}
use Rattle.sector_stock.specs.Index.{one_erase_more}

-- each wholly free block but r lies below this one
abbrev pub AreSparesBelow : List BlockState → ℕ → ℕ → Type 0
AreSparesBelow blocks r below = (c : ℕ) → c < length blocks → IsWholeBlock (in_block blocks c)
    → c ≢ r → c < below

-- where the index looks for free slots: a block that it doesn't look at any more was none that it
-- looked at, and isn't block b
abbrev pub IsPassed : Cursors → ℕ → Type 0
IsPassed at c = (c < at.cursor) ⊎ (at.beyond ≤ c)

pub record Widened (b : ℕ) (old new : Cursors) : Type 0 where
  pub passed : (c : ℕ) → IsPassed new c → IsPassed old c × (c ≢ b)
  pub within : (new.beyond ≤ old.beyond) ⊎ (new.beyond ≡ b + 1)
  pub policy : new.policy ≡ old.policy
  pub reserve : new.reserve ≡ old.reserve
  pub spares : new.spares ≡ old.spares
  pub most : new.most ≡ old.most
  pub from : new.from ≡ old.from
  pub bounds : new.bounds ≡ old.bounds
  pub least : new.least_erases ≡ old.least_erases
  pub worn : new.most_erases ≡ old.most_erases
  pub newest : new.newest ≡ old.newest

-- the reserve is another one, and where its search ends; all else stays
pub record NextReserve (blocks : List BlockState) (old new : Cursors) : Type 0 where
  pub policy : new.policy ≡ old.policy
  pub reserve : IsNextReserve new.policy blocks new.reserve
  pub spares : AreSparesBelow blocks new.reserve new.spares
  pub within : new.spares ≤ length blocks
  pub cursor : new.cursor ≡ old.cursor
  pub beyond : new.beyond ≡ old.beyond
  pub most : new.most ≡ old.most
  pub from : new.from ≡ old.from
  pub bounds : new.bounds ≡ old.bounds
  pub least : new.least_erases ≡ old.least_erases
  pub worn : new.most_erases ≡ old.most_erases
  pub newest : new.newest ≡ old.newest

-- how many slots the first n blocks have free
unfoldable pub free_below : List BlockState → ℕ → ℕ
free_below blocks zero = 0
free_below blocks (suc n) = (in_block blocks n).free + free_below blocks n

-- no slot of block b is free; or slot w is the first free one of it
abbrev pub HasNoFreeState : List SlotState → ℕ → Type 0
HasNoFreeState slots b = (i : ℕ) → i < 7 → in_slots slots (7 * b + i) ≢ states.Free

pub record IsFirstFreeState (slots : List SlotState) (b w : ℕ) : Type 0 where
  pub block : w / 7 ≡ b
  pub free : in_slots slots w ≡ states.Free
  pub first : (i : ℕ) → i < 7 → 7 * b + i < w → in_slots slots (7 * b + i) ≢ states.Free

-- no slot of its block before slot w is free
abbrev pub HasNoneFreeBefore : ℕ → List ℕ → Type 0
HasNoneFreeBefore w m = (s : ℕ) → s < w → s / 7 ≡ w / 7 → slot_at m s ≢ Free

-- block s was erased once more, so that it isn't suspect, and nothing else of the index changed but
-- the bound of all erases
pub record RecountsErase (s : ℕ) (blocks blocks' : List BlockState) (old new : Cursors)
    : Type 0 where
  pub size : length blocks' ≡ length blocks
  pub here : in_block blocks' s ≡ record (in_block blocks s) {
    erases = one_erase_more (in_block blocks s).erases;
    suspect = false;
  }
  pub others : (c : ℕ) → c < length blocks → c ≢ s → in_block blocks' c ≡ in_block blocks c
  pub rest : new ≡ record old { most_erases = new.most_erases }
  pub kept : old.most_erases ≤ new.most_erases
  pub most : one_erase_more (in_block blocks s).erases ≤ new.most_erases
  pub fits : (in_block blocks s).erases < 65536

-- how many blocks are suspect
unfoldable pub suspects : List BlockState → ℕ
suspects blocks = how_many (λ c. (in_block blocks c).suspect) (length blocks)

-- of the first k blocks the erases were set to 0, and nothing else changed
pub record Forgets (k : ℕ) (blocks blocks' : List BlockState) : Type 0 where
  pub size : length blocks' ≡ length blocks
  pub each : (c : ℕ) → c < length blocks → c < k
      → in_block blocks' c ≡ record (in_block blocks c) { erases = 0 }
  pub others : (c : ℕ) → k ≤ c → in_block blocks' c ≡ in_block blocks c
