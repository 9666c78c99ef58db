-- The data blocks that a memory represents. Source: own.
use Rattle.std.specs.Prelude.{◌≡◌, ◌≢◌, ℕ, zero, suc, ◌-◌, ◌<◌, ◌≤◌, Bool, not, List, [], ◌∷◌}
use Rattle.std.specs.Prelude.{length, replicate, if◌then◌else◌, ◌&&◌, nat_lt}
use Rattle.chip_model.specs.Memory.{byte}
use Rattle.chip_model.specs.Parts.{part}
use Rattle.chip_model.specs.Geometry.{block_count}
use Rattle.nor_layout.specs.declared.journal.JournalId.TheVariants.{J0}
use Rattle.nor_layout.specs.Journals.{block_len}
use Rattle.erase_journal.specs.Journals.{tally_of, first, second, entries_for}

-- J0 is believed unless both others hold an open vote for its erase
abbrev pub is_believed0 : List ℕ → Bool
is_believed0 m = not (nat_lt 0 (first (tally_of m) J0).opened
    && nat_lt 0 (second (tally_of m) J0).opened)

-- whether the believed J0 holds an open entry for block b
abbrev pub is_opened : List ℕ → ℕ → Bool
is_opened m b = is_believed0 m && nat_lt 0 (entries_for m b)

-- an erased block
unfoldable pub blank : List ℕ
blank = replicate block_len 255

-- what block b represents: its bytes, but erased where the believed J0 holds an open entry for it
unfoldable pub block : List ℕ → ℕ → List ℕ
block m b = if is_opened m b then blank else part block_len m b

-- f of each number from one on, so many
unfoldable pub listed : (ℕ → List ℕ) → ℕ → ℕ → List (List ℕ)
listed f from zero = []
listed f from (suc n) = f from ∷ listed f (suc from) n

-- the data blocks of a memory: those from block 4 on
unfoldable pub blocks_of : List ℕ → List (List ℕ)
blocks_of m = listed (block m) 4 (block_count (length m) - 4)

-- FFh from block 1 on, as a format leaves it
abbrev pub IsErasedBehind : List ℕ → Type 0
IsErasedBehind m = (k : ℕ) → block_len ≤ k → k < length m → byte m k ≡ 255

-- two memories of one length with the same superblock
pub record SameChip (m m' : List ℕ) : Type 0 where
  pub same_length : length m' ≡ length m
  pub superblock : (k : ℕ) → k < block_len → byte m' k ≡ byte m k

-- and the same data blocks
pub record SameBlocks (m m' : List ℕ) : Type 0 where
  pub chip : SameChip m m'
  pub each : (b : ℕ) → 4 ≤ b → b < block_count (length m) → block m' b ≡ block m b

-- two memories of one length with the same data blocks, whose superblocks differ in this byte alone
pub record OnlySuper (at : ℕ) (m m' : List ℕ) : Type 0 where
  pub same_length : length m' ≡ length m
  pub superblock : (k : ℕ) → k < block_len → k ≢ at → byte m' k ≡ byte m k
  pub each : (b : ℕ) → 4 ≤ b → b < block_count (length m) → block m' b ≡ block m b

-- two with the same superblock, and the same data blocks but for block c
pub record OnlyBlock (c : ℕ) (m m' : List ℕ) : Type 0 where
  pub chip : SameChip m m'
  pub others : (b : ℕ) → 4 ≤ b → b < block_count (length m) → b ≢ c → block m' b ≡ block m b

-- and block c erased
pub record WithErased (c : ℕ) (m m' : List ℕ) : Type 0 where
  pub only : OnlyBlock c m m'
  pub erased : block m' c ≡ blank
