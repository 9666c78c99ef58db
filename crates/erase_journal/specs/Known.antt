-- What a journal knows of its memory's votes and entries without reading them. Source: own.
use Rattle.std.specs.Prelude.{◌≡◌, ℕ, ◌+◌, ◌<◌, true, false, List}
use Rattle.nor_layout.specs.Entries.{entry_count}
use Rattle.erase_journal.specs.declared.known.Known.{Known}
use Rattle.erase_journal.specs.Journals.{unused, is_free_entry}
use Rattle.erase_journal.specs.Steps.{SameNumbers}

-- the numbers are those of the memory; where the free entries are said to be the last ones, none of
-- the others is free
pub record IsKnown (known : Known) (m : List ℕ) : Type 0 where
  pub numbers : SameNumbers known.unused (unused m)
  pub packed : known.packed ≡ true → (k : ℕ) → k + known.unused.free < entry_count
      → is_free_entry m k ≡ false
