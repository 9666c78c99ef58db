-- What a scan of a buffer counts and finds. Source: own.
use Rattle.std.specs.Prelude.{◌≡◌, ◌≢◌, ℕ, ◌+◌, ◌*◌, ◌<◌, Bool, true, false, not, List, [], ◌∷◌}
use Rattle.std.specs.Prelude.{Option, MatchOption, ◌==◌, ◌||◌, ◌&&◌, nat_lt}
use Rattle.chip_model.specs.Memory.{byte}
use Rattle.nor_layout.specs.Journals.{region_len}
use Rattle.nor_layout.specs.Entries.{entry_count, block_in, is_open}
use Rattle.erase_journal.specs.declared.scan.OpenEntry.{OpenEntry}
use Rattle.erase_journal.specs.Places.{how_many}
use Rattle.erase_journal.specs.Journals.{free_entries, open_blocks, is_free_entry, is_open_entry}
use Rattle.erase_journal.specs.Journals.{entry_block}

-- how many of the first n bytes of a list are this one, and how many are no vote
unfoldable pub count_equal : List ℕ → ℕ → ℕ → ℕ
count_equal xs value n = how_many (λ k. byte xs k == value) n

unfoldable pub count_wrong : List ℕ → ℕ → ℕ
count_wrong xs n = how_many (λ k. not (byte xs k == 255 || byte xs k == 254 || byte xs k == 252
    || byte xs k == 253)) n

-- how many votes of a region have this byte
unfoldable pub count_at : List ℕ → ℕ → ℕ → ℕ
count_at m region value = how_many (λ k. byte m (region + k) == value) region_len

-- the lowest place in the region with this byte, or none has it
abbrev pub IsFound : List ℕ → ℕ → ℕ → Option ℕ → Type 0
IsFound m region value found = MatchOption found (count_at m region value ≡ 0)
    (λ at. (at < region_len) × (byte m (region + at) ≡ value)
    × ((k : ℕ) → k < at → byte m (region + k) ≢ value))

-- whether entry i of a buffer is free, and how many of the first n are
abbrev pub is_free_in : List ℕ → ℕ → Bool
is_free_in bytes i = byte bytes (4 * i) == 255 && byte bytes (4 * i + 1) == 255
    && byte bytes (4 * i + 2) == 255 && byte bytes (4 * i + 3) == 255

unfoldable pub free_in : List ℕ → ℕ → ℕ
free_in bytes n = how_many (is_free_in bytes) n

-- the four bytes of entry i of a buffer
abbrev pub entry_in : List ℕ → ℕ → List ℕ
entry_in bytes i = byte bytes (4 * i) ∷ byte bytes (4 * i + 1) ∷ byte bytes (4 * i + 2)
    ∷ byte bytes (4 * i + 3) ∷ []

-- whether it is open, on a chip of so many blocks, and how many of the first n are
abbrev pub is_open_in : List ℕ → ℕ → ℕ → Bool
is_open_in bytes blocks i = is_open blocks (entry_in bytes i)

unfoldable pub open_in : List ℕ → ℕ → ℕ → ℕ
open_in bytes blocks n = how_many (is_open_in bytes blocks) n

-- how many of the first n are open for block b
unfoldable pub named_in : List ℕ → ℕ → ℕ → ℕ → ℕ
named_in bytes blocks n b =
    how_many (λ i. is_open_in bytes blocks i && block_in (entry_in bytes i) == b) n

-- how many blocks have an open entry among them
unfoldable pub open_blocks_in : List ℕ → ℕ → ℕ → ℕ
open_blocks_in bytes blocks n = how_many (λ b. nat_lt 0 (named_in bytes blocks n b)) blocks

-- the lowest free entry, or there is none
abbrev pub IsFreeAnswer : List ℕ → Option ℕ → Type 0
IsFreeAnswer m found = MatchOption found (free_entries m ≡ 0)
    (λ i. (i < entry_count) × (is_free_entry m i ≡ true)
    × ((k : ℕ) → k < i → is_free_entry m k ≡ false))

-- an open entry and its block, or there is none
abbrev pub IsOpenAnswer : List ℕ → Option OpenEntry → Type 0
IsOpenAnswer m found = MatchOption found (open_blocks m ≡ 0)
    (λ o. (o.entry < entry_count) × (is_open_entry m o.entry ≡ true)
    × (entry_block m o.entry ≡ o.block))
