-- The simulator's own SFDP bytes. Source: JESD216 for what the fields mean; the values are own.
use Rattle.std.specs.Prelude.{ℕ, ◌-◌, ◌*◌, ◌/◌, ◌%◌, Bool, ◌&&◌, if◌then◌else◌, ◌==◌, List, [], ◌∷◌}
use Rattle.std.specs.Prelude.{length, replicate}
use Rattle.chip_model.specs.Memory.{byte, changed, is_within}

-- at the places of these bytes, which lie from `at` on, these bytes, elsewhere another
abbrev pub row : ℕ → List ℕ → ℕ → ℕ → ℕ
row at bytes k other = if is_within at (length bytes) k then byte bytes (k - at) else other

-- a number as four bytes, the least significant first
abbrev pub four_bytes : ℕ → List ℕ
four_bytes n = (n % 256) ∷ (n / 256 % 256) ∷ (n / 65536 % 256) ∷ (n / 16777216 % 256) ∷ []

-- the byte at place k of the table of a chip of so many bytes: the header, the parameter header,
-- and of the basic table at 80h word 1, word 2 (the size in bits less one), words 8 and 9, word 11;
-- all others are FFh
abbrev pub table_byte : ℕ → ℕ → ℕ
table_byte size k =
    row 0 (83 ∷ 70 ∷ 68 ∷ 80 ∷ 6 ∷ 1 ∷ 0 ∷ 255 ∷ []) k
    (row 8 (0 ∷ 6 ∷ 1 ∷ 16 ∷ 128 ∷ 0 ∷ 0 ∷ 255 ∷ []) k
    (row 128 (1 ∷ 32 ∷ 0 ∷ 0 ∷ []) k
    (row 132 (four_bytes (8 * size - 1)) k
    (row 156 (12 ∷ 32 ∷ 16 ∷ 216 ∷ []) k
    (row 160 (0 ∷ 255 ∷ 0 ∷ 255 ∷ []) k
    (row 168 (128 ∷ 0 ∷ 0 ∷ 0 ∷ []) k 255))))))

-- byte 0 is 52h where the table was spoiled
abbrev pub sfdp_byte : ℕ → Bool → ℕ → ℕ
sfdp_byte size spoiled k = if spoiled && (k == 0) then 82 else table_byte size k

unfoldable pub sfdp_table : ℕ → Bool → List ℕ
sfdp_table size spoiled = changed (λ k x. sfdp_byte size spoiled k) (replicate 256 255)
