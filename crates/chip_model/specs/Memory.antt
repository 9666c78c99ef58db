-- A memory is a list of bytes: what writes and erases make of it place by place, and what
-- interrupted ones may leave. Source: datasheet of the W25Q128JV, "Page Program (02h)" (a program
-- only clears bits) and "Sector Erase (20h)" (an erase sets bytes to FFh); what an interruption may
-- leave is own.
use Rattle.std.specs.Prelude.{◌≡◌, ℕ, ◌+◌, ◌-◌, ◌<◌, ◌⊎◌, Bool, false, true, ◌&&◌, if◌then◌else◌}
use Rattle.std.specs.Prelude.{nat_lt, nat_le, List, [], ◌∷◌, length, get_or, bit_and, bit_or}
use Rattle.std.specs.Prelude.{bit_xor}
use Rattle.std.specs.Int.{bit_at}

-- the byte at a place, counted from 0
abbrev pub byte : List ℕ → ℕ → ℕ
byte m i = get_or m i 0

-- the list in which each byte is f of its place and of the byte that was there; the first place is
-- i
abbrev pub changed_from : (ℕ → ℕ → ℕ) → ℕ → List ℕ → List ℕ
changed_from f i [] = []
changed_from f i (x ∷ xs) = f i x ∷ changed_from f (i + 1) xs

abbrev pub changed : (ℕ → ℕ → ℕ) → List ℕ → List ℕ
changed f m = changed_from f 0 m

-- whether place i is one of the n places from a on
abbrev pub is_within : ℕ → ℕ → ℕ → Bool
is_within a n i = nat_le a i && nat_lt i (a + n)

-- at the places of the bytes, which lie from a on: op of the old byte and of the new one; elsewhere
-- the old byte
abbrev pub place_of : (ℕ → ℕ → ℕ) → ℕ → List ℕ → ℕ → ℕ → ℕ
place_of op a bytes i x = if is_within a (length bytes) i then op x (byte bytes (i - a)) else x

-- a write of these bytes from a on
unfoldable pub placed : (ℕ → ℕ → ℕ) → List ℕ → ℕ → List ℕ → List ℕ
placed op m a bytes = changed (place_of op a bytes) m

-- each byte of the range becomes old AND new: a program
abbrev pub and_at : List ℕ → ℕ → List ℕ → List ℕ
and_at m a bytes = placed bit_and m a bytes

abbrev pub taken_byte : ℕ → ℕ → ℕ
taken_byte old new = new

-- each byte of the range becomes the new one: a write to a disk
abbrev pub replaced : List ℕ → ℕ → List ℕ → List ℕ
replaced m a bytes = placed taken_byte m a bytes

-- v at the places of the unit of so many bytes at a, elsewhere the old byte
abbrev pub fill_place : ℕ → ℕ → ℕ → ℕ → ℕ → ℕ
fill_place v a size i x = if is_within a size i then v else x

-- each byte of the unit becomes FFh
unfoldable pub erased : List ℕ → ℕ → ℕ → List ℕ
erased m a size = changed (fill_place 255 a size) m

-- each byte of the unit becomes 0
abbrev pub cleared : List ℕ → ℕ → ℕ → List ℕ
cleared m a size = changed (fill_place 0 a size) m

-- of two memories each bit in which they differ becomes 1
abbrev pub with_differences : List ℕ → List ℕ → List ℕ → List ℕ
with_differences old new m = changed (λ i x. bit_or x (bit_xor (byte old i) (byte new i))) m

-- each bit of a byte is that of the old one or that of the new one
abbrev pub IsMixed : ℕ → ℕ → ℕ → Type 0
IsMixed old new torn = (k : ℕ) → (bit_at torn k ≡ bit_at old k) ⊎ (bit_at torn k ≡ bit_at new k)

-- each bit of a memory is as before a change or as after it
pub record Torn (old new torn : List ℕ) : Type 0 where
  pub same_length : length torn ≡ length old
  pub each : (i : ℕ) → i < length old → IsMixed (byte old i) (byte new i) (byte torn i)

-- what an interrupted program may leave
abbrev pub TornAnd : List ℕ → ℕ → List ℕ → List ℕ → Type 0
TornAnd m a bytes torn = Torn m (and_at m a bytes) torn

-- what an interrupted erase may leave: any bytes in the unit, the others as before
pub record TornErase (m : List ℕ) (a size : ℕ) (torn : List ℕ) : Type 0 where
  pub same_length : length torn ≡ length m
  pub outside : (i : ℕ) → is_within a size i ≡ false → byte torn i ≡ byte m i
  pub inside : (i : ℕ) → is_within a size i ≡ true → byte torn i < 256
