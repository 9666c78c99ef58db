-- What a buffer keeps of bytes that come piece by piece (own).
use Rattle.std.specs.Prelude.{ℕ, ◌≡◌, List, length, take, min}

-- A buffer has the first bytes of a rest, as many as there is room for, and so many have come.
pub record HasFront (buffer : List ℕ) (count : ℕ) (rest : List ℕ) : Type 0 where
  pub front : take (length buffer) rest ≡ take (min count (length buffer)) buffer
  pub len : length rest ≡ count
