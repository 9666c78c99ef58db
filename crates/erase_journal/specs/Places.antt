-- How many of a row of places pass a test, and memories that differ in few places only. Source:
-- own.
use Rattle.std.specs.Prelude.{◌≡◌, ◌≢◌, ℕ, zero, suc, ◌+◌, ◌<◌, ◌≤◌, Bool, List, length}
use Rattle.std.specs.Prelude.{if◌then◌else◌}
use Rattle.chip_model.specs.Memory.{byte}

-- how many of the numbers below n pass a test
unfoldable pub how_many : (ℕ → Bool) → ℕ → ℕ
how_many test zero = 0
how_many test (suc n) = (if test n then 1 else 0) + how_many test n

-- m' is m with the n bytes from a place on made anything
pub record Spoiled (at n : ℕ) (m m' : List ℕ) : Type 0 where
  pub same_length : length m' ≡ length m
  pub below : (k : ℕ) → k < at → byte m' k ≡ byte m k
  pub above : (k : ℕ) → at + n ≤ k → byte m' k ≡ byte m k

-- m' is m with one byte changed
pub record Changed (at old new : ℕ) (m m' : List ℕ) : Type 0 where
  pub was : byte m at ≡ old
  pub is : byte m' at ≡ new
  pub same_length : length m' ≡ length m
  pub rest : (k : ℕ) → k ≢ at → byte m' k ≡ byte m k
