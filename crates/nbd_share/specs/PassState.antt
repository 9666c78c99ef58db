-- What contracts see of a pass. Source: own.
use Rattle.std.specs.Prelude.{ℕ}

-- the connection's number, and how many rows the pass added
pub record PassState : Type 0 where
  pub connection : ℕ
  pub count : ℕ
