-- A list of bytes as parts of one size: the blocks of a memory, the sectors and the groups of a
-- disk. Source: own.
use Rattle.std.specs.Prelude.{ℕ, ◌*◌, List, take, drop}

-- the part k, counted from 0
unfoldable pub part : ℕ → List ℕ → ℕ → List ℕ
part size m k = take size (drop (size * k) m)
