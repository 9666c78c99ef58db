-- What a draw makes of a simulated chip. Source: own.
use Rattle.std.specs.Prelude.{ℕ, ◌%◌, List, length}
use Rattle.chip_model.specs.Memory.{byte, changed}
use Rattle.chip_simulator.specs.Mask.{by_mask}

-- the memory in which each weak bit is that of the draw, whose bytes count from the first on, again
-- and again
unfoldable pub drawn_by : List ℕ → List ℕ → List ℕ → List ℕ
drawn_by draw weak m =
    changed (λ i x. by_mask (byte weak i) x (byte draw (i % length draw))) m
