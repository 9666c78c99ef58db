use Rattle.std.proofs.Common.{◌≡◌, ◌≤◌, ◌<◌, ℕ, length}
use Rattle.std.specs.Prelude.{slice_index}
use Rattle.norbd_status.specs.Erasing.{IsWorn}
use Rattle.norbd_status.proofs.wear.most_worn.Given as goal

abbrev pub invariant-loop-block : goal.invariant-loop-block
invariant-loop-block l = IsWorn l.counts l.from l.worn
    × ((k : ℕ) → l.from ≤ k → k < l.block → slice_index l.counts k ≤ l.worn.erases)
