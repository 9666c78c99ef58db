-- A part of a disk. Source: own.
use Rattle.std.specs.Prelude.{ℕ, ◌<◌, ◌≤◌}
use Rattle.norbd_transfer.specs.declared.part.Part.{Part}

-- some sectors of a disk of so many
pub record IsPartOf (p : Part) (sectors : ℕ) : Type 0 where
  pub some : p.first < p.end
  pub within : p.end ≤ sectors
