-- What a keeper does: it tidies once after each passing of its gate. Source: own.
use Rattle.std.specs.Prelude.{◌≡◌, ◌⊎◌, ℕ, ◌+◌, ◌-◌, ◌^◌, ◌≤◌, List, [], ◌∷◌, length, Bool, Result}
use Rattle.std.specs.Prelude.{Ok, Err}
use Rattle.block_device.specs.declared.disk.DiskError.{DiskError}
use Rattle.nbd_share.specs.declared.door.Point.{Point}
use Rattle.nbd_share.specs.declared.door.Point.TheVariants.{Read, Execute, Tidy}

abbrev pub tidy_count : Point → ℕ
tidy_count Read = 0
tidy_count Execute = 0
tidy_count Tidy = 1

-- how often Tidy was passed
abbrev pub tidyings : List Point → ℕ
tidyings [] = 0
tidyings (point ∷ points) = tidy_count point + tidyings points

-- steps of tidying, one after another, that answered so
abbrev pub Sweeps : {S : Type 0} → (S → S → Result Bool DiskError → Type 0) → S → List Bool → S
    → Type 0
Sweeps tidies a [] b = b ≡ a
Sweeps {S = S} tidies a (done ∷ more) b =
    (mid : S) × tidies a mid (Ok done) × Sweeps tidies mid more b

-- the last step: none where the keeper was stopped, else one that failed
abbrev pub StopsBy : {S : Type 0} → (S → S → Result Bool DiskError → Type 0) → S → S
    → Result (Unit {0}) DiskError → Type 0
StopsBy tidies a b (Ok _) = b ≡ a
StopsBy tidies a b (Err e) = tidies a b (Err e)

-- Every passing of the gate was followed by one step, but for the last one where the keeper was
-- stopped; without such a passing it ends only after 2^64 - 1 steps.
pub record KeeperRun {S G : Type 0} (tidies : S → S → Result Bool DiskError → Type 0)
    (passes : G → G → List Point → Type 0) (a b : S) (before after : G)
    (result : Result (Unit {0}) DiskError) : Type 0 where
  pub answers : List Bool
  pub last : S
  pub points : List Point
  pub sweeps : Sweeps tidies a answers last
  pub stops : StopsBy tidies last b result
  pub gate : passes before after points
  pub once : (tidyings points ≡ length answers + 1)
      ⊎ ((tidyings points ≡ length answers) × (2 ^ 64 - 1 ≤ length answers))
