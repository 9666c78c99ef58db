-- Which sectors of two disks differ. Source: own.
use Rattle.std.specs.Prelude.{◌≡◌, ◌≢◌, ◌⊎◌, ℕ, zero, suc, List, [], ◌∷◌, ◌++◌}
use Rattle.block_device.specs.Contents.{sector}

-- of the first n sectors exactly those with these numbers differ, which stand in ascending order
abbrev pub Differing : List ℕ → List ℕ → ℕ → List ℕ → Type 0
Differing these those zero numbers = numbers ≡ []
Differing these those (suc n) numbers = (lower : List ℕ) × Differing these those n lower
    × (((sector these n ≡ sector those n) × (numbers ≡ lower))
    ⊎ ((sector these n ≢ sector those n) × (numbers ≡ lower ++ (n ∷ []))))
