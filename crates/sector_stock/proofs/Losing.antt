-- What a loss of power in a call that keeps the sectors leaves, after other calls that kept them.
use Rattle.std.proofs.Common.{◌≡◌, ℕ, Bool, List, refl}
use Rattle.chip_model.specs.Wavering.{Bits}
use Rattle.sector_slots.specs.Losses.{StepInterrupted, IsFirmDisk}
use Rattle.sector_stock.specs.Copy.{KeepsSectors}
use Rattle.sector_stock.specs.Losses.{LosesNothing}
use Rattle.sector_stock.proofs.Copying.{after-keeps}

pub same-keeps : (m : List ℕ) → KeepsSectors m m
same-keeps m = record {
  chip = record { same_length = refl; superblock = λ k low. refl };
  sectors = λ sectors h. h;
  alone = λ h. h;
  clean = λ h. h;
}

-- in the first call
pub loses-in : (a : Bits) (suspect : ℕ → Bool) (b : Bits) → IsFirmDisk a suspect → StepInterrupted a suspect b → LosesNothing a.shown b
loses-in a suspect b h change = record { before = a; suspect = suspect; disk = h; keeps = same-keeps a.shown; change = change }

-- in a later one
pub loses-later : (m m1 : List ℕ) (b : Bits) → KeepsSectors m m1 → LosesNothing m1 b → LosesNothing m b
loses-later m m1 b keeps h = record { before = h.before; suspect = h.suspect; disk = h.disk; keeps = after-keeps m m1 h.before.shown keeps h.keeps; change = h.change }
