-- Lives of a chip whose torn bits waver: each from a power-on to the first loss of power, or to the
-- end of the program. Between two lives the weak bits are drawn anew. Source: own.
use Rattle.std.specs.Prelude.{◌≡◌, ◌⊎◌, ℕ, ◌+◌, ◌<◌, Bool, true, List, [], ◌∷◌, length}
use Rattle.chip_model.specs.Chip.{Chip}
use Rattle.chip_model.specs.Geometry.{sector_count}
use Rattle.chip_model.specs.Wavering.{Bits, bits_of}
use Rattle.sector_slots.specs.Fit.{IsFitForFirmMount}
use Rattle.flash_disk.specs.Contents.{contents_of}
use Rattle.restored_disk.specs.Lives.{Draw, HaveLost, ReadsAsBefore}
use Rattle.norbd_script.specs.Lives.{IsHealthyChip, LeftAlone, Lives, MountedRun, OnBus}
use Rattle.norbd_script.specs.Lives.{RunsMounted, Stay, StaysHealthy}

-- the chip as the next power-on finds it
abbrev pub found : ((b : Bits) → Draw b) → Chip → Chip
found draw c = record c { memory = (draw (bits_of c)).later }

-- How many losses lives have, by their buses. At the end of each earlier one its bus had counted a
-- loss. Of lives that began firmly one was answered for each of these, and one more where one is
-- counted in the last; of others none where there was no earlier one and none is counted.
pub record CountsLosses {B : Type 0} (firm : Bool) (count : B → ℕ) (lives : List (B × Unit {0}))
    (cuts losses : ℕ) : Type 0 where
  pub ended : HaveLost count lives
  pub each : firm ≡ true → (losses ≡ length lives) ⊎ ((losses ≡ length lives + 1) × (0 < cuts))
  pub none : lives ≡ [] → cuts ≡ 0 → losses ≡ 0

-- What one call of `run_mounted` says of the lives that a chip spent in a station, of the chip as
-- the next power-on finds it: what a stay says; and if they began firmly, it is fit for the next.
pub record EndsLives (firm : Bool) (old : OnBus) (stay : Stay) (new : OnBus) : Type 0 where
  pub runs : RunsMounted old stay new
  pub fit : firm ≡ true → IsFitForFirmMount (bits_of new.chip)

-- Any number of such calls on one chip, in none of which an operation was slow or a mount refused.
-- Each leaves the chip as the next power-on finds it; before each, and after the last, it is left
-- alone.
abbrev pub AllLives : Chip → List MountedRun → Chip → Type 0
AllLives c [] c' = LeftAlone c c'
AllLives c (run ∷ runs) c' =
    LeftAlone c run.before.chip × EndsLives true run.before run.stay run.after
    × (run.after.slows ≡ run.before.slows) × AllLives run.after.chip runs c'

-- such calls on a healthy chip that is fit for a firm mount are one life of an array of sectors
abbrev pub FirmLivesAreALife : Type 0
FirmLivesAreALife = (c c' : Chip) (runs : List MountedRun) → AllLives c runs c' → IsHealthyChip c
    → IsFitForFirmMount (bits_of c)
    → Lives (sector_count (length c.memory)) (contents_of c.memory) runs (contents_of c'.memory)
    × StaysHealthy c c' × IsFitForFirmMount (bits_of c')

-- Of a chip that reads as before, what such a call says of the chip as the next power-on finds it
-- is said of the chip itself: the words of `run_steady`, from which a chip's life is made.
abbrev pub SteadyLivesAreMounted : Type 0
SteadyLivesAreMounted = (draws : ℕ → (b : Bits) → Draw b) → ReadsAsBefore draws
    → (life : ℕ) (firm : Bool) (old : OnBus) (stay : Stay) (c : Chip) (cuts slows : ℕ)
    → EndsLives firm old stay (record { chip = found (draws life) c; cuts = cuts; slows = slows })
    → RunsMounted old stay (record { chip = c; cuts = cuts; slows = slows })
