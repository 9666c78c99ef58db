-- What the play of one step says of a disk. Words of private functions: no claim rests on them.
-- Source: own.
use Rattle.std.specs.Prelude.{◌≡◌, ◌≢◌, ◌⊎◌, ◌==◌, ◌&&◌, ◌||◌, ℕ, Bool, not, true, false, Result}
use Rattle.std.specs.Prelude.{Ok, Err}
use Rattle.block_device.specs.Facts.{Facts, CountsNeverFall}
use Rattle.block_device.specs.Contents.{Outcome}
use Rattle.block_device.specs.declared.disk.DiskError.{DiskError}
use Rattle.block_device.specs.declared.disk.DiskError.TheVariants.{Cut, Slow}
use Rattle.page.specs.Story.{is_playable, meant, power_after}
use Rattle.page.specs.declared.step.Step.{Step}
use Rattle.page.specs.declared.step.Power.{Power}

-- an answer as a byte: 69 `E` where an operation was slow
abbrev pub code : {T : Type 0} → Result T DiskError → ℕ
code (Ok _) = 65
code (Err Cut) = 76
code (Err Slow) = 69

-- an answer tells of a loss of power, with the power on or in a restore, and none was armed
abbrev pub is_unarmed : Step → ℕ → Power → Bool
is_unarmed s answer p = (answer == 76) && (not p.armed && (p.on || (s.what == 82)))

-- what a step whose operations all ended does on a sound disk
pub record PlaysStep (s : Step) (answer : ℕ) (old new : Facts) : Type 0 where
  pub answers : (answer ≡ 65) ⊎ (answer ≡ 76) ⊎ (answer ≡ 66) ⊎ (answer ≡ 69)
  pub unknown : is_playable s ≡ false → answer ≡ 66
  pub known : answer ≡ 66 → is_playable s ≡ false
  pub off : old.cut ≡ true → is_playable s ≡ true → s.what ≢ 82 → s.what ≢ 67 → answer ≡ 76
  pub done : answer ≡ 65 → new.contents ≡ meant s old.contents
  pub torn : answer ≡ 76 → Outcome old.contents (meant s old.contents) new.contents
  pub refused : answer ≡ 66 → new.contents ≡ old.contents
  pub power : answer ≢ 69 → (armed : Bool) → not new.cut
      ≡ (power_after s answer (record { on = not old.cut; armed = armed })).on
  pub sound : answer ≢ 69 → new.sound ≡ true
  pub quick : answer ≢ 69 → new.slow ≡ false
  pub goes : CountsNeverFall old new
