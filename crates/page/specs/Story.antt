-- What a script leaves of the sectors of a small chip, by the answers of its steps. Source: own.
use Rattle.std.specs.Prelude.{◌≡◌, ◌≢◌, ◌⊎◌, ℕ, zero, suc, ◌+◌, ◌*◌, ◌≤◌, ◌==◌, ◌&&◌, ◌||◌}
use Rattle.std.specs.Prelude.{if◌then◌else◌, not, nat_lt, nat_le, Bool, true, false, List, length}
use Rattle.std.specs.Prelude.{replicate}
use Rattle.chip_model.specs.Memory.{byte}
use Rattle.block_device.specs.Contents.{replaced, Outcome}
use Rattle.flash_disk.specs.Contents.{contents_of}
use Rattle.page.specs.Tape.{Bus, Run}
use Rattle.page.specs.declared.step.Step.{Step}
use Rattle.page.specs.declared.step.Power.{Power}

-- the step at a place of a script, which has eight bytes for each
abbrev pub step_at : List ℕ → ℕ → Step
step_at script k = record {
  what = byte script (8 * k);
  sector = byte script (8 * k + 1);
  fill = byte script (8 * k + 2);
  kind = byte script (8 * k + 3);
  mask = byte script (8 * k + 4);
  count = 65536 * byte script (8 * k + 5) + 256 * byte script (8 * k + 6)
      + byte script (8 * k + 7);
}

-- 87 `W` and 90 `Z` name one of 70 sectors; 84 `T`, 82 `R` and 67 `C` name none
abbrev pub is_playable : Step → Bool
is_playable s = if (s.what == 87) || (s.what == 90) then nat_lt s.sector 70
    else (s.what == 84) || (s.what == 82) || (s.what == 67)

-- The sectors as a step means them to be: 87 `W` fills its sector with its byte, 90 `Z` with zeros;
-- no other step changes one.
abbrev pub meant : Step → List ℕ → List ℕ
meant s c = if s.what == 87 then replaced c (512 * s.sector) (replicate 512 s.fill)
    else if s.what == 90 then replaced c (512 * s.sector) (replicate 512 0) else c

-- What a step leaves of the power, by its answer: 76 `L` leaves it off, and 65 `A` to a restore (82
-- `R`) on. An arming (67 `C`) of the frame 0 takes back what was armed; a loss that came is no
-- longer armed.
abbrev pub power_after : Step → ℕ → Power → Power
power_after s answer p = if answer == 76 then record {
  on = false;
  armed = p.armed && not p.on && not (s.what == 82);
} else record {
  on = p.on || ((answer == 65) && (s.what == 82));
  armed = if s.what == 67 then nat_lt 0 s.count else p.armed;
}

-- the power before the step at a place
abbrev pub power_at : List ℕ → List ℕ → ℕ → Power
power_at script answers zero = record { on = true; armed = false }
power_at script answers (suc k) =
    power_after (step_at script k) (byte answers k) (power_at script answers k)

-- What a step does, by its answer. 65 `A`: it is done. 76 `L`: the power was lost in it, or off:
-- each sector is wholly as it was, or wholly as it was meant. 66 `B`: nothing changed.
pub record StepDoes (s : Step) (answer : ℕ) (p : Power) (c c' : List ℕ) : Type 0 where
  pub answers : (answer ≡ 65) ⊎ (answer ≡ 76) ⊎ (answer ≡ 66)
  -- `B` exactly where there is no such step or sector
  pub unknown : is_playable s ≡ false → answer ≡ 66
  pub known : answer ≡ 66 → is_playable s ≡ false
  -- `L` only where a loss was armed that hadn't come, or where the power was off
  pub lost : answer ≡ 76 → (p.armed ≡ true) ⊎ ((p.on ≡ false) × (s.what ≢ 82))
  -- and always where it was off, but at a restore and an arming
  pub off : p.on ≡ false → is_playable s ≡ true → s.what ≢ 82 → s.what ≢ 67 → answer ≡ 76
  pub done : answer ≡ 65 → c' ≡ meant s c
  pub torn : answer ≡ 76 → Outcome c (meant s c) c'
  pub refused : answer ≡ 66 → c' ≡ c

-- THE STORY: from these sectors the first so many steps of a script and their answers lead to
-- those.
unfoldable pub Story : List ℕ → List ℕ → List ℕ → ℕ → List ℕ → Type 0
Story first script answers zero c = c ≡ first
Story first script answers (suc k) c = (before : List ℕ) × Story first script answers k before
    × StepDoes (step_at script k) (byte answers k) (power_at script answers k) before c

-- the buffers have the lengths of a script of at most 4,096 steps, of its answers, of a chip of 64
-- KiB, of its sectors, and of 65,536 rows
abbrev pub has_lengths : List ℕ → List ℕ → List ℕ → List ℕ → List ℕ → Bool
has_lengths script answers image contents frames = (length script == 8 * length answers)
    && nat_le (length answers) 4096
    && (length image == 65536) && (length contents == 35840) && (length frames == 524288)

-- What is handed out of a script that was played on a new chip, whose 70 sectors are zeros: its
-- memory represents what the story of all steps leaves; the sectors were read where the power was
-- on in the end, and are those; the rows, where there was room for them, are a run of the chip to
-- this memory.
pub record Plays (script answers image contents frames : List ℕ) (rows read : ℕ) : Type 0 where
  pub story : Story (replicate 35840 0) script answers (length answers) (contents_of image)
  pub is_read : read ≡ (if (power_at script answers (length answers)).on then 1 else 0)
  pub read_back : read ≡ 1 → contents ≡ contents_of image
  pub run : 8 * rows ≤ length frames
      → ∥ ((bus : Bus) × Run frames rows bus × (bus.chip.memory ≡ image)) ∥₁
