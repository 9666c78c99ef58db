-- What becomes of a chip that is mounted and run again and again. Source: own.
use Rattle.std.specs.Prelude.{◌≡◌, ℕ, ◌≤◌, true, List, [], ◌∷◌, length, Option, Result, Ok, Err}
use Rattle.chip_model.specs.Chip.{Chip, is_idle}
use Rattle.chip_model.specs.Cut.{Cut}
use Rattle.chip_model.specs.Geometry.{sector_count}
use Rattle.nor_driver.specs.Probe.{IsAcceptedChip}
use Rattle.nor_driver.specs.Steps.{Woken}
use Rattle.sector_slots.specs.Slots.{IsClean}
use Rattle.sector_map.specs.Maps.{IsMountable}
use Rattle.flash_disk.specs.Contents.{contents_of}
use Rattle.flash_disk.specs.Mounting.{RefusedAs, RefusedAt, RefusedFor}
use Rattle.norbd_script.specs.declared.error.RunFault.{RunFault}
use Rattle.norbd_script.specs.declared.error.RunFault.TheVariants.{Format, Mount, NotClean}
use Rattle.norbd_script.specs.declared.error.RunFault.TheVariants.{OutOfMemory, Script}
use Rattle.norbd_script.specs.Answered.{Seen, AnswersLines, IsOfFormatted, IsUntouched, mounted}

-- A healthy chip: nothing is in progress, it passes the checks of a probe, and its memory is that
-- of a disk. A format leaves one (`Formatted`).
pub record IsHealthyChip (c : Chip) : Type 0 where
  pub idle : is_idle c.operation ≡ true
  pub accepted : IsAcceptedChip c
  pub mountable : IsMountable c.memory

-- a chip on its bus, and what the bus counted so far
pub record OnBus : Type 0 where
  pub chip : Chip
  pub cuts : ℕ
  pub slows : ℕ

-- what is seen from above of a chip that holds this array of so many sectors: it, and the counts
abbrev pub seen_with : ℕ → List ℕ → OnBus → Seen
seen_with sectors array b = record {
  sectors = sectors;
  contents = array;
  cuts = b.cuts;
  slows = b.slows;
}

-- and of one that holds the array that its memory represents
abbrev pub as_seen : OnBus → Seen
as_seen b = seen_with (sector_count (length b.chip.memory)) (contents_of b.chip.memory) b

-- One stay of a chip in a station: what was left of the input and what the output had taken when it
-- began, its answer, and both when it ended.
pub record Stay : Type 0 where
  pub input : Option (List ℕ)
  pub was : Option (List ℕ)
  pub answer : Result (Unit {0}) RunFault
  pub left : Option (List ℕ)
  pub is : Option (List ℕ)

-- nothing changed of the array, where no operation was slow
abbrev pub KeepsArray : Seen → Seen → Type 0
KeepsArray old new = new.slows ≡ old.slows → new.contents ≡ old.contents

-- What a stay says, by its answer. A script was run: from the array that the mount found. The mount
-- was refused: only for a loss of power, a slow operation or want of memory; or what reads as free
-- wasn't erased; or there was no memory for the station: nothing was read or written, and the array
-- is as before.
abbrev pub Answers : Seen → Seen → Option (List ℕ) → Option (List ℕ) → Result (Unit {0}) RunFault
    → Option (List ℕ) → Option (List ℕ) → Type 0
Answers old new r was (Ok _) r' is =
    AnswersLines (mounted old.sectors old.contents) old new r was (Ok tt) r' is
Answers old new r was (Err (Script e)) r' is =
    AnswersLines (mounted old.sectors old.contents) old new r was (Err e) r' is
Answers old new r was (Err (Format e)) r' is = ⊥
Answers old new r was (Err (Mount e)) r' is =
    IsUntouched r was r' is × KeepsArray old new × IsOfFormatted e
    × RefusedFor e old.cuts old.slows new.cuts new.slows
Answers old new r was (Err NotClean) r' is =
    IsUntouched r was r' is × KeepsArray old new × (new.cuts ≡ old.cuts) × (new.slows ≡ old.slows)
Answers old new r was (Err OutOfMemory) r' is =
    IsUntouched r was r' is × KeepsArray old new × (new.cuts ≡ old.cuts) × (new.slows ≡ old.slows)

abbrev pub StaySays : Seen → Stay → Seen → Type 0
StaySays old stay new = Answers old new stay.input stay.was stay.answer stay.left stay.is

-- What a mount says of any chip on which nothing is in progress: why it was refused and what it
-- left, or that the chip is healthy; and where it is answered that it isn't clean, it isn't.
abbrev pub MountSays : Result (Unit {0}) RunFault → Chip → Chip → Type 0
MountSays (Ok _) c c' = IsHealthyChip c
MountSays (Err (Format e)) c c' = ⊥
MountSays (Err (Mount e)) c c' = RefusedAt e c.memory c'.memory × RefusedAs e c
MountSays (Err NotClean) c c' = IsHealthyChip c × (IsClean c.memory → ⊥)
MountSays (Err OutOfMemory) c c' = IsHealthyChip c
MountSays (Err (Script e)) c c' = IsHealthyChip c

-- what a stay makes of a healthy chip, where no operation was slow
pub record StaysHealthy (c c' : Chip) : Type 0 where
  pub healthy : IsHealthyChip c'
  pub sectors : sector_count (length c'.memory) ≡ sector_count (length c.memory)
  pub clean : IsClean c.memory → IsClean c'.memory

-- What one call of `run_steady` says.
pub record RunsMounted (old : OnBus) (stay : Stay) (new : OnBus) : Type 0 where
  pub cuts : old.cuts ≤ new.cuts
  pub slows : old.slows ≤ new.slows
  pub mounts : is_idle old.chip.operation ≡ true → MountSays stay.answer old.chip new.chip
  pub says : IsHealthyChip old.chip → StaySays (as_seen old) stay (as_seen new)
  pub stays : IsHealthyChip old.chip → new.slows ≡ old.slows → StaysHealthy old.chip new.chip

-- One such call: the chip on its bus before it, the stay, and the chip on its bus after it.
pub record MountedRun : Type 0 where
  pub before : OnBus
  pub stay : Stay
  pub after : OnBus

-- A chip to which no frame is sent: nothing becomes of it; its power goes; or it goes and comes
-- back.
pub data LeftAlone (c c' : Chip) : Type 0 where
  keeps_power : c' ≡ c → LeftAlone c c'
  loses_power : Cut c c' → LeftAlone c c'
  regains_power : Woken c c' → LeftAlone c c'

-- Any number of calls on one chip, in none of which an operation was slow. Before each, and after
-- the last, it is left alone, and another process may begin, whose bus counts anew.
abbrev pub AllRunMounted : Chip → List MountedRun → Chip → Type 0
AllRunMounted c [] c' = LeftAlone c c'
AllRunMounted c (run ∷ runs) c' =
    LeftAlone c run.before.chip × RunsMounted run.before run.stay run.after
    × (run.after.slows ≡ run.before.slows) × AllRunMounted run.after.chip runs c'

-- A CHIP'S LIFE: stays in a station, one after another, by a chip of so many sectors. What each
-- wrote is a transcript from the array which the one before it left, and a refused one leaves it.
abbrev pub Lives : ℕ → List ℕ → List MountedRun → List ℕ → Type 0
Lives sectors array [] array' = array' ≡ array
Lives sectors array (run ∷ runs) array' =
    StaySays (seen_with sectors array run.before) run.stay (as_seen run.after)
    × Lives sectors (contents_of run.after.chip.memory) runs array'

-- any number of calls on a healthy chip are its life, and it is healthy in the end
abbrev pub CallsAreALife : Type 0
CallsAreALife = (c c' : Chip) (runs : List MountedRun) → AllRunMounted c runs c' → IsHealthyChip c
    → Lives (sector_count (length c.memory)) (contents_of c.memory) runs (contents_of c'.memory)
    × StaysHealthy c c'
