-- What `script` says, and how it ends. Source: own.
use Rattle.std.specs.Prelude.{ℕ, ◌*◌, List, Option, Result, Ok, Err}
use Rattle.chip_model.specs.Geometry.{sector_count}
use Rattle.nor_driver.specs.declared.error.ProbeError.{ProbeError}
use Rattle.nor_driver.specs.declared.error.ProbeError.TheVariants as probes
use Rattle.flash_disk.specs.declared.error.MountError.TheVariants as mounts
use Rattle.nbd_station.specs.declared.event.ScriptError.TheVariants as scripts
use Rattle.nbd_station.specs.Script.{FailsToReadAll, FailsToWrite}
use Rattle.norbd_script.specs.Answered.{script_part}
use Rattle.norbd_script.specs.Simulated.{SimulatesScript}
use Rattle.norbd_script.specs.declared.error.RunFault.{RunFault}
use Rattle.norbd_script.specs.declared.error.RunFault.TheVariants as runs
use Rattle.norbd_run.specs.Outcomes.{IsDone, IsFault}
use Rattle.norbd_line.specs.declared.fault.Cause.TheVariants.{Write}
use Rattle.norbd_line.specs.declared.fault.Fault.{Fault}
use Rattle.norbd_line.specs.declared.fault.Fault.TheVariants.{NoMemory, InputFailed, OutputFailed}
use Rattle.norbd_line.specs.declared.fault.Fault.TheVariants.{ImageFailed, WrongId, BadSfdp}
use Rattle.norbd_line.specs.declared.fault.Fault.TheVariants.{Protected, Slow, BadRecord}
use Rattle.norbd_line.specs.declared.fault.Fault.TheVariants.{NotClean, NotFormatted, Corrupt}

-- what a refusal of a probe is for the program; a chip loses its power where its image fails
abbrev pub told_of_probe : ProbeError → Fault
told_of_probe probes.Cut = ImageFailed Write
told_of_probe probes.Slow = Slow
told_of_probe probes.WrongId = WrongId
told_of_probe (probes.Sfdp e) = BadSfdp
told_of_probe probes.Protected = Protected

-- and what one of a run is
abbrev pub told_of : RunFault → Fault
told_of (runs.Format e) = told_of_probe e
told_of (runs.Mount (mounts.Probe e)) = told_of_probe e
told_of (runs.Mount mounts.OutOfMemory) = NoMemory
told_of (runs.Mount mounts.NotFormatted) = NotFormatted
told_of (runs.Mount mounts.Corrupt) = Corrupt
told_of runs.NotClean = NotClean
told_of runs.OutOfMemory = NoMemory
told_of (runs.Script scripts.Input) = InputFailed
told_of (runs.Script scripts.BadRecord) = BadRecord
told_of (runs.Script scripts.Output) = OutputFailed

abbrev pub IsToldOf : {T : Type 0} → Result (Unit {0}) RunFault → Result T Fault → Type 0
IsToldOf (Ok _) result = IsDone result
IsToldOf (Err e) result = IsFault (told_of e) result

-- what is known of the streams: what is left to read or was written, and how many calls failed
pub record Streams : Type 0 where
  pub left : Option (List ℕ)
  pub reads : ℕ
  pub written : Option (List ℕ)
  pub writes : ℕ

-- What `script` on a chip of so many KiB does: what a run on a new chip in memory says, with its
-- fault told.
abbrev pub Scripts : {T : Type 0} → ℕ → Streams → Result T Fault → Streams → Type 0
Scripts kib old result new =
    (run : Result (Unit {0}) RunFault)
    × IsToldOf run result
    × SimulatesScript (sector_count (1024 * kib)) old.left old.written run new.left new.written
    × FailsToReadAll old.left old.reads (script_part run) new.reads
    × FailsToWrite old.writes (script_part run) new.writes
