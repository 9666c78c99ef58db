-- What is written of a script that is run on a chip in memory, where no operation is slow. Source:
-- own.
use Rattle.std.specs.Prelude.{ℕ, List, ◌++◌, Option, Result, Ok, Err}
use Rattle.std.specs.Io.KnownBytes.{Appends, Consumes, IsAtEnd}
use Rattle.flash_disk.specs.declared.error.MountError.{MountError}
use Rattle.flash_disk.specs.declared.error.MountError.TheVariants as mounts
use Rattle.nor_driver.specs.declared.error.ProbeError.{ProbeError}
use Rattle.nor_driver.specs.declared.error.ProbeError.TheVariants as probes
use Rattle.nbd_station.specs.declared.event.Event.{Event}
use Rattle.nbd_station.specs.declared.event.ScriptError.TheVariants as scripts
use Rattle.nbd_station.specs.World.{World}
use Rattle.nbd_station.specs.Transcript.{Transcript}
use Rattle.nbd_station.specs.Broken.{Stops}
use Rattle.nbd_station.specs.Script.{Item, AreAllowed, NoRecord, IsBad, script_of, events_of}
use Rattle.norbd_script.specs.declared.error.RunFault.{RunFault}
use Rattle.norbd_script.specs.declared.error.RunFault.TheVariants.{Format, Mount, NotClean}
use Rattle.norbd_script.specs.declared.error.RunFault.TheVariants.{OutOfMemory, Script}
use Rattle.norbd_script.specs.Answered.{IsUntouched, new_world}

-- THE HEADLINE, of a chip in memory: what was written is a transcript of the events from a disk of
-- zeros of so many sectors.
abbrev pub AnswersFrom : ℕ → List Event → Option (List ℕ) → Option (List ℕ) → Type 0
AnswersFrom sectors events was is = (w : World) × (out : List ℕ) × (losses : ℕ) × Appends was is out
    × Transcript 0 (new_world sectors) events out losses w

-- the same where the output failed: what it took is a beginning of such a transcript
abbrev pub BreaksFrom : ℕ → List Event → Option (List ℕ) → Option (List ℕ) → Type 0
BreaksFrom sectors events was is = (w : World) × (out : List ℕ) × (losses : ℕ) × Appends was is out
    × Stops 0 (new_world sectors) events out losses w

-- a chip in memory passes the checks of a probe, and no operation of it is slow: it is refused only
-- for a loss of power
abbrev pub IsPrompt : ProbeError → Type 0
IsPrompt probes.Cut = Unit {0}
IsPrompt probes.Slow = ⊥
IsPrompt probes.WrongId = ⊥
IsPrompt (probes.Sfdp e) = ⊥
IsPrompt probes.Protected = ⊥

-- and the mount of one that was just formatted for that or for want of memory
abbrev pub IsOfPrompt : MountError → Type 0
IsOfPrompt (mounts.Probe e) = IsPrompt e
IsOfPrompt mounts.OutOfMemory = Unit {0}
IsOfPrompt mounts.NotFormatted = ⊥
IsOfPrompt mounts.Corrupt = ⊥

-- what a script on such a chip says
abbrev pub SimulatesScript : ℕ → Option (List ℕ) → Option (List ℕ) → Result (Unit {0}) RunFault
    → Option (List ℕ) → Option (List ℕ) → Type 0
SimulatesScript sectors r was (Ok _) r' is =
    (items : List Item) × AreAllowed items × Consumes r r' (script_of items) × IsAtEnd r'
    × AnswersFrom sectors (events_of items) was is
SimulatesScript sectors r was (Err (Script scripts.Input)) r' is =
    (items : List Item) × (rest : List ℕ) × AreAllowed items
    × Consumes r r' (script_of items ++ rest) × AnswersFrom sectors (events_of items) was is
    × NoRecord rest
SimulatesScript sectors r was (Err (Script scripts.BadRecord)) r' is =
    (items : List Item) × (rest : List ℕ) × AreAllowed items
    × Consumes r r' (script_of items ++ rest) × AnswersFrom sectors (events_of items) was is
    × IsBad rest r'
SimulatesScript sectors r was (Err (Script scripts.Output)) r' is =
    (items : List Item) × AreAllowed items × Consumes r r' (script_of items)
    × BreaksFrom sectors (events_of items) was is
SimulatesScript sectors r was (Err (Format e)) r' is = IsUntouched r was r' is × IsPrompt e
SimulatesScript sectors r was (Err (Mount e)) r' is = IsUntouched r was r' is × IsOfPrompt e
SimulatesScript sectors r was (Err NotClean) r' is = ⊥
SimulatesScript sectors r was (Err OutOfMemory) r' is = IsUntouched r was r' is
