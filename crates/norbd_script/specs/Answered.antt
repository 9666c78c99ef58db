-- What is written of a script that is run on a chip which was just formatted. Source: own.
use Rattle.std.specs.Prelude.{◌≡◌, ℕ, ◌*◌, true, List, ◌++◌, Option, None, replicate, Result}
use Rattle.std.specs.Prelude.{Ok, Err}
use Rattle.std.specs.Io.KnownBytes.{Appends, Consumes, IsAtEnd}
use Rattle.nor_driver.specs.Probe.{Readings}
use Rattle.nor_driver.specs.declared.error.ProbeError.TheVariants as probes
use Rattle.flash_disk.specs.Formatted.{AnswersAsTold, FormatFails, FormatLeaves}
use Rattle.flash_disk.specs.Mounting.{RefusedFor}
use Rattle.flash_disk.specs.declared.error.MountError.{MountError}
use Rattle.flash_disk.specs.declared.error.MountError.TheVariants as refusals
use Rattle.nbd_station.specs.declared.event.Event.{Event}
use Rattle.nbd_station.specs.declared.event.ScriptError.{ScriptError}
use Rattle.nbd_station.specs.declared.event.ScriptError.TheVariants as scripts
use Rattle.nbd_wire.specs.Commands.{default_export}
use Rattle.nbd_station.specs.World.{World}
use Rattle.nbd_station.specs.Transcript.{Transcript}
use Rattle.nbd_station.specs.Broken.{Stops}
use Rattle.nbd_station.specs.Script.{Item, AreAllowed, NoRecord, IsBad, script_of, events_of}
use Rattle.norbd_script.specs.declared.error.RunFault.{RunFault}
use Rattle.norbd_script.specs.declared.error.RunFault.TheVariants.{Format, Mount, NotClean}
use Rattle.norbd_script.specs.declared.error.RunFault.TheVariants.{OutOfMemory, Script}

-- what a mount finds: so many sectors with these contents, with power, and with every connection
-- closed
abbrev pub mounted : ℕ → List ℕ → World
mounted sectors contents = record {
  export = default_export sectors;
  disk = contents;
  power = true;
  texts = replicate 8 None;
}

-- a disk of zeros of so many sectors
abbrev pub new_world : ℕ → World
new_world sectors = mounted sectors (replicate (512 * sectors) 0)

-- what is known of a chip: its sectors, the bytes of its disk, and what its bus counted so far
pub record Seen : Type 0 where
  pub sectors : ℕ
  pub contents : List ℕ
  pub cuts : ℕ
  pub slows : ℕ

-- THE HEADLINE. Where the bus counted no slow operation: what was written is a transcript of the
-- events from this world, in which as many losses stand at most as the bus counted losses of power;
-- and the chip then holds the disk of its last world.
abbrev pub AnswersEvents : World → Seen → Seen → List Event → Option (List ℕ) → Option (List ℕ)
    → Type 0
AnswersEvents first old new events was is = new.slows ≡ old.slows →
    (w : World) × (out : List ℕ) × Appends was is out
    × Transcript old.cuts first events out new.cuts w × (w.disk ≡ new.contents)

-- the same where the output failed: what it took is a beginning of such a transcript
abbrev pub BreaksEvents : World → Seen → Seen → List Event → Option (List ℕ) → Option (List ℕ)
    → Type 0
BreaksEvents first old new events was is = new.slows ≡ old.slows →
    (w : World) × (out : List ℕ) × Appends was is out
    × Stops old.cuts first events out new.cuts w × (w.disk ≡ new.contents)

-- a chip that was just formatted is refused only for a loss of power, a slow operation or want of
-- memory
abbrev pub IsOfFormatted : MountError → Type 0
IsOfFormatted (refusals.Probe probes.Cut) = Unit {0}
IsOfFormatted (refusals.Probe probes.Slow) = Unit {0}
IsOfFormatted (refusals.Probe probes.WrongId) = ⊥
IsOfFormatted (refusals.Probe (probes.Sfdp e)) = ⊥
IsOfFormatted (refusals.Probe probes.Protected) = ⊥
IsOfFormatted refusals.OutOfMemory = Unit {0}
IsOfFormatted refusals.NotFormatted = ⊥
IsOfFormatted refusals.Corrupt = ⊥

-- Nothing was read or written before the script.
abbrev pub IsUntouched : Option (List ℕ) → Option (List ℕ) → Option (List ℕ) → Option (List ℕ)
    → Type 0
IsUntouched r was r' is = (r' ≡ r) × (is ≡ was)

-- What a script says from this world. Ok: the input is a script of allowed items to its end. A bad
-- record, or a failed input: it begins with one, and behind it, or in what was read behind it,
-- stands no record of an allowed item. In each case the events of these items are answered.
abbrev pub AnswersLines : World → Seen → Seen → Option (List ℕ) → Option (List ℕ)
    → Result (Unit {0}) ScriptError → Option (List ℕ) → Option (List ℕ) → Type 0
AnswersLines first old new r was (Ok _) r' is =
    (items : List Item) × AreAllowed items × Consumes r r' (script_of items) × IsAtEnd r'
    × AnswersEvents first old new (events_of items) was is
AnswersLines first old new r was (Err scripts.Input) r' is =
    (items : List Item) × (rest : List ℕ) × AreAllowed items
    × Consumes r r' (script_of items ++ rest)
    × AnswersEvents first old new (events_of items) was is × NoRecord rest
AnswersLines first old new r was (Err scripts.BadRecord) r' is =
    (items : List Item) × (rest : List ℕ) × AreAllowed items
    × Consumes r r' (script_of items ++ rest)
    × AnswersEvents first old new (events_of items) was is × IsBad rest r'
AnswersLines first old new r was (Err scripts.Output) r' is =
    (items : List Item) × AreAllowed items × Consumes r r' (script_of items)
    × BreaksEvents first old new (events_of items) was is

-- what a script on a new chip says: it begins from a disk of zeros
abbrev pub AnswersScript : Seen → Seen → Option (List ℕ) → Option (List ℕ)
    → Result (Unit {0}) RunFault → Option (List ℕ) → Option (List ℕ) → Type 0
AnswersScript old new r was (Ok _) r' is =
    AnswersLines (new_world old.sectors) old new r was (Ok tt) r' is
AnswersScript old new r was (Err (Script e)) r' is =
    AnswersLines (new_world old.sectors) old new r was (Err e) r' is
AnswersScript old new r was (Err (Format e)) r' is =
    IsUntouched r was r' is × FormatFails e old.cuts old.slows new.cuts new.slows
AnswersScript old new r was (Err (Mount e)) r' is =
    IsUntouched r was r' is × RefusedFor e old.cuts old.slows new.cuts new.slows × IsOfFormatted e
AnswersScript old new r was (Err NotClean) r' is = ⊥
AnswersScript old new r was (Err OutOfMemory) r' is =
    IsUntouched r was r' is × (new.cuts ≡ old.cuts) × (new.slows ≡ old.slows)

-- an answer that comes of the mount or of the script, and not of a format
abbrev pub IsPastFormat : Result (Unit {0}) RunFault → Type 0
IsPastFormat (Ok _) = Unit {0}
IsPastFormat (Err (Format e)) = ⊥
IsPastFormat (Err (Mount e)) = Unit {0}
IsPastFormat (Err NotClean) = Unit {0}
IsPastFormat (Err OutOfMemory) = Unit {0}
IsPastFormat (Err (Script e)) = Unit {0}

-- What the format answered of what the chip told; each answer that isn't its refusal comes of a
-- chip that it accepts.
abbrev pub FormatsAsTold : Result (Unit {0}) RunFault → Readings → Type 0
FormatsAsTold (Ok _) t = AnswersAsTold (Ok tt) t
FormatsAsTold (Err (Format e)) t = AnswersAsTold (Err e) t
FormatsAsTold (Err (Mount e)) t = AnswersAsTold (Ok tt) t
FormatsAsTold (Err NotClean) t = AnswersAsTold (Ok tt) t
FormatsAsTold (Err OutOfMemory) t = AnswersAsTold (Ok tt) t
FormatsAsTold (Err (Script e)) t = AnswersAsTold (Ok tt) t

-- A format that was refused for what the chip told left its memory as it was.
abbrev pub FormatLeft : Result (Unit {0}) RunFault → List ℕ → List ℕ → Type 0
FormatLeft (Ok _) m m' = Unit {0}
FormatLeft (Err (Format e)) m m' = FormatLeaves e m m'
FormatLeft (Err (Mount e)) m m' = Unit {0}
FormatLeft (Err NotClean) m m' = Unit {0}
FormatLeft (Err OutOfMemory) m m' = Unit {0}
FormatLeft (Err (Script e)) m m' = Unit {0}

-- the part of an answer that a script alone gives: a refusal before it counts as none
abbrev pub script_part : Result (Unit {0}) RunFault → Result (Unit {0}) ScriptError
script_part (Ok _) = Ok tt
script_part (Err (Script e)) = Err e
script_part (Err (Format e)) = Ok tt
script_part (Err (Mount e)) = Ok tt
script_part (Err NotClean) = Ok tt
script_part (Err OutOfMemory) = Ok tt
