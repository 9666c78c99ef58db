-- What an answer to a host says of the disk before and after it. Source: own, over the calls of
-- `Disk`.
use Rattle.std.specs.Prelude.{◌≡◌, ℕ, ◌+◌, ◌*◌, ◌<◌, ◌≤◌, true, false, List, length, replicate}
use Rattle.std.specs.Prelude.{Bool, Result, Ok, Err}
use Rattle.block_device.specs.declared.disk.DiskError.{DiskError}
use Rattle.block_device.specs.declared.disk.DiskError.TheVariants.{Cut, Slow}
use Rattle.block_device.specs.Contents.{bytes_at, replaced, Outcome}
use Rattle.block_device.specs.Facts.{Facts, CountsNeverFall, Latches, FlushLatches}
use Rattle.block_device.specs.Facts.{RestoreLatches}
use Rattle.flash_host.specs.declared.request.Request.{Request}
use Rattle.flash_host.specs.declared.request.Request.TheVariants.{Sectors, Read, Write, Zero}
use Rattle.flash_host.specs.declared.request.Request.TheVariants.{Flush, Tidy, Restore}
use Rattle.flash_host.specs.declared.request.Answer.{Answer}
use Rattle.flash_host.specs.declared.request.Answer.TheVariants.{Counted, Done, Idle, Refused}
use Rattle.flash_host.specs.declared.request.Answer.TheVariants.{Failed}

-- a disk's answer as one to a host
abbrev pub host_answer : Result (Unit {0}) DiskError → Answer
host_answer (Ok _) = Done
host_answer (Err e) = Failed e

-- and that of a step of tidying
abbrev pub host_step : Result Bool DiskError → Answer
host_step (Ok true) = Done
host_step (Ok false) = Idle
host_step (Err e) = Failed e

-- the sectors of a request are on the disk
abbrev pub IsOnDisk : Request → List ℕ → Type 0
IsOnDisk Sectors contents = Unit {0}
IsOnDisk (Read s) contents = 512 * s + 512 ≤ length contents
IsOnDisk (Write s) contents = 512 * s + 512 ≤ length contents
IsOnDisk (Zero first count) contents = 512 * (first + count) ≤ length contents
IsOnDisk Flush contents = Unit {0}
IsOnDisk Tidy contents = Unit {0}
IsOnDisk Restore contents = Unit {0}

-- it is refused exactly where they aren't
abbrev pub RefusesOthers : Request → List ℕ → Answer → Type 0
RefusesOthers request contents (Counted n) = IsOnDisk request contents
RefusesOthers request contents Done = IsOnDisk request contents
RefusesOthers request contents Idle = IsOnDisk request contents
RefusesOthers request contents Refused = IsOnDisk request contents → ⊥
RefusesOthers request contents (Failed e) = IsOnDisk request contents

-- only a Read changes the bytes that it came with
abbrev pub asks_read : Request → Bool
asks_read Sectors = false
asks_read (Read s) = true
asks_read (Write s) = false
asks_read (Zero first count) = false
asks_read Flush = false
asks_read Tidy = false
asks_read Restore = false

-- What each answer tells, and that a request has no other: the size, the bytes of a Read, and
-- whether there was something to tidy.
abbrev pub AnswerTells : Request → Facts → Answer → List ℕ → Facts → Type 0
AnswerTells Sectors old (Counted n) bytes new = length old.contents ≡ 512 * n
AnswerTells Sectors old other bytes new = ⊥
AnswerTells request old Refused bytes new = Unit {0}
AnswerTells request old (Failed e) bytes new = Unit {0}
AnswerTells (Read s) old Done bytes new =
    old.sound ≡ true → bytes ≡ bytes_at old.contents (512 * s) 512
AnswerTells (Write s) old Done bytes new = Unit {0}
AnswerTells (Zero first count) old Done bytes new = Unit {0}
AnswerTells Flush old Done bytes new = Unit {0}
AnswerTells Tidy old Done bytes new = new.work < old.work
AnswerTells Tidy old Idle bytes new = old.work ≡ 0
AnswerTells Restore old Done bytes new = Unit {0}
AnswerTells request old other bytes new = ⊥

-- the contents that a request is to leave; the bytes are those of a Write
abbrev pub meant_by : Request → List ℕ → List ℕ → List ℕ
meant_by Sectors bytes contents = contents
meant_by (Read s) bytes contents = contents
meant_by (Write s) bytes contents = replaced contents (512 * s) bytes
meant_by (Zero first count) bytes contents =
    replaced contents (512 * first) (replicate (512 * count) 0)
meant_by Flush bytes contents = contents
meant_by Tidy bytes contents = contents
meant_by Restore bytes contents = contents

-- What an answer leaves of the contents: a request that is done has done what it is to do. Cut, it
-- leaves each sector as it was or as it was to be; nothing is said after a Slow.
abbrev pub AnswerLeaves : List ℕ → List ℕ → Answer → List ℕ → Type 0
AnswerLeaves old meant (Counted n) new = new ≡ meant
AnswerLeaves old meant Done new = new ≡ meant
AnswerLeaves old meant Idle new = new ≡ meant
AnswerLeaves old meant Refused new = new ≡ old
AnswerLeaves old meant (Failed Cut) new = Outcome old meant new
AnswerLeaves old meant (Failed Slow) new = Unit {0}

-- of a Restore this is said only where no Slow is latched
abbrev pub IsContentsKnown : Request → Facts → Type 0
IsContentsKnown Sectors old = old.sound ≡ true
IsContentsKnown (Read s) old = old.sound ≡ true
IsContentsKnown (Write s) old = old.sound ≡ true
IsContentsKnown (Zero first count) old = old.sound ≡ true
IsContentsKnown Flush old = old.sound ≡ true
IsContentsKnown Tidy old = old.sound ≡ true
IsContentsKnown Restore old = (old.sound ≡ true) × (old.slow ≡ false)

-- what stands before and after a call of the disk
abbrev pub CallLatches : Request → Facts → Result (Unit {0}) DiskError → Facts → Type 0
CallLatches Sectors old result new = new ≡ old
CallLatches (Read s) old result new = Latches old result new
CallLatches (Write s) old result new = Latches old result new
CallLatches (Zero first count) old result new = Latches old result new
CallLatches Flush old result new = (new ≡ old) × FlushLatches old result
CallLatches Tidy old result new = Latches old result new
CallLatches Restore old result new = RestoreLatches old result new

-- the same by the answer; a refusal changes nothing
abbrev pub AnswerLatches : Request → Facts → Answer → Facts → Type 0
AnswerLatches request old (Counted n) new = CallLatches request old (Ok tt) new
AnswerLatches request old Done new = CallLatches request old (Ok tt) new
AnswerLatches request old Idle new = CallLatches request old (Ok tt) new
AnswerLatches request old Refused new = new ≡ old
AnswerLatches request old (Failed e) new = CallLatches request old (Err e) new

-- a disk stays sound, but where a Restore ends a Slow; it becomes so by none
pub record KeepsSound (old new : Facts) : Type 0 where
  pub sound : old.slow ≡ false → new.sound ≡ old.sound
  pub unsound : old.sound ≡ false → new.sound ≡ false

-- and all of this of one request that came with these bytes, and of the bytes of its answer
pub record Answered (request : Request) (given : List ℕ) (old : Facts) (answer : Answer)
    (bytes : List ℕ) (new : Facts) : Type 0 where
  pub tells : AnswerTells request old answer bytes new
  pub refuses : RefusesOthers request old.contents answer
  pub contents : IsContentsKnown request old
      → AnswerLeaves old.contents (meant_by request given old.contents) answer new.contents
  pub long : length given ≡ 512
  pub kept : asks_read request ≡ false → bytes ≡ given
  pub latches : AnswerLatches request old answer new
  pub sound : KeepsSound old new
  pub goes : CountsNeverFall old new
