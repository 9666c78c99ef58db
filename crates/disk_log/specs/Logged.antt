-- What is known of a disk with a log. Source: own.
use Rattle.std.specs.Prelude.{◌≡◌, ◌≤◌, ◌+◌, ℕ, Bool, true, false, List, length, Option, Result}
use Rattle.std.specs.Prelude.{Ok, Err, Some, None}
use Rattle.disk_log.specs.Logs.{Medium, IsBegunLog, contents_in, held}
use Rattle.block_device.specs.Facts.{Facts, CountsNeverFall, Latches, Writes}
use Rattle.block_device.specs.declared.disk.DiskError.{DiskError}
use Rattle.block_device.specs.declared.disk.DiskError.TheVariants as errors
use Rattle.disk_log.specs.declared.logged.Standing.{Standing}
use Rattle.disk_log.specs.declared.logged.Standing.TheVariants.{Ready, Cut, Slow}

abbrev pub is_cut : Standing → Bool
is_cut Ready = false
is_cut Cut = true
is_cut Slow = false

abbrev pub is_slow : Standing → Bool
is_slow Ready = false
is_slow Cut = false
is_slow Slow = true

-- how many steps of the tidying are left: those of waiting, of which there are at most a hundred,
-- come when the disk has none
abbrev pub steps_left : Option ℕ → ℕ → ℕ
steps_left None work = 101 + work
steps_left (Some waits) work = waits

-- It holds what the image and the log hold. A loss is one of the disk's or one of the files.
abbrev pub logged_facts : (List ℕ → List ℕ) → Option Medium → Standing → ℕ → Option ℕ → Facts
    → Facts
logged_facts represents files standing lost waits disk = record {
  sound = disk.sound;
  contents = held represents files disk.contents;
  cuts = disk.cuts + lost;
  slows = disk.slows;
  cut = is_cut standing;
  slow = is_slow standing;
  work = steps_left waits disk.work;
}

-- what a call answers while an error stands
abbrev pub standing_answer : Standing → Result (Unit {0}) DiskError
standing_answer Ready = Ok tt
standing_answer Cut = Err errors.Cut
standing_answer Slow = Err errors.Slow

-- The files are those of a disk of n sectors with these contents, and the log was begun on these
-- bytes of the image, all of which are on the medium; its last record has this sum.
pub record IsOfDisk (represents : List ℕ → List ℕ) (n : ℕ) (contents image : List ℕ)
    (last : ℕ × ℕ) (m : Medium) : Type 0 where
  pub sectors : m.sectors ≡ n
  pub begun : IsBegunLog m image last
  pub same : contents_in represents m.sectors m.image m.log ≡ contents
  pub settled : m.settled ≡ true
  pub low : m.safe ≤ length m.log

-- a call that changes no sector, whatever it answers
pub record Settled {T : Type 0} (old : Facts) (result : Result T DiskError) (new : Facts)
    : Type 0 where
  pub contents : old.sound ≡ true → new.contents ≡ old.contents
  pub sound : new.sound ≡ old.sound
  pub goes : CountsNeverFall old new
  pub latches : Latches old result new

-- A settling of a disk with these contents: done, the image alone holds them, of files that tell.
abbrev pub SettlesAlone : {T : Type 0} → (List ℕ → List ℕ) → List ℕ → Option Medium
    → Result T DiskError → Option Medium → Type 0
SettlesAlone represents contents None result new = new ≡ None
SettlesAlone represents contents (Some m) (Ok _) new =
    (m' : Medium) × (new ≡ Some m') × (represents m'.image ≡ contents)
SettlesAlone represents contents (Some m) (Err _) new = (m' : Medium) × (new ≡ Some m')

-- a write of these bytes from the sector `first` on, in the words of a disk
pub record WritesTo {T : Type 0} (first : ℕ) (bytes : List ℕ) (old : Facts)
    (result : Result T DiskError) (new : Facts) : Type 0 where
  pub contents : old.sound ≡ true → Writes first bytes old.contents result new.contents
  pub sound : new.sound ≡ old.sound
  pub goes : CountsNeverFall old new
  pub latches : Latches old result new
