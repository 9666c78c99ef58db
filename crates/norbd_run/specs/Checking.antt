-- What `check` says of an image, and how it ends. Source: own.
use Rattle.std.specs.Prelude.{◌≡◌, ◌⊎◌, ℕ, List, [], ◌++◌, codes, Bool, true, false, Option}
use Rattle.std.specs.Prelude.{Result, Ok, Err}
use Rattle.std.specs.Fmt.{decimal}
use Rattle.std.specs.Io.KnownBytes.{Appends}
use Rattle.block_device.specs.Streams.{FailsToSend}
use Rattle.erase_journal.specs.Journals.{IsHealthy}
use Rattle.sector_survey.specs.Cleanness.{HasFreeErased, IsOfGroups}
use Rattle.norbd_image.specs.Mended.{IsMended}
use Rattle.norbd_run.specs.Formatting.{NothingWritten}
use Rattle.norbd_run.specs.Listening.{IsRefusal}
use Rattle.norbd_line.specs.declared.fault.Fault.{Fault}
use Rattle.norbd_line.specs.declared.fault.Fault.TheVariants.{OutputFailed}

-- the line about an image of so many sectors that would be served, or was mended for that
abbrev pub checked_text : Bool → ℕ → List ℕ
checked_text false sectors = codes "clean " ++ (decimal sectors ++ codes " sectors\n")
checked_text true sectors = codes "mended " ++ (decimal sectors ++ codes " sectors\n")

-- for programs the report alone says it
abbrev pub last_text : Bool → Bool → ℕ → List ℕ
last_text true mended sectors = []
last_text false mended sectors = checked_text mended sectors

-- an image is mended only where that is asked
pub record Says (mends : Bool) : Type 0 where
  pub mended : Bool
  pub sectors : ℕ
  pub asked : mended ≡ true → mends ≡ true

-- What `check` writes: a report, of whose text nothing is said here; done, the line about the
-- image after it, but for programs; and with a refusal of the image the report, or nothing. With a
-- fault of the output a beginning of this.
abbrev pub CheckTells : {T : Type 0} → Bool → Bool → Option (List ℕ) → ℕ → Result T Fault
    → Option (List ℕ) → ℕ → Type 0
CheckTells mends tells_json old faults (Ok _) new faults' = (report : List ℕ) × (s : Says mends)
    × Appends old new (report ++ last_text tells_json s.mended s.sectors) × (faults' ≡ faults)
CheckTells mends tells_json old faults (Err e) new faults' =
    (IsRefusal e × (NothingWritten old faults new faults'
    ⊎ ((report : List ℕ) × Appends old new report × (faults' ≡ faults))))
    ⊎ ((e ≡ OutputFailed) × ((text : List ℕ) × FailsToSend old faults text new faults'))

-- What a mended image holds: the sectors of the old one, of which, where its superblock says layout
-- 1, each block that reads as free is erased first.
pub record IsMendedOf (old new : List ℕ) : Type 0 where
  pub from : List ℕ
  pub groups : IsOfGroups old → IsHealthy old → HasFreeErased old from
  pub other : (IsOfGroups old → ⊥) → from ≡ old
  pub mended : IsMended from new
