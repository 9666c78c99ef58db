-- What `settle` does, what it tells, and how it ends. Source: own.
use Rattle.std.specs.Prelude.{◌≡◌, ◌⊎◌, ℕ, zero, suc, List, ◌++◌, codes, Option, Result, Ok, Err}
use Rattle.std.specs.Fmt.{decimal}
use Rattle.std.specs.Io.KnownBytes.{Appends}
use Rattle.block_device.specs.Streams.{FailsToSend}
use Rattle.erase_journal.specs.Journals.{unused}
use Rattle.erase_journal.specs.Renewal.{RenewsAll}
use Rattle.sector_slots.specs.Slots.{IsSpareIn}
use Rattle.norbd_line.specs.declared.fault.Fault.{Fault}
use Rattle.norbd_line.specs.declared.fault.Fault.TheVariants.{OutputFailed}
use Rattle.norbd_run.specs.Formatting.{NothingWritten}
use Rattle.norbd_run.specs.Moving.{MoveFails}

-- What a step does to a chip's memory: step 0 erases the three journals, and each other one leaves
-- the data block spare whose number is one less.
abbrev pub StepRenews : ℕ → List ℕ → List ℕ → Type 0
StepRenews zero old new = RenewsAll (unused old) (unused new)
StepRenews (suc block) old new = IsSpareIn new block

-- The first so many steps are done in their order, from one memory to another.
abbrev pub StepsRenew : ℕ → List ℕ → List ℕ → Type 0
StepsRenew zero old new = new ≡ old
StepsRenew (suc step) old new = (between : List ℕ) × StepsRenew step old between
    × StepRenews step between new

-- the line once all is done: how many data blocks the chip has
abbrev pub renewed_text : ℕ → List ℕ
renewed_text blocks = codes "renewed 3 journals and " ++ (decimal blocks ++ codes " data blocks\n")

-- What `settle` writes: done, its line; a fault of the output, a beginning of it; and nothing with
-- any other fault.
abbrev pub SettleTells : {T : Type 0} → Option (List ℕ) → ℕ → Result T Fault → Option (List ℕ) → ℕ
    → Type 0
SettleTells old faults (Ok _) new faults' =
    (blocks : ℕ) × Appends old new (renewed_text blocks) × (faults' ≡ faults)
SettleTells old faults (Err e) new faults' =
    (MoveFails e × NothingWritten old faults new faults')
    ⊎ ((e ≡ OutputFailed)
    × ((blocks : ℕ) × FailsToSend old faults (renewed_text blocks) new faults'))
