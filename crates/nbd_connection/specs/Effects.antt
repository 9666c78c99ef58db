-- What an accepted command leaves of a disk on which it runs. Source: own, over the commands of NBD
-- proto.md.
use Rattle.std.specs.Prelude.{◌≡◌, ◌⊎◌, ℕ, ◌<◌, true, false, List, Result, Ok, Err}
use Rattle.block_device.specs.declared.disk.DiskError.{DiskError}
use Rattle.block_device.specs.declared.disk.DiskError.TheVariants.{Cut, Slow}
use Rattle.block_device.specs.Facts.{Facts}
use Rattle.block_device.specs.Contents.{Outcome}
use Rattle.nbd_wire.specs.declared.command.Command.{Command}
use Rattle.nbd_wire.specs.Commands.{touches_chip}
use Rattle.nbd_transmission.specs.Apply.{changed_by}

-- what a run of an accepted command leaves of the contents
abbrev pub CommandLeaves : {T : Type 0} → List ℕ → Command → List ℕ → Result T DiskError → List ℕ
    → Type 0
CommandLeaves old command payload (Ok _) new = new ≡ changed_by old command payload
CommandLeaves old command payload (Err Cut) new = Outcome old (changed_by old command payload) new
CommandLeaves old command payload (Err Slow) new = Unit {0}

-- what stands before and after it; a FLUSH is never cut or slow itself, and runs also where a Slow
-- is latched
abbrev pub CommandLatches : {T : Type 0} → Command → Facts → Result T DiskError → Facts → Type 0
CommandLatches command old (Ok _) new =
    (old.cut ≡ false) × (new.cut ≡ false) × (new.slow ≡ old.slow)
    × (touches_chip command.kind ≡ true → old.slow ≡ false)
CommandLatches command old (Err Cut) new =
    ((old.cut ≡ true)
    ⊎ ((touches_chip command.kind ≡ true) × (old.slow ≡ false) × (old.cuts < new.cuts)))
    × (new.cut ≡ true) × (new.slow ≡ old.slow)
CommandLatches command old (Err Slow) new =
    (touches_chip command.kind ≡ true) × (old.cut ≡ false)
    × ((old.slow ≡ true) ⊎ (old.slows < new.slows)) × (new.cut ≡ false) × (new.slow ≡ true)
