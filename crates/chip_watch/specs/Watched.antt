-- The chip of a watched bus, and what is known of the frames that were exchanged with it.
-- Source: own.
use Rattle.std.specs.Prelude.{◌≡◌, ◌⊎◌, ℕ, Bool, if◌then◌else◌, List, [], ◌∷◌, length, take, Option}
use Rattle.chip_model.specs.Chip.{Chip, is_idle}
use Rattle.chip_model.specs.Frames.{after_command, command_of}
use Rattle.chip_simulator.specs.Sim.{chip_of}
use Rattle.chip_model.specs.Exchanges.{Exchange, Exchanged, turned}
use Rattle.chip_watch.specs.Asking.{Passes, asked_of, is_put_to_chip}
use Rattle.chip_watch.specs.Changes.{change_of, with_place}
use Rattle.chip_watch.specs.Reading.{change_reads}
use Rattle.chip_watch.specs.Shadow.{overlaid}
use Rattle.chip_watch.specs.declared.bus.WatchedBus.{WatchedBus}
use Rattle.chip_watch.specs.declared.change.Change.{Change}
use Rattle.chip_watch.specs.declared.change.Change.TheVariants as makes
use Rattle.chip_watch.specs.declared.shadow.Shadow.{Shadow}

abbrev pub shadow_chip : Shadow → Chip
shadow_chip s = record (overlaid (chip_of s.chip) s.table s.status2 s.status3 s.polls) {
  powered = s.powered;
}

-- the change that is read back once it has ended: none of a chip that is trusted
abbrev pub read_change : Bool → Change → Change
read_change trusts change = if trusts then makes.None else change

-- where the frame ended a program or an erase: READs of what it wrote
abbrev pub read_back : Bool → Chip → Chip → List Exchange
read_back trusts c left = if is_idle left.operation
    then change_reads (read_change trusts (change_of c.operation)) left.memory else []

-- a page is still being programmed, and a READ of it went along, whose answer counts for nothing
abbrev pub IsPassedOver : Chip → List Exchange → Type 0
IsPassedOver left more = (at : ℕ) × (received : List ℕ) × (change_of left.operation ≡ makes.Page at)
    × (more ≡ record { sent = with_place 3 at; received = received } ∷ [])

-- A frame that was answered: the chip was told it and gave an answer that passes for what the
-- caller was told, and what it changed was then read from the chip, unless that is trusted. Nothing
-- is exchanged where the model ignores the frame, or where it reads a memory that is fresh.
pub record Heard (trusts fresh : Bool) (c : Chip) (sent received : List ℕ) (left : Chip)
    (old new : Option (List Exchange)) : Type 0 where
  pub answer : List ℕ
  pub more : List Exchange
  pub passes : Passes (command_of sent) answer
      (take (asked_of (command_of sent) (length received)) received)
  pub follows : (more ≡ read_back trusts c left) ⊎ IsPassedOver left more
  pub exchanged : Exchanged old new (if is_put_to_chip fresh c (command_of sent)
      then record { sent = sent; received = answer } ∷ more else [])

abbrev pub watched_chip : {P : Type 0} → WatchedBus P → Chip
watched_chip b = shadow_chip b.shadow

abbrev pub watched_cuts : {P : Type 0} → WatchedBus P → ℕ
watched_cuts b = b.cuts

abbrev pub watched_slows : {P : Type 0} → WatchedBus P → ℕ
watched_slows b = b.shadow.slows

-- the chip is believed its changes
abbrev pub watched_trusts : {P : Type 0} → WatchedBus P → Bool
watched_trusts b = b.trusts

-- since the whole memory was read only reads were sent: READs are answered by what was read
abbrev pub watched_fresh : {P : Type 0} → WatchedBus P → Bool
watched_fresh b = b.fresh

-- what the chip was told and the programmer wasn't given yet
abbrev pub watched_ahead : {P : Type 0} → WatchedBus P → List Exchange
watched_ahead b = turned b.wire.ahead.items

-- the change that the last loss interrupted, until the power came again
abbrev pub watched_pending : {P : Type 0} → WatchedBus P → Change
watched_pending b = b.pending

-- the change that a loss in a frame interrupts: the one in progress, or that which the frame starts
abbrev pub interrupted : Chip → List ℕ → Change
interrupted c sent = if is_idle c.operation
    then change_of (after_command c (command_of sent)).operation else change_of c.operation

-- what is still pending where the power can't be turned on: what was in progress, or what was
-- pending before
abbrev pub still_pending : Chip → Change → Change
still_pending c pending = if c.powered then change_of c.operation else pending
