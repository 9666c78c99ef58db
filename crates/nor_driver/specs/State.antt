-- What is known of a NOR memory behind a driver, and what each call leaves of it, by its answer.
-- Source: own. A Cut is a loss of power, a Slow an operation of the chip that didn't end.
use Rattle.std.specs.declared.result.Result.{Result}
use Rattle.std.specs.declared.result.Result.TheVariants.{Ok, Err}
use Rattle.std.specs.Prelude.{◌≡◌, ℕ, ◌/◌, ◌%◌, ◌<◌, ◌⊎◌, Bool, true, false, List}
use Rattle.std.specs.Prelude.{MatchResult}
use Rattle.std.specs.Int.{bit_at}
use Rattle.chip_model.specs.Memory.{and_at, byte, cleared, erased, with_differences}
use Rattle.chip_model.specs.Memory.{TornAnd, TornErase}
use Rattle.chip_model.specs.Chip.{Operation, Erasing}
use Rattle.chip_model.specs.Cut.{TornMemory, weakened}
use Rattle.chip_model.specs.Wavering.{Bits}
use Rattle.nor_driver.specs.declared.error.NorError.{NorError}
use Rattle.nor_driver.specs.declared.error.NorError.TheVariants.{Cut, Slow}

pub record NorState : Type 0 where
  -- the bytes; those of an operation that didn't end are as before it
  pub memory : List ℕ
  -- 1 for each bit of the bytes that is weak: after the next power-on it may read otherwise. Where
  -- there is no byte of these, no bit is weak
  pub weak : List ℕ
  -- how many losses of power, and how many slow operations, the bus counted so far
  pub cuts : ℕ
  pub slows : ℕ
  pub powered : Bool
  -- whether a Slow is latched: it was answered, and no restart has answered Ok since
  pub is_slow : Bool
  -- whether units of 64 KiB can be erased
  pub has_large : Bool

-- the power is on and no Slow is latched
abbrev pub IsNorReady : NorState → Type 0
IsNorReady state = (state.powered ≡ true) × (state.is_slow ≡ false)

-- what each bit reads as, and which are weak
abbrev pub bits_in : NorState → Bits
bits_in state = record { shown = state.memory; weak = state.weak }

-- What operations that completed leave of the bits. A bit that is weak was, and reads as it did; in
-- its unit of 4 KiB nothing was erased: there each bit that read 0 reads 0.
pub record IsFirmer (old new : Bits) : Type 0 where
  pub weak : (i k : ℕ) → bit_at (byte new.weak i) k ≡ 1 → bit_at (byte old.weak i) k ≡ 1
  pub reads : (i k x : ℕ) → bit_at (byte new.weak i) k ≡ 1 → bit_at (byte old.shown i) k ≡ x
      → bit_at (byte new.shown i) k ≡ x
  pub zeros : (i k j l : ℕ) → bit_at (byte new.weak i) k ≡ 1 → j / 4096 ≡ i / 4096
      → bit_at (byte old.shown j) l ≡ 0 → bit_at (byte new.shown j) l ≡ 0

-- an operation on a page, or on a unit of 4 or 64 KiB
abbrev pub IsOfUnit : Operation → Type 0
IsOfUnit (Erasing at size) = ((size ≡ 4096) ⊎ (size ≡ 65536)) × (at % size ≡ 0)
IsOfUnit _ = Unit {0}

-- what a loss of power leaves of the bits: of operations that completed, and of one that it
-- interrupted
pub record Interrupted (old new : Bits) : Type 0 where
  pub before : Bits
  pub firmer : IsFirmer old before
  pub operation : Operation
  pub unit : IsOfUnit operation
  pub shown : TornMemory operation before.shown new.shown
  pub weak : new.weak ≡ weakened operation before.shown before.weak

-- all but the bits is as before, and of them no operation was interrupted: what a call that
-- answered Ok leaves
pub record OnlyMemoryChanges (old new : NorState) : Type 0 where
  pub bits : IsFirmer (bits_in old) (bits_in new)
  pub cuts : new.cuts ≡ old.cuts
  pub slows : new.slows ≡ old.slows
  pub powered : new.powered ≡ old.powered
  pub is_slow : new.is_slow ≡ old.is_slow
  pub has_large : new.has_large ≡ old.has_large

-- why a call failed, and what it leaves beside the memory:
-- Cut where a loss of power came in the call, or the power was off;
-- Slow where a slow operation came in the call, or a Slow was latched: no bit shows it yet
abbrev pub NorFails : NorError → NorState → NorState → Type 0
NorFails Cut old new =
    ((old.cuts < new.cuts) ⊎ ((old.powered ≡ false) × (new.cuts ≡ old.cuts)))
    × (new.slows ≡ old.slows) × (new.powered ≡ false) × (new.is_slow ≡ old.is_slow)
    × (new.has_large ≡ old.has_large) × Interrupted (bits_in old) (bits_in new)
NorFails Slow old new =
    ((old.slows < new.slows) ⊎ ((old.is_slow ≡ true) × (new.slows ≡ old.slows)))
    × (new.cuts ≡ old.cuts) × (new.powered ≡ old.powered) × (new.is_slow ≡ true)
    × (new.has_large ≡ old.has_large) × IsFirmer (bits_in old) (bits_in new)

-- What a call that failed answers first: a latched Slow, then a power that is off; and then nothing
-- has changed.
abbrev pub IsFirst : NorError → NorState → NorState → Type 0
IsFirst Cut old new = (old.is_slow ≡ false) × (old.powered ≡ false → new ≡ old)
IsFirst Slow old new = (old.is_slow ≡ false → old.powered ≡ true) × (old.is_slow ≡ true → new ≡ old)

-- a call that answered Ok: the power was on and no Slow was latched, as it is after it
pub record Succeeds (old new : NorState) : Type 0 where
  pub ready : IsNorReady old
  pub kept : OnlyMemoryChanges old new

-- a call that failed: where the refusal comes from, and that what stood is answered before anything
-- changes
pub record Refuses (e : NorError) (old new : NorState) : Type 0 where
  pub fails : NorFails e old new
  pub first : IsFirst e old new

-- how a call ends: Ok, as `Succeeds` says it, or with an error, as `Refuses` says it
abbrev pub EndsReady : {A : Type 0} → Result A NorError → NorState → NorState → Type 0
EndsReady result old new = MatchResult result (λ _. Succeeds old new) (λ e. Refuses e old new)

-- a latched Slow is answered again, and a power that is off is a Cut, and neither changes anything
pub record AnswersWhatIsLatched (old : NorState) (result : Result (Unit {0}) NorError)
    (new : NorState) : Type 0 where
  pub slow : old.is_slow ≡ true → (result ≡ Err Slow) × (new ≡ old)
  pub off : old.is_slow ≡ false → old.powered ≡ false → (result ≡ Err Cut) × (new ≡ old)

-- what a call that was to change bytes and was cut leaves of them: as before, torn in that call's
-- way, or changed whole
pub data Leaves {A : Type 0} (old : A) (Torn : A → Type 0) (whole new : A) : Type 0 where
  as_before : new ≡ old → Leaves old Torn whole new
  torn_in_it : Torn new → Leaves old Torn whole new
  changed_whole : new ≡ whole → Leaves old Torn whole new

-- a program: the 0 bits of its bytes are firm
abbrev pub program_bits : Bits → ℕ → List ℕ → Bits
program_bits b at bytes = record { shown = and_at b.shown at bytes; weak = and_at b.weak at bytes }

-- one that was interrupted: each bit that it was to change is weak, too
abbrev pub TornProgramBits : Bits → ℕ → List ℕ → Bits → Type 0
TornProgramBits b at bytes new = TornAnd b.shown at bytes new.shown
    × (new.weak ≡ with_differences b.shown (and_at b.shown at bytes) b.weak)

-- an erase: all bits of its unit are firm
abbrev pub erase_bits : Bits → ℕ → ℕ → Bits
erase_bits b at size = record { shown = erased b.shown at size; weak = cleared b.weak at size }

-- one that was interrupted: all bits of its unit are weak
abbrev pub TornEraseBits : Bits → ℕ → ℕ → Bits → Type 0
TornEraseBits b at size new =
    TornErase b.shown at size new.shown × (new.weak ≡ erased b.weak at size)

-- what a restart leaves beside the memory, by its answer: a Cut only where a loss of power came in
-- it, and never a Slow
abbrev pub Restarts : Result (Unit {0}) NorError → NorState → NorState → Type 0
Restarts (Ok _) old new =
    (new.cuts ≡ old.cuts) × (new.slows ≡ old.slows) × (new.powered ≡ true) × (new.is_slow ≡ false)
    × (new.has_large ≡ old.has_large)
Restarts (Err Cut) old new =
    (old.cuts < new.cuts) × (new.slows ≡ old.slows) × (new.powered ≡ false)
    × (new.is_slow ≡ old.is_slow) × (new.has_large ≡ old.has_large)
Restarts (Err Slow) old new = ⊥
