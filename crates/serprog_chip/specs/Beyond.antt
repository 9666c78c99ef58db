-- The frames of flashrom that the chip's model ignores, and what is done at each. Source: datasheet
-- of the W25Q128JV, "32KB Block Erase (52h)", "Chip Erase (C7h / 60h)" and "Read SFDP Register
-- (5Ah)"; JESD216, word 1 of the basic table, bit 2. Own: that such an erase is answered once it
-- has completed, that a chip of which anything is protected, or which tells no size, ignores it,
-- and what a dummy byte is received as.
use Rattle.std.specs.Prelude.{◌≡◌, ℕ, ◌+◌, ◌-◌, ◌*◌, ◌/◌, ◌%◌, ◌<◌, ◌⊎◌, Bool, false, not, ◌&&◌}
use Rattle.std.specs.Prelude.{◌||◌, ◌==◌, nat_lt, if◌then◌else◌, List, [], ◌∷◌, length, bit_or}
use Rattle.std.specs.Prelude.{is_ok}
use Rattle.sfdp.specs.Params.{params_of}
use Rattle.chip_model.specs.Memory.{byte, is_within}
use Rattle.chip_model.specs.Chip.{Chip, Erasing, completed, is_idle}
use Rattle.chip_model.specs.Cut.{Loses}
use Rattle.chip_model.specs.Frames.{Command, Erase, Frame, Sfdp, Unknown, is_unprotected, starts}
use Rattle.chip_model.specs.Frames.{with_address, with_enabled, with_nothing}
use Rattle.nor_driver.specs.Steps.{Lost}
use Rattle.serprog_chip.specs.declared.answering.Trouble.{Trouble}
use Rattle.serprog_chip.specs.declared.answering.Trouble.TheVariants as troubles

-- at most one byte follows, which is ignored
abbrev pub with_dummy : List ℕ → Command → Command
with_dummy [] command = command
with_dummy (b ∷ bs) command = with_nothing bs command

-- the instruction table beyond the model's, for a chip of so many bytes: C7h and 60h erase all of
-- it, 52h erases 32 KiB; and 5Ah, of which the dummy byte may be the first that is received
abbrev pub beyond_for : ℕ → ℕ → List ℕ → Command
beyond_for size code rest =
    if code == 199 then with_nothing rest (Erase 0 size) else
    if code == 96 then with_nothing rest (Erase 0 size) else
    if code == 82 then with_address rest (λ at more. with_nothing more (Erase at 32768)) else
    if code == 90 then with_address rest (λ at more. with_dummy more (Sfdp at)) else
    Unknown

abbrev pub command_beyond : ℕ → List ℕ → Command
command_beyond size [] = Unknown
command_beyond size (code ∷ rest) = beyond_for size code rest

-- an SFDP byte as it is told: word 1 of the modelled chip's basic table begins at 80h, and its bit
-- 2 says that 64 bytes or more can be programmed at once
abbrev pub told_byte : ℕ → ℕ → ℕ
told_byte place x = if place == 128 then bit_or x 4 else x

-- byte k of an answer to 5Ah: FFh of a busy chip, and in the place of `late` dummy bytes; else the
-- table's from the address on, modulo 256
abbrev pub told_table_byte : Chip → ℕ → ℕ → ℕ → ℕ
told_table_byte c at late k = if not (is_idle c.operation) || nat_lt k late then 255
    else told_byte ((at + (k - late)) % 256) (byte c.sfdp ((at + (k - late)) % 256))

abbrev pub TellsTable : Chip → ℕ → ℕ → List ℕ → Type 0
TellsTable c at late received = (k : ℕ) → k < length received
    → byte received k ≡ told_table_byte c at late k

abbrev pub AllErased : List ℕ → Type 0
AllErased received = (k : ℕ) → k < length received → byte received k ≡ 255

-- a chip takes such an erase where it isn't busy and tells its size
abbrev pub takes_erases : Chip → Bool
takes_erases c = is_idle c.operation && is_ok (params_of c.sfdp)

-- where the unit of so many bytes begins in which an address lies, modulo the chip's size
abbrev pub unit_at : Chip → ℕ → ℕ → ℕ
unit_at c at size = at % length c.memory / size * size

-- An erase of the n bytes from a on that has completed: without WEL nothing changes; where anything
-- of the chip is protected WEL is cleared, and that is all; else the bytes become FFh.
abbrev pub after_free_erase : Chip → ℕ → ℕ → Chip
after_free_erase c a n = if not c.enabled then c else if not (is_unprotected c)
    then with_enabled c false else completed (starts c (Erasing a n))

abbrev pub after_erase : Chip → ℕ → ℕ → Chip
after_erase c at size = if takes_erases c then after_free_erase c (unit_at c at size) size else c

-- all bytes but the n from a on are as before
pub record KeepsOutside (m : List ℕ) (a n : ℕ) (left : List ℕ) : Type 0 where
  pub same_length : length left ≡ length m
  pub outside : (i : ℕ) → is_within a n i ≡ false → byte left i ≡ byte m i

-- What an erase of the n bytes from a on that was not answered leaves: the power fell before it
-- began, or was off; or it fell in it; or a part of it didn't end; or it didn't begin.
abbrev pub LeavesErase : Chip → ℕ → ℕ → ℕ → Trouble → Chip → ℕ → Type 0
LeavesErase c cuts a n troubles.PowerLost left cuts' = Lost c cuts left cuts'
    ⊎ (KeepsOutside c.memory a n left.memory × (left.powered ≡ false) × (cuts' ≡ cuts + 1))
LeavesErase c cuts a n troubles.Slow left cuts' =
    KeepsOutside c.memory a n left.memory × (cuts' ≡ cuts)
LeavesErase c cuts a n trouble left cuts' = (left ≡ c) × (cuts' ≡ cuts)

-- A frame's answer, and the chip after it: of those above, which end before the answer; of every
-- other frame as the model has it.
abbrev pub AnswersCommand : Command → Chip → List ℕ → List ℕ → Chip → Type 0
AnswersCommand (Sfdp at) c sent received left = TellsTable c at (5 - length sent) received
    × (left ≡ c)
AnswersCommand (Erase at size) c sent received left = AllErased received
    × (left ≡ after_erase c at size)
AnswersCommand _ c sent received left = Frame c sent received left

abbrev pub AnswersFrame : Chip → List ℕ → List ℕ → Chip → Type 0
AnswersFrame c sent received left =
    AnswersCommand (command_beyond (length c.memory) sent) c sent received left

-- A frame without an answer: the chip lost its power in it, or was off, or learned of nothing; or
-- an erase was left in it.
abbrev pub LeavesCommand : Command → Chip → ℕ → List ℕ → Trouble → Chip → ℕ → Type 0
LeavesCommand (Sfdp at) c cuts sent troubles.PowerLost left cuts' = Lost c cuts left cuts'
LeavesCommand (Erase at size) c cuts sent trouble left cuts' =
    LeavesErase c cuts (unit_at c at size) size trouble left cuts'
LeavesCommand _ c cuts sent troubles.PowerLost left cuts' = Loses c cuts sent left cuts'
LeavesCommand _ c cuts sent trouble left cuts' = (left ≡ c) × (cuts' ≡ cuts)

abbrev pub LeavesFrame : Chip → ℕ → List ℕ → Trouble → Chip → ℕ → Type 0
LeavesFrame c cuts sent trouble left cuts' =
    LeavesCommand (command_beyond (length c.memory) sent) c cuts sent trouble left cuts'
