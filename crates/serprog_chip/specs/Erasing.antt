-- The steps of an erase of several units. For private functions: no claim rests on it. Source: own,
-- over the model of a frame and of a loss of power.
use Rattle.std.specs.Prelude.{◌≡◌, ℕ, ◌+◌, false}
use Rattle.chip_model.specs.Chip.{Chip}
use Rattle.nor_driver.specs.declared.error.NorError.{NorError}
use Rattle.nor_driver.specs.declared.error.NorError.TheVariants as errors
use Rattle.serprog_chip.specs.Beyond.{KeepsOutside}

-- what an erase of the n bytes from a on leaves that a loss of power interrupted, or of which a
-- part didn't end
abbrev pub EraseStops : NorError → Chip → ℕ → ℕ → ℕ → Chip → ℕ → Type 0
EraseStops errors.Cut c cuts a n left cuts' =
    KeepsOutside c.memory a n left.memory × (left.powered ≡ false) × (cuts' ≡ cuts + 1)
EraseStops errors.Slow c cuts a n left cuts' =
    KeepsOutside c.memory a n left.memory × (cuts' ≡ cuts)
