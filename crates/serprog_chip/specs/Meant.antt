-- The command that an instruction beyond the model represents. For private functions: no claim
-- rests on it. Source: own.
use Rattle.std.specs.Prelude.{ℕ, ◌<◌, ◌^◌}
use Rattle.chip_model.specs.Frames.{Command, Erase, Sfdp, Unknown}
use Rattle.serprog_chip.specs.declared.beyond.Beyond.{Beyond}
use Rattle.serprog_chip.specs.declared.beyond.Beyond.TheVariants as is

abbrev pub command_meant : Beyond → ℕ → Command
command_meant (is.Table at) size = Sfdp at
command_meant is.EraseAll size = Erase 0 size
command_meant (is.EraseHalf at) size = Erase at 32768
command_meant is.Nothing size = Unknown

-- an address has three bytes
abbrev pub IsAddress : Beyond → Type 0
IsAddress (is.Table at) = at < 2 ^ 24
IsAddress (is.EraseHalf at) = at < 2 ^ 24
IsAddress _ = Unit {0}
