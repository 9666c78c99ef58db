-- The command that an instruction represents. Source: own, over the instruction table of
-- `chip_model`.
use Rattle.std.specs.Prelude.{◌<◌, length}
use Rattle.chip_model.specs.Frames.{Command, Enable, Disable, Status1, Status2, Status3, Set, Read}
use Rattle.chip_model.specs.Frames.{Program, Erase, Id, Sfdp, Unknown}
use Rattle.spi_frames.specs.declared.frames.Instruction.{Instruction}
use Rattle.spi_frames.specs.declared.frames.Instruction.TheVariants as is

abbrev pub instructed : Instruction → Command
instructed is.Enable = Enable
instructed is.Disable = Disable
instructed is.Status1 = Status1
instructed is.Status2 = Status2
instructed is.Status3 = Status3
instructed (is.Set v) = Set v
instructed (is.Read a) = Read a
instructed (is.Program a b) = Program a b.now
instructed (is.EraseSmall a) = Erase a 4096
instructed (is.EraseLarge a) = Erase a 65536
instructed is.Id = Id
instructed (is.Sfdp a) = Sfdp a
instructed is.Unknown = Unknown

-- a program has bytes
abbrev pub HasBytes : Instruction → Type 0
HasBytes (is.Program a b) = 0 < length b.now
HasBytes _ = Unit {0}
