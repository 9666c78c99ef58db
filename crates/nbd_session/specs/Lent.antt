-- The bytes that are lent to the command that runs.
-- Source: own.
use Rattle.std.specs.Prelude.{ℕ, ◌≡◌, false, Option, Some, None}
use Rattle.nbd_wire.specs.declared.export.Export.{Export}
use Rattle.nbd_wire.specs.declared.command.Command.{Command}
use Rattle.nbd_wire.specs.Commands.{is_disconnect, judge_of}
use Rattle.nbd_wire.specs.Lent.{lent_len}

-- how many they are: none where no command runs
abbrev pub lent_now : Option Command → ℕ
lent_now None = 0
lent_now (Some c) = lent_len c

-- a command that runs is an accepted one, of this export
abbrev pub IsRunnable : Export → Option Command → Type 0
IsRunnable export None = Unit {0}
IsRunnable export (Some c) = (judge_of c export ≡ None) × (is_disconnect c.kind ≡ false)
