-- Whose replies wait for a sync. Source: NBD proto.md for FLUSH and FUA; the policies are own.
use Rattle.std.specs.Prelude.{ℕ, ◌%◌, ◌==◌, ◌||◌, Bool, false}
use Rattle.nbd_wire.specs.Commands.{changes_disk, is_flush}
use Rattle.nbd_wire.specs.declared.command.Command.{Command}
use Rattle.nbd_durable.specs.declared.durable.Policy.{Policy}
use Rattle.nbd_durable.specs.declared.durable.Policy.TheVariants.{AtFlush, Never, Always}

-- A client asks that what was written is durable: by a FLUSH, or by FUA, which is bit 0 of the
-- flags.
abbrev pub is_asked : Command → Bool
is_asked c = is_flush c.kind || (c.flags.0 % 2 == 1)

-- the reply to a command waits for a sync
abbrev pub owes : Policy → Command → Bool
owes Never c = false
owes AtFlush c = is_asked c
owes Always c = is_asked c || changes_disk c.kind
