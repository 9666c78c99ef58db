use Rattle.nbd_wire.proofs.CommandLaws.{not_disconnect, not_unknown}
use Rattle.nbd_connection.proofs.piece.run.Goals as goal

pub unreachable-requires : goal.unreachable-requires
unreachable-requires g c = absurd (not_disconnect c.args.command.now c.args.export c.requires.accepted c.in-Disconnect.is)

pub unreachable-requires-in-Unknown : goal.unreachable-requires-in-Unknown
unreachable-requires-in-Unknown g c = absurd (not_unknown c.args.command.now c.args.export c.in-Unknown.field-0 c.requires.accepted c.in-Unknown.is)
