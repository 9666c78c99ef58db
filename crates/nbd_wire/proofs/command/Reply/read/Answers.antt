use Rattle.std.proofs.Common.{arith}
use Rattle.nbd_wire.proofs.Spelled.{found_reply_is_spelled, read_reply_again}
use Rattle.nbd_wire.proofs.command.Reply.read.Goals as goal

pub returns-clause-spelled : goal.returns-clause-spelled
returns-clause-spelled c = rw c.at_start.ensures (found_reply_is_spelled c.args.bytes.now c.requires (λ i. omega (arith, c.type_inv.bytes i)))

pub returns-clause-again : goal.returns-clause-again
returns-clause-again c r rest fits is = rw (c.at_start.ensures, is) (read_reply_again r rest fits)
