use Rattle.std.proofs.Common.{refl}
use Rattle.nbd_wire.proofs.StandingLaws.{stands_for_nothing}
use Rattle.nbd_handshake.proofs.handshake.Handshake.new.Goals as goal

pub returns-clause-represents : goal.returns-clause-represents
returns-clause-represents c = stands_for_nothing 8208 _ record { kept = refl; count = refl }
