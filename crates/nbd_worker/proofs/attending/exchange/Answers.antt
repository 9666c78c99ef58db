use Rattle.std.proofs.Common.{subst, IfOk}
use Rattle.nbd_wire.specs.declared.phase.Phase.TheVariants.{Transmitting}
use Rattle.nbd_session.specs.Sessions.{BeginsSession}
use Rattle.nbd_worker.proofs.attending.exchange.Goals as goal

pub attend_from-requires : goal.attend_from-requires
attend_from-requires g c =
    (Transmitting, subst (λ n. IfOk c.requesting-session.result (λ s. BeginsSession Transmitting n s)) c.export.ensures c.requesting-session.ensures)

pub returns-clause-says : goal.returns-clause-says
returns-clause-says g c =
    c.attend_from.ensures.says Transmitting (subst (λ n. IfOk c.requesting-session.result (λ s. BeginsSession Transmitting n s)) c.export.ensures c.requesting-session.ensures)
