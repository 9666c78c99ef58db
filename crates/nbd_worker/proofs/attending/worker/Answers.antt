use Rattle.std.proofs.Common.{subst, IfOk}
use Rattle.nbd_wire.specs.declared.phase.Phase.TheVariants.{AwaitingFlags}
use Rattle.nbd_session.specs.Sessions.{BeginsSession}
use Rattle.nbd_worker.proofs.attending.worker.Goals as goal

pub attend_from-requires : goal.attend_from-requires
attend_from-requires g c =
    (AwaitingFlags, subst (λ n. IfOk c.open-session.result (λ s. BeginsSession AwaitingFlags n s)) c.export.ensures c.open-session.ensures.begins)

pub returns-clause-says : goal.returns-clause-says
returns-clause-says g c =
    c.attend_from.ensures.says AwaitingFlags (subst (λ n. IfOk c.open-session.result (λ s. BeginsSession AwaitingFlags n s)) c.export.ensures c.open-session.ensures.begins)
