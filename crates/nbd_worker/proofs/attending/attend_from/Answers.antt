use Rattle.std.proofs.Common.{subst, sym}
use Rattle.nbd_session.specs.Sessions.{BeginsSession}
use Rattle.nbd_worker.specs.ConnectionState.{setting, state_at, through}
use Rattle.nbd_worker.proofs.Connections.{connection-nothing}
use Rattle.nbd_worker.proofs.attending.attend_from.Goals as goal

pub returns-in_default-clause-says : goal.returns-in_default-clause-says
returns-in_default-clause-says g c start begins =
    connection-nothing (through g.T.Door.executes g.T.Door.keeps) g.G.Gate.passes (setting start g.L.OneServer.export)
    (state_at c.args.door.now c.args.pass c.args.gate.now (g.K.Sink.written c.args.writer.now) (g.K.Sink.faults c.args.writer.now))
    (g.S.Source.remaining c.args.reader.now) (g.S.Source.faults c.args.reader.now) (g.met.G.Gate.none c.args.gate.now)

pub returns-in_default-with_buffer-clause-says : goal.returns-in_default-with_buffer-clause-says
returns-in_default-with_buffer-clause-says g c start begins =
    connection-nothing (through g.T.Door.executes g.T.Door.keeps) g.G.Gate.passes (setting start g.L.OneServer.export)
    (state_at c.args.door.now c.args.pass c.args.gate.now (g.K.Sink.written c.args.writer.now) (g.K.Sink.faults c.args.writer.now))
    (g.S.Source.remaining c.args.reader.now) (g.S.Source.faults c.args.reader.now) (g.met.G.Gate.none c.args.gate.now)

pub returns-clause-says : goal.returns-clause-says
returns-clause-says g c start begins = c.attend-end.ensures.says start (subst (λ s. BeginsSession start g.L.OneServer.export s) (sym c.in-Ok-with_buffer.ensures) (rw c.in-Ok.is at begins))
