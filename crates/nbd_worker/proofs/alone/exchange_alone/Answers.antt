use Rattle.std.proofs.Common.{arith}
use Rattle.nbd_wire.specs.declared.phase.Phase.TheVariants.{Transmitting}
use Rattle.nbd_worker.specs.ConnectionState.{reading, setting, state_at}
use Rattle.nbd_worker.proofs.Plain.{plain-by}
use Rattle.nbd_worker.proofs.alone.exchange_alone.Goals as goal

pub returns-clause-plain : goal.returns-clause-plain
returns-clause-plain g c input tells quiet cuts slows =
    let new = c.exchange.new in
    plain-by g.R.Recorder.KEEPS g.G.Gate.passes (setting Transmitting g.L.OneServer.export)
    (state_at c.args.server.now c.args.pass c.args.gate.now (g.K.Sink.written c.args.writer.now) (g.K.Sink.faults c.args.writer.now))
    (state_at new.door c.exchange.result.0 new.gate (g.K.Sink.written new.writer) (g.K.Sink.faults new.writer))
    (reading (g.S.Source.remaining c.args.reader.now) (g.S.Source.remaining new.reader) (g.S.Source.faults c.args.reader.now) (g.S.Source.faults new.reader))
    input c.exchange.result.1 quiet (omega (arith, cuts)) (omega (arith, slows)) tells c.exchange.ensures.says
