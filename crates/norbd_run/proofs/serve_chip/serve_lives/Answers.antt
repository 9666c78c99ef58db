use Rattle.norbd_run.proofs.Lines.{image-refused}
use Rattle.norbd_run.proofs.serve_chip.serve_lives.Goals as goal

pub returns-in-Err-clause-tells : goal.returns-in-Err-clause-tells
returns-in-Err-clause-tells g c =
    image-refused (Unit {0}) c.args.asked.place c.args.asked.conns c.args.asked.record
    (g.K.Sink.written c.args.writer.now) (g.K.Sink.faults c.args.writer.now) c.in-Err.fault c.in-Err.ensures.refused

pub returns-in-Err-look_at-clause-tells : goal.returns-in-Err-look_at-clause-tells
returns-in-Err-look_at-clause-tells g c =
    image-refused (Unit {0}) c.args.asked.place c.args.asked.conns c.args.asked.record
    (g.K.Sink.written c.args.writer.now) (g.K.Sink.faults c.args.writer.now) c.in-Err-look_at.fault c.in-Err-look_at.ensures.refused
