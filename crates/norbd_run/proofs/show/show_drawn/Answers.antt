use Rattle.norbd_run.proofs.Lines.{show-failed}
use Rattle.norbd_run.proofs.show.show_drawn.Goals as goal

pub returns-in-Err-clause-told : goal.returns-in-Err-clause-told
returns-in-Err-clause-told g c =
    show-failed (Unit {0}) (Unit {0}) _ (g.K.Sink.written c.args.writer.now) (g.K.Sink.written c.send_bytes.new.writer) (g.K.Sink.faults c.args.writer.now) (g.K.Sink.faults c.send_bytes.new.writer) c.in-Err.fault c.in-Err.ensures
