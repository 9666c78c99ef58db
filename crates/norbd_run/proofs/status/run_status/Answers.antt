use Rattle.norbd_run.proofs.Lines.{status-told}
use Rattle.norbd_run.proofs.status.run_status.Goals as goal

pub returns : goal.returns
returns g c =
    status-told c.args.json c.in-Ok.status c.text_about-text.result
    (g.K.Sink.written c.args.writer.now) (g.K.Sink.written c.tell.new.writer) (g.K.Sink.faults c.args.writer.now) (g.K.Sink.faults c.tell.new.writer)
    c.tell.result c.text_about-text.ensures c.tell.ensures
