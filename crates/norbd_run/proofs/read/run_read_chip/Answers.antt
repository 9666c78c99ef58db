use Rattle.norbd_run.proofs.Lines.{moved}
use Rattle.norbd_run.proofs.read.run_read_chip.Goals as goal

pub returns : goal.returns
returns g c = moved _ (g.K.Sink.written c.args.writer.now) (g.K.Sink.written c.send_bytes.new.writer) (g.K.Sink.faults c.args.writer.now) (g.K.Sink.faults c.send_bytes.new.writer) c.send_bytes.result c.send_bytes.ensures
