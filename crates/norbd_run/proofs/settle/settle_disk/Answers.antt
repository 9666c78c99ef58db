use Rattle.std.proofs.Common.{◌-◌}
use Rattle.norbd_run.proofs.Lines.{settle-told}
use Rattle.norbd_run.proofs.settle.settle_disk.Goals as goal

pub returns-in-Ok : goal.returns-in-Ok
returns-in-Ok g c =
    settle-told (c.settle_steps.result - 1) c.renewed_text-text.result (g.K.Sink.written c.args.writer.now) (g.K.Sink.written c.tell.new.writer) (g.K.Sink.faults c.args.writer.now) (g.K.Sink.faults c.tell.new.writer)
    c.tell.result c.renewed_text-text.ensures c.tell.ensures
