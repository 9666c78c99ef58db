use Rattle.norbd_run.proofs.Lines.{before-failed, then-refused, replaced-told}
use Rattle.norbd_run.proofs.write.run_write.Goals as goal

pub returns-in-Err-clause-told : goal.returns-in-Err-clause-told
returns-in-Err-clause-told g c =
    before-failed (Unit {0}) (Unit {0}) c.replacing_text-before.result c.in_ok-part.part.first c.in_ok-part.part.end (g.K.Sink.written c.args.writer.now) (g.K.Sink.written c.tell.new.writer) (g.K.Sink.faults c.args.writer.now) (g.K.Sink.faults c.tell.new.writer) c.in-Err.fault c.replacing_text-before.ensures c.in-Err.ensures

pub returns-in-Err-write_file-clause-told : goal.returns-in-Err-write_file-clause-told
returns-in-Err-write_file-clause-told g c =
    then-refused (Unit {0}) c.replacing_text-before.result c.in_ok-part.part.first c.in_ok-part.part.end (g.K.Sink.written c.args.writer.now) (g.K.Sink.written c.tell.new.writer) (g.K.Sink.faults c.args.writer.now) (g.K.Sink.faults c.tell.new.writer) c.in_default.field-0 c.in-Err-write_file.fault c.replacing_text-before.ensures c.in_default.ensures

pub returns-clause-told : goal.returns-clause-told
returns-clause-told g c =
    replaced-told c.replacing_text-before.result c.written_text-after.result c.in_ok-part.part.first c.in_ok-part.part.end (g.K.Sink.written c.args.writer.now) (g.K.Sink.written c.tell.new.writer) (g.K.Sink.written c.tell-2.new.writer)
    (g.K.Sink.faults c.args.writer.now) (g.K.Sink.faults c.tell.new.writer) (g.K.Sink.faults c.tell-2.new.writer) c.in_default.field-0 c.tell-2.result c.replacing_text-before.ensures c.written_text-after.ensures c.in_default.ensures c.tell-2.ensures
