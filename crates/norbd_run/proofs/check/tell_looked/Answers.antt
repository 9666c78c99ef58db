use Rattle.norbd_run.proofs.Lines.{checked, report-failed}
use Rattle.norbd_run.proofs.check.tell_looked.Goals as goal

pub returns-in-Err : goal.returns-in-Err
returns-in-Err g c =
    report-failed (Unit {0}) (Unit {0}) c.args.how.mend c.args.how.json _ (g.K.Sink.written c.args.writer.now) (g.K.Sink.written c.send_bytes.new.writer) (g.K.Sink.faults c.args.writer.now) (g.K.Sink.faults c.send_bytes.new.writer) c.in-Err.fault c.in-Err.ensures

pub returns-in-Ok : goal.returns-in-Ok
returns-in-Ok g c =
    let s = c.in-Ok.checked in
    let asked = rw c.in-Ok.is at c.requires.mends in
    checked c.args.how.mend c.args.how.json (record { mended = s.mended; sectors = s.sectors; asked = asked }) _ c.line_about-line.result (g.K.Sink.written c.args.writer.now) (g.K.Sink.written c.send_bytes.new.writer) (g.K.Sink.written c.tell.new.writer)
    (g.K.Sink.faults c.args.writer.now) (g.K.Sink.faults c.send_bytes.new.writer) (g.K.Sink.faults c.tell.new.writer) c.in_default.field-0 c.tell.result c.in_default.ensures c.line_about-line.ensures c.tell.ensures
