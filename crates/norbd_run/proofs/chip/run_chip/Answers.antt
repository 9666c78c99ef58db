use Rattle.norbd_run.proofs.Lines.{chip-failed, chip-told}
use Rattle.norbd_run.proofs.chip.run_chip.Goals as goal

pub returns-in-Err-tell : goal.returns-in-Err-tell
returns-in-Err-tell g c =
    chip-failed (Unit {0}) c.text_about-text.result c.args.asked.port _
    (g.K.Sink.written c.args.writer.now) (g.K.Sink.written c.tell.new.writer) (g.K.Sink.faults c.args.writer.now) (g.K.Sink.faults c.tell.new.writer)
    c.in-Err-tell.fault c.text_about-text.ensures c.in-Err-tell.ensures

pub returns : goal.returns
returns g c =
    chip-told (Unit {0}) c.text_about-text.result c.args.asked.port _
    (g.K.Sink.written c.args.writer.now) (g.K.Sink.written c.tell.new.writer) (g.K.Sink.faults c.args.writer.now) (g.K.Sink.faults c.tell.new.writer)
    c.answer_clients.result c.text_about-text.ensures c.in_default.ensures.0 c.in_default.ensures.1
