use Rattle.norbd_run.proofs.Lines.{image-refused}
use Rattle.norbd_run.proofs.serve.serve_held.Goals as goal

pub returns-in-Err-clause-tells : goal.returns-in-Err-clause-tells
returns-in-Err-clause-tells g c =
    image-refused (Unit {0}) c.args.asked.place c.args.asked.conns c.args.asked.record
    (g.K.Sink.written c.args.writer.now) (g.K.Sink.faults c.args.writer.now) c.in-Err.fault c.in-Err.ensures.refused

pub returns-in-Err-wear_of-clause-tells : goal.returns-in-Err-wear_of-clause-tells
returns-in-Err-wear_of-clause-tells g c =
    image-refused (Unit {0}) c.args.asked.place c.args.asked.conns c.args.asked.record
    (g.K.Sink.written c.args.writer.now) (g.K.Sink.faults c.args.writer.now) c.in-Err-wear_of.fault c.in-Err-wear_of.ensures

pub returns-in-Err-open_disk-clause-tells : goal.returns-in-Err-open_disk-clause-tells
returns-in-Err-open_disk-clause-tells g c =
    image-refused (Unit {0}) c.args.asked.place c.args.asked.conns c.args.asked.record
    (g.K.Sink.written c.args.writer.now) (g.K.Sink.faults c.args.writer.now) c.in-Err-open_disk.fault c.in-Err-open_disk.ensures.refused

pub returns-in-Err-log_beside-clause-tells : goal.returns-in-Err-log_beside-clause-tells
returns-in-Err-log_beside-clause-tells g c =
    image-refused (Unit {0}) c.args.asked.place c.args.asked.conns c.args.asked.record
    (g.K.Sink.written c.args.writer.now) (g.K.Sink.faults c.args.writer.now) c.told_of_log.result c.told_of_log.ensures

pub returns-in-Err-handle-clause-tells : goal.returns-in-Err-handle-clause-tells
returns-in-Err-handle-clause-tells g c =
    image-refused (Unit {0}) c.args.asked.place c.args.asked.conns c.args.asked.record
    (g.K.Sink.written c.args.writer.now) (g.K.Sink.faults c.args.writer.now) c.told_of_log-in-Err-handle.result c.told_of_log-in-Err-handle.ensures

pub returns-in-Err-begin_anew-clause-tells : goal.returns-in-Err-begin_anew-clause-tells
returns-in-Err-begin_anew-clause-tells g c =
    image-refused (Unit {0}) c.args.asked.place c.args.asked.conns c.args.asked.record
    (g.K.Sink.written c.args.writer.now) (g.K.Sink.faults c.args.writer.now) c.told_of_log-in-Err-begin_anew.result c.told_of_log-in-Err-begin_anew.ensures
