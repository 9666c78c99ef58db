use Rattle.std.proofs.Common.{◌≡◌, IfOk, subst, sym, Err}
use Rattle.std.specs.String.{string_bytes}
use Rattle.norbd_run.specs.Listening.{TellsServing, ended_text}
use Rattle.norbd_run.proofs.Lines.{begun, ended, first-failed, no-status, serving-failed}
use Rattle.norbd_line.specs.declared.fault.Fault.{Fault}
use Rattle.norbd_run.proofs.serve.serve_shared.Goals as goal

pub returns-in-Err-clause-tells : goal.returns-in-Err-clause-tells
returns-in-Err-clause-tells g c =
    first-failed (Unit {0}) c.serving_text-first.result c.args.asked.place c.args.asked.conns c.args.sectors g.C.Recorder.KEEPS
    (g.K.Sink.written c.args.writer.now) (g.K.Sink.written c.tell.new.writer) (g.K.Sink.faults c.args.writer.now) (g.K.Sink.faults c.tell.new.writer)
    c.in-Err.fault c.serving_text-first.ensures c.in-Err.ensures

pub returns-in-Err-status_of-clause-tells : goal.returns-in-Err-status_of-clause-tells
returns-in-Err-status_of-clause-tells g c =
    let old = g.K.Sink.written c.args.writer.now in
    let f = g.K.Sink.faults c.args.writer.now in
    let new = g.K.Sink.written c.tell.new.writer in
    let z = g.K.Sink.faults c.tell.new.writer in
    no-status (Unit {0}) c.args.asked.place c.args.asked.conns g.C.Recorder.KEEPS old new f z c.in-Err-status_of.fault c.in-Err-status_of.ensures
    (begun c.serving_text-first.result c.args.asked.place c.args.sectors old new f z c.serving_text-first.ensures c.in_default-tell.ensures)

pub returns-in-Err-serve-clause-tells : goal.returns-in-Err-serve-clause-tells
returns-in-Err-serve-clause-tells g c =
    let old = g.K.Sink.written c.args.writer.now in
    let f = g.K.Sink.faults c.args.writer.now in
    let new = g.K.Sink.written c.tell.new.writer in
    let z = g.K.Sink.faults c.tell.new.writer in
    let P : Fault → Type 0 = λ x. TellsServing {T = Unit {0}} c.args.asked.place c.args.asked.conns g.C.Recorder.KEEPS old f (Err x) new z in
    subst P (sym c.told_of_serving.ensures)
    (serving-failed (Unit {0}) c.args.asked.place c.args.asked.conns g.C.Recorder.KEEPS old new f z c.in-Err-serve.fault (begun c.serving_text-first.result c.args.asked.place c.args.sectors old new f z c.serving_text-first.ensures c.in_default-tell.ensures))

pub returns-in-Err-finish-clause-tells : goal.returns-in-Err-finish-clause-tells
returns-in-Err-finish-clause-tells g c =
    let old = g.K.Sink.written c.args.writer.now in
    let f = g.K.Sink.faults c.args.writer.now in
    let new = g.K.Sink.written c.tell.new.writer in
    let z = g.K.Sink.faults c.tell.new.writer in
    let P : Fault → Type 0 = λ x. TellsServing {T = Unit {0}} c.args.asked.place c.args.asked.conns g.C.Recorder.KEEPS old f (Err x) new z in
    subst P (sym c.in-Err-finish.ensures)
    (begun c.serving_text-first.result c.args.asked.place c.args.sectors old new f z c.serving_text-first.ensures c.in_default-tell.ensures)

pub returns-in_default-total-clause-tells : goal.returns-in_default-total-clause-tells
returns-in_default-total-clause-tells g c =
    begun c.serving_text-first.result c.args.asked.place c.args.sectors (g.K.Sink.written c.args.writer.now) (g.K.Sink.written c.tell.new.writer) (g.K.Sink.faults c.args.writer.now) (g.K.Sink.faults c.tell.new.writer)
    c.serving_text-first.ensures c.in_default-tell.ensures

pub returns-clause-tells : goal.returns-clause-tells
returns-clause-tells g c =
    let last-is = subst (λ k. IfOk c.ended_text-last.result (λ t. string_bytes t ≡ ended_text k c.args.asked.conns c.in-Some.rows)) c.KEEPS.ensures c.ended_text-last.ensures in
    ended c.serving_text-first.result c.ended_text-last.result c.args.asked.place c.args.asked.conns c.args.sectors c.in-Some.rows g.C.Recorder.KEEPS
    (g.K.Sink.written c.args.writer.now) (g.K.Sink.written c.tell.new.writer) (g.K.Sink.written c.tell-2.new.writer)
    (g.K.Sink.faults c.args.writer.now) (g.K.Sink.faults c.tell.new.writer) (g.K.Sink.faults c.tell-2.new.writer) c.tell-2.result
    c.serving_text-first.ensures last-is c.in_default-tell.ensures c.tell-2.ensures
