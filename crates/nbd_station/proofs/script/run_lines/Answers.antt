use Rattle.std.proofs.Common.{◌∙◌, inr, arith}
use Rattle.nbd_station.proofs.Pieces.{goes_twice}
use Rattle.nbd_station.proofs.Scripting.{lines_done, lines_endless, lines_more, lines_err, read_more, read_so_many, reads_all, writes_all, reading_reads, reading_writes}
use Rattle.nbd_station.proofs.script.run_lines.Goals as goal

pub loop-preserved : goal.loop-preserved
loop-preserved g c =
    let i = c.loop.invariant in
    let h = rw c.in-Ok-Some.field-0-is at c.in-Ok-Some.ensures.form in
    let e = c.in-Ok.ensures in (
      goes_twice _ _ _ i.0 e.goes,
      c.run_form.auto.piece ∙ i.1,
      lines_more c.args.hub.now c.loop.hub c.run_form.new.hub (g.S.Source.remaining c.args.reader.now) (g.S.Source.remaining c.loop.reader) (g.S.Source.remaining c.read_form.new.reader) (g.S.Source.remaining c.run_form.new.reader)
          (g.W.Sink.written c.args.out.now) (g.W.Sink.written c.loop.out) (g.W.Sink.written c.run_form.new.out) c.in-Ok-Some.form i.0.slows e.goes.slows h.0 i.2 e.does,
      e.reads ∙ (c.in-Ok-Some.ensures.reads ∙ i.3),
      e.writes ∙ i.4,
      read_more c.loop.counter (g.S.Source.remaining c.args.reader.now) (g.S.Source.remaining c.loop.reader) (g.S.Source.remaining c.read_form.new.reader) (g.S.Source.remaining c.run_form.new.reader)
          c.in-Ok-Some.form _ h.0 i.5 e.does,
      e.memory ∙ i.6,
    )

pub returns-in-Err-run_form-clause-says : goal.returns-in-Err-run_form-clause-says
returns-in-Err-run_form-clause-says g c =
    let i = c.loop.invariant in
    let h = rw c.in-Ok-Some.field-0-is at c.in-Ok-Some.ensures.form in
    let e = c.in-Err-run_form.ensures in
    lines_err c.args.hub.now c.loop.hub c.run_form.new.hub (g.S.Source.remaining c.args.reader.now) (g.S.Source.remaining c.loop.reader) (g.S.Source.remaining c.read_form.new.reader) (g.S.Source.remaining c.run_form.new.reader)
    (g.W.Sink.written c.args.out.now) (g.W.Sink.written c.loop.out) (g.W.Sink.written c.run_form.new.out) c.in-Ok-Some.form i.0.slows e.goes.slows h.0 c.in-Err-run_form.e i.2 e.does

pub returns-in-Ok-None-clause-reads : goal.returns-in-Ok-None-clause-reads
returns-in-Ok-None-clause-reads g c = c.in-Ok-None.ensures.reads ∙ c.loop.invariant.3

pub returns-in-Ok-None-clause-writes : goal.returns-in-Ok-None-clause-writes
returns-in-Ok-None-clause-writes g c = c.loop.invariant.4

pub returns-in-Err-run_form-clause-reads : goal.returns-in-Err-run_form-clause-reads
returns-in-Err-run_form-clause-reads g c =
    reads_all (g.S.Source.remaining c.args.reader.now) _ _ _ c.in-Err-run_form.e (c.in-Ok-Some.ensures.reads ∙ c.loop.invariant.3) c.in-Err-run_form.ensures.reads

pub returns-in-Err-run_form-clause-writes : goal.returns-in-Err-run_form-clause-writes
returns-in-Err-run_form-clause-writes g c = writes_all _ _ _ c.in-Err-run_form.e c.loop.invariant.4 c.in-Err-run_form.ensures.writes

pub returns-in-Err-clause-reads : goal.returns-in-Err-clause-reads
returns-in-Err-clause-reads g c =
    reading_reads (g.S.Source.remaining c.loop.reader) (g.S.Source.remaining c.read_form.new.reader) (g.S.Source.remaining c.args.reader.now) _ _ _ c.in-Err.e c.in-Err.ensures.form c.loop.invariant.3 c.in-Err.ensures.reads

pub returns-in-Err-clause-writes : goal.returns-in-Err-clause-writes
returns-in-Err-clause-writes g c = reading_writes (g.S.Source.remaining c.loop.reader) (g.S.Source.remaining c.read_form.new.reader) _ _ c.in-Err.e c.in-Err.ensures.form c.loop.invariant.4

pub returns-clause-reads : goal.returns-clause-reads
returns-clause-reads g c =
    let i = c.loop.invariant in
    inr (i.3, λ bytes e. omega (arith, c.loop-test.false, read_so_many c.loop.counter (g.S.Source.remaining c.args.reader.now) (g.S.Source.remaining c.loop.reader) i.5 bytes e))

pub returns-clause-writes : goal.returns-clause-writes
returns-clause-writes g c = c.loop.invariant.4

pub returns-in-Ok-None-clause-says : goal.returns-in-Ok-None-clause-says
returns-in-Ok-None-clause-says g c =
    lines_done c.args.hub.now c.loop.hub (g.S.Source.remaining c.args.reader.now) (g.W.Sink.written c.args.out.now) (g.S.Source.remaining c.loop.reader) (g.S.Source.remaining c.read_form.new.reader) (g.W.Sink.written c.loop.out)
    c.loop.invariant.2 (rw c.in-Ok-None.field-0-is at c.in-Ok-None.ensures.form)

pub returns-clause-says : goal.returns-clause-says
returns-clause-says g c =
    lines_endless c.args.hub.now c.loop.hub (g.S.Source.remaining c.args.reader.now) (g.W.Sink.written c.args.out.now) (g.S.Source.remaining c.loop.reader) (g.W.Sink.written c.loop.out) c.loop.invariant.2
