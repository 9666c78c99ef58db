use Rattle.std.proofs.Common.{◌≡◌, ◌<◌, ◌≤◌, ◌++◌, ℕ, List, [], length, length-append, take, refl, ap, subst, ◌∙◌, arith, Some, None}
use Rattle.std.proofs.lemmas.List.{with_items_is}
use Rattle.std.proofs.KnownBytes.{Consumes-nil, Consumes-trans}
use Rattle.nbd_worker.specs.Turning.{PieceBy}
use Rattle.nbd_worker.specs.ConnectionState.{setting, state_at, through}
use Rattle.nbd_worker.proofs.Connections.{connection-end, connection-input, connection-long, connection-piece, connection-unopened, underway-read, underway-start}
use Rattle.nbd_worker.proofs.Turns.{says-of}
use Rattle.nbd_worker.proofs.attending.attend.Goals as goal

pub returns-in-Err-clause-says : goal.returns-in-Err-clause-says
returns-in-Err-clause-says g c start begins =
    let step = through g.T.Door.executes g.T.Door.keeps in
    let st = setting start g.L.OneServer.export in
    let first = state_at c.args.door.now c.args.pass.now c.args.gate.now (g.K.Sink.written c.args.writer.now) (g.K.Sink.faults c.args.writer.now) in
    let b = state_at c.args.door.now c.args.pass.now c.args.gate.now (g.K.Sink.written c.send.new.out) (g.K.Sink.faults c.send.new.out) in
    let f = c.in-Err.ensures in
    connection-unopened step g.G.Gate.passes st first b (g.S.Source.remaining c.args.reader.now) (g.S.Source.faults c.args.reader.now) c.reply.result.now f.0.0 f.0.1 (g.met.G.Gate.none c.args.gate.now)
    refl (c.reply.ensures.value ∙ begins.reply) f.0.2 f.0.3 f.0.4 f.1

pub loop-piece-init : goal.loop-piece-init
loop-piece-init g c = record {
  connection = refl;
  export = c.requires.export;
  is_open = c.requires.open;
  room = c.args.begun.room;
  reader = refl;
  underway = λ start begins.
      let step = through g.T.Door.executes g.T.Door.keeps in
      let st = setting start g.L.OneServer.export in
      let first = state_at c.args.door.now c.args.pass.now c.args.gate.now (g.K.Sink.written c.args.writer.now) (g.K.Sink.faults c.args.writer.now) in
      let b = state_at c.args.door.now c.args.pass.now c.args.gate.now (g.K.Sink.written c.send.new.out) (g.K.Sink.faults c.send.new.out) in
      let w = underway-start step g.G.Gate.passes st first b c.reply.result.now c.args.begun.session begins (g.met.G.Gate.none c.args.gate.now)
      refl (c.reply.ensures.value ∙ begins.reply) c.in_default.ensures.0 c.in_default.ensures.1 in
      ([], omega arith, Consumes-nil (g.S.Source.remaining c.args.reader.now), w.0, w.1);
}

pub returns-in_default-read-clause-says : goal.returns-in_default-read-clause-says
returns-in_default-read-clause-says g c start begins =
    let step = through g.T.Door.executes g.T.Door.keeps in
    let st = setting start g.L.OneServer.export in
    let first = state_at c.args.door.now c.args.pass.now c.args.gate.now (g.K.Sink.written c.args.writer.now) (g.K.Sink.faults c.args.writer.now) in
    let i = c.loop-piece.invariant in
    let u = i.underway start begins in
    let mid = state_at c.loop-piece.door c.loop-piece.pass c.loop-piece.gate (g.K.Sink.written c.loop-piece.writer) (g.K.Sink.faults c.loop-piece.writer) in
    connection-input step g.G.Gate.passes st first mid (g.S.Source.remaining c.args.reader.now) (g.S.Source.remaining c.loop-piece.reader) (g.S.Source.remaining c.read.new.self)
    (g.S.Source.faults c.args.reader.now) (g.S.Source.faults c.loop-piece.reader) (g.S.Source.faults c.read.new.self) u.0 c.loop-piece.session
    u.2 c.in_default-read.ensures.bytes i.reader c.in_default-read.ensures.faults u.3 u.4

pub returns-then-n-eq0-clause-says : goal.returns-then-n-eq0-clause-says
returns-then-n-eq0-clause-says g c start begins =
    let step = through g.T.Door.executes g.T.Door.keeps in
    let st = setting start g.L.OneServer.export in
    let first = state_at c.args.door.now c.args.pass.now c.args.gate.now (g.K.Sink.written c.args.writer.now) (g.K.Sink.faults c.args.writer.now) in
    let i = c.loop-piece.invariant in
    let u = i.underway start begins in
    let mid = state_at c.loop-piece.door c.loop-piece.pass c.loop-piece.gate (g.K.Sink.written c.loop-piece.writer) (g.K.Sink.faults c.loop-piece.writer) in
    let into = c.read.new.into in
    let n = c.in-Ok.n in
    let bytes = c.in-Ok.ensures.bytes in
    let value = ap (λ (xs : List ℕ). length xs) c.as_mut_slice.ensures.value in
    let long : 0 < length into = omega (arith, i.room, value, c.read.auto.into, c.loop-piece.buffer.ok.0) in
    let none : take n into ≡ [] = ap (λ (m : ℕ). take m into) c.if-n-eq0.true in
    connection-end step g.G.Gate.passes st first mid (g.S.Source.remaining c.args.reader.now) (g.S.Source.remaining c.loop-piece.reader) (g.S.Source.remaining c.read.new.self)
    (g.S.Source.faults c.args.reader.now) (g.S.Source.faults c.read.new.self) u.0 (take n into) c.loop-piece.session
    u.2 bytes.0 none (bytes.1 c.if-n-eq0.true long) (c.in-Ok.ensures.faults ∙ i.reader) u.3 u.4

pub returns-in-Some-clause-says : goal.returns-in-Some-clause-says
returns-in-Some-clause-says g c start begins =
    let step = through g.T.Door.executes g.T.Door.keeps in
    let st = setting start g.L.OneServer.export in
    let first = state_at c.args.door.now c.args.pass.now c.args.gate.now (g.K.Sink.written c.args.writer.now) (g.K.Sink.faults c.args.writer.now) in
    let i = c.loop-piece.invariant in
    let u = i.underway start begins in
    let mid = state_at c.loop-piece.door c.loop-piece.pass c.loop-piece.gate (g.K.Sink.written c.loop-piece.writer) (g.K.Sink.faults c.loop-piece.writer) in
    let into = c.read.new.into in
    let n = c.in-Ok.n in
    let bytes = c.in-Ok.ensures.bytes in
    let bound = c.in-Ok.ensures.bound in
    let value = ap (λ (xs : List ℕ). length xs) c.as_mut_slice.ensures.value in
    let size : length into ≡ c.loop-piece.buffer.len = omega (arith, value, c.read.auto.into, c.loop-piece.buffer.ok.0) in
    let whole = with_items_is c.loop-piece.buffer into size in
    let piece : take n c.deref.result.now ≡ take n into = ap (λ (xs : List ℕ). take n xs) (c.deref.ensures.value ∙ whole) in
    let new = c.answer_piece.new in
    let b = state_at new.door new.pass new.gate (g.K.Sink.written new.writer) (g.K.Sink.faults new.writer) in
    let short : length (take n c.deref.result.now) ≤ 65536 = omega (arith, ap (λ (xs : List ℕ). length xs) piece, bound.0, bound.1, size, i.room) in
    let r = underway-read step g.G.Gate.passes st first mid c.pass.new.self u.0 (take n c.deref.result.now) c.loop-piece.session c.pass.ensures u.3 u.4 short in
    let by = says-of step g.G.Gate.passes g.L.OneServer.export (record mid { gate = c.pass.new.self }) b c.loop-piece.session new.session (take n c.deref.result.now) _ i.export c.in-Some.ensures.says start u.0 first r.0 r.1 in
    let B : List ℕ → Type 0 = λ x. PieceBy step g.G.Gate.passes st first b (u.0 ++ x) new.session (Some c.in-Some.end) in
    connection-piece step g.G.Gate.passes st first b (g.S.Source.remaining c.args.reader.now) (g.S.Source.remaining c.loop-piece.reader) (g.S.Source.remaining c.read.new.self)
    (g.S.Source.faults c.args.reader.now) (g.S.Source.faults c.read.new.self) u.0 (take n into) c.in-Some.end
    u.2 bytes.0 (c.in-Ok.ensures.faults ∙ i.reader) c.in-Some.ensures.ends (subst B piece by)

pub loop-piece-preserved : goal.loop-piece-preserved
loop-piece-preserved g c =
    let e = c.in-None.ensures in
    let into = c.read.new.into in
    let n = c.in-Ok.n in
    let bytes = c.in-Ok.ensures.bytes in
    let bound = c.in-Ok.ensures.bound in
    let value = ap (λ (xs : List ℕ). length xs) c.as_mut_slice.ensures.value in
    let size : length into ≡ c.loop-piece.buffer.len = omega (arith, value, c.read.auto.into, c.loop-piece.buffer.ok.0) in
    let whole = with_items_is c.loop-piece.buffer into size in
    let piece : take n c.deref.result.now ≡ take n into = ap (λ (xs : List ℕ). take n xs) (c.deref.ensures.value ∙ whole) in
    record {
      connection = e.connection ∙ c.loop-piece.invariant.connection;
      export = e.export;
      is_open = e.open refl;
      room = c.loop-piece.invariant.room;
      reader = c.in-Ok.ensures.faults ∙ c.loop-piece.invariant.reader;
      underway = λ start begins.
          let step = through g.T.Door.executes g.T.Door.keeps in
          let st = setting start g.L.OneServer.export in
          let first = state_at c.args.door.now c.args.pass.now c.args.gate.now (g.K.Sink.written c.args.writer.now) (g.K.Sink.faults c.args.writer.now) in
          let i = c.loop-piece.invariant in
          let u = i.underway start begins in
          let mid = state_at c.loop-piece.door c.loop-piece.pass c.loop-piece.gate (g.K.Sink.written c.loop-piece.writer) (g.K.Sink.faults c.loop-piece.writer) in
          let new = c.answer_piece.new in
          let b = state_at new.door new.pass new.gate (g.K.Sink.written new.writer) (g.K.Sink.faults new.writer) in
          let short : length (take n c.deref.result.now) ≤ 65536 = omega (arith, ap (λ (xs : List ℕ). length xs) piece, bound.0, bound.1, size, i.room) in
          let r = underway-read step g.G.Gate.passes st first mid c.pass.new.self u.0 (take n c.deref.result.now) c.loop-piece.session c.pass.ensures u.3 u.4 short in
          let by = says-of step g.G.Gate.passes g.L.OneServer.export (record mid { gate = c.pass.new.self }) b c.loop-piece.session new.session (take n c.deref.result.now) _ i.export e.says start u.0 first r.0 r.1 in
          let B : List ℕ → Type 0 = λ x. PieceBy step g.G.Gate.passes st first b (u.0 ++ x) new.session None in
          let w = subst B piece by in
          (u.0 ++ take n into, omega (arith, u.1, bound.1, c.if-n-eq0.false, length-append u.0 (take n into)), Consumes-trans (g.S.Source.remaining c.args.reader.now) (g.S.Source.remaining c.loop-piece.reader) (g.S.Source.remaining c.read.new.self) u.0 (take n into) u.2 bytes.0, w.0, w.1);
    }

pub returns-clause-says : goal.returns-clause-says
returns-clause-says g c start begins =
    let step = through g.T.Door.executes g.T.Door.keeps in
    let st = setting start g.L.OneServer.export in
    let first = state_at c.args.door.now c.args.pass.now c.args.gate.now (g.K.Sink.written c.args.writer.now) (g.K.Sink.faults c.args.writer.now) in
    let i = c.loop-piece.invariant in
    let u = i.underway start begins in
    let mid = state_at c.loop-piece.door c.loop-piece.pass c.loop-piece.gate (g.K.Sink.written c.loop-piece.writer) (g.K.Sink.faults c.loop-piece.writer) in
    connection-long step g.G.Gate.passes st first mid (g.S.Source.remaining c.args.reader.now) (g.S.Source.remaining c.loop-piece.reader) (g.S.Source.faults c.args.reader.now) (g.S.Source.faults c.loop-piece.reader) u.0 c.loop-piece.session
    u.2 (omega (arith, u.1, c.loop-piece-test.false)) u.3 u.4
