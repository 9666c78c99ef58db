use Rattle.std.proofs.Common.{◌≡◌, ◌≤◌, ◌*◌, ℕ, List, length, vec_len, false}
use Rattle.std.specs.Io.KnownBytes.{Consumes}
use Rattle.nbd_wire.specs.declared.phase.Phase.{Phase}
use Rattle.nbd_session.specs.Sessions.{BeginsSession, is_closed}
use Rattle.nbd_worker.specs.Turning.{ConnectionUnderway}
use Rattle.nbd_worker.specs.ConnectionState.{reads, setting, state_at, through}
use Rattle.nbd_worker.proofs.attending.attend.Given as goal

abbrev pub invariant-loop-piece : goal.invariant-loop-piece
invariant-loop-piece g l = record {
  connection : l.pass.connection ≡ l.fn.pass.connection;
  export : l.session.export ≡ g.L.OneServer.export;
  is_open : is_closed l.session ≡ false;
  room : vec_len l.buffer ≡ 65536;
  reader : g.S.Source.faults l.reader ≡ g.S.Source.faults l.fn.reader;
  underway : (start : Phase) → BeginsSession start g.L.OneServer.export l.fn.begun.session
      → (text : List ℕ) × (l._piece ≤ length text) × Consumes (g.S.Source.remaining l.fn.reader) (g.S.Source.remaining l.reader) text
      × (w : ConnectionUnderway (through g.T.Door.executes g.T.Door.keeps) g.G.Gate.passes (setting start g.L.OneServer.export)
      (state_at l.fn.door l.fn.pass l.fn.gate (g.K.Sink.written l.fn.writer) (g.K.Sink.faults l.fn.writer))
      (state_at l.door l.pass l.gate (g.K.Sink.written l.writer) (g.K.Sink.faults l.writer)) text l.session)
      × (length text ≤ 65536 * reads w.points);
}
