use Rattle.nbd_connection.proofs.Mapping.{piece_seen, piece_keeps}
use Rattle.nbd_wire.specs.Lent.{payload_in}
use Rattle.nbd_worker.specs.ConnectionState.{state_at, through}
use Rattle.nbd_worker.specs.Turning.{CommandTurn, StateTells}
use Rattle.nbd_worker.proofs.Turns.{says-piece}
use Rattle.nbd_worker.proofs.attending.respond.Goals as goal

pub returns-clause-door : goal.returns-clause-door
returns-clause-door g c =
    piece_keeps _ _ (λ p. p.door.ghost_name) (λ a b command bytes fate x. x.0) (λ a b reply taken x. x.0) _ _ _ _ _ _ c.answer_piece.ensures.pieced

pub returns-clause-pass : goal.returns-clause-pass
returns-clause-pass g c =
    piece_keeps _ _ (λ p. p.pass.ghost_name) (λ a b command bytes fate x. x.1) (λ a b reply taken x. x.1) _ _ _ _ _ _ c.answer_piece.ensures.pieced

pub returns-clause-writer : goal.returns-clause-writer
returns-clause-writer g c =
    piece_keeps _ _ (λ p. p.writer.ghost_name) (λ a b command bytes fate x. x.2) (λ a b reply taken x. x.2) _ _ _ _ _ _ c.answer_piece.ensures.pieced

pub returns-clause-gate : goal.returns-clause-gate
returns-clause-gate g c =
    piece_keeps _ _ (λ p. p.gate.ghost_name) (λ a b command bytes fate x. x.3) (λ a b reply taken x. x.3) _ _ _ _ _ _ c.answer_piece.ensures.pieced

pub returns-clause-connection : goal.returns-clause-connection
returns-clause-connection g c =
    piece_keeps _ _ (λ p. p.pass.now.connection) (λ a b command bytes fate x. x.4) (λ a b reply taken x. x.4) _ _ _ _ _ _ c.answer_piece.ensures.pieced

pub returns-clause-says : goal.returns-clause-says
returns-clause-says g c =
    rw c.end_of.ensures
    (says-piece (through g.T.Door.executes g.T.Door.keeps) g.G.Gate.passes _ _ _ _ _ c.requires.open _
    (piece_seen _ _ (λ a b command bytes fate. CommandTurn (through g.T.Door.executes g.T.Door.keeps) g.G.Gate.passes a b command (payload_in command bytes) fate) StateTells
    (λ p. state_at p.door.now p.pass.now p.gate.now (g.K.Sink.written p.writer.now) (g.K.Sink.faults p.writer.now))
    (λ a b command bytes fate x. x.5) (λ a b reply taken x. x.5) _ _ _ _ _ _ c.answer_piece.ensures.pieced))
