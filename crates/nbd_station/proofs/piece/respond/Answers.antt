use Rattle.nbd_connection.proofs.Mapping.{piece_seen, piece_keeps}
use Rattle.nbd_station.specs.Responding.{PostAnswers, PostTells, post}
use Rattle.nbd_station.proofs.Responding.{takes}
use Rattle.nbd_station.proofs.piece.respond.Goals as goal

pub returns-clause-disk : goal.returns-clause-disk
returns-clause-disk g c =
    piece_keeps _ _ (λ p. p.disk.ghost_name) (λ a b command bytes fate x. x.0) (λ a b reply taken x. x.0) _ _ _ _ _ _ c.answer_piece.ensures.pieced

pub returns-clause-out : goal.returns-clause-out
returns-clause-out g c =
    piece_keeps _ _ (λ p. p.out.ghost_name) (λ a b command bytes fate x. x.1) (λ a b reply taken x. x.1) _ _ _ _ _ _ c.answer_piece.ensures.pieced

pub returns-clause-takes : goal.returns-clause-takes
returns-clause-takes g c =
    takes _ _ _ _ _ c.requires.export _ c.answer_piece.ensures.open
    (piece_seen _ _ PostAnswers PostTells
    (λ p. post p.who p.export (g.D.Disk.facts p.disk.now) (g.W.Sink.written p.out.now) (g.W.Sink.faults p.out.now))
    (λ a b command bytes fate x. x.2) (λ a b reply taken x. x.2) _ _ _ _ _ _ c.answer_piece.ensures.pieced)
