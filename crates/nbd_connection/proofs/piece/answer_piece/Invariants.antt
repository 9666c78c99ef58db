use Rattle.std.proofs.Common.{◌≡◌, false, length}
use Rattle.nbd_session.specs.Sessions.{is_closed}
use Rattle.nbd_connection.proofs.Piecing.{PieceUnderway}
use Rattle.nbd_connection.proofs.piece.answer_piece.Given as goal

abbrev pub invariant-loop-rest : goal.invariant-loop-rest
invariant-loop-rest g l =
    (l.session.export ≡ l.initial.session.export)
    × (l.session.memory ≡ l.initial.session.memory)
    × g.P.Peer.fits l.peer
    × (g.P.Peer.export l.peer ≡ g.P.Peer.export l.initial.peer)
    × (is_closed l.initial.session ≡ false → is_closed l.session ≡ false)
    × PieceUnderway g.P.Peer.answers g.P.Peer.tells l.initial.peer l.peer l.initial.session l.session l.bytes l.rest

abbrev pub decreases-loop-rest : goal.decreases-loop-rest
decreases-loop-rest g l = length l.rest
