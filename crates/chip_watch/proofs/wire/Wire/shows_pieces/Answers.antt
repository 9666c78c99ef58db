use Rattle.std.proofs.Common.{◌≡◌, ◌+◌, ◌*◌, suc, [], ◌∷◌, ℕ, subst, arith}
use Rattle.chip_model.specs.Exchanges.{Exchanged}
use Rattle.chip_model.proofs.ExchangeLaws.{exchanged_twice}
use Rattle.chip_watch.specs.Reading.{piece_reads, read_of}
use Rattle.chip_watch.specs.Told.{frames_told}
use Rattle.chip_watch.proofs.wire.Wire.shows_pieces.Goals as goal

pub loop-piece-preserved : goal.loop-piece-preserved
loop-piece-preserved g c =
    let log = g.P.Programmer.exchanged in
    let m = c.args.memory.now in
    let old = frames_told log c.args.self.now in
    let new = frames_told log c.shows.new.self in
    let next : suc c.loop-piece.piece ≡ c.loop-piece.piece + 1 = omega arith in
    record {
      shown = subst (λ (n : ℕ). Exchanged old new (piece_reads m c.args.at n)) next
          (exchanged_twice old (frames_told log c.loop-piece.self) new (piece_reads m c.args.at c.loop-piece.piece) (read_of m (c.args.at + 4096 * c.loop-piece.piece) 4096 ∷ []) c.loop-piece.invariant.shown c.in_ok-shows.ensures.shown);
      sent = λ was. c.in_ok-shows.ensures.sent;
    }
