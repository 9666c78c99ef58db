use Rattle.std.proofs.Common.{sym, ◌∙◌, ap}
use Rattle.nbd_history.proofs.Steps.{grows_moves}
use Rattle.nbd_history.proofs.hand.grown.Goals as goal

pub compare_exchange-found-requires : goal.compare_exchange-found-requires
compare_exchange-found-requires g c =
    let offer = c.plain-offer.ensures in
    let pen = c.no_pen-pen.ensures in
    let now = ap (λ s. s.book) c.again-now.ensures in (
      c.requires.word.0,
      now ∙ sym c.requires.word.1,
      pen.0 ∙ (now ∙ sym c.requires.word.1),
      offer.0,
      rw (pen.1, offer.3) (grows_moves g.E.OfHand.by c.again-now.result.log c.plain-offer.result.ask c.args.word.now.key c.requires.key),
    )
