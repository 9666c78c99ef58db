use Rattle.std.proofs.Common.{sym, ◌∙◌, ap}
use Rattle.nbd_history.proofs.Steps.{looks_moves}
use Rattle.nbd_history.proofs.hand.counted.Goals as goal

pub compare_exchange-requires : goal.compare_exchange-requires
compare_exchange-requires g c =
    let offer = c.plain-offer.ensures in (
      c.requires.word.0,
      sym c.requires.word.1,
      c.requires.pen.0 ∙ sym c.requires.word.1,
      offer.0,
      rw offer.3 (looks_moves g.E.OfHand.by c.args.seen.now.log c.args.pen.now.nib c.plain-offer.result.ask c.args.word.now.key c.requires.key c.requires.pen.1 c.requires.ends),
    )
