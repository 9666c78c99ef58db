use Rattle.std.proofs.Common.{◌≡◌, ℕ, sym, ◌∙◌, ap}
use Rattle.nbd_history.proofs.Steps.{begins_moves}
use Rattle.nbd_history.proofs.keeper.Opened.new.Goals as goal

pub compare_exchange-found-requires : goal.compare_exchange-found-requires
compare_exchange-found-requires g c =
    let offer = c.plain-offer.ensures in
    let pen = c.no_pen-none.ensures in
    let head = c.tracked-head.ensures.0 in
    let first = c.take-first.ensures.pen in
    let key : c.tracked-head.result.key ≡ 0 = ap (λ w. w.key) head ∙ (ap (λ n. n.key) first.1 ∙ c.row-seen.ensures.pens.1) in
    let book = ap (λ w. w.book) head ∙ (first.0 ∙ c.row-seen.ensures.pens.0) in (
      ap (λ w. w.tracked) head,
      sym book,
      pen.0 ∙ sym book,
      offer.0,
      rw (key, pen.1, offer.3, c.row-seen.ensures.seen) (begins_moves g.E.OfHand.by c.plain-offer.result.ask (ap (λ n. n.what) offer.1)),
    )
