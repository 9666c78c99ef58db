use Rattle.std.proofs.Common.{◌∙◌, ap, refl}
use Rattle.std.proofs.lemmas.Bool.{false≢true}
use Rattle.norbd_transfer.proofs.DifferingLaws.{differing_same, differing_other}
use Rattle.norbd_transfer.proofs.comparing.differing_sectors.Goals as goal
use Rattle.norbd_transfer.proofs.comparing.differing_sectors.Goals.{then-not-is_same+in_ok-push, else-not-is_same}

pub loop-k-preserved : goal.loop-k-preserved
loop-k-preserved c = elim c.if-not-is_same.branch [
  | then-not-is_same+in_ok-push w ↦ differing_other c.args.these.now c.args.those.now c.loop-k.k c.loop-k.numbers.items c.if-not-is_same.numbers.items c.loop-k.invariant (λ e. false≢true (w.if-not-is_same.ensures.1 e)) (ap (λ v. v.items) w.numbers-is ∙ w.in_ok-push.ensures.items)
  | else-not-is_same w ↦ differing_same c.args.these.now c.args.those.now c.loop-k.k c.loop-k.numbers.items c.if-not-is_same.numbers.items c.loop-k.invariant (w.if-not-is_same.ensures.0 refl) (ap (λ v. v.items) w.numbers-is)
]
