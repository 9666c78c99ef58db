use Rattle.std.proofs.Common.{◌≡◌, ◌+◌, false, sym, ◌∙◌, ap, subst}
use Rattle.norbd_serve.specs.Serving.{AreLegal, has_lost}
use Rattle.norbd_serve.proofs.Ends.{legal_more, none_lost_more}
use Rattle.norbd_serve.proofs.kept.Kept.keep.Goals as goal

pub invariant_of-self : goal.invariant_of-self
invariant_of-self g c = λ was.
    let i = c.self.invariant was in
    let e = c.in-Ok.ensures in
    record {
      passes = e.passes ∙ (ap (λ n. n + 1) i.passes ∙ sym e.counts);
      hands = e.known ∙ (ap (λ n. n + 1) i.hands ∙ sym e.counts);
      none_lost = subst (λ ends. has_lost ends ≡ false) (sym e.ends) (none_lost_more c.self.inside.served.ends.items c.args.end i.none_lost c.requires.lives);
      legal = λ sound.
          subst (AreLegal g.L.OneServer.export g.L.OneServer.base) (sym e.hands)
          (legal_more g.L.OneServer.export g.L.OneServer.base c.self.inside.served.hands.items c.args.hand (i.legal sound) (c.requires.legal sound));
    }
