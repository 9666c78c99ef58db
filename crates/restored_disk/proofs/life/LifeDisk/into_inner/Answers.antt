use Rattle.std.proofs.Common.{◌∙◌, refl, sym, ap, subst, length}
use Rattle.restored_disk.specs.Lives.{IsFoundNext, Lived, on_chip}
use Rattle.restored_disk.proofs.Lives.{left-found, left-ready, reads-at}
use Rattle.restored_disk.proofs.life.LifeDisk.into_inner.Goals as goal

pub returns-in-Some-clause-stays : goal.returns-in-Some-clause-stays
returns-in-Some-clause-stays g c firm ready =
    let d = c.in-Some.disk in
    let life = length c.self.inside.ended.items in
    let p = on_chip g.P.Provenance.sound d.checked d.doubtful d.lazy d.map d.cut in
    left-ready g.P.Provenance.firm g.P.Provenance.slows (g.B.PowerCycle.draw life) c.self.inside.standing c.self.inside.losses p c.args.self.facts (record { shown = (g.B.SpiBus.chip c.into_inner.result).memory; weak = (g.B.SpiBus.chip c.into_inner.result).weak })
    (ap (λ (x : Lived). x.facts) (rw c.in-Some.is at c.self.view_is)) refl (rw c.in-Some.is at c.self.invariant.stands) ready
    (λ cuts slows. c.into_inner.ensures.firmly firm (cuts ∙ sym c.self.invariant.cuts) slows)

pub returns-in-Some-clause-found : goal.returns-in-Some-clause-found
returns-in-Some-clause-found g c known quick =
    let d = c.in-Some.disk in
    let life = length c.self.inside.ended.items in
    let firm = g.P.Provenance.firm in
    let p = on_chip g.P.Provenance.sound d.checked d.doubtful d.lazy d.map d.cut in
    let e = c.into_inner.ensures in
    subst (λ n. IsFoundNext firm (g.B.PowerCycle.draw n) c.args.self.facts.contents (record { shown = (g.B.SpiBus.chip c.into_inner.result).memory; weak = (g.B.SpiBus.chip c.into_inner.result).weak })) (ap (λ (x : Lived). x.lives) c.self.view_is)
    (left-found firm g.P.Provenance.slows (g.B.PowerCycle.draw life) c.self.inside.standing c.self.inside.losses p c.args.self.facts (g.B.SpiBus.chip c.into_inner.result)
    (ap (λ (x : Lived). x.facts) (rw c.in-Some.is at c.self.view_is)) refl (rw c.in-Some.is at c.self.invariant.stands) quick (reads-at firm g.B.PowerCycle.draw life c.self.invariant.served)
    e.bits e.contents e.mountable e.clean (λ is cuts slows. e.firmly is (cuts ∙ sym c.self.invariant.cuts) slows))
