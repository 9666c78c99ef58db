use Rattle.std.proofs.Common.{◌≡◌, ◌∙◌, ◌<◌, Some, refl, sym, ap, subst, arith, length, rules}
use Rattle.chip_model.specs.Wavering.{Bits}
use Rattle.std.proofs.lemmas.Bool.{true≢false}
use Rattle.block_device.specs.declared.disk.DiskError.TheVariants.{Cut}
use Rattle.flash_disk.specs.Contents.{AtEachDraw, contents_of}
use Rattle.restored_disk.specs.Lives.{HaveLost, Lived, off_chip, on_chip}
use Rattle.restored_disk.proofs.Lives.{if-none, lost-more, not-empty, one-more, refused-stands, restore-goes, restore-latches, size-drawn, waits}
use Rattle.restored_disk.proofs.life.LifeDiskDisk.restore.Goals as goal

pub mount_again-mounted-requires-clause-begins : goal.mount_again-mounted-requires-clause-begins
mount_again-mounted-requires-clause-begins g c =
    let cut : c.self.inside.standing ≡ Some Cut = search rules in
    let x = (rw (sym c.take.ensures.value ∙ c.in-Some.is) at (rw cut at c.self.invariant.stands)) refl in
    let e = c.into_inner-bus.ensures in
    record {
      idle = e.idle x.1;
      accepted = e.accepted;
      clean = e.clean x.1 x.0;
      mountable = e.mountable x.3;
      fit = λ is. subst (λ b. AtEachDraw b (λ _. Unit {0})) (sym e.bits) (x.4 is);
    }

pub returns-in-Err-clause-latches : goal.returns-in-Err-clause-latches
returns-in-Err-clause-latches g c =
    let d = c.in-Some.disk in
    let life = length c.self.inside.ended.items in
    let p = on_chip g.P.Provenance.sound d.checked d.doubtful d.lazy d.map d.cut in
    let q = off_chip (g.B.SpiBus.chip c.in-Err.bus).memory (g.B.SpiBus.slows c.in-Err.bus) in
    let cut : c.self.inside.standing ≡ Some Cut = search rules in
    let was = ap (λ (v : Lived). v.facts) (rw (sym c.take.ensures.value ∙ c.in-Some.is) at (rw cut at c.self.view_is)) in
    rw c.take.ensures.after
    (restore-latches (Unit {0}) c.in-Err.error (g.B.PowerCycle.draw life) (g.B.PowerCycle.draw (length c.and-ended.result.items)) c.self.inside.losses p q c.args.self.now.facts c.stand.new.standing c.stand.result c.stand.new.losses was c.stand.ensures.stands c.stand.ensures.same c.stand.ensures.counts
    (λ is. let more = c.in-Err.ensures.slow is in let two = c.into_inner-bus.ensures.slows in omega (arith, more, two)))

pub returns-in-Err-clause-goes : goal.returns-in-Err-clause-goes
returns-in-Err-clause-goes g c =
    let d = c.in-Some.disk in
    let life = length c.self.inside.ended.items in
    let p = on_chip g.P.Provenance.sound d.checked d.doubtful d.lazy d.map d.cut in
    let e = c.into_inner-bus.ensures in
    let cut : c.self.inside.standing ≡ Some Cut = search rules in
    let was = ap (λ (v : Lived). v.facts) (rw (sym c.take.ensures.value ∙ c.in-Some.is) at (rw cut at c.self.view_is)) in
    rw c.take.ensures.after
    (restore-goes c.in-Err.error (g.B.PowerCycle.draw life) (g.B.PowerCycle.draw (length c.and-ended.result.items)) c.self.inside.losses p (g.B.SpiBus.chip c.in-Err.bus).memory (g.B.SpiBus.slows c.into_inner-bus.result) (g.B.SpiBus.slows c.in-Err.bus) c.args.self.now.facts c.stand.new.standing c.stand.new.losses was c.stand.ensures.stands c.stand.ensures.counts refl (sym e.slows)
    (λ is. (c.in-Err.ensures.cut is).0) c.in-Err.ensures.slow (c.in-Err.ensures.size ∙ ap length e.contents))

pub invariant_of-self-in-Ok : goal.invariant_of-self-in-Ok
invariant_of-self-in-Ok g c =
    let d = c.in-Some.disk in
    let life = length c.self.inside.ended.items in
    let draw = g.B.PowerCycle.draw life in
    let e = c.into_inner-bus.ensures in
    let o = c.in-Ok.ensures.opened in
    let cut : c.self.inside.standing ≡ Some Cut = search rules in
    let was = sym c.take.ensures.value ∙ c.in-Some.is in
    let x = (rw was at (rw cut at c.self.invariant.stands)) refl in
    let here = rw was at c.self.invariant.here in
    let size = rw was at (rw cut at c.self.invariant.size) in
    let lost : 0 < g.B.SpiBus.cuts c.into_inner-bus.result = (let more = x.2 in let at = e.cuts in omega (arith, more, at)) in
    record {
      here = here;
      served = c.self.invariant.served;
      steady = c.self.invariant.steady;
      cuts = c.self.invariant.cuts;
      size = ap length (c.in-Ok.ensures.contents ∙ ap (λ (b : Bits). contents_of (draw b).later) e.bits) ∙ size;
      stands = (refl, o.sound_is, o.ready, o.cuts_are, o.slows_are ∙ (e.slows ∙ x.3));
      waits = if-none c.self.inside.bus _ here;
      ended = subst (λ l. HaveLost g.B.SpiBus.cuts l) (sym c.and-ended.ensures) (lost-more g.B.SpiBus.cuts c.self.inside.ended.items c.into_inner-bus.result c.self.invariant.ended lost);
      first = λ empty. not-empty c.self.inside.ended.items (c.into_inner-bus.result, tt) _ (sym c.and-ended.ensures ∙ empty);
      told = λ is here. (let a = (rw was at (rw cut at c.self.invariant.told)) is refl in let b = ap length c.and-ended.ensures ∙ one-more c.self.inside.ended.items (c.into_inner-bus.result, tt) in omega (arith, a, b));
    }

pub invariant_of-self-in-Err : goal.invariant_of-self-in-Err
invariant_of-self-in-Err g c =
    let firm = g.P.Provenance.firm in
    let slows = g.P.Provenance.slows in
    let life = length c.self.inside.ended.items in
    let draw = g.B.PowerCycle.draw life in
    let e = c.into_inner-bus.ensures in
    let old = g.B.SpiBus.chip c.into_inner-bus.result in
    let new = g.B.SpiBus.chip c.in-Err.bus in
    let cut : c.self.inside.standing ≡ Some Cut = search rules in
    let was = sym c.take.ensures.value ∙ c.in-Some.is in
    let x = (rw was at (rw cut at c.self.invariant.stands)) refl in
    let size = rw was at (rw cut at c.self.invariant.size) in
    let lost : 0 < g.B.SpiBus.cuts c.into_inner-bus.result = (let more = x.2 in let at = e.cuts in omega (arith, more, at)) in
    record {
      here = rw c.take.ensures.after refl;
      served = c.self.invariant.served;
      steady = c.self.invariant.steady;
      cuts = c.self.invariant.cuts;
      size = rw c.take.ensures.after (c.in-Err.ensures.size ∙ (sym (size-drawn draw (record { shown = old.memory; weak = old.weak })) ∙ (ap (λ (b : Bits). length (contents_of (draw b).later)) e.bits ∙ size)));
      stands = rw c.take.ensures.after (refused-stands firm slows c.in-Err.error c.stand.new.standing new.memory (g.B.SpiBus.slows c.in-Err.bus) c.stand.ensures.stands (λ is. (let more = c.in-Err.ensures.slow is in let at = e.slows in let first = x.3 in omega (arith, more, at, first))));
      waits = waits firm slows c.stand.new.standing c.in-Err.error new (g.B.SpiBus.slows c.in-Err.bus) c.stand.ensures.stands c.in-Err.ensures.again (λ is. (c.in-Err.ensures.cut is).0 ∙ (e.slows ∙ x.3));
      ended = subst (λ l. HaveLost g.B.SpiBus.cuts l) (sym c.and-ended.ensures) (lost-more g.B.SpiBus.cuts c.self.inside.ended.items c.into_inner-bus.result c.self.invariant.ended lost);
      first = λ empty. not-empty c.self.inside.ended.items (c.into_inner-bus.result, tt) _ (sym c.and-ended.ensures ∙ empty);
      told = λ is here. absurd (true≢false (sym (rw c.take.ensures.after at here)));
    }
