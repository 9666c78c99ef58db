use Rattle.std.proofs.Common.{◌≡◌, ◌∙◌, Some, true, length, sym, ap, arith, rules}
use Rattle.std.proofs.lemmas.Bool.{true≢false}
use Rattle.std.specs.Prelude.{is_some}
use Rattle.flash_disk.specs.Contents.{contents_of}
use Rattle.restored_disk.specs.Lives.{Lived}
use Rattle.restored_disk.proofs.Lives.{cut-stands, no-firm, none-of, refused-stands, retry-fails, waits}
use Rattle.restored_disk.proofs.life.LifeDisk.retry.Goals as goal

pub invariant_of-self-in-Err : goal.invariant_of-self-in-Err
invariant_of-self-in-Err g c =
    let firm = g.P.Provenance.firm in
    let slows = g.P.Provenance.slows in
    let gone = ap (λ (x : Lived). x.refused) c.self.view_is ∙ c.requires.refused in
    let none = none-of c.self.inside.disk gone in
    let here : c.self.inside.bus ≡ Some c.in-Some.bus = sym c.take.ensures.value ∙ c.in-Some.is in
    let cut = cut-stands c.self.inside.standing (ap (λ (x : Lived). x.facts.cut) c.self.view_is ∙ c.requires.cut.0) in
    let steady : c.self.inside.steady ≡ true = search rules in
    let go = (rw here at (rw cut at c.self.invariant.waits)) (no-firm firm (sym c.self.invariant.steady ∙ steady)) in
    let size = rw none at (rw here at c.self.invariant.size) in
    let new = g.B.SpiBus.chip c.in-Err.bus in
    record {
      here = sym gone;
      served = c.self.invariant.served;
      steady = c.self.invariant.steady;
      cuts = c.self.invariant.cuts;
      size = rw none (c.in-Err.ensures.size ∙ size);
      stands = rw none (refused-stands firm slows c.in-Err.error c.stand.new.standing new.memory (g.B.SpiBus.slows c.in-Err.bus) c.stand.ensures.stands (λ is. (let more = c.in-Err.ensures.slow is in let at = go.1 in omega (arith, more, at))));
      waits = waits firm slows c.stand.new.standing c.in-Err.error new (g.B.SpiBus.slows c.in-Err.bus) c.stand.ensures.stands c.in-Err.ensures.again (λ is. (c.in-Err.ensures.cut is).0 ∙ go.1);
      ended = c.self.invariant.ended;
      first = λ empty. absurd (true≢false (sym (c.self.invariant.first empty).0 ∙ ap is_some none));
      told = λ is here. absurd (true≢false (sym here ∙ ap is_some none));
    }

pub returns-in-Err-clause-contents : goal.returns-in-Err-clause-contents
returns-in-Err-clause-contents g c =
    let firm = g.P.Provenance.firm in
    let life = length c.self.inside.ended.items in
    let none = none-of c.self.inside.disk (ap (λ (x : Lived). x.refused) c.self.view_is ∙ c.requires.refused) in
    let here : c.self.inside.bus ≡ Some c.in-Some.bus = sym c.take.ensures.value ∙ c.in-Some.is in
    let cut = cut-stands c.self.inside.standing (ap (λ (x : Lived). x.facts.cut) c.self.view_is ∙ c.requires.cut.0) in
    let steady : c.self.inside.steady ≡ true = search rules in
    let old = g.B.SpiBus.chip c.in-Some.bus in
    let was = ap (λ (x : Lived). x.facts) (rw none at (rw here at (rw cut at c.self.view_is))) in
    let read = c.self.invariant.served (no-firm firm (sym c.self.invariant.steady ∙ steady)) life (record { shown = old.memory; weak = old.weak }) in
    rw none
    (retry-fails c.in-Err.error (g.B.PowerCycle.draw life) c.self.inside.losses old.memory (g.B.SpiBus.chip c.in-Err.bus).memory (g.B.SpiBus.slows c.in-Some.bus) (g.B.SpiBus.slows c.in-Err.bus) c.args.self.now.facts c.stand.new.standing c.stand.result c.stand.new.losses was c.stand.ensures.stands c.stand.ensures.same c.stand.ensures.counts
    (λ is. (let x = c.in-Err.ensures.cut is in (x.0, x.1 ∙ ap contents_of read))) c.in-Err.ensures.slow c.in-Err.ensures.size).0

pub returns-in-Err-clause-goes : goal.returns-in-Err-clause-goes
returns-in-Err-clause-goes g c =
    let firm = g.P.Provenance.firm in
    let life = length c.self.inside.ended.items in
    let none = none-of c.self.inside.disk (ap (λ (x : Lived). x.refused) c.self.view_is ∙ c.requires.refused) in
    let here : c.self.inside.bus ≡ Some c.in-Some.bus = sym c.take.ensures.value ∙ c.in-Some.is in
    let cut = cut-stands c.self.inside.standing (ap (λ (x : Lived). x.facts.cut) c.self.view_is ∙ c.requires.cut.0) in
    let steady : c.self.inside.steady ≡ true = search rules in
    let old = g.B.SpiBus.chip c.in-Some.bus in
    let was = ap (λ (x : Lived). x.facts) (rw none at (rw here at (rw cut at c.self.view_is))) in
    let read = c.self.invariant.served (no-firm firm (sym c.self.invariant.steady ∙ steady)) life (record { shown = old.memory; weak = old.weak }) in
    rw none
    (retry-fails c.in-Err.error (g.B.PowerCycle.draw life) c.self.inside.losses old.memory (g.B.SpiBus.chip c.in-Err.bus).memory (g.B.SpiBus.slows c.in-Some.bus) (g.B.SpiBus.slows c.in-Err.bus) c.args.self.now.facts c.stand.new.standing c.stand.result c.stand.new.losses was c.stand.ensures.stands c.stand.ensures.same c.stand.ensures.counts
    (λ is. (let x = c.in-Err.ensures.cut is in (x.0, x.1 ∙ ap contents_of read))) c.in-Err.ensures.slow c.in-Err.ensures.size).1
