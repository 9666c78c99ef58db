use Rattle.std.proofs.Common.{length, ◌≡◌, ◌∙◌, Err, refl, sym, ap}
use Rattle.flash_disk.specs.Contents.{contents_of}
use Rattle.restored_disk.specs.Lives.{Lived, on_chip}
use Rattle.restored_disk.proofs.Lives.{first-after, if-none, keeps-any, lost-goes, lost-keeps, lost-size, lost-stands, reads-at, told-after}
use Rattle.restored_disk.proofs.life.LifeDiskDisk.read.Goals as goal

pub invariant_of-self-in-Err : goal.invariant_of-self-in-Err
invariant_of-self-in-Err g c =
    let d = c.in-Some-disk.disk in
    let e = c.read.new.self in
    let known = g.P.Provenance.sound in
    let firm = g.P.Provenance.firm in
    let life = length c.self.inside.ended.items in
    let draw = g.B.PowerCycle.draw life in
    let n = c.self.inside.losses in
    let p = on_chip known d.checked d.doubtful d.lazy d.map d.cut in
    let q = on_chip known e.checked e.doubtful e.lazy e.map e.cut in
    let s = rw c.in-Some-disk.is at (rw c.in_default.is at c.self.invariant.stands) in
    let here = rw c.in-Some-disk.is at c.self.invariant.here in
    record {
      here = here;
      served = c.self.invariant.served;
      steady = c.self.invariant.steady;
      cuts = c.self.invariant.cuts;
      size = lost-size c.in-Err.error draw p q c.stand.new.standing c.stand.new.losses _ c.stand.ensures.stands refl refl c.in-Err.ensures.goes (rw c.in-Some-disk.is at (rw c.in_default.is at c.self.invariant.size));
      stands = lost-stands (Unit {0}) c.in-Err.error firm g.P.Provenance.slows p q (λ l. l ≡ contents_of d.map.memory) c.stand.new.standing c.stand.ensures.stands s refl c.in-Err.ensures.sound c.in-Err.ensures.latches c.in-Err.ensures.counts (λ cut is. c.in-Err.ensures.firmly is (s.3 ∙ sym c.self.invariant.cuts) s.4 cut s.2 s.1);
      waits = if-none c.self.inside.bus _ here;
      ended = c.self.invariant.ended;
      first = λ none. (refl, first-after c.in-Err.error c.stand.new.standing n c.stand.new.losses c.stand.ensures.stands c.stand.ensures.counts ((rw c.in_default.is at (c.self.invariant.first none)).1 refl));
      told = λ is here. told-after c.in-Err.error n life c.stand.new.losses c.stand.new.standing c.stand.ensures.stands c.stand.ensures.counts ((rw c.in-Some-disk.is at (rw c.in_default.is at c.self.invariant.told)) is refl);
    }

pub returns-in-Err-clause-contents : goal.returns-in-Err-clause-contents
returns-in-Err-clause-contents g c sound =
    let d = c.in-Some-disk.disk in
    let e = c.read.new.self in
    let known = g.P.Provenance.sound in
    let firm = g.P.Provenance.firm in
    let life = length c.self.inside.ended.items in
    let draw = g.B.PowerCycle.draw life in
    let n = c.self.inside.losses in
    let p = on_chip known d.checked d.doubtful d.lazy d.map d.cut in
    let q = on_chip known e.checked e.doubtful e.lazy e.map e.cut in
    let s = rw c.in-Some-disk.is at (rw c.in_default.is at c.self.invariant.stands) in
    let was = ap (λ (x : Lived). x.facts) (rw c.in-Some-disk.is at (rw c.in_default.is at c.self.view_is)) in
    lost-keeps (Unit {0}) c.in-Err.error firm draw n p q c.args.self.now.facts c.stand.new.standing c.stand.result c.stand.new.losses was c.stand.ensures.stands c.stand.ensures.same refl refl refl (reads-at firm g.B.PowerCycle.draw life c.self.invariant.served) (keeps-any (Unit {0}) (Err c.in-Err.error) p.facts.contents q.facts.contents c.in-Err.ensures.contents) (λ cut is. c.in-Err.ensures.firmly is (s.3 ∙ sym c.self.invariant.cuts) s.4 cut s.2 s.1)

pub returns-in-Err-clause-goes : goal.returns-in-Err-clause-goes
returns-in-Err-clause-goes g c =
    let d = c.in-Some-disk.disk in
    let e = c.read.new.self in
    let known = g.P.Provenance.sound in
    let life = length c.self.inside.ended.items in
    let draw = g.B.PowerCycle.draw life in
    let n = c.self.inside.losses in
    let p = on_chip known d.checked d.doubtful d.lazy d.map d.cut in
    let q = on_chip known e.checked e.doubtful e.lazy e.map e.cut in
    let was = ap (λ (x : Lived). x.facts) (rw c.in-Some-disk.is at (rw c.in_default.is at c.self.view_is)) in
    lost-goes c.in-Err.error draw n p q c.args.self.now.facts c.stand.new.standing c.stand.new.losses was c.stand.ensures.stands c.stand.ensures.counts refl refl refl c.in-Err.ensures.goes
