use Rattle.std.proofs.lemmas.Result.{err_from_is_err_and}
use Rattle.std.proofs.Common.{◌∙◌, ◌≡◌, subst, arith}
use Rattle.erase_journal.specs.Steps.{RefusesFirmly}
use Rattle.nor_driver.proofs.CallLaws.{fails-as}
use Rattle.erase_journal.specs.Steps.{SucceedsSettled}
use Rattle.erase_journal.proofs.SettledLaws.{settled-after}
use Rattle.erase_journal.proofs.Firmly.{refuses-firmly}
use Rattle.sector_stock.specs.CopySteps.{CopyProgress}
use Rattle.sector_stock.proofs.Copying.{begin-cut, begin-keeps, begin-progress, copy-cut, copy-keeps, copy-progress}
use Rattle.nor_driver.specs.State.{bits_in}
use Rattle.sector_slots.specs.Losses.{begun, copied}
use Rattle.sector_stock.proofs.Losing.{loses-in}
use Rattle.sector_stock.proofs.CopyLosses.{copying-disk, progress-keeps}
use Rattle.sector_stock.proofs.copy.copy_all.Goals as goal

pub returns-in_err-begin-clause-cut : goal.returns-in_err-begin-clause-cut
returns-in_err-begin-clause-cut g c is h =
    let p = err_from_is_err_and c.from_residual.result c.from_residual.ensures.1 in
    begin-cut c.args.source c.args.target (g.S.SlotCalls.state c.args.slots.now).memory (g.S.SlotCalls.state c.begin.new.self).memory h (c.in_err-begin.ensures.cut_only (cc (p.1, p.2))) (c.in_err-begin.ensures.cut (cc (p.1, p.2)) h.spare.plain)

pub loop-place-init : goal.loop-place-init
loop-place-init g c = record {
  progress = λ h. begin-progress c.args.source c.args.target (g.S.SlotCalls.state c.args.slots.now).memory (g.S.SlotCalls.state c.begin.new.self).memory h c.in_ok-begin.ensures.only (c.in_ok-begin.ensures.ok h.spare.plain);
  size = c.in_ok-begin.ensures.only.only.chip.same_length;
  since = c.in_ok-begin.ensures.ends;
}

pub returns-in_err-copy-clause-cut : goal.returns-in_err-copy-clause-cut
returns-in_err-copy-clause-cut g c is h =
    let p = err_from_is_err_and c.from_residual-in_err-copy.result c.from_residual-in_err-copy.ensures.1 in
    copy-cut c.loop-place.place c.args.source c.args.target (g.S.SlotCalls.state c.args.slots.now).memory (g.S.SlotCalls.state c.loop-place.slots).memory (g.S.SlotCalls.state c.copy.new.self).memory
    c.loop-place-test.true (c.loop-place.invariant.progress h) (c.in_err-copy.ensures.cut_only (cc (p.1, p.2))) (c.in_err-copy.ensures.cut (cc (p.1, p.2)))

pub loop-place-preserved : goal.loop-place-preserved
loop-place-preserved g c = record {
  progress = λ h.
      let p = c.loop-place.invariant.progress h in
      copy-progress c.loop-place.place c.args.source c.args.target (g.S.SlotCalls.state c.args.slots.now).memory (g.S.SlotCalls.state c.loop-place.slots).memory (g.S.SlotCalls.state c.copy.new.self).memory
      c.loop-place-test.true p c.in_ok-copy.ensures.only
      (c.in_ok-copy.ensures.ok c.args.source p.copied.number p.copied.begun (p.copied.free c.loop-place.place c.loop-place-test.true (omega arith)))
      (λ i. c.in_ok-copy.ensures.fresh i);
  size = c.in_ok-copy.ensures.only.only.chip.same_length ∙ c.loop-place.invariant.size;
  since = settled-after (g.S.SlotCalls.state c.args.slots.now) (g.S.SlotCalls.state c.loop-place.slots) (g.S.SlotCalls.state c.copy.new.self) c.loop-place.invariant.since c.in_ok-copy.ensures.ends;
}

pub returns-clause-ok : goal.returns-clause-ok
returns-clause-ok g c h =
    let seven : c.loop-place.place ≡ 7 = omega (arith, c.loop-place-test.false, c.loop-place.auto.place-end) in
    subst (λ j. CopyProgress j c.args.source c.args.target (g.S.SlotCalls.state c.args.slots.now).memory (g.S.SlotCalls.state c.loop-place.slots).memory) seven (c.loop-place.invariant.progress h)

pub returns-in_err-begin-clause-cut_fresh : goal.returns-in_err-begin-clause-cut_fresh
returns-in_err-begin-clause-cut_fresh g c is h =
    let p = err_from_is_err_and c.from_residual.result c.from_residual.ensures.1 in
    begin-keeps c.args.source c.args.target (g.S.SlotCalls.state c.args.slots.now).memory (g.S.SlotCalls.state c.begin.new.self).memory h (c.in_err-begin.ensures.cut_only (cc (p.1, p.2))) (c.in_err-begin.ensures.cut (cc (p.1, p.2)) h.spare.plain)

pub returns-in_err-copy-clause-cut_fresh : goal.returns-in_err-copy-clause-cut_fresh
returns-in_err-copy-clause-cut_fresh g c is h =
    let p = err_from_is_err_and c.from_residual-in_err-copy.result c.from_residual-in_err-copy.ensures.1 in
    copy-keeps c.loop-place.place c.args.source c.args.target (g.S.SlotCalls.state c.args.slots.now).memory (g.S.SlotCalls.state c.loop-place.slots).memory (g.S.SlotCalls.state c.copy.new.self).memory
    c.loop-place-test.true (c.loop-place.invariant.progress h) (c.in_err-copy.ensures.cut_only (cc (p.1, p.2))) (c.in_err-copy.ensures.cut (cc (p.1, p.2)))

pub returns-in_err-copy-clause-ends : goal.returns-in_err-copy-clause-ends
returns-in_err-copy-clause-ends g c =
    let s0 = g.S.SlotCalls.state c.args.slots.now in
    let s1 = g.S.SlotCalls.state c.loop-place.slots in
    let s2 = g.S.SlotCalls.state c.copy.new.self in
    fails-as c.from_residual-in_err-copy.result _ (λ _. SucceedsSettled s0 s2) (λ e. RefusesFirmly e s0 s2) c.from_residual-in_err-copy.ensures.1
    (refuses-firmly _ s0 s1 s2 c.loop-place.invariant.since c.in_err-copy.ensures.ends)

pub returns-in_err-begin-clause-cut_bits : goal.returns-in_err-begin-clause-cut_bits
returns-in_err-begin-clause-cut_bits g c is suspects disk trusted h =
    let p = err_from_is_err_and c.from_residual.result c.from_residual.ensures.1 in
    loses-in (bits_in (g.S.SlotCalls.state c.args.slots.now)) suspects (bits_in (g.S.SlotCalls.state c.begin.new.self)) disk
    (begun c.args.target h.target h.rest h.spare trusted (c.in_err-begin.ensures.cut_bits (cc (p.1, p.2))))

pub returns-in_err-copy-clause-cut_bits : goal.returns-in_err-copy-clause-cut_bits
returns-in_err-copy-clause-cut_bits g c is suspects disk trusted h =
    let p = err_from_is_err_and c.from_residual-in_err-copy.result c.from_residual-in_err-copy.ensures.1 in
    let s0 = g.S.SlotCalls.state c.args.slots.now in
    let s1 = g.S.SlotCalls.state c.loop-place.slots in
    let so = c.loop-place.invariant.progress h in
    record {
      before = bits_in s1;
      suspect = suspects;
      disk = copying-disk c.loop-place.place c.args.source c.args.target s0 s1 suspects disk trusted h c.loop-place.invariant.since so;
      keeps = progress-keeps c.loop-place.place c.args.source c.args.target s0.memory s1.memory so;
      change = copied c.args.target c.loop-place.place c.loop-place-test.true so.copied.target so.copied.begun.void (c.in_err-copy.ensures.cut_only (cc (p.1, p.2))).only.chip.same_length (c.in_err-copy.ensures.cut_bits (cc (p.1, p.2)));
    }
