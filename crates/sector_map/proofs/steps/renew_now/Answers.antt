use Rattle.std.proofs.Common.{◌≡◌, ◌-◌, ap, sym, subst, ◌∙◌, arith, inl, inr}
use Rattle.std.proofs.lemmas.Result.{err_from_is_err_and}
use Rattle.chip_model.specs.Geometry.{block_count}
use Rattle.erase_journal.specs.Steps.{SucceedsSettled}
use Rattle.erase_journal.proofs.SettledLaws.{settled-after}
use Rattle.erase_journal.proofs.Firmly.{refuses-firmly}
use Rattle.sector_slots.specs.Slots.{data_blocks}
use Rattle.sector_stock.specs.Index.{erases_of, AreWithin}
use Rattle.sector_stock.specs.Takes.{work_of}
use Rattle.sector_map.specs.Maps.{KeepsMap, KeptServing}
use Rattle.sector_map.proofs.MapCalls.{keeps-after, kept-after}
use Rattle.sector_map.proofs.Evening.{within-next}
use Rattle.erase_journal.specs.Steps.{RefusesFirmly}
use Rattle.nor_driver.proofs.CallLaws.{fails-as}
use Rattle.sector_map.proofs.KeepLosses.{keeps-fails, still-stays}
use Rattle.sector_map.proofs.steps.renew_now.Goals as goal

pub returns-in_err-renew_all-clause-cut : goal.returns-in_err-renew_all-clause-cut
returns-in_err-renew_all-clause-cut g c is =
    let p = err_from_is_err_and c.from_residual.result c.from_residual.ensures.1 in
    keeps-after (g.S.SlotCalls.state c.args.stock.now).memory (g.S.SlotCalls.state c.loop-round.stock).memory (g.S.SlotCalls.state c.renew_all.new.stock).memory c.loop-round.invariant.kept.keeps
    (subst (λ z. KeepsMap z.memory (g.S.SlotCalls.state c.renew_all.new.stock).memory) c.lagging.ensures.state (c.in_err-renew_all.ensures.cut (cc (p.1, p.2))))

pub loop-round-preserved : goal.loop-round-preserved
loop-round-preserved g c =
    let a = g.S.SlotCalls.state c.args.stock.now in
    let b = g.S.SlotCalls.state c.loop-round.stock in
    let d = g.S.SlotCalls.state c.renew_all.new.stock in
    let h = c.loop-round.invariant in
    let less = c.in_ok-renew_all.ensures.work in
    let before : work_of (g.S.SlotCalls.state c.lagging.new.self).memory ≡ work_of b.memory = ap (λ z. work_of z.memory) c.lagging.ensures.state in
    let work = h.work in
    record {
      kept = kept-after c.renew_all.new.table c.loop-round.table a b d (g.S.SlotCalls.indexed c.loop-round.stock) (g.S.SlotCalls.indexed c.renew_all.new.stock) h.kept
          (subst (λ z. KeptServing c.renew_all.new.table z d (g.S.SlotCalls.indexed c.renew_all.new.stock)) c.lagging.ensures.state c.in_ok-renew_all.ensures.ok);
      since = settled-after a b d h.since (subst (λ z. SucceedsSettled z d) c.lagging.ensures.state c.in_ok-renew_all.ensures.ends);
      even = inr (λ by.
          let first = sym c.lagging.ensures.policy ∙ (sym c.in_ok-renew_all.ensures.policy ∙ by) in
          let old : AreWithin (32 - c.loop-round._round) (data_blocks b.memory) (erases_of (g.S.Reclaim.counts c.loop-round.stock)) = elim h.even as (λ _. AreWithin (32 - c.loop-round._round) (data_blocks b.memory) (erases_of (g.S.Reclaim.counts c.loop-round.stock))) [
            | inl e ↦ subst (λ k. AreWithin (32 - k) (data_blocks b.memory) (erases_of (g.S.Reclaim.counts c.loop-round.stock))) (sym e) (c.lagging.ensures.even first)
            | inr k ↦ k first
          ] in
          within-next c.loop-round._round (data_blocks b.memory) (data_blocks (g.S.SlotCalls.state c.lagging.new.self).memory) (data_blocks d.memory) (erases_of (g.S.Reclaim.counts c.loop-round.stock)) (erases_of (g.S.Reclaim.counts c.lagging.new.self)) (erases_of (g.S.Reclaim.counts c.renew_all.new.stock)) (omega (arith, c.loop-round-test.true, c.loop-round.auto._round-end))
          (ap (λ z. data_blocks z.memory) c.lagging.ensures.state) (ap (λ k. block_count k - 4) c.renew_all.ensures.size) (λ x. ap (λ z. erases_of z x) c.lagging.ensures.counted) c.in_ok-renew_all.ensures.nearer old);
      work = omega (arith, less, before, work);
      table = c.renew_all.ensures.table ∙ h.table;
      firm = λ disk. c.in_ok-renew_all.ensures.firmly (still-stays b (g.S.SlotCalls.state c.lagging.new.self) (g.S.Reclaim.counts c.loop-round.stock) (g.S.Reclaim.counts c.lagging.new.self) c.lagging.ensures.state c.lagging.ensures.counted (h.firm disk));
    }

pub returns-in_err-renew_all-clause-ends : goal.returns-in_err-renew_all-clause-ends
returns-in_err-renew_all-clause-ends g c =
    let s0 = g.S.SlotCalls.state c.args.stock.now in
    let s1 = g.S.SlotCalls.state c.lagging.new.self in
    let s2 = g.S.SlotCalls.state c.renew_all.new.stock in
    fails-as c.from_residual.result _ (λ _. SucceedsSettled s0 s2) (λ e. RefusesFirmly e s0 s2) c.from_residual.ensures.1
    (refuses-firmly _ s0 s1 s2 (subst (λ z. SucceedsSettled s0 z) (sym c.lagging.ensures.state) c.loop-round.invariant.since) c.in_err-renew_all.ensures.ends)

pub returns-in_default-clause-firmly : goal.returns-in_default-clause-firmly
returns-in_default-clause-firmly g c h = still-stays (g.S.SlotCalls.state c.loop-round.stock) (g.S.SlotCalls.state c.lagging.new.self) (g.S.Reclaim.counts c.loop-round.stock) (g.S.Reclaim.counts c.lagging.new.self) c.lagging.ensures.state c.lagging.ensures.counted (c.loop-round.invariant.firm h)

pub returns-in_err-renew_all-clause-firmly : goal.returns-in_err-renew_all-clause-firmly
returns-in_err-renew_all-clause-firmly g c =
    let kept = c.loop-round.invariant.kept in
    keeps-fails c.from_residual.result _ (g.S.SlotCalls.state c.args.stock.now) (g.S.SlotCalls.state c.lagging.new.self) (g.S.SlotCalls.state c.renew_all.new.stock) (g.S.Reclaim.counts c.args.stock.now) (g.S.Reclaim.counts c.lagging.new.self) (g.S.Reclaim.counts c.renew_all.new.stock) c.from_residual.ensures.1
    (λ h. still-stays (g.S.SlotCalls.state c.loop-round.stock) (g.S.SlotCalls.state c.lagging.new.self) (g.S.Reclaim.counts c.loop-round.stock) (g.S.Reclaim.counts c.lagging.new.self) c.lagging.ensures.state c.lagging.ensures.counted (c.loop-round.invariant.firm h))
    (subst (λ z. KeepsMap (g.S.SlotCalls.state c.args.stock.now).memory z.memory) (sym c.lagging.ensures.state) kept.keeps) c.in_err-renew_all.ensures.firmly
