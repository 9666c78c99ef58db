use Rattle.std.proofs.Common.{◌≡◌, ◌-◌, ap, sym, subst, ◌∙◌}
use Rattle.chip_model.specs.Geometry.{block_count}
use Rattle.sector_slots.specs.Slots.{data_blocks}
use Rattle.sector_stock.specs.Index.{erases_of}
use Rattle.sector_stock.specs.Takes.{IsErasedOnce}
use Rattle.sector_map.specs.Maps.{IsEven}
use Rattle.sector_map.proofs.Evening.{ok-both, even-renewed}
use Rattle.sector_map.proofs.KeepLosses.{firmly-from, still-stays}
use Rattle.sector_map.proofs.steps.renew_soon.Goals as goal

pub returns-in-Some-clause-even : goal.returns-in-Some-clause-even
returns-in-Some-clause-even g c =
    let n = data_blocks (g.S.SlotCalls.state c.args.stock.now).memory in
    let before = data_blocks (g.S.SlotCalls.state c.lagging.new.self).memory in
    let after = data_blocks (g.S.SlotCalls.state c.renew_one.new.stock).memory in
    let old = erases_of (g.S.Reclaim.counts c.args.stock.now) in
    let new = erases_of (g.S.Reclaim.counts c.renew_one.new.stock) in
    let e : before ≡ n = ap (λ z. data_blocks z.memory) c.lagging.ensures.state in
    let size : after ≡ before = ap (λ k. block_count k - 4) c.renew_one.ensures.size in
    ok-both c.renew_one.result (IsErasedOnce before c.in-Some.block (erases_of (g.S.Reclaim.counts c.lagging.new.self)) new) (g.S.Reclaim.policy c.renew_one.new.stock ≡ g.S.Reclaim.policy c.lagging.new.self) (IsEven 29 (g.S.Reclaim.policy c.renew_one.new.stock) after (g.S.Reclaim.counts c.renew_one.new.stock))
    (λ once same by.
    even-renewed 28 c.in-Some.block n after old new (size ∙ e) c.in-Some.ensures.least
    (subst (λ k. IsErasedOnce k c.in-Some.block old new) e (subst (λ b. IsErasedOnce before c.in-Some.block (erases_of b) new) c.lagging.ensures.counted once))
    (c.requires.even (sym (same ∙ c.lagging.ensures.policy) ∙ by)))
    c.renew_one.ensures.counted c.renew_one.ensures.policy

pub returns-in-Some-clause-firmly : goal.returns-in-Some-clause-firmly
returns-in-Some-clause-firmly g c = firmly-from c.renew_one.result (g.S.SlotCalls.state c.args.stock.now) (g.S.SlotCalls.state c.lagging.new.self) (g.S.SlotCalls.state c.renew_one.new.stock) (g.S.Reclaim.counts c.args.stock.now) (g.S.Reclaim.counts c.lagging.new.self) (g.S.Reclaim.counts c.renew_one.new.stock) c.lagging.ensures.state c.lagging.ensures.counted c.renew_one.ensures.firmly

pub returns-in-None-clause-firmly : goal.returns-in-None-clause-firmly
returns-in-None-clause-firmly g c h = still-stays (g.S.SlotCalls.state c.args.stock.now) (g.S.SlotCalls.state c.lagging.new.self) (g.S.Reclaim.counts c.args.stock.now) (g.S.Reclaim.counts c.lagging.new.self) c.lagging.ensures.state c.lagging.ensures.counted h
