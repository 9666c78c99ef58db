use Rattle.std.proofs.Common.{◌≡◌, ◌+◌, suc, ap, subst, arith, ◌∙◌}
use Rattle.sector_map.specs.Mending.{PairsSeen}
use Rattle.sector_map.proofs.Founds.{some-bool}
use Rattle.sector_map.proofs.Grouping.{Paired, paired-quiet, paired-two, pairs-all, absent-two, one-two}
use Rattle.erase_journal.specs.Steps.{RefusesFirmly, SucceedsSettled}
use Rattle.nor_driver.proofs.CallLaws.{fails-as, fails-of}
use Rattle.sector_map.proofs.Retiring.{refuses-perhaps}
use Rattle.sector_map.proofs.groups.has_pair.Goals as goal
use Rattle.sector_map.proofs.groups.has_pair.Goals.{in-Absent, in-One, in-Two+in_ok-here-in-Two+in-Some}

pub loop-sector-preserved : goal.loop-sector-preserved
loop-sector-preserved g c =
    let next : suc c.loop-sector.sector ≡ c.loop-sector.sector + 1 = omega arith in
    let m = (g.S.SlotCalls.state c.args.slots.now).memory in
    let before : Paired c.loop-sector.pair c.args.table.now c.loop-sector.sector (g.S.SlotCalls.state c.args.slots.now) (g.S.SlotCalls.state c.loop-sector.slots) =
    record { same = c.loop-sector.invariant.same; since = c.loop-sector.invariant.since; pairs = c.loop-sector.invariant.pairs; apart = c.loop-sector.invariant.apart } in
    let after : Paired c.match-table-sector.pair c.args.table.now (c.loop-sector.sector + 1) (g.S.SlotCalls.state c.args.slots.now) (g.S.SlotCalls.state c.match-table-sector.slots) =
    elim c.match-table-sector.branch as (λ _. Paired c.match-table-sector.pair c.args.table.now (c.loop-sector.sector + 1) (g.S.SlotCalls.state c.args.slots.now) (g.S.SlotCalls.state c.match-table-sector.slots)) [
      | in-Absent w ↦ paired-quiet c.loop-sector.pair c.match-table-sector.pair c.args.table.now c.loop-sector.sector (c.loop-sector.sector + 1) (g.S.SlotCalls.state c.args.slots.now) (g.S.SlotCalls.state c.loop-sector.slots) (g.S.SlotCalls.state c.match-table-sector.slots) next w.pair-is (ap (λ z. g.S.SlotCalls.state z) w.slots-is) (absent-two _ w.in-Absent.is) before
      | in-One w ↦ paired-quiet c.loop-sector.pair c.match-table-sector.pair c.args.table.now c.loop-sector.sector (c.loop-sector.sector + 1) (g.S.SlotCalls.state c.args.slots.now) (g.S.SlotCalls.state c.loop-sector.slots) (g.S.SlotCalls.state c.match-table-sector.slots) next w.pair-is (ap (λ z. g.S.SlotCalls.state z) w.slots-is) (one-two _ _ w.in-One.is) before
      | in-Two+in_ok-here-in-Two+in-Some w ↦ paired-two c.loop-sector.pair w.in-Some.here c.match-table-sector.pair c.args.table.now c.loop-sector.sector (c.loop-sector.sector + 1) w.in-Two.newer w.in-Two.older (g.S.SlotCalls.state c.args.slots.now) (g.S.SlotCalls.state c.loop-sector.slots) (g.S.SlotCalls.state w.are_of_groups.new.slots) (g.S.SlotCalls.state c.match-table-sector.slots) next (w.pair-is ∙ w.either-pair.ensures) (ap (λ z. g.S.SlotCalls.state z) w.slots-is) (omega (arith, c.loop-sector-test.true)) w.in-Two.is w.are_of_groups.ensures.same w.in_ok-here-in-Two.ensures.ends
          (w.in_ok-here-in-Two.ensures.alike w.in-Some.here w.in-Some.is) (w.in_ok-here-in-Two.ensures.both w.in-Some.here w.in-Some.is) before
    ] in
    record { same = after.same; since = after.since; pairs = after.pairs; apart = after.apart }

pub returns-clause-pair : goal.returns-clause-pair
returns-clause-pair g c pair e = subst (λ z. PairsSeen z c.args.table.now (g.S.SlotCalls.state c.args.slots.now).memory) (some-bool c.loop-sector.pair pair e)
    (pairs-all c.loop-sector.pair c.args.table.now (g.S.SlotCalls.state c.args.slots.now).memory c.loop-sector.sector (omega (arith, c.loop-sector-test.false, c.loop-sector.auto.sector-end)) c.loop-sector.invariant.pairs)

pub returns-clause-apart : goal.returns-clause-apart
returns-clause-apart g c pair e h p = (let low = p.number in c.loop-sector.invariant.apart h (omega (arith, low, c.loop-sector-test.false, c.loop-sector.auto.sector-end)) p)

pub returns-in_err-here-in-Two-clause-fails : goal.returns-in_err-here-in-Two-clause-fails
returns-in_err-here-in-Two-clause-fails g c =
    let s0 = g.S.SlotCalls.state c.args.slots.now in
    let s1 = g.S.SlotCalls.state c.loop-sector.slots in
    let s2 = g.S.SlotCalls.state c.are_of_groups.new.slots in
    fails-of c.from_residual.result (SucceedsSettled s0 s2) (λ e. RefusesFirmly e s0 s2) (fails-as c.from_residual.result _ (λ _. SucceedsSettled s0 s2) (λ e. RefusesFirmly e s0 s2) c.from_residual.ensures.1
    (refuses-perhaps _ s0 s1 s2 c.loop-sector.invariant.since c.in_err-here-in-Two.ensures.ends))
