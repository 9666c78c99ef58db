use Rattle.std.proofs.Common.{◌≡◌, ◌+◌, suc, ap, arith}
use Rattle.sector_map.proofs.Grouping.{absent-two, one-two}
use Rattle.sector_survey.proofs.Faults.{Unmixed, unmixed-quiet, unmixed-two}
use Rattle.erase_journal.specs.Steps.{RefusesFirmly, SucceedsSettled}
use Rattle.nor_driver.proofs.CallLaws.{fails-as, fails-of}
use Rattle.sector_map.proofs.Retiring.{refuses-perhaps}
use Rattle.sector_survey.proofs.pairs.find_mixed.Goals as goal
use Rattle.sector_survey.proofs.pairs.find_mixed.Goals.{in-Absent, in-One, in-Two+in_ok-are_unlike-in-Two+else-branch}

pub loop-sector-preserved : goal.loop-sector-preserved
loop-sector-preserved g c =
    let next : suc c.loop-sector.sector ≡ c.loop-sector.sector + 1 = omega arith in
    let a = g.S.SlotCalls.state c.args.slots.now in
    let b = g.S.SlotCalls.state c.loop-sector.slots in
    let before : Unmixed c.args.table.now c.loop-sector.sector a b = record { same = c.loop-sector.invariant.same; since = c.loop-sector.invariant.since; apart = c.loop-sector.invariant.apart } in
    let after : Unmixed c.args.table.now (c.loop-sector.sector + 1) a (g.S.SlotCalls.state c.match-table-sector.slots) =
    elim c.match-table-sector.branch as (λ _. Unmixed c.args.table.now (c.loop-sector.sector + 1) a (g.S.SlotCalls.state c.match-table-sector.slots)) [
      | in-Absent w ↦ unmixed-quiet c.args.table.now c.loop-sector.sector (c.loop-sector.sector + 1) a b (g.S.SlotCalls.state c.match-table-sector.slots) next (ap (λ z. g.S.SlotCalls.state z) w.slots-is) (absent-two _ w.in-Absent.is) before
      | in-One w ↦ unmixed-quiet c.args.table.now c.loop-sector.sector (c.loop-sector.sector + 1) a b (g.S.SlotCalls.state c.match-table-sector.slots) next (ap (λ z. g.S.SlotCalls.state z) w.slots-is) (one-two _ _ w.in-One.is) before
      | in-Two+in_ok-are_unlike-in-Two+else-branch w ↦ unmixed-two c.args.table.now c.loop-sector.sector (c.loop-sector.sector + 1) w.in-Two.newer w.in-Two.older a b (g.S.SlotCalls.state w.are_unlike.new.slots) (g.S.SlotCalls.state c.match-table-sector.slots) next (ap (λ z. g.S.SlotCalls.state z) w.slots-is) w.in-Two.is w.are_unlike.ensures.same w.in_ok-are_unlike-in-Two.ensures.ends
          (w.in_ok-are_unlike-in-Two.ensures.alike (cc w.if-branch.false)) before
    ] in
    record { same = after.same; since = after.since; apart = after.apart }

pub returns-clause-apart : goal.returns-clause-apart
returns-clause-apart g c none h p = (let low = p.number in c.loop-sector.invariant.apart h (omega (arith, low, c.loop-sector-test.false, c.loop-sector.auto.sector-end)) p)

pub returns-in_err-are_unlike-in-Two-clause-fails :
    goal.returns-in_err-are_unlike-in-Two-clause-fails
returns-in_err-are_unlike-in-Two-clause-fails g c =
    let s0 = g.S.SlotCalls.state c.args.slots.now in
    let s1 = g.S.SlotCalls.state c.loop-sector.slots in
    let s2 = g.S.SlotCalls.state c.are_unlike.new.slots in
    fails-of c.from_residual.result (SucceedsSettled s0 s2) (λ e. RefusesFirmly e s0 s2) (fails-as c.from_residual.result _ (λ _. SucceedsSettled s0 s2) (λ e. RefusesFirmly e s0 s2) c.from_residual.ensures.1
    (refuses-perhaps _ s0 s1 s2 c.loop-sector.invariant.since c.in_err-are_unlike-in-Two.ensures.ends))
