use Rattle.erase_journal.specs.Steps.{RefusesFirmly, SucceedsSettled}
use Rattle.nor_driver.proofs.CallLaws.{fails-as}
use Rattle.erase_journal.proofs.Calls.{repeated-refuses}
use Rattle.sector_survey.proofs.table.read_slots.Goals as goal

pub returns-in_err-fault-clause-ends : goal.returns-in_err-fault-clause-ends
returns-in_err-fault-clause-ends g c =
    let s0 = g.S.SlotCalls.state c.args.slots.now in
    let s1 = g.S.SlotCalls.state c.loop-block.slots in
    let s2 = g.S.SlotCalls.state c.read_block.new.slots in
    fails-as c.from_residual.result _ (λ _. SucceedsSettled s0 s2) (λ e. RefusesFirmly e s0 s2) c.from_residual.ensures.1
    (repeated-refuses c.loop-block.block _ s0 s1 s2 c.loop-block.invariant.since c.in_err-fault.ensures.ends)
