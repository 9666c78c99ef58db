use Rattle.erase_journal.specs.Steps.{RefusesFirmly}
use Rattle.nor_driver.proofs.CallLaws.{fails-as}
use Rattle.erase_journal.specs.Steps.{SucceedsSettled}
use Rattle.erase_journal.proofs.SettledLaws.{settled-after}
use Rattle.erase_journal.proofs.Firmly.{refuses-firmly}
use Rattle.sector_survey.proofs.pairs.are_unlike.Goals as goal

pub returns-in_err-kind-2-clause-ends : goal.returns-in_err-kind-2-clause-ends
returns-in_err-kind-2-clause-ends g c =
    let s0 = g.S.SlotCalls.state c.args.slots.now in
    let s1 = g.S.SlotCalls.state c.kind.new.self in
    let s2 = g.S.SlotCalls.state c.kind-2.new.self in
    fails-as c.from_residual-in_err-kind-2.result _ (λ _. SucceedsSettled s0 s2) (λ e. RefusesFirmly e s0 s2) c.from_residual-in_err-kind-2.ensures.1
    (refuses-firmly _ s0 s1 s2 c.in_ok-kind.ensures.ends c.in_err-kind-2.ensures.ends)

pub returns-clause-ends : goal.returns-clause-ends
returns-clause-ends g c =
    let s0 = g.S.SlotCalls.state c.args.slots.now in
    let s1 = g.S.SlotCalls.state c.kind.new.self in
    let s2 = g.S.SlotCalls.state c.kind-2.new.self in
    settled-after s0 s1 s2 c.in_ok-kind.ensures.ends c.in_ok-kind-2.ensures.ends
