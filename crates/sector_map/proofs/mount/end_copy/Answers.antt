use Rattle.std.proofs.Common.{sym, subst}
use Rattle.std.proofs.lemmas.Result.{err_from_is_err_and}
use Rattle.erase_journal.specs.Journals.{IsHealthy}
use Rattle.erase_journal.proofs.SettledLaws.{settled-after}
use Rattle.erase_journal.proofs.Firmly.{refuses-firmly}
use Rattle.sector_slots.specs.Slots.{IsSpareIn}
use Rattle.sector_stock.specs.Copy.{KeepsSectors, EndsCopy, IsCommittedIn}
use Rattle.erase_journal.specs.Steps.{RefusesFirmly}
use Rattle.nor_driver.proofs.CallLaws.{fails-as}
use Rattle.erase_journal.specs.Steps.{SucceedsSettled}
use Rattle.sector_map.proofs.MountFirmly.{keeps-after, keeps-same, erased-keeps, committed-keeps, committed-apart, committed-source}
use Rattle.sector_map.proofs.mount.end_copy.Goals as goal

pub returns-in_err-end_erased-clause-cut : goal.returns-in_err-end_erased-clause-cut
returns-in_err-end_erased-clause-cut g c is healthy =
    let p = err_from_is_err_and c.from_residual-in_err-end_erased.result c.from_residual-in_err-end_erased.ensures.1 in
    subst (λ z. IsCommittedIn c.args.source c.args.target z → IsSpareIn z c.args.source → KeepsSectors z (g.S.SlotCalls.state c.end_erased.new.slots).memory) c.is_spare.ensures.same (c.in_err-end_erased.ensures.cut (cc (p.1, p.2)))
    c.requires.committed (c.in_ok-is_spare.ensures.spare (cc c.if-branch.true))

pub returns-in_err-end_committed-clause-cut : goal.returns-in_err-end_committed-clause-cut
returns-in_err-end_committed-clause-cut g c is healthy =
    let p = err_from_is_err_and c.from_residual-in_err-end_committed.result c.from_residual-in_err-end_committed.ensures.1 in
    subst (λ z. IsHealthy z → IsCommittedIn c.args.source c.args.target z → KeepsSectors z (g.S.SlotCalls.state c.end_committed.new.slots).memory) c.is_spare.ensures.same (c.in_err-end_committed.ensures.cut (cc (p.1, p.2)))
    healthy c.requires.committed

pub returns-in_ok-end_erased-clause-ok : goal.returns-in_ok-end_erased-clause-ok
returns-in_ok-end_erased-clause-ok g c =
    subst (λ z. IsCommittedIn c.args.source c.args.target z → IsSpareIn z c.args.source → EndsCopy z (g.S.SlotCalls.state c.end_erased.new.slots).memory) c.is_spare.ensures.same c.in_ok-end_erased.ensures.ok
    c.requires.committed (c.in_ok-is_spare.ensures.spare (cc c.if-branch.true))

pub returns-in_ok-end_committed-clause-ok : goal.returns-in_ok-end_committed-clause-ok
returns-in_ok-end_committed-clause-ok g c =
    subst (λ z. IsCommittedIn c.args.source c.args.target z → EndsCopy z (g.S.SlotCalls.state c.end_committed.new.slots).memory) c.is_spare.ensures.same c.in_ok-end_committed.ensures.ok
    c.requires.committed

pub end_committed-requires-clause-committed : goal.end_committed-requires-clause-committed
end_committed-requires-clause-committed g c ready =
    subst (λ z. IsCommittedIn c.args.source c.args.target z) (sym c.is_spare.ensures.same) c.requires.committed

pub returns-in_ok-end_erased-clause-ends : goal.returns-in_ok-end_erased-clause-ends
returns-in_ok-end_erased-clause-ends g c = settled-after (g.S.SlotCalls.state c.args.slots.now) (g.S.SlotCalls.state c.is_spare.new.slots) (g.S.SlotCalls.state c.end_erased.new.slots) c.in_ok-is_spare.ensures.ends c.in_ok-end_erased.ensures.ends

pub returns-in_err-end_erased-clause-ends : goal.returns-in_err-end_erased-clause-ends
returns-in_err-end_erased-clause-ends g c =
    let s0 = g.S.SlotCalls.state c.args.slots.now in
    let s1 = g.S.SlotCalls.state c.is_spare.new.slots in
    let s2 = g.S.SlotCalls.state c.end_erased.new.slots in
    fails-as c.from_residual-in_err-end_erased.result _ (λ _. SucceedsSettled s0 s2) (λ e. RefusesFirmly e s0 s2) c.from_residual-in_err-end_erased.ensures.1
    (refuses-firmly _ s0 s1 s2 c.in_ok-is_spare.ensures.ends c.in_err-end_erased.ensures.ends)

pub returns-in_err-end_committed-clause-ends : goal.returns-in_err-end_committed-clause-ends
returns-in_err-end_committed-clause-ends g c =
    let s0 = g.S.SlotCalls.state c.args.slots.now in
    let s1 = g.S.SlotCalls.state c.is_spare.new.slots in
    let s2 = g.S.SlotCalls.state c.end_committed.new.slots in
    fails-as c.from_residual-in_err-end_committed.result _ (λ _. SucceedsSettled s0 s2) (λ e. RefusesFirmly e s0 s2) c.from_residual-in_err-end_committed.ensures.1
    (refuses-firmly _ s0 s1 s2 c.in_ok-is_spare.ensures.ends c.in_err-end_committed.ensures.ends)

pub returns-in_ok-end_committed-clause-ends : goal.returns-in_ok-end_committed-clause-ends
returns-in_ok-end_committed-clause-ends g c =
    let s0 = g.S.SlotCalls.state c.args.slots.now in
    let s1 = g.S.SlotCalls.state c.is_spare.new.slots in
    let s2 = g.S.SlotCalls.state c.end_committed.new.slots in
    settled-after s0 s1 s2 c.in_ok-is_spare.ensures.ends c.in_ok-end_committed.ensures.ends

pub returns-in_ok-end_erased-clause-read : goal.returns-in_ok-end_erased-clause-read
returns-in_ok-end_erased-clause-read g c =
    let a = g.S.SlotCalls.state c.args.slots.now in
    let b = g.S.SlotCalls.state c.is_spare.new.slots in
    let d = g.S.SlotCalls.state c.end_erased.new.slots in
    let found = subst (λ z. IsCommittedIn c.args.source c.args.target z) (sym c.is_spare.ensures.same) c.requires.committed in
    let spare = subst (λ z. IsSpareIn z c.args.source) (sym c.is_spare.ensures.same) (c.in_ok-is_spare.ensures.spare (cc c.if-branch.true)) in
    let ends = c.in_ok-end_erased.ensures.ok found spare in
    keeps-after a b d (keeps-same a b c.in_ok-is_spare.ensures.ends.kept.bits c.is_spare.ensures.same)
    (erased-keeps b d c.args.source c.args.target c.in_ok-end_erased.ensures.ends.kept.bits found spare (c.in_ok-end_erased.ensures.alone found) c.in_ok-end_erased.ensures.settles ends.whole.chip.same_length ends.live)

pub returns-in_ok-end_committed-clause-read : goal.returns-in_ok-end_committed-clause-read
returns-in_ok-end_committed-clause-read g c =
    let a = g.S.SlotCalls.state c.args.slots.now in
    let b = g.S.SlotCalls.state c.is_spare.new.slots in
    let d = g.S.SlotCalls.state c.end_committed.new.slots in
    let found = subst (λ z. IsCommittedIn c.args.source c.args.target z) (sym c.is_spare.ensures.same) c.requires.committed in
    let e = c.in_ok-end_committed.ensures in
    keeps-after a b d (keeps-same a b c.in_ok-is_spare.ensures.ends.kept.bits c.is_spare.ensures.same)
    (committed-keeps b d c.args.source c.args.target e.ends.kept.bits (committed-source c.args.source c.args.target b.memory found) found (e.exact found) (e.settles (committed-apart c.args.source c.args.target b.memory found)) e.firm (e.ok found).live)

pub returns-in_err-end_erased-clause-healthy : goal.returns-in_err-end_erased-clause-healthy
returns-in_err-end_erased-clause-healthy g c is healthy =
    let p = err_from_is_err_and c.from_residual-in_err-end_erased.result c.from_residual-in_err-end_erased.ensures.1 in
    c.in_err-end_erased.ensures.healthy (cc (p.1, p.2)) (subst (λ z. IsHealthy z) (sym c.is_spare.ensures.same) healthy)

pub returns-in_err-end_committed-clause-healthy : goal.returns-in_err-end_committed-clause-healthy
returns-in_err-end_committed-clause-healthy g c is healthy =
    let p = err_from_is_err_and c.from_residual-in_err-end_committed.result c.from_residual-in_err-end_committed.ensures.1 in
    c.in_err-end_committed.ensures.healthy (cc (p.1, p.2)) (subst (λ z. IsHealthy z) (sym c.is_spare.ensures.same) healthy)
