use Rattle.std.proofs.lemmas.Result.{err_from_is_err_and}
use Rattle.erase_journal.specs.Steps.{RefusesFirmly}
use Rattle.nor_driver.proofs.CallLaws.{fails-as}
use Rattle.erase_journal.specs.Steps.{SucceedsSettled}
use Rattle.erase_journal.proofs.SettledLaws.{settled-healthy, settled-after}
use Rattle.erase_journal.proofs.Firmly.{refuses-firmly}
use Rattle.sector_stock.proofs.Copying.{commit-cut, commit-done, commit-keeps, finish-cut, finish-done}
use Rattle.nor_driver.specs.State.{bits_in}
use Rattle.sector_slots.specs.Losses.{committed}
use Rattle.sector_stock.proofs.Losing.{loses-in, loses-later}
use Rattle.sector_stock.proofs.CopyLosses.{committed-disk, committed-sources}
use Rattle.sector_stock.proofs.copy.finish.Goals as goal

pub returns-in_err-commit-clause-cut : goal.returns-in_err-commit-clause-cut
returns-in_err-commit-clause-cut g c is h =
    let p = err_from_is_err_and c.from_residual.result c.from_residual.ensures.1 in
    commit-cut c.args.source c.args.target (g.S.SlotCalls.state c.args.slots.now).memory (g.S.SlotCalls.state c.commit.new.self).memory h (c.in_err-commit.ensures.cut_only (cc (p.1, p.2))) (c.in_err-commit.ensures.cut (cc (p.1, p.2)) c.args.source h.begun)

pub end_committed-requires-clause-committed : goal.end_committed-requires-clause-committed
end_committed-requires-clause-committed g c ready =
    let h = c.requires.copied c.in_ok-commit.ensures.ends.ready in
    commit-done c.args.source c.args.target (g.S.SlotCalls.state c.args.slots.now).memory (g.S.SlotCalls.state c.commit.new.self).memory h c.in_ok-commit.ensures.only (c.in_ok-commit.ensures.ok c.args.source h.begun)

pub returns-in_err-end_committed-clause-cut : goal.returns-in_err-end_committed-clause-cut
returns-in_err-end_committed-clause-cut g c is h =
    let p = err_from_is_err_and c.from_residual-in_err-end_committed.result c.from_residual-in_err-end_committed.ensures.1 in
    let m = (g.S.SlotCalls.state c.args.slots.now).memory in
    let m1 = (g.S.SlotCalls.state c.commit.new.self).memory in
    let now = c.in_ok-commit.ensures.ok c.args.source h.begun in
    finish-cut c.args.source c.args.target m m1 (g.S.SlotCalls.state c.end_committed.new.slots).memory h c.in_ok-commit.ensures.only now
    (c.in_err-end_committed.ensures.cut (cc (p.1, p.2)) (settled-healthy m1 c.in_ok-commit.ensures.ends.settled) (commit-done c.args.source c.args.target m m1 h c.in_ok-commit.ensures.only now))

pub returns-clause-ok : goal.returns-clause-ok
returns-clause-ok g c h =
    let m = (g.S.SlotCalls.state c.args.slots.now).memory in
    let m1 = (g.S.SlotCalls.state c.commit.new.self).memory in
    let now = c.in_ok-commit.ensures.ok c.args.source h.begun in
    let found = commit-done c.args.source c.args.target m m1 h c.in_ok-commit.ensures.only now in
    finish-done c.args.source c.args.target m m1 (g.S.SlotCalls.state c.end_committed.new.slots).memory h c.in_ok-commit.ensures.only now (c.in_ok-end_committed.ensures.ok found) (c.in_ok-end_committed.ensures.exact found)

pub returns-in_err-end_committed-clause-ends : goal.returns-in_err-end_committed-clause-ends
returns-in_err-end_committed-clause-ends g c =
    let s0 = g.S.SlotCalls.state c.args.slots.now in
    let s1 = g.S.SlotCalls.state c.commit.new.self in
    let s2 = g.S.SlotCalls.state c.end_committed.new.slots in
    fails-as c.from_residual-in_err-end_committed.result _ (λ _. SucceedsSettled s0 s2) (λ e. RefusesFirmly e s0 s2) c.from_residual-in_err-end_committed.ensures.1
    (refuses-firmly _ s0 s1 s2 c.in_ok-commit.ensures.ends c.in_err-end_committed.ensures.ends)

pub returns-clause-ends : goal.returns-clause-ends
returns-clause-ends g c =
    let s0 = g.S.SlotCalls.state c.args.slots.now in
    let s1 = g.S.SlotCalls.state c.commit.new.self in
    let s2 = g.S.SlotCalls.state c.end_committed.new.slots in
    settled-after s0 s1 s2 c.in_ok-commit.ensures.ends c.in_ok-end_committed.ensures.ends

pub returns-in_err-commit-clause-cut_bits : goal.returns-in_err-commit-clause-cut_bits
returns-in_err-commit-clause-cut_bits g c is suspects disk h x part =
    let p = err_from_is_err_and c.from_residual.result c.from_residual.ensures.1 in
    loses-in (bits_in (g.S.SlotCalls.state c.args.slots.now)) suspects (bits_in (g.S.SlotCalls.state c.commit.new.self)) disk
    (committed c.args.source c.args.target h.number h.other h.target h.begun x.copied x.unwritten (λ spare. absurd (part spare)) h.single (c.in_err-commit.ensures.cut_bits (cc (p.1, p.2))))

pub returns-in_err-end_committed-clause-cut_bits : goal.returns-in_err-end_committed-clause-cut_bits
returns-in_err-end_committed-clause-cut_bits g c is suspects disk h x part =
    let p = err_from_is_err_and c.from_residual-in_err-end_committed.result c.from_residual-in_err-end_committed.ensures.1 in
    let s0 = g.S.SlotCalls.state c.args.slots.now in
    let s1 = g.S.SlotCalls.state c.commit.new.self in
    let mark = c.in_ok-commit.ensures.only in
    let now = c.in_ok-commit.ensures.ok c.args.source h.begun in
    loses-later s0.memory s1.memory (bits_in (g.S.SlotCalls.state c.end_committed.new.slots)) (commit-keeps c.args.source c.args.target s0.memory s1.memory h mark now x)
    (c.in_err-end_committed.ensures.cut_bits (cc (p.1, p.2)) suspects (committed-disk c.args.source c.args.target s0 s1 suspects disk c.in_ok-commit.ensures.ends h x part mark now)
    (commit-done c.args.source c.args.target s0.memory s1.memory h mark now) (committed-sources c.args.source c.args.target s0.memory s1.memory h mark now))
