use Rattle.std.proofs.lemmas.Result.{err_from_is_err_and}
use Rattle.erase_journal.specs.Steps.{RefusesFirmly}
use Rattle.nor_driver.proofs.CallLaws.{fails-as}
use Rattle.erase_journal.specs.Steps.{SucceedsSettled}
use Rattle.erase_journal.proofs.SettledLaws.{settled-healthy, settled-after}
use Rattle.erase_journal.proofs.Firmly.{refuses-firmly}
use Rattle.sector_stock.proofs.Copying.{clean-fresh, reclaim-done, reclaim-cut, reclaim-cut_fresh}
use Rattle.std.proofs.Common.{◌+◌, ◌∙◌, arith}
use Rattle.nor_driver.specs.State.{bits_in}
use Rattle.sector_stock.proofs.Losing.{loses-later}
use Rattle.sector_stock.proofs.CopyLosses.{copying-disk, progress-keeps, others-spare}
use Rattle.sector_stock.proofs.copy.reclaim_into.Goals as goal

pub returns-clause-ok : goal.returns-clause-ok
returns-clause-ok g c h =
    let p = c.in_ok-copy_all.ensures.ok h in
    reclaim-done c.args.source c.args.target (g.S.SlotCalls.state c.args.slots.now).memory (g.S.SlotCalls.state c.copy_all.new.slots).memory (g.S.SlotCalls.state c.finish.new.slots).memory h p (c.in_ok-finish.ensures.ok p.copied)

pub returns-in_err-finish-clause-cut : goal.returns-in_err-finish-clause-cut
returns-in_err-finish-clause-cut g c is healthy h =
    let q = err_from_is_err_and c.from_residual-in_err-finish.result c.from_residual-in_err-finish.ensures.1 in
    let p = c.in_ok-copy_all.ensures.ok h in
    reclaim-cut c.args.source c.args.target (g.S.SlotCalls.state c.args.slots.now).memory (g.S.SlotCalls.state c.copy_all.new.slots).memory (g.S.SlotCalls.state c.finish.new.slots).memory h p
    (c.in_err-finish.ensures.cut (cc (q.1, q.2)) p.copied)

pub returns-in_err-finish-clause-healthy : goal.returns-in_err-finish-clause-healthy
returns-in_err-finish-clause-healthy g c is healthy =
    let q = err_from_is_err_and c.from_residual-in_err-finish.result c.from_residual-in_err-finish.ensures.1 in
    c.in_err-finish.ensures.healthy (cc (q.1, q.2)) (settled-healthy (g.S.SlotCalls.state c.copy_all.new.slots).memory c.in_ok-copy_all.ensures.ends.settled)

pub returns-in_err-finish-clause-cut_fresh : goal.returns-in_err-finish-clause-cut_fresh
returns-in_err-finish-clause-cut_fresh g c is healthy h blank =
    let q = err_from_is_err_and c.from_residual-in_err-finish.result c.from_residual-in_err-finish.ensures.1 in
    let p = c.in_ok-copy_all.ensures.ok h in
    reclaim-cut_fresh c.args.source c.args.target (g.S.SlotCalls.state c.args.slots.now).memory (g.S.SlotCalls.state c.copy_all.new.slots).memory (g.S.SlotCalls.state c.finish.new.slots).memory p
    (c.in_err-finish.ensures.cut (cc (q.1, q.2)) p.copied) blank

pub returns-in_err-finish-clause-ends : goal.returns-in_err-finish-clause-ends
returns-in_err-finish-clause-ends g c =
    let s0 = g.S.SlotCalls.state c.args.slots.now in
    let s1 = g.S.SlotCalls.state c.copy_all.new.slots in
    let s2 = g.S.SlotCalls.state c.finish.new.slots in
    fails-as c.from_residual-in_err-finish.result _ (λ _. SucceedsSettled s0 s2) (λ e. RefusesFirmly e s0 s2) c.from_residual-in_err-finish.ensures.1
    (refuses-firmly _ s0 s1 s2 c.in_ok-copy_all.ensures.ends c.in_err-finish.ensures.ends)

pub returns-clause-ends : goal.returns-clause-ends
returns-clause-ends g c =
    let s0 = g.S.SlotCalls.state c.args.slots.now in
    let s1 = g.S.SlotCalls.state c.copy_all.new.slots in
    let s2 = g.S.SlotCalls.state c.finish.new.slots in
    settled-after s0 s1 s2 c.in_ok-copy_all.ensures.ends c.in_ok-finish.ensures.ends

pub returns-clause-others : goal.returns-clause-others
returns-clause-others g c h d low other away =
    let p = c.in_ok-copy_all.ensures.ok h in
    let one = p.only.chip.same_length in
    (c.in_ok-finish.ensures.ok p.copied).finished.blocks d (rw one low) other away ∙ p.only.others (d + 4) (omega arith) (omega (arith, low)) (λ e. away (omega (arith, e)))

pub returns-in_err-copy_all-clause-cut_bits : goal.returns-in_err-copy_all-clause-cut_bits
returns-in_err-copy_all-clause-cut_bits g c is suspects disk trusted h part =
    let p = err_from_is_err_and c.from_residual.result c.from_residual.ensures.1 in
    c.in_err-copy_all.ensures.cut_bits (cc (p.1, p.2)) suspects disk trusted h

pub returns-in_err-finish-clause-cut_bits : goal.returns-in_err-finish-clause-cut_bits
returns-in_err-finish-clause-cut_bits g c is suspects disk trusted h part =
    let q = err_from_is_err_and c.from_residual-in_err-finish.result c.from_residual-in_err-finish.ensures.1 in
    let s0 = g.S.SlotCalls.state c.args.slots.now in
    let s1 = g.S.SlotCalls.state c.copy_all.new.slots in
    let p = c.in_ok-copy_all.ensures.ok h in
    loses-later s0.memory s1.memory (bits_in (g.S.SlotCalls.state c.finish.new.slots)) (progress-keeps 7 c.args.source c.args.target s0.memory s1.memory p)
    (c.in_err-finish.ensures.cut_bits (cc (q.1, q.2)) suspects (copying-disk 7 c.args.source c.args.target s0 s1 suspects disk trusted h c.in_ok-copy_all.ensures.ends p) p.copied
    (p.exact (clean-fresh c.args.source c.args.target s0.memory h disk.clean)) (λ spare. part (others-spare c.args.target c.args.source s0.memory s1.memory p.only c.requires.source h.other spare)))
