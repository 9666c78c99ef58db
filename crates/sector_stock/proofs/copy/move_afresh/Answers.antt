use Rattle.nor_driver.specs.State.{bits_in}
use Rattle.erase_journal.proofs.WeakLaws.{are-firm-stays}
use Rattle.sector_slots.specs.Weak.{block_place}
use Rattle.std.proofs.lemmas.Result.{err_from_is_err_and}
use Rattle.erase_journal.specs.Steps.{RefusesFirmly}
use Rattle.nor_driver.proofs.CallLaws.{fails-as}
use Rattle.erase_journal.specs.Steps.{SucceedsSettled}
use Rattle.erase_journal.proofs.SettledLaws.{settled-healthy, settled-after}
use Rattle.erase_journal.proofs.Firmly.{refuses-firmly}
use Rattle.sector_stock.proofs.Renewing.{spare-erasable, spare-cut_keeps, spare-keeps, spare-copyable, moves-afresh, afresh-cut}
use Rattle.std.proofs.Common.{◌+◌, ◌∙◌, arith}
use Rattle.sector_slots.specs.Losses.{erased}
use Rattle.sector_slots.proofs.ChipBlocks.{rest-sources}
use Rattle.sector_stock.proofs.Losing.{loses-in, loses-later}
use Rattle.sector_stock.proofs.CopyLosses.{target-disk, trusting, trusting-it, others-spare}
use Rattle.sector_stock.proofs.copy.move_afresh.Goals as goal

pub erase-requires-clause-dead : goal.erase-requires-clause-dead
erase-requires-clause-dead g c ready =
    let h = c.requires.copyable ready in
    spare-erasable c.args.target (g.S.SlotCalls.state c.args.slots.now).memory h.rest h.target h.spare

pub returns-in_err-erase-clause-cut : goal.returns-in_err-erase-clause-cut
returns-in_err-erase-clause-cut g c is healthy h =
    let p = err_from_is_err_and c.from_residual.result c.from_residual.ensures.1 in
    spare-cut_keeps c.args.target (g.S.SlotCalls.state c.args.slots.now).memory (g.S.SlotCalls.state c.erase.new.self).memory h.target h.spare (c.in_err-erase.ensures.cut (cc (p.1, p.2)) healthy)

pub reclaim_into-requires-clause-copyable : goal.reclaim_into-requires-clause-copyable
reclaim_into-requires-clause-copyable g c ready =
    let h = c.requires.copyable c.in_ok-erase.ensures.ends.ready in
    spare-copyable c.args.source c.args.target (g.S.SlotCalls.state c.args.slots.now).memory (g.S.SlotCalls.state c.erase.new.self).memory h c.in_ok-erase.ensures.ok

pub returns-in_err-reclaim_into-clause-cut : goal.returns-in_err-reclaim_into-clause-cut
returns-in_err-reclaim_into-clause-cut g c is healthy h =
    let p = err_from_is_err_and c.from_residual-in_err-reclaim_into.result c.from_residual-in_err-reclaim_into.ensures.1 in
    let m = (g.S.SlotCalls.state c.args.slots.now).memory in
    let m1 = (g.S.SlotCalls.state c.erase.new.self).memory in
    let w = c.in_ok-erase.ensures.ok in
    afresh-cut c.args.source c.args.target m m1 (g.S.SlotCalls.state c.reclaim_into.new.slots).memory h w
    (c.in_err-reclaim_into.ensures.cut_fresh (cc (p.1, p.2)) (settled-healthy m1 c.in_ok-erase.ensures.ends.settled) (spare-copyable c.args.source c.args.target m m1 h w))

pub returns-clause-ok : goal.returns-clause-ok
returns-clause-ok g c h =
    let m = (g.S.SlotCalls.state c.args.slots.now).memory in
    let m1 = (g.S.SlotCalls.state c.erase.new.self).memory in
    let w = c.in_ok-erase.ensures.ok in
    moves-afresh c.args.source c.args.target m m1 (g.S.SlotCalls.state c.reclaim_into.new.slots).memory h w (c.in_ok-reclaim_into.ensures.ok (spare-copyable c.args.source c.args.target m m1 h w))

pub returns-clause-ends : goal.returns-clause-ends
returns-clause-ends g c = settled-after (g.S.SlotCalls.state c.args.slots.now) (g.S.SlotCalls.state c.erase.new.self) (g.S.SlotCalls.state c.reclaim_into.new.slots) c.in_ok-erase.ensures.ends c.in_ok-reclaim_into.ensures.ends

pub returns-in_err-reclaim_into-clause-ends : goal.returns-in_err-reclaim_into-clause-ends
returns-in_err-reclaim_into-clause-ends g c =
    let s0 = g.S.SlotCalls.state c.args.slots.now in
    let s1 = g.S.SlotCalls.state c.erase.new.self in
    let s2 = g.S.SlotCalls.state c.reclaim_into.new.slots in
    fails-as c.from_residual-in_err-reclaim_into.result _ (λ _. SucceedsSettled s0 s2) (λ e. RefusesFirmly e s0 s2) c.from_residual-in_err-reclaim_into.ensures.1
    (refuses-firmly _ s0 s1 s2 c.in_ok-erase.ensures.ends c.in_err-reclaim_into.ensures.ends)

pub returns-clause-target : goal.returns-clause-target
returns-clause-target g c = are-firm-stays (bits_in (g.S.SlotCalls.state c.erase.new.self)) (bits_in (g.S.SlotCalls.state c.reclaim_into.new.slots)) (block_place c.args.target) 4096 c.in_ok-reclaim_into.ensures.ends.kept.bits c.in_ok-erase.ensures.firm

pub returns-in_err-reclaim_into-clause-healthy : goal.returns-in_err-reclaim_into-clause-healthy
returns-in_err-reclaim_into-clause-healthy g c is healthy =
    let p = err_from_is_err_and c.from_residual-in_err-reclaim_into.result c.from_residual-in_err-reclaim_into.ensures.1 in
    c.in_err-reclaim_into.ensures.healthy (cc (p.1, p.2)) (settled-healthy _ c.in_ok-erase.ensures.ends.settled)

pub returns-clause-others : goal.returns-clause-others
returns-clause-others g c h d low other away =
    let m = (g.S.SlotCalls.state c.args.slots.now).memory in
    let m1 = (g.S.SlotCalls.state c.erase.new.self).memory in
    let one = c.in_ok-erase.ensures.ok.only.chip.same_length in
    let found = spare-copyable c.args.source c.args.target m m1 h c.in_ok-erase.ensures.ok in
    c.in_ok-reclaim_into.ensures.others found d (rw one low) other away ∙ c.in_ok-erase.ensures.ok.only.others (d + 4) (omega arith) (omega (arith, low)) (λ e. away (omega (arith, e)))

pub returns-in_err-erase-clause-cut_bits : goal.returns-in_err-erase-clause-cut_bits
returns-in_err-erase-clause-cut_bits g c is suspects disk h part =
    let p = err_from_is_err_and c.from_residual.result c.from_residual.ensures.1 in
    loses-in (bits_in (g.S.SlotCalls.state c.args.slots.now)) suspects (bits_in (g.S.SlotCalls.state c.erase.new.self)) disk
    (erased c.args.target h.target (spare-erasable c.args.target (g.S.SlotCalls.state c.args.slots.now).memory h.rest h.target h.spare) (rest-sources (g.S.SlotCalls.state c.args.slots.now).memory h.rest) c.in_err-erase.ensures.size c.in_err-erase.ensures.beside
    (c.in_err-erase.ensures.cut_bits (cc (p.1, p.2)) disk.settled disk.journals) (c.in_err-erase.ensures.opens (cc (p.1, p.2)) disk.settled disk.journals))

pub returns-in_err-reclaim_into-clause-cut_bits : goal.returns-in_err-reclaim_into-clause-cut_bits
returns-in_err-reclaim_into-clause-cut_bits g c is suspects disk h part =
    let p = err_from_is_err_and c.from_residual-in_err-reclaim_into.result c.from_residual-in_err-reclaim_into.ensures.1 in
    let s0 = g.S.SlotCalls.state c.args.slots.now in
    let s1 = g.S.SlotCalls.state c.erase.new.self in
    let w = c.in_ok-erase.ensures.ok in
    loses-later s0.memory s1.memory (bits_in (g.S.SlotCalls.state c.reclaim_into.new.slots)) (spare-keeps c.args.target s0.memory s1.memory h.target h.spare w)
    (c.in_err-reclaim_into.ensures.cut_bits (cc (p.1, p.2)) (trusting suspects c.args.target) (target-disk c.args.source c.args.target s0 s1 suspects disk c.in_ok-erase.ensures.ends h w c.in_ok-erase.ensures.firm)
    (trusting-it suspects c.args.target) (spare-copyable c.args.source c.args.target s0.memory s1.memory h w) (λ spare. part (others-spare c.args.target c.args.source s0.memory s1.memory w.only h.source h.other spare)))
