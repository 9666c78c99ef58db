use Rattle.std.proofs.Common.{◌+◌}
use Rattle.std.proofs.lemmas.Result.{err_from_is_err_and}
use Rattle.erase_journal.specs.Steps.{RefusesFirmly}
use Rattle.nor_driver.proofs.CallLaws.{fails-as}
use Rattle.erase_journal.specs.Steps.{SucceedsSettled}
use Rattle.erase_journal.proofs.SettledLaws.{settled-after}
use Rattle.erase_journal.proofs.Firmly.{refuses-firmly}
use Rattle.sector_stock.proofs.Copying.{source-erasable, committed-found, erase-cut, erase-done, settle-cut, committed-ends, ended-whole}
use Rattle.erase_journal.proofs.SettledLaws.{settled-healthy}
use Rattle.nor_driver.specs.State.{bits_in}
use Rattle.erase_journal.proofs.WeakLaws.{are-firm-stays}
use Rattle.sector_slots.specs.Weak.{block_place}
use Rattle.std.proofs.Common.{◌*◌, ◌∙◌, ap, arith}
use Rattle.chip_model.specs.Memory.{byte}
use Rattle.sector_slots.specs.Losses.{erased, settled}
use Rattle.sector_stock.proofs.Losing.{loses-in, loses-later}
use Rattle.sector_stock.proofs.CopyLosses.{source-disk, source-keeps, wholly-slots}
use Rattle.sector_stock.proofs.copy.end_committed.Goals as goal

pub returns-in_err-erase-clause-cut : goal.returns-in_err-erase-clause-cut
returns-in_err-erase-clause-cut g c is healthy h =
    let p = err_from_is_err_and c.from_residual.result c.from_residual.ensures.1 in
    let m = (g.S.SlotCalls.state c.args.slots.now).memory in
    erase-cut c.args.source c.args.target m m (g.S.SlotCalls.state c.erase.new.self).memory (committed-found c.args.source c.args.target m h) (c.in_err-erase.ensures.cut (cc (p.1, p.2)) healthy)

pub returns-in_err-settle-clause-cut : goal.returns-in_err-settle-clause-cut
returns-in_err-settle-clause-cut g c is healthy h =
    let p = err_from_is_err_and c.from_residual-in_err-settle.result c.from_residual-in_err-settle.ensures.1 in
    let m = (g.S.SlotCalls.state c.args.slots.now).memory in
    let m1 = (g.S.SlotCalls.state c.erase.new.self).memory in
    let one = erase-done c.args.source c.args.target m m m1 (committed-found c.args.source c.args.target m h) c.in_ok-erase.ensures.ok in
    settle-cut c.args.source c.args.target m m1 (g.S.SlotCalls.state c.settle.new.self).memory one (c.in_err-settle.ensures.cut_only (cc (p.1, p.2))) (c.in_err-settle.ensures.cut (cc (p.1, p.2)) (c.args.source + 4) one.committed.committed)

pub returns-clause-ok : goal.returns-clause-ok
returns-clause-ok g c h =
    let m = (g.S.SlotCalls.state c.args.slots.now).memory in
    let m1 = (g.S.SlotCalls.state c.erase.new.self).memory in
    let one = erase-done c.args.source c.args.target m m m1 (committed-found c.args.source c.args.target m h) c.in_ok-erase.ensures.ok in
    committed-ends c.args.source c.args.target m m1 (g.S.SlotCalls.state c.settle.new.self).memory h c.in_ok-erase.ensures.ok c.in_ok-settle.ensures.only (c.in_ok-settle.ensures.ok (c.args.source + 4) one.committed.committed)

pub erase-requires-clause-dead : goal.erase-requires-clause-dead
erase-requires-clause-dead g c ready =
    let m = (g.S.SlotCalls.state c.args.slots.now).memory in
    source-erasable c.args.source c.args.target m m (committed-found c.args.source c.args.target m (c.requires.committed ready))

pub returns-clause-exact : goal.returns-clause-exact
returns-clause-exact g c h =
    let m = (g.S.SlotCalls.state c.args.slots.now).memory in
    let m1 = (g.S.SlotCalls.state c.erase.new.self).memory in
    let one = erase-done c.args.source c.args.target m m m1 (committed-found c.args.source c.args.target m h) c.in_ok-erase.ensures.ok in
    ended-whole c.args.source c.args.target m m1 (g.S.SlotCalls.state c.settle.new.self).memory h c.in_ok-erase.ensures.ok c.in_ok-settle.ensures.only (c.in_ok-settle.ensures.ok (c.args.source + 4) one.committed.committed)

pub returns-in_err-settle-clause-ends : goal.returns-in_err-settle-clause-ends
returns-in_err-settle-clause-ends g c =
    let s0 = g.S.SlotCalls.state c.args.slots.now in
    let s1 = g.S.SlotCalls.state c.erase.new.self in
    let s2 = g.S.SlotCalls.state c.settle.new.self in
    fails-as c.from_residual-in_err-settle.result _ (λ _. SucceedsSettled s0 s2) (λ e. RefusesFirmly e s0 s2) c.from_residual-in_err-settle.ensures.1
    (refuses-firmly _ s0 s1 s2 c.in_ok-erase.ensures.ends c.in_err-settle.ensures.ends)

pub returns-clause-ends : goal.returns-clause-ends
returns-clause-ends g c =
    let s0 = g.S.SlotCalls.state c.args.slots.now in
    let s1 = g.S.SlotCalls.state c.erase.new.self in
    let s2 = g.S.SlotCalls.state c.settle.new.self in
    settled-after s0 s1 s2 c.in_ok-erase.ensures.ends c.in_ok-settle.ensures.ends

pub returns-in_err-settle-clause-healthy : goal.returns-in_err-settle-clause-healthy
returns-in_err-settle-clause-healthy g c is healthy =
    let p = err_from_is_err_and c.from_residual-in_err-settle.result c.from_residual-in_err-settle.ensures.1 in
    c.in_err-settle.ensures.healthy (cc (p.1, p.2)) (settled-healthy (g.S.SlotCalls.state c.erase.new.self).memory c.in_ok-erase.ensures.ends.settled)

pub returns-clause-firm : goal.returns-clause-firm
returns-clause-firm g c = are-firm-stays (bits_in (g.S.SlotCalls.state c.erase.new.self)) (bits_in (g.S.SlotCalls.state c.settle.new.self)) (block_place c.args.source) 4096 c.in_ok-settle.ensures.ends.kept.bits c.in_ok-erase.ensures.firm

pub returns-clause-settles : goal.returns-clause-settles
returns-clause-settles g c apart = record {
  states = λ i low. c.in_ok-settle.ensures.states i low ∙ ap (λ b. byte b (16 + 4 * i)) (c.in_ok-erase.ensures.ok.only.others (c.args.target + 4) (omega arith) (omega (arith, c.requires.target)) (λ e. apart (omega (arith, e))));
  third = c.in_ok-settle.ensures.third;
}

pub returns-in_err-erase-clause-cut_bits : goal.returns-in_err-erase-clause-cut_bits
returns-in_err-erase-clause-cut_bits g c is suspects disk h sources =
    let p = err_from_is_err_and c.from_residual.result c.from_residual.ensures.1 in
    let m = (g.S.SlotCalls.state c.args.slots.now).memory in
    loses-in (bits_in (g.S.SlotCalls.state c.args.slots.now)) suspects (bits_in (g.S.SlotCalls.state c.erase.new.self)) disk
    (erased c.args.source c.requires.source (source-erasable c.args.source c.args.target m m (committed-found c.args.source c.args.target m h)) sources c.in_err-erase.ensures.size c.in_err-erase.ensures.beside
    (c.in_err-erase.ensures.cut_bits (cc (p.1, p.2)) disk.settled disk.journals) (c.in_err-erase.ensures.opens (cc (p.1, p.2)) disk.settled disk.journals))

pub returns-in_err-settle-clause-cut_bits : goal.returns-in_err-settle-clause-cut_bits
returns-in_err-settle-clause-cut_bits g c is suspects disk h sources =
    let p = err_from_is_err_and c.from_residual-in_err-settle.result c.from_residual-in_err-settle.ensures.1 in
    let s0 = g.S.SlotCalls.state c.args.slots.now in
    let s1 = g.S.SlotCalls.state c.erase.new.self in
    let b = bits_in (g.S.SlotCalls.state c.settle.new.self) in
    let w = c.in_ok-erase.ensures.ok in
    let one = erase-done c.args.source c.args.target s0.memory s0.memory s1.memory (committed-found c.args.source c.args.target s0.memory h) w in
    let same = w.only.chip.same_length in
    let low = c.requires.source in
    loses-later s0.memory s1.memory b (source-keeps c.args.source c.args.target s0 s1 c.in_ok-erase.ensures.ends h w)
    (loses-in (bits_in s1) suspects b (source-disk c.args.source c.args.target s0 s1 suspects disk c.in_ok-erase.ensures.ends low h w c.in_ok-erase.ensures.firm)
    (settled c.args.source c.args.target (rw same low) one.committed.target one.committed.committed one.source (wholly-slots (bits_in s1) c.args.source c.in_ok-erase.ensures.firm) (c.in_err-settle.ensures.cut_bits (cc (p.1, p.2)))))
