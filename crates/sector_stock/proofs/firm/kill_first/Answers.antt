use Rattle.std.proofs.Common.{◌≡◌, false, ◌<◌, ◌/◌, length, sym, ap, ◌∙◌, subst, arith, inr}
use Rattle.std.proofs.lemmas.Result.{err_from_is_err_and}
use Rattle.nor_driver.specs.State.{bits_in}
use Rattle.sector_slots.specs.Slots.{data_blocks}
use Rattle.sector_slots.specs.Weak.{IsSureBlock}
use Rattle.sector_stock.specs.Index.{in_block}
use Rattle.sector_stock.proofs.Moved.{numbers-in}
use Rattle.sector_stock.proofs.Writing.{free-some, ahead-live, index-killed}
use Rattle.sector_stock.proofs.Firming.{part-apart, killed-keeps, killed-firm, index-trusted, trusts-one}
use Rattle.sector_stock.proofs.Trusting.{firm-but, killed-sure, part-spare, kills-first, made-one, killed-flags}
use Rattle.sector_stock.proofs.FirmLosses.{firmed-disk, part-room, lowest-place, kill-loses}
use Rattle.sector_stock.proofs.firm.kill_first.Goals as goal

pub returns-in_err-kill-clause-cut : goal.returns-in_err-kill-clause-cut
returns-in_err-kill-clause-cut g c is =
    let p = err_from_is_err_and c.from_residual.result c.from_residual.ensures.1 in
    let m = (g.S.SlotCalls.state c.args.slots.now).memory in
    let m1 = (g.S.SlotCalls.state c.kill.new.self).memory in
    killed-keeps c.args.slot c.args.at.now.reserve m m1 c.requires.free (c.in_err-kill.ensures.cut (cc (p.1, p.2)) c.requires.free) (c.in_err-kill.ensures.cut_only (cc (p.1, p.2))) c.requires.index.reserve
    (part-apart c.args.slot m c.args.states.now c.args.blocks.now c.args.at.now c.requires.room c.requires.index c.requires.part) c.requires.room.blocks.rest (c.in_err-kill.ensures.cut_clean (cc (p.1, p.2)) c.requires.free)

pub returns-clause-ok : goal.returns-clause-ok
returns-clause-ok g c =
    let m = (g.S.SlotCalls.state c.args.slots.now).memory in
    let m1 = (g.S.SlotCalls.state c.kill.new.self).memory in
    killed-firm c.args.slot c.args.at.now.reserve m m1 c.requires.free (c.in_ok-kill.ensures.ok c.requires.free) c.in_ok-kill.ensures.only c.requires.index.reserve
    (part-apart c.args.slot m c.args.states.now c.args.blocks.now c.args.at.now c.requires.room c.requires.index c.requires.part) c.requires.room.blocks.rest (c.in_ok-kill.ensures.clean c.requires.free)

pub mark_live-requires-clause-some : goal.mark_live-requires-clause-some
mark_live-requires-clause-some g c = free-some c.args.slot (g.S.SlotCalls.state c.args.slots.now).memory c.args.states.now c.args.blocks.now c.args.at.now c.requires.index c.requires.number c.requires.free

pub mark_dead-requires-clause-room : goal.mark_dead-requires-clause-room
mark_dead-requires-clause-room g c =
    let m = (g.S.SlotCalls.state c.args.slots.now).memory in
    let index = c.requires.index in
    let n = index.listed.block_size in
    let low = c.requires.number in
    let here : c.args.slot / 7 < length c.args.blocks.now = omega (arith, low, n) in
    let some = free-some c.args.slot m c.args.states.now c.args.blocks.now c.args.at.now index low c.requires.free in
    let seven = numbers-in (c.args.slot / 7) m c.args.states.now c.args.blocks.now c.args.at.now index here in
    let dead = ap (λ b. b.dead) c.mark_live.ensures.marked.its_block in
    omega (arith, some, seven, dead)

pub returns-clause-index : goal.returns-clause-index
returns-clause-index g c =
    let m = (g.S.SlotCalls.state c.args.slots.now).memory in
    let m1 = (g.S.SlotCalls.state c.kill.new.self).memory in
    let index = c.requires.index in
    let n = index.listed.block_size in
    let low = c.requires.number in
    let here : c.args.slot / 7 < length c.args.blocks.now = omega (arith, low, n) in
    let some = free-some c.args.slot m c.args.states.now c.args.blocks.now c.args.at.now index low c.requires.free in
    let seven = numbers-in (c.args.slot / 7) m c.args.states.now c.args.blocks.now c.args.at.now index here in
    index-trusted (c.args.slot / 7) m1 c.mark_dead.new.slots c.mark_dead.new.blocks c.trust.new.blocks c.mark_dead.new.at c.trust.ensures
    (index-killed c.args.slot m m1 c.args.states.now c.mark_live.new.slots c.mark_dead.new.slots c.args.blocks.now c.mark_live.new.blocks c.mark_dead.new.blocks c.args.at.now c.mark_dead.new.at
    index low c.requires.free (c.in_ok-kill.ensures.ok c.requires.free) c.in_ok-kill.ensures.only (part-apart c.args.slot m c.args.states.now c.args.blocks.now c.args.at.now c.requires.room index c.requires.part)
    c.mark_live.ensures.marked c.mark_dead.ensures.marked
    (c.mark_dead.ensures.ahead (ahead-live c.args.slot c.args.states.now c.mark_live.new.slots c.args.blocks.now c.mark_live.new.blocks c.args.at.now here c.mark_live.ensures.marked some (omega (arith, seven)) index.ahead))
    c.mark_dead.ensures.reserve c.mark_dead.ensures.policy)

pub returns-clause-trusts : goal.returns-clause-trusts
returns-clause-trusts g c =
    let index = c.requires.index in
    let n = index.listed.block_size in
    let low = c.requires.number in
    let a = c.mark_live.ensures.marked in
    let b = c.mark_dead.ensures.marked in
    let k = a.block_size in
    let e = ap (λ x. x.dead) a.its_block in
    let f = ap (λ x. x.dead) b.its_block in
    trusts-one (c.args.slot / 7) c.args.blocks.now c.mark_dead.new.blocks c.trust.new.blocks (b.block_size ∙ a.block_size) (omega (arith, low, n)) c.requires.suspect (omega (arith, e, f))
    (ap (λ x. x.erases) b.its_block ∙ ap (λ x. x.erases) a.its_block) (λ d inside ne. b.other_blocks d (omega (arith, inside, k)) ne ∙ a.other_blocks d inside ne) c.trust.ensures

pub returns-clause-made : goal.returns-clause-made
returns-clause-made g c =
    let m = (g.S.SlotCalls.state c.args.slots.now).memory in
    let m1 = (g.S.SlotCalls.state c.kill.new.self).memory in
    let n = c.requires.index.listed.block_size in
    made-one (c.args.slot / 7) m m1 c.args.blocks.now c.trust.new.blocks n c.in_ok-kill.ensures.only.only c.requires.suspect (ap (λ b. b.suspect) c.trust.ensures.here)
    (killed-flags c.args.slot (data_blocks m) c.args.states.now c.mark_live.new.slots c.mark_dead.new.slots c.args.blocks.now c.mark_live.new.blocks c.mark_dead.new.blocks c.trust.new.blocks _ _ _ _ n c.mark_live.ensures.marked c.mark_dead.ensures.marked c.trust.ensures)
    (inr (kills-first c.args.slot m m1 c.requires.room.blocks.rest c.requires.number c.requires.free c.requires.first (c.in_ok-kill.ensures.ok c.requires.free)))

pub returns-clause-firm : goal.returns-clause-firm
returns-clause-firm g c h =
    let s0 = g.S.SlotCalls.state c.args.slots.now in
    let s1 = g.S.SlotCalls.state c.kill.new.self in
    let a = bits_in s0 in
    let b = bits_in s1 in
    let f = c.in_ok-kill.ensures.ends.kept.bits in
    let n = c.requires.index.listed.block_size in
    let low = c.requires.number in
    let here : c.args.slot / 7 < data_blocks s0.memory = omega (arith, low) in
    let now : (in_block c.trust.new.blocks (c.args.slot / 7)).suspect ≡ false = ap (λ b. b.suspect) c.trust.ensures.here in
    firm-but a b f (c.args.slot / 7) c.args.blocks.now c.trust.new.blocks c.in_ok-kill.ensures.only.only
    (killed-flags c.args.slot (data_blocks s0.memory) c.args.states.now c.mark_live.new.slots c.mark_dead.new.slots c.args.blocks.now c.mark_live.new.blocks c.mark_dead.new.blocks c.trust.new.blocks _ _ _ _ n c.mark_live.ensures.marked c.mark_dead.ensures.marked c.trust.ensures)
    (λ sure. subst (λ q. IsSureBlock b q (c.args.slot / 7)) (sym now)
    (killed-sure a b f c.args.slot c.requires.room.blocks.rest low (part-spare (c.args.slot / 7) s0.memory c.args.states.now c.args.blocks.now c.args.at.now c.requires.room c.requires.index here c.requires.part) c.requires.free c.requires.first c.in_ok-kill.ensures.for_good c.in_ok-kill.ensures.only
    (subst (λ q. IsSureBlock a q (c.args.slot / 7)) c.requires.suspect sure)))
    h

pub returns-clause-disk : goal.returns-clause-disk
returns-clause-disk g c h =
    let s0 = g.S.SlotCalls.state c.args.slots.now in
    let s1 = g.S.SlotCalls.state c.kill.new.self in
    let low = c.requires.number in
    let here : c.args.slot / 7 < data_blocks s0.memory = omega (arith, low) in
    let done = c.in_ok-kill.ensures in
    firmed-disk s0 s1 c.args.blocks.now c.trust.new.blocks h c.requires.room done.ends (returns-clause-ok g c) (returns-clause-firm g c h.store)
    (part-room (bits_in s0) (bits_in s1) done.ends.kept.bits (c.args.slot / 7) c.requires.room.blocks.rest
    (part-spare (c.args.slot / 7) s0.memory c.args.states.now c.args.blocks.now c.args.at.now c.requires.room c.requires.index here c.requires.part) done.only.only h.room)

pub returns-in_err-kill-clause-cut_bits : goal.returns-in_err-kill-clause-cut_bits
returns-in_err-kill-clause-cut_bits g c is h =
    let p = err_from_is_err_and c.from_residual.result c.from_residual.ensures.1 in
    let s0 = g.S.SlotCalls.state c.args.slots.now in
    let s1 = g.S.SlotCalls.state c.kill.new.self in
    let low = c.requires.number in
    let here : c.args.slot / 7 < data_blocks s0.memory = omega (arith, low) in
    kill-loses c.args.slot s0 s1 c.args.blocks.now h c.requires.room.blocks.rest (lowest-place c.args.slot s0.memory c.requires.room.blocks.rest low c.requires.free c.requires.first)
    (part-spare (c.args.slot / 7) s0.memory c.args.states.now c.args.blocks.now c.args.at.now c.requires.room c.requires.index here c.requires.part) (c.in_err-kill.ensures.cut_bits (cc (p.1, p.2)))
