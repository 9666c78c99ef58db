use Rattle.std.proofs.lemmas.Result.{err_from_is_err_and}
use Rattle.std.proofs.Common.{◌<◌, refl, arith}
use Rattle.sector_slots.specs.Slots.{data_blocks}
use Rattle.sector_stock.proofs.Moved.{whole-spare}
use Rattle.sector_stock.proofs.Renewing.{spare-erasable, spare-done, spare-cut, index-recounted, reserve-stays, spare-stays, erased-once}
use Rattle.nor_driver.specs.State.{bits_in}
use Rattle.sector_stock.proofs.FirmCopies.{erased-again}
use Rattle.sector_stock.proofs.FirmLosses.{erased-disk, erase-loses}
use Rattle.sector_stock.proofs.policy.erase_spare.Goals as goal

pub erase-requires-clause-dead : goal.erase-requires-clause-dead
erase-requires-clause-dead g c ready =
    let m = (g.S.SlotCalls.state c.args.slots.now).memory in
    let index = c.requires.index in
    let n = index.listed.block_size in
    let low = c.requires.number in
    let here : c.args.block < data_blocks m = omega (arith, low, n) in
    spare-erasable c.args.block m c.requires.room.blocks.rest here (whole-spare m c.args.states.now c.args.blocks.now c.args.block c.requires.room.blocks.rest index.listed here c.requires.whole)

pub returns-in_err-erase-clause-cut : goal.returns-in_err-erase-clause-cut
returns-in_err-erase-clause-cut g c is healthy =
    let p = err_from_is_err_and c.from_residual.result c.from_residual.ensures.1 in
    let m = (g.S.SlotCalls.state c.args.slots.now).memory in
    let index = c.requires.index in
    let n = index.listed.block_size in
    let low = c.requires.number in
    let here : c.args.block < data_blocks m = omega (arith, low, n) in
    spare-cut c.args.block m (g.S.SlotCalls.state c.erase.new.self).memory here (whole-spare m c.args.states.now c.args.blocks.now c.args.block c.requires.room.blocks.rest index.listed here c.requires.whole)
    (c.in_err-erase.ensures.cut (cc (p.1, p.2)) healthy)

pub returns-clause-ok : goal.returns-clause-ok
returns-clause-ok g c =
    let m = (g.S.SlotCalls.state c.args.slots.now).memory in
    let index = c.requires.index in
    let n = index.listed.block_size in
    let low = c.requires.number in
    let here : c.args.block < data_blocks m = omega (arith, low, n) in
    spare-done c.args.block m (g.S.SlotCalls.state c.erase.new.self).memory c.requires.room.blocks here (whole-spare m c.args.states.now c.args.blocks.now c.args.block c.requires.room.blocks.rest index.listed here c.requires.whole) c.in_ok-erase.ensures.ok

pub returns-clause-index : goal.returns-clause-index
returns-clause-index g c =
    let m = (g.S.SlotCalls.state c.args.slots.now).memory in
    let m1 = (g.S.SlotCalls.state c.erase.new.self).memory in
    let index = c.requires.index in
    let n = index.listed.block_size in
    let low = c.requires.number in
    let here : c.args.block < data_blocks m = omega (arith, low, n) in
    let spare = whole-spare m c.args.states.now c.args.blocks.now c.args.block c.requires.room.blocks.rest index.listed here c.requires.whole in
    let w = c.in_ok-erase.ensures.ok in
    index-recounted c.args.block m m1 c.args.states.now c.args.blocks.now c.count_erase.new.blocks c.args.at.now c.count_erase.new.at (spare-done c.args.block m m1 c.requires.room.blocks here spare w) low c.requires.least c.count_erase.ensures
    (reserve-stays c.args.block m m1 spare w) (spare-stays c.args.block c.args.at.now.reserve m m1 spare w index.reserve) index

pub returns-clause-counted : goal.returns-clause-counted
returns-clause-counted g c = erased-once c.args.block _ c.args.blocks.now c.count_erase.new.blocks c.args.at.now c.count_erase.new.at refl c.count_erase.ensures

pub returns-clause-firm : goal.returns-clause-firm
returns-clause-firm g c =
    let s0 = g.S.SlotCalls.state c.args.slots.now in
    let s1 = g.S.SlotCalls.state c.erase.new.self in
    let done = c.in_ok-erase.ensures in
    erased-again c.args.block (bits_in s0) (bits_in s1) c.args.blocks.now c.count_erase.new.blocks c.args.at.now c.count_erase.new.at done.ends.kept.bits c.requires.index.listed.block_size done.ok done.firm c.count_erase.ensures

pub returns-clause-disk : goal.returns-clause-disk
returns-clause-disk g c h =
    let s0 = g.S.SlotCalls.state c.args.slots.now in
    let s1 = g.S.SlotCalls.state c.erase.new.self in
    let index = c.requires.index in
    let n = index.listed.block_size in
    let low = c.requires.number in
    let here : c.args.block < data_blocks s0.memory = omega (arith, low, n) in
    let done = c.in_ok-erase.ensures in
    erased-disk c.args.block s0 s1 c.args.blocks.now c.count_erase.new.blocks h c.requires.room here (whole-spare s0.memory c.args.states.now c.args.blocks.now c.args.block c.requires.room.blocks.rest index.listed here c.requires.whole) done.ends done.ok done.firm
    (returns-clause-firm g c h.store)

pub returns-in_err-erase-clause-cut_bits : goal.returns-in_err-erase-clause-cut_bits
returns-in_err-erase-clause-cut_bits g c is h =
    let p = err_from_is_err_and c.from_residual.result c.from_residual.ensures.1 in
    let s0 = g.S.SlotCalls.state c.args.slots.now in
    let s1 = g.S.SlotCalls.state c.erase.new.self in
    let index = c.requires.index in
    let n = index.listed.block_size in
    let low = c.requires.number in
    let here : c.args.block < data_blocks s0.memory = omega (arith, low, n) in
    let cut = c.in_err-erase.ensures in
    erase-loses c.args.block s0 s1 c.args.blocks.now h c.requires.room.blocks.rest here (whole-spare s0.memory c.args.states.now c.args.blocks.now c.args.block c.requires.room.blocks.rest index.listed here c.requires.whole) cut.size cut.beside (cut.cut_bits (cc (p.1, p.2))) (cut.opens (cc (p.1, p.2)))
