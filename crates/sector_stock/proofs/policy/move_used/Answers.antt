use Rattle.std.proofs.lemmas.Result.{err_from_is_err_and}
use Rattle.sector_stock.proofs.Moved.{copyable-used, used-no_group, numbers-in, moves-into, index-moved}
use Rattle.sector_stock.proofs.Converting.{work-most}
use Rattle.nor_driver.specs.State.{bits_in}
use Rattle.sector_stock.proofs.FirmCopies.{copied-firm}
use Rattle.sector_stock.specs.Losses.{suspects_in}
use Rattle.sector_stock.proofs.TakeLosses.{used-part, shifted-disk}
use Rattle.sector_stock.proofs.policy.move_used.Goals as goal

pub copy_into-requires-clause-copyable : goal.copy_into-requires-clause-copyable
copy_into-requires-clause-copyable g c ready = copyable-used c.args.source (g.S.SlotCalls.state c.args.slots.now).memory c.args.states.now c.args.blocks.now c.args.at.now c.requires.room c.requires.index c.requires.source c.requires.used

pub returns-in_err-copy_into-clause-cut : goal.returns-in_err-copy_into-clause-cut
returns-in_err-copy_into-clause-cut g c is healthy =
    let p = err_from_is_err_and c.from_residual.result c.from_residual.ensures.1 in
    c.in_err-copy_into.ensures.cut (cc (p.1, p.2)) healthy (copyable-used c.args.source (g.S.SlotCalls.state c.args.slots.now).memory c.args.states.now c.args.blocks.now c.args.at.now c.requires.room c.requires.index c.requires.source c.requires.used)

pub shift_states-requires-clause-other : goal.shift_states-requires-clause-other
shift_states-requires-clause-other g c = (copyable-used c.args.source (g.S.SlotCalls.state c.args.slots.now).memory c.args.states.now c.args.blocks.now c.args.at.now c.requires.room c.requires.index c.requires.source c.requires.used).other

pub move_block-requires-clause-other : goal.move_block-requires-clause-other
move_block-requires-clause-other g c = (copyable-used c.args.source (g.S.SlotCalls.state c.args.slots.now).memory c.args.states.now c.args.blocks.now c.args.at.now c.requires.room c.requires.index c.requires.source c.requires.used).other

pub move_block-requires-clause-numbers : goal.move_block-requires-clause-numbers
move_block-requires-clause-numbers g c = numbers-in c.args.source (g.S.SlotCalls.state c.args.slots.now).memory c.args.states.now c.args.blocks.now c.args.at.now c.requires.index c.requires.source

pub returns-clause-ok : goal.returns-clause-ok
returns-clause-ok g c =
    let m = (g.S.SlotCalls.state c.args.slots.now).memory in
    let h = copyable-used c.args.source (g.S.SlotCalls.state c.args.slots.now).memory c.args.states.now c.args.blocks.now c.args.at.now c.requires.room c.requires.index c.requires.source c.requires.used in
    moves-into c.args.source c.args.at.now.reserve m (g.S.SlotCalls.state c.copy_into.new.slots).memory c.requires.room h.source c.requires.index.reserve h.other
    (used-no_group c.args.source m c.args.states.now c.args.blocks.now c.args.at.now c.requires.index c.requires.source c.requires.used) (c.in_ok-copy_into.ensures.ok h)

pub returns-clause-index : goal.returns-clause-index
returns-clause-index g c =
    let m = (g.S.SlotCalls.state c.args.slots.now).memory in
    let h = copyable-used c.args.source (g.S.SlotCalls.state c.args.slots.now).memory c.args.states.now c.args.blocks.now c.args.at.now c.requires.room c.requires.index c.requires.source c.requires.used in
    let done = c.in_ok-copy_into.ensures.ok h in
    index-moved c.args.source m (g.S.SlotCalls.state c.copy_into.new.slots).memory c.args.states.now c.shift_states.new.slots c.args.blocks.now c.move_block.new.blocks c.args.at.now c.move_block.new.at
    c.requires.room h.source done.slots done.blocks c.requires.index c.shift_states.ensures c.move_block.ensures.moved c.move_block.ensures.ahead c.move_block.ensures.reserve c.move_block.ensures.policy c.move_block.ensures.fits c.requires.may

pub returns-clause-work : goal.returns-clause-work
returns-clause-work g c =
    let h = copyable-used c.args.source (g.S.SlotCalls.state c.args.slots.now).memory c.args.states.now c.args.blocks.now c.args.at.now c.requires.room c.requires.index c.requires.source c.requires.used in
    work-most c.args.source c.args.at.now.reserve (g.S.SlotCalls.state c.args.slots.now).memory (g.S.SlotCalls.state c.copy_into.new.slots).memory c.requires.room h (c.in_ok-copy_into.ensures.ok h)

pub returns-clause-firm : goal.returns-clause-firm
returns-clause-firm g c =
    let s0 = g.S.SlotCalls.state c.args.slots.now in
    let s1 = g.S.SlotCalls.state c.copy_into.new.slots in
    let m = s0.memory in
    let done = c.in_ok-copy_into.ensures in
    copied-firm c.args.source c.args.at.now.reserve (bits_in s0) (bits_in s1) c.args.blocks.now c.move_block.new.blocks done.ends.kept.bits c.requires.index.listed.block_size c.requires.index.reserve.spare
    (done.ok (copyable-used c.args.source m c.args.states.now c.args.blocks.now c.args.at.now c.requires.room c.requires.index c.requires.source c.requires.used)).slots done.firm done.target c.move_block.ensures.moved

pub returns-clause-disk : goal.returns-clause-disk
returns-clause-disk g c h =
    let s0 = g.S.SlotCalls.state c.args.slots.now in
    let s1 = g.S.SlotCalls.state c.copy_into.new.slots in
    let m = s0.memory in
    let done = c.in_ok-copy_into.ensures in
    let can = copyable-used c.args.source m c.args.states.now c.args.blocks.now c.args.at.now c.requires.room c.requires.index c.requires.source c.requires.used in
    let moved = moves-into c.args.source c.args.at.now.reserve m s1.memory c.requires.room can.source c.requires.index.reserve can.other
    (used-no_group c.args.source m c.args.states.now c.args.blocks.now c.args.at.now c.requires.index c.requires.source c.requires.used) (done.ok can) in
    shifted-disk c.args.source c.args.at.now.reserve s0 s1 c.args.blocks.now c.move_block.new.blocks h done.ends c.requires.room.single can.source moved.shifts moved.erased done.firm
    (copied-firm c.args.source c.args.at.now.reserve (bits_in s0) (bits_in s1) c.args.blocks.now c.move_block.new.blocks done.ends.kept.bits c.requires.index.listed.block_size c.requires.index.reserve.spare (done.ok can).slots done.firm done.target c.move_block.ensures.moved h.store)

pub returns-in_err-copy_into-clause-cut_bits : goal.returns-in_err-copy_into-clause-cut_bits
returns-in_err-copy_into-clause-cut_bits g c is h =
    let p = err_from_is_err_and c.from_residual.result c.from_residual.ensures.1 in
    let m = (g.S.SlotCalls.state c.args.slots.now).memory in
    c.in_err-copy_into.ensures.cut_bits (cc (p.1, p.2)) (suspects_in c.args.blocks.now) h (λ e. e)
    (copyable-used c.args.source m c.args.states.now c.args.blocks.now c.args.at.now c.requires.room c.requires.index c.requires.source c.requires.used)
    (used-part c.args.source m c.args.states.now c.args.blocks.now c.args.at.now c.requires.room c.requires.index c.requires.source c.requires.used)
