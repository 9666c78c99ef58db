use Rattle.std.proofs.Common.{subst}
use Rattle.std.proofs.lemmas.Result.{err_from_is_err_and}
use Rattle.sector_stock.specs.Room.{HasNoneFree}
use Rattle.sector_stock.proofs.Moved.{copyable-now, numbers-in, dead-in, most-dead-in, fewer-below-in, copies-into, free-after, index-moved, turned}
use Rattle.sector_stock.specs.Takes.{copies}
use Rattle.sector_stock.proofs.Converting.{work-falls}
use Rattle.sector_stock.proofs.Moving.{other-reserve}
use Rattle.nor_driver.specs.State.{bits_in}
use Rattle.sector_stock.proofs.FirmCopies.{copied-firm}
use Rattle.sector_stock.specs.Losses.{suspects_in}
use Rattle.sector_stock.proofs.TakeLosses.{dead-part, shifted-disk}
use Rattle.sector_stock.proofs.take.copy_most.Goals as goal

pub copy_into-requires-clause-copyable : goal.copy_into-requires-clause-copyable
copy_into-requires-clause-copyable g c ready =
    copyable-now c.args.source (g.S.SlotCalls.state c.args.slots.now).memory c.args.states.now c.args.blocks.now c.args.at.now c.requires.room c.requires.index c.requires.most

pub returns-in_err-copy_into-clause-cut : goal.returns-in_err-copy_into-clause-cut
returns-in_err-copy_into-clause-cut g c is healthy =
    let p = err_from_is_err_and c.from_residual.result c.from_residual.ensures.1 in
    let h = copyable-now c.args.source (g.S.SlotCalls.state c.args.slots.now).memory c.args.states.now c.args.blocks.now c.args.at.now c.requires.room c.requires.index c.requires.most in
    c.in_err-copy_into.ensures.cut (cc (p.1, p.2)) healthy h

pub shift_states-requires-clause-other : goal.shift_states-requires-clause-other
shift_states-requires-clause-other g c =
    (copyable-now c.args.source (g.S.SlotCalls.state c.args.slots.now).memory c.args.states.now c.args.blocks.now c.args.at.now c.requires.room c.requires.index c.requires.most).other

pub move_block-requires-clause-other : goal.move_block-requires-clause-other
move_block-requires-clause-other g c =
    (copyable-now c.args.source (g.S.SlotCalls.state c.args.slots.now).memory c.args.states.now c.args.blocks.now c.args.at.now c.requires.room c.requires.index c.requires.most).other

pub move_block-requires-clause-numbers : goal.move_block-requires-clause-numbers
move_block-requires-clause-numbers g c = numbers-in c.args.source (g.S.SlotCalls.state c.args.slots.now).memory c.args.states.now c.args.blocks.now c.args.at.now c.requires.index c.requires.most.0

pub returns-clause-ok : goal.returns-clause-ok
returns-clause-ok g c =
    let m = (g.S.SlotCalls.state c.args.slots.now).memory in
    let h = copyable-now c.args.source m c.args.states.now c.args.blocks.now c.args.at.now c.requires.room c.requires.index c.requires.most in
    copies-into c.args.source c.args.at.now.reserve m (g.S.SlotCalls.state c.copy_into.new.slots).memory c.requires.room
    (dead-in c.args.source m c.args.states.now c.args.blocks.now c.args.at.now c.requires.index c.requires.most) c.requires.index.reserve h.other (c.in_ok-copy_into.ensures.ok h)

pub returns-clause-tidies : goal.returns-clause-tidies
returns-clause-tidies g c =
    let m = (g.S.SlotCalls.state c.args.slots.now).memory in
    let h = copyable-now c.args.source m c.args.states.now c.args.blocks.now c.args.at.now c.requires.room c.requires.index c.requires.most in
    copies (copies-into c.args.source c.args.at.now.reserve m (g.S.SlotCalls.state c.copy_into.new.slots).memory c.requires.room
    (dead-in c.args.source m c.args.states.now c.args.blocks.now c.args.at.now c.requires.index c.requires.most) c.requires.index.reserve h.other (c.in_ok-copy_into.ensures.ok h))

pub returns-clause-most : goal.returns-clause-most
returns-clause-most g c =
    most-dead-in c.args.source (g.S.SlotCalls.state c.args.slots.now).memory c.args.states.now c.args.blocks.now c.args.at.now c.requires.index c.requires.most

pub returns-clause-numbers : goal.returns-clause-numbers
returns-clause-numbers g c by low =
    (fewer-below-in c.args.source (g.S.SlotCalls.state c.args.slots.now).memory c.args.states.now c.args.blocks.now c.args.at.now c.requires.index c.requires.most.0 low, c.requires.index.highest by)

pub returns-clause-fewer : goal.returns-clause-fewer
returns-clause-fewer g c =
    let m = (g.S.SlotCalls.state c.args.slots.now).memory in
    let h = copyable-now c.args.source m c.args.states.now c.args.blocks.now c.args.at.now c.requires.room c.requires.index c.requires.most in
    let done = c.in_ok-copy_into.ensures.ok h in
    work-falls c.args.source c.args.at.now.reserve m (g.S.SlotCalls.state c.copy_into.new.slots).memory c.requires.room done.blocks
    (dead-in c.args.source m c.args.states.now c.args.blocks.now c.args.at.now c.requires.index c.requires.most) c.requires.index.reserve done.slots

pub returns-clause-index : goal.returns-clause-index
returns-clause-index g c =
    let m = (g.S.SlotCalls.state c.args.slots.now).memory in
    let h = copyable-now c.args.source m c.args.states.now c.args.blocks.now c.args.at.now c.requires.room c.requires.index c.requires.most in
    let done = c.in_ok-copy_into.ensures.ok h in
    turned c.move_block.new.at.turn c.args.source c.move_block.new.at.behind (g.S.SlotCalls.state c.copy_into.new.slots).memory c.shift_states.new.slots c.move_block.new.blocks c.move_block.new.at c.go_on_behind.new.at c.go_on_behind.ensures
    (index-moved c.args.source m (g.S.SlotCalls.state c.copy_into.new.slots).memory c.args.states.now c.shift_states.new.slots c.args.blocks.now c.move_block.new.blocks c.args.at.now c.move_block.new.at
    c.requires.room h.source done.slots done.blocks c.requires.index c.shift_states.ensures c.move_block.ensures.moved c.move_block.ensures.ahead c.move_block.ensures.reserve c.move_block.ensures.policy c.move_block.ensures.fits c.requires.may)

pub returns-clause-free : goal.returns-clause-free
returns-clause-free g c none =
    let m = (g.S.SlotCalls.state c.args.slots.now).memory in
    let h = copyable-now c.args.source m c.args.states.now c.args.blocks.now c.args.at.now c.requires.room c.requires.index c.requires.most in
    let done = c.in_ok-copy_into.ensures.ok h in
    let most = dead-in c.args.source m c.args.states.now c.args.blocks.now c.args.at.now c.requires.index c.requires.most in
    free-after c.args.source c.args.at.now.reserve c.move_block.new.at.reserve m (g.S.SlotCalls.state c.copy_into.new.slots).memory c.requires.room most c.requires.index.reserve
    (other-reserve c.args.at.now.policy c.args.source c.args.at.now.reserve c.move_block.new.at.reserve c.args.blocks.now c.move_block.new.blocks c.move_block.ensures.moved c.move_block.ensures.reserve) done (subst (λ a. HasNoneFree a.reserve (g.S.SlotCalls.state c.copy_into.new.slots).memory) c.go_on_behind.ensures none)

pub returns-clause-firm : goal.returns-clause-firm
returns-clause-firm g c =
    let s0 = g.S.SlotCalls.state c.args.slots.now in
    let s1 = g.S.SlotCalls.state c.copy_into.new.slots in
    let m = s0.memory in
    let done = c.in_ok-copy_into.ensures in
    copied-firm c.args.source c.args.at.now.reserve (bits_in s0) (bits_in s1) c.args.blocks.now c.move_block.new.blocks done.ends.kept.bits c.requires.index.listed.block_size c.requires.index.reserve.spare
    (done.ok (copyable-now c.args.source m c.args.states.now c.args.blocks.now c.args.at.now c.requires.room c.requires.index c.requires.most)).slots done.firm done.target c.move_block.ensures.moved

pub returns-clause-disk : goal.returns-clause-disk
returns-clause-disk g c h =
    let s0 = g.S.SlotCalls.state c.args.slots.now in
    let s1 = g.S.SlotCalls.state c.copy_into.new.slots in
    let m = s0.memory in
    let done = c.in_ok-copy_into.ensures in
    let can = copyable-now c.args.source m c.args.states.now c.args.blocks.now c.args.at.now c.requires.room c.requires.index c.requires.most in
    let copied = copies-into c.args.source c.args.at.now.reserve m s1.memory c.requires.room (dead-in c.args.source m c.args.states.now c.args.blocks.now c.args.at.now c.requires.index c.requires.most) c.requires.index.reserve can.other (done.ok can) in
    shifted-disk c.args.source c.args.at.now.reserve s0 s1 c.args.blocks.now c.move_block.new.blocks h done.ends c.requires.room.single can.source copied.shifts copied.erased done.firm
    (copied-firm c.args.source c.args.at.now.reserve (bits_in s0) (bits_in s1) c.args.blocks.now c.move_block.new.blocks done.ends.kept.bits c.requires.index.listed.block_size c.requires.index.reserve.spare (done.ok can).slots done.firm done.target c.move_block.ensures.moved h.store)

pub returns-in_err-copy_into-clause-cut_bits : goal.returns-in_err-copy_into-clause-cut_bits
returns-in_err-copy_into-clause-cut_bits g c is h =
    let p = err_from_is_err_and c.from_residual.result c.from_residual.ensures.1 in
    let m = (g.S.SlotCalls.state c.args.slots.now).memory in
    c.in_err-copy_into.ensures.cut_bits (cc (p.1, p.2)) (suspects_in c.args.blocks.now) h (λ e. e)
    (copyable-now c.args.source m c.args.states.now c.args.blocks.now c.args.at.now c.requires.room c.requires.index c.requires.most)
    (dead-part c.args.source m c.args.states.now c.args.blocks.now c.args.at.now c.requires.room c.requires.index c.requires.most)
