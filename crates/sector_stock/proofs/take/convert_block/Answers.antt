use Rattle.std.proofs.lemmas.Result.{err_from_is_err_and}
use Rattle.sector_stock.proofs.Moved.{numbers-in, index-moved}
use Rattle.sector_stock.proofs.Converting.{convertible, converts-into}
use Rattle.sector_stock.proofs.Worn.{counted-moved}
use Rattle.nor_driver.specs.State.{bits_in}
use Rattle.sector_stock.proofs.FirmCopies.{copied-firm}
use Rattle.sector_stock.specs.Losses.{suspects_in}
use Rattle.sector_stock.proofs.TakeLosses.{none-live}
use Rattle.sector_stock.proofs.take.convert_block.Goals as goal

pub copy_into-requires-clause-copyable : goal.copy_into-requires-clause-copyable
copy_into-requires-clause-copyable g c ready = (convertible c.args.source c.args.at.now.reserve (g.S.SlotCalls.state c.args.slots.now).memory c.requires.room c.requires.index.reserve c.requires.source c.requires.group)

pub returns-in_err-copy_into-clause-cut : goal.returns-in_err-copy_into-clause-cut
returns-in_err-copy_into-clause-cut g c is healthy =
    let p = err_from_is_err_and c.from_residual.result c.from_residual.ensures.1 in
    c.in_err-copy_into.ensures.cut (cc (p.1, p.2)) healthy (convertible c.args.source c.args.at.now.reserve (g.S.SlotCalls.state c.args.slots.now).memory c.requires.room c.requires.index.reserve c.requires.source c.requires.group)

pub shift_states-requires-clause-other : goal.shift_states-requires-clause-other
shift_states-requires-clause-other g c = (convertible c.args.source c.args.at.now.reserve (g.S.SlotCalls.state c.args.slots.now).memory c.requires.room c.requires.index.reserve c.requires.source c.requires.group).other

pub move_block-requires-clause-other : goal.move_block-requires-clause-other
move_block-requires-clause-other g c = (convertible c.args.source c.args.at.now.reserve (g.S.SlotCalls.state c.args.slots.now).memory c.requires.room c.requires.index.reserve c.requires.source c.requires.group).other

pub move_block-requires-clause-numbers : goal.move_block-requires-clause-numbers
move_block-requires-clause-numbers g c = numbers-in c.args.source (g.S.SlotCalls.state c.args.slots.now).memory c.args.states.now c.args.blocks.now c.args.at.now c.requires.index (rw c.requires.index.listed.block_size c.requires.source)

pub returns-clause-ok : goal.returns-clause-ok
returns-clause-ok g c =
    converts-into c.args.source c.args.at.now.reserve (g.S.SlotCalls.state c.args.slots.now).memory (g.S.SlotCalls.state c.copy_into.new.slots).memory c.requires.room c.requires.index.reserve c.requires.source c.requires.group
    (c.in_ok-copy_into.ensures.ok (convertible c.args.source c.args.at.now.reserve (g.S.SlotCalls.state c.args.slots.now).memory c.requires.room c.requires.index.reserve c.requires.source c.requires.group))

pub returns-clause-index : goal.returns-clause-index
returns-clause-index g c =
    let done = c.in_ok-copy_into.ensures.ok (convertible c.args.source c.args.at.now.reserve (g.S.SlotCalls.state c.args.slots.now).memory c.requires.room c.requires.index.reserve c.requires.source c.requires.group) in
    index-moved c.args.source (g.S.SlotCalls.state c.args.slots.now).memory (g.S.SlotCalls.state c.copy_into.new.slots).memory c.args.states.now c.shift_states.new.slots c.args.blocks.now c.move_block.new.blocks c.args.at.now c.move_block.new.at
    c.requires.room c.requires.source done.slots done.blocks c.requires.index c.shift_states.ensures c.move_block.ensures.moved c.move_block.ensures.ahead c.move_block.ensures.reserve c.move_block.ensures.policy c.move_block.ensures.fits c.requires.may

pub returns-clause-target : goal.returns-clause-target
returns-clause-target g c by = c.requires.index.highest by

pub returns-clause-counted : goal.returns-clause-counted
returns-clause-counted g c = counted-moved c.args.source c.args.at.now.reserve (g.S.SlotCalls.state c.args.slots.now).memory c.args.states.now c.args.blocks.now c.move_block.new.blocks c.requires.index.listed c.move_block.ensures.fits c.move_block.ensures.moved

pub returns-clause-firm : goal.returns-clause-firm
returns-clause-firm g c =
    let s0 = g.S.SlotCalls.state c.args.slots.now in
    let s1 = g.S.SlotCalls.state c.copy_into.new.slots in
    let m = s0.memory in
    let done = c.in_ok-copy_into.ensures in
    copied-firm c.args.source c.args.at.now.reserve (bits_in s0) (bits_in s1) c.args.blocks.now c.move_block.new.blocks done.ends.kept.bits c.requires.index.listed.block_size c.requires.index.reserve.spare
    (done.ok (convertible c.args.source c.args.at.now.reserve m c.requires.room c.requires.index.reserve c.requires.source c.requires.group)).slots done.firm done.target c.move_block.ensures.moved

pub returns-clause-disk : goal.returns-clause-disk
returns-clause-disk g c h = absurd (none-live c.args.source (bits_in (g.S.SlotCalls.state c.args.slots.now)) (suspects_in c.args.blocks.now) h c.requires.source c.requires.group)

pub returns-in_err-copy_into-clause-cut_bits : goal.returns-in_err-copy_into-clause-cut_bits
returns-in_err-copy_into-clause-cut_bits g c is h = absurd (none-live c.args.source (bits_in (g.S.SlotCalls.state c.args.slots.now)) (suspects_in c.args.blocks.now) h c.requires.source c.requires.group)
