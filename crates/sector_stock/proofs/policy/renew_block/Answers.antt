use Rattle.std.proofs.Common.{length, refl, arith}
use Rattle.sector_stock.specs.Takes.{moves, converts_group}
use Rattle.sector_stock.proofs.Converting.{group-listed}
use Rattle.sector_stock.proofs.Even.{once-moved}
use Rattle.sector_stock.proofs.Renewing.{spare-work}
use Rattle.sector_stock.proofs.policy.renew_block.Goals as goal

pub convert_block-requires-clause-group : goal.convert_block-requires-clause-group
convert_block-requires-clause-group g c =
    let n = c.requires.index.listed.block_size in
    let low = c.requires.number in
    group-listed (g.S.SlotCalls.state c.args.slots.now).memory c.args.states.now c.args.blocks.now c.args.block c.requires.index.listed (omega (arith, low, n)) (cc c.if-state.true)

pub returns-in_ok-erase_spare-clause-work : goal.returns-in_ok-erase_spare-clause-work
returns-in_ok-erase_spare-clause-work g c =
    let e = spare-work c.args.block (g.S.SlotCalls.state c.args.slots.now).memory (g.S.SlotCalls.state c.erase_spare.new.slots).memory c.in_ok-erase_spare.ensures.ok in
    omega (arith, e)

pub returns-in_ok-converted-clause-ok : goal.returns-in_ok-converted-clause-ok
returns-in_ok-converted-clause-ok g c = converts_group c.in_ok-converted.converted refl c.in_ok-converted.ensures.source c.in_ok-converted.ensures.ok

pub returns-in_ok-moved-clause-ok : goal.returns-in_ok-moved-clause-ok
returns-in_ok-moved-clause-ok g c = moves c.in_ok-moved.moved refl c.in_ok-moved.ensures.target.0 c.in_ok-moved.ensures.ok

pub returns-in_ok-moved-clause-counted : goal.returns-in_ok-moved-clause-counted
returns-in_ok-moved-clause-counted g c = once-moved c.args.block c.args.at.now.reserve (length c.args.blocks.now) c.args.blocks.now c.move_used.new.blocks refl c.in_ok-moved.ensures.fits c.in_ok-moved.ensures.blocks
