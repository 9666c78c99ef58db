use Rattle.std.proofs.Common.{◌<◌, arith}
use Rattle.sector_slots.specs.Slots.{data_blocks}
use Rattle.sector_stock.proofs.Converting.{group-listed, no-groups, dead-work, group-work}
use Rattle.sector_stock.proofs.Moved.{dead-in, none-dead-in}
use Rattle.sector_stock.proofs.take.has_work.Goals as goal

pub returns-in-Some-clause-yes : goal.returns-in-Some-clause-yes
returns-in-Some-clause-yes c t slots m index = dead-work c.in-Some.field-0 m (dead-in c.in-Some.field-0 m slots c.args.blocks.now c.args.at.now index c.in-Some.ensures.found)

pub returns-in-Some-lowest_group-clause-yes : goal.returns-in-Some-lowest_group-clause-yes
returns-in-Some-lowest_group-clause-yes c t slots m index =
    let n = index.listed.block_size in
    let low = c.in-Some-lowest_group.ensures.0 in
    let here : c.in-Some-lowest_group.field-0 < data_blocks m = omega (arith, low, n) in
    group-work c.in-Some-lowest_group.field-0 m here (group-listed m slots c.args.blocks.now c.in-Some-lowest_group.field-0 index.listed here c.in-Some-lowest_group.ensures.1)

pub returns-in-None-clause-no : goal.returns-in-None-clause-no
returns-in-None-clause-no c f slots m index = (none-dead-in m slots c.args.blocks.now c.args.at.now index c.in_default.ensures.found, no-groups m slots c.args.blocks.now index.listed c.in-None.ensures)
