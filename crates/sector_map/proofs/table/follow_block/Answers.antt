use Rattle.std.proofs.Common.{length}
use Rattle.sector_map.proofs.Following.{rest-heads, heads-apart, block-followed}
use Rattle.sector_map.proofs.table.follow_block.Goals as goal

pub follow_heads-requires-clause-apart : goal.follow_heads-requires-clause-apart
follow_heads-requires-clause-apart g c =
    let m = (g.S.SlotCalls.state c.args.slots.now).memory in
    heads-apart m c.args.block c.descriptors.new.into (length c.args.table.now) (rest-heads m c.args.block c.descriptors.new.into c.requires.blocks c.requires.number c.in_ok-descriptors.ensures.slots) c.requires.number c.requires.sound c.requires.single c.requires.size

pub returns-clause-ok : goal.returns-clause-ok
returns-clause-ok g c =
    let m = (g.S.SlotCalls.state c.args.slots.now).memory in
    block-followed m c.args.block c.descriptors.new.into c.args.table.now c.follow_heads.new.table (rest-heads m c.args.block c.descriptors.new.into c.requires.blocks c.requires.number c.in_ok-descriptors.ensures.slots) c.follow_heads.ensures
