use Rattle.sector_map.proofs.Founds.{spare-heads, block-spare}
use Rattle.sector_map.proofs.scan.is_spare.Goals as goal

pub returns-clause-spare : goal.returns-clause-spare
returns-clause-spare g c is =
    spare-heads (g.S.SlotCalls.state c.args.slots.now).memory c.args.block c.in_ok-kind.kind c.head.new.into c.in_ok-kind.ensures.ok c.in_ok-kind.ensures.slots (c.is_wholly_free.ensures.plain is) (c.is_wholly_free.ensures.free is)

pub returns-clause-not_spare : goal.returns-clause-not_spare
returns-clause-not_spare g c is s =
    block-spare (g.S.SlotCalls.state c.args.slots.now).memory c.args.block c.in_ok-kind.kind c.head.new.into c.in_ok-kind.ensures.ok c.in_ok-kind.ensures.slots (c.is_wholly_free.ensures.not_free is) s
