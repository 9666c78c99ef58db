use Rattle.std.proofs.Common.{◌<◌, sym, subst, arith}
use Rattle.sector_slots.specs.Slots.{data_blocks}
use Rattle.sector_map.proofs.KeepLosses.{firmly-over}
use Rattle.sector_map.proofs.settling.renew_block.Goals as goal

-- the counts are all 0
pub renew_one-requires-clause-least : goal.renew_one-requires-clause-least
renew_one-requires-clause-least g c d low =
    let number = subst (λ s. c.args.block < data_blocks s.memory) (sym c.level_wear.ensures.same) c.requires.number in
    let none = c.level_wear.ensures.counted c.args.block number in
    omega (arith, none)

pub returns-clause-firmly : goal.returns-clause-firmly
returns-clause-firmly g c = firmly-over c.renew_one.result c.args.stock.now.slots c.level_wear.new.self.slots c.renew_one.new.stock.slots c.args.stock.now.blocks.items c.level_wear.new.self.blocks.items c.renew_one.new.stock.blocks.items c.level_wear.ensures.same c.level_wear.ensures.suspects c.renew_one.ensures.firmly
