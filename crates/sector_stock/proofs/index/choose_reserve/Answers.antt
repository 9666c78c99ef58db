use Rattle.std.proofs.Common.{refl}
use Rattle.sector_stock.proofs.Moving.{reserve-chosen}
use Rattle.sector_stock.proofs.index.choose_reserve.Goals as goal

pub returns-clause-ahead : goal.returns-clause-ahead
returns-clause-ahead c = reserve-chosen c.args.reserve c.args.blocks.now c.args.at.now c.widen.new.at _ c.requires.old c.requires.ahead c.widen.ensures refl refl refl refl refl refl refl refl refl
