use Rattle.std.proofs.Common.{length}
use Rattle.sector_map.proofs.Replacing.{content-found, absent-found}
use Rattle.sector_map.proofs.steps.find_sector.Goals as goal

pub returns-in_ok-read-in-Some-clause-ok : goal.returns-in_ok-read-in-Some-clause-ok
returns-in_ok-read-in-Some-clause-ok g c sound single sector hold = content-found sector c.args.holder c.in-Some.held c.read.new.into c.args.stock.now.slots.memory
    c.in-Some.is c.in_ok-read-in-Some.ensures.ok sound single hold

pub returns-in-None-clause-ok : goal.returns-in-None-clause-ok
returns-in-None-clause-ok g c sound single sector hold = absent-found sector (length c.args.into.now) c.args.holder c.fill.new.self c.args.stock.now.slots.memory c.in-None.is
    (c.fill.ensures.after (λ y e. e)) c.requires.room sound hold
