use Rattle.nor_driver.specs.State.{bits_in}
use Rattle.erase_journal.proofs.Interrupted.{journals-recovered}
use Rattle.erase_journal.proofs.Still.{fewer-interrupted}
use Rattle.erase_journal.proofs.journal.Journal.recover_as.Goals as goal

pub returns-in-Ok-Some-clause-firm : goal.returns-in-Ok-Some-clause-firm
returns-in-Ok-Some-clause-firm g c firmly h =
    journals-recovered (bits_in (g.N.Nor.state c.args.nor)) (bits_in (g.N.Nor.state c.settle.new.nor)) c.in-Ok-Some.ensures.ends.kept.bits (rw c.in-Ok-Some.field-0-is at c.in-Ok-Some.ensures.settled) (rw c.in-Ok-Some.field-0-is at (c.in-Ok-Some.ensures.settles firmly)) h

pub returns-in-Ok-None-clause-rests : goal.returns-in-Ok-None-clause-rests
returns-in-Ok-None-clause-rests g c h left =
    let still = c.in-Ok-None.ensures.rests h in
    fewer-interrupted (bits_in (g.N.Nor.state c.args.nor)) (bits_in (g.N.Nor.state c.settle.new.nor)) still.1 still.0 left

pub returns-in-Err-Cut-clause-rests : goal.returns-in-Err-Cut-clause-rests
returns-in-Err-Cut-clause-rests g c h left =
    let still = c.in-Err-Cut.ensures.rests h in
    fewer-interrupted (bits_in (g.N.Nor.state c.args.nor)) (bits_in (g.N.Nor.state c.settle.new.nor)) still.1 still.0 left

pub returns-in-Err-Slow-clause-rests : goal.returns-in-Err-Slow-clause-rests
returns-in-Err-Slow-clause-rests g c h left =
    let still = c.in-Err-Slow.ensures.rests h in
    fewer-interrupted (bits_in (g.N.Nor.state c.args.nor)) (bits_in (g.N.Nor.state c.settle.new.nor)) still.1 still.0 left

pub returns-in-Ok-Some-clause-erased : goal.returns-in-Ok-Some-clause-erased
returns-in-Ok-Some-clause-erased g c b from to is = (rw c.in-Ok-Some.field-0-is at c.in-Ok-Some.ensures.erased) b is
