use Rattle.std.proofs.Common.{ℕ, List, Ok, subst}
use Rattle.disk_log.specs.Reading.{ReadsLog}
use Rattle.disk_log.proofs.Starts.{checkpoint-long}
use Rattle.disk_log.proofs.taking.take_up.Goals as goal

pub take_checkpoint-requires-clause-long : goal.take_checkpoint-requires-clause-long
take_checkpoint-requires-clause-long g c =
    checkpoint-long c.args.sectors c.in-Checkpoint.at c.args.image.now c.args.log.now
    (subst (λ f. (was : List ℕ) × ReadsLog c.args.sectors c.args.log.now was (Ok f) c.args.image.now) c.in-Checkpoint.is c.requires.read)
