use Rattle.std.proofs.Common.{◌∙◌, length, sym}
use Rattle.std.specs.Prelude.{◌/◌}
use Rattle.disk_log.proofs.Finding.{head-lost}
use Rattle.disk_log.proofs.Settles.{headless-replayed}
use Rattle.disk_log.proofs.replaying.replay.Goals as goal

pub returns-in-None-clause-contents : goal.returns-in-None-clause-contents
returns-in-None-clause-contents g c sound =
    headless-replayed (length (g.D.Disk.facts c.args.disk.now).contents / 512) c.args.log.now (g.D.Disk.facts c.args.disk.now).contents (head-lost c.args.log.now (sym c.read_log_head.ensures ∙ c.in-None.is))
