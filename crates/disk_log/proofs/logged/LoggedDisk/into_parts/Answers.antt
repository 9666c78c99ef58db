use Rattle.disk_log.specs.Power.{IsInOrder}
use Rattle.disk_log.proofs.Disks.{to-files}
use Rattle.disk_log.proofs.logged.LoggedDisk.into_parts.Goals as goal

pub returns-clause-kept : goal.returns-clause-kept
returns-clause-kept g c sound = to-files (λ m. IsInOrder g.D.ImageDisk.represents m) (g.F.ImageFiles.medium c.args.self.files) (c.args.self.kept sound)
