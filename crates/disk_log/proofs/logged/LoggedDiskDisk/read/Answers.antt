use Rattle.std.proofs.Common.{◌∙◌, sym}
use Rattle.disk_log.proofs.Disks.{in-range}
use Rattle.disk_log.proofs.logged.LoggedDiskDisk.read.Goals as goal

pub read-requires : goal.read-requires
read-requires g c = in-range _ _ _ _ (c.args.self.now.size ∙ sym c.args.self.now.told) c.requires
