use Rattle.disk_log.proofs.logged.LoggedDiskDisk.sectors.Goals as goal

pub returns : goal.returns
returns g c = c.args.self.now.told
