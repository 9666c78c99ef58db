use Rattle.disk_log.proofs.Disks.{in-range, writes-on, unroomed}
use Rattle.disk_log.proofs.logged.LoggedDiskDisk.write.Goals as goal

pub put-requires : goal.put-requires
put-requires g c = in-range _ _ _ _ c.in-Ok.ensures.goes.size c.requires

pub returns-in-Ok : goal.returns-in-Ok
returns-in-Ok g c =
    let w = writes-on _ _ _ _ c.args.first c.args.from.now _ _ _ c.in-Ok.ensures c.put.ensures in
    record { contents = w.contents; sound = w.sound; goes = w.goes; latches = w.latches }

pub returns-in-Err : goal.returns-in-Err
returns-in-Err g c =
    let w = unroomed (Unit {0}) (Unit {0}) c.in-Err.error c.args.first c.args.from.now _ _ c.requires c.in-Err.ensures in
    record { contents = w.contents; sound = w.sound; goes = w.goes; latches = w.latches }
