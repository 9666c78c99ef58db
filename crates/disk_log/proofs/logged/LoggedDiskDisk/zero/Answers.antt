use Rattle.std.proofs.Common.{◌*◌, ℕ}
use Rattle.std.specs.Prelude.{replicate}
use Rattle.std.proofs.lemmas.List.{length-replicate}
use Rattle.disk_log.proofs.Disks.{in-range, writes-on, unroomed}
use Rattle.disk_log.proofs.logged.LoggedDiskDisk.zero.Goals as goal

pub put_zeros-requires : goal.put_zeros-requires
put_zeros-requires g c = in-range _ _ _ _ c.in-Ok.ensures.goes.size c.requires

pub returns-in-Ok : goal.returns-in-Ok
returns-in-Ok g c =
    let w = writes-on _ _ _ _ c.args.first (replicate (512 * c.args.count) 0) _ _ _ c.in-Ok.ensures c.put_zeros.ensures in
    record { contents = w.contents; sound = w.sound; goes = w.goes; latches = w.latches }

pub returns-in-Err : goal.returns-in-Err
returns-in-Err g c =
    let w = unroomed (Unit {0}) (Unit {0}) c.in-Err.error c.args.first (replicate (512 * c.args.count) 0) _ _ (rw (length-replicate {A = ℕ} (512 * c.args.count) 0) c.requires) c.in-Err.ensures in
    record { contents = w.contents; sound = w.sound; goes = w.goes; latches = w.latches }
