use Rattle.std.proofs.Common.{◌≡◌, ◌%◌, ◌-◌, ◌*◌, ◌≤◌, length, true}
use Rattle.std.specs.Prelude.{take}
use Rattle.block_device.specs.Contents.{replaced}
use Rattle.block_device.specs.Facts.{CountsNeverFall, IsDiskReady}
use Rattle.norbd_transfer.proofs.sectors.put_sectors.Given as goal

abbrev pub invariant-loop-done : goal.invariant-loop-done
invariant-loop-done g l = record {
  filled : (g.D.Disk.facts l.disk).contents ≡ replaced (g.D.Disk.facts l.fn.disk).contents (512 * l.fn.first) (take l.done l.bytes);
  ready : IsDiskReady (g.D.Disk.facts l.disk);
  sound : (g.D.Disk.facts l.disk).sound ≡ true;
  goes : CountsNeverFall (g.D.Disk.facts l.fn.disk) (g.D.Disk.facts l.disk);
  within : l.done ≤ length l.bytes;
  whole : l.done % 512 ≡ 0;
}

abbrev pub decreases-loop-done : goal.decreases-loop-done
decreases-loop-done g l = length l.bytes - l.done
