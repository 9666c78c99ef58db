use Rattle.std.proofs.Common.{◌≡◌, true, false, not, length}
use Rattle.block_device.specs.Facts.{CountsNeverFall}
use Rattle.page.specs.Story.{power_at, Story}
use Rattle.page.proofs.play.play.Given as goal

abbrev pub invariant-loop-k : goal.invariant-loop-k
invariant-loop-k g l = record {
  sound : (g.D.Disk.facts l.disk).sound ≡ true;
  quick : (g.D.Disk.facts l.disk).slow ≡ false;
  story : Story (g.D.Disk.facts l.fn.disk).contents l.script l.answers l.k (g.D.Disk.facts l.disk).contents;
  power : l.power ≡ power_at l.script l.answers l.k;
  on : l.power.on ≡ not (g.D.Disk.facts l.disk).cut;
  long : length l.answers ≡ length l.fn.answers;
  goes : CountsNeverFall (g.D.Disk.facts l.fn.disk) (g.D.Disk.facts l.disk);
}
