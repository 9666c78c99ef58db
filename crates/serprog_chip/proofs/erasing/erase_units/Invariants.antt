use Rattle.std.proofs.Common.{◌≡◌, ◌*◌, ◌<◌}
use Rattle.chip_model.specs.Chip.{Erasing, completed}
use Rattle.chip_model.specs.Frames.{starts}
use Rattle.serprog_chip.proofs.erasing.erase_units.Given as goal

abbrev pub invariant-loop-k : goal.invariant-loop-k
invariant-loop-k g l = record {
  some : 0 < l.k;
  chip : g.B.SpiBus.chip l.bus ≡ completed (starts (g.B.SpiBus.chip l.fn.bus) (Erasing l.at (l.k * 4096)));
  cuts : g.B.SpiBus.cuts l.bus ≡ g.B.SpiBus.cuts l.fn.bus;
}
