use Rattle.std.proofs.Common.{◌≡◌, ◌+◌, cond, ltb}
use Rattle.chip_model.specs.Frames.{with_polls}
use Rattle.serprog_chip.proofs.erasing.wait_until_idle.Given as goal

abbrev pub invariant-loop-read : goal.invariant-loop-read
invariant-loop-read g l = record {
  chip : g.B.SpiBus.chip l.bus ≡ with_polls (g.B.SpiBus.chip l.fn.bus) l._read;
  cuts : g.B.SpiBus.cuts l.bus ≡ g.B.SpiBus.cuts l.fn.bus;
  slows : g.B.SpiBus.slows l.bus ≡ g.B.SpiBus.slows l.fn.bus + cond (ltb l._read 65535) 0 1;
}
