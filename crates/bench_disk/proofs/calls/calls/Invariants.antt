use Rattle.std.proofs.Common.{◌≡◌, ◌+◌, ◌≤◌, length}
use Rattle.bench_disk.specs.Call.{call_bytes}
use Rattle.bench_disk.specs.declared.call.Call.TheVariants.{Tidy}
use Rattle.bench_disk.proofs.calls.calls.Given as goal

-- the sizes stay, and each tidying so far left less work
abbrev pub invariant-loop-number : goal.invariant-loop-number
invariant-loop-number g l = record {
  size : length (g.D.Disk.facts l.disk).contents ≡ 12830720;
  bytes : length l.buffer ≡ call_bytes l.call;
  tidied : l.call ≡ Tidy → (g.D.Disk.facts l.disk).work + l.number ≤ (g.D.Disk.facts l.initial.disk).work;
}
