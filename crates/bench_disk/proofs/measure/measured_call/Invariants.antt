use Rattle.std.proofs.Common.{◌≡◌, length}
use Rattle.bench_disk.specs.Call.{call_bytes}
use Rattle.bench_disk.proofs.measure.measured_call.Given as goal

-- the size stays
abbrev pub invariant-loop-go : goal.invariant-loop-go
invariant-loop-go g l = length l.buffer.items ≡ call_bytes l.call
