-- What the calls of the disk are. Source: own.
use Rattle.std.specs.Prelude.{ℕ, ◌*◌, ◌%◌}
use Rattle.bench_disk.specs.declared.call.Call.{Call}
use Rattle.bench_disk.specs.declared.call.Call.TheVariants.{ShortRead, LongRead, FirstWrite}
use Rattle.bench_disk.specs.declared.call.Call.TheVariants.{ShortWrite, LongWrite, CopyingWrite}
use Rattle.bench_disk.specs.declared.call.Call.TheVariants.{Tidy}

-- how many bytes a call reads, writes or erases
abbrev pub call_bytes : Call → ℕ
call_bytes ShortRead = 512
call_bytes LongRead = 65536
call_bytes FirstWrite = 512
call_bytes ShortWrite = 512
call_bytes LongWrite = 65536
call_bytes CopyingWrite = 512
call_bytes Tidy = 4096

-- how many calls are timed in one go
abbrev pub calls_of : Call → ℕ
calls_of ShortRead = 20000
calls_of LongRead = 500
calls_of FirstWrite = 400
calls_of ShortWrite = 400
calls_of LongWrite = 20
calls_of CopyingWrite = 2000
calls_of Tidy = 400

-- the first sector of a call: one in seven, or 128 sectors after another, and then from the first
-- again
abbrev pub first_of : Call → ℕ → ℕ
first_of ShortRead number = number % 3580 * 7
first_of LongRead number = number % 195 * 128
first_of FirstWrite number = number % 3580 * 7
first_of ShortWrite number = number % 3580 * 7
first_of LongWrite number = number % 195 * 128
first_of CopyingWrite number = 8
first_of Tidy number = 0
