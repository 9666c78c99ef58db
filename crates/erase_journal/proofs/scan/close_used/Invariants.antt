use Rattle.std.proofs.Common.{◌≡◌, ℕ, ◌+◌, ◌*◌, ◌<◌, ◌≤◌, false, length}
use Rattle.chip_model.specs.Memory.{byte}
use Rattle.erase_journal.specs.Firm.{LeavesEntry}
use Rattle.erase_journal.specs.Scans.{is_free_in}
use Rattle.erase_journal.proofs.scan.close_used.Given as goal

abbrev pub invariant-loop-i : goal.invariant-loop-i
invariant-loop-i l = record {
  size : length l.bytes ≡ 256;
  each : (k : ℕ) → k < 64 → LeavesEntry k l.fn.bytes l.bytes;
  closed : (k : ℕ) → k < l.i → is_free_in l.fn.bytes k ≡ false → byte l.bytes (4 * k + 3) < 255;
  rest : (k : ℕ) → 4 * l.i ≤ k → byte l.bytes k ≡ byte l.fn.bytes k;
}
