use Rattle.std.proofs.Common.{◌≡◌, ◌≢◌, ℕ, ◌+◌, ◌*◌, ◌<◌, ◌≤◌, length}
use Rattle.std.specs.Prelude.{drop}
use Rattle.std.specs.Int.{bit_at}
use Rattle.chip_model.specs.Memory.{byte}
use Rattle.nor_layout.specs.declared.header.Header.TheVariants as headers
use Rattle.nor_layout.specs.Headers.{header_of}
use Rattle.journal_slots.specs.Programs.{IsFirmByte}
use Rattle.journal_slots.proofs.firm.firm_bytes.Given as goal

abbrev pub invariant-loop-place : goal.invariant-loop-place
invariant-loop-place l = record {
  size : length l.head ≡ length l.fn.head;
  each : (k : ℕ) → k < 44 → IsFirmByte l.fn.head l.head k;
  dead : (i : ℕ) → i < l.place → header_of (drop (16 + 4 * i) l.fn.head) ≡ headers.Dead
      → byte l.fn.head (16 + 4 * i) ≢ 254 → bit_at (byte l.head (16 + 4 * i)) 2 ≡ 0;
  begun : (i : ℕ) → i < l.place → byte l.fn.head (16 + 4 * i) ≡ 254 → byte l.head (16 + 4 * i) ≡ 254;
  rest : (k : ℕ) → 16 + 4 * l.place ≤ k → byte l.head k ≡ byte l.fn.head k;
}
