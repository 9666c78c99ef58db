-- A size of chips in KiB, and the number of connections.
use Rattle.std.proofs.Common.{ℕ, ◌*◌, IfSome, Option, Some, None, arith}
use Rattle.std.specs.Prelude.{unwrap_or}
use Rattle.chip_model.specs.Geometry.{IsChipSize}
use Rattle.norbd_line.specs.Line.{IsConns, IsSize}

pub size_of_chip : (kib : ℕ) → IsSize kib → IsChipSize (1024 * kib)
size_of_chip kib size = record {
  whole = omega (arith, size.2);
  least = omega (arith, size.0);
  most = omega (arith, size.1);
}

-- a line without a number of connections has the most
pub conns_or_most : (conns : Option ℕ) → IfSome conns IsConns → IsConns (unwrap_or conns 64)
conns_or_most (Some conns) range = range
conns_or_most None range = (omega arith, omega arith)
