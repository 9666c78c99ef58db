use Rattle.std.specs.Prelude.{true, ◌&&◌, nat_le, ℕ, ◌+◌, ◌*◌, ◌/◌, Bool, List, take}
use Rattle.chip_model.specs.Chip as c
use Rattle.chip_simulator.specs.declared.frame.Operation.{Operation}
use Rattle.chip_simulator.specs.declared.frame.Operation.TheVariants as o

-- the operation in progress, where these bytes are latched
abbrev pub operation_of : List ℕ → Operation → c.Operation
operation_of latched o.Idle = c.Idle
operation_of latched (o.Programming at count) = c.Programming at (take count latched)
operation_of latched (o.Erasing at size) = c.Erasing at size
operation_of latched (o.Setting value) = c.Setting value

-- the range of an operation lies in the memory
abbrev pub fits_in : Operation → ℕ → Bool
fits_in o.Idle size = true
fits_in (o.Programming at count) size = nat_le (at / 256 * 256 + 256) size && nat_le count 256
fits_in (o.Erasing at n) size = nat_le (at + n) size
fits_in (o.Setting value) size = true
