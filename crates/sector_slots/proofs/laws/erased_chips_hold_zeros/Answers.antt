use Rattle.std.proofs.Common.{◌+◌, arith}
use Rattle.sector_slots.proofs.ErasedLaws.{blank-holds_zeros}
use Rattle.sector_slots.proofs.laws.erased_chips_hold_zeros.Goals as goal

pub returns : goal.returns
returns c = λ m size erased.
    let e = c.erased_chips_are_settled.ensures m size erased in
    let h = blank-holds_zeros m size (λ b low. e.1 (b + 4) (omega arith) (omega (arith, low))) in
    (e.0, h.0, h.1, h.2, h.3)
