use Rattle.std.proofs.Common.{◌<◌, ◌-◌, ◌^◌, arith}
use Rattle.std.specs.Prelude.{bit_and}
use Rattle.std.proofs.lemmas.Nat.{or_lt, and_le_l}
use Rattle.chip_simulator.proofs.MaskLaws.{mixed_by}
use Rattle.chip_simulator.proofs.power.mixed.Goals as goal

pub returns-clause-mixed : goal.returns-clause-mixed
returns-clause-mixed c = mixed_by c.args.mask c.args.old c.args.new (omega arith) (omega arith)

pub returns-clause-small : goal.returns-clause-small
returns-clause-small c =
    let a : bit_and c.args.old (255 - c.args.mask) < 2 ^ 6 = omega (arith, and_le_l c.args.old (255 - c.args.mask)) in
    let b : bit_and c.args.new c.args.mask < 2 ^ 6 = omega (arith, and_le_l c.args.new c.args.mask) in
    or_lt 6 _ _ a b
