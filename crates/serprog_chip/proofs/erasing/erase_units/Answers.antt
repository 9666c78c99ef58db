use Rattle.std.proofs.Common.{arith, ◌≡◌, ◌+◌, ◌*◌, ◌≤◌, ◌∙◌}
use Rattle.std.proofs.lemmas.Result.{err_from_is_err_and}
use Rattle.serprog_chip.proofs.Laws.{same_length, next_chip, later_failure}
use Rattle.serprog_chip.proofs.erasing.erase_units.Goals as goal

pub erase_unit-requires-in-loop-k-clause-range : goal.erase_unit-requires-in-loop-k-clause-range
erase_unit-requires-in-loop-k-clause-range g c =
    let n = same_length (g.B.SpiBus.chip c.args.bus.now) (g.B.SpiBus.chip c.loop-k.bus) c.args.at (c.loop-k.k * 4096) c.loop-k.invariant.chip in
    omega (arith, n, c.loop-k-test.true, c.requires.range)

pub returns-in_err-erase_unit-2-clause-err : goal.returns-in_err-erase_unit-2-clause-err
returns-in_err-erase_unit-2-clause-err g c =
    let fits : c.loop-k.k * 4096 + 4096 ≤ c.args.count = omega (arith, c.loop-k-test.true) in
    let failed = later_failure c.in_err-erase_unit-2.field-0.0 (g.B.SpiBus.chip c.args.bus.now) (g.B.SpiBus.chip c.loop-k.bus) _ (g.B.SpiBus.cuts c.args.bus.now) (g.B.SpiBus.cuts c.loop-k.bus) _ c.args.at (c.loop-k.k * 4096) 4096 c.args.count fits c.loop-k.invariant.cuts c.loop-k.invariant.chip c.in_err-erase_unit-2.ensures.err in
    let p = err_from_is_err_and c.from_residual-in_err-erase_unit-2.result c.from_residual-in_err-erase_unit-2.ensures.1 in
    rw (p.1, p.2) failed

pub loop-k-preserved : goal.loop-k-preserved
loop-k-preserved g c =
    let sum : c.loop-k.k * 4096 + 4096 ≡ (c.loop-k.k + 1) * 4096 = omega arith in
    record {
      some = omega arith;
      chip = next_chip (g.B.SpiBus.chip c.args.bus.now) (g.B.SpiBus.chip c.loop-k.bus) _ c.args.at (c.loop-k.k * 4096) 4096 _ sum c.loop-k.invariant.chip c.in_ok-erase_unit-2.ensures.chip;
      cuts = c.in_ok-erase_unit-2.ensures.cuts ∙ c.loop-k.invariant.cuts;
    }
