use Rattle.std.proofs.Common.{◌∙◌, ap, arith}
use Rattle.chip_simulator.specs.Sim.{fresh_chip}
use Rattle.page.proofs.Taping.{run_begins}
use Rattle.page.proofs.tape.Taped.new.Goals as goal

pub returns-in-Ok-new : goal.returns-in-Ok-new
returns-in-Ok-new c = c.in-Ok-new.ensures.chip ∙ ap (λ m. fresh_chip m) (c.in-Ok.ensures.items_if_clones_equal (λ y e. e))

pub invariant_of-result : goal.invariant_of-result
invariant_of-result c = record {
  room = let e = c.in-Ok-vec.ensures.len in omega (arith, e, c.in-Ok-vec.rows.ok);
  run = λ _. ∣ run_begins c.in-Ok-vec.rows.items _ (c.in-Ok-new.ensures.chip ∙ ap (λ m. fresh_chip m) (c.in-Ok.ensures.items_if_clones_equal (λ y e. e))) c.in-Ok-new.ensures.unarmed ∣₁;
}
