use Rattle.std.proofs.Common.{◌∙◌, sym}
use Rattle.std.proofs.lemmas.Bool.{eqb-true}
use Rattle.chip_simulator.specs.Fits.{operation_of}
use Rattle.chip_simulator.proofs.WeakLaws.{weakened_none}
use Rattle.chip_simulator.proofs.weak.weaken.Goals as goal

pub returns-then-is_empty-clause-weakened : goal.returns-then-is_empty-clause-weakened
returns-then-is_empty-clause-weakened c =
    weakened_none (operation_of c.args.latched.now.bytes c.args.operation) c.args.memory.now c.args.weak.now (eqb-true _ _ (sym c.is_empty.ensures ∙ c.if-is_empty.true))
