use Rattle.std.proofs.Common.{◌∙◌, sym}
use Rattle.std.proofs.lemmas.Bool.{eqb-true}
use Rattle.chip_simulator.specs.Fits.{operation_of}
use Rattle.chip_simulator.proofs.MaskLaws.{filled_unit}
use Rattle.chip_simulator.proofs.WeakLaws.{firmed_none, firmed_erase}
use Rattle.chip_simulator.proofs.weak.firm.Goals as goal

pub returns-then-is_empty-clause-firmed : goal.returns-then-is_empty-clause-firmed
returns-then-is_empty-clause-firmed c =
    firmed_none (operation_of c.args.latched.now.bytes c.args.operation) c.args.weak.now (eqb-true _ _ (sym c.is_empty.ensures ∙ c.if-is_empty.true))

pub returns-in-Erasing-clause-firmed : goal.returns-in-Erasing-clause-firmed
returns-in-Erasing-clause-firmed c = firmed_erase c.args.operation c.args.latched.now.bytes c.args.weak.now c.fill_unit.new.memory c.in-Erasing.at c.in-Erasing.size c.in-Erasing.is c.fill_unit.ensures.exact
