use Rattle.std.proofs.Common.{◌≡◌, ◌∙◌, sym, subst, List, ℕ, arith}
use Rattle.chip_model.specs.Memory.{Torn}
use Rattle.chip_model.specs.Chip.{programmed}
use Rattle.chip_simulator.specs.Mask.{torn_byte, half_programmed}
use Rattle.chip_simulator.proofs.MaskLaws.{half_page, half_torn}
use Rattle.chip_simulator.proofs.RunLaws.{sliced_runs}
use Rattle.chip_simulator.proofs.frame.tear_page.Goals as goal

pub returns-clause-exact : goal.returns-clause-exact
returns-clause-exact c =
    let m = c.args.memory.now in
    let bytes = c.args.bytes.now in
    sliced_runs (torn_byte c.args.mask) m c.tear_run.new.memory c.tear_run-2.new.memory c.args.at bytes c.before_end-first.result c.requires.few c.before_end-first.ensures c.tear_run.ensures c.tear_run-2.ensures
    ∙ sym (half_page c.args.mask m c.args.at bytes)

pub returns-clause-torn : goal.returns-clause-torn
returns-clause-torn c =
    let m = c.args.memory.now in
    let bytes = c.args.bytes.now in
    let ex : c.tear_run-2.new.memory ≡ half_programmed c.args.mask m c.args.at bytes =
    sliced_runs (torn_byte c.args.mask) m c.tear_run.new.memory c.tear_run-2.new.memory c.args.at bytes c.before_end-first.result c.requires.few c.before_end-first.ensures c.tear_run.ensures c.tear_run-2.ensures
    ∙ sym (half_page c.args.mask m c.args.at bytes) in
    subst (λ (x : List ℕ). Torn m (programmed m c.args.at bytes) x) (sym ex)
    (half_torn c.args.mask m c.args.at bytes (omega arith) (λ i. omega (arith, c.type_inv.bytes i)))
