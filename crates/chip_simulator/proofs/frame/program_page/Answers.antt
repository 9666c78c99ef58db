use Rattle.std.proofs.Common.{◌∙◌, sym}
use Rattle.std.specs.Prelude.{bit_and}
use Rattle.chip_model.proofs.MemoryLaws.{programmed_page}
use Rattle.chip_simulator.proofs.RunLaws.{sliced_runs}
use Rattle.chip_simulator.proofs.frame.program_page.Goals as goal

pub returns : goal.returns
returns c =
    let m = c.args.memory.now in
    let bytes = c.args.bytes.now in
    sliced_runs bit_and m c.program_run.new.memory c.program_run-2.new.memory c.args.at bytes c.before_end-first.result c.requires.few c.before_end-first.ensures c.program_run.ensures c.program_run-2.ensures
    ∙ sym (programmed_page m c.args.at bytes)
