use Rattle.std.proofs.Common.{ap, sym}
use Rattle.chip_simulator.specs.Sim.{chip_of, with_sfdp}
use Rattle.chip_simulator.specs.TableLaws.{set-sfdp_table}
use Rattle.chip_simulator.proofs.sim_chip.SimChip.spoil_sfdp.Goals as goal

pub returns-clause-chip : goal.returns-clause-chip
returns-clause-chip c = ap (λ t. with_sfdp (chip_of c.args.self.now) t) (sym (set-sfdp_table c.args.self.now.cells.size c.args.self.now.cells.spoiled))
