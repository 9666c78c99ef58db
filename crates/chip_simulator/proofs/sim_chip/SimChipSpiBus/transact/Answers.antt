use Rattle.std.proofs.Common.{arith}
use Rattle.chip_model.specs.Cut.{falls, after_it}
use Rattle.chip_simulator.specs.Sim.{chip_in}
use Rattle.chip_simulator.proofs.sim_chip.SimChipSpiBus.transact.Goals as goal

pub returns-clause-lost : goal.returns-clause-lost
returns-clause-lost c = falls (c.if-not-self.false) (after_it (chip_in c.take-accepted.new.self) c.take-accepted.new.recv c.take-accepted.ensures.frame c.turn_off.ensures.cut) (omega (arith, c.turn_off.ensures.cuts, c.take-accepted.ensures.cuts))
