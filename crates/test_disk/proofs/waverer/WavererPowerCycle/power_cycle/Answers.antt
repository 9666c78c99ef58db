use Rattle.std.proofs.Common.{◌∙◌, [], ◌∷◌, subst}
use Rattle.chip_simulator.specs.Sim.{chip_of}
use Rattle.chip_simulator.specs.declared.sim_chip.SimChip.{SimChip}
use Rattle.restored_disk.specs.Lives.{IsNextLife}
use Rattle.test_disk.specs.Waverer.{AreBytes, draw_of}
use Rattle.test_disk.proofs.NextLives.{next_life}
use Rattle.test_disk.proofs.waverer.WavererPowerCycle.power_cycle.Goals as goal

pub returns-clause-next : goal.returns-clause-next
returns-clause-next c idle =
    let same = c.into_inner-chip.ensures in
    let chip = c.into_inner-chip.result in
    let small = subst AreBytes c.bytes.ensures c.are_bytes.ensures in
    let masks = subst AreBytes c.weak.ensures c.are_bytes-2.ensures in
    subst (λ (s : SimChip). IsNextLife (draw_of (15 ∷ [])) (chip_of s) (chip_of c.new.result.life.bus)) same
    (next_life (15 ∷ []) (chip_of chip) (chip_of c.new.result.life.bus) (rw same idle) (c.new.ensures.chip ∙ c.power_cycle.ensures.exact) small masks)
