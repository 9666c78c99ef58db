use Rattle.std.proofs.Common.{refl, List, ℕ, take, ap, sym, subst, ◌∙◌}
use Rattle.chip_model.specs.Memory.{Torn, TornErase}
use Rattle.chip_model.specs.Chip.{Operation, programmed}
use Rattle.chip_model.specs.Cut.{weakened, TornMemory, TornProtection}
use Rattle.chip_simulator.specs.Fits.{operation_of}
use Rattle.chip_simulator.specs.Sim.{operation_in}
use Rattle.chip_simulator.proofs.WeakLaws.{kept_items}
use Rattle.chip_simulator.proofs.frame.Cells.turn_off.Goals.{in-Idle, in-Programming, in-Erasing, in-Setting}
use Rattle.chip_simulator.proofs.frame.Cells.turn_off.Goals as goal

pub returns-clause-cut : goal.returns-clause-cut
returns-clause-cut c =
    let old = c.args.self.now in
    record {
      memory = elim c.match-self.branch [
        | in-Idle w ↦ rw (w.self-is, w.in-Idle.is) refl
        | in-Programming w ↦
            let torn = w.tear_page.ensures.torn in
            let kept = kept_items old.memory w.deref_mut-in-Programming.result.now w.tear_page.new.memory w.deref_mut-in-Programming.ensures.value torn.same_length in
            rw (w.self-is, w.in-Programming.is, kept, ← w.first.ensures.bytes, ← w.deref_mut-in-Programming.ensures.value) torn
        | in-Erasing w ↦
            let torn = w.fill_unit.ensures.torn in
            let kept = kept_items old.memory w.deref_mut-in-Erasing.result.now w.fill_unit.new.memory w.deref_mut-in-Erasing.ensures.value torn.same_length in
            rw (w.self-is, w.in-Erasing.is, kept, ← w.deref_mut-in-Erasing.ensures.value) torn
        | in-Setting w ↦ rw (w.self-is, w.in-Setting.is) refl
      ];
      weak = kept_items old.weak c.deref_mut.result.now c.weaken.new.weak c.deref_mut.ensures.value c.weaken.ensures.length
          ∙ (c.weaken.ensures.weakened
          ∙ (ap (λ (m : List ℕ). weakened (operation_in old) m c.deref_mut.result.now) c.deref.ensures.value
          ∙ ap (λ (w : List ℕ). weakened (operation_in old) old.memory.items w) c.deref_mut.ensures.value));
      sfdp = refl;
      protection = elim c.match-self.branch [
        | in-Idle w ↦ rw (w.self-is, w.in-Idle.is) refl
        | in-Programming w ↦ rw (w.self-is, w.in-Programming.is) refl
        | in-Erasing w ↦ rw (w.self-is, w.in-Erasing.is) refl
        | in-Setting w ↦ rw (w.self-is, w.in-Setting.is) w.mixed-self.ensures.mixed
      ];
      status2 = refl;
      status3 = refl;
      enabled = refl;
      operation = refl;
      polls = refl;
      powered = refl;
    }
