use Rattle.std.proofs.Common.{◌∙◌, ap, sym, refl, arith, length}
use Rattle.std.proofs.lemmas.Bool.{true≢false}
use Rattle.chip_model.specs.Chip.{Chip, is_idle}
use Rattle.chip_simulator.specs.Sim.{chip_of}
use Rattle.chip_watch.specs.Changes.{change_of}
use Rattle.chip_watch.proofs.SimulatorLaws.{ended_long, longer}
use Rattle.chip_watch.proofs.shadow.Shadow.complete.Goals as goal

pub invariant_of-self : goal.invariant_of-self
invariant_of-self c =
    let s = c.args.self.now in
    let e = c.end.ensures in
    let long = ended_long (chip_of s.chip) (chip_of c.end.new.chip) e.chip in
    let idle = ap (λ (d : Chip). is_idle d.operation) e.chip in
    record {
      calm = e.calm;
      bytes = long ∙ s.bytes;
      sized = s.sized;
      full = s.full;
      fits = longer s.table (length (chip_of s.chip).memory) (length (chip_of c.end.new.chip).memory) (sym long) s.fits;
      no_cmp = s.no_cmp;
      no_wps = s.no_wps;
      goes = sym (ap (λ (d : Chip). change_of d.operation) e.chip);
      shown = λ r. absurd (true≢false (sym idle ∙ r));
      asked = λ r. absurd (true≢false (sym idle ∙ r));
      resting = λ r. refl;
      few = omega arith;
    }
