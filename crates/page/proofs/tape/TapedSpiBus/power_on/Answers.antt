use Rattle.std.proofs.Common.{◌∙◌, refl}
use Rattle.page.specs.Tape.{bus_of, turned_on, turning_on}
use Rattle.page.proofs.Taping.{noted, comes_on}
use Rattle.page.proofs.tape.TapedSpiBus.power_on.Goals as goal

pub invariant_of-self : goal.invariant_of-self
invariant_of-self c =
    let p = c.power_on.ensures in
    record {
      room = c.put_row.ensures.size ∙ c.args.self.now.room;
      run = noted _ _ turning_on _ _ (bus_of c.args.self.now.chip) _ c.args.self.now.room refl c.next-self.ensures c.put_row.ensures.put c.args.self.now.run
          (turned_on refl (comes_on _ _ _ _ p.cuts p.powers_on) p.armed);
    }
