use Rattle.std.proofs.Common.{◌∙◌, ap, length}
use Rattle.page.specs.Tape.{answered, bus_of}
use Rattle.page.proofs.Taping.{noted, not_answered}
use Rattle.page.proofs.tape.TapedSpiBus.transact.Goals as goal

pub invariant_of-self : goal.invariant_of-self
invariant_of-self c =
    let e = c.in-Ok.ensures in
    record {
      room = c.put_row.ensures.size ∙ c.args.self.now.room;
      run = noted _ _ c.row_of-row.result _ _ (bus_of c.args.self.now.chip) _ c.args.self.now.room (ap length c.row_of-row.ensures) c.next-self.ensures c.put_row.ensures.put c.args.self.now.run
          (answered _ _ c.row_of-row.ensures e.frame (e.one_frame_less e.powered));
    }

pub invariant_of-self-in-Err : goal.invariant_of-self-in-Err
invariant_of-self-in-Err c =
    let e = c.in-Err.ensures in
    record {
      room = c.put_row-in-Err.ensures.size ∙ c.args.self.now.room;
      run = noted _ _ c.row_of-row-in-Err.result _ _ (bus_of c.args.self.now.chip) _ c.args.self.now.room (ap length c.row_of-row-in-Err.ensures) c.next-self-in-Err.ensures c.put_row-in-Err.ensures.put c.args.self.now.run
          (not_answered _ _ _ _ _ _ c.row_of-row-in-Err.ensures e.lost e.spared e.one_frame_less (λ off. (e.off off).1));
    }
