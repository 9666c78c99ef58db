use Rattle.std.proofs.Common.{◌∙◌}
use Rattle.nbd_history.specs.Notes.{first_noted}
use Rattle.nbd_share.proofs.Chronicles.{latched_tidied, told_tidied}
use Rattle.nbd_share.proofs.chronicle.Chronicle.tidy.Goals as goal

pub invariant_of-self : goal.invariant_of-self
invariant_of-self g c =
    let inv = c.self.invariant in
    record {
      latched = λ s. latched_tidied c.self.inside.shared c.tidy.new.self c.tidy.result (inv.latched s) c.tidy.ensures;
      recorded = λ k. c.tidy.ensures.rows ∙ inv.recorded k;
      history = λ s. told_tidied g.L.OneServer.export g.L.OneServer.base c.self.inside.shared c.tidy.new.self c.tidy.result c.self.inside.keeper (first_noted c.self.inside.noted) (inv.history s) c.tidy.ensures;
    }
