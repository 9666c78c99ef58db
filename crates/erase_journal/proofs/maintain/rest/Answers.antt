use Rattle.std.proofs.Common.{None, subst, sym}
use Rattle.erase_journal.specs.declared.unused.Unused.{Unused}
use Rattle.erase_journal.proofs.Knowing.{known-rest}
use Rattle.erase_journal.specs.Spending.{at_rest}
use Rattle.erase_journal.specs.Votes.{IsTiredAnswer}
use Rattle.erase_journal.specs.Journals.{unused}
use Rattle.erase_journal.proofs.Lasting.{same-refl}
use Rattle.erase_journal.proofs.maintain.rest.Goals as goal

pub returns-in-None-clause-maintains : goal.returns-in-None-clause-maintains
returns-in-None-clause-maintains g c ready =
    let m = (g.N.Nor.state c.args.nor.now).memory in
    let r = rw c.in-None.is at c.lowest_tired.ensures in
    let q : IsTiredAnswer (unused m) None = subst (λ (u : Unused). IsTiredAnswer u None) (sym (known-rest c.args.known.now m (c.requires.known ready))) r in
    at_rest (unused m) q.0 q.1 q.2 (same-refl (unused m))
