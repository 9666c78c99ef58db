use Rattle.std.proofs.Common.{rules, arith, refl}
use Rattle.std.proofs.lemmas.Grind.{common_steps}
use Rattle.nbd_session.proofs.session.Session.reset.Goals as goal

pub invariant_of-self : goal.invariant_of-self
invariant_of-self c = search rules

pub returns-clause-fresh : goal.returns-clause-fresh
returns-clause-fresh c =
    record {
      export_is = search rules;
      stage = refl;
      handshake = grind (arith, common_steps);
      running = refl;
      filled = refl;
      reply = grind (arith, common_steps);
      represents = search rules;
    }
