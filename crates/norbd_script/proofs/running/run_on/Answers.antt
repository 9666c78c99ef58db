use Rattle.std.proofs.Common.{subst}
use Rattle.norbd_script.specs.Lives.{OnBus, Stay}
use Rattle.norbd_script.specs.Running.{RunsOn}
use Rattle.norbd_script.proofs.running.run_on.Goals as goal

pub returns-clause-says : goal.returns-clause-says
returns-clause-says g c =
    let bus = c.run_as_is.result.0 in
    let new : OnBus = record { chip = g.B.SpiBus.chip bus; cuts = g.B.SpiBus.cuts bus; slows = g.B.SpiBus.slows bus } in
    let stay : Stay = record { input = g.S.Source.remaining c.args.reader.now; was = g.W.Sink.written c.args.writer.now; answer = c.run_as_is.result.1; left = g.S.Source.remaining c.run_as_is.new.reader; is = g.W.Sink.written c.run_as_is.new.writer } in
    subst (λ f. RunsOn f g.P.Provenance.slows stay new) c.with_policy.ensures c.run_as_is.ensures.says
