use Rattle.std.proofs.Common.{ap, refl, subst, true, ◌≡◌, ◌∙◌}
use Rattle.std.proofs.lemmas.Result.{IfOk-weaker}
use Rattle.clap.specs.Words.{App, FailsBy, fault_of, is_simple, is_simple_and_free, subcommand_of}
use Rattle.clap.proofs.OnLiterals.{clap_on_literals}
use Rattle.norbd_line.specs.CommandLine.{norbd_app, texts_of}
use Rattle.norbd_line.proofs.commands.parse.Goals as goal

simple : is_simple norbd_app ≡ true
unfolding clap_on_literals
simple = refl

free : is_simple_and_free norbd_app ≡ true
unfolding clap_on_literals
free = refl

pub returns : goal.returns
returns c =
    let app_is = c.in_ok-whole_command.ensures.app in
    let parse = c.try_get_matches_from in
    let words = texts_of c.args.words.now in
    record {
      matches = IfOk-weaker parse.result _ _ (λ m h. (h (ap is_simple app_is ∙ simple)).1 ∙ ap (λ (a : App). subcommand_of a words) app_is) parse.ensures.matches;
      kinds = subst (λ (a : App). FailsBy (fault_of a words) parse.result) app_is (parse.ensures.kinds (ap is_simple_and_free app_is ∙ free));
    }
