use Rattle.std.proofs.Common.{rules, ap, ap₂, codes, ◌≡◌, ◌∙◌}
use Rattle.clap.specs.Words.{App, app_of, new_app, with_rule, with_subcommand}
use Rattle.norbd_line.specs.CommandLine.{check_app, flag_rule, image_rule, text_rule}
use Rattle.norbd_line.proofs.commands.with_check.Goals as goal

pub returns-clause-app : goal.returns-clause-app
returns-clause-app c =
    let new : app_of c.after_help.result ≡ new_app (codes "check") = search (rules, c.new.ensures.app, c.about.ensures, c.after_help.ensures) in
    let one : app_of c.in_ok-arg.field-0 ≡ with_rule (new_app (codes "check")) image_rule =
    c.in_ok-arg.ensures.shape c.image_arg.ensures.local ∙ ap₂ with_rule new c.image_arg.ensures.rule in
    let two : app_of c.in_ok-arg-2.field-0 ≡ with_rule (with_rule (new_app (codes "check")) image_rule) (flag_rule (codes "mend")) =
    c.in_ok-arg-2.ensures.shape c.mend_arg.ensures.local ∙ ap₂ with_rule one c.mend_arg.ensures.rule in
    let three : app_of c.in_ok-arg-3.field-0 ≡ with_rule (with_rule (with_rule (new_app (codes "check")) image_rule) (flag_rule (codes "mend"))) (flag_rule (codes "json")) =
    c.in_ok-arg-3.ensures.shape c.json_arg.ensures.local ∙ ap₂ with_rule two c.json_arg.ensures.rule in
    let four : app_of c.in_ok-arg-4.field-0 ≡ with_rule (with_rule (with_rule (with_rule (new_app (codes "check")) image_rule) (flag_rule (codes "mend"))) (flag_rule (codes "json"))) (text_rule (codes "against")) =
    c.in_ok-arg-4.ensures.shape c.against_arg.ensures.local ∙ ap₂ with_rule three c.against_arg.ensures.rule in
    let check : app_of c.in_ok-check.check ≡ check_app =
    c.in_ok-check.ensures.shape c.spi_hz_arg.ensures.local ∙ ap₂ with_rule four c.spi_hz_arg.ensures.rule in
    c.in_ok-subcommand.ensures.shape (search (rules, c.in_ok-check.ensures.globals, c.spi_hz_arg.ensures.local, c.in_ok-arg-4.ensures.globals, c.against_arg.ensures.local, c.in_ok-arg-3.ensures.globals, c.json_arg.ensures.local, c.in_ok-arg-2.ensures.globals, c.mend_arg.ensures.local, c.in_ok-arg.ensures.globals, c.image_arg.ensures.local, c.after_help.ensures, c.about.ensures, c.new.ensures.local))
    ∙ ap (λ (a : App). with_subcommand (app_of c.args.norbd) a.top) check
