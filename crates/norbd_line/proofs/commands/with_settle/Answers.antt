use Rattle.std.proofs.Common.{rules, ap, ap₂, codes, ◌≡◌, ◌∙◌}
use Rattle.clap.specs.Words.{App, app_of, new_app, with_rule, with_subcommand}
use Rattle.norbd_line.specs.CommandLine.{settle_app, image_rule}
use Rattle.norbd_line.proofs.commands.with_settle.Goals as goal

pub returns-clause-app : goal.returns-clause-app
returns-clause-app c =
    let new : app_of c.after_help.result ≡ new_app (codes "settle") = search (rules, c.new.ensures.app, c.about.ensures, c.after_help.ensures) in
    let one : app_of c.in_ok-arg.field-0 ≡ with_rule (new_app (codes "settle")) image_rule =
    c.in_ok-arg.ensures.shape c.image_arg.ensures.local ∙ ap₂ with_rule new c.image_arg.ensures.rule in
    let settle : app_of c.in_ok-settle.settle ≡ settle_app =
    c.in_ok-settle.ensures.shape c.spi_hz_arg.ensures.local ∙ ap₂ with_rule one c.spi_hz_arg.ensures.rule in
    c.in_ok-subcommand.ensures.shape (search (rules, c.in_ok-settle.ensures.globals, c.spi_hz_arg.ensures.local, c.in_ok-arg.ensures.globals, c.image_arg.ensures.local, c.after_help.ensures, c.about.ensures, c.new.ensures.local))
    ∙ ap (λ (a : App). with_subcommand (app_of c.args.norbd) a.top) settle
