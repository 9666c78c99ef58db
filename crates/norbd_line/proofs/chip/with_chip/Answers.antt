use Rattle.std.proofs.Common.{rules, ap, ap₂, codes, ◌≡◌, ◌∙◌}
use Rattle.clap.specs.Words.{App, app_of, new_app, with_rule, with_subcommand}
use Rattle.norbd_line.specs.CommandLine.{chip_app, chip_port_rule, image_rule}
use Rattle.norbd_line.proofs.chip.with_chip.Goals as goal

pub returns-clause-app : goal.returns-clause-app
returns-clause-app c =
    let new : app_of c.after_help.result ≡ new_app (codes "chip") = search (rules, c.new.ensures.app, c.about.ensures, c.after_help.ensures) in
    let one : app_of c.in_ok-arg.field-0 ≡ with_rule (new_app (codes "chip")) image_rule =
    c.in_ok-arg.ensures.shape c.image_arg.ensures.local ∙ ap₂ with_rule new c.image_arg.ensures.rule in
    let two : app_of c.in_ok-arg-2.field-0 ≡ with_rule (with_rule (new_app (codes "chip")) image_rule) chip_port_rule =
    c.in_ok-arg-2.ensures.shape c.chip_port_arg.ensures.local ∙ ap₂ with_rule one c.chip_port_arg.ensures.rule in
    let chip : app_of c.in_ok-chip.chip ≡ chip_app =
    c.in_ok-chip.ensures.shape c.conns_arg.ensures.local ∙ ap₂ with_rule two c.conns_arg.ensures.rule in
    c.in_ok-subcommand.ensures.shape (search (rules, c.in_ok-chip.ensures.globals, c.conns_arg.ensures.local, c.in_ok-arg-2.ensures.globals, c.chip_port_arg.ensures.local, c.in_ok-arg.ensures.globals, c.image_arg.ensures.local, c.after_help.ensures, c.about.ensures, c.new.ensures.local))
    ∙ ap (λ (a : App). with_subcommand (app_of c.args.norbd) a.top) chip
