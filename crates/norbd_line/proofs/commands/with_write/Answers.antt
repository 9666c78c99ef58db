use Rattle.std.proofs.Common.{rules, ap, ap₂, codes, ◌≡◌, ◌∙◌}
use Rattle.clap.specs.Words.{App, app_of, new_app, with_rule, with_subcommand}
use Rattle.norbd_line.specs.CommandLine.{flag_rule, image_rule, spi_hz_rule, text_rule, write_app}
use Rattle.norbd_line.proofs.commands.with_write.Goals as goal

pub returns-clause-app : goal.returns-clause-app
returns-clause-app c =
    let new : app_of c.after_help.result ≡ new_app (codes "write") = search (rules, c.new.ensures.app, c.about.ensures, c.after_help.ensures) in
    let one : app_of c.in_ok-arg.field-0 ≡ with_rule (new_app (codes "write")) image_rule =
    c.in_ok-arg.ensures.shape c.image_arg.ensures.local ∙ ap₂ with_rule new c.image_arg.ensures.rule in
    let two : app_of c.in_ok-arg-2.field-0 ≡ with_rule (with_rule (new_app (codes "write")) image_rule) (text_rule (codes "sectors")) =
    c.in_ok-arg-2.ensures.shape c.range_arg.ensures.local ∙ ap₂ with_rule one c.range_arg.ensures.rule in
    let three : app_of c.in_ok-arg-3.field-0 ≡ with_rule (with_rule (with_rule (new_app (codes "write")) image_rule) (text_rule (codes "sectors"))) spi_hz_rule =
    c.in_ok-arg-3.ensures.shape c.spi_hz_arg.ensures.local ∙ ap₂ with_rule two c.spi_hz_arg.ensures.rule in
    let write : app_of c.in_ok-write.write ≡ write_app =
    c.in_ok-write.ensures.shape c.firm_arg.ensures.local ∙ ap₂ with_rule three c.firm_arg.ensures.rule in
    c.in_ok-subcommand.ensures.shape (search (rules, c.in_ok-write.ensures.globals, c.firm_arg.ensures.local, c.in_ok-arg-3.ensures.globals, c.spi_hz_arg.ensures.local, c.in_ok-arg-2.ensures.globals, c.range_arg.ensures.local, c.in_ok-arg.ensures.globals, c.image_arg.ensures.local, c.after_help.ensures, c.about.ensures, c.new.ensures.local))
    ∙ ap (λ (a : App). with_subcommand (app_of c.args.norbd) a.top) write
