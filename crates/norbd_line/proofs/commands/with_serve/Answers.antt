use Rattle.std.proofs.Common.{rules, ap, ap₂, codes, ◌≡◌, ◌∙◌}
use Rattle.clap.specs.Words.{App, app_of, new_app, with_rule, with_subcommand}
use Rattle.norbd_line.specs.CommandLine.{conns_rule, flag_rule, image_rule, max_request_rule, port_rule, placed_app, serve_app, served_app, spi_hz_rule, text_rule}
use Rattle.norbd_line.proofs.commands.with_serve.Goals as goal

pub returns-clause-app : goal.returns-clause-app
returns-clause-app c =
    let new : app_of c.after_help.result ≡ new_app (codes "serve") = search (rules, c.new.ensures.app, c.about.ensures, c.after_help.ensures) in
    let one : app_of c.in_ok-arg.field-0 ≡ with_rule (new_app (codes "serve")) image_rule =
    c.in_ok-arg.ensures.shape c.image_arg.ensures.local ∙ ap₂ with_rule new c.image_arg.ensures.rule in
    let two : app_of c.in_ok-arg-2.field-0 ≡ with_rule (with_rule (new_app (codes "serve")) image_rule) port_rule =
    c.in_ok-arg-2.ensures.shape c.port_arg.ensures.local ∙ ap₂ with_rule one c.port_arg.ensures.rule in
    let three : app_of c.in_ok-arg-3.field-0 ≡ with_rule (with_rule (with_rule (new_app (codes "serve")) image_rule) port_rule) (text_rule (codes "bind")) =
    c.in_ok-arg-3.ensures.shape c.bind_arg.ensures.local ∙ ap₂ with_rule two c.bind_arg.ensures.rule in
    let four : app_of c.in_ok-arg-4.field-0 ≡ placed_app =
    c.in_ok-arg-4.ensures.shape c.unix_arg.ensures.local ∙ ap₂ with_rule three c.unix_arg.ensures.rule in
    let five : app_of c.in_ok-arg-5.field-0 ≡ with_rule (placed_app) conns_rule =
    c.in_ok-arg-5.ensures.shape c.conns_arg.ensures.local ∙ ap₂ with_rule four c.conns_arg.ensures.rule in
    let six : app_of c.in_ok-arg-6.field-0 ≡ with_rule (with_rule (placed_app) conns_rule) (flag_rule (codes "record")) =
    c.in_ok-arg-6.ensures.shape c.record_arg.ensures.local ∙ ap₂ with_rule five c.record_arg.ensures.rule in
    let seven : app_of c.in_ok-arg-7.field-0 ≡ with_rule (with_rule (with_rule (placed_app) conns_rule) (flag_rule (codes "record"))) (text_rule (codes "sync")) =
    c.in_ok-arg-7.ensures.shape c.sync_arg.ensures.local ∙ ap₂ with_rule six c.sync_arg.ensures.rule in
    let eight : app_of c.in_ok-arg-8.field-0 ≡ with_rule (with_rule (with_rule (with_rule (placed_app) conns_rule) (flag_rule (codes "record"))) (text_rule (codes "sync"))) (text_rule (codes "tidy")) =
    c.in_ok-arg-8.ensures.shape c.tidy_arg.ensures.local ∙ ap₂ with_rule seven c.tidy_arg.ensures.rule in
    let nine : app_of c.in_ok-arg-9.field-0 ≡ with_rule (with_rule (with_rule (with_rule (with_rule (placed_app) conns_rule) (flag_rule (codes "record"))) (text_rule (codes "sync"))) (text_rule (codes "tidy"))) max_request_rule =
    c.in_ok-arg-9.ensures.shape c.max_request_arg.ensures.local ∙ ap₂ with_rule eight c.max_request_arg.ensures.rule in
    let ten : app_of c.in_ok-arg-10.field-0 ≡ with_rule (with_rule (with_rule (with_rule (with_rule (with_rule (placed_app) conns_rule) (flag_rule (codes "record"))) (text_rule (codes "sync"))) (text_rule (codes "tidy"))) max_request_rule) (flag_rule (codes "read-only")) =
    c.in_ok-arg-10.ensures.shape c.read_only_arg.ensures.local ∙ ap₂ with_rule nine c.read_only_arg.ensures.rule in
    let eleven : app_of c.in_ok-arg-11.field-0 ≡ served_app =
    c.in_ok-arg-11.ensures.shape c.verbose_arg.ensures.local ∙ ap₂ with_rule ten c.verbose_arg.ensures.rule in
    let twelve : app_of c.in_ok-arg-12.field-0 ≡ with_rule (served_app) (flag_rule (codes "trust")) =
    c.in_ok-arg-12.ensures.shape c.trust_arg.ensures.local ∙ ap₂ with_rule eleven c.trust_arg.ensures.rule in
    let thirteen : app_of c.in_ok-arg-13.field-0 ≡ with_rule (with_rule (served_app) (flag_rule (codes "trust"))) (text_rule (codes "status")) =
    c.in_ok-arg-13.ensures.shape c.status_arg.ensures.local ∙ ap₂ with_rule twelve c.status_arg.ensures.rule in
    let fourteen : app_of c.in_ok-arg-14.field-0 ≡ with_rule (with_rule (with_rule (served_app) (flag_rule (codes "trust"))) (text_rule (codes "status"))) spi_hz_rule =
    c.in_ok-arg-14.ensures.shape c.spi_hz_arg.ensures.local ∙ ap₂ with_rule thirteen c.spi_hz_arg.ensures.rule in
    let serve : app_of c.in_ok-serve.serve ≡ serve_app =
    c.in_ok-serve.ensures.shape c.firm_arg.ensures.local ∙ ap₂ with_rule fourteen c.firm_arg.ensures.rule in
    c.in_ok-subcommand.ensures.shape (search (rules, c.in_ok-serve.ensures.globals, c.firm_arg.ensures.local, c.in_ok-arg-14.ensures.globals, c.spi_hz_arg.ensures.local, c.in_ok-arg-13.ensures.globals, c.status_arg.ensures.local, c.in_ok-arg-12.ensures.globals, c.trust_arg.ensures.local, c.in_ok-arg-11.ensures.globals, c.verbose_arg.ensures.local, c.in_ok-arg-10.ensures.globals, c.read_only_arg.ensures.local, c.in_ok-arg-9.ensures.globals, c.max_request_arg.ensures.local, c.in_ok-arg-8.ensures.globals, c.tidy_arg.ensures.local, c.in_ok-arg-7.ensures.globals, c.sync_arg.ensures.local, c.in_ok-arg-6.ensures.globals, c.record_arg.ensures.local, c.in_ok-arg-5.ensures.globals, c.conns_arg.ensures.local, c.in_ok-arg-4.ensures.globals, c.unix_arg.ensures.local, c.in_ok-arg-3.ensures.globals, c.bind_arg.ensures.local, c.in_ok-arg-2.ensures.globals, c.port_arg.ensures.local, c.in_ok-arg.ensures.globals, c.image_arg.ensures.local, c.after_help.ensures, c.about.ensures, c.new.ensures.local))
    ∙ ap (λ (a : App). with_subcommand (app_of c.args.norbd) a.top) serve
