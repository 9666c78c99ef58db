use Rattle.std.specs.Prelude.{List, ℕ, Some, String, codes, false, map, pos, true}
use Rattle.std.specs.String.{string_bytes}
use Rattle.clap.specs.Words.{App, Rule, Text, new_app, new_rule, with_rule, with_subcommand}
use Rattle.clap.specs.declared.builder.action.ArgAction.TheVariants.{Set, SetTrue}
use Rattle.clap.specs.declared.builder.value_parser.ValueParser.TheVariants as value_parser

-- The command line in the terms of `clap`.

-- a required option of this name that takes one number from `least` to `most`
abbrev pub number_rule : Text → ℕ → ℕ → Rule
number_rule name least most = record (new_rule name) {
  long = Some name;
  action = Some Set;
  value_names = 1;
  required = true;
  parser = Some (value_parser.Signed (pos least) (pos most));
}

-- `--sectors S`: required, one number from 1 to 65,536
abbrev pub sectors_rule : Rule
sectors_rule = number_rule (codes "sectors") 1 65536

-- `--kib K`: required, one number from 64 to 16,384
abbrev pub kib_rule : Rule
kib_rule = number_rule (codes "kib") 64 16384

-- `--port P`: one number from 1 to 65,535
abbrev pub port_rule : Rule
port_rule = record (number_rule (codes "port") 1 65535) { required = false }

-- `--port P` of `chip`: required
abbrev pub chip_port_rule : Rule
chip_port_rule = number_rule (codes "port") 1 65535

-- `--conns C`: one number from 1 to 64
abbrev pub conns_rule : Rule
conns_rule = record (number_rule (codes "conns") 1 64) { required = false }

-- `--max-request KIB`: one number from 64 to 32,768
abbrev pub max_request_rule : Rule
max_request_rule = record (number_rule (codes "max-request") 64 32768) { required = false }

-- `--spi-hz N`: one number from 1 to 4,294,967,295
abbrev pub spi_hz_rule : Rule
spi_hz_rule = record (number_rule (codes "spi-hz") 1 4294967295) { required = false }

-- an option of this name that takes one text
abbrev pub text_rule : Text → Rule
text_rule name = record (new_rule name) {
  long = Some name;
  action = Some Set;
  value_names = 1;
}

-- a flag of this name
abbrev pub flag_rule : Text → Rule
flag_rule name = record (new_rule name) { long = Some name; action = Some SetTrue }

-- `-v` or `--verbose`
abbrev pub verbose_rule : Rule
verbose_rule = record (flag_rule (codes "verbose")) { short = Some 118 }

-- `IMAGE`: required, one text at its place
abbrev pub image_rule : Rule
image_rule = record (new_rule (codes "IMAGE")) { action = Some Set; required = true }

-- `PATH` of `status`: required, one text at its place
abbrev pub status_path_rule : Rule
status_path_rule = record (new_rule (codes "PATH")) { action = Some Set; required = true }

-- `plain --sectors S [--no-record]`
abbrev pub plain_app : App
plain_app = with_rule (with_rule (new_app (codes "plain")) sectors_rule)
    (flag_rule (codes "no-record"))

-- `chip IMAGE --port P [--conns C]`
abbrev pub chip_app : App
chip_app = with_rule (with_rule (with_rule (new_app (codes "chip")) image_rule) chip_port_rule)
    conns_rule

-- `format IMAGE --kib K [--force] [--yes] [--spi-hz N]`
abbrev pub format_app : App
format_app = with_rule (with_rule (with_rule (with_rule (with_rule (new_app (codes "format"))
    image_rule) kib_rule) (flag_rule (codes "force"))) (flag_rule (codes "yes"))) spi_hz_rule

-- `script --kib K`
abbrev pub script_app : App
script_app = with_rule (new_app (codes "script")) kib_rule

-- where `serve` listens: `IMAGE [--port P] [--bind ADDR] [--unix PATH]`
abbrev pub placed_app : App
placed_app = with_rule (with_rule (with_rule (with_rule (new_app (codes "serve")) image_rule)
    port_rule) (text_rule (codes "bind"))) (text_rule (codes "unix"))

-- and how: `[--conns C] [--record] [--sync WHEN] [--tidy WHEN] [--max-request KIB] [--read-only]
-- [-v]`, and `[--trust] [--status PATH] [--spi-hz N] [--firm]`
abbrev pub served_app : App
served_app = with_rule (with_rule (with_rule (with_rule (with_rule (with_rule (with_rule placed_app
    conns_rule) (flag_rule (codes "record"))) (text_rule (codes "sync")))
    (text_rule (codes "tidy"))) max_request_rule) (flag_rule (codes "read-only"))) verbose_rule

abbrev pub serve_app : App
serve_app = with_rule (with_rule (with_rule (with_rule served_app (flag_rule (codes "trust")))
    (text_rule (codes "status"))) spi_hz_rule) (flag_rule (codes "firm"))

-- `status PATH [--json]`
abbrev pub status_app : App
status_app = with_rule (with_rule (new_app (codes "status")) status_path_rule)
    (flag_rule (codes "json"))

-- `check IMAGE [--mend] [--json] [--against DUMP] [--spi-hz N]`
abbrev pub check_app : App
check_app = with_rule (with_rule (with_rule (with_rule (with_rule (new_app (codes "check")) image_rule)
    (flag_rule (codes "mend"))) (flag_rule (codes "json"))) (text_rule (codes "against")))
    spi_hz_rule

-- `unprotect IMAGE [--yes] [--spi-hz N]`
abbrev pub unprotect_app : App
unprotect_app = with_rule (with_rule (with_rule (new_app (codes "unprotect")) image_rule)
    (flag_rule (codes "yes"))) spi_hz_rule

-- `settle IMAGE [--spi-hz N]`
abbrev pub settle_app : App
settle_app = with_rule (with_rule (new_app (codes "settle")) image_rule) spi_hz_rule

-- `show IMAGE [--spi-hz N]`
abbrev pub show_app : App
show_app = with_rule (with_rule (new_app (codes "show")) image_rule) spi_hz_rule

-- `read IMAGE [--sectors A:B] [--spi-hz N]`, and `write` likewise, with `[--firm]`
abbrev pub read_app : App
read_app = with_rule (with_rule (with_rule (new_app (codes "read")) image_rule)
    (text_rule (codes "sectors"))) spi_hz_rule

abbrev pub write_app : App
write_app = with_rule (with_rule (with_rule (with_rule (new_app (codes "write")) image_rule)
    (text_rule (codes "sectors"))) spi_hz_rule) (flag_rule (codes "firm"))

-- `rescue IMAGE`
abbrev pub rescue_app : App
rescue_app = with_rule (new_app (codes "rescue")) image_rule

-- `norbd` has a version and requires a command
abbrev pub norbd_alone : App
norbd_alone = record (new_app (codes "norbd")) {
  top = record (new_app (codes "norbd")).top { has_version = true; subcommand_required = true };
}

-- `norbd` with its first command
abbrev pub begun_app : App
begun_app = with_subcommand norbd_alone chip_app.top

-- a command line with the commands about an image without a server
abbrev pub with_image_apps : App → App
with_image_apps app = with_subcommand (with_subcommand (with_subcommand (with_subcommand
    (with_subcommand (with_subcommand (with_subcommand app check_app.top) unprotect_app.top)
    settle_app.top) show_app.top) read_app.top) write_app.top) rescue_app.top

-- the whole command line
abbrev pub norbd_app : App
norbd_app = with_image_apps (with_subcommand (with_subcommand (with_subcommand (with_subcommand
    (with_subcommand begun_app plain_app.top) format_app.top) script_app.top) serve_app.top)
    status_app.top)

-- the words as texts
abbrev pub texts_of : {Z : Type 0} → List (String Z) → List Text
texts_of = map (λ word. string_bytes word)
