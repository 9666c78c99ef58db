use Rattle.std.proofs.Common.{ap, codes, option_map, sym, ◌∙◌}
use Rattle.clap.specs.Words.{found_of, rows_of}
use Rattle.clap.proofs.WalkLemmas.{first_value-rows, one_text-rows}
use Rattle.norbd_line.specs.Line.{number_of}
use Rattle.norbd_line.proofs.Flags.{no_first-no_one}
use Rattle.norbd_line.proofs.options.port_of.Goals as goal

pub returns-in_default-clause-number : goal.returns-in_default-clause-number
returns-in_default-clause-number c =
    let found = found_of c.args.matches.now in
    let none = sym (first_value-rows found (codes "port")) ∙ sym c.get_str.ensures ∙ ap (option_map (λ s. s.now)) c.in_default.is in
    ap (option_map number_of) (no_first-no_one (codes "port") (rows_of found) none)

pub returns-in-Some-number-clause-number : goal.returns-in-Some-number-clause-number
returns-in-Some-number-clause-number c =
    ap (option_map number_of) (sym (one_text-rows (found_of c.args.matches.now) (codes "port"))) ∙ c.in-Some-number.ensures.text
