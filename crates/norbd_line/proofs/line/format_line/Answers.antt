use Rattle.std.proofs.Common.{ap, codes, inl, option_map, refl, sym, ◌∙◌}
use Rattle.clap.specs.Words.{found_of}
use Rattle.clap.proofs.TakesLemmas.{passed_up}
use Rattle.clap.proofs.WalkLemmas.{first_value-rows}
use Rattle.norbd_line.proofs.line.format_line.Goals as goal

pub returns-in_err-kib-clause-fault : goal.returns-in_err-kib-clause-fault
returns-in_err-kib-clause-fault c =
    passed_up c.from_residual.result c.in_err-kib.field-0.0 _ c.from_residual.ensures.1 (c.in_err-kib.ensures.fault (codes "format") (inl refl))

pub returns-in-Some-clause-line : goal.returns-in-Some-clause-line
returns-in-Some-clause-line c =
    let text = sym (first_value-rows (found_of c.args.matches.now) (codes "IMAGE")) ∙ sym c.get_str.ensures ∙ ap (option_map (λ s. s.now)) c.in-Some.is in
    (refl, text, c.in_ok-kib.ensures.number, c.flag.ensures, c.flag-in-Some.ensures)
