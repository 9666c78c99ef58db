use Rattle.std.proofs.Common.{ap, codes, option_map, refl, sym, ◌∙◌}
use Rattle.clap.specs.Words.{found_of}
use Rattle.clap.proofs.WalkLemmas.{first_value-rows, one_text-rows}
use Rattle.norbd_line.specs.Line.{number_of}
use Rattle.norbd_line.proofs.chip.chip_line.Goals as goal

pub returns-in-Some-get_str-clause-line : goal.returns-in-Some-get_str-clause-line
returns-in-Some-get_str-clause-line c =
    let found = found_of c.args.matches.now in (
      refl,
      sym (first_value-rows found (codes "IMAGE")) ∙ sym c.get_str.ensures ∙ ap (option_map (λ s. s.now)) c.in-Some-get_str.is,
      ap (option_map number_of) (sym (one_text-rows found (codes "port"))) ∙ c.in-Some.ensures.text,
      c.in-Ok.ensures.number,
    )
