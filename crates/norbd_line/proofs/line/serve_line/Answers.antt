use Rattle.std.proofs.Common.{ap, codes, option_map, refl, sym, ◌∙◌}
use Rattle.clap.specs.Words.{found_of}
use Rattle.clap.proofs.WalkLemmas.{first_value-rows}
use Rattle.norbd_line.proofs.line.serve_line.Goals as goal

pub returns-clause-line : goal.returns-clause-line
returns-clause-line c =
    let found = found_of c.args.matches.now in (
      refl,
      sym (first_value-rows found (codes "IMAGE")) ∙ sym c.get_str.ensures ∙ ap (option_map (λ s. s.now)) c.in-Some-get_str.is,
      c.in_ok-place.ensures.place,
      c.in-Ok.ensures.number,
      c.flag.ensures,
      c.sync_of.ensures ∙ c.in-Some.is,
      c.tidy_of.ensures ∙ c.in-Some-tidy_of.is,
      c.in-Ok-number_if_there.ensures.number,
      c.flag-2.ensures,
      c.flag-3.ensures,
      c.flag-4.ensures,
      c.text_of.ensures,
      c.flag-5.ensures,
    )
