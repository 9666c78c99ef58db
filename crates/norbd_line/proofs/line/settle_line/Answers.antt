use Rattle.std.proofs.Common.{ap, codes, option_map, refl, sym, ◌∙◌}
use Rattle.clap.specs.Words.{found_of}
use Rattle.clap.proofs.WalkLemmas.{first_value-rows}
use Rattle.norbd_line.proofs.line.settle_line.Goals as goal

pub returns-in-Some-clause-line : goal.returns-in-Some-clause-line
returns-in-Some-clause-line c =
    let text = sym (first_value-rows (found_of c.args.matches.now) (codes "IMAGE")) ∙ sym c.get_str.ensures ∙ ap (option_map (λ s. s.now)) c.in-Some.is in
    (refl, text)
