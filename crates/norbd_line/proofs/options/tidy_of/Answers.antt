use Rattle.std.proofs.Common.{ap, codes, option_map, sym, ◌∙◌}
use Rattle.clap.specs.Words.{found_of}
use Rattle.clap.proofs.WalkLemmas.{first_value-rows}
use Rattle.norbd_line.specs.Line.{tidy_of}
use Rattle.norbd_line.proofs.Flags.{says_lazy, says_eager, says_no_tidy}
use Rattle.norbd_line.proofs.options.tidy_of.Goals as goal

pub returns-in_default : goal.returns-in_default
returns-in_default c =
    ap tidy_of (sym (first_value-rows (found_of c.args.matches.now) (codes "tidy")) ∙ sym c.get_str.ensures ∙ ap (option_map (λ s. s.now)) c.in_default.is)

pub returns-then-eq : goal.returns-then-eq
returns-then-eq c =
    let text = sym (first_value-rows (found_of c.args.matches.now) (codes "tidy")) ∙ sym c.get_str.ensures ∙ ap (option_map (λ s. s.now)) c.in-Some.is in
    ap tidy_of text ∙ says_lazy c.in-Some.word.now (sym c.eq.ensures ∙ c.if-eq.true)

pub returns-then-eq-2 : goal.returns-then-eq-2
returns-then-eq-2 c =
    let text = sym (first_value-rows (found_of c.args.matches.now) (codes "tidy")) ∙ sym c.get_str.ensures ∙ ap (option_map (λ s. s.now)) c.in-Some.is in
    ap tidy_of text ∙ says_eager c.in-Some.word.now (sym c.eq.ensures ∙ c.if-eq.false) (sym c.eq-else-eq.ensures ∙ c.if-eq-2.true)

pub returns-else-eq-2 : goal.returns-else-eq-2
returns-else-eq-2 c =
    let text = sym (first_value-rows (found_of c.args.matches.now) (codes "tidy")) ∙ sym c.get_str.ensures ∙ ap (option_map (λ s. s.now)) c.in-Some.is in
    ap tidy_of text ∙ says_no_tidy c.in-Some.word.now (sym c.eq.ensures ∙ c.if-eq.false) (sym c.eq-else-eq.ensures ∙ c.if-eq-2.false)
