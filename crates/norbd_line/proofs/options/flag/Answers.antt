use Rattle.std.proofs.Common.{ap, codes, option_map, Some, sym, ◌∙◌}
use Rattle.std.proofs.lemmas.Bool.Decides.{Decides-at, not_from_Decides}
use Rattle.std.proofs.lemmas.Slice.Eq.{bytes_eq-Decides}
use Rattle.std.specs.Str.{bytes_eq}
use Rattle.clap.specs.Words.{found_of}
use Rattle.clap.proofs.WalkLemmas.{first_value-rows}
use Rattle.norbd_line.proofs.Flags.{none-some, some-same}
use Rattle.norbd_line.proofs.options.flag.Goals as goal

pub returns-then-eq : goal.returns-then-eq
returns-then-eq c =
    let decides = Decides-at c.eq.result (bytes_eq c.in-Some.text.now (codes "true")) c.eq.ensures (bytes_eq-Decides c.in-Some.text.now (codes "true")) in
    sym (first_value-rows (found_of c.args.matches.now) c.args.id.now) ∙ sym c.get_str.ensures ∙ ap (option_map (λ s. s.now)) c.in-Some.is ∙ ap (λ t. Some t) (decides.0 c.if-eq.true)

pub returns : goal.returns
returns c e =
    let decides = Decides-at c.eq.result (bytes_eq c.in-Some.text.now (codes "true")) c.eq.ensures (bytes_eq-Decides c.in-Some.text.now (codes "true")) in
    let text = sym (ap (option_map (λ s. s.now)) c.in-Some.is) ∙ c.get_str.ensures ∙ first_value-rows (found_of c.args.matches.now) c.args.id.now ∙ e in
    not_from_Decides c.eq.result decides c.if-eq.false (some-same c.in-Some.text.now (codes "true") text)

pub returns-in_default : goal.returns-in_default
returns-in_default c e =
    none-some (codes "true") _ (sym (first_value-rows (found_of c.args.matches.now) c.args.id.now) ∙ sym c.get_str.ensures ∙ ap (option_map (λ s. s.now)) c.in_default.is) e
