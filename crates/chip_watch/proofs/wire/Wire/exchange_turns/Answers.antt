use Rattle.std.proofs.Common.{rules, ◌≡◌, ◌∙◌, List, [], ◌++◌, length, drop, ap, sym, subst}
use Rattle.chip_model.specs.Exchanges.{Exchanged, sends_of, sizes_of, turned}
use Rattle.chip_model.specs.declared.programmer.Turn.{Turn}
use Rattle.chip_watch.specs.Told.{and_then}
use Rattle.chip_watch.proofs.AheadLaws.{rest_of, split, told_grows}
use Rattle.chip_watch.proofs.wire.Wire.exchange_turns.Goals as goal

pub returns-in-Ok-split_off-clause-sends : goal.returns-in-Ok-split_off-clause-sends
returns-in-Ok-split_off-clause-sends g c =
    let ahead = c.args.self.now.ahead.items in
    let whole : c.deref_mut.result.now ≡ ahead ++ c.args.turns.items = search rules in
    let rest = rest_of c.append.new.self c.exchange_all.new.turns c.len-count.result (length ahead) c.in-Ok-split_off.answered.items (search rules) (search rules) c.in-Ok-split_off.ensures.tail in
    let e = c.in-Ok-exchange_all.ensures in
    ap sends_of rest ∙ (split ahead c.args.turns.items c.exchange_all.new.turns c.args.self.now.silent (e.sends ∙ ap sends_of whole) (e.sizes ∙ ap sizes_of whole)).sends

pub returns-in-Ok-split_off-clause-sizes : goal.returns-in-Ok-split_off-clause-sizes
returns-in-Ok-split_off-clause-sizes g c =
    let ahead = c.args.self.now.ahead.items in
    let whole : c.deref_mut.result.now ≡ ahead ++ c.args.turns.items = search rules in
    let rest = rest_of c.append.new.self c.exchange_all.new.turns c.len-count.result (length ahead) c.in-Ok-split_off.answered.items (search rules) (search rules) c.in-Ok-split_off.ensures.tail in
    let e = c.in-Ok-exchange_all.ensures in
    ap sizes_of rest ∙ (split ahead c.args.turns.items c.exchange_all.new.turns c.args.self.now.silent (e.sends ∙ ap sends_of whole) (e.sizes ∙ ap sizes_of whole)).sizes

pub returns-in-Ok-split_off-clause-exchanged : goal.returns-in-Ok-split_off-clause-exchanged
returns-in-Ok-split_off-clause-exchanged g c =
    let log = g.P.Programmer.exchanged in
    let ahead = c.args.self.now.ahead.items in
    let after = c.exchange_all.new.turns in
    let old = log c.args.self.now.programmer in
    let new = log c.exchange_all.new.self in
    let whole : c.deref_mut.result.now ≡ ahead ++ c.args.turns.items = search rules in
    let rest = rest_of c.append.new.self after c.len-count.result (length ahead) c.in-Ok-split_off.answered.items (search rules) (search rules) c.in-Ok-split_off.ensures.tail in
    let none : c.replace-all.new.dest.items ≡ [] = search rules in
    let e = c.in-Ok-exchange_all.ensures in
    let s = split ahead c.args.turns.items after c.args.self.now.silent (e.sends ∙ ap sends_of whole) (e.sizes ∙ ap sizes_of whole) in
    subst (λ (l : List Turn). Exchanged (and_then old (turned ahead)) (and_then new (turned c.replace-all.new.dest.items)) (turned l)) (sym rest)
    (subst (λ (l : List Turn). Exchanged (and_then old (turned ahead)) (and_then new (turned l)) (turned (drop (length ahead) after))) (sym none)
    (told_grows old new (turned ahead) (turned (drop (length ahead) after)) (turned after) s.all e.exchanged))
