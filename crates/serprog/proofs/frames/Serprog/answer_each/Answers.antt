use Rattle.std.proofs.Common.{rules, arith, ◌≡◌, refl, sym, ◌∙◌, ap, subst, [], ◌∷◌, List, ℕ, suc, ◌+◌, ◌<◌, length, ◌++◌, get_or, take, set}
use Rattle.std.proofs.Math.Seq.{take-suc-set}
use Rattle.std.specs.Vec.{with_items}
use Rattle.std.proofs.lemmas.List.{with_items_is}
use Rattle.std.specs.Io.KnownBytes.{Consumes}
use Rattle.std.proofs.KnownBytes.{Consumes-trans}
use Rattle.chip_model.specs.declared.programmer.Turn.{Turn}
use Rattle.chip_model.proofs.ExchangeLaws.{sends_set, sizes_set}
use Rattle.serprog.specs.Protocol.{acknowledged, answers}
use Rattle.serprog.proofs.Turns.{answers_append, answers_one}
use Rattle.serprog.proofs.frames.Serprog.answer_each.Goals as goal

pub returns-in_err-answer-clause-sends : goal.returns-in_err-answer-clause-sends
returns-in_err-answer-clause-sends g c =
    let lt : c.loop-turn.turn-index < length c.loop-turn.turns = search rules in
    sends_set c.loop-turn.turns c.loop-turn.turn-index _ c.turn-item.result lt refl ∙ c.loop-turn.invariant.1

pub returns-in_err-answer-clause-sizes : goal.returns-in_err-answer-clause-sizes
returns-in_err-answer-clause-sizes g c =
    let old : Turn = get_or c.loop-turn.turns c.loop-turn.turn-index c.turn-item.result in
    let lt : c.loop-turn.turn-index < length c.loop-turn.turns = search rules in
    let room : length c.answer.new.recv ≡ length old.recv.items = search rules in
    let long : length c.answer.new.recv ≡ old.recv.len = search rules in
    let filled : (with_items old.recv c.answer.new.recv).items ≡ c.answer.new.recv = with_items_is old.recv c.answer.new.recv long in
    sizes_set c.loop-turn.turns c.loop-turn.turn-index (record { send = old.send; recv = with_items old.recv c.answer.new.recv }) c.turn-item.result lt (ap length filled ∙ room) ∙ c.loop-turn.invariant.2

pub loop-turn-preserved : goal.loop-turn-preserved
loop-turn-preserved g c =
    let old : Turn = get_or c.loop-turn.turns c.loop-turn.turn-index c.turn-item.result in
    let new : Turn = record { send = old.send; recv = with_items old.recv c.answer.new.recv } in
    let before : List Turn = take c.loop-turn.turn-index c.loop-turn.turns in
    let after : List Turn = set c.loop-turn.turns c.loop-turn.turn-index new in
    let lt : c.loop-turn.turn-index < length c.loop-turn.turns = search rules in
    let room : length c.answer.new.recv ≡ length old.recv.items = search rules in
    let long : length c.answer.new.recv ≡ old.recv.len = search rules in
    let filled : (with_items old.recv c.answer.new.recv).items ≡ c.answer.new.recv = with_items_is old.recv c.answer.new.recv long in
    let next : suc c.loop-turn.turn-index ≡ c.loop-turn.turn-index + 1 = omega arith in
    let one : Consumes (g.I.Source.remaining c.loop-turn.self.source) (g.I.Source.remaining c.answer.new.self.source) (acknowledged c.answer.new.recv) = search rules in
    let longer : before ++ (new ∷ []) ≡ take (c.loop-turn.turn-index + 1) after =
    sym (take-suc-set c.loop-turn.turns c.loop-turn.turn-index new lt) ∙ ap (λ (n : ℕ). take n after) next in
    let all : answers before ++ acknowledged c.answer.new.recv ≡ answers (take (c.loop-turn.turn-index + 1) after) =
    ap (λ (r : List ℕ). answers before ++ acknowledged r) (sym filled) ∙ (ap (λ (l : List ℕ). answers before ++ l) (sym (answers_one new)) ∙ (sym (answers_append before (new ∷ [])) ∙ ap answers longer)) in (
      subst (Consumes (g.I.Source.remaining c.args.self.now.source) (g.I.Source.remaining c.answer.new.self.source)) all
          (Consumes-trans (g.I.Source.remaining c.args.self.now.source) (g.I.Source.remaining c.loop-turn.self.source) (g.I.Source.remaining c.answer.new.self.source) (answers before) (acknowledged c.answer.new.recv) c.loop-turn.invariant.0 one),
      sends_set c.loop-turn.turns c.loop-turn.turn-index new c.turn-item.result lt refl ∙ c.loop-turn.invariant.1,
      sizes_set c.loop-turn.turns c.loop-turn.turn-index new c.turn-item.result lt (ap length filled ∙ room) ∙ c.loop-turn.invariant.2,
      search rules,
      search rules,
    )
