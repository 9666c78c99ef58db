use Rattle.std.proofs.Common.{rules, arith, ◌≡◌, sym, ◌∙◌, ap, [], ◌∷◌, List, ℕ, suc, ◌+◌, ◌<◌, length, ◌++◌, get_or, take, append_assoc}
use Rattle.std.proofs.Math.Seq.{take-suc}
use Rattle.chip_model.specs.declared.programmer.Turn.{Turn}
use Rattle.chip_watch.specs.Reading.{received_of}
use Rattle.chip_watch.proofs.ReadingLaws.{received_more}
use Rattle.chip_watch.proofs.pieces.put_pieces.Goals as goal

pub loop-turn-preserved : goal.loop-turn-preserved
loop-turn-preserved c =
    let t : Turn = c.turn-item.result in
    let turns : List Turn = c.args.answered.now in
    let before : List Turn = take c.loop-turn.turn-index turns in
    let old : List ℕ = c.args.memory.now.items in
    let lt : c.loop-turn.turn-index < length turns = search rules in
    let here : get_or turns c.loop-turn.turn-index t ≡ t = search rules in
    let next : suc c.loop-turn.turn-index ≡ c.loop-turn.turn-index + 1 = omega arith in
    let longer : before ++ (t ∷ []) ≡ take (c.loop-turn.turn-index + 1) turns =
    ap (λ (x : Turn). before ++ (x ∷ [])) (sym here) ∙ (sym (take-suc turns c.loop-turn.turn-index t lt) ∙ ap (λ (n : ℕ). take n turns) next) in
    let more : received_of before ++ t.recv.items ≡ received_of (take (c.loop-turn.turn-index + 1) turns) = sym (received_more before t) ∙ ap received_of longer in
    let grown : c.extend_from_slice.new.self.items ≡ c.loop-turn.memory.items ++ t.recv.items = search rules in
    grown ∙ (ap (λ (x : List ℕ). x ++ t.recv.items) c.loop-turn.invariant ∙ (append_assoc old (received_of before) t.recv.items ∙ ap (λ (x : List ℕ). old ++ x) more))
