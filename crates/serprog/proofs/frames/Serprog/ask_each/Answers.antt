use Rattle.std.proofs.Common.{rules, arith, ◌≡◌, sym, ◌∙◌, ap, subst, [], ◌∷◌, List, ℕ, suc, ◌+◌, ◌<◌, length, ◌++◌, get_or, take}
use Rattle.std.proofs.Math.Seq.{take-suc}
use Rattle.std.specs.Io.KnownBytes.{Appends}
use Rattle.std.proofs.KnownBytes.{Appends-trans}
use Rattle.chip_model.specs.declared.programmer.Turn.{Turn}
use Rattle.serprog.specs.Protocol.{spiop, spiops}
use Rattle.serprog.proofs.Turns.{spiops_append, spiops_one}
use Rattle.serprog.proofs.frames.Serprog.ask_each.Goals as goal

pub loop-turn-preserved : goal.loop-turn-preserved
loop-turn-preserved g c =
    let t : Turn = c.turn-item.result in
    let turns : List Turn = c.args.turns.now in
    let before : List Turn = take c.loop-turn.turn-index turns in
    let one : Appends (g.O.Sink.written c.loop-turn.self.sink) (g.O.Sink.written c.ask.new.self.sink) (spiop t.send.items (length t.recv.items)) = search rules in
    let lt : c.loop-turn.turn-index < length turns = search rules in
    let here : get_or turns c.loop-turn.turn-index t ≡ t = search rules in
    let next : suc c.loop-turn.turn-index ≡ c.loop-turn.turn-index + 1 = omega arith in
    let longer : before ++ (t ∷ []) ≡ take (c.loop-turn.turn-index + 1) turns =
    ap (λ (x : Turn). before ++ (x ∷ [])) (sym here) ∙ (sym (take-suc turns c.loop-turn.turn-index t lt) ∙ ap (λ (n : ℕ). take n turns) next) in
    let all : spiops before ++ spiop t.send.items (length t.recv.items) ≡ spiops (take (c.loop-turn.turn-index + 1) turns) =
    ap (λ (l : List ℕ). spiops before ++ l) (sym (spiops_one t)) ∙ (sym (spiops_append before (t ∷ [])) ∙ ap spiops longer) in (
      subst (Appends (g.O.Sink.written c.args.self.now.sink) (g.O.Sink.written c.ask.new.self.sink)) all
          (Appends-trans (g.O.Sink.written c.args.self.now.sink) (g.O.Sink.written c.loop-turn.self.sink) (g.O.Sink.written c.ask.new.self.sink) (spiops before) (spiop t.send.items (length t.recv.items)) c.loop-turn.invariant.0 one),
      search rules,
      search rules,
    )
