use Rattle.std.proofs.Common.{rules, arith, ◌≡◌, suc, ◌≤◌, refl, sym, ◌∙◌, ap, subst, [], ◌∷◌, List, ℕ, ◌+◌, ◌<◌, length, ◌++◌, get_or, take, set}
use Rattle.std.proofs.Math.Seq.{take-suc-set}
use Rattle.std.specs.Vec.{with_items}
use Rattle.std.proofs.lemmas.List.{take_all, with_items_is}
use Rattle.chip_model.specs.Exchanges.{Exchange, Exchanged, turned}
use Rattle.chip_model.specs.declared.programmer.Turn.{Turn}
use Rattle.chip_model.proofs.ExchangeLaws.{exchanged_none, exchanged_twice, turned_append, sends_set, sizes_set}
use Rattle.chip_model.proofs.programmer.Programmer.exchange_all.Goals as goal

pub loop-turn-init : goal.loop-turn-init
loop-turn-init g c = (exchanged_none (g.Self.Programmer.exchanged c.args.self.now) (g.Self.Programmer.exchanged c.args.self.now) refl, refl, refl)

pub returns-in_err-exchange-clause-sends : goal.returns-in_err-exchange-clause-sends
returns-in_err-exchange-clause-sends g c =
    let lt : c.loop-turn.turn-index < length c.loop-turn.turns = search rules in
    sends_set c.loop-turn.turns c.loop-turn.turn-index _ c.turn-item.result lt refl ∙ c.loop-turn.invariant.1

pub returns-in_err-exchange-clause-sizes : goal.returns-in_err-exchange-clause-sizes
returns-in_err-exchange-clause-sizes g c =
    let old : Turn = get_or c.loop-turn.turns c.loop-turn.turn-index c.turn-item.result in
    let lt : c.loop-turn.turn-index < length c.loop-turn.turns = search rules in
    let room : length c.exchange.new.recv ≡ length old.recv.items = search rules in
    let long : length c.exchange.new.recv ≡ old.recv.len = search rules in
    let filled : (with_items old.recv c.exchange.new.recv).items ≡ c.exchange.new.recv = with_items_is old.recv c.exchange.new.recv long in
    let same : length (with_items old.recv c.exchange.new.recv).items ≡ length old.recv.items = ap length filled ∙ room in
    sizes_set c.loop-turn.turns c.loop-turn.turn-index (record { send = old.send; recv = with_items old.recv c.exchange.new.recv }) c.turn-item.result lt same ∙ c.loop-turn.invariant.2

pub loop-turn-preserved : goal.loop-turn-preserved
loop-turn-preserved g c =
    let old : Turn = get_or c.loop-turn.turns c.loop-turn.turn-index c.turn-item.result in
    let new : Turn = record { send = old.send; recv = with_items old.recv c.exchange.new.recv } in
    let before : List Turn = take c.loop-turn.turn-index c.loop-turn.turns in
    let lt : c.loop-turn.turn-index < length c.loop-turn.turns = search rules in
    let room : length c.exchange.new.recv ≡ length old.recv.items = search rules in
    let long : length c.exchange.new.recv ≡ old.recv.len = search rules in
    let filled : (with_items old.recv c.exchange.new.recv).items ≡ c.exchange.new.recv = with_items_is old.recv c.exchange.new.recv long in
    let same : length (with_items old.recv c.exchange.new.recv).items ≡ length old.recv.items = ap length filled ∙ room in
    let one : Exchanged (g.Self.Programmer.exchanged c.loop-turn.self) (g.Self.Programmer.exchanged c.exchange.new.self)
    (record { sent = old.send.items; received = c.exchange.new.recv } ∷ []) = search rules in
    let next : suc c.loop-turn.turn-index ≡ c.loop-turn.turn-index + 1 = omega arith in
    let all : turned before ++ (record { sent = old.send.items; received = c.exchange.new.recv } ∷ []) ≡ turned (take (c.loop-turn.turn-index + 1) (set c.loop-turn.turns c.loop-turn.turn-index new)) =
    ap (λ (r : List ℕ). turned before ++ (record { sent = old.send.items; received = r } ∷ [])) (sym filled) ∙ (sym (turned_append before (new ∷ [])) ∙ ap turned (sym (take-suc-set c.loop-turn.turns c.loop-turn.turn-index new lt) ∙ ap (λ (n : ℕ). take n (set c.loop-turn.turns c.loop-turn.turn-index new)) next)) in (
      subst (λ (l : List Exchange). Exchanged (g.Self.Programmer.exchanged c.args.self.now) (g.Self.Programmer.exchanged c.exchange.new.self) l) all
          (exchanged_twice (g.Self.Programmer.exchanged c.args.self.now) (g.Self.Programmer.exchanged c.loop-turn.self) (g.Self.Programmer.exchanged c.exchange.new.self) (turned before) (record { sent = old.send.items; received = c.exchange.new.recv } ∷ []) c.loop-turn.invariant.0 one),
      sends_set c.loop-turn.turns c.loop-turn.turn-index new c.turn-item.result lt refl ∙ c.loop-turn.invariant.1,
      sizes_set c.loop-turn.turns c.loop-turn.turn-index new c.turn-item.result lt same ∙ c.loop-turn.invariant.2,
    )

pub returns-clause-exchanged : goal.returns-clause-exchanged
returns-clause-exchanged g c =
    let ended : length c.loop-turn.turns ≤ c.loop-turn.turn-index = search rules in
    let whole = take_all c.loop-turn.turn-index c.loop-turn.turns ended in
    subst (λ (l : List Turn). Exchanged (g.Self.Programmer.exchanged c.args.self.now) (g.Self.Programmer.exchanged c.loop-turn.self) (turned l)) whole c.loop-turn.invariant.0

pub returns-clause-sends : goal.returns-clause-sends
returns-clause-sends g c = c.loop-turn.invariant.1

pub returns-clause-sizes : goal.returns-clause-sizes
returns-clause-sizes g c = c.loop-turn.invariant.2
