use Rattle.std.proofs.Common.{◌≡◌, take}
use Rattle.chip_model.specs.Exchanges.{Exchanged, sends_of, sizes_of, turned}
use Rattle.chip_model.proofs.programmer.Programmer.exchange_all.Given as goal

-- the turns so far were exchanged, and no turn's sent bytes and no length has changed
abbrev pub invariant-loop-turn : goal.invariant-loop-turn
invariant-loop-turn g l =
    (Exchanged (g.Self.Programmer.exchanged l.fn.self) (g.Self.Programmer.exchanged l.self) (turned (take l.turn-index l.turns)))
    × (sends_of l.turns ≡ sends_of l.fn.turns)
    × (sizes_of l.turns ≡ sizes_of l.fn.turns)
