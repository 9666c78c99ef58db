use Rattle.std.proofs.Common.{◌≡◌, take}
use Rattle.std.specs.Io.KnownBytes.{Appends, Consumes}
use Rattle.chip_model.specs.Exchanges.{sends_of, sizes_of}
use Rattle.serprog.specs.Protocol.{answers, spiops}
use Rattle.serprog.proofs.frames.Serprog.exchange_each.Given as goal

-- the commands so far were sent, and their answers taken
abbrev pub invariant-loop-turn : goal.invariant-loop-turn
invariant-loop-turn g l =
    Appends (g.O.Sink.written l.fn.self.sink) (g.O.Sink.written l.self.sink) (spiops (take l.turn-index l.turns))
    × Consumes (g.I.Source.remaining l.fn.self.source) (g.I.Source.remaining l.self.source) (answers (take l.turn-index l.turns))
    × (sends_of l.turns ≡ sends_of l.fn.turns)
    × (sizes_of l.turns ≡ sizes_of l.fn.turns)
