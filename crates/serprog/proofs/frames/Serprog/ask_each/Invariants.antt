use Rattle.std.proofs.Common.{◌≡◌, take}
use Rattle.std.specs.Io.KnownBytes.{Appends}
use Rattle.serprog.specs.Protocol.{spiops}
use Rattle.serprog.proofs.frames.Serprog.ask_each.Given as goal

-- the commands so far were sent
abbrev pub invariant-loop-turn : goal.invariant-loop-turn
invariant-loop-turn g l =
    Appends (g.O.Sink.written l.fn.self.sink) (g.O.Sink.written l.self.sink) (spiops (take l.turn-index l.turns))
    × (l.self.source ≡ l.fn.self.source)
    × (l.self.identity ≡ l.fn.self.identity)
