use Rattle.std.proofs.Common.{◌≡◌, take}
use Rattle.std.specs.Io.KnownBytes.{Consumes}
use Rattle.chip_model.specs.Exchanges.{sends_of, sizes_of}
use Rattle.serprog.specs.Protocol.{answers}
use Rattle.serprog.proofs.frames.Serprog.answer_each.Given as goal

-- the answers so far were taken; what is sent, and how much is received, is as it was
abbrev pub invariant-loop-turn : goal.invariant-loop-turn
invariant-loop-turn g l =
    Consumes (g.I.Source.remaining l.fn.self.source) (g.I.Source.remaining l.self.source) (answers (take l.turn-index l.turns))
    × (sends_of l.turns ≡ sends_of l.fn.turns)
    × (sizes_of l.turns ≡ sizes_of l.fn.turns)
    × (l.self.sink ≡ l.fn.self.sink)
    × (l.self.identity ≡ l.fn.self.identity)
