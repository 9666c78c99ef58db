use Rattle.std.proofs.Common.{◌≡◌, List, length}
use Rattle.flash_host.specs.Exchanges.{HostExchange, HostServed}
use Rattle.flash_host.proofs.answering.answer_all.Given as goal

abbrev pub invariant-loop : goal.invariant-loop
invariant-loop g l =
    (xs : List HostExchange)
    × HostServed (g.D.Disk.facts l.initial.disk) (g.D.Disk.facts l.disk) (g.H.Host.events l.initial.host) (g.H.Host.events l.host) xs
    × (length xs ≡ l.counter)
