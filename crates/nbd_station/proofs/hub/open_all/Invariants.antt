use Rattle.std.proofs.Common.{◌≡◌, All, vec_len}
use Rattle.nbd_station.proofs.hub.open_all.Given as goal

abbrev pub invariant-loop : goal.invariant-loop
invariant-loop l = (vec_len l.sessions ≡ l.counter) × All (λ session. session.export ≡ l.export) l.sessions.items
