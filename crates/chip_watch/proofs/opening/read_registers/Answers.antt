use Rattle.std.proofs.Common.{[], ◌∷◌}
use Rattle.chip_model.specs.Exchanges.{Exchange}
use Rattle.chip_model.proofs.ExchangeLaws.{exchanged_twice}
use Rattle.chip_watch.specs.Told.{frames_told}
use Rattle.chip_watch.proofs.opening.read_registers.Goals as goal

pub returns-clause-read : goal.returns-clause-read
returns-clause-read g c =
    let log = g.P.Programmer.exchanged in
    let l0 = frames_told log c.args.wire.now in
    let l1 = frames_told log c.register.new.wire in
    let l2 = frames_told log c.register-2.new.wire in
    let l3 = frames_told log c.register-3.new.wire in
    let first : Exchange = record { sent = 5 ∷ []; received = c.in_ok-first.first ∷ [] } in
    let second : Exchange = record { sent = 53 ∷ []; received = c.in_ok-second.second ∷ [] } in
    let third : Exchange = record { sent = 21 ∷ []; received = c.in_ok-third.third ∷ [] } in
    exchanged_twice l0 l1 l3 (first ∷ []) (second ∷ third ∷ []) c.in_ok-first.ensures.read
    (exchanged_twice l1 l2 l3 (second ∷ []) (third ∷ []) c.in_ok-second.ensures.read c.in_ok-third.ensures.read)
