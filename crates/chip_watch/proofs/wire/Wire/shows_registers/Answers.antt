use Rattle.std.proofs.Common.{[], ◌∷◌, ℕ, subst}
use Rattle.chip_model.specs.Exchanges.{Exchange, Exchanged}
use Rattle.chip_model.proofs.ExchangeLaws.{exchanged_twice}
use Rattle.chip_watch.specs.Told.{frames_told}
use Rattle.chip_watch.proofs.wire.Wire.shows_registers.Goals as goal

pub returns : goal.returns
returns g c =
    let log = g.P.Programmer.exchanged in
    let s = c.args.shadow.now in
    let l0 = frames_told log c.args.self.now in
    let l1 = frames_told log c.tells.new.self in
    let l2 = frames_told log c.tells-2.new.self in
    let l3 = frames_told log c.tells-3.new.self in
    let first : ℕ → Exchange = λ v. record { sent = 5 ∷ []; received = v ∷ [] } in
    let second : Exchange = record { sent = 53 ∷ []; received = s.status2 ∷ [] } in
    let third : Exchange = record { sent = 21 ∷ []; received = s.status3 ∷ [] } in
    subst (λ (v : ℕ). Exchanged l0 l3 (first v ∷ second ∷ third ∷ [])) c.requires
    (exchanged_twice l0 l1 l3 (first c.args.status1 ∷ []) (second ∷ third ∷ []) c.in_ok-tells.ensures
    (exchanged_twice l1 l2 l3 (second ∷ []) (third ∷ []) c.in_ok-tells-2.ensures c.in_ok-tells-3.ensures))
