use Rattle.std.proofs.Common.{◌≡◌, ◌⊎◌, inl, inr, ◌≤◌, refl, ◌∙◌, sym, get_or, set, false}
use Rattle.nbd_station.specs.declared.event.Event.TheVariants.{Gone}
use Rattle.nbd_station.proofs.Moving.{station, does_by, does_seen, does_same, seen_power, refused, gone_none, gone_done}
use Rattle.nbd_station.proofs.hub.Hub.gone.Goals as goal
use Rattle.nbd_station.proofs.hub.Hub.gone.Goals.{then-at-ge-CONNECTIONS-via-then-at-ge-CONNECTIONS, then-at-ge-CONNECTIONS-via-else-at-ge-CONNECTIONS+then-not-self-at}

pub returns-then-not-self-clause-does : goal.returns-then-not-self-clause-does
returns-then-not-self-clause-does g c =
    does_by c.args.self.now c.args.self.now (Gone c.args.who) _ _ _ _ c.put.result _ _ (refused c.args.self.now (Gone c.args.who) _ _ (seen_power _ _ _ c.self.view_is c.if-not-self.true) (λ w. (refl, refl))) c.put.ensures

pub returns-then-at-ge-CONNECTIONS-clause-does : goal.returns-then-at-ge-CONNECTIONS-clause-does
returns-then-at-ge-CONNECTIONS-clause-does g c =
    let s = c.self.inside in
    let before = station (g.D.Disk.facts s.disk) s.export s.power s.sessions.items s.is_open in
    let cause : (8 ≤ c.args.who) ⊎ (get_or s.is_open c.args.who false ≡ false) =
    elim c.then-at-ge-CONNECTIONS.branch [ then-at-ge-CONNECTIONS-via-then-at-ge-CONNECTIONS w ↦ inl w.if-at-ge-CONNECTIONS.true | then-at-ge-CONNECTIONS-via-else-at-ge-CONNECTIONS+then-not-self-at w ↦ inr w.if-not-self-at.true ] in
    does_same before c.args.self.now (Gone c.args.who) _ _ c.put-then-at-ge-CONNECTIONS.result c.self.view_is
    (does_by before before (Gone c.args.who) _ _ _ _ c.put-then-at-ge-CONNECTIONS.result _ _
    (gone_none before c.args.who _ (sym s.sessions.ok.0 ∙ c.self.invariant.eight) c.if-not-self.false cause) c.put-then-at-ge-CONNECTIONS.ensures)

pub returns-clause-does : goal.returns-clause-does
returns-clause-does g c =
    let s = c.self.inside in
    let before = station (g.D.Disk.facts s.disk) s.export s.power s.sessions.items s.is_open in
    let after = station (g.D.Disk.facts s.disk) s.export s.power s.sessions.items (set s.is_open c.args.who false) in
    does_seen before c.args.self.now after (Gone c.args.who) _ _ c.put-2.result c.self.view_is (does_by before after (Gone c.args.who) _ _ _ _ c.put-2.result _ _
    (gone_done (g.D.Disk.facts s.disk) s.export s.power s.sessions.items s.is_open c.args.who c.if-not-self.false _ c.if-not-self-at.false) c.put-2.ensures)
