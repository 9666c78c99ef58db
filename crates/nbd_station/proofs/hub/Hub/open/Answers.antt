use Rattle.std.proofs.Common.{◌≡◌, ◌⊎◌, inl, inr, ◌≤◌, refl, ◌∙◌, sym, get_or, set, false, true, ap, []}
use Rattle.nbd_station.specs.declared.event.Event.TheVariants.{Open}
use Rattle.nbd_session.specs.Sessions.{is_ended}
use Rattle.nbd_station.specs.StationState.{ServesText, memories}
use Rattle.nbd_station.proofs.Lines.{memory_stays}
use Rattle.nbd_station.proofs.Moving.{station, does_by, does_seen, does_same, seen_power, refused, open_none, open_done, open_halts, halts_seen}
use Rattle.nbd_station.proofs.Telling.{told_sent, slow_still}
use Rattle.nbd_station.proofs.hub.Hub.open.Goals as goal
use Rattle.nbd_station.proofs.hub.Hub.open.Goals.{then-at-ge-CONNECTIONS-via-then-at-ge-CONNECTIONS, then-at-ge-CONNECTIONS-via-else-at-ge-CONNECTIONS+then-self-at}

pub returns-then-not-self-clause-does : goal.returns-then-not-self-clause-does
returns-then-not-self-clause-does g c =
    does_by c.args.self.now c.args.self.now (Open c.args.who) _ _ _ _ c.put.result _ _ (refused c.args.self.now (Open c.args.who) _ _ (seen_power _ _ _ c.self.view_is c.if-not-self.true) (λ w. (refl, refl))) c.put.ensures

pub returns-then-at-ge-CONNECTIONS-clause-does : goal.returns-then-at-ge-CONNECTIONS-clause-does
returns-then-at-ge-CONNECTIONS-clause-does g c =
    let s = c.self.inside in
    let before = station (g.D.Disk.facts s.disk) s.export s.power s.sessions.items s.is_open in
    let cause : (8 ≤ c.args.who) ⊎ (get_or s.is_open c.args.who false ≡ true) =
    elim c.then-at-ge-CONNECTIONS.branch [ then-at-ge-CONNECTIONS-via-then-at-ge-CONNECTIONS w ↦ inl w.if-at-ge-CONNECTIONS.true | then-at-ge-CONNECTIONS-via-else-at-ge-CONNECTIONS+then-self-at w ↦ inr w.if-self-at.true ] in
    does_same before c.args.self.now (Open c.args.who) _ _ c.put-then-at-ge-CONNECTIONS.result c.self.view_is
    (does_by before before (Open c.args.who) _ _ _ _ c.put-then-at-ge-CONNECTIONS.result _ _
    (open_none before c.args.who _ c.if-not-self.false cause) c.put-then-at-ge-CONNECTIONS.ensures)

pub returns-in-Err-clause-does : goal.returns-in-Err-clause-does
returns-in-Err-clause-does g c =
    let s = c.self.inside in
    let line = c.reset.new.self in
    let fresh = c.reset.ensures.fresh in
    let serves : ServesText line [] = (ap is_ended fresh.stage, fresh.represents) in
    let before = station (g.D.Disk.facts s.disk) s.export s.power s.sessions.items s.is_open in
    let after = station (g.D.Disk.facts s.disk) s.export s.power (set s.sessions.items c.args.who line) (set s.is_open c.args.who true) in
    halts_seen before c.args.self.now after (Open c.args.who) _ _ c.self.view_is
    (open_halts (g.D.Disk.facts s.disk) s.export s.power s.sessions.items s.is_open c.args.who c.if-not-self.false _ _ line c.reply.result.now _ _
    c.if-at-ge-CONNECTIONS.false c.if-self-at.false serves (c.reply.ensures.value ∙ fresh.reply) c.in-Err.ensures)

pub returns-clause-does : goal.returns-clause-does
returns-clause-does g c =
    let s = c.self.inside in
    let line = c.reset.new.self in
    let fresh = c.reset.ensures.fresh in
    let serves : ServesText line [] = (ap is_ended fresh.stage, fresh.represents) in
    let before = station (g.D.Disk.facts s.disk) s.export s.power s.sessions.items s.is_open in
    let after = station (g.D.Disk.facts s.disk) s.export s.power (set s.sessions.items c.args.who line) (set s.is_open c.args.who true) in
    does_seen before c.args.self.now after (Open c.args.who) _ _ c.put-2.result c.self.view_is (does_by before after (Open c.args.who) _ _ _ _ c.put-2.result _ _
    (open_done (g.D.Disk.facts s.disk) s.export s.power s.sessions.items s.is_open c.args.who c.if-not-self.false _ _ line c.reply.result.now
    c.if-at-ge-CONNECTIONS.false c.if-self-at.false serves (c.reply.ensures.value ∙ fresh.reply) (let t = rw c.in_default.is at c.tell.ensures in t.0)) c.put-2.ensures)

pub returns-in-Err-clause-memory : goal.returns-in-Err-clause-memory
returns-in-Err-clause-memory g c =
    memory_stays c.self.inside.sessions.items c.args.who c.reset.new.self c.index_mut-session.result.now _ (sym c.index_mut-session.ensures.value) c.reset.ensures.memory ∙ ap memories c.self.view_is

pub returns-clause-memory : goal.returns-clause-memory
returns-clause-memory g c =
    memory_stays c.self.inside.sessions.items c.args.who c.reset.new.self c.index_mut-session.result.now _ (sym c.index_mut-session.ensures.value) c.reset.ensures.memory ∙ ap memories c.self.view_is

pub returns-clause-tells : goal.returns-clause-tells
returns-clause-tells g c =
    let s = c.self.inside in
    let before = station (g.D.Disk.facts s.disk) s.export s.power s.sessions.items s.is_open in
    let after = station (g.D.Disk.facts s.disk) s.export s.power (set s.sessions.items c.args.who c.reset.new.self) (set s.is_open c.args.who true) in
    told_sent before c.args.self.now after (Open c.args.who) _ _ _ _ _ _ c.put-2.result c.self.view_is (_, let t = rw c.in_default.is at c.tell.ensures in t.0) c.put-2.ensures (λ x. tt) (slow_still (g.D.Disk.facts s.disk))
