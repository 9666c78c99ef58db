use Rattle.std.proofs.Common.{◌≡◌, ◌⊎◌, inl, inr, ◌≤◌, refl, ◌∙◌, sym, get_or, set, false, length, ap, rules, replicate, subst}
use Rattle.std.proofs.lemmas.List.{length-set}
use Rattle.nbd_station.specs.declared.event.Event.TheVariants.{Piece}
use Rattle.nbd_station.specs.StationState.{StationState, memories}
use Rattle.nbd_station.specs.Moving.{Does}
use Rattle.nbd_station.specs.Telling.{SlowComes}
use Rattle.nbd_station.proofs.Lines.{memory_stays}
use Rattle.nbd_station.proofs.Moving.{station, does_by, does_seen, does_same, seen_power, refused, piece_none, halts_seen}
use Rattle.nbd_station.proofs.Piecing.{piece_stays, piece_shut, piece_lost, piece_stops}
use Rattle.nbd_station.proofs.Telling.{told_sent}
use Rattle.nbd_station.proofs.hub.Hub.take.Goals as goal
use Rattle.nbd_station.proofs.hub.Hub.take.Goals.{then-at-ge-CONNECTIONS-via-then-at-ge-CONNECTIONS, then-at-ge-CONNECTIONS-via-else-at-ge-CONNECTIONS+then-not-self-at}

pub returns-then-not-self-clause-does : goal.returns-then-not-self-clause-does
returns-then-not-self-clause-does g c =
    does_by c.args.self.now c.args.self.now (Piece c.args.who c.args.bytes) _ _ _ _ c.put.result _ _ (refused c.args.self.now (Piece c.args.who c.args.bytes) _ _ (seen_power _ _ _ c.self.view_is c.if-not-self.true) (λ w. (refl, refl))) c.put.ensures

pub returns-then-at-ge-CONNECTIONS-clause-does : goal.returns-then-at-ge-CONNECTIONS-clause-does
returns-then-at-ge-CONNECTIONS-clause-does g c =
    let s = c.self.inside in
    let before = station (g.D.Disk.facts s.disk) s.export s.power s.sessions.items s.is_open in
    let cause : (8 ≤ c.args.who) ⊎ (get_or s.is_open c.args.who false ≡ false) =
    elim c.then-at-ge-CONNECTIONS.branch [ then-at-ge-CONNECTIONS-via-then-at-ge-CONNECTIONS w ↦ inl w.if-at-ge-CONNECTIONS.true | then-at-ge-CONNECTIONS-via-else-at-ge-CONNECTIONS+then-not-self-at w ↦ inr w.if-not-self-at.true ] in
    does_same before c.args.self.now (Piece c.args.who c.args.bytes) _ _ c.put-then-at-ge-CONNECTIONS.result c.self.view_is
    (does_by before before (Piece c.args.who c.args.bytes) _ _ _ _ c.put-then-at-ge-CONNECTIONS.result _ _
    (piece_none before c.args.who c.args.bytes _ (sym s.sessions.ok.0 ∙ c.self.invariant.eight) c.if-not-self.false cause) c.put-then-at-ge-CONNECTIONS.ensures)

pub returns-in-Open-clause-does : goal.returns-in-Open-clause-does
returns-in-Open-clause-does g c =
    let s = c.self.inside in
    let line = c.take_piece.new.session in
    let f = g.D.Disk.facts s.disk in
    let f' = g.D.Disk.facts c.take_piece.new.disk in
    let e = c.in-Open.ensures in
    let sec : c.index_mut.result.now.export ≡ s.export = search rules in
    let eight : length s.sessions.items ≡ 8 = sym s.sessions.ok.0 ∙ c.self.invariant.eight in
    let before = station f s.export s.power s.sessions.items s.is_open in
    let after = station f' s.export s.power (set s.sessions.items c.args.who line) s.is_open in
    does_seen before c.args.self.now after (Piece c.args.who c.args.bytes) _ _ c.put-in-Open.result c.self.view_is
    (does_by before after (Piece c.args.who c.args.bytes) _ _ _ _ c.put-in-Open.result _ _
    (piece_stays f f' s.export s.power s.sessions.items s.is_open (g.W.Sink.written c.args.out.now) (g.W.Sink.written c.take_piece.new.out) c.args.who c.args.bytes _ c.index_mut.result.now line
    eight c.if-not-self.false c.if-at-ge-CONNECTIONS.false (sym c.index_mut.ensures.value) c.if-not-self-at.false sec e.sound e.goes.cuts
    e.says) c.put-in-Open.ensures)

pub returns-in-Closed-clause-does : goal.returns-in-Closed-clause-does
returns-in-Closed-clause-does g c =
    let s = c.self.inside in
    let line = c.take_piece.new.session in
    let f = g.D.Disk.facts s.disk in
    let f' = g.D.Disk.facts c.take_piece.new.disk in
    let e = c.in-Closed.ensures in
    let sec : c.index_mut.result.now.export ≡ s.export = search rules in
    let eight : length s.sessions.items ≡ 8 = sym s.sessions.ok.0 ∙ c.self.invariant.eight in
    let before = station f s.export s.power s.sessions.items s.is_open in
    let after = station f' s.export s.power (set s.sessions.items c.args.who line) (set s.is_open c.args.who false) in
    does_seen before c.args.self.now after (Piece c.args.who c.args.bytes) _ _ c.put-in-Closed.result c.self.view_is
    (does_by before after (Piece c.args.who c.args.bytes) _ _ _ _ c.put-in-Closed.result _ _
    (piece_shut f f' s.export s.power s.sessions.items s.is_open (g.W.Sink.written c.args.out.now) (g.W.Sink.written c.take_piece.new.out) c.args.who c.args.bytes _ c.index_mut.result.now line
    eight c.if-not-self.false c.if-at-ge-CONNECTIONS.false (sym c.index_mut.ensures.value) c.if-not-self-at.false sec e.sound e.goes.cuts
    e.says) c.put-in-Closed.ensures)

pub returns-in-Lost-clause-does : goal.returns-in-Lost-clause-does
returns-in-Lost-clause-does g c =
    let s = c.self.inside in
    let line = c.take_piece.new.session in
    let f = g.D.Disk.facts s.disk in
    let f' = g.D.Disk.facts c.take_piece.new.disk in
    let e = c.in-Lost.ensures in
    let sec : c.index_mut.result.now.export ≡ s.export = search rules in
    let eight : length s.sessions.items ≡ 8 = sym s.sessions.ok.0 ∙ c.self.invariant.eight in
    let before = station f s.export s.power s.sessions.items s.is_open in
    let after = station f' s.export false (set s.sessions.items c.args.who line) (replicate 8 false) in
    subst (λ b. Does c.args.self.now b (Piece c.args.who c.args.bytes) (g.W.Sink.written c.args.out.now) c.put-in-Lost.result (g.W.Sink.written c.put-in-Lost.new.out)) (sym c.go_dark.ensures)
    (does_seen before c.args.self.now after (Piece c.args.who c.args.bytes) _ _ c.put-in-Lost.result c.self.view_is
    (does_by before after (Piece c.args.who c.args.bytes) _ _ _ _ c.put-in-Lost.result _ _
    (piece_lost f f' s.export s.power s.sessions.items s.is_open (g.W.Sink.written c.args.out.now) (g.W.Sink.written c.take_piece.new.out) c.args.who c.args.bytes _ c.index_mut.result.now line
    eight c.if-not-self.false c.if-at-ge-CONNECTIONS.false (sym c.index_mut.ensures.value) c.if-not-self-at.false sec e.sound e.goes.cuts (length-set s.sessions.items c.args.who _ ∙ eight)
    e.says) c.put-in-Lost.ensures))

pub returns-in-OutputFailed-clause-does : goal.returns-in-OutputFailed-clause-does
returns-in-OutputFailed-clause-does g c =
    let s = c.self.inside in
    let line = c.take_piece.new.session in
    let f = g.D.Disk.facts s.disk in
    let f' = g.D.Disk.facts c.take_piece.new.disk in
    let e = c.in-OutputFailed.ensures in
    let sec : c.index_mut.result.now.export ≡ s.export = search rules in
    let eight : length s.sessions.items ≡ 8 = sym s.sessions.ok.0 ∙ c.self.invariant.eight in
    let before = station f s.export s.power s.sessions.items s.is_open in
    let after = station f' s.export s.power (set s.sessions.items c.args.who line) s.is_open in
    halts_seen before c.args.self.now after (Piece c.args.who c.args.bytes) _ _ c.self.view_is
    (piece_stops f f' s.export s.power s.sessions.items s.is_open (g.W.Sink.written c.args.out.now) (g.W.Sink.written c.take_piece.new.out) c.args.who c.args.bytes _ c.index_mut.result.now line
    eight c.if-not-self.false c.if-at-ge-CONNECTIONS.false (sym c.index_mut.ensures.value) c.if-not-self-at.false sec e.sound e.goes.cuts
    e.says)

pub returns-in-Open-clause-memory : goal.returns-in-Open-clause-memory
returns-in-Open-clause-memory g c =
    memory_stays c.self.inside.sessions.items c.args.who c.take_piece.new.session c.index_mut.result.now _ (sym c.index_mut.ensures.value) c.in-Open.ensures.memory ∙ ap memories c.self.view_is

pub returns-in-Closed-clause-memory : goal.returns-in-Closed-clause-memory
returns-in-Closed-clause-memory g c =
    memory_stays c.self.inside.sessions.items c.args.who c.take_piece.new.session c.index_mut.result.now _ (sym c.index_mut.ensures.value) c.in-Closed.ensures.memory ∙ ap memories c.self.view_is

pub returns-in-Lost-clause-memory : goal.returns-in-Lost-clause-memory
returns-in-Lost-clause-memory g c =
    ap memories c.go_dark.ensures ∙ (memory_stays c.self.inside.sessions.items c.args.who c.take_piece.new.session c.index_mut.result.now _ (sym c.index_mut.ensures.value) c.in-Lost.ensures.memory ∙ ap memories c.self.view_is)

pub returns-in-OutputFailed-clause-memory : goal.returns-in-OutputFailed-clause-memory
returns-in-OutputFailed-clause-memory g c =
    memory_stays c.self.inside.sessions.items c.args.who c.take_piece.new.session c.index_mut.result.now _ (sym c.index_mut.ensures.value) c.in-OutputFailed.ensures.memory ∙ ap memories c.self.view_is

pub returns-in-Open-clause-tells : goal.returns-in-Open-clause-tells
returns-in-Open-clause-tells g c =
    let s = c.self.inside in
    let before = station (g.D.Disk.facts s.disk) s.export s.power s.sessions.items s.is_open in
    let after = station (g.D.Disk.facts c.take_piece.new.disk) s.export s.power (set s.sessions.items c.args.who c.take_piece.new.session) s.is_open in
    told_sent before c.args.self.now after (Piece c.args.who c.args.bytes) _ _ _ _ _ _ c.put-in-Open.result c.self.view_is c.in-Open.ensures.wrote c.put-in-Open.ensures (λ x. tt) c.in-Open.ensures.slow

pub returns-in-Closed-clause-tells : goal.returns-in-Closed-clause-tells
returns-in-Closed-clause-tells g c =
    let s = c.self.inside in
    let before = station (g.D.Disk.facts s.disk) s.export s.power s.sessions.items s.is_open in
    let after = station (g.D.Disk.facts c.take_piece.new.disk) s.export s.power (set s.sessions.items c.args.who c.take_piece.new.session) (set s.is_open c.args.who false) in
    told_sent before c.args.self.now after (Piece c.args.who c.args.bytes) _ _ _ _ _ _ c.put-in-Closed.result c.self.view_is c.in-Closed.ensures.wrote c.put-in-Closed.ensures (λ x. tt) c.in-Closed.ensures.slow

pub returns-in-Lost-clause-tells : goal.returns-in-Lost-clause-tells
returns-in-Lost-clause-tells g c =
    let s = c.self.inside in
    let before = station (g.D.Disk.facts s.disk) s.export s.power s.sessions.items s.is_open in
    told_sent before c.args.self.now c.go_dark.new.self (Piece c.args.who c.args.bytes) _ _ _ _ _ _ c.put-in-Lost.result c.self.view_is c.in-Lost.ensures.wrote c.put-in-Lost.ensures (λ x. tt)
    (subst (λ (b : StationState). SlowComes (g.D.Disk.facts s.disk) b.disk) (sym c.go_dark.ensures) c.in-Lost.ensures.slow)
