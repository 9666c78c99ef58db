use Rattle.std.proofs.Common.{◌≡◌, ◌≤◌, ◌+◌, ◌-◌, ◌++◌, ℕ, List, length, take, drop, Some, refl, ap, subst, ◌∙◌, arith}
use Rattle.std.specs.Vec.{with_items}
use Rattle.std.proofs.lemmas.List.{with_items_is, length-drop, length-take-le}
use Rattle.nbd_wire.specs.declared.export.Export.{Export}
use Rattle.nbd_wire.specs.declared.next.Next.{Next}
use Rattle.nbd_wire.specs.declared.next.Next.TheVariants.{Reply, Run}
use Rattle.nbd_transmission.specs.declared.transmission.Refusal.{Refusal}
use Rattle.nbd_transmission.specs.Taking.{IsJudged}
use Rattle.nbd_session.specs.declared.session.ReplyTo.TheVariants.{Refused}
use Rattle.nbd_session.specs.declared.stage.Stage.TheVariants.{Requesting, Ended}
use Rattle.nbd_session.specs.Lent.{IsRunnable, lent_now}
use Rattle.nbd_session.specs.Sessions.{SessionState}
use Rattle.nbd_session.specs.contracts.session.Session.{the_view}
use Rattle.nbd_session.proofs.Lends.{lent_fits}
use Rattle.nbd_session.proofs.Requested.{requests, says_more, says_run, says_refused, says_close}
use Rattle.nbd_session.proofs.session.Session.transmit.Goals as goal

pub returns-in-More-clause-says : goal.returns-in-More-clause-says
returns-in-More-clause-says c start text h =
    let old = the_view c.self.inside in
    let stage : c.self.inside.stage ≡ Requesting = ap (λ (l : SessionState). l.stage) c.self.view_is ∙ c.requires.stage in
    let was = requests start old text stage c.self.invariant.works (rw (← c.self.view_is) at h) in
    let used = take c.receive-taken.result.used c.args.bytes.now in
    let part = drop (c.receive-taken.result.used - c.receive-taken.result.payload) used in
    let store = c.receive-taken.new.store in
    let size : length store ≡ c.self.inside.bytes.len = c.receive-taken.auto.store ∙ c.as_mut_slice.ensures.len in
    let whole = with_items_is c.self.inside.bytes store size in
    let room = ap (λ (l : List ℕ). take (c.self.inside.filled + c.receive-taken.result.payload) (drop 16 l)) whole ∙ c.receive-taken.ensures.stored ∙ ap (λ (l : List ℕ). take c.self.inside.filled (drop 16 l) ++ part) c.as_mut_slice.ensures.value in
    rw (← c.self.view_is) (says_more start old _ text used part c.receive-taken.result.next was stage c.in-More.is c.self.invariant.transmits refl c.receive-taken.ensures.step c.receive-taken.ensures.part room)

pub returns-in-Run-clause-ready : goal.returns-in-Run-clause-ready
returns-in-Run-clause-ready c =
    let command = c.in-Run.command in
    let n = c.self.inside.export in
    let store = c.receive-taken.new.store in
    let size : length store ≡ c.self.inside.bytes.len = c.receive-taken.auto.store ∙ c.as_mut_slice.ensures.len in
    let items = (with_items c.self.inside.bytes store).items in
    let whole : length items ≡ c.self.inside.bytes.len = ap (λ (l : List ℕ). length l) (with_items_is c.self.inside.bytes store size) ∙ size in
    let runs : IsRunnable n (Some command) = subst (λ (m : Export). IsJudged m (Run command)) c.self.invariant.transmits (subst (λ (a : Next Refusal). IsJudged c.self.inside.transmission.export a) c.in-Run.is c.receive-taken.ensures.accepted) in
    let lent = lent_fits n (Some command) runs in
    let long = c.self.invariant.size in
    rw (← c.self.view_is) record {
      running = refl;
      accepted = runs.0;
      is_request = runs.1;
      room = length-take-le (lent_now (Some command)) (drop 16 items) (omega (arith, lent, whole, long, length-drop 16 items));
      filled = refl;
      replied = ap (λ (l : SessionState). l.replied) c.self.view_is ∙ c.requires.silent;
    }

pub returns-in-Run-clause-says : goal.returns-in-Run-clause-says
returns-in-Run-clause-says c start text h =
    let old = the_view c.self.inside in
    let stage : c.self.inside.stage ≡ Requesting = ap (λ (l : SessionState). l.stage) c.self.view_is ∙ c.requires.stage in
    let was = requests start old text stage c.self.invariant.works (rw (← c.self.view_is) at h) in
    let used = take c.receive-taken.result.used c.args.bytes.now in
    let part = drop (c.receive-taken.result.used - c.receive-taken.result.payload) used in
    let store = c.receive-taken.new.store in
    let size : length store ≡ c.self.inside.bytes.len = c.receive-taken.auto.store ∙ c.as_mut_slice.ensures.len in
    let whole = with_items_is c.self.inside.bytes store size in
    let room = ap (λ (l : List ℕ). take (c.self.inside.filled + c.receive-taken.result.payload) (drop 16 l)) whole ∙ c.receive-taken.ensures.stored ∙ ap (λ (l : List ℕ). take c.self.inside.filled (drop 16 l) ++ part) c.as_mut_slice.ensures.value in
    let items = (with_items c.self.inside.bytes store).items in
    let long = c.self.invariant.size in
    let short = c.receive-taken.ensures.fits in
    let same = ap (λ (e : Export). e.max_len) c.self.invariant.transmits in
    let fits : c.self.inside.filled + c.receive-taken.result.payload ≤ length (drop 16 items) = omega (arith, short, long, same, size, ap (λ (l : List ℕ). length l) whole, length-drop 16 items) in
    rw (← c.self.view_is) (says_run start old _ c.in-Run.command text used part (c.self.inside.filled + c.receive-taken.result.payload) c.receive-taken.result.next was stage c.in-Run.is refl refl c.self.invariant.transmits fits c.receive-taken.ensures.step c.receive-taken.ensures.part room)

pub returns-in-Reply-clause-ready : goal.returns-in-Reply-clause-ready
returns-in-Reply-clause-ready c =
    let store = c.receive-taken.new.store in
    let size : length store ≡ c.self.inside.bytes.len = c.receive-taken.auto.store ∙ c.as_mut_slice.ensures.len in
    let again : length c.put_head-self-inside.new.store ≡ c.self.inside.bytes.len = c.put_head-self-inside.auto.store ∙ c.as_mut_slice-in-Reply.ensures.len in
    let written = with_items_is (with_items c.self.inside.bytes store) c.put_head-self-inside.new.store again in
    let head = ap (λ (l : List ℕ). take c.put_head-self-inside.result l) written ∙ ap (λ (m : ℕ). take m c.put_head-self-inside.new.store) c.put_head-self-inside.ensures.len ∙ c.put_head-self-inside.ensures.head in
    let running = ap (λ (l : SessionState). l.running) c.self.view_is ∙ c.requires.idle in
    let judged = subst (λ (m : Export). IsJudged m (Reply c.in-Reply.refusal)) c.self.invariant.transmits (subst (λ (a : Next Refusal). IsJudged c.self.inside.transmission.export a) c.in-Reply.is c.receive-taken.ensures.accepted) in
    rw (← c.self.view_is) (running, (judged, head))

pub returns-in-Reply-clause-says : goal.returns-in-Reply-clause-says
returns-in-Reply-clause-says c start text h =
    let old = the_view c.self.inside in
    let stage : c.self.inside.stage ≡ Requesting = ap (λ (l : SessionState). l.stage) c.self.view_is ∙ c.requires.stage in
    let was = requests start old text stage c.self.invariant.works (rw (← c.self.view_is) at h) in
    let used = take c.receive-taken.result.used c.args.bytes.now in
    let part = drop (c.receive-taken.result.used - c.receive-taken.result.payload) used in
    let store = c.receive-taken.new.store in
    let size : length store ≡ c.self.inside.bytes.len = c.receive-taken.auto.store ∙ c.as_mut_slice.ensures.len in
    let whole = with_items_is c.self.inside.bytes store size in
    let again : length c.put_head-self-inside.new.store ≡ c.self.inside.bytes.len = c.put_head-self-inside.auto.store ∙ c.as_mut_slice-in-Reply.ensures.len in
    let written = with_items_is (with_items c.self.inside.bytes store) c.put_head-self-inside.new.store again in
    let head = ap (λ (l : List ℕ). take c.put_head-self-inside.result l) written ∙ ap (λ (m : ℕ). take m c.put_head-self-inside.new.store) c.put_head-self-inside.ensures.len ∙ c.put_head-self-inside.ensures.head in
    rw (← c.self.view_is) (says_refused start old _ c.in-Reply.refusal (Refused c.in-Reply.refusal) text used c.receive-taken.result.next was stage c.in-Reply.is refl head c.self.invariant.transmits c.receive-taken.ensures.step)

pub returns-in-Close-clause-says : goal.returns-in-Close-clause-says
returns-in-Close-clause-says c start text h =
    let old = the_view c.self.inside in
    let stage : c.self.inside.stage ≡ Requesting = ap (λ (l : SessionState). l.stage) c.self.view_is ∙ c.requires.stage in
    let was = requests start old text stage c.self.invariant.works (rw (← c.self.view_is) at h) in
    let used = take c.receive-taken.result.used c.args.bytes.now in
    let part = drop (c.receive-taken.result.used - c.receive-taken.result.payload) used in
    let store = c.receive-taken.new.store in
    let size : length store ≡ c.self.inside.bytes.len = c.receive-taken.auto.store ∙ c.as_mut_slice.ensures.len in
    let whole = with_items_is c.self.inside.bytes store size in
    let line : SessionState = record old { stage = Ended; transmission = c.receive-taken.new.parser; bytes = (with_items c.self.inside.bytes store).items; filled = 0 } in
    let none = ap (λ (m : ℕ). take m line.bytes) (ap (λ (l : SessionState). l.replied) c.self.view_is ∙ c.requires.silent) in
    rw (← c.self.view_is) (says_close start old line c.receive-taken.new.parser text used c.receive-taken.result.next was refl c.in-Close.is none c.self.invariant.transmits c.receive-taken.ensures.step)
