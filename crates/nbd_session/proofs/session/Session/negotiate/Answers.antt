use Rattle.std.proofs.Common.{◌≡◌, ℕ, List, [], length, take, refl, sym, ap, ◌∙◌, arith, rules, Some, subst}
use Rattle.std.specs.Vec.{with_items}
use Rattle.std.proofs.lemmas.List.{with_items_is}
use Rattle.nbd_wire.specs.Parser.{ParserState}
use Rattle.nbd_wire.specs.declared.phase.Phase.TheVariants.{AwaitingFlags, Negotiating as Options, Transmitting, Closed}
use Rattle.nbd_transmission.proofs.Steps.{payload_short}
use Rattle.nbd_session.specs.declared.session.ReplyTo.TheVariants.{Negotiation, LastOption}
use Rattle.nbd_session.specs.declared.stage.Stage.{Stage}
use Rattle.nbd_session.specs.declared.stage.Stage.TheVariants.{Negotiating, Ended}
use Rattle.nbd_session.specs.Sessions.{SessionState, InStage}
use Rattle.nbd_session.specs.contracts.session.Session.{the_view}
use Rattle.nbd_session.proofs.Negotiated.{negotiates, says_more, says_stay, says_transmit, says_close}
use Rattle.nbd_session.proofs.Named.{last_says, stay_says}
use Rattle.nbd_session.proofs.session.Session.negotiate.Goals as goal

pub returns-in-None-clause-says : goal.returns-in-None-clause-says
returns-in-None-clause-says c start text h =
    let old = the_view c.self.inside in
    let stage : c.self.inside.stage ≡ Negotiating = ap (λ (l : SessionState). l.stage) c.self.view_is ∙ c.requires.stage in
    let was = negotiates start old text stage c.self.invariant.works (rw (← c.self.view_is) at h) in
    let used = take c.take-taken.result.used c.args.bytes.now in
    let reply = take c.take-taken.result.reply c.take-taken.new.reply in
    let size : length c.take-taken.new.reply ≡ c.self.inside.bytes.len = c.take-taken.auto.reply ∙ c.as_mut_slice.ensures.len in
    let whole = ap (λ (l : List ℕ). take c.take-taken.result.reply l) (with_items_is c.self.inside.bytes c.take-taken.new.reply size) in
    rw (← c.self.view_is) (says_more start old _ text used reply c.take-taken.result.next was stage c.in-None.is c.self.invariant.negotiates c.take-taken.ensures.answer (c.take-taken.ensures.represents start text was.stood))

pub returns-in-Some-AwaitingFlags-clause-says : goal.returns-in-Some-AwaitingFlags-clause-says
returns-in-Some-AwaitingFlags-clause-says c start text h =
    let old = the_view c.self.inside in
    let stage : c.self.inside.stage ≡ Negotiating = ap (λ (l : SessionState). l.stage) c.self.view_is ∙ c.requires.stage in
    let was = negotiates start old text stage c.self.invariant.works (rw (← c.self.view_is) at h) in
    let known : c.take-taken.result.next ≡ Some c.in-Some-AwaitingFlags.field-0 = c.in-Some-AwaitingFlags.is in
    let phase : c.in-Some-AwaitingFlags.field-0 ≡ AwaitingFlags = rw c.in-Some-AwaitingFlags.is at c.in-Some-AwaitingFlags.field-0-is in
    let used = take c.take-taken.result.used c.args.bytes.now in
    let reply = take c.take-taken.result.reply c.take-taken.new.reply in
    let size : length c.take-taken.new.reply ≡ c.self.inside.bytes.len = c.take-taken.auto.reply ∙ c.as_mut_slice.ensures.len in
    let whole = ap (λ (l : List ℕ). take c.take-taken.result.reply l) (with_items_is c.self.inside.bytes c.take-taken.new.reply size) in
    rw (← c.self.view_is) (says_stay start old _ Negotiation _ text used reply c.take-taken.result.next was stage tt (known ∙ ap Some phase) c.self.invariant.negotiates c.take-taken.ensures.answer (c.take-taken.ensures.represents start text was.stood) whole)

pub returns-in-Some-Negotiating-clause-says : goal.returns-in-Some-Negotiating-clause-says
returns-in-Some-Negotiating-clause-says c start text h =
    let old = the_view c.self.inside in
    let stage : c.self.inside.stage ≡ Negotiating = ap (λ (l : SessionState). l.stage) c.self.view_is ∙ c.requires.stage in
    let was = negotiates start old text stage c.self.invariant.works (rw (← c.self.view_is) at h) in
    let known : c.take-taken.result.next ≡ Some c.in-Some-Negotiating.field-0 = c.in-Some-Negotiating.is in
    let phase : c.in-Some-Negotiating.field-0 ≡ Options c.in-Some-Negotiating.field-0-0 = rw c.in-Some-Negotiating.is at c.in-Some-Negotiating.field-0-is in
    let used = take c.take-taken.result.used c.args.bytes.now in
    let reply = take c.take-taken.result.reply c.take-taken.new.reply in
    let size : length c.take-taken.new.reply ≡ c.self.inside.bytes.len = c.take-taken.auto.reply ∙ c.as_mut_slice.ensures.len in
    let whole = ap (λ (l : List ℕ). take c.take-taken.result.reply l) (with_items_is c.self.inside.bytes c.take-taken.new.reply size) in
    rw (← c.self.view_is) (says_stay start old _ Negotiation _ text used reply c.take-taken.result.next was stage tt (known ∙ ap Some phase) c.self.invariant.negotiates c.take-taken.ensures.answer (c.take-taken.ensures.represents start text was.stood) whole)

pub returns-in-Some-Transmitting-clause-says : goal.returns-in-Some-Transmitting-clause-says
returns-in-Some-Transmitting-clause-says c start text h =
    let old = the_view c.self.inside in
    let stage : c.self.inside.stage ≡ Negotiating = ap (λ (l : SessionState). l.stage) c.self.view_is ∙ c.requires.stage in
    let was = negotiates start old text stage c.self.invariant.works (rw (← c.self.view_is) at h) in
    let known : c.take-taken.result.next ≡ Some c.in-Some-Transmitting.field-0 = c.in-Some-Transmitting.is in
    let phase : c.in-Some-Transmitting.field-0 ≡ Transmitting = rw c.in-Some-Transmitting.is at c.in-Some-Transmitting.field-0-is in
    let used = take c.take-taken.result.used c.args.bytes.now in
    let reply = take c.take-taken.result.reply c.take-taken.new.reply in
    let size : length c.take-taken.new.reply ≡ c.self.inside.bytes.len = c.take-taken.auto.reply ∙ c.as_mut_slice.ensures.len in
    let whole = ap (λ (l : List ℕ). take c.take-taken.result.reply l) (with_items_is c.self.inside.bytes c.take-taken.new.reply size) in
    rw (← c.self.view_is) (says_transmit start old _ LastOption text used reply c.take-taken.result.next was refl (known ∙ ap Some phase) c.self.invariant.negotiates c.take-taken.ensures.answer refl (ap (λ (x : ParserState). x.phase) c.new-self-inside.ensures.exact) c.new-self-inside.ensures.keeps whole)

pub returns-in-Some-Closed-clause-says : goal.returns-in-Some-Closed-clause-says
returns-in-Some-Closed-clause-says c start text h =
    let old = the_view c.self.inside in
    let stage : c.self.inside.stage ≡ Negotiating = ap (λ (l : SessionState). l.stage) c.self.view_is ∙ c.requires.stage in
    let was = negotiates start old text stage c.self.invariant.works (rw (← c.self.view_is) at h) in
    let known : c.take-taken.result.next ≡ Some c.in-Some-Closed.field-0 = c.in-Some-Closed.is in
    let phase : c.in-Some-Closed.field-0 ≡ Closed = rw c.in-Some-Closed.is at c.in-Some-Closed.field-0-is in
    let used = take c.take-taken.result.used c.args.bytes.now in
    let reply = take c.take-taken.result.reply c.take-taken.new.reply in
    let size : length c.take-taken.new.reply ≡ c.self.inside.bytes.len = c.take-taken.auto.reply ∙ c.as_mut_slice.ensures.len in
    let whole = ap (λ (l : List ℕ). take c.take-taken.result.reply l) (with_items_is c.self.inside.bytes c.take-taken.new.reply size) in
    let line : SessionState = record old { stage = Ended; handshake = c.take-taken.new.self; bytes = (with_items c.self.inside.bytes c.take-taken.new.reply).items; replied = c.take-taken.result.reply } in
    rw (← c.self.view_is) (says_close start old line text used reply c.take-taken.result.next was refl (known ∙ ap Some phase) c.self.invariant.negotiates c.take-taken.ensures.answer whole)

pub invariant_of-self-in-Some-Transmitting : goal.invariant_of-self-in-Some-Transmitting
invariant_of-self-in-Some-Transmitting c =
    let old = c.self.invariant in
    let exact = c.new-self-inside.ensures.exact in
    let reply = c.take-taken.ensures.reply in
    record {
      size = old.size;
      least = old.least;
      most = old.most;
      negotiates = c.take-taken.ensures.export ∙ old.negotiates;
      transmits = ap (λ (x : ParserState). x.export) exact;
      runs = old.runs;
      fits = omega arith;
      replies = omega (arith, reply, old.least);
      works = record { phase = ap (λ (x : ParserState). x.phase) exact; rest = []; keeps = c.new-self-inside.ensures.keeps; filled_is = sym (ap (λ (l : List ℕ). length l) (payload_short c.new-self-inside.result.export [] (omega arith))) };
    }

pub returns-in-None-clause-progress : goal.returns-in-None-clause-progress
returns-in-None-clause-progress c = c.take-taken.ensures.progress (search rules)

pub returns-in-Some-AwaitingFlags-clause-progress : goal.returns-in-Some-AwaitingFlags-clause-progress
returns-in-Some-AwaitingFlags-clause-progress c = c.take-taken.ensures.progress (search rules)

pub returns-in-Some-Negotiating-clause-progress : goal.returns-in-Some-Negotiating-clause-progress
returns-in-Some-Negotiating-clause-progress c = c.take-taken.ensures.progress (search rules)

pub returns-in-Some-Transmitting-clause-progress : goal.returns-in-Some-Transmitting-clause-progress
returns-in-Some-Transmitting-clause-progress c = c.take-taken.ensures.progress (search rules)

pub returns-in-Some-Closed-clause-progress : goal.returns-in-Some-Closed-clause-progress
returns-in-Some-Closed-clause-progress c = c.take-taken.ensures.progress (search rules)

pub returns-in-Some-AwaitingFlags-clause-unknown : goal.returns-in-Some-AwaitingFlags-clause-unknown
returns-in-Some-AwaitingFlags-clause-unknown c rest keeps =
    let stage : c.self.inside.stage ≡ Negotiating = ap (λ (l : SessionState). l.stage) c.self.view_is ∙ c.requires.stage in
    let open_phase = subst (λ (g : Stage). InStage g c.self.inside.handshake c.self.inside.transmission c.self.inside.filled) stage c.self.invariant.works in
    let step = c.take-taken.ensures.step rest open_phase (rw (← c.self.view_is) at keeps) in
    rw (← c.self.view_is) (stay_says c.self.inside.handshake c.take-taken.new.self _ (take c.take-taken.result.reply c.take-taken.new.reply) c.take-taken.result.unknown c.option_reply_to.result c.take-taken.result.next _ c.in-Some-AwaitingFlags.is c.option_reply_to.ensures step)

pub returns-in-Some-Negotiating-clause-unknown : goal.returns-in-Some-Negotiating-clause-unknown
returns-in-Some-Negotiating-clause-unknown c rest keeps =
    let stage : c.self.inside.stage ≡ Negotiating = ap (λ (l : SessionState). l.stage) c.self.view_is ∙ c.requires.stage in
    let open_phase = subst (λ (g : Stage). InStage g c.self.inside.handshake c.self.inside.transmission c.self.inside.filled) stage c.self.invariant.works in
    let step = c.take-taken.ensures.step rest open_phase (rw (← c.self.view_is) at keeps) in
    rw (← c.self.view_is) (stay_says c.self.inside.handshake c.take-taken.new.self _ (take c.take-taken.result.reply c.take-taken.new.reply) c.take-taken.result.unknown c.option_reply_to-in-Some-Negotiating.result c.take-taken.result.next _ c.in-Some-Negotiating.is c.option_reply_to-in-Some-Negotiating.ensures step)

pub returns-in-Some-Transmitting-clause-unknown : goal.returns-in-Some-Transmitting-clause-unknown
returns-in-Some-Transmitting-clause-unknown c rest keeps = last_says _
