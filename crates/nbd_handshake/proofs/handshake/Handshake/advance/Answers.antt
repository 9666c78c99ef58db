use Rattle.std.proofs.Common.{◌≡◌, ℕ, ◌+◌, ◌-◌, ◌≤◌, min, length, take, drop, ◌++◌, arith, ap, sym, ◌∙◌, refl, inl, inr, subst, Option, List}
use Rattle.std.proofs.lemmas.Bool.{cases_lt}
use Rattle.std.proofs.lemmas.List.{length-take}
use Rattle.nbd_wire.specs.Units.{head_len, tail_len, IsUnit, after}
use Rattle.nbd_wire.proofs.Cutting.{tail_front}
use Rattle.nbd_handshake.specs.Fronts.{HasFront}
use Rattle.nbd_handshake.specs.Negotiating.{IsNegotiation, negotiation_reply}
use Rattle.nbd_handshake.specs.Asked.{unknown_name, TellsUnknown}
use Rattle.nbd_handshake.proofs.Cuts.{same_answer}
use Rattle.nbd_handshake.proofs.Fronts.{front_of_kept, kept_of_front, joined, joined_text, front_tail}
use Rattle.nbd_handshake.proofs.Steps.{head_range, is_open, tail_stays, waits, completes}
use Rattle.nbd_handshake.proofs.handshake.Handshake.advance.Goals as goal

-- the head is not whole yet
pub returns-then-count-head-clause-step : goal.returns-then-count-head-clause-step
returns-then-count-head-clause-step c rest keeps =
    let k = rw (← c.self.view_is) at keeps in
    let p = c.self.inside.phase in
    let n = c.min-first.result in
    let x = take n c.args.bytes.now in
    let grown = c.absorb.ensures.front rest (front_of_kept c.self.inside.kept rest c.self.inside.count c.self.told k.kept k.count) in
    let head : c.args.head ≡ head_len p = rw (← c.self.view_is) at c.requires.head in
    let small = c.if-count-head.true in
    let first = c.min-first.ensures in
    let n-is : length x ≡ n = omega (arith, length-take n c.args.bytes.now) in
    let len : length (rest ++ x) ≡ c.self.inside.count + n = omega (arith, grown.len) in
    let size : length c.absorb.new.buffer ≡ 8208 = c.absorb.auto.buffer ∙ c.self.told in
    let kept = kept_of_front c.absorb.new.buffer (rest ++ x) (c.self.inside.count + length x) size grown in
    rw (← c.self.view_is) (waits _ _ (rest ++ x) refl (λ long. absurd (omega arith)) record { kept = kept ∙ ap (λ (m : ℕ). take (min (c.self.inside.count + m) 8208) c.absorb.new.buffer) n-is; count = len }, refl, refl)

-- the head is whole, and its unit is not
pub invariant_of-self-then-count-total : goal.invariant_of-self-then-count-total
invariant_of-self-then-count-total c =
    let p = c.self.inside.phase in
    let n = c.min-first.result in
    let negotiation : IsNegotiation p = rw (← c.self.view_is) at c.requires.phase in
    let range = head_range p negotiation in
    let head : c.args.head ≡ head_len p = rw (← c.self.view_is) at c.requires.head in
    let low = range.0 in
    let high = range.1 in
    let whole = c.if-count-head.false in
    let small = c.if-count-total.true in
    let tail = c.tail_len.ensures.value in
    let tail_small = c.tail_len.ensures.small in
    let size : length c.absorb.new.buffer ≡ 8208 = c.absorb.auto.buffer ∙ c.self.told in
    let size2 : length c.absorb-2.new.buffer ≡ 8208 = c.absorb-2.auto.buffer ∙ size in
    let stays = tail_stays p (c.self.inside.count + n) c.absorb.new.buffer c.absorb-2.new.buffer size size2 high (omega arith) c.absorb-2.ensures.kept in
    (omega arith, λ _ _. omega arith)

pub returns-then-count-total-clause-step : goal.returns-then-count-total-clause-step
returns-then-count-total-clause-step c rest keeps =
    let k = rw (← c.self.view_is) at keeps in
    let bytes = c.args.bytes.now in
    let p = c.self.inside.phase in
    let n = c.min-first.result in
    let m = c.min-second.result in
    let grown = c.absorb.ensures.front rest (front_of_kept c.self.inside.kept rest c.self.inside.count c.self.told k.kept k.count) in
    let negotiation : IsNegotiation p = rw (← c.self.view_is) at c.requires.phase in
    let range = head_range p negotiation in
    let high = range.1 in
    let head : c.args.head ≡ head_len p = rw (← c.self.view_is) at c.requires.head in
    let whole = c.if-count-head.false in
    let small = c.if-count-total.true in
    let tail = c.tail_len.ensures.value in
    let first-is = c.min-first.ensures in
    let second-is = c.min-second.ensures in
    let missing = c.saturating_sub-2.ensures in
    let lack = c.saturating_sub.ensures in
    let n-is : length (take n bytes) ≡ n = omega (arith, length-take n bytes) in
    let size : length c.absorb.new.buffer ≡ 8208 = c.absorb.auto.buffer ∙ c.self.told in
    let size2 : length c.absorb-2.new.buffer ≡ 8208 = c.absorb-2.auto.buffer ∙ size in
    let front : HasFront c.absorb.new.buffer (c.self.inside.count + n) (rest ++ take n bytes) = rw n-is at grown in
    let again = joined rest bytes c.absorb-2.new.buffer (c.self.inside.count + n) n m (omega arith) (c.absorb-2.ensures.front (rest ++ take n bytes) front) in
    let text = rest ++ take (n + m) bytes in
    let tails : tail_len p text ≡ tail_len p c.absorb.new.buffer =
    ap (tail_len p) (sym (joined_text rest bytes n m)) ∙ tail_front p (rest ++ take n bytes) (take (n + m - n) (drop n bytes)) (omega (arith, front.len)) ∙ front_tail p c.absorb.new.buffer (rest ++ take n bytes) (c.self.inside.count + n) front size high (omega arith) in
    let len = again.len in
    rw (← c.self.view_is) (waits _ _ text refl (λ _. omega arith) record { kept = kept_of_front c.absorb-2.new.buffer text (c.self.inside.count + n + m) size2 again; count = len }, refl, refl)

-- the unit is whole
pub returns-clause-progress : goal.returns-clause-progress
returns-clause-progress c some =
    let p = c.self.inside.phase in
    let n = c.min-first.result in
    let negotiation : IsNegotiation p = rw (← c.self.view_is) at c.requires.phase in
    let range = head_range p negotiation in
    let high = range.1 in
    let head : c.args.head ≡ head_len p = rw (← c.self.view_is) at c.requires.head in
    let tail = c.tail_len.ensures.value in
    let first-is = c.min-first.ensures in
    let second-is = c.min-second.ensures in
    let missing = c.saturating_sub-2.ensures in
    let lack = c.saturating_sub.ensures in
    let size : length c.absorb.new.buffer ≡ 8208 = c.absorb.auto.buffer ∙ c.self.told in
    elim (cases_lt c.self.inside.count (head_len p)) [
      | inl lt ↦ omega arith
      | inr ge ↦
          let stays = tail_stays p c.self.inside.count c.self.inside.kept c.absorb.new.buffer c.self.told size high ge c.absorb.ensures.kept in
          let below = c.self.invariant.1 negotiation ge in
          omega arith
    ]

pub returns-clause-step : goal.returns-clause-step
returns-clause-step c rest keeps =
    let k = rw (← c.self.view_is) at keeps in
    let bytes = c.args.bytes.now in
    let export = c.self.inside.export in
    let p = c.self.inside.phase in
    let n = c.min-first.result in
    let m = c.min-second.result in
    let grown = c.absorb.ensures.front rest (front_of_kept c.self.inside.kept rest c.self.inside.count c.self.told k.kept k.count) in
    let negotiation : IsNegotiation p = rw (← c.self.view_is) at c.requires.phase in
    let range = head_range p negotiation in
    let low = range.0 in
    let high = range.1 in
    let head : c.args.head ≡ head_len p = rw (← c.self.view_is) at c.requires.head in
    let whole = c.if-count-head.false in
    let enough = c.if-count-total.false in
    let tail = c.tail_len.ensures.value in
    let first-is = c.min-first.ensures in
    let second-is = c.min-second.ensures in
    let missing = c.saturating_sub-2.ensures in
    let lack = c.saturating_sub.ensures in
    let n-is : length (take n bytes) ≡ n = omega (arith, length-take n bytes) in
    let size : length c.absorb.new.buffer ≡ 8208 = c.absorb.auto.buffer ∙ c.self.told in
    let size2 : length c.absorb-2.new.buffer ≡ 8208 = c.absorb-2.auto.buffer ∙ size in
    let front : HasFront c.absorb.new.buffer (c.self.inside.count + n) (rest ++ take n bytes) = rw n-is at grown in
    let again = joined rest bytes c.absorb-2.new.buffer (c.self.inside.count + n) n m (omega arith) (c.absorb-2.ensures.front (rest ++ take n bytes) front) in
    let text = rest ++ take (n + m) bytes in
    let first_tail = front_tail p c.absorb.new.buffer (rest ++ take n bytes) (c.self.inside.count + n) front size high (omega arith) in
    let tails : tail_len p text ≡ tail_len p c.absorb.new.buffer =
    ap (tail_len p) (sym (joined_text rest bytes n m)) ∙ tail_front p (rest ++ take n bytes) (take (n + m - n) (drop n bytes)) (omega (arith, front.len)) ∙ first_tail in
    let within : c.self.inside.count + n ≤ head_len p + tail_len p c.absorb.new.buffer =
    elim (cases_lt c.self.inside.count (head_len p)) [
      | inl lt ↦ omega arith
      | inr ge ↦
          let stays = tail_stays p c.self.inside.count c.self.inside.kept c.absorb.new.buffer c.self.told size high ge c.absorb.ensures.kept in
          let below = c.self.invariant.1 negotiation ge in
          omega arith
    ] in
    let len = again.len in
    let is_unit : IsUnit p text = record { is_open = is_open p negotiation; whole_head = omega arith; whole = omega arith } in
    let kept = kept_of_front c.absorb-2.new.buffer text (c.self.inside.count + n + m) size2 again in
    let unit-is = c.min-unit.ensures in
    let same = same_answer export p text negotiation is_unit in
    let j = c.min-unit.result in
    let j-is : j ≡ min (c.self.inside.count + n + m) 8208 = omega arith in
    let kept-is : take j c.absorb-2.new.buffer ≡ take 8208 text = ap (λ (t : ℕ). take t c.absorb-2.new.buffer) j-is ∙ sym kept in
    let reply = take c.complete-answer.result.reply c.complete-answer.new.reply in
    let reply-is : reply ≡ negotiation_reply export p text = c.complete-answer.ensures.reply ∙ ap (negotiation_reply export p) kept-is ∙ same.reply in
    let phase-is : c.complete-answer.result.phase ≡ after p text = c.complete-answer.ensures.phase ∙ ap (after p) kept-is ∙ same.phase in
    let name = c.complete-answer.result.unknown in
    let unknown-is : TellsUnknown name (unknown_name p text) = subst (λ (u : Option (List ℕ)). TellsUnknown name u) (ap (unknown_name p) kept-is ∙ same.unknown) c.complete-answer.ensures.unknown in
    rw (← c.self.view_is) (completes _ _ text c.complete-answer.result.phase reply name refl is_unit reply-is unknown-is phase-is record { kept = refl; count = refl })
