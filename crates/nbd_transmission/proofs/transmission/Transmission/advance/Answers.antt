use Rattle.std.proofs.Common.{◌≡◌, ℕ, ◌+◌, ◌-◌, ◌≤◌, min, length, take, drop, ◌++◌, cond, [], arith, ap, sym, ◌∙◌, refl, inl, inr}
use Rattle.std.proofs.lemmas.Bool.{cases_lt}
use Rattle.std.proofs.lemmas.List.{length-take, drop_all, take_all}
use Rattle.nbd_wire.specs.declared.export.Export.{Export}
use Rattle.nbd_wire.specs.Heads.{request_at}
use Rattle.nbd_wire.specs.Units.{IsUnit, payload_len}
use Rattle.nbd_wire.specs.Parser.{ParserState}
use Rattle.nbd_wire.specs.declared.phase.Phase.TheVariants.{Transmitting}
use Rattle.nbd_wire.proofs.Cutting.{request_front}
use Rattle.nbd_transmission.specs.Taking.{is_accepted_write, answer_of, answer_to}
use Rattle.nbd_transmission.proofs.Answered.{answer_is_accepted}
use Rattle.nbd_transmission.proofs.Steps.{head_grows, whole_head, payload_short, payload_grows, request_in_head, length_used, waits, completes}
use Rattle.nbd_transmission.proofs.transmission.Transmission.advance.Goals as goal
use Rattle.nbd_transmission.proofs.transmission.Transmission.advance.Goals.{then-tail, else-tail, then-tail-2, else-tail-2}

-- the head is not whole yet
pub returns-then-count-clause-step : goal.returns-then-count-clause-step
returns-then-count-clause-step c rest keeps =
    let k = rw (← c.self.view_is) at keeps in
    let bytes = c.args.bytes.now in
    let n = c.fill-head.result in
    let count : length rest ≡ c.self.inside.count = k.count in
    let filled = c.min-filled.ensures in
    let n-is : n ≡ min (28 - c.min-filled.result) (length bytes) = omega (arith, c.fill-head.ensures.count, c.self.told) in
    let small = c.if-count.true in
    let kept : take 28 rest ≡ take c.min-filled.result c.self.inside.head = k.kept ∙ ap (λ (m : ℕ). take m c.self.inside.head) (sym filled) in
    let grows = head_grows rest bytes c.self.inside.head c.fill-head.new.buffer c.min-filled.result n n kept (omega arith) n-is c.fill-head.ensures.bytes (omega arith) (λ _. refl) in
    let len = length_used rest bytes n (omega arith) in
    let to : c.min-filled.result + n ≡ min (c.self.inside.count + n) 28 = omega arith in
    waits c.args.self.now _ (rest ++ take n bytes) c.requires (ap (λ (h : ParserState). h.phase) c.self.view_is) (λ long. absurd (omega arith)) record { kept = grows ∙ ap (λ (m : ℕ). take m c.fill-head.new.buffer) to; count = omega arith }

pub returns-then-count-clause-part : goal.returns-then-count-clause-part
returns-then-count-clause-part c rest keeps =
    let k = rw (← c.self.view_is) at keeps in
    let bytes = c.args.bytes.now in
    let n = c.fill-head.result in
    let export = c.args.self.now.export in
    let count : length rest ≡ c.self.inside.count = k.count in
    let filled = c.min-filled.ensures in
    let n-is : n ≡ min (28 - c.min-filled.result) (length bytes) = omega (arith, c.fill-head.ensures.count, c.self.told) in
    let small = c.if-count.true in
    let len = length_used rest bytes n (omega arith) in
    let nothing : drop (n - 0) (take n bytes) ≡ [] = drop_all (n - 0) (take n bytes) (omega (arith, length-take n bytes)) in
    rw (payload_short export rest (omega arith), payload_short export (rest ++ take n bytes) (omega arith), nothing) refl

-- the head is whole, and its unit is not
pub returns-then-left-missing-clause-step : goal.returns-then-left-missing-clause-step
returns-then-left-missing-clause-step c rest keeps =
    let k = rw (← c.self.view_is) at keeps in
    let bytes = c.args.bytes.now in
    let n = c.fill-head.result in
    let used = length bytes in
    let grown = c.fill-head.new.buffer in
    let count : length rest ≡ c.self.inside.count = k.count in
    let filled = c.min-filled.ensures in
    let n-is : n ≡ min (28 - c.min-filled.result) (length bytes) = omega (arith, c.fill-head.ensures.count, c.self.told) in
    let long = c.if-count.false in
    let small = c.if-left-missing.true in
    let size : length grown ≡ 28 = c.fill-head.auto.buffer ∙ c.self.told in
    let head = whole_head rest bytes c.self.inside.head grown c.self.inside.count c.min-filled.result n used count k.kept filled n-is c.fill-head.ensures.bytes size (omega arith) (omega arith) (omega arith) in
    let len = length_used rest bytes used (omega arith) in
    let tail = c.tail_of-tail.ensures.len in
    let from = c.from.ensures in
    let all : take (min (c.self.inside.count + n + (used - n)) 28) grown ≡ grown = take_all (min (c.self.inside.count + n + (used - n)) 28) grown (omega arith) in
    waits c.args.self.now _ (rest ++ take used bytes) c.requires (ap (λ (h : ParserState). h.phase) c.self.view_is) (λ _. rw head.1 (omega arith)) record { kept = head.0 ∙ sym all; count = omega arith }

pub returns-then-left-missing-clause-part : goal.returns-then-left-missing-clause-part
returns-then-left-missing-clause-part c rest keeps =
    let k = rw (← c.self.view_is) at keeps in
    let bytes = c.args.bytes.now in
    let n = c.fill-head.result in
    let used = length bytes in
    let grown = c.fill-head.new.buffer in
    let export = c.self.inside.export in
    let count : length rest ≡ c.self.inside.count = k.count in
    let filled = c.min-filled.ensures in
    let n-is : n ≡ min (28 - c.min-filled.result) (length bytes) = omega (arith, c.fill-head.ensures.count, c.self.told) in
    let long = c.if-count.false in
    let size : length grown ≡ 28 = c.fill-head.auto.buffer ∙ c.self.told in
    let head = whole_head rest bytes c.self.inside.head grown c.self.inside.count c.min-filled.result n used count k.kept filled n-is c.fill-head.ensures.bytes size (omega arith) (omega arith) (omega arith) in
    let accepted : is_accepted_write export (request_at (rest ++ take used bytes)) ≡ c.tail_of-tail.result.accepted = ap (is_accepted_write export) head.1 ∙ sym c.tail_of-tail.ensures.accepted in
    let p-is : c.if-tail.result ≡ cond c.tail_of-tail.result.accepted (used - (28 - length rest)) 0 =
    elim c.if-tail.branch [ then-tail w ↦ rw w.if-tail.true (omega arith) | else-tail w ↦ rw w.if-tail.false (omega arith) ] in
    rw (← c.self.view_is) (payload_grows export rest (take used bytes) c.tail_of-tail.result.accepted c.if-tail.result used (omega (arith, length-take used bytes)) (omega arith) accepted p-is)

-- the unit is whole
pub returns-clause-step : goal.returns-clause-step
returns-clause-step c rest keeps =
    let k = rw (← c.self.view_is) at keeps in
    let bytes = c.args.bytes.now in
    let n = c.fill-head.result in
    let used = n + (28 + c.from.result - (c.self.inside.count + n)) in
    let grown = c.fill-head.new.buffer in
    let text = rest ++ take used bytes in
    let count : length rest ≡ c.self.inside.count = k.count in
    let filled = c.min-filled.ensures in
    let n-is : n ≡ min (28 - c.min-filled.result) (length bytes) = omega (arith, c.fill-head.ensures.count, c.self.told) in
    let long = c.if-count.false in
    let enough = c.if-left-missing.false in
    let size : length grown ≡ 28 = c.fill-head.auto.buffer ∙ c.self.told in
    let tail = c.tail_of-tail.ensures.len in
    let from = c.from.ensures in
    let head = whole_head rest bytes c.self.inside.head grown c.self.inside.count c.min-filled.result n used count k.kept filled n-is c.fill-head.ensures.bytes size (omega arith) (omega arith) (omega arith) in
    let len = length_used rest bytes used (omega arith) in
    let before = c.self.invariant in
    let within : c.self.inside.count + n ≤ 28 + payload_len (request_at grown) =
    elim (cases_lt c.self.inside.count 28) [
      | inl lt ↦ omega arith
      | inr ge ↦
          let all : take (min c.self.inside.count 28) c.self.inside.head ≡ c.self.inside.head = take_all (min c.self.inside.count 28) c.self.inside.head (omega (arith, c.self.told)) in
          let old : request_at rest ≡ request_at c.self.inside.head = request_in_head rest c.self.inside.head (omega arith) (k.kept ∙ all) in
          let same : payload_len (request_at grown) ≡ payload_len (request_at c.self.inside.head) = ap payload_len (sym head.1 ∙ request_front rest (take used bytes) (omega arith) ∙ old) in
          let below = before ge in
          omega arith
    ] in
    let is_unit : IsUnit Transmitting text = record { is_open = tt; whole_head = omega arith; whole = rw head.1 (omega arith) } in
    let export : c.self.inside.export ≡ c.args.self.now.export = ap (λ (h : ParserState). h.export) c.self.view_is in
    let answer : c.tail_of-tail.result.next ≡ answer_to c.args.self.now.export text =
    c.tail_of-tail.ensures.next ∙ ap (answer_of c.self.inside.export) (sym head.1) ∙ ap (λ (s : Export). answer_to s text) export in
    completes c.args.self.now _ text c.tail_of-tail.result.next c.requires answer is_unit c.closes-self-inside.ensures record { kept = refl; count = refl }

pub returns-clause-accepted : goal.returns-clause-accepted
returns-clause-accepted c =
    rw (← c.self.view_is) (answer_is_accepted c.self.inside.export (request_at c.fill-head.new.buffer) c.tail_of-tail.result.next c.tail_of-tail.ensures.next)

pub returns-clause-part : goal.returns-clause-part
returns-clause-part c rest keeps =
    let k = rw (← c.self.view_is) at keeps in
    let bytes = c.args.bytes.now in
    let n = c.fill-head.result in
    let used = n + (28 + c.from.result - (c.self.inside.count + n)) in
    let grown = c.fill-head.new.buffer in
    let export = c.self.inside.export in
    let count : length rest ≡ c.self.inside.count = k.count in
    let filled = c.min-filled.ensures in
    let n-is : n ≡ min (28 - c.min-filled.result) (length bytes) = omega (arith, c.fill-head.ensures.count, c.self.told) in
    let long = c.if-count.false in
    let enough = c.if-left-missing.false in
    let size : length grown ≡ 28 = c.fill-head.auto.buffer ∙ c.self.told in
    let head = whole_head rest bytes c.self.inside.head grown c.self.inside.count c.min-filled.result n used count k.kept filled n-is c.fill-head.ensures.bytes size (omega arith) (omega arith) (omega arith) in
    let accepted : is_accepted_write export (request_at (rest ++ take used bytes)) ≡ c.tail_of-tail.result.accepted = ap (is_accepted_write export) head.1 ∙ sym c.tail_of-tail.ensures.accepted in
    let p-is : c.if-tail-2.result ≡ cond c.tail_of-tail.result.accepted (used - (28 - length rest)) 0 =
    elim c.if-tail-2.branch [ then-tail-2 w ↦ rw w.if-tail-2.true (omega arith) | else-tail-2 w ↦ rw w.if-tail-2.false (omega arith) ] in
    rw (← c.self.view_is) (payload_grows export rest (take used bytes) c.tail_of-tail.result.accepted c.if-tail-2.result used (omega (arith, length-take used bytes)) (omega arith) accepted p-is)
