-- A plain array replies to the parts of requests what it replies to their units.
use Rattle.std.proofs.Common.{◌≡◌, ◌⊎◌, ℕ, List, [], ◌∷◌, ◌++◌, Bool, true, false, refl, sym, ap, ◌∙◌, subst, drop, Option, Some, None, inl, inr}
use Rattle.std.specs.Prelude.{if◌then◌else◌}
use Rattle.std.proofs.lemmas.Bool.{false≢true}
use Rattle.nbd_wire.specs.declared.export.Export.{Export}
use Rattle.nbd_wire.specs.declared.command.Request.{Request}
use Rattle.nbd_wire.specs.declared.command.Command.{Command}
use Rattle.nbd_wire.specs.declared.phase.Phase.{Phase}
use Rattle.nbd_wire.specs.declared.phase.Phase.TheVariants.{AwaitingFlags, Negotiating, Transmitting, Closed}
use Rattle.nbd_wire.specs.Commands.{command_in, is_disconnect, judge_of, command_kind}
use Rattle.nbd_wire.specs.Heads.{request_at}
use Rattle.nbd_wire.specs.Units.{Splits, after}
use Rattle.nbd_transmission.specs.Apply.{after_units, applied_unless, reply_unless, request_applied, request_reply, unit_applied, unit_replies, unit_reply}
use Rattle.nbd_session.specs.Parts.{Last, judged, parts_from, requested}
use Rattle.nbd_session.proofs.PartLaws.{requesting_goes_on}
use Rattle.nbd_worker.specs.Plain.{RepliesToPart, RepliesAreOfUnits, RepliesToParts}

-- ---- one request

of_verdict : (b : Bool) (d : List ℕ) (c : Command) (payload : List ℕ) (v : Option ℕ) (out d' : List ℕ) → RepliesToPart false d (if b then Last [] else judged c payload v) out d'
    → (out ≡ (if b then [] else reply_unless v d c)) × (d' ≡ (if b then d else applied_unless v d c payload))
of_verdict true d c payload v out d' h = h
of_verdict false d c payload None out d' h = elim h [ inl x ↦ x | inr y ↦ absurd (false≢true y.0) ]
of_verdict false d c payload (Some e) out d' h = h

of_request : (n : Export) (d : List ℕ) (r : Option Request) (payload out d' : List ℕ) → RepliesToPart false d (requested n r payload) out d' → (out ≡ request_reply n d r) × (d' ≡ request_applied n d r payload)
of_request n d None payload out d' h = h
of_request n d (Some r) payload out d' h = of_verdict (is_disconnect (command_kind r.kind)) d (command_in r) payload (judge_of (command_in r) n) out d' h

by_verdict : (b : Bool) (d : List ℕ) (c : Command) (payload : List ℕ) (v : Option ℕ)
    → RepliesToPart false d (if b then Last [] else judged c payload v) (if b then [] else reply_unless v d c) (if b then d else applied_unless v d c payload)
by_verdict true d c payload v = (refl, refl)
by_verdict false d c payload None = inl (refl, refl)
by_verdict false d c payload (Some e) = (refl, refl)

by_request : (n : Export) (d : List ℕ) (r : Option Request) (payload : List ℕ) → RepliesToPart false d (requested n r payload) (request_reply n d r) (request_applied n d r payload)
by_request n d None payload = (refl, refl)
by_request n d (Some r) payload = by_verdict (is_disconnect (command_kind r.kind)) d (command_in r) payload (judge_of (command_in r) n)

-- ---- all of them

of_units : (n : Export) (p : Phase) (text : List ℕ) (us : List (List ℕ)) (r : List ℕ) (q : Phase) (d out d' : List ℕ) → (p ≡ Transmitting) ⊎ (p ≡ Closed) → Splits p text us r q
    → RepliesToParts false d (parts_from n p us) out d' → (out ≡ unit_replies n d us) × (d' ≡ after_units n d us)
of_units n p text [] r q d out d' is split h = h
of_units n AwaitingFlags text (u ∷ us) r q d out d' is split h = elim is [ inl e ↦ cc | inr e ↦ cc ]
of_units n (Negotiating no_zeroes) text (u ∷ us) r q d out d' is split h = elim is [ inl e ↦ cc | inr e ↦ cc ]
of_units n Transmitting text (u ∷ us) r q d out d' is split h =
    let x = of_request n d (request_at u) (drop 28 u) h.0 h.2 h.4 in
    let y = of_units n (after Transmitting u) split.0 us r q h.2 h.1 d' (requesting_goes_on (request_at u)) split.3 h.5 in (
      h.3 ∙ ap (λ (l : List ℕ). l ++ h.1) x.0 ∙ ap (λ (l : List ℕ). unit_reply n d u ++ l) (y.0 ∙ ap (λ (m : List ℕ). unit_replies n m us) x.1),
      y.1 ∙ ap (λ (m : List ℕ). after_units n m us) x.1,
    )
of_units n Closed text (u ∷ us) r q d out d' is split h = absurd split.2.is_open

by_units : (n : Export) (p : Phase) (text : List ℕ) (us : List (List ℕ)) (r : List ℕ) (q : Phase) (d : List ℕ) → (p ≡ Transmitting) ⊎ (p ≡ Closed) → Splits p text us r q
    → RepliesToParts false d (parts_from n p us) (unit_replies n d us) (after_units n d us)
by_units n p text [] r q d is split = (refl, refl)
by_units n AwaitingFlags text (u ∷ us) r q d is split = elim is [ inl e ↦ cc | inr e ↦ cc ]
by_units n (Negotiating no_zeroes) text (u ∷ us) r q d is split = elim is [ inl e ↦ cc | inr e ↦ cc ]
by_units n Transmitting text (u ∷ us) r q d is split =
    let next = unit_applied n d u in
    (unit_reply n d u, unit_replies n next us, next, refl, by_request n d (request_at u) (drop 28 u), by_units n (after Transmitting u) split.0 us r q next (requesting_goes_on (request_at u)) split.3)
by_units n Closed text (u ∷ us) r q d is split = absurd split.2.is_open

pub replies_are_of_units : RepliesAreOfUnits
replies_are_of_units n text us r q split d out d' = (
  of_units n Transmitting text us r q d out d' (inl refl) split,
  λ h.
      let P : List ℕ → Type 0 = λ x. RepliesToParts false d (parts_from n Transmitting us) x d' in
      let Q : List ℕ → Type 0 = λ x. RepliesToParts false d (parts_from n Transmitting us) (unit_replies n d us) x in
      subst P (sym h.0) (subst Q (sym h.1) (by_units n Transmitting text us r q d (inl refl) split)),
)
