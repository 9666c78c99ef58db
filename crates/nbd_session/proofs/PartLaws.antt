-- Each text has one list of parts, and how they grow with it.
use Rattle.std.proofs.Common.{◌≡◌, ℕ, Bool, true, false, List, [], ◌∷◌, ◌++◌, drop, append_assoc, Option, Some, None, refl, sym, ap, subst, ◌∙◌, ◌⊎◌, inl, inr}
use Rattle.std.proofs.lemmas.List.{append-nil}
use Rattle.std.specs.Prelude.{◌||◌, if◌then◌else◌}
use Rattle.nbd_wire.specs.declared.export.Export.{Export}
use Rattle.nbd_wire.specs.declared.command.Request.{Request}
use Rattle.nbd_wire.specs.declared.command.Command.{Command}
use Rattle.nbd_wire.specs.declared.phase.Phase.{Phase}
use Rattle.nbd_wire.specs.declared.phase.Phase.TheVariants.{AwaitingFlags, Negotiating, Transmitting, Closed}
use Rattle.nbd_wire.specs.Heads.{request_at}
use Rattle.nbd_wire.specs.Commands.{command_in, is_disconnect, judge_of, command_kind}
use Rattle.nbd_wire.specs.Units.{Splits, after, after_request}
use Rattle.nbd_wire.proofs.Cutting.{cut}
use Rattle.nbd_wire.proofs.UnitLaws.{Splits_one, Splits_join, partial_nil}
use Rattle.nbd_handshake.specs.Negotiating.{negotiation_reply}
use Rattle.nbd_session.specs.Parts.{Part, Last, Gains, IsPartsOf, negotiated, judged, requested, part_of, parts_from, closes, closed, is_silent, ends_silently}

-- the parts of a text by the cutting that is found
unfoldable pub parts : Phase → Export → List ℕ → List Part
parts start n text = parts_from n start (cut start text).0

-- they are the parts of the units, however these were found
pub parts_are : (start : Phase) (n : Export) (text : List ℕ) (us : List (List ℕ)) (r : List ℕ) (q : Phase) → Splits start text us r q → parts start n text ≡ parts_from n start us
unfolding parts
parts_are start n text us r q a =
    let c = cut start text in
    let same = Splits_one start text c.0 us c.1 r c.2 q c.3 a in
    ap (parts_from n start) same.0

-- ---- each text has exactly one list of parts, which is that one

pub is_parts : (start : Phase) (n : Export) (text : List ℕ) → IsPartsOf start n text (parts start n text)
unfolding parts
is_parts start n text =
    let c = cut start text in
    record { units = c.0; rest = c.1; end = c.2; split = c.3; parts_are = refl }

pub parts_is : (start : Phase) (n : Export) (text : List ℕ) (ps : List Part) → IsPartsOf start n text ps → ps ≡ parts start n text
parts_is start n text ps h = h.parts_are ∙ sym (parts_are start n text h.units h.rest h.end h.split)

pub one_list : (start : Phase) (n : Export) (text : List ℕ) (ps qs : List Part) → IsPartsOf start n text ps → IsPartsOf start n text qs → ps ≡ qs
one_list start n text ps qs h k = parts_is start n text ps h ∙ sym (parts_is start n text qs k)

-- and a text gains what that list grows by
pub gains : (start : Phase) (n : Export) (old new : List ℕ) (added : List Part) → parts start n new ≡ parts start n old ++ added → Gains start n old new added
gains start n old new added e = record {
  before = parts start n old;
  had = is_parts start n old;
  has = subst (λ (ps : List Part). IsPartsOf start n new ps) e (is_parts start n new);
}

pub gained : (start : Phase) (n : Export) (old new : List ℕ) (added : List Part) → Gains start n old new added → parts start n new ≡ parts start n old ++ added
gained start n old new added g =
    sym (parts_is start n new (g.before ++ added) g.has) ∙ ap (λ (ps : List Part). ps ++ added) (parts_is start n old g.before g.had)

-- ---- how they grow

pub parts_none : (start : Phase) (n : Export) → IsPartsOf start n [] []
parts_none start n = record { units = []; rest = []; end = start; split = (refl, refl, partial_nil start); parts_are = refl }

-- the parts of more units follow those of the first ones
pub parts_join : (n : Export) (p : Phase) (text : List ℕ) (us ws : List (List ℕ)) (r : List ℕ) (q : Phase) → Splits p text us r q → parts_from n p (us ++ ws) ≡ parts_from n p us ++ parts_from n q ws
parts_join n p text [] ws r q a = ap (λ (x : Phase). parts_from n x ws) a.0
parts_join n p text (u ∷ us) ws r q a = ap (λ (l : List Part). part_of n p u ∷ l) (parts_join n (after p u) a.0 us ws r q a.3)

-- a longer text with the same units gains none
pub gains_none : (start : Phase) (n : Export) (old new : List ℕ) (us : List (List ℕ)) (r s : List ℕ) (q e : Phase) → Splits start old us r q → Splits start new us s e → Gains start n old new []
gains_none start n old new us r s q e a b = record {
  before = parts_from n start us;
  had = record { units = us; rest = r; end = q; split = a; parts_are = refl };
  has = record { units = us; rest = s; end = e; split = b; parts_are = append-nil (parts_from n start us) };
}

-- and with one unit more it gains one
pub gains_one : (start : Phase) (n : Export) (old new : List ℕ) (us : List (List ℕ)) (u : List ℕ) (r s : List ℕ) (q e : Phase) → Splits start old us r q → Splits start new (us ++ u ∷ []) s e → Gains start n old new (part_of n q u ∷ [])
gains_one start n old new us u r s q e a b = record {
  before = parts_from n start us;
  had = record { units = us; rest = r; end = q; split = a; parts_are = refl };
  has = record { units = us ++ u ∷ []; rest = s; end = e; split = b; parts_are = sym (parts_join n start old us (u ∷ []) r q a) };
}

-- what a text has, and what it gains
pub gains_behind : (start : Phase) (n : Export) (old new : List ℕ) (had added : List Part) → IsPartsOf start n old had → Gains start n old new added → IsPartsOf start n new (had ++ added)
gains_behind start n old new had added h g =
    subst (λ (ps : List Part). IsPartsOf start n new (ps ++ added)) (one_list start n old g.before had g.had h) g.has

-- nothing comes of no bytes
pub gains_still : (start : Phase) (n : Export) (text : List ℕ) → Gains start n text text []
gains_still start n text = gains start n text text [] (sym (append-nil (parts start n text)))

-- one growth after another
pub gains_both : (start : Phase) (n : Export) (old mid new : List ℕ) (first more : List Part) → Gains start n old mid first → Gains start n mid new more → Gains start n old new (first ++ more)
gains_both start n old mid new first more g h = record {
  before = g.before;
  had = g.had;
  has = subst (λ (ps : List Part). IsPartsOf start n new ps) (append_assoc g.before first more) (gains_behind start n mid new (g.before ++ first) more g.has h);
}

cancel : (xs ys zs : List Part) → xs ++ ys ≡ xs ++ zs → ys ≡ zs
cancel [] ys zs e = e
cancel (x ∷ xs) ys zs e = cancel xs ys zs (ap (λ (l : List Part). drop 1 l) e)

-- a text that grows gains one list alone
pub one_gain : (start : Phase) (n : Export) (old new : List ℕ) (these those : List Part) → Gains start n old new these → Gains start n old new those → these ≡ those
one_gain start n old new these those g h =
    cancel (parts start n old) these those (sym (gained start n old new these g) ∙ gained start n old new those h)

-- ---- a closing part is that of a closing unit

shut_by_phase : (q : Phase) (reply : List ℕ) → closes (negotiated q reply) ≡ true → q ≡ Closed
shut_by_phase AwaitingFlags reply h = cc
shut_by_phase (Negotiating no_zeroes) reply h = cc
shut_by_phase Transmitting reply h = cc
shut_by_phase Closed reply h = refl

shut_by_verdict : (b : Bool) (c : Command) (payload : List ℕ) (v : Option ℕ) → closes (if b then Last [] else judged c payload v) ≡ true → (if b then Closed else Transmitting) ≡ Closed
shut_by_verdict true c payload v h = refl
shut_by_verdict false c payload None h = cc
shut_by_verdict false c payload (Some e) h = cc

shut_by_request : (n : Export) (r : Option Request) (payload : List ℕ) → closes (requested n r payload) ≡ true → after_request r ≡ Closed
shut_by_request n None payload h = refl
shut_by_request n (Some r) payload h = shut_by_verdict (is_disconnect (command_kind r.kind)) (command_in r) payload (judge_of (command_in r) n) h

pub closing_unit : (n : Export) (p : Phase) (u : List ℕ) → closes (part_of n p u) ≡ true → after p u ≡ Closed
closing_unit n AwaitingFlags u h = shut_by_phase (after AwaitingFlags u) (negotiation_reply n AwaitingFlags u) h
closing_unit n (Negotiating no_zeroes) u h = shut_by_phase (after (Negotiating no_zeroes) u) (negotiation_reply n (Negotiating no_zeroes) u) h
closing_unit n Transmitting u h = shut_by_request n (request_at u) _ h
closing_unit n Closed u h = refl

-- no unit comes after a close
no_units : (text : List ℕ) (us : List (List ℕ)) (r : List ℕ) (q : Phase) → Splits Closed text us r q → (us ≡ []) × (q ≡ Closed)
no_units text [] r q a = (refl, sym a.0)
no_units text (u ∷ us) r q a = absurd a.2.is_open

none_behind : (p : Phase) (text : List ℕ) (us : List (List ℕ)) (r : List ℕ) (q : Phase) → p ≡ Closed → Splits p text us r q → us ≡ []
none_behind p text us r q shut a =
    let moved : Splits Closed text us r q = rw (← shut) a in
    (no_units text us r q moved).0

-- units with a closing part lead to a close
pub leads_to_close : (n : Export) (p : Phase) (text : List ℕ) (us : List (List ℕ)) (r : List ℕ) (q : Phase) → Splits p text us r q → closed (parts_from n p us) ≡ true → q ≡ Closed
leads_to_close n p text [] r q a h = cc
leads_to_close n p text (u ∷ us) r q a h =
    let ih = leads_to_close n (after p u) a.0 us r q a.3 in
    by_part (closes (part_of n p u)) refl h ih
  where
    by_part : (b : Bool) → closes (part_of n p u) ≡ b → (b || closed (parts_from n (after p u) us)) ≡ true → (closed (parts_from n (after p u) us) ≡ true → q ≡ Closed) → q ≡ Closed
    by_part true e h ih =
        let shut = closing_unit n p u e in
        let rest : Splits Closed a.0 us r q = rw shut at a.3 in
        (no_units a.0 us r q rest).1
    by_part false e h ih = ih h

pub parts_begin : (start : Phase) (n : Export) (text more : List ℕ) → (added : List Part) × Gains start n text (text ++ more) added
parts_begin start n text more =
    let c = cut start text in
    let d = cut c.2 (c.1 ++ more) in
    let joined = Splits_join start text more c.0 d.0 c.1 d.1 c.2 d.2 c.3 d.3 in (
      parts_from n c.2 d.0,
      record {
        before = parts_from n start c.0;
        had = record { units = c.0; rest = c.1; end = c.2; split = c.3; parts_are = refl };
        has = record { units = c.0 ++ d.0; rest = d.1; end = d.2; split = joined; parts_are = sym (parts_join n start text c.0 d.0 c.1 c.2 c.3) };
      },
    )

pub parts_end : (start : Phase) (n : Export) (text more : List ℕ) (ps : List Part) → IsPartsOf start n text ps → closed ps ≡ true → IsPartsOf start n (text ++ more) ps
parts_end start n text more ps h shuts =
    let q = h.end in
    let us = h.units in
    let d = cut q (h.rest ++ more) in
    let joined = Splits_join start text more us d.0 h.rest d.1 q d.2 h.split d.3 in
    let shut : q ≡ Closed = leads_to_close n start text us h.rest q h.split (ap closed (sym h.parts_are) ∙ shuts) in
    let none = none_behind q (h.rest ++ more) d.0 d.1 d.2 shut d.3 in
    let same : parts_from n start (us ++ d.0) ≡ parts_from n start us =
    parts_join n start text us d.0 h.rest q h.split ∙ ap (λ (ws : List (List ℕ)). parts_from n start us ++ parts_from n q ws) none ∙ append-nil (parts_from n start us) in
    record { units = us ++ d.0; rest = d.1; end = d.2; split = joined; parts_are = h.parts_are ∙ sym same }

closed_behind : (xs ys : List Part) → closed ys ≡ true → closed (xs ++ ys) ≡ true
closed_behind [] ys e = e
closed_behind (x ∷ xs) ys e =
    let ih = closed_behind xs ys e in
    elim (closes x) as (λ b. (b || closed (xs ++ ys)) ≡ true) [ true ↦ refl | false ↦ ih ]

-- behind a closing part nothing is gained
pub gains_end : (start : Phase) (n : Export) (old new more : List ℕ) (added : List Part) → Gains start n old new added → closed added ≡ true → Gains start n old (new ++ more) added
gains_end start n old new more added g shuts =
    record { before = g.before; had = g.had; has = parts_end start n new more (g.before ++ added) g.has (closed_behind g.before added shuts) }

-- ---- a request that closes has no reply

silent_by_verdict : (b : Bool) (c : Command) (payload : List ℕ) (v : Option ℕ) → is_silent (if b then Last [] else judged c payload v) ≡ closes (if b then Last [] else judged c payload v)
silent_by_verdict true c payload v = refl
silent_by_verdict false c payload None = refl
silent_by_verdict false c payload (Some e) = refl

silent_request : (n : Export) (r : Option Request) (payload : List ℕ) → is_silent (requested n r payload) ≡ closes (requested n r payload)
silent_request n None payload = refl
silent_request n (Some r) payload = silent_by_verdict (is_disconnect (command_kind r.kind)) (command_in r) payload (judge_of (command_in r) n)

requesting_after : (b : Bool) → ((if b then Closed else Transmitting) ≡ Transmitting) ⊎ ((if b then Closed else Transmitting) ≡ Closed)
requesting_after true = inr refl
requesting_after false = inl refl

pub requesting_goes_on : (r : Option Request) → (after_request r ≡ Transmitting) ⊎ (after_request r ≡ Closed)
requesting_goes_on None = inr refl
requesting_goes_on (Some r) = requesting_after (is_disconnect (command_kind r.kind))

silent_from : (n : Export) (p : Phase) (us : List (List ℕ)) → (p ≡ Transmitting) ⊎ (p ≡ Closed) → ends_silently (parts_from n p us) ≡ closed (parts_from n p us)
silent_from n p [] is = refl
silent_from n AwaitingFlags (u ∷ us) is = elim is [ inl e ↦ cc | inr e ↦ cc ]
silent_from n (Negotiating no_zeroes) (u ∷ us) is = elim is [ inl e ↦ cc | inr e ↦ cc ]
silent_from n Transmitting (u ∷ us) is =
    let here = silent_request n (request_at u) _ in
    let there_after = silent_from n (after Transmitting u) us (requesting_goes_on (request_at u)) in
    ap (λ (x : Bool). x || ends_silently (parts_from n (after Transmitting u) us)) here ∙ ap (λ (x : Bool). closes (part_of n Transmitting u) || x) there_after
silent_from n Closed (u ∷ us) is = refl

pub parts_silent : (start : Phase) (n : Export) → start ≡ Transmitting → (text : List ℕ) (ps : List Part) → IsPartsOf start n text ps → ends_silently ps ≡ closed ps
parts_silent start n is text ps h =
    ap ends_silently h.parts_are ∙ silent_from n start h.units (inl is) ∙ sym (ap closed h.parts_are)
