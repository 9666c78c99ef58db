-- What the answers of the transmission say of whole texts.
use Rattle.std.proofs.Common.{◌≡◌, ℕ, ◌+◌, ◌≤◌, ◌&&◌, Bool, true, false, List, [], ◌∷◌, ◌++◌, length, take, drop, Option, Some, None, refl, sym, ap, subst, ◌∙◌, arith}
use Rattle.std.specs.Prelude.{if◌then◌else◌, is_none, ◌||◌}
use Rattle.std.proofs.lemmas.List.{drop_all, length-drop, length-take-le}
use Rattle.nbd_wire.specs.declared.export.Export.{Export}
use Rattle.nbd_wire.specs.declared.command.Request.{Request}
use Rattle.nbd_wire.specs.declared.command.Command.{Command}
use Rattle.nbd_wire.specs.declared.phase.Phase.{Phase}
use Rattle.nbd_wire.specs.declared.phase.Phase.TheVariants.{Transmitting, Closed}
use Rattle.nbd_wire.specs.Heads.{request_at}
use Rattle.nbd_wire.specs.Commands.{command_in, is_disconnect, is_read, is_write, judge_of, command_kind}
use Rattle.nbd_wire.specs.Parser.{ParserState, HoldsRest, ParserRepresents as ParserStandsFor, Completes}
use Rattle.nbd_wire.specs.Units.{IsUnit, Splits, after, payload_len}
use Rattle.nbd_wire.proofs.UnitLaws.{Splits_more, Splits_unit}
use Rattle.nbd_wire.specs.declared.next.Next.{Next}
use Rattle.nbd_wire.specs.declared.next.Next.TheVariants.{More, Reply, Run, Close}
use Rattle.nbd_transmission.specs.declared.transmission.Refusal.{Refusal}
use Rattle.nbd_transmission.specs.Apply.{head_of}
use Rattle.nbd_transmission.specs.Parser.{TransmissionAdvances, TransmissionAnswersUnit}
use Rattle.nbd_transmission.specs.Taking.{answer_of, answer_to, is_accepted_write, payload_of, verdict}
use Rattle.nbd_transmission.proofs.Steps.{payload_short}
use Rattle.nbd_session.specs.declared.session.ReplyTo.{ReplyTo}
use Rattle.nbd_session.specs.declared.stage.Stage.{Stage}
use Rattle.nbd_session.specs.declared.stage.Stage.TheVariants.{Requesting, Ended}
use Rattle.nbd_wire.specs.Lent.{payload_in}
use Rattle.nbd_session.specs.Lent.{lent_now}
use Rattle.nbd_session.specs.Parts.{Part, Told, ForDisk, Last, Gains, closes, judged, requested, part_of}
use Rattle.nbd_session.specs.Sessions.{SessionState, Carries, InStage, IsHolding, SessionRepresents, StageRepresents, SessionSays, payload_so_far, reply_of, room_of}
use Rattle.nbd_session.proofs.PartLaws.{gains_none, gains_one, closing_unit}

-- ---- the part of a request

-- the part that an answer tells of
abbrev PartBy : Next Refusal → List ℕ → Part
PartBy More payload = Told []
PartBy (Run c) payload = ForDisk c payload
PartBy (Reply refusal) payload = Told (head_of refusal.command refusal.error)
PartBy Close payload = Last []

part_by_verdict : (b : Bool) (c : Command) (payload : List ℕ) (v : Option ℕ) → (if b then Last [] else judged c payload v) ≡ PartBy (if b then Close else verdict c v) payload
part_by_verdict true c payload v = refl
part_by_verdict false c payload None = refl
part_by_verdict false c payload (Some e) = refl

part_by_answer : (n : Export) (r : Option Request) (payload : List ℕ) → requested n r payload ≡ PartBy (answer_of n r) payload
part_by_answer n None payload = refl
part_by_answer n (Some r) payload = part_by_verdict (is_disconnect (command_kind r.kind)) (command_in r) payload (judge_of (command_in r) n)

-- one request more is one part more
grows : (start : Phase) (n : Export) (h new : ParserState) (text used : List ℕ) (next : Next Refusal) (s : ParserStandsFor 28 start h text) → h.export ≡ n → h.phase ≡ Transmitting → TransmissionAnswersUnit h (s.rest ++ used) next new
    → Gains start n text (text ++ used) (PartBy next (drop 28 (s.rest ++ used)) ∷ [])
grows start n h new text used next s same phase done =
    let unit = s.rest ++ used in
    let more = Splits_unit start text used s.units s.rest h.phase s.split done.0.is_unit in
    let answer : next ≡ answer_to n unit = done.1 ∙ ap (λ (m : Export). answer_to m unit) same in
    subst (λ (x : Part). Gains start n text (text ++ used) (x ∷ []))
    (ap (λ (p : Phase). part_of n p unit) phase ∙ part_by_answer n (request_at unit) (drop 28 unit) ∙ ap (λ (a : Next Refusal). PartBy a (drop 28 unit)) (sym answer))
    (gains_one start n text (text ++ used) s.units unit s.rest [] h.phase (after h.phase unit) s.split more)

-- behind start a complete request nothing is held
behind : (start : Phase) (line : SessionState) (h : ParserState) (text used : List ℕ) (s : ParserStandsFor 28 start h text) → line.stage ≡ Requesting → line.filled ≡ 0 → Completes 28 h (s.rest ++ used) line.transmission → SessionRepresents start line (text ++ used)
behind start line h text used s stage filled done =
    let more = Splits_unit start text used s.units s.rest h.phase s.split done.is_unit in
    let split : Splits start (text ++ used) (s.units ++ (s.rest ++ used) ∷ []) [] line.transmission.phase = subst (λ (p : Phase). Splits start (text ++ used) (s.units ++ (s.rest ++ used) ∷ []) [] p) (sym done.phase) more in
    subst (λ (g : Stage). StageRepresents start g line (text ++ used)) (sym stage) record {
      parser = record { units = s.units ++ (s.rest ++ used) ∷ []; rest = []; split = split; keeps = λ _. done.keeps };
      payload = ap (λ (m : ℕ). take m (drop 16 line.bytes)) filled ∙ sym (payload_short line.export [] (omega arith));
    }

-- ---- the payload of a request that runs

-- what a unit's command is lent of its payload
record IsLent (export : Export) (unit : List ℕ) (c : Command) : Type 0 where
  pub payload : payload_in c (payload_of export unit) ≡ drop 28 unit
  pub long : is_write c.kind ≡ true → length (payload_of export unit) ≡ c.length

lent_kind : (w : Bool) (long : ℕ) (unit : List ℕ) → length unit ≡ 28 + (if w then long else 0)
    → ((if w then (if (w && true) then drop 28 unit else []) else []) ≡ drop 28 unit) × (w ≡ true → length (if (w && true) then drop 28 unit else []) ≡ long)
lent_kind true long unit e = (refl, λ _. omega (arith, length-drop 28 unit))
lent_kind false long unit e = (sym (drop_all 28 unit (omega arith)), λ w. cc)

abbrev LentBy : Option ℕ → Request → List ℕ → Command → Type 0
LentBy refusal q unit c =
    (payload_in c (if (is_write (command_kind q.kind) && is_none refusal) then drop 28 unit else []) ≡ drop 28 unit)
    × (is_write c.kind ≡ true → length (if (is_write (command_kind q.kind) && is_none refusal) then drop 28 unit else []) ≡ c.length)

same_command : (q : Request) (c : Command) → ◌≡◌ {A = Next Refusal} (Run (command_in q)) (Run c) → command_in q ≡ c
same_command q c e = cc

lent_table : (b : Bool) (refusal : Option ℕ) (q : Request) (unit : List ℕ) (c : Command) → length unit ≡ 28 + (if is_write (command_kind q.kind) then q.length else 0)
    → (if b then Close else verdict (command_in q) refusal) ≡ Run c → LentBy refusal q unit c
lent_table true refusal q unit c e h = cc
lent_table false (Some error) q unit c e h = cc
lent_table false None q unit c e h =
    subst (λ (x : Command). LentBy None q unit x) (same_command q c h) (lent_kind (is_write (command_kind q.kind)) q.length unit e)

lent_request : (n : Export) (r : Option Request) (unit : List ℕ) (c : Command) → length unit ≡ 28 + payload_len r → answer_of n r ≡ Run c
    → (payload_in c (if is_accepted_write n r then drop 28 unit else []) ≡ drop 28 unit) × (is_write c.kind ≡ true → length (if is_accepted_write n r then drop 28 unit else []) ≡ c.length)
lent_request n None unit c e h = cc
lent_request n (Some q) unit c e h = lent_table (is_disconnect (command_kind q.kind)) (judge_of (command_in q) n) q unit c e h

is_lent : (n : Export) (unit : List ℕ) (c : Command) → IsUnit Transmitting unit → answer_to n unit ≡ Run c → IsLent n unit c
is_lent n unit c is_unit h =
    let r = lent_request n (request_at unit) unit c is_unit.whole h in
    record { payload = r.0; long = r.1 }

-- the lent bytes begin with the payload that has come
payload_lent : (r w : Bool) (c : Command) (room : List ℕ) (filled : ℕ) → filled ≤ length room → (w ≡ true → length (take filled room) ≡ c.length) → (if w then take (if r || w then c.length else 0) room else []) ≡ (if w then take filled room else [])
payload_lent r false c room filled le h = refl
payload_lent false true c room filled le h =
    let e : filled ≡ c.length = sym (length-take-le filled room le) ∙ h refl in
    ap (λ (m : ℕ). take m room) (sym e)
payload_lent true true c room filled le h =
    let e : filled ≡ c.length = sym (length-take-le filled room le) ∙ h refl in
    ap (λ (m : ℕ). take m room) (sym e)

-- they are the payload of the unit
asked : (n : Export) (unit room : List ℕ) (c : Command) (filled : ℕ) → IsUnit Transmitting unit → answer_to n unit ≡ Run c → filled ≤ length room → take filled room ≡ payload_of n unit → drop 28 unit ≡ payload_in c (take (lent_now (Some c)) room)
asked n unit room c filled is_unit answer le came =
    let lent = is_lent n unit c is_unit answer in
    sym (payload_lent (is_read c.kind) (is_write c.kind) c room filled le (λ w. ap (λ (l : List ℕ). length l) came ∙ lent.long w) ∙ ap (payload_in c) came ∙ lent.payload)

-- ---- the exits

-- a session that takes requests
pub record Requests (start : Phase) (old : SessionState) (text : List ℕ) : Type 0 where
  pub is_open : old.transmission.phase ≡ Transmitting
  pub stood : Carries start old text

pub requests : (start : Phase) (old : SessionState) (text : List ℕ) → old.stage ≡ Requesting → InStage old.stage old.handshake old.transmission old.filled → SessionRepresents start old text → Requests start old text
requests start old text stage works stood =
    let h : IsHolding old.transmission old.filled = subst (λ (g : Stage). InStage g old.handshake old.transmission old.filled) stage works in
    record { is_open = h.phase; stood = subst (λ (g : Stage). StageRepresents start g old text) stage stood }

not_closed : (p : Phase) → p ≡ Transmitting → p ≡ Closed → ⊥
not_closed p e shut = absurd_of (sym e ∙ shut) where
  absurd_of : Transmitting ≡ Closed → ⊥
  absurd_of e = cc

-- what a call of the transmission makes of the unit begun, and of its payload
abbrev pub Steps : ParserState → ParserState → List ℕ → Next Refusal → Type 0
Steps h new used next = (rest : List ℕ) → HoldsRest 28 h rest → TransmissionAdvances h (rest ++ used) next new

abbrev pub Adds : ParserState → List ℕ → List ℕ → Type 0
Adds h used part = (rest : List ℕ) → HoldsRest 28 h rest → payload_of h.export (rest ++ used) ≡ payload_of h.export rest ++ part

step_at : (start : Phase) (old : SessionState) (new : ParserState) (text used : List ℕ) (next known : Next Refusal) (was : Requests start old text) → next ≡ known → Steps old.transmission new used next → TransmissionAdvances old.transmission (was.stood.parser.rest ++ used) known new
step_at start old new text used next known was e step =
    let p = was.stood.parser in
    subst (λ (a : Next Refusal). TransmissionAdvances old.transmission (p.rest ++ used) a new) e (step p.rest (p.keeps (not_closed old.transmission.phase was.is_open)))

-- the payload that has come with these bytes is stored
came : (start : Phase) (old : SessionState) (text used part : List ℕ) (filled : ℕ) (room : List ℕ) (was : Requests start old text) → old.transmission.export ≡ old.export → Adds old.transmission used part → take filled room ≡ payload_so_far old ++ part
    → take filled room ≡ payload_of old.export (was.stood.parser.rest ++ used)
came start old text used part filled room was same adds stored =
    let p = was.stood.parser in
    let grown = adds p.rest (p.keeps (not_closed old.transmission.phase was.is_open)) in
    let moved : payload_of old.export (p.rest ++ used) ≡ payload_of old.export p.rest ++ part = subst (λ (m : Export). payload_of m (p.rest ++ used) ≡ payload_of m p.rest ++ part) same grown in
    stored ∙ ap (λ (l : List ℕ). l ++ part) was.stood.payload ∙ sym moved

pub says_more : (start : Phase) (old line : SessionState) (text used part : List ℕ) (next : Next Refusal) → Requests start old text → line.stage ≡ Requesting → next ≡ More → old.transmission.export ≡ old.export → line.export ≡ old.export → Steps old.transmission line.transmission used next
    → Adds old.transmission used part → payload_so_far line ≡ payload_so_far old ++ part → SessionSays start old.export text (text ++ used) More line
says_more start old line text used part next was stage e own same step adds stored =
    let p = was.stood.parser in
    let w = step_at start old line.transmission text used next More was e step in
    let more = Splits_more start text used p.units p.rest old.transmission.phase p.split w.partial in
    let split : Splits start (text ++ used) p.units (p.rest ++ used) line.transmission.phase = subst (λ (x : Phase). Splits start (text ++ used) p.units (p.rest ++ used) x) (sym w.phase) more in (
      gains_none start old.export text (text ++ used) p.units p.rest (p.rest ++ used) old.transmission.phase old.transmission.phase p.split more,
      subst (λ (g : Stage). StageRepresents start g line (text ++ used)) (sym stage) record {
        parser = record { units = p.units; rest = p.rest ++ used; split = split; keeps = λ _. w.keeps };
        payload = came start old text used part line.filled (drop 16 line.bytes) was own adds stored ∙ ap (λ (m : Export). payload_of m (p.rest ++ used)) (sym same);
      },
    )

pub says_run : (start : Phase) (old line : SessionState) (c : Command) (text used part : List ℕ) (filled : ℕ) (next : Next Refusal) → Requests start old text → line.stage ≡ Requesting → next ≡ Run c → line.filled ≡ 0 → line.running ≡ Some c → old.transmission.export ≡ old.export
    → filled ≤ length (drop 16 line.bytes) → Steps old.transmission line.transmission used next → Adds old.transmission used part → take filled (drop 16 line.bytes) ≡ payload_so_far old ++ part → SessionSays start old.export text (text ++ used) (Run c) line
says_run start old line c text used part filled next was stage e none running own fits step adds stored =
    let p = was.stood.parser in
    let unit = p.rest ++ used in
    let done = step_at start old line.transmission text used next (Run c) was e step in
    let is_unit : IsUnit Transmitting unit = subst (λ (x : Phase). IsUnit x unit) was.is_open done.0.is_unit in
    let answer : answer_to old.export unit ≡ Run c = ap (λ (m : Export). answer_to m unit) (sym own) ∙ sym done.1 in
    let payload = asked old.export unit (drop 16 line.bytes) c filled is_unit answer fits (came start old text used part filled (drop 16 line.bytes) was own adds stored) in
    let lent : drop 28 unit ≡ payload_in c (room_of line) = payload ∙ ap (λ (o : Option Command). payload_in c (take (lent_now o) (drop 16 line.bytes))) (sym running) in
    (subst (λ (l : List ℕ). Gains start old.export text (text ++ used) (ForDisk c l ∷ [])) lent (grows start old.export old.transmission line.transmission text used (Run c) p own was.is_open done), behind start line old.transmission text used p stage none done.0)

pub says_refused : (start : Phase) (old line : SessionState) (refusal : Refusal) (to : ReplyTo) (text used : List ℕ) (next : Next Refusal) → Requests start old text → line.stage ≡ Requesting → next ≡ Reply refusal → line.filled ≡ 0 → reply_of line ≡ head_of refusal.command refusal.error
    → old.transmission.export ≡ old.export → Steps old.transmission line.transmission used next → SessionSays start old.export text (text ++ used) (Reply to) line
says_refused start old line refusal to text used next was stage e none reply-is own step =
    let p = was.stood.parser in
    let done = step_at start old line.transmission text used next (Reply refusal) was e step in
    (subst (λ (l : List ℕ). Gains start old.export text (text ++ used) (Told l ∷ [])) (sym reply-is) (grows start old.export old.transmission line.transmission text used (Reply refusal) p own was.is_open done), behind start line old.transmission text used p stage none done.0)

pub says_close : (start : Phase) (old line : SessionState) (new : ParserState) (text used : List ℕ) (next : Next Refusal) → Requests start old text → line.stage ≡ Ended → next ≡ Close → reply_of line ≡ [] → old.transmission.export ≡ old.export
    → Steps old.transmission new used next → SessionSays start old.export text (text ++ used) Close line
says_close start old line new text used next was stage e reply-is own step =
    let p = was.stood.parser in
    let unit = p.rest ++ used in
    let done = step_at start old new text used next Close was e step in
    let more = Splits_unit start text used p.units p.rest old.transmission.phase p.split done.0.is_unit in
    let answer : Close ≡ answer_to old.export unit = done.1 ∙ ap (λ (m : Export). answer_to m unit) own in
    let part : part_of old.export Transmitting unit ≡ Last [] = part_by_answer old.export (request_at unit) (drop 28 unit) ∙ ap (λ (a : Next Refusal). PartBy a (drop 28 unit)) (sym answer) in
    let over = ap (λ (x : Phase). after x unit) was.is_open ∙ closing_unit old.export Transmitting unit (ap closes part) in
    let split : Splits start (text ++ used) (p.units ++ unit ∷ []) [] Closed = subst (λ (x : Phase). Splits start (text ++ used) (p.units ++ unit ∷ []) [] x) over more in (
      subst (λ (l : List ℕ). Gains start old.export text (text ++ used) (Last l ∷ [])) (sym reply-is) (grows start old.export old.transmission new text used Close p own was.is_open done),
      subst (λ (g : Stage). StageRepresents start g line (text ++ used)) (sym stage) record { units = p.units ++ unit ∷ []; rest = []; split = split },
    )
