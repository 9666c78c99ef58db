-- A connection goes on by a piece, or ends.
use Rattle.std.proofs.Common.{◌≡◌, ℕ, ◌+◌, ◌*◌, ◌<◌, ◌≤◌, List, [], ◌∷◌, ◌++◌, length, length-append, Bool, true, false, refl, arith, sym, ap, ◌∙◌, subst, append_assoc, append-nil}
use Rattle.std.specs.Prelude.{◌||◌, Option, Some, None}
use Rattle.std.specs.Io.KnownBytes.{Appends}
use Rattle.std.proofs.KnownBytes.{Appends-nil, Appends-trans}
use Rattle.nbd_wire.specs.declared.export.Export.{Export}
use Rattle.nbd_wire.specs.declared.command.Command.{Command}
use Rattle.nbd_wire.specs.declared.phase.Phase.{Phase}
use Rattle.nbd_wire.specs.Lent.{payload_in}
use Rattle.nbd_session.specs.Sessions.{SessionState, SessionRepresents, is_closed, opening}
use Rattle.nbd_session.specs.Parts.{Part, Told, ForDisk, Last, Gains, closes, closed, is_silent, ends_silently}
use Rattle.nbd_session.proofs.PartLaws.{gains_behind, gains_both}
use Rattle.nbd_connection.specs.declared.piece.Fate.{Fate}
use Rattle.nbd_connection.specs.declared.piece.PieceOutcome.{PieceOutcome}
use Rattle.nbd_connection.specs.declared.piece.PieceOutcome.TheVariants.{Open, Closed, OutputFailed, Lost as LostPiece}
use Rattle.nbd_connection.specs.Turning.{PartBy, PartsBy, LosesPart, PieceTaken}
use Rattle.nbd_worker.specs.declared.attending.End.{End}
use Rattle.nbd_worker.specs.declared.attending.End.TheVariants.{Closed as ClosedEnd, Output, Lost as LostEnd}
use Rattle.nbd_share.specs.declared.door.Point.{Point}
use Rattle.nbd_share.specs.declared.door.Point.TheVariants.{Execute}
use Rattle.nbd_share.specs.declared.shared.Done.{Done}
use Rattle.nbd_worker.specs.Connection.{AnsweredBy, ExecutedAndLost, FailsBy, ConnectionEnded, PartsAnsweredBy}
use Rattle.nbd_worker.specs.Turning.{CommandTurn, StateTells, ConnectionUnderway, PieceBy, PieceServes, end_of}
use Rattle.nbd_worker.specs.ConnectionState.{PassesMore, DoorState, Setting, ConnectionState, asks, executions, reads, setting}

-- ---- lists of points and of parts

-- the points that are passed for these parts
abbrev points_of : List Part → List Point
points_of [] = []
points_of (Told reply ∷ parts) = points_of parts
points_of (ForDisk command payload ∷ parts) = Execute ∷ points_of parts
points_of (Last reply ∷ parts) = points_of parts

pub executions-append : (ps qs : List Point) → executions (ps ++ qs) ≡ executions ps + executions qs
executions-append [] qs = omega arith
executions-append (p ∷ ps) qs = let ih = executions-append ps qs in omega (arith, ih)

pub reads-append : (ps qs : List Point) → reads (ps ++ qs) ≡ reads ps + reads qs
reads-append [] qs = omega arith
reads-append (p ∷ ps) qs = let ih = reads-append ps qs in omega (arith, ih)

executions-of : (ps : List Part) → executions (points_of ps) ≡ asks ps
executions-of [] = refl
executions-of (Told reply ∷ ps) = executions-of ps
executions-of (ForDisk c payload ∷ ps) = let ih = executions-of ps in omega (arith, ih)
executions-of (Last reply ∷ ps) = executions-of ps

reads-of : (ps : List Part) → reads (points_of ps) ≡ 0
reads-of [] = refl
reads-of (Told reply ∷ ps) = reads-of ps
reads-of (ForDisk c payload ∷ ps) = let ih = reads-of ps in omega (arith, ih)
reads-of (Last reply ∷ ps) = reads-of ps

asks-append : (ps qs : List Part) → asks (ps ++ qs) ≡ asks ps + asks qs
asks-append [] qs = omega arith
asks-append (Told reply ∷ ps) qs = asks-append ps qs
asks-append (ForDisk c payload ∷ ps) qs = let ih = asks-append ps qs in omega (arith, ih)
asks-append (Last reply ∷ ps) qs = asks-append ps qs

or_false : (b : Bool) → b ≡ false → (x : Bool) → (b || x) ≡ x
or_false true e x = cc
or_false false e x = refl

or_open : (b x : Bool) → (b || x) ≡ false → (b ≡ false) × (x ≡ false)
or_open true x e = cc
or_open false x e = (refl, e)

-- behind open parts, others decide
closed-behind : (ps qs : List Part) → closed ps ≡ false → closed (ps ++ qs) ≡ closed qs
closed-behind [] qs e = refl
closed-behind (p ∷ ps) qs e =
    let both = or_open (closes p) (closed ps) e in
    ap (λ (x : Bool). closes p || x) (closed-behind ps qs both.1) ∙ or_false (closes p) both.0 (closed qs)

-- a closing part closes, and so where none does none closes without a reply
silent-closes : (p : Part) → closes p ≡ false → is_silent p ≡ false
silent-closes (Told reply) e = refl
silent-closes (ForDisk c payload) e = refl
silent-closes (Last reply) e = cc

pub open-silent : (ps : List Part) → closed ps ≡ false → ends_silently ps ≡ false
open-silent [] e = refl
open-silent (p ∷ ps) e =
    let both = or_open (closes p) (closed ps) e in
    or_false (is_silent p) (silent-closes p both.0) (ends_silently ps) ∙ open-silent ps both.1

-- behind parts that don't close without a reply, others decide
silent-behind : (ps qs : List Part) → ends_silently ps ≡ false → ends_silently (ps ++ qs) ≡ ends_silently qs
silent-behind [] qs e = refl
silent-behind (p ∷ ps) qs e =
    let both = or_open (is_silent p) (ends_silently ps) e in
    ap (λ (x : Bool). is_silent p || x) (silent-behind ps qs both.1) ∙ or_false (is_silent p) both.0 (ends_silently qs)

-- the same of one part more
silent-end : (ps : List Part) (p : Part) → closed ps ≡ false → is_silent p ≡ false → ends_silently (ps ++ p ∷ []) ≡ false
silent-end ps p e s = silent-behind ps (p ∷ []) (open-silent ps e) ∙ ap (λ (b : Bool). b || false) s

-- a reply that isn't empty
has-reply : (reply sent unsent : List ℕ) → reply ≡ sent ++ unsent → 0 < length unsent → is_silent (Last reply) ≡ false
has-reply [] sent unsent is some = let n = ap (λ (x : List ℕ). length x) is in absurd (omega (arith, n, some, length-append sent unsent))
has-reply (x ∷ xs) sent unsent is some = refl

points-append : (ps qs : List Part) → points_of (ps ++ qs) ≡ points_of ps ++ points_of qs
points-append [] qs = refl
points-append (Told reply ∷ ps) qs = points-append ps qs
points-append (ForDisk c payload ∷ ps) qs = ap (λ (x : List Point). Execute ∷ x) (points-append ps qs)
points-append (Last reply ∷ ps) qs = points-append ps qs

-- ---- runs

runs-at : {S : Type 0} (step : DoorState S → DoorState S → Command → List ℕ → Done → Type 0) (a m b : DoorState S) (ps : List Part) (out : List ℕ) → m ≡ a → PartsAnsweredBy step a ps out b → PartsAnsweredBy step m ps out b
runs-at {S = S} step a m b ps out e r = let P : DoorState S → Type 0 = λ x. PartsAnsweredBy step x ps out b in subst P (sym e) r

-- parts after others
pub runs-append : {S : Type 0} (step : DoorState S → DoorState S → Command → List ℕ → Done → Type 0) (a m b : DoorState S) (ps qs : List Part) (out more : List ℕ)
    → PartsAnsweredBy step a ps out m → PartsAnsweredBy step m qs more b → PartsAnsweredBy step a (ps ++ qs) (out ++ more) b
runs-append {S = S} step a m b [] qs out more r s =
    let P : DoorState S → Type 0 = λ x. PartsAnsweredBy step x qs more b in
    let Q : List ℕ → Type 0 = λ x. PartsAnsweredBy step a qs x b in
    subst Q (ap (λ (x : List ℕ). x ++ more) (sym r.0)) (subst P r.1 s)
runs-append step a m b (p ∷ ps) qs out more r s =
    (r.0, r.1 ++ more, r.2, ap (λ (y : List ℕ). y ++ more) r.3 ∙ append_assoc r.0 r.1 more, r.4, runs-append step r.2 m b ps qs r.1 more r.5 s)

-- a part alone
pub runs-one : {S : Type 0} (step : DoorState S → DoorState S → Command → List ℕ → Done → Type 0) (a b : DoorState S) (p : Part) (out : List ℕ) → AnsweredBy step a p out b → PartsAnsweredBy step a (p ∷ []) out b
runs-one step a b p out h = (out, [], b, sym (append-nil out), h, (refl, refl))

-- ---- points

passes-none : {G : Type 0} (passes : G → G → List Point → Type 0) (gate : G) → PassesMore passes gate gate []
passes-none passes gate first points p = subst (λ (x : List Point). passes first gate x) (sym (append-nil points)) p

passes-both : {G : Type 0} (passes : G → G → List Point → Type 0) (a m b : G) (xs ys : List Point) → PassesMore passes a m xs → PassesMore passes m b ys → PassesMore passes a b (xs ++ ys)
passes-both passes a m b xs ys one two first points p = subst (λ (x : List Point). passes first b x) (append_assoc points xs ys) (two first (points ++ xs) (one first points p))

-- ---- what became of parts

module _ {S G : Type 0} (step : DoorState S → DoorState S → Command → List ℕ → Done → Type 0) (passes : G → G → List Point → Type 0) where
  abbrev commands : ConnectionState S G → ConnectionState S G → Command → List ℕ → Fate → Type 0
  commands a b c bytes fate = CommandTurn step passes a b c (payload_in c bytes) fate

  -- the gate was passed for these parts
  abbrev passed-for : ConnectionState S G → ConnectionState S G → List Part → Type 0
  passed-for a b parts = PassesMore passes a.gate b.gate (points_of parts)

  told-passes : (a b : ConnectionState S G) → b.gate ≡ a.gate → PassesMore passes a.gate b.gate []
  told-passes a b same = subst (λ g. PassesMore passes a.gate g []) (sym same) (passes-none passes a.gate)

  abbrev Answers : ConnectionState S G → ConnectionState S G → Part → List ℕ → Type 0
  Answers a b part out = AnsweredBy step a.place part out b.place

  part-done : (a b : ConnectionState S G) (part : Part) → PartBy commands StateTells a b part true
      → (out : List ℕ) × Answers a b part out × Appends a.written b.written out × (b.failures ≡ a.failures) × passed-for a b (part ∷ [])
  part-done a b (Told reply) x = (reply, (refl, x.0), x.2, x.3, told-passes a b x.1)
  part-done a b (ForDisk c payload) x =
      let r = x.run.0 in
      (r.0, subst (λ l. AnsweredBy step a.place (ForDisk c l) r.0 b.place) x.payload_is r.1, r.2, r.3, x.run.1)
  part-done a b (Last reply) x = (reply, (refl, x.0), x.2, x.3, told-passes a b x.1)

  part-fails : (a b : ConnectionState S G) (part : Part) → PartBy commands StateTells a b part false
      → (sent : List ℕ) × (unsent : List ℕ) × Answers a b part (sent ++ unsent) × Appends a.written b.written sent × (0 < length unsent) × (a.failures < b.failures) × (is_silent part ≡ false)
      × passed-for a b (part ∷ [])
  part-fails a b (Told reply) x = let f = x.2.0 in (f.0, f.1, (sym f.2, x.0), f.3, f.4, x.2.1, refl, told-passes a b x.1)
  part-fails a b (ForDisk c payload) x =
      let r = x.run.0 in
      let f = r.2.0 in
      (f.0, f.1, subst (λ o. AnsweredBy step a.place (ForDisk c payload) o b.place) f.2 (subst (λ l. AnsweredBy step a.place (ForDisk c l) r.0 b.place) x.payload_is r.1), f.3, f.4, r.2.1, refl, x.run.1)
  part-fails a b (Last reply) x = let f = x.2.0 in (f.0, f.1, (sym f.2, x.0), f.3, f.4, x.2.1, has-reply reply f.0 f.1 f.2 f.4, told-passes a b x.1)

  part-lost : (a b : ConnectionState S G) (part : Part) → LosesPart commands a b part
      → (c : Command) × (payload : List ℕ) × (part ≡ ForDisk c payload) × ExecutedAndLost step a.place b.place c payload × (b.written ≡ a.written) × (b.failures ≡ a.failures)
      × passed-for a b (part ∷ [])
  part-lost a b (Told reply) x = absurd x
  part-lost a b (ForDisk c payload) x =
      let r = x.run.0 in
      (c, payload, refl, subst (λ l. ExecutedAndLost step a.place b.place c l) x.payload_is r.0, r.1, r.2, x.run.1)
  part-lost a b (Last reply) x = absurd x

  -- parts are answered whole
  record PartsDone (a b : ConnectionState S G) (parts : List Part) : Type 0 where
    out : List ℕ
    runs : PartsAnsweredBy step a.place parts out b.place
    wrote : Appends a.written b.written out
    quiet : b.failures ≡ a.failures
    gate : passed-for a b parts

  parts-done : (a b : ConnectionState S G) (parts : List Part) → PartsBy commands StateTells a b parts → PartsDone a b parts
  parts-done a b [] x = subst (λ y. PartsDone a y []) (sym x) (record { out = []; runs = (refl, refl); wrote = Appends-nil a.written; quiet = refl; gate = passes-none passes a.gate })
  parts-done a b (part ∷ more) x =
      let m = x.0 in
      let one = part-done a m part x.1 in
      let rest = parts-done m b more x.2 in
      record {
        out = one.0 ++ rest.out;
        runs = (one.0, rest.out, m.place, refl, one.1, rest.runs);
        wrote = Appends-trans a.written m.written b.written one.0 rest.out one.2 rest.wrote;
        quiet = rest.quiet ∙ one.3;
        gate = subst (λ ps. PassesMore passes a.gate b.gate ps) (sym (points-append (part ∷ []) more)) (passes-both passes a.gate m.gate b.gate (points_of (part ∷ [])) (points_of more) one.4 rest.gate);
      }

  -- ---- a connection that is underway

  module _ (st : Setting) (first a : ConnectionState S G) (old : List ℕ) (line : SessionState) (w : ConnectionUnderway step passes st first a old line) where
    executed-more : (added : List Part) → executions (w.points ++ points_of added) ≡ asks (w.parts ++ added)
    executed-more added = executions-append w.points (points_of added) ∙ omega (arith, w.executed, executions-of added, asks-append w.parts added)

    reads-more : (added : List Part) → reads (w.points ++ points_of added) ≡ reads w.points
    reads-more added = reads-append w.points (points_of added) ∙ omega (arith, reads-of added)

    wrote-more : (b : ConnectionState S G) (out : List ℕ) → Appends a.written b.written out → Appends first.written b.written (opening st.start ++ (w.out ++ out))
    wrote-more b out wrote = subst (λ (x : List ℕ). Appends first.written b.written x) (append_assoc (opening st.start) w.out out) (Appends-trans first.written a.written b.written (opening st.start ++ w.out) out w.wrote wrote)

    -- more parts are answered
    underway-more : (b : ConnectionState S G) (new : List ℕ) (next : SessionState) (added : List Part) → Gains st.start st.export old new added → SessionRepresents st.start next new → closed added ≡ false → PartsDone a b added
        → (u : ConnectionUnderway step passes st first b new next) × (reads u.points ≡ reads w.points)
    underway-more b new next added gains represents shut d = (
      record {
        parts = w.parts ++ added;
        out = w.out ++ d.out;
        points = w.points ++ points_of added;
        parts_are = gains_behind st.start st.export old new w.parts added w.parts_are gains;
        runs = runs-append step first.place a.place b.place w.parts added w.out d.out w.runs d.runs;
        is_open = closed-behind w.parts added w.is_open ∙ shut;
        represents = represents;
        wrote = wrote-more b d.out d.wrote;
        passed = d.gate first.gate w.points w.passed;
        executed = executed-more added;
        quiet = d.quiet ∙ w.quiet;
      },
      reads-more added,
    )

    -- the last of them closes it
    over-closes : (b : ConnectionState S G) (new rest all : List ℕ) (added : List Part) → Gains st.start st.export old new added → closed added ≡ true → PartsDone a b added
        → all ≡ new ++ rest → length all ≤ 65536 * reads w.points → ConnectionEnded step passes st first b all ClosedEnd × FailsBy ClosedEnd first.failures b.failures
    over-closes b new rest all added gains shut d is pieces = (
      record {
        cut = new;
        parts = w.parts ++ added;
        dropped = rest;
        out = w.out ++ d.out;
        sent = opening st.start ++ (w.out ++ d.out);
        unsent = [];
        points = w.points ++ points_of added;
        last = b.place;
        text_is = is;
        parts_are = gains_behind st.start st.export old new w.parts added w.parts_are gains;
        runs = runs-append step first.place a.place b.place w.parts added w.out d.out w.runs d.runs;
        out_is = sym (append-nil _);
        wrote = wrote-more b d.out d.wrote;
        ends = (closed-behind w.parts added w.is_open ∙ shut, refl, refl);
        passed = d.gate first.gate w.points w.passed;
        pieces = omega (arith, pieces, reads-more added);
        executed = executed-more added;
      },
      d.quiet ∙ w.quiet,
    )

    -- of the last of them not all of the reply is written
    over-output : (m b : ConnectionState S G) (new rest all : List ℕ) (before : List Part) (part : Part) → Gains st.start st.export old new (before ++ part ∷ []) → closed before ≡ false → PartsDone a m before
        → PartBy commands StateTells m b part false
        → all ≡ new ++ rest → length all ≤ 65536 * reads w.points → ConnectionEnded step passes st first b all Output × FailsBy Output first.failures b.failures
    over-output m b new rest all before part gains shut d last is pieces =
        let f = part-fails m b part last in
        let added = before ++ part ∷ [] in
        let out = d.out ++ (f.0 ++ f.1) in
        let gate = subst (λ ps. PassesMore passes a.gate b.gate ps) (sym (points-append before (part ∷ []))) (passes-both passes a.gate m.gate b.gate (points_of before) (points_of (part ∷ [])) d.gate f.7) in
        let runs = runs-append step a.place m.place b.place before (part ∷ []) d.out (f.0 ++ f.1) d.runs (runs-one step m.place b.place part (f.0 ++ f.1) f.2) in
        let some = f.5 in
        let quiet = d.quiet in
        let still = w.quiet in (
          record {
            cut = new;
            parts = w.parts ++ added;
            dropped = rest;
            out = w.out ++ out;
            sent = (opening st.start ++ (w.out ++ d.out)) ++ f.0;
            unsent = f.1;
            points = w.points ++ points_of added;
            last = b.place;
            text_is = is;
            parts_are = gains_behind st.start st.export old new w.parts added w.parts_are gains;
            runs = runs-append step first.place a.place b.place w.parts added w.out out w.runs runs;
            out_is = ap (λ (x : List ℕ). opening st.start ++ x) (sym (append_assoc w.out d.out (f.0 ++ f.1)))
                ∙ (sym (append_assoc (opening st.start) (w.out ++ d.out) (f.0 ++ f.1)) ∙ sym (append_assoc (opening st.start ++ (w.out ++ d.out)) f.0 f.1));
            wrote = Appends-trans first.written m.written b.written (opening st.start ++ (w.out ++ d.out)) f.0 (wrote-more m d.out d.wrote) f.3;
            ends = (f.4, silent-behind w.parts added (open-silent w.parts w.is_open) ∙ silent-end before part shut f.6, refl);
            passed = gate first.gate w.points w.passed;
            pieces = omega (arith, pieces, reads-more added);
            executed = executed-more added;
          },
          omega (arith, some, quiet, still),
        )

    -- the command behind them is lost
    over-lost : (m b : ConnectionState S G) (done unit others all : List ℕ) (before : List Part) (part : Part) → Gains st.start st.export old (old ++ done) before
        → Gains st.start st.export (old ++ done) ((old ++ done) ++ unit) (part ∷ []) → closed before ≡ false → PartsDone a m before → LosesPart commands m b part
        → all ≡ (old ++ done) ++ (unit ++ others) → length all ≤ 65536 * reads w.points → ConnectionEnded step passes st first b all LostEnd × FailsBy LostEnd first.failures b.failures
    over-lost m b done unit others all before part gains one shut d last is pieces =
        let f = part-lost m b part last in
        let added = before ++ part ∷ [] in
        let gate = subst (λ ps. PassesMore passes a.gate b.gate ps) (sym (points-append before (part ∷ []))) (passes-both passes a.gate m.gate b.gate (points_of before) (points_of (part ∷ [])) d.gate f.6) in
        let count : asks (part ∷ []) ≡ 1 = ap (λ (p : Part). asks (p ∷ [])) f.2 in (
          record {
            cut = old ++ done;
            parts = w.parts ++ before;
            dropped = unit ++ others;
            out = w.out ++ d.out;
            sent = opening st.start ++ (w.out ++ d.out);
            unsent = [];
            points = w.points ++ points_of added;
            last = m.place;
            text_is = is;
            parts_are = gains_behind st.start st.export old (old ++ done) w.parts before w.parts_are gains;
            runs = runs-append step first.place a.place m.place w.parts before w.out d.out w.runs d.runs;
            out_is = sym (append-nil _);
            wrote = subst (λ x. Appends first.written x (opening st.start ++ (w.out ++ d.out))) (sym f.4) (wrote-more m d.out d.wrote);
            ends = (
              refl,
              record {
                unit = unit;
                others = others;
                command = f.0;
                payload = f.1;
                ahead_is = refl;
                next = subst (λ (p : Part). Gains st.start st.export (old ++ done) ((old ++ done) ++ unit) (p ∷ [])) f.2 one;
                taken = f.3;
              },
            );
            passed = gate first.gate w.points w.passed;
            pieces = omega (arith, pieces, reads-more added);
            executed = executed-more added ∙ omega (arith, asks-append w.parts added, asks-append w.parts before, asks-append before (part ∷ []), count);
          },
          f.5 ∙ (d.quiet ∙ w.quiet),
        )

  -- ---- a piece

  -- the same connection, of an equal text
  underway-at : (st : Setting) (first a : ConnectionState S G) (text same : List ℕ) (line : SessionState) (n : ℕ) → text ≡ same
      → (w : ConnectionUnderway step passes st first a text line) → n ≤ 65536 * reads w.points → (u : ConnectionUnderway step passes st first a same line) × (n ≤ 65536 * reads u.points)
  underway-at st first a text same line n e w pieces =
      let P : List ℕ → Type 0 = λ x. (u : ConnectionUnderway step passes st first a x line) × (n ≤ 65536 * reads u.points) in
      subst P e (w, pieces)

  module _ (a b : ConnectionState S G) (old new : SessionState) (piece : List ℕ) (open-still : is_closed old ≡ false) where
    whole-text : (text done ahead : List ℕ) → piece ≡ done ++ ahead → text ++ piece ≡ (text ++ done) ++ ahead
    whole-text text done ahead is = ap (λ (x : List ℕ). text ++ x) is ∙ sym (append_assoc text done ahead)

    says-open : PieceTaken commands StateTells a b old new piece Open → PieceServes step passes a b old new piece None
    says-open x = record {
      says = λ start text first w pieces.
          let r = x.reached in
          let st = setting start old.export in
          let d = parts-done a b r.parts (subst (λ p. PartsBy commands StateTells a p r.parts) (sym x.ends.1) x.runs) in
          let gains = x.gains start text open-still w.represents in
          let u = underway-more st first a text old w b (text ++ r.done) new r.parts gains (x.ends.3 start text open-still w.represents) x.ends.0 d in
          let all : text ++ r.done ≡ text ++ piece = sym (whole-text text r.done r.ahead x.bytes_are ∙ (ap (λ (l : List ℕ). (text ++ r.done) ++ l) x.ends.2 ∙ append-nil (text ++ r.done))) in
          let count = u.1 in
          underway-at st first b (text ++ r.done) (text ++ piece) new (length (text ++ piece)) all u.0 (omega (arith, pieces, count));
    }

    says-closed : PieceTaken commands StateTells a b old new piece Closed → PieceServes step passes a b old new piece (Some ClosedEnd)
    says-closed x = record {
      says = λ start text first w pieces.
          let r = x.reached in
          let d = parts-done a b r.parts (subst (λ p. PartsBy commands StateTells a p r.parts) (sym x.ends.1) x.runs) in
          let gains = x.gains start text open-still w.represents in
          over-closes (setting start old.export) first a text old w b (text ++ r.done) r.ahead (text ++ piece) r.parts gains x.ends.0 d (whole-text text r.done r.ahead x.bytes_are) pieces;
    }

    says-output : PieceTaken commands StateTells a b old new piece OutputFailed → PieceServes step passes a b old new piece (Some Output)
    says-output x = record {
      says = λ start text first w pieces.
          let r = x.reached in
          let e = x.ends.1 in
          let mid = text ++ r.done in
          let d = parts-done a r.peer r.parts x.runs in
          let gains = gains_both start old.export text mid (mid ++ e.unit) r.parts (e.part ∷ []) (x.gains start text open-still w.represents) (e.gains start text open-still w.represents) in
          let is = whole-text text r.done r.ahead x.bytes_are ∙ (ap (λ (l : List ℕ). mid ++ l) e.ahead_is ∙ sym (append_assoc mid e.unit e.others)) in
          over-output (setting start old.export) first a text old w r.peer b (mid ++ e.unit) e.others (text ++ piece) r.parts e.part gains x.ends.0 d e.ends is pieces;
    }

    says-lost : PieceTaken commands StateTells a b old new piece LostPiece → PieceServes step passes a b old new piece (Some LostEnd)
    says-lost x = record {
      says = λ start text first w pieces.
          let r = x.reached in
          let e = x.ends.1 in
          let mid = text ++ r.done in
          let d = parts-done a r.peer r.parts x.runs in
          let gains = x.gains start text open-still w.represents in
          let one = e.gains start text open-still w.represents in
          let is = whole-text text r.done r.ahead x.bytes_are ∙ ap (λ (l : List ℕ). mid ++ l) e.ahead_is in
          over-lost (setting start old.export) first a text old w r.peer b r.done e.unit e.others (text ++ piece) r.parts e.part gains one x.ends.0 d e.ends is pieces;
    }

    pub says-piece : (progress : PieceOutcome) → PieceTaken commands StateTells a b old new piece progress → PieceServes step passes a b old new piece (end_of progress)
    says-piece Open x = says-open x
    says-piece Closed x = says-closed x
    says-piece OutputFailed x = says-output x
    says-piece LostPiece x = says-lost x

  -- of an export that is the session's
  pub says-of : (export : Export) (a b : ConnectionState S G) (old new : SessionState) (piece : List ℕ) (result : Option End) → old.export ≡ export → PieceServes step passes a b old new piece result
      → (start : Phase) (text : List ℕ) (first : ConnectionState S G) (w : ConnectionUnderway step passes (setting start export) first a text old) → length (text ++ piece) ≤ 65536 * reads w.points
      → PieceBy step passes (setting start export) first b (text ++ piece) new result
  says-of export a b old new piece result same x start text first =
      subst (λ n. (w : ConnectionUnderway step passes (setting start n) first a text old) → length (text ++ piece) ≤ 65536 * reads w.points → PieceBy step passes (setting start n) first b (text ++ piece) new result)
      same (x.says start text first)
