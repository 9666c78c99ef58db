-- A connection begins, reads a piece, and ends.
use Rattle.std.proofs.Common.{◌≡◌, ◌⊎◌, ℕ, ◌+◌, ◌*◌, ◌-◌, ◌^◌, ◌<◌, ◌≤◌, List, [], ◌∷◌, ◌++◌, length, length-append, refl, arith, sym, ap, ◌∙◌, subst, append-nil, Option, inl, inr}
use Rattle.std.specs.Io.KnownBytes.{Appends, Consumes, IsAtEnd, Keeps}
use Rattle.std.proofs.KnownBytes.{Appends-nil, Consumes-nil, Consumes-trans, Consumes-kept}
use Rattle.nbd_wire.specs.declared.command.Command.{Command}
use Rattle.nbd_session.specs.Sessions.{BeginsSession, SessionState, opening}
use Rattle.nbd_session.proofs.PartLaws.{parts_none}
use Rattle.nbd_worker.specs.declared.attending.End.{End}
use Rattle.nbd_worker.specs.declared.attending.End.TheVariants.{Closed, EndOfInput, Input, Output, Lost, OutOfMemory}
use Rattle.nbd_share.specs.declared.door.Point.{Point}
use Rattle.nbd_share.specs.declared.door.Point.TheVariants.{Read}
use Rattle.nbd_share.specs.declared.shared.Done.{Done}
use Rattle.nbd_worker.specs.Connection.{Connection, EndsBy, FailsBy, ConnectionEnded, ReadsBy, let_through}
use Rattle.nbd_worker.specs.Turning.{ConnectionUnderway}
use Rattle.nbd_worker.specs.ConnectionState.{PassesMore, DoorState, Setting, ConnectionState, asks, reading, reads}
use Rattle.nbd_worker.proofs.Turns.{executions-append, reads-append}

-- there was no memory
pub connection-nothing : {S G : Type 0} (step : DoorState S → DoorState S → Command → List ℕ → Done → Type 0) (passes : G → G → List Point → Type 0) (st : Setting) (a : ConnectionState S G) (had : Option (List ℕ)) (f : ℕ)
    → passes a.gate a.gate [] → Connection step passes st a a (reading had had f f) OutOfMemory
connection-nothing step passes st a had f none = record {
  text = [];
  took = Consumes-nil had;
  over = record {
    cut = [];
    parts = [];
    dropped = [];
    out = [];
    sent = [];
    unsent = opening st.start;
    points = [];
    last = a.place;
    text_is = refl;
    parts_are = parts_none st.start st.export;
    runs = (refl, refl);
    out_is = append-nil (opening st.start);
    wrote = Appends-nil a.written;
    ends = (refl, refl, refl, refl);
    passed = none;
    pieces = omega arith;
    executed = refl;
  };
  reader = refl;
  writer = refl;
}

-- not all of the opening was written
pub connection-unopened : {S G : Type 0} (step : DoorState S → DoorState S → Command → List ℕ → Done → Type 0) (passes : G → G → List Point → Type 0) (st : Setting) (a b : ConnectionState S G) (had : Option (List ℕ)) (f : ℕ) (bytes sent unsent : List ℕ)
    → passes a.gate b.gate [] → b.place ≡ a.place → bytes ≡ opening st.start → bytes ≡ sent ++ unsent → Appends a.written b.written sent → 0 < length unsent → a.failures < b.failures
    → Connection step passes st a b (reading had had f f) Output
connection-unopened step passes st a b had f bytes sent unsent none same is parted wrote some failed = record {
  text = [];
  took = Consumes-nil had;
  over = record {
    cut = [];
    parts = [];
    dropped = [];
    out = [];
    sent = sent;
    unsent = unsent;
    points = [];
    last = a.place;
    text_is = refl;
    parts_are = parts_none st.start st.export;
    runs = (refl, refl);
    out_is = append-nil (opening st.start) ∙ sym is ∙ parted;
    wrote = wrote;
    ends = (some, refl, same);
    passed = none;
    pieces = omega arith;
    executed = refl;
  };
  reader = refl;
  writer = failed;
}

-- the opening was written, and nothing has come yet
pub underway-start : {S G : Type 0} (step : DoorState S → DoorState S → Command → List ℕ → Done → Type 0) (passes : G → G → List Point → Type 0) (st : Setting) (a b : ConnectionState S G) (bytes : List ℕ) (line : SessionState)
    → BeginsSession st.start st.export line → passes a.gate b.gate [] → b.place ≡ a.place → bytes ≡ opening st.start → Appends a.written b.written bytes → b.failures ≡ a.failures
    → (w : ConnectionUnderway step passes st a b [] line) × (length {A = ℕ} [] ≤ 65536 * reads w.points)
underway-start step passes st a b bytes line begins none same is wrote quiet = (
  record {
    parts = [];
    out = [];
    points = [];
    parts_are = parts_none st.start st.export;
    runs = (refl, same);
    is_open = refl;
    represents = begins.represents;
    wrote = subst (λ (x : List ℕ). Appends a.written b.written x) (is ∙ sym (append-nil (opening st.start))) wrote;
    passed = none;
    executed = refl;
    quiet = quiet;
  },
  omega arith,
)

-- a piece was read, and the gate passed
pub underway-read : {S G : Type 0} (step : DoorState S → DoorState S → Command → List ℕ → Done → Type 0) (passes : G → G → List Point → Type 0) (st : Setting) (first a : ConnectionState S G) (gate : G) (text piece : List ℕ) (line : SessionState)
    → PassesMore passes a.gate gate (Read ∷ []) → (w : ConnectionUnderway step passes st first a text line) → length text ≤ 65536 * reads w.points → length piece ≤ 65536
    → (u : ConnectionUnderway step passes st first (record a { gate = gate }) text line) × (length (text ++ piece) ≤ 65536 * reads u.points)
underway-read step passes st first a gate text piece line more w pieces short = (
  record {
    parts = w.parts;
    out = w.out;
    points = w.points ++ Read ∷ [];
    parts_are = w.parts_are;
    runs = w.runs;
    is_open = w.is_open;
    represents = w.represents;
    wrote = w.wrote;
    passed = more first.gate w.points w.passed;
    executed = executions-append w.points (Read ∷ []) ∙ omega (arith, w.executed);
    quiet = w.quiet;
  },
  omega (arith, pieces, short, length-append text piece, reads-append w.points (Read ∷ [])),
)

-- nothing more comes
over-still : {S G : Type 0} (step : DoorState S → DoorState S → Command → List ℕ → Done → Type 0) (passes : G → G → List Point → Type 0) (st : Setting) (first a : ConnectionState S G) (text : List ℕ) (line : SessionState) (end : End)
    → (w : ConnectionUnderway step passes st first a text line) → length text ≤ 65536 * reads w.points → EndsBy step st a.place a.place (record { cut = text; parts = w.parts; dropped = []; unsent = [] }) end → let_through end (asks w.parts) ≡ asks w.parts
    → ConnectionEnded step passes st first a text end
over-still step passes st first a text line end w pieces ends through-all = record {
  cut = text;
  parts = w.parts;
  dropped = [];
  out = w.out;
  sent = opening st.start ++ w.out;
  unsent = [];
  points = w.points;
  last = a.place;
  text_is = sym (append-nil text);
  parts_are = w.parts_are;
  runs = w.runs;
  out_is = sym (append-nil _);
  wrote = w.wrote;
  ends = ends;
  passed = w.passed;
  pieces = pieces;
  executed = w.executed ∙ sym through-all;
}

-- a read failed
pub connection-input : {S G : Type 0} (step : DoorState S → DoorState S → Command → List ℕ → Done → Type 0) (passes : G → G → List Point → Type 0) (st : Setting) (first a : ConnectionState S G) (had mid left : Option (List ℕ)) (f g h : ℕ) (text : List ℕ) (line : SessionState)
    → Consumes had mid text → Keeps mid left → g ≡ f → h ≡ g + 1 → (w : ConnectionUnderway step passes st first a text line) → length text ≤ 65536 * reads w.points
    → Connection step passes st first a (reading had left f h) Input
connection-input step passes st first a had mid left f g h text line took kept same failed w pieces = record {
  text = text;
  took = Consumes-kept had mid left text took kept;
  over = over-still step passes st first a text line Input w pieces (w.is_open, refl, refl, refl) refl;
  reader = inl (omega arith);
  writer = w.quiet;
}

-- too many pieces were read
pub connection-long : {S G : Type 0} (step : DoorState S → DoorState S → Command → List ℕ → Done → Type 0) (passes : G → G → List Point → Type 0) (st : Setting) (first a : ConnectionState S G) (had left : Option (List ℕ)) (f h : ℕ) (text : List ℕ) (line : SessionState)
    → Consumes had left text → 2 ^ 64 - 1 ≤ length text → (w : ConnectionUnderway step passes st first a text line) → length text ≤ 65536 * reads w.points
    → Connection step passes st first a (reading had left f h) Input
connection-long step passes st first a had left f h text line took long w pieces = record {
  text = text;
  took = took;
  over = over-still step passes st first a text line Input w pieces (w.is_open, refl, refl, refl) refl;
  reader = inr long;
  writer = w.quiet;
}

-- nothing was left to read
pub connection-end : {S G : Type 0} (step : DoorState S → DoorState S → Command → List ℕ → Done → Type 0) (passes : G → G → List Point → Type 0) (st : Setting) (first a : ConnectionState S G) (had mid left : Option (List ℕ)) (f h : ℕ) (text none : List ℕ) (line : SessionState)
    → Consumes had mid text → Consumes mid left none → none ≡ [] → IsAtEnd left → h ≡ f → (w : ConnectionUnderway step passes st first a text line) → length text ≤ 65536 * reads w.points
    → Connection step passes st first a (reading had left f h) EndOfInput
connection-end step passes st first a had mid left f h text none line took more is at_end same w pieces = record {
  text = text;
  took = subst (λ (y : List ℕ). Consumes had left y) (ap (λ (y : List ℕ). text ++ y) is ∙ append-nil text) (Consumes-trans had mid left text none took more);
  over = over-still step passes st first a text line EndOfInput w pieces (w.is_open, refl, refl, refl) refl;
  reader = (at_end, same);
  writer = w.quiet;
}

reads-by : (had left : Option (List ℕ)) (f h : ℕ) (text : List ℕ) (end : End) → h ≡ f → (end ≡ Closed) ⊎ ((end ≡ Output) ⊎ (end ≡ Lost)) → ReadsBy (reading had left f h) text end
reads-by had left f h text Closed same ends = same
reads-by had left f h text EndOfInput same ends = elim ends [ inl a ↦ cc | inr b ↦ elim b [ inl a ↦ cc | inr a ↦ cc ] ]
reads-by had left f h text Input same ends = elim ends [ inl a ↦ cc | inr b ↦ elim b [ inl a ↦ cc | inr a ↦ cc ] ]
reads-by had left f h text Output same ends = same
reads-by had left f h text Lost same ends = same
reads-by had left f h text OutOfMemory same ends = elim ends [ inl a ↦ cc | inr b ↦ elim b [ inl a ↦ cc | inr a ↦ cc ] ]

-- a piece ended it
pub connection-piece : {S G : Type 0} (step : DoorState S → DoorState S → Command → List ℕ → Done → Type 0) (passes : G → G → List Point → Type 0) (st : Setting) (first b : ConnectionState S G) (had mid left : Option (List ℕ)) (f h : ℕ) (text piece : List ℕ) (end : End)
    → Consumes had mid text → Consumes mid left piece → h ≡ f → (end ≡ Closed) ⊎ ((end ≡ Output) ⊎ (end ≡ Lost)) → ConnectionEnded step passes st first b (text ++ piece) end × FailsBy end first.failures b.failures
    → Connection step passes st first b (reading had left f h) end
connection-piece step passes st first b had mid left f h text piece end took more same ends by = record {
  text = text ++ piece;
  took = Consumes-trans had mid left text piece took more;
  over = by.0;
  reader = reads-by had left f h (text ++ piece) end same ends;
  writer = by.1;
}
