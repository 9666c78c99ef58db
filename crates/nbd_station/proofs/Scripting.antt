-- what a record of a script does
use Rattle.std.proofs.Common.{arith, append_assoc, ◌≡◌, ◌⊎◌, inl, inr, ◌+◌, length-append, ℕ, ◌<◌, ◌≤◌, List, [], ◌∷◌, ◌++◌, length, Option, None, Some, refl, sym, ◌∙◌, ap, subst}
use Rattle.std.specs.Borrow.{Bor}
use Rattle.std.specs.Int.{to_be_bytes, w32}
use Rattle.std.specs.Io.KnownBytes.{Consumes, IsAtEnd}
use Rattle.nbd_station.specs.Records.{NO_ONE}
use Rattle.nbd_station.specs.declared.event.Event.{Event}
use Rattle.nbd_station.specs.declared.event.Event.TheVariants.{Piece}
use Rattle.nbd_station.specs.declared.script.Form.{Form}
use Rattle.nbd_station.specs.declared.script.Form.TheVariants.{Piece as PieceForm, Arm as ArmForm}
use Rattle.nbd_station.specs.declared.event.ScriptError.{ScriptError}
use Rattle.nbd_station.specs.declared.event.ScriptError.TheVariants.{Input, BadRecord, Output as OutputFailed}
use Rattle.nbd_station.specs.StationState.{StationState}
use Rattle.nbd_station.specs.Running.{Runs, Ends}
use Rattle.nbd_station.specs.Script.{Item, Happens, Arms, IsAllowed, AreAllowed, NoRecord, IsBad, FailsToReadAll, FailsToWrite, ScriptSays, line_of, script_of, events_of, events_in, script_state}
use Rattle.nbd_station.specs.ScriptSteps.{ArmsNothing, IsForm, ItemMoves, ItemHangs, FormDoes, PieceDoes, ArmDoes, ReadsForm, FailsToRead, record_head}
use Rattle.nbd_station.proofs.Ending.{runs_more}
use Rattle.nbd_station.proofs.Filling.{consumes_twice}
use Rattle.nbd_station.proofs.Refusing.{few_behind, few_bytes, short_body, no_arming, head_long}
use Rattle.std.specs.Prelude.{Result, Ok, Err}
use Rattle.std.proofs.lemmas.List.{append-nil}
use Rattle.std.proofs.KnownBytes.{Appends-trans}

pub consumes_none : (r : Option (List ℕ)) → Consumes r r []
consumes_none None = tt
consumes_none (Some s) = refl

abbrev pub Done : Form → Option (List ℕ) → Option (List ℕ) → (Item → Type 0) → Type 0
Done form r r' P = (item : Item) × (rest : List ℕ) × IsAllowed item × (line_of item ≡ record_head form ++ rest) × Consumes r r' rest × P item

-- an event of which the head is all
pub alone : (form form' : Form) (e : Event) (r : Option (List ℕ)) (P : Item → Type 0) → form ≡ form' → (IsForm form' → IsAllowed (Happens e)) → IsForm form → line_of (Happens e) ≡ record_head form' ++ [] → P (Happens e) → Done form r r P
alone form form' e r P same allowed ok is p =
    subst (λ f. Done f r r P) (sym same) (Happens e, [], allowed (subst IsForm same ok), is, consumes_none r, p)

pub piece_done : (form : Form) (who len : ℕ) (bor : Bor (List ℕ)) (r r' : Option (List ℕ)) (P : Item → Type 0) → form ≡ PieceForm who len → IsForm form → length bor.now ≡ len → Consumes r r' bor.now → P (Happens (Piece who bor)) → Done form r r' P
piece_done form who len bor r r' P same ok long taken p =
    let allowed = subst IsForm same ok in
    subst (λ f. Done f r r' P) (sym same) (
      Happens (Piece who bor),
      bor.now,
      (allowed.0, subst (λ k. k ≤ 65536) (sym long) allowed.1),
      ap (λ k. (80 ∷ who ∷ []) ++ to_be_bytes w32 k ++ bor.now) long,
      taken,
      p,
    )

pub arm_done : (form : Form) (count kind mask : ℕ) (bytes : List ℕ) (r r' : Option (List ℕ)) (P : Item → Type 0) → form ≡ ArmForm → kind < 2 → to_be_bytes w32 count ++ kind ∷ mask ∷ [] ≡ bytes → length bytes ≡ 6 → Consumes r r' bytes → P (Arms count kind mask) → Done form r r' P
arm_done form count kind mask bytes r r' P same ok is six taken p =
    subst (λ f. Done f r r' P) (sym same)
    (Arms count kind mask, bytes, ok, ap (λ (l : List ℕ). (67 ∷ NO_ONE ∷ []) ++ to_be_bytes w32 (length l) ++ l) is ∙ ap (λ k. (67 ∷ NO_ONE ∷ []) ++ to_be_bytes w32 k ++ bytes) six, taken, p)

-- ---- a script goes on by one record

pub script_more : (items : List Item) (item : Item) → script_of (items ++ item ∷ []) ≡ script_of items ++ line_of item
script_more [] item = append-nil (line_of item)
script_more (i ∷ items) item = ap (λ l. line_of i ++ l) (script_more items item) ∙ sym (append_assoc (line_of i) (script_of items) (line_of item))

pub events_more : (items : List Item) (item : Item) → events_of (items ++ item ∷ []) ≡ events_of items ++ events_in item
events_more [] item = append-nil (events_in item)
events_more (i ∷ items) item = ap (λ l. events_in i ++ l) (events_more items item) ∙ sym (append_assoc (events_in i) (events_of items) (events_in item))

pub allowed_more : (items : List Item) (item : Item) → AreAllowed items → IsAllowed item → AreAllowed (items ++ item ∷ [])
allowed_more [] item h k = (k, tt)
allowed_more (i ∷ items) item h k = (h.0, allowed_more items item h.1 k)

runs_item : (old mid new : StationState) (es : List Event) (item : Item) (was is now : Option (List ℕ)) → old.disk.slows ≤ mid.disk.slows → mid.disk.slows ≤ new.disk.slows
    → Runs old mid es was is → ItemMoves item mid new is now → Runs old new (es ++ events_in item) was now
runs_item old mid new es (Happens e) was is now a b run m = runs_more old mid new es e was is now a b run m
runs_item old mid new es (Arms count kind mask) was is now a b run m =
    subst (λ l. Runs old new l was now) (sym (append-nil es)) (subst (λ o. Runs old new es was o) (sym m.1) (subst (λ v. Runs old v es was is) (sym m.0) run))

ends_item : (old mid new : StationState) (es : List Event) (item : Item) (was is now : Option (List ℕ)) → old.disk.slows ≤ mid.disk.slows → mid.disk.slows ≤ new.disk.slows
    → Runs old mid es was is → ItemHangs item mid new is now → Ends old new (es ++ events_in item) was now
ends_item old mid new es (Arms count kind mask) was is now a b run m = absurd m
ends_item old mid new es (Happens e) was is now a b run hangs = λ same w s.
    let one : mid.disk.slows ≡ old.disk.slows = omega arith in
    let two : new.disk.slows ≡ mid.disk.slows = omega arith in
    let r = run one w s in
    let m = hangs two r.0 r.4 in (
      m.0,
      r.1 ++ m.1,
      Appends-trans was is now r.1 m.1 r.2 m.2,
      record {
        before = es;
        event = e;
        later = [];
        whole = r.1;
        part = m.1;
        between = mid.disk.cuts;
        mid = r.0;
        events_are = refl;
        out_is = refl;
        transcript = r.3;
        breaks = m.3;
      },
      m.4,
    )

-- the records so far
abbrev pub SoMany : StationState → StationState → Option (List ℕ) → Option (List ℕ) → Option (List ℕ) → Option (List ℕ) → Type 0
SoMany old now r was r' is = (items : List Item) × AreAllowed items × Consumes r r' (script_of items) × Runs old now (events_of items) was is

-- the script ends behind them
pub lines_done : (old now : StationState) (r was r' r'' is : Option (List ℕ)) → SoMany old now r was r' is → ReadsForm r' (Ok None) r'' → ScriptSays old now r was (Ok tt) r'' is
lines_done old now r was r' r'' is i end =
    (i.0, i.1, subst (λ l. Consumes r r'' l) (append-nil (script_of i.0)) (consumes_twice r r' r'' (script_of i.0) [] i.2 end.0), end.1, i.3)

-- the script has no end: all that was read are these records
pub lines_endless : (old now : StationState) (r was r' is : Option (List ℕ)) → SoMany old now r was r' is → ScriptSays old now r was (Err Input) r' is
lines_endless old now r was r' is i =
    (i.0, [], i.1, subst (λ l. Consumes r r' l) (sym (append-nil (script_of i.0))) i.2, i.3, few_bytes [] (omega arith))

-- so many records, and as many bytes at least
abbrev pub AreRead : ℕ → Option (List ℕ) → Option (List ℕ) → Type 0
AreRead n r r' = (bytes : List ℕ) × Consumes r r' bytes × (n ≤ length bytes)

pub read_more : (n : ℕ) (r r' r'' r3 : Option (List ℕ)) (form : Form) (P : Item → Type 0) → Consumes r' r'' (record_head form) → AreRead n r r' → Done form r'' r3 P → AreRead (n + 1) r r3
read_more n r r' r'' r3 form P head many d = (
  many.0 ++ (record_head form ++ d.1),
  consumes_twice r r' r3 many.0 (record_head form ++ d.1) many.1 (consumes_twice r' r'' r3 (record_head form) d.1 head d.4),
  omega (arith, many.2, length-append many.0 (record_head form ++ d.1), length-append (record_head form) d.1, head_long form),
)

pub read_so_many : (n : ℕ) (r r' : Option (List ℕ)) → AreRead n r r' → (bytes : List ℕ) → r ≡ Some bytes → n ≤ length bytes
read_so_many n r r' many bytes e = known n bytes r' (subst (λ o. AreRead n o r') e many)
  where
    known : (n : ℕ) (bytes : List ℕ) (r' : Option (List ℕ)) → AreRead n (Some bytes) r' → n ≤ length bytes
    known n bytes None m = absurd m.1
    known n bytes (Some left) m = omega (arith, m.2, ap length m.1, length-append m.0 left)

-- ---- the counts of failures

pub reads_all : (r : Option (List ℕ)) (a b c : ℕ) (e : ScriptError) → b ≡ a → FailsToRead {T = Unit {0}} b (Err e) c → FailsToReadAll {T = Unit {0}} r a (Err e) c
reads_all r a b c Input same f = inl (omega (arith, same, f))
reads_all r a b c BadRecord same f = f ∙ same
reads_all r a b c OutputFailed same f = f ∙ same

pub writes_all : (a b c : ℕ) (e : ScriptError) → b ≡ a → FailsToWrite {T = Unit {0}} b (Err e) c → FailsToWrite {T = Unit {0}} a (Err e) c
writes_all a b c Input same f = f ∙ same
writes_all a b c BadRecord same f = f ∙ same
writes_all a b c OutputFailed same f = omega (arith, same, f)

pub reading_writes : (r r' : Option (List ℕ)) (a b : ℕ) (e : ScriptError) → ReadsForm r (Err e) r' → b ≡ a → FailsToWrite {T = Unit {0}} a (Err e) b
reading_writes r r' a b Input reads same = same
reading_writes r r' a b BadRecord reads same = same
reading_writes r r' a b OutputFailed reads same = absurd reads

pub reading_reads : (r r' input : Option (List ℕ)) (a b c : ℕ) (e : ScriptError) → ReadsForm r (Err e) r' → b ≡ a → FailsToRead {T = Option Form} b (Err e) c → FailsToReadAll {T = Unit {0}} input a (Err e) c
reading_reads r r' input a b c Input reads same f = inl (omega (arith, same, f))
reading_reads r r' input a b c BadRecord reads same f = f ∙ same
reading_reads r r' input a b c OutputFailed reads same f = absurd reads

module _ (old mid new : StationState) (r r' r'' r3 was is now : Option (List ℕ)) (form : Form) (a : old.disk.slows ≤ mid.disk.slows) (b : mid.disk.slows ≤ new.disk.slows)
    (head : Consumes r' r'' (record_head form)) where
  pub lines_more : SoMany old mid r was r' is → Done form r'' r3 (λ i. ItemMoves i mid new is now) → SoMany old new r was r3 now
  lines_more i d =
      let items = i.0 in
      let item = d.0 in
      let both : Consumes r' r3 (line_of item) = subst (λ l. Consumes r' r3 l) (sym d.3) (consumes_twice r' r'' r3 (record_head form) d.1 head d.4) in (
        items ++ item ∷ [],
        allowed_more items item i.1 d.2,
        subst (λ l. Consumes r r3 l) (sym (script_more items item)) (consumes_twice r r' r3 (script_of items) (line_of item) i.2 both),
        subst (λ l. Runs old new l was now) (sym (events_more items item)) (runs_item old mid new (events_of items) item was is now a b i.3 d.5),
      )

  pub lines_end : SoMany old mid r was r' is → Done form r'' r3 (λ i. ItemHangs i mid new is now)
      → (items : List Item) × AreAllowed items × Consumes r r3 (script_of items) × Ends old new (events_of items) was now
  lines_end i d =
      let items = i.0 in
      let item = d.0 in
      let both : Consumes r' r3 (line_of item) = subst (λ l. Consumes r' r3 l) (sym d.3) (consumes_twice r' r'' r3 (record_head form) d.1 head d.4) in (
        items ++ item ∷ [],
        allowed_more items item i.1 d.2,
        subst (λ l. Consumes r r3 l) (sym (script_more items item)) (consumes_twice r r' r3 (script_of items) (line_of item) i.2 both),
        subst (λ l. Ends old new l was now) (sym (events_more items item)) (ends_item old mid new (events_of items) item was is now a b i.3 d.5),
      )

  -- a record of which the rest does not come, or is not as it should be: nothing is done
  pub lines_stop : (P : List ℕ → Type 0) → SoMany old mid r was r' is → (taken : List ℕ) × Consumes r'' r3 taken × (new ≡ mid) × (now ≡ is) × P (record_head form ++ taken)
      → (items : List Item) × (rest : List ℕ) × AreAllowed items × Consumes r r3 (script_of items ++ rest) × Runs old new (events_of items) was now × P rest
  lines_stop P i d =
      let items = i.0 in (
        items,
        record_head form ++ d.0,
        i.1,
        consumes_twice r r' r3 (script_of items) (record_head form ++ d.0) i.2 (consumes_twice r' r'' r3 (record_head form) d.0 head d.1),
        subst (λ o. Runs old new (events_of items) was o) (sym d.3) (subst (λ v. Runs old v (events_of items) was is) (sym d.2) i.3),
        d.4,
      )

  pub lines_err : (e : ScriptError) → SoMany old mid r was r' is → FormDoes form mid new r'' is (Err e) r3 now → ScriptSays old new r was (Err e) r3 now
  lines_err Input i d = lines_stop NoRecord i d
  lines_err BadRecord i d = lines_stop (λ l. IsBad l r3) i d
  lines_err OutputFailed i d = lines_end i d

-- ---- the records that have bytes

pub piece_form : (form : Form) (who len len' : ℕ) (old new : StationState) (r was : Option (List ℕ)) (res : Result (Unit {0}) ScriptError) (r' is : Option (List ℕ))
    → form ≡ PieceForm who len → IsForm form → len' ≡ len → PieceDoes who len' (script_state old r was) res (script_state new r' is) → FormDoes form old new r was res r' is
piece_form form who len len' old new r was (Ok v) r' is same ok e d = piece_done form who len d.0 r r' (λ i. ItemMoves i old new was is) same ok (d.1 ∙ e) d.2 d.3
piece_form form who len len' old new r was (Err Input) r' is same ok e d =
    let ok' = subst IsForm same ok in
    (d.0, d.1, d.2, d.3, subst (λ f. NoRecord (record_head f ++ d.0)) (sym same) (few_behind (PieceForm who len) d.0 ok' (subst (λ k. length d.0 < k) e d.4)))
piece_form form who len len' old new r was (Err BadRecord) r' is same ok e d =
    let ok' = subst IsForm same ok in
    (d.0, d.1, d.2, d.3, subst (λ f. IsBad (record_head f ++ d.0) r') (sym same) (short_body r' (PieceForm who len) d.0 ok' (subst (λ k. length d.0 < k) e d.4) d.5))
piece_form form who len len' old new r was (Err OutputFailed) r' is same ok e d = piece_done form who len d.0 r r' (λ i. ItemHangs i old new was is) same ok (d.1 ∙ e) d.2 d.3

bad_arming : (r : Option (List ℕ)) (taken : List ℕ) → ((length taken < 6) × IsAtEnd r) ⊎ ((length taken ≡ 6) × ArmsNothing taken) → IsBad (record_head ArmForm ++ taken) r
bad_arming r taken (inl short) = short_body r ArmForm taken tt short.0 short.1
bad_arming r taken (inr none) = no_arming r taken none.0 none.1

pub arm_form : (form : Form) (old new : StationState) (r was : Option (List ℕ)) (res : Result (Unit {0}) ScriptError) (r' : Option (List ℕ))
    → form ≡ ArmForm → new ≡ old → ArmDoes r res r' → FormDoes form old new r was res r' was
arm_form form old new r was (Ok v) r' same still d =
    arm_done form d.0 d.1 d.2 (to_be_bytes w32 d.0 ++ d.1 ∷ d.2 ∷ []) r r' (λ i. ItemMoves i old new was was) same d.3 refl refl d.4 (still, refl)
arm_form form old new r was (Err Input) r' same still d =
    (d.0, d.1, still, refl, subst (λ f. NoRecord (record_head f ++ d.0)) (sym same) (few_behind ArmForm d.0 tt d.2))
arm_form form old new r was (Err BadRecord) r' same still d =
    let bad : IsBad (record_head ArmForm ++ d.0) r' = bad_arming r' d.0 d.2 in
    (d.0, d.1, still, refl, subst (λ f. IsBad (record_head f ++ d.0) r') (sym same) bad)
arm_form form old new r was (Err OutputFailed) r' same still d = absurd d
