-- a piece goes on by one turn
use Rattle.std.proofs.Common.{◌==◌, length, arith, ◌≡◌, ℕ, Bool, true, false, List, [], ◌∷◌, ◌++◌, take, drop, refl, sym, ◌∙◌, ap, append_assoc, subst, inl, inr}
use Rattle.std.specs.Prelude.{◌||◌}
use Rattle.std.proofs.lemmas.Bool.{eqb-true}
use Rattle.std.proofs.lemmas.List.{take-append-drop, append-nil}
use Rattle.nbd_wire.specs.declared.command.Command.{Command}
use Rattle.nbd_session.specs.Sessions.{SessionState, SessionRepresents, is_closed}
use Rattle.nbd_session.specs.Parts.{Part, Gains, closes, closed}
use Rattle.nbd_session.proofs.PartLaws.{gains_both, gains_still}
use Rattle.nbd_connection.specs.declared.piece.Fate.{Fate}
use Rattle.nbd_connection.specs.declared.piece.PieceOutcome.{PieceOutcome}
use Rattle.nbd_connection.specs.declared.piece.PieceOutcome.TheVariants.{Open, Closed, OutputFailed, Lost}
use Rattle.nbd_connection.specs.Turning.{PartBy, PartsBy, LosesPart, OnePart, GrowsBy, EndsIn, TurnBy, TurnTaken, PieceTaken}

-- a piece in its midst, where the rest of its bytes isn't taken yet
pub record PieceUnderway {P : Type 0} (answers : P → P → Command → List ℕ → Fate → Type 0)
    (tells : P → P → List ℕ → Bool → Type 0) (a b : P) (old new : SessionState)
    (bytes rest : List ℕ) : Type 0 where
  pub used : List ℕ
  pub bytes_are : bytes ≡ used ++ rest
  pub added : List Part
  pub grows : GrowsBy old new used added
  pub still : closed added ≡ false
  pub runs : PartsBy answers tells a b added

pub closed_more : (more : List Part) (p : Part) → closed more ≡ false → closed (more ++ p ∷ []) ≡ closes p
closed_more [] p e = elim (closes p) as (λ b. (b || false) ≡ b) [ true ↦ refl | false ↦ refl ]
closed_more (q ∷ more) p e =
    let ih = λ (h : closed more ≡ false). closed_more more p h in
    (elim (closes q) as (λ b. (b || closed more) ≡ false → (b || closed (more ++ p ∷ [])) ≡ closes p) [ true ↦ (λ h. absurd (cc)) | false ↦ ih ]) e

grows_more : (old mid new : SessionState) (u v : List ℕ) (xs ys : List Part) → mid.export ≡ old.export → (is_closed old ≡ false → is_closed mid ≡ false)
    → GrowsBy old mid u xs → GrowsBy mid new v ys → GrowsBy old new (u ++ v) (xs ++ ys)
grows_more old mid new u v xs ys same stays one two = λ start text is_open h.
    let first = one start text is_open h in
    let next = two start (text ++ u) (stays is_open) first.1 in
    let more = subst (λ n. Gains start n (text ++ u) ((text ++ u) ++ v) ys) same next.0 in (
      subst (λ l. Gains start old.export text l (xs ++ ys)) (append_assoc text u v) (gains_both start old.export text (text ++ u) ((text ++ u) ++ v) xs ys first.0 more),
      subst (λ l. SessionRepresents start new l) (append_assoc text u v) next.1,
    )

-- the bytes so far, and those that a turn takes
split_on : (bytes used rest : List ℕ) (k : ℕ) → bytes ≡ used ++ rest → bytes ≡ (used ++ take k rest) ++ drop k rest
split_on bytes used rest k e =
    e ∙ (ap (λ l. used ++ l) (sym (take-append-drop k rest)) ∙ sym (append_assoc used (take k rest) (drop k rest)))

pub none_left : (rest : List ℕ) → true ≡ (length rest == 0) → rest ≡ []
none_left [] is = refl
none_left (x ∷ xs) is = let h = eqb-true _ _ (sym is) in absurd (omega arith)

module _ {P : Type 0} (answers : P → P → Command → List ℕ → Fate → Type 0) (tells : P → P → List ℕ → Bool → Type 0) where
  parts_more : (a m b : P) (xs : List Part) (part : Part) → PartsBy answers tells a m xs → PartBy answers tells m b part true → PartsBy answers tells a b (xs ++ part ∷ [])
  parts_more a m b [] part same one = (b, subst (λ p. PartBy answers tells p b part true) same one, refl)
  parts_more a m b (x ∷ xs) part runs one = (runs.0, runs.1, parts_more runs.0 m b xs part runs.2 one)

  pub start : (a : P) (old : SessionState) (bytes : List ℕ) → PieceUnderway answers tells a a old old bytes bytes
  start a old bytes = record {
    used = [];
    bytes_are = refl;
    added = [];
    grows = λ start text is_open h. (
      subst (λ l. Gains start old.export text l []) (sym (append-nil text)) (gains_still start old.export text),
      subst (λ l. SessionRepresents start old l) (sym (append-nil text)) h,
    );
    still = refl;
    runs = refl;
  }

  module _ (a m b : P) (old mid new : SessionState) (bytes rest : List ℕ) (r : ℕ × PieceOutcome) (same : mid.export ≡ old.export) (stays : is_closed old ≡ false → is_closed mid ≡ false)
      (u : PieceUnderway answers tells a m old mid bytes rest) where
    grows_by : (added : List Part) → GrowsBy mid new (take r.0 rest) added → GrowsBy old new (u.used ++ take r.0 rest) (u.added ++ added)
    grows_by added g = grows_more old mid new u.used (take r.0 rest) u.added added same stays u.grows g

    does_by : (t : TurnTaken answers tells m b mid new rest r) (progress : PieceOutcome) → r.1 ≡ progress → TurnBy answers tells m b t.added (drop r.0 rest) progress
    does_by t progress is = subst (λ p. TurnBy answers tells m b t.added (drop r.0 rest) p) is t.does

    waits : (added : List Part) → GrowsBy mid new (take r.0 rest) added → (added ≡ []) × (b ≡ m) × (drop r.0 rest ≡ []) → PieceUnderway answers tells a b old new bytes (drop r.0 rest)
    waits added grows does = record {
      used = u.used ++ take r.0 rest;
      bytes_are = split_on bytes u.used rest r.0 u.bytes_are;
      added = u.added;
      grows = subst (λ ps. GrowsBy old new (u.used ++ take r.0 rest) ps) (ap (λ l. u.added ++ l) does.0 ∙ append-nil u.added) (grows_by added grows);
      still = u.still;
      runs = subst (λ p. PartsBy answers tells a p u.added) (sym does.1) u.runs;
    }

    answered : (added : List Part) → GrowsBy mid new (take r.0 rest) added → OnePart answers tells m b added false → PieceUnderway answers tells a b old new bytes (drop r.0 rest)
    answered added grows does = record {
      used = u.used ++ take r.0 rest;
      bytes_are = split_on bytes u.used rest r.0 u.bytes_are;
      added = u.added ++ does.0 ∷ [];
      grows = subst (λ ps. GrowsBy old new (u.used ++ take r.0 rest) (u.added ++ ps)) does.1 (grows_by added grows);
      still = closed_more u.added does.0 u.still ∙ does.2;
      runs = parts_more a m b u.added does.0 u.runs does.3;
    }

    pub underway_more : TurnTaken answers tells m b mid new rest r → r.1 ≡ Open → PieceUnderway answers tells a b old new bytes (drop r.0 rest)
    underway_more t is = elim (does_by t Open is) [
      | inl none ↦ waits t.added t.grows none
      | inr one ↦ answered t.added t.grows one
    ]

    pub piece_closes : TurnTaken answers tells m b mid new rest r → r.1 ≡ Closed → PieceTaken answers tells a b old new bytes Closed
    piece_closes t is =
        let does = does_by t Closed is in record {
          reached = record { done = u.used ++ take r.0 rest; parts = u.added ++ does.0 ∷ []; peer = b; ahead = drop r.0 rest };
          bytes_are = split_on bytes u.used rest r.0 u.bytes_are;
          gains = λ start text is_open h. (subst (λ ps. GrowsBy old new (u.used ++ take r.0 rest) (u.added ++ ps)) does.1 (grows_by t.added t.grows) start text is_open h).0;
          runs = parts_more a m b u.added does.0 u.runs does.3;
          ends = (closed_more u.added does.0 u.still ∙ does.2, refl);
        }

    -- where the connection ends in a part that isn't answered whole
    ends_in : (added : List Part) (part : Part) → added ≡ part ∷ [] → GrowsBy mid new (take r.0 rest) added → (last : Part → Type 0) → last part
        → EndsIn old (record { done = u.used; parts = u.added; peer = m; ahead = rest }) last
    ends_in added part is grows last ends = record {
      unit = take r.0 rest;
      others = drop r.0 rest;
      part = part;
      ahead_is = sym (take-append-drop r.0 rest);
      gains = λ start text is_open h.
          let here = text ++ u.used in
          let one = (grows start here (stays is_open) (u.grows start text is_open h).1).0 in
          subst (λ ps. Gains start old.export here (here ++ take r.0 rest) ps) is (subst (λ n. Gains start n here (here ++ take r.0 rest) added) same one);
      ends = ends;
    }

    pub piece_fails : TurnTaken answers tells m b mid new rest r → r.1 ≡ OutputFailed → PieceTaken answers tells a b old new bytes OutputFailed
    piece_fails t is =
        let does = does_by t OutputFailed is in record {
          reached = record { done = u.used; parts = u.added; peer = m; ahead = rest };
          bytes_are = u.bytes_are;
          gains = λ start text is_open h. (u.grows start text is_open h).0;
          runs = u.runs;
          ends = (u.still, ends_in t.added does.0 does.1 t.grows (λ part. PartBy answers tells m b part false) does.2);
        }

    pub piece_loses : TurnTaken answers tells m b mid new rest r → r.1 ≡ Lost → PieceTaken answers tells a b old new bytes Lost
    piece_loses t is =
        let does = does_by t Lost is in record {
          reached = record { done = u.used; parts = u.added; peer = m; ahead = rest };
          bytes_are = u.bytes_are;
          gains = λ start text is_open h. (u.grows start text is_open h).0;
          runs = u.runs;
          ends = (u.still, ends_in t.added does.0 does.1 t.grows (λ part. LosesPart answers m b part) does.2);
        }

  -- the end of a piece that is taken whole
  pub piece_stays : (a b : P) (old new : SessionState) (bytes rest : List ℕ) → PieceUnderway answers tells a b old new bytes rest → rest ≡ [] → PieceTaken answers tells a b old new bytes Open
  piece_stays a b old new bytes rest u all = record {
    reached = record { done = u.used; parts = u.added; peer = b; ahead = rest };
    bytes_are = u.bytes_are;
    gains = λ start text is_open h. (u.grows start text is_open h).0;
    runs = u.runs;
    ends = (u.still, refl, all, λ start text is_open h. (u.grows start text is_open h).1);
  }
