-- A command keeps the history. Source: own.
use Rattle.std.proofs.Common.{◌≡◌, ◌⊎◌, ℕ, List, [], ◌∷◌, ◌++◌, length, Bool, true, false, refl, sym, ap, ◌∙◌, subst, inl, inr, Option, Some, None, if◌then◌else◌, take, get_or, ◌+◌, ◌<◌}
use Rattle.std.proofs.lemmas.List.{take_more}
use mathlib.Core.List.{IsPrefix}
use Rattle.std.specs.Prelude.{Result, Ok, Err}
use Rattle.block_device.specs.declared.disk.DiskError.{DiskError}
use Rattle.block_device.specs.declared.disk.DiskError.TheVariants.{Cut, Slow}
use Rattle.block_device.specs.Contents.{Outcome}
use Rattle.block_device.specs.Facts.{Facts}
use Rattle.nbd_history.specs.Notes.{Sight, entries_by, first_noted}
use Rattle.nbd_wire.specs.declared.command.Command.{Command}
use Rattle.nbd_wire.specs.declared.export.Export.{Export}
use Rattle.nbd_wire.specs.Commands.{judge_of}
use Rattle.nbd_wire.specs.Lent.{lent_len, payload_in, payload_in_of}
use Rattle.nbd_transmission.specs.Apply.{changed_by, changed_kind}
use Rattle.nbd_share.specs.declared.recorder.Row.{Row}
use Rattle.nbd_share.specs.declared.recorder.Interrupted.{Interrupted}
use Rattle.nbd_share.specs.declared.shared.Done.{Done}
use Rattle.nbd_share.specs.declared.shared.Done.TheVariants.{Replied, Lost}
use Rattle.nbd_share.specs.Doing.{Executes, IfReplied, NotesLost, OnLost, RepliesToCommand, Tidied}
use Rattle.nbd_share.specs.History.{interrupted_of, replay, row_of, rows_with, IsLegal}
use Rattle.nbd_share.specs.PassState.{PassState}
use Rattle.nbd_share.specs.State.{IsKept, Served, Reply}
use Rattle.nbd_share.specs.Locking.{IsCutIn, IsHistoryOf, Adds, AddsRow, AreMet, Start, Chronicled, IsChronicled, connection_of}
use Rattle.nbd_share.proofs.Kept.{changed-payload, has_power, kept-ok, kept-slow, not_both, payload-length}

as_kept : (n : Export) (f : Facts) (base : List ℕ) (rows : List Row) (int : Option Interrupted) → IsHistoryOf n f base rows int → f.cut ≡ false → IsKept n f base rows None
as_kept n f base rows int told no_cut = record {
  legal = told.legal;
  replayed = told.replayed;
  cut = λ _ e. absurd (not_both f.cut e no_cut);
  alone = λ e. absurd (not_both f.cut e no_cut);
  failed = told.failed no_cut;
  whole = λ _. refl;
}

told_replied : (keeps : Bool) (n : Export) (base : List ℕ) (old new : Served) (pass pass' : PassState) (c : Command) (bytes : List ℕ) (a : Reply) (rows rows' : List Row) (int : Option Interrupted) (v w : Sight Row)
    → IsHistoryOf n old.disk base rows int → judge_of c n ≡ None → length bytes ≡ lent_len c → new.disk.sound ≡ old.disk.sound → RepliesToCommand keeps old new pass pass' c bytes a
    → ((a.error ≡ 12 → ⊥) → Adds rows rows' v w (row_of v.by c a.error a.bytes)) → (a.error ≡ 12 → (rows' ≡ rows) × (w ≡ v))
    → (a.error ≡ 0) ⊎ ((a.error ≡ 5) ⊎ (a.error ≡ 12)) → IsHistoryOf n new.disk base rows' int
told_replied keeps n base old new pass pass' c bytes a rows rows' int v w told accepted lent sound replies heard memory (inl zero) =
    let ran = replies.ran zero in
    let k = kept-ok n old.disk new.disk base rows None c v.by bytes a.bytes (as_kept n old.disk base rows int told ran.no_cut.0) accepted replies.holds.length_is lent replies.holds.bytes_are
    sound ran.contents ran.reply ran.no_cut.0 ran.no_cut.1 ran.no_slow.0 ran.no_slow.1 in
    let grown : rows' ≡ rows ++ row_of v.by c 0 a.bytes ∷ [] = (heard (λ h. cc (zero, h))).grown ∙ ap (λ e. rows ++ row_of v.by c e a.bytes ∷ []) zero in
    subst (λ rs. IsHistoryOf n new.disk base rs int) (sym grown)
    (record { legal = k.legal; replayed = k.replayed; cut = λ _ e. absurd (not_both new.disk.cut e ran.no_cut.1); failed = λ _. k.failed; whole = λ _. told.whole ran.no_cut.0 })
told_replied keeps n base old new pass pass' c bytes a rows rows' int v w told accepted lent sound replies heard memory (inr (inl slow)) =
    let met = replies.slow slow in
    let k = kept-slow n old.disk new.disk base rows None c v.by bytes a.bytes (as_kept n old.disk base rows int told met.no_cut.0) accepted replies.holds.length_is lent
    sound met.touches met.no_cut.0 met.no_cut.1 met.latched in
    let grown : rows' ≡ rows ++ row_of v.by c 5 a.bytes ∷ [] = (heard (λ h. cc (slow, h))).grown ∙ ap (λ e. rows ++ row_of v.by c e a.bytes ∷ []) slow in
    subst (λ rs. IsHistoryOf n new.disk base rs int) (sym grown)
    (record { legal = k.legal; replayed = k.replayed; cut = λ _ e. absurd (not_both new.disk.cut e met.no_cut.1); failed = λ _. k.failed; whole = λ _. told.whole met.no_cut.0 })
told_replied keeps n base old new pass pass' c bytes a rows rows' int v w told accepted lent sound replies heard memory (inr (inr none)) =
    subst (λ f. IsHistoryOf n f base rows' int) (ap (λ (s : Served). s.disk) (sym (replies.memory none).0)) (subst (λ rs. IsHistoryOf n old.disk base rs int) (sym (memory none).0) told)

-- of a server that was lost, or that was not, this is noted
noted_lost : (lost b : Bool) (int int' : Option Interrupted) (c : Command) (bytes : List ℕ) → lost ≡ b → NotesLost lost int int' c bytes Lost → NotesLost b int int' c bytes Lost
noted_lost lost b int int' c bytes is notes = subst (λ x. NotesLost x int int' c bytes Lost) is notes

-- a lost command, where a Cut was latched and where none was
told_lost : (keeps : Bool) (n : Export) (base : List ℕ) (old new : Served) (pass pass' : PassState) (c : Command) (bytes : List ℕ) (rows : List Row) (int int' : Option Interrupted) (b : Bool)
    → old.disk.cut ≡ b → IsHistoryOf n old.disk base rows int → (old.disk.cut ≡ true → old.lost ≡ true) → judge_of c n ≡ None → length bytes ≡ lent_len c
    → Executes keeps old new pass pass' c bytes Lost → NotesLost old.lost int int' c bytes Lost → IsHistoryOf n new.disk base rows int'
told_lost keeps n base old new pass pass' c bytes rows int int' true stood told latched accepted lent x notes =
    subst (IsHistoryOf n new.disk base rows) (sym (noted_lost old.lost true int int' c bytes (latched stood) notes))
    (subst (λ (s : Served). IsHistoryOf n s.disk base rows int) (sym (x.stays_lost (latched stood)).1) told)
told_lost keeps n base old new pass pass' c bytes rows int int' false stood told latched accepted lent x notes =
    let l = x.loses in
    let alive : old.lost ≡ false = has_power old.lost old.disk.cut (λ h. ap (λ (s : Served). s.disk.cut) (sym (x.stays_lost h).1) ∙ l.latched) stood in
    subst (IsHistoryOf n new.disk base rows) (sym (noted_lost old.lost false int int' c bytes alive notes)) (record {
      legal = λ s. told.legal (sym x.sound ∙ s);
      replayed = λ _ e _. absurd (not_both new.disk.cut l.latched e);
      cut = λ s _.
          let here : old.disk.contents ≡ replay base rows = told.replayed (sym x.sound ∙ s) stood (l.quiet stood) in
          let meant : changed_by old.disk.contents c bytes ≡ changed_by (replay base rows) c (payload_in c bytes) =
          sym (changed-payload c.kind old.disk.contents c bytes bytes (λ _. refl)) ∙ ap (λ (d : List ℕ). changed_kind c.kind d c (payload_in_of c.kind bytes)) here in
          record {
            accepted = accepted;
            payload = payload-length c.kind c bytes bytes refl lent;
            left = subst (λ (d : List ℕ). Outcome d (changed_by (replay base rows) c (payload_in c bytes)) new.disk.contents) here
                (subst (λ (d : List ℕ). Outcome old.disk.contents d new.disk.contents) meant (l.left (sym x.sound ∙ s)));
          };
      failed = λ e. absurd (not_both new.disk.cut l.latched e);
      whole = λ e. absurd (not_both new.disk.cut l.latched e);
    })

pub told_more : (keeps : Bool) (n : Export) (base : List ℕ) (old new : Served) (pass pass' : PassState) (c : Command) (bytes : List ℕ) (done : Done) (rows rows' : List Row) (int int' : Option Interrupted) (v w : Sight Row)
    → IsHistoryOf n old.disk base rows int → (old.disk.cut ≡ true → old.lost ≡ true) → judge_of c n ≡ None → length bytes ≡ lent_len c → Executes keeps old new pass pass' c bytes done
    → AddsRow rows rows' v w c done → NotesLost old.lost int int' c bytes done → IsHistoryOf n new.disk base rows' int'
told_more keeps n base old new pass pass' c bytes (Replied a) rows rows' int int' v w told latched accepted lent x t notes =
    subst (IsHistoryOf n new.disk base rows') (sym notes) (told_replied keeps n base old new pass pass' c bytes a rows rows' int v w told accepted lent x.sound x.replied t.row t.memory x.replied.holds.error_is)
told_more keeps n base old new pass pass' c bytes Lost rows rows' int int' v w told latched accepted lent x t notes =
    subst (λ rs. IsHistoryOf n new.disk base rs int') (sym t.lost.0) (told_lost keeps n base old new pass pass' c bytes rows int int' old.disk.cut refl told latched accepted lent x notes)

chosen : (b : Bool) (xs ys : List Interrupted) → first_noted (if b then xs else ys) ≡ (if b then first_noted xs else first_noted ys)
chosen true xs ys = refl
chosen false xs ys = refl

-- what is noted of a command, by what became of it
pub notes_so : (lost was : Bool) (int int' said : List Interrupted) (c : Command) (bytes : List ℕ) (done : Done) → was ≡ lost → said ≡ interrupted_of c bytes ∷ []
    → IfReplied done (λ _. int' ≡ int) → OnLost done (int' ≡ (if was then int else said)) → NotesLost lost (first_noted int) (first_noted int') c bytes done
notes_so lost was int int' said c bytes (Replied a) same is replied on_lost = ap first_noted replied
notes_so lost was int int' said c bytes Lost same is replied on_lost =
    ap first_noted on_lost ∙ (chosen was int said ∙ (ap (λ x. if was then first_noted int else first_noted x) is ∙ ap (λ b. if b then first_noted int else Some (interrupted_of c bytes)) same))

-- after a command a Cut is latched only where commands are lost
pub latched_more : (keeps : Bool) (old new : Served) (pass pass' : PassState) (c : Command) (bytes : List ℕ) (done : Done)
    → (old.disk.cut ≡ true → old.lost ≡ true) → Executes keeps old new pass pass' c bytes done → new.disk.cut ≡ true → new.lost ≡ true
latched_more keeps old new pass pass' c bytes (Replied a) latched x cut = elim x.replied.holds.error_is [
  | inl zero ↦ absurd (not_both new.disk.cut cut (x.replied.ran zero).no_cut.1)
  | inr other ↦ elim other [
    | inl slow ↦ absurd (not_both new.disk.cut cut (x.replied.slow slow).no_cut.1)
    | inr none ↦ ap (λ (s : Served). s.lost) (x.replied.memory none).0 ∙ latched (sym (ap (λ (s : Served). s.disk.cut) (x.replied.memory none).0) ∙ cut)
  ]
]
latched_more keeps old new pass pass' c bytes Lost latched x cut = x.loses.lost

-- a row that is kept is the one that is added to the history
recorded_row : (old new rows rows' : List Row) (row row' : Row) → old ≡ rows → row ≡ row' → new ≡ rows_with true old row → rows' ≡ rows ++ row' ∷ [] → new ≡ rows'
recorded_row old new rows rows' row row' same these kept grown = kept ∙ ap (λ (l : List Row). l ++ row ∷ []) same ∙ ap (λ (r : Row). rows ++ r ∷ []) these ∙ sym grown

recorded_reply : (old new : Served) (pass pass' : PassState) (c : Command) (bytes : List ℕ) (a : Reply) (rows rows' : List Row) (v w : Sight Row)
    → old.rows ≡ rows → v.by ≡ pass.connection → RepliesToCommand true old new pass pass' c bytes a
    → ((a.error ≡ 12 → ⊥) → Adds rows rows' v w (row_of v.by c a.error a.bytes)) → (a.error ≡ 12 → ⊥) → new.rows ≡ rows'
recorded_reply old new pass pass' c bytes a rows rows' v w same by replies heard other =
    recorded_row old.rows new.rows rows rows' (row_of pass.connection c a.error a.bytes) (row_of v.by c a.error a.bytes) same
    (ap (λ (k : ℕ). row_of k c a.error a.bytes) (sym by)) (replies.row other) (heard other).grown

pub recorded_more : (old new : Served) (pass pass' : PassState) (c : Command) (bytes : List ℕ) (done : Done) (rows rows' : List Row) (v w : Sight Row)
    → old.rows ≡ rows → v.by ≡ pass.connection → Executes true old new pass pass' c bytes done → AddsRow rows rows' v w c done → new.rows ≡ rows'
recorded_more old new pass pass' c bytes (Replied a) rows rows' v w same by x t = elim x.replied.holds.error_is [
  | inl zero ↦ recorded_reply old new pass pass' c bytes a rows rows' v w same by x.replied t.row (λ h. cc (zero, h))
  | inr other ↦ elim other [
    | inl slow ↦ recorded_reply old new pass pass' c bytes a rows rows' v w same by x.replied t.row (λ h. cc (slow, h))
    | inr none ↦ ap (λ (s : Served). s.rows) (x.replied.memory none).0 ∙ same ∙ sym (t.memory none).0
  ]
]
recorded_more old new pass pass' c bytes Lost rows rows' v w same by x t = x.loses.rows ∙ same ∙ sym t.lost.0

-- a Cut in tidying, where one was latched and where none was
cut_tidied : (n : Export) (base : List ℕ) (old new : Served) (rows : List Row) (int : Option Interrupted) (b : Bool) → old.disk.cut ≡ b → IsHistoryOf n old.disk base rows int → Tidied old new (Err Cut)
    → old.disk.sound ≡ true → IsCutIn n int (replay base rows) new.disk.contents
cut_tidied n base old new rows int true stood told t s = subst (IsCutIn n int (replay base rows)) (sym (t.contents s)) (told.cut s stood)
cut_tidied n base old new rows int false stood told t s =
    subst (λ i. IsCutIn n i (replay base rows) new.disk.contents) (sym (told.whole stood))
    (record { accepted = tt; payload = tt; left = t.contents s ∙ told.replayed s stood (t.quiet refl stood) })

pub told_tidied : (n : Export) (base : List ℕ) (old new : Served) (result : Result Bool DiskError) (rows : List Row) (int : Option Interrupted) → IsHistoryOf n old.disk base rows int → Tidied old new result
    → IsHistoryOf n new.disk base rows int
told_tidied n base old new (Ok done) rows int told t = record {
  legal = λ s. told.legal (sym t.sound ∙ s);
  replayed = λ s _ _. t.contents (sym t.sound ∙ s) ∙ told.replayed (sym t.sound ∙ s) t.ok.0.0 t.ok.0.1;
  cut = λ _ e. absurd (not_both new.disk.cut e t.ok.1.0);
  failed = λ _ h. absurd (not_both old.disk.slow (told.failed t.ok.0.0 h) t.ok.0.1);
  whole = λ _. told.whole t.ok.0.0;
}
told_tidied n base old new (Err Cut) rows int told t = record {
  legal = λ s. told.legal (sym t.sound ∙ s);
  replayed = λ _ e _. absurd (not_both new.disk.cut (t.cut refl).1 e);
  cut = λ s _. cut_tidied n base old new rows int old.disk.cut refl told t (sym t.sound ∙ s);
  failed = λ e. absurd (not_both new.disk.cut (t.cut refl).1 e);
  whole = λ e. absurd (not_both new.disk.cut (t.cut refl).1 e);
}
told_tidied n base old new (Err Slow) rows int told t = record {
  legal = λ s. told.legal (sym t.sound ∙ s);
  replayed = λ _ _ e. absurd (not_both new.disk.slow (t.slow refl).1 e);
  cut = λ _ e. absurd (not_both new.disk.cut e (t.alone refl).1);
  failed = λ _ _. (t.slow refl).1;
  whole = λ _. told.whole (t.alone refl).0;
}

pub latched_tidied : (old new : Served) (result : Result Bool DiskError) → (old.disk.cut ≡ true → old.lost ≡ true) → Tidied old new result → new.disk.cut ≡ true → new.lost ≡ true
latched_tidied old new (Ok done) latched t cut = absurd (not_both new.disk.cut cut t.ok.1.0)
latched_tidied old new (Err Cut) latched t cut = (t.cut refl).2
latched_tidied old new (Err Slow) latched t cut = absurd (not_both new.disk.cut cut (t.alone refl).1)

-- what a door's hand has seen after a command is legal
pub legal_seen : (start : Start) (old new : Chronicled) (v w : Sight Row) (pass pass' : PassState) (c : Command) (bytes : List ℕ) (done : Done)
    → Executes start.keeps old.served new.served pass pass' c bytes done → AddsRow old.rows new.rows v w c done → IsChronicled start new
    → (start.sound ≡ true → IsLegal start.export start.base false v.seen) → start.sound ≡ true → IsLegal start.export start.base false w.seen
legal_seen start old new v w pass pass' c bytes (Replied a) x t k was s =
    let now : IsLegal start.export start.base false new.rows = (k.history s).legal (k.served.trusted s) in
    elim x.replied.holds.error_is [
      | inl zero ↦ subst (IsLegal start.export start.base false) (sym (t.row (λ h. cc (zero, h))).seen.1) now
      | inr other ↦ elim other [
        | inl slow ↦ subst (IsLegal start.export start.base false) (sym (t.row (λ h. cc (slow, h))).seen.1) now
        | inr none ↦ subst (λ (z : Sight Row). IsLegal start.export start.base false z.seen) (sym (t.memory none).1) (was s)
      ]
    ]
legal_seen start old new v w pass pass' c bytes Lost x t k was s = subst (λ (z : Sight Row). IsLegal start.export start.base false z.seen) (sym t.lost.1) (was s)

-- one more hand is met
met_append : (rows : List Row) (hands : List (Sight Row)) (hand : Sight Row) → AreMet rows hands → IsPrefix hand.seen rows
    → entries_by connection_of hand.by rows ≡ entries_by connection_of hand.by hand.seen → AreMet rows (hands ++ hand ∷ [])
met_append rows [] hand met before own = (before, own, tt)
met_append rows (first ∷ more) hand met before own = (met.0, met.1, met_append rows more hand met.2 before own)

pub met_more : (rows : List Row) (hands : List (Sight Row)) (i : ℕ) (hand : Sight Row) → i < length hands → hand ≡ get_or hands i hand → AreMet rows (take i hands) → IsPrefix hand.seen rows
    → entries_by connection_of hand.by rows ≡ entries_by connection_of hand.by hand.seen → AreMet rows (take (i + 1) hands)
met_more rows hands i hand lt is met before own =
    subst (AreMet rows) (sym (take_more hands i hand lt ∙ ap (λ h. take i hands ++ h ∷ []) (sym is))) (met_append rows (take i hands) hand met before own)
