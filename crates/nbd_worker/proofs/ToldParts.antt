-- The rows of a connection's commands are in the history.
use Rattle.std.proofs.Common.{◌≡◌, ◌==◌, ℕ, List, [], ◌∷◌, ◌++◌, true, false, refl, sym, ap, ◌∙◌, subst, inl, inr, append_assoc}
use Rattle.std.proofs.lemmas.List.{append-nil}
use Rattle.std.proofs.lemmas.List.Elements.{filter-append}
use Rattle.nbd_history.proofs.Beginnings.{prefix_self, prefix_trans}
use Rattle.nbd_history.proofs.Cells.{one_own}
use mathlib.Core.List.{IsPrefix}
use Rattle.nbd_history.specs.Notes.{Sight, entries_by}
use Rattle.nbd_wire.specs.declared.command.Command.{Command}
use Rattle.nbd_session.specs.Parts.{Part, Told, ForDisk, Last}
use Rattle.nbd_share.specs.declared.recorder.Row.{Row}
use Rattle.nbd_worker.specs.Connection.{PartsAnsweredBy, Executed}
use Rattle.nbd_share.specs.History.{row_of, IsLegal}
use Rattle.nbd_worker.specs.ConnectionState.{DoorState, through}
use Rattle.nbd_share.specs.State.{Reply}
use Rattle.nbd_share.specs.Locking.{Adds, ExecutesLocked, Start, connection_of}
use Rattle.nbd_worker.specs.ToldRows.{IsRowOf, IsRowsOf, HasRows}

record OneRow (start : Start) (v w : Sight Row) (command : Command) (out : List ℕ) : Type 0 where
  mine : List Row
  row_is : IsRowOf v.by command out mine
  by : w.by ≡ v.by
  before : IsPrefix v.seen w.seen
  own : entries_by connection_of v.by w.seen ≡ entries_by connection_of v.by v.seen ++ mine
  legal : start.sound ≡ true → IsLegal start.export start.base false v.seen → IsLegal start.export start.base false w.seen

no_row : (start : Start) (v w : Sight Row) (command : Command) (out : List ℕ) → w ≡ v → IsRowOf v.by command out [] → OneRow start v w command out
no_row start v w command out same row = record {
  mine = [];
  row_is = row;
  by = ap (λ (s : Sight Row). s.by) same;
  before = subst (λ (s : Sight Row). IsPrefix v.seen s.seen) (sym same) (prefix_self v.seen);
  own = ap (λ (s : Sight Row). entries_by connection_of v.by s.seen) same ∙ sym (append-nil (entries_by connection_of v.by v.seen));
  legal = λ _ l. subst (λ (s : Sight Row). IsLegal start.export start.base false s.seen) (sym same) l;
}

heard_row : (start : Start) (old new : List Row) (v w : Sight Row) (command : Command) (out : List ℕ) (row : Row) → row.connection ≡ v.by
    → Adds old new v w row → IsRowOf v.by command out (row ∷ []) → (start.sound ≡ true → IsLegal start.export start.base false new) → OneRow start v w command out
heard_row start old new v w command out row at h is legal = record {
  mine = row ∷ [];
  row_is = is;
  by = h.seen.0;
  before = subst (IsPrefix v.seen) (sym h.seen.1) (prefix_trans v.seen old new h.before (row ∷ [], sym h.grown));
  own = ap (entries_by connection_of v.by) (h.seen.1 ∙ h.grown) ∙ (filter-append (λ r. connection_of r == v.by) old (row ∷ [])
      ∙ (ap (λ l. l ++ entries_by connection_of v.by (row ∷ [])) h.own ∙ ap (λ l. entries_by connection_of v.by v.seen ++ l) (one_own connection_of v.by row at)));
  legal = λ s _. subst (IsLegal start.export start.base false) (sym h.seen.1) (legal s);
}

one_row : (start : Start) (a b : DoorState (Sight Row)) (command : Command) (payload out : List ℕ)
    → Executed (through (ExecutesLocked start) start.keeps) a b command payload out
    → (e : Reply) → OneRow start a.door b.door command out
one_row start a b command payload out x e =
    let t = x.run.0 in
    let holds = t.executes.replied.holds in
    elim holds.error_is [
      | inl zero ↦ heard_row start t.before.rows t.after.rows a.door b.door command out (row_of a.door.by command x.reply.error x.reply.bytes) refl (t.adds.row (λ h. cc (zero, h)))
          (record { reply = x.reply; out_is = x.out_is; command_is = holds.command_is; rows_are = inr refl }) (λ s. (t.then.history s).legal (t.executes.sound ∙ t.known.served.trusted s))
      | inr other ↦ elim other [
        | inl slow ↦ heard_row start t.before.rows t.after.rows a.door b.door command out (row_of a.door.by command x.reply.error x.reply.bytes) refl (t.adds.row (λ h. cc (slow, h)))
            (record { reply = x.reply; out_is = x.out_is; command_is = holds.command_is; rows_are = inr refl }) (λ s. (t.then.history s).legal (t.executes.sound ∙ t.known.served.trusted s))
        | inr none ↦ no_row start a.door b.door command out (t.adds.memory none).1 (record { reply = x.reply; out_is = x.out_is; command_is = holds.command_is; rows_are = inl (none, refl) })
      ]
    ]

pub told_parts : (start : Start) (a b : DoorState (Sight Row)) (parts : List Part) (out : List ℕ)
    → PartsAnsweredBy (through (ExecutesLocked start) start.keeps) a parts out b → HasRows start a.door b.door parts out
told_parts start a b [] out p = record {
  rows = [];
  rows_are = (p.0, refl);
  by = ap (λ (x : DoorState (Sight Row)). x.door.by) p.1;
  before = subst (λ (x : DoorState (Sight Row)). IsPrefix a.door.seen x.door.seen) (sym p.1) (prefix_self a.door.seen);
  own = ap (λ (x : DoorState (Sight Row)). entries_by connection_of a.door.by x.door.seen) p.1 ∙ sym (append-nil (entries_by connection_of a.door.by a.door.seen));
  legal = λ _ l. subst (λ (x : DoorState (Sight Row)). IsLegal start.export start.base false x.door.seen) (sym p.1) l;
}
told_parts start a b (Told reply ∷ parts) out p =
    let q = subst (λ (x : DoorState (Sight Row)). PartsAnsweredBy (through (ExecutesLocked start) start.keeps) x parts p.1 b) p.4.1 p.5 in
    let r = told_parts start a b parts p.1 q in
    record { rows = r.rows; rows_are = (p.1, p.3 ∙ ap (λ l. l ++ p.1) p.4.0, r.rows_are); by = r.by; before = r.before; own = r.own; legal = r.legal }
told_parts start a b (Last reply ∷ parts) out p =
    let q = subst (λ (x : DoorState (Sight Row)). PartsAnsweredBy (through (ExecutesLocked start) start.keeps) x parts p.1 b) p.4.1 p.5 in
    let r = told_parts start a b parts p.1 q in
    record { rows = r.rows; rows_are = (p.1, p.3 ∙ ap (λ l. l ++ p.1) p.4.0, r.rows_are); by = r.by; before = r.before; own = r.own; legal = r.legal }
told_parts start a b (ForDisk command payload ∷ parts) out p =
    let mid = p.2 in
    let o = one_row start a mid command payload p.0 p.4 p.4.reply in
    let r = told_parts start mid b parts p.1 p.5 in
    record {
      rows = o.mine ++ r.rows;
      rows_are = (p.0, p.1, o.mine, r.rows, p.3, refl, o.row_is, subst (λ n. IsRowsOf n parts p.1 r.rows) o.by r.rows_are);
      by = r.by ∙ o.by;
      before = prefix_trans a.door.seen mid.door.seen b.door.seen o.before r.before;
      own =
          subst (λ n. entries_by connection_of n b.door.seen ≡ entries_by connection_of n mid.door.seen ++ r.rows) o.by r.own
          ∙ (ap (λ l. l ++ r.rows) o.own ∙ append_assoc (entries_by connection_of a.door.by a.door.seen) o.mine r.rows);
      legal = λ s l. r.legal s (o.legal s l);
    }
