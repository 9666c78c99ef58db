-- What the request table lets through.
use Rattle.std.proofs.Common.{◌≡◌, ℕ, zero, suc, ◌+◌, ◌*◌, ◌%◌, ◌<◌, ◌≤◌, ◌&&◌, ◌||◌, not, Bool, true, false, cond, eqb, List, [], ◌∷◌, Option, Some, None, refl, sym, ap, ◌∙◌, arith}
use Rattle.std.proofs.lemmas.Bool.{ltb-false, eqb-true}
use Rattle.std.proofs.Math.Dec.{ltb}
use Rattle.nbd_wire.specs.declared.command.Command.{Command}
use Rattle.nbd_wire.specs.declared.export.Export.{Export}
use Rattle.nbd_wire.specs.declared.command.CommandKind.{CommandKind}
use Rattle.nbd_wire.specs.declared.command.CommandKind.TheVariants.{Write, Disconnect, Unknown}
use Rattle.nbd_wire.specs.Commands.{is_served, is_write, lends_data, has_limit, has_range, changes_disk, is_multiple, checks, first_failing, judge_of}

passes_first : (b : Bool) (e : ℕ) (o : Option ℕ) → cond b (Some e) o ≡ None → (b ≡ false) × (o ≡ None)
passes_first true e o h = cc
passes_first false e o h = (refl, h)

-- whether the check of the row with this number fails
abbrev pub fails_at : List (Bool × ℕ) → ℕ → Bool
fails_at [] k = false
fails_at (row ∷ rows) zero = row.0
fails_at (row ∷ rows) (suc k) = fails_at rows k

passes : (rows : List (Bool × ℕ)) (k : ℕ) → first_failing rows ≡ None → fails_at rows k ≡ false
passes [] k h = refl
passes (row ∷ rows) zero h = (passes_first row.0 row.1 (first_failing rows) h).0
passes (row ∷ rows) (suc k) h = passes rows k (passes_first row.0 row.1 (first_failing rows) h).1

and_is_false : (a b : Bool) → a ≡ true → (a && b) ≡ false → b ≡ false
and_is_false true b e h = h
and_is_false false b e h = cc

or_is_false : (a b : Bool) → (a || b) ≡ false → (a ≡ false) × (b ≡ false)
or_is_false true b h = cc
or_is_false false b h = (refl, h)

not_is_false : (a : Bool) → not a ≡ false → a ≡ true
not_is_false true h = refl
not_is_false false h = cc

not_zero : (n : ℕ) → eqb n 0 ≡ false → 0 < n
not_zero zero h = cc
not_zero (suc n) h = omega arith

pub write_lends_data : (k : CommandKind) → is_write k ≡ true → lends_data k ≡ true
write_lends_data Write e = refl
write_lends_data k e = cc

-- an accepted command is READ, WRITE, FLUSH, TRIM or WRITE_ZEROES
pub accepted_is_served : (c : Command) (export : Export) → judge_of c export ≡ None → is_served c.kind ≡ true
unfolding judge_of
accepted_is_served c export h = not_is_false (is_served c.kind) (passes (checks c export) 0 h)

-- it is no DISC and of no unknown type
pub not_disconnect : (c : Command) (export : Export) → judge_of c export ≡ None → c.kind ≡ Disconnect → ⊥
not_disconnect c export h e = let s = sym (accepted_is_served c export h) ∙ ap is_served e in cc

pub not_unknown : (c : Command) (export : Export) (n : ℕ) → judge_of c export ≡ None → c.kind ≡ Unknown n → ⊥
not_unknown c export n h e = let s = sym (accepted_is_served c export h) ∙ ap is_served e in cc

-- the range of an accepted command is whole sectors, some, all of them on the disk
pub accepted_range : (c : Command) (export : Export) → has_range c.kind ≡ true → judge_of c export ≡ None → (0 < c.length) × (c.offset % 512 ≡ 0) × (c.length % 512 ≡ 0) × (c.offset + c.length ≤ 512 * export.sectors)
unfolding judge_of
accepted_range c export ranged h =
    let aligned = and_is_false (has_range c.kind) (eqb c.length 0 || not (is_multiple c.offset) || not (is_multiple c.length)) ranged (passes (checks c export) 4 h) in
    let first = or_is_false (eqb c.length 0 || not (is_multiple c.offset)) (not (is_multiple c.length)) aligned in
    let second = or_is_false (eqb c.length 0) (not (is_multiple c.offset)) first.0 in
    let ends = and_is_false (has_range c.kind) (ltb (512 * export.sectors) (c.offset + c.length)) ranged (passes (checks c export) 6 h) in
    (not_zero c.length second.0, eqb-true _ _ (not_is_false (is_multiple c.offset) second.1), eqb-true _ _ (not_is_false (is_multiple c.length) first.1), ltb-false (512 * export.sectors) (c.offset + c.length) ends)

-- an accepted READ or WRITE is no longer than the export says
pub accepted_short : (c : Command) (export : Export) → has_limit c.kind ≡ true → judge_of c export ≡ None → c.length ≤ export.max_len
unfolding judge_of
accepted_short c export limited h =
    ltb-false export.max_len c.length (and_is_false (has_limit c.kind) (ltb export.max_len c.length) limited (passes (checks c export) 5 h))

-- no accepted command changes a read-only export
pub accepted_keeps : (c : Command) (export : Export) → export.read_only ≡ true → judge_of c export ≡ None → changes_disk c.kind ≡ false
unfolding judge_of
accepted_keeps c export closed h =
    and_is_false export.read_only (changes_disk c.kind) closed (passes (checks c export) 1 h)
