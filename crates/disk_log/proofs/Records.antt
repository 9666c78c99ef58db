-- What begins with a record, and what doesn't.
use Rattle.std.proofs.Common.{◌≡◌, ℕ, suc, ◌+◌, ◌*◌, ◌<◌, ◌≤◌, Bool, true, false, List, ◌++◌, length, take, drop, ap, sym, ◌∙◌, arith, refl, ◌&&◌}
use Rattle.std.specs.Prelude.{◌==◌, if◌then◌else◌, replicate, nat_lt}
use Rattle.std.proofs.lemmas.Bool.{lt-ltb, ltb-true, eqb-true, eq-eqb}
use Rattle.std.proofs.lemmas.List.{take-append-le, drop-append-le, length-append, length-drop}
use Rattle.byteorder.specs.Endian.{little_from}
use Rattle.byteorder.specs.Numbers.{little_from-take}
use Rattle.sqlite_wal.specs.Format.{checksum}
use Rattle.disk_log.specs.Records.{begins_record, begins_checkpoint, is_whole, kind_in, first_in, count_in, body_len, body_len_of, body_in, record_len, change_in, sum_in, sum_over}

pub both : (p q : Bool) → p ≡ true → q ≡ true → (p && q) ≡ true
both true true e f = refl
both true false e f = cc
both false q e f = cc

pub parts : (p q : Bool) → (p && q) ≡ true → (p ≡ true) × (q ≡ true)
parts true true e = (refl, refl)
parts true false e = cc
parts false q e = cc

-- All of a record is there.
pub record Whole (before : ℕ × ℕ) (b : List ℕ) : Type 0 where
  pub head : 24 ≤ length b
  pub whole : record_len b ≤ length b
  pub one : (sum_in b).0 ≡ (sum_over before b).0
  pub two : (sum_in b).1 ≡ (sum_over before b).1

pub holds : (before : ℕ × ℕ) (b : List ℕ) → Whole before b → is_whole before b ≡ true
holds before b r =
    let h = r.head in
    let w = r.whole in
    both _ _ (both _ _ (both _ _
    (lt-ltb 23 (length b) (omega (arith, h)))
    (lt-ltb (23 + body_len b) (length b) (omega (arith, w))))
    (eq-eqb _ _ r.one))
    (eq-eqb _ _ r.two)

pub wholly : (before : ℕ × ℕ) (b : List ℕ) → is_whole before b ≡ true → Whole before b
wholly before b e =
    let t = parts _ _ e in
    let s = parts _ _ t.0 in
    let r = parts _ _ s.0 in
    let h = ltb-true 23 (length b) r.0 in
    let w = ltb-true (23 + body_len b) (length b) r.1 in
    record { head = omega (arith, h); whole = omega (arith, w); one = eqb-true _ _ s.1; two = eqb-true _ _ t.1 }

-- Bytes begin with a change.
pub record Begins (n : ℕ) (before : ℕ × ℕ) (b : List ℕ) : Type 0 where
  pub head : 24 ≤ length b
  pub kind : kind_in b < 2
  pub inside : first_in b + count_in b ≤ n
  pub whole : record_len b ≤ length b
  pub one : (sum_in b).0 ≡ (sum_over before b).0
  pub two : (sum_in b).1 ≡ (sum_over before b).1

pub begins : (n : ℕ) (before : ℕ × ℕ) (b : List ℕ) → Begins n before b → begins_record n before b ≡ true
begins n before b r =
    let i = r.inside in
    both _ _ (both _ _
    (holds before b (record { head = r.head; whole = r.whole; one = r.one; two = r.two }))
    (lt-ltb (kind_in b) 2 r.kind))
    (lt-ltb (first_in b + count_in b) (suc n) (omega (arith, i)))

pub begun : (n : ℕ) (before : ℕ × ℕ) (b : List ℕ) → begins_record n before b ≡ true → Begins n before b
begun n before b e =
    let t = parts _ _ e in
    let s = parts _ _ t.0 in
    let w = wholly before b s.0 in
    let i = ltb-true (first_in b + count_in b) (suc n) t.1 in
    record {
      head = w.head;
      kind = ltb-true (kind_in b) 2 s.1;
      inside = omega (arith, i);
      whole = w.whole;
      one = w.one;
      two = w.two;
    }

pub no-record : (n : ℕ) (before : ℕ × ℕ) (b : List ℕ) → is_whole before b ≡ false → begins_record n before b ≡ false
no-record n before b e = ap (λ t. t && nat_lt (kind_in b) 2 && nat_lt (first_in b + count_in b) (suc n)) e

pub no-checkpoint : (before : ℕ × ℕ) (b : List ℕ) → is_whole before b ≡ false → begins_checkpoint before b ≡ false
no-checkpoint before b e = ap (λ t. t && kind_in b == 2) e

pub is-checkpoint : (before : ℕ × ℕ) (b : List ℕ) → Whole before b → kind_in b ≡ 2 → begins_checkpoint before b ≡ true
is-checkpoint before b w k = both _ _ (holds before b w) (eq-eqb _ _ k)

pub checkpoint-is : (before : ℕ × ℕ) (b : List ℕ) → begins_checkpoint before b ≡ true → Whole before b × (kind_in b ≡ 2)
checkpoint-is before b e = (let t = parts _ _ e in (wholly before b t.0, eqb-true _ _ t.1))

falsely : (p q : Bool) → q ≡ false → (p && q) ≡ false
falsely true q e = e
falsely false q e = refl

-- a checkpoint is no change
pub none-two : (n : ℕ) (before : ℕ × ℕ) (b : List ℕ) → kind_in b ≡ 2 → begins_record n before b ≡ false
none-two n before b k =
    ap (λ t. t && nat_lt (first_in b + count_in b) (suc n)) (falsely (is_whole before b) (nat_lt (kind_in b) 2) (ap (λ v. nat_lt v 2) k))

-- What the head says is the same whatever follows it.
module _ (xs ys : List ℕ) (head : 24 ≤ length xs) where
  number-same : (i : ℕ) → i + 4 ≤ 24 → little_from i 4 (xs ++ ys) ≡ little_from i 4 xs
  number-same i low =
      sym (little_from-take i 4 24 (xs ++ ys) low)
      ∙ (ap (λ v. little_from i 4 v) (take-append-le 24 xs ys head) ∙ little_from-take i 4 24 xs low)

  pub kind-same : kind_in (xs ++ ys) ≡ kind_in xs
  kind-same = number-same 0 (omega arith)

  pub first-same : first_in (xs ++ ys) ≡ first_in xs
  first-same = number-same 4 (omega arith)

  pub count-same : count_in (xs ++ ys) ≡ count_in xs
  count-same = number-same 8 (omega arith)

  pub sum-same : sum_in (xs ++ ys) ≡ sum_in xs
  sum-same = ap (λ v. (v, little_from 20 4 (xs ++ ys))) (number-same 16 (omega arith)) ∙ ap (λ v. (little_from 16 4 xs, v)) (number-same 20 (omega arith))

  pub len-same : body_len (xs ++ ys) ≡ body_len xs
  len-same = ap (λ v. body_len_of v (count_in (xs ++ ys))) kind-same ∙ ap (λ v. body_len_of (kind_in xs) v) count-same

  pub body-same : record_len xs ≤ length xs → body_in (xs ++ ys) ≡ body_in xs
  body-same whole =
      ap (λ v. take v (drop 24 (xs ++ ys))) len-same
      ∙ (ap (λ v. take (body_len xs) v) (drop-append-le 24 xs ys head)
      ∙ take-append-le (body_len xs) (drop 24 xs) ys (rw (length-drop 24 xs) (omega (arith, whole))))

  pub change-same : record_len xs ≤ length xs → change_in (xs ++ ys) ≡ change_in xs
  change-same whole =
      ap (λ v. record { first = v; bytes = if kind_in (xs ++ ys) == 0 then body_in (xs ++ ys) else replicate (512 * count_in (xs ++ ys)) 0 }) first-same
      ∙ (ap (λ v. record { first = first_in xs; bytes = if v == 0 then body_in (xs ++ ys) else replicate (512 * count_in (xs ++ ys)) 0 }) kind-same
      ∙ (ap (λ v. record { first = first_in xs; bytes = if kind_in xs == 0 then v else replicate (512 * count_in (xs ++ ys)) 0 }) (body-same whole)
      ∙ ap (λ v. record { first = first_in xs; bytes = if kind_in xs == 0 then body_in xs else replicate (512 * v) 0 }) count-same))

  pub over-same : (before : ℕ × ℕ) → record_len xs ≤ length xs → sum_over before (xs ++ ys) ≡ sum_over before xs
  over-same before whole =
      ap (λ v. checksum false (checksum false before v) (body_in (xs ++ ys))) (take-append-le 16 xs ys (omega (arith, head)))
      ∙ ap (λ v. checksum false (checksum false before (take 16 xs)) v) (body-same whole)

-- A record stays one whatever follows it.
pub begins-still : (n : ℕ) (before : ℕ × ℕ) (xs ys : List ℕ) → Begins n before xs → Begins n before (xs ++ ys)
begins-still n before xs ys r =
    let h = r.head in
    let w = r.whole in
    let i = r.inside in
    let long = length-append xs ys in
    let len = len-same xs ys h in
    let sums = sum-same xs ys h in
    let over = over-same xs ys h before w in
    record {
      head = omega (arith, h, long);
      kind = rw (kind-same xs ys h) r.kind;
      inside = rw (first-same xs ys h) (rw (count-same xs ys h) i);
      whole = omega (arith, w, long, len);
      one = ap (λ v. v.0) sums ∙ (r.one ∙ ap (λ v. v.0) (sym over));
      two = ap (λ v. v.1) sums ∙ (r.two ∙ ap (λ v. v.1) (sym over));
    }

-- A part of a record that is cut short is none.
pub none-torn : (before : ℕ × ℕ) (xs ys : List ℕ) → record_len (xs ++ ys) ≡ length (xs ++ ys) → 0 < length ys → is_whole before xs ≡ true → ⊥
none-torn before xs ys whole some e =
    let r = wholly before xs e in
    let h = r.head in
    let w = r.whole in
    let long = length-append xs ys in
    let len = len-same xs ys h in
    absurd (omega (arith, whole, some, w, long, len))
