-- What is read of a log of which a loss of the host's power left a part.
use Rattle.std.proofs.Common.{◌≡◌, ℕ, zero, suc, ◌+◌, ◌*◌, ◌≤◌, Bool, true, false, List, [], ◌∷◌, ◌++◌, ◌⊎◌, inl, inr, length, take, drop, ap, sym, ◌∙◌, arith, refl, subst, ◌&&◌}
use Rattle.std.specs.Prelude.{if◌then◌else◌, ◌/◌, ◌==◌}
use Rattle.std.proofs.lemmas.Bool.{cases_lt, lt-ltb, ltb-true}
use Rattle.std.proofs.lemmas.List.{length-append, length-drop, length-take-le, drop-append-le, take-append-le, take-append-drop, take_all, drop-take, take-take}
use Rattle.disk_log.specs.Records.{Change, is_whole, begins_record, begins_checkpoint, kind_in, first_in, count_in, body_len, body_len_of, record_len, change_in, sum_in, sum_over, replayed}
use Rattle.disk_log.specs.Logs.{LogReading, Medium, read_some, log_reading, log_changes, has_head, head_sum, has_checkpoint, contents_in}
use Rattle.disk_log.specs.Power.{AreWritten, HasTrueSums, IsEarlierEnd, IsInOrder, LeavesImage, LeavesLog, SurvivorsHold}
use Rattle.disk_log.proofs.Records.{Whole, wholly, holds, begun, begins, begins-still, none-two, checkpoint-is, is-checkpoint, kind-same, first-same, count-same, len-same, sum-same, change-same, over-same}
use Rattle.byteorder.specs.Endian.{little_from}
use Rattle.byteorder.specs.Numbers.{little_from-take}
use Rattle.disk_log.specs.Checkpoints.{with_blocks, placed_in, with_block}
use Rattle.disk_log.proofs.Places.{placed-same, covered, with-taken}
use Rattle.disk_log.proofs.Readings.{cases, step-true, step-false, enough}

-- The same record begins two lists.
module _ (before : ℕ × ℕ) (old new : List ℕ) (whole : is_whole before new ≡ true) (same : take (record_len new) new ≡ take (record_len new) old) where
  w : Whole before new
  w = wholly before new whole

  abbrev xs : List ℕ
  xs = take (record_len new) new

  xs-len : length xs ≡ record_len new
  xs-len = (let h = w.whole in length-take-le (record_len new) new h)

  head : 24 ≤ length xs
  head = (let e = xs-len in omega (arith, e))

  pub old-long : record_len new ≤ length old
  old-long = elim (cases_lt (length old) (record_len new)) [
    | inr more ↦ more
    | inl less ↦
        let e = xs-len in
        let f = ap (λ (v : List ℕ). length v) (same ∙ take_all (record_len new) old (omega (arith, less))) in
        absurd (omega (arith, less, e, f))
  ]

  new-is : xs ++ drop (record_len new) new ≡ new
  new-is = take-append-drop (record_len new) new

  old-is : xs ++ drop (record_len new) old ≡ old
  old-is = ap (λ v. v ++ drop (record_len new) old) same ∙ take-append-drop (record_len new) old

  pub kinds : kind_in old ≡ kind_in new
  kinds = ap kind_in (sym old-is) ∙ (kind-same xs (drop (record_len new) old) head ∙ (sym (kind-same xs (drop (record_len new) new) head) ∙ ap kind_in new-is))

  pub firsts : first_in old ≡ first_in new
  firsts = ap first_in (sym old-is) ∙ (first-same xs (drop (record_len new) old) head ∙ (sym (first-same xs (drop (record_len new) new) head) ∙ ap first_in new-is))

  pub counts : count_in old ≡ count_in new
  counts = ap count_in (sym old-is) ∙ (count-same xs (drop (record_len new) old) head ∙ (sym (count-same xs (drop (record_len new) new) head) ∙ ap count_in new-is))

  pub sums : sum_in old ≡ sum_in new
  sums = ap sum_in (sym old-is) ∙ (sum-same xs (drop (record_len new) old) head ∙ (sym (sum-same xs (drop (record_len new) new) head) ∙ ap sum_in new-is))

  body-new : body_len xs ≡ body_len new
  body-new = sym (len-same xs (drop (record_len new) new) head) ∙ ap body_len new-is

  xs-whole : record_len xs ≤ length xs
  xs-whole = (let e = xs-len in let b = body-new in omega (arith, e, b))

  pub lens : record_len old ≡ record_len new
  lens = ap (λ v. 24 + v) (ap body_len (sym old-is) ∙ (len-same xs (drop (record_len new) old) head ∙ (sym (len-same xs (drop (record_len new) new) head) ∙ ap body_len new-is)))

  pub change-is : change_in old ≡ change_in new
  change-is = ap change_in (sym old-is) ∙ (change-same xs (drop (record_len new) old) head xs-whole ∙ (sym (change-same xs (drop (record_len new) new) head xs-whole) ∙ ap change_in new-is))

  over : sum_over before old ≡ sum_over before new
  over = ap (λ v. sum_over before v) (sym old-is) ∙ (over-same xs (drop (record_len new) old) head before xs-whole ∙ (sym (over-same xs (drop (record_len new) new) head before xs-whole) ∙ ap (λ v. sum_over before v) new-is))

  pub old-whole : Whole before old
  old-whole =
      let l = old-long in
      let e = lens in
      record {
        head = omega (arith, l);
        whole = omega (arith, l, e);
        one = ap (λ v. v.0) sums ∙ (w.one ∙ ap (λ v. v.0) (sym over));
        two = ap (λ v. v.1) sums ∙ (w.two ∙ ap (λ v. v.1) (sym over));
      }

  pub begins-old : (n : ℕ) → begins_record n before new ≡ true → begins_record n before old ≡ true
  begins-old n e =
      let r = begun n before new e in
      let o = old-whole in
      let k = r.kind in
      let i = r.inside in
      begins n before old (record {
        head = o.head;
        kind = rw kinds k;
        inside = rw firsts (rw counts i);
        whole = o.whole;
        one = o.one;
        two = o.two;
      })

neither : (t : Bool) → t ≡ true → t ≡ false → ⊥
neither true e f = cc
neither false e f = cc

abbrev ends : ℕ × ℕ → List ℕ → LogReading
ends before b = record { changes = []; sum = before; rest = b }

abbrev onward : ℕ → ℕ → List ℕ → LogReading
onward k n b = let more = read_some k n (sum_in b) (drop (record_len b) b) in record { changes = change_in b ∷ more.changes; sum = more.sum; rest = more.rest }

-- One reading is a beginning of another. Where a checkpoint ends it, the same one ends the other.
pub record Begun (old new : LogReading) : Type 0 where
  pub more : List Change
  pub begins : old.changes ≡ new.changes ++ more
  pub all : begins_checkpoint new.sum new.rest ≡ true → old.changes ≡ new.changes
  pub same_sum : begins_checkpoint new.sum new.rest ≡ true → old.sum ≡ new.sum
  pub same : begins_checkpoint new.sum new.rest ≡ true → take (record_len new.rest) new.rest ≡ take (record_len new.rest) old.rest

-- none is read of what is left
ended : (k n : ℕ) (before : ℕ × ℕ) (old new : List ℕ) → (r : LogReading) → (begins_record n before old ≡ false → r ≡ ends before old)
    → (is_whole before new ≡ true → take (record_len new) new ≡ take (record_len new) old) → (begins_checkpoint before new ≡ true) ⊎ (begins_checkpoint before new ≡ false) → Begun r (ends before new)
ended k n before old new r none written (inr bad) = record {
  more = r.changes;
  begins = refl;
  all = λ e. absurd (neither (begins_checkpoint before new) e bad);
  same_sum = λ e. absurd (neither (begins_checkpoint before new) e bad);
  same = λ e. absurd (neither (begins_checkpoint before new) e bad);
}
ended k n before old new r none written (inl good) =
    let c = checkpoint-is before new good in
    let whole : is_whole before new ≡ true = holds before new c.0 in
    let same = written whole in
    let kind : kind_in old ≡ 2 = kinds before old new whole same ∙ c.1 in
    let is : r ≡ ends before old = none (none-two n before old kind) in
    record {
      more = r.changes;
      begins = refl;
      all = λ e. ap (λ v. v.changes) is;
      same_sum = λ e. ap (λ v. v.sum) is;
      same = λ e. same ∙ ap (λ v. take (record_len new) v.rest) (sym is);
    }

grown : (c : Change) (old new : LogReading) → Begun old new → Begun (record { changes = c ∷ old.changes; sum = old.sum; rest = old.rest }) (record { changes = c ∷ new.changes; sum = new.sum; rest = new.rest })
grown c old new b = record {
  more = b.more;
  begins = ap (λ v. c ∷ v) b.begins;
  all = λ e. ap (λ v. c ∷ v) (b.all e);
  same_sum = λ e. b.same_sum e;
  same = λ e. b.same e;
}

-- What is read of what is left is a beginning of what is read of all that was written.
pub beginning-by : (k j n : ℕ) (before : ℕ × ℕ) (old new : List ℕ) → length new ≤ k → length old ≤ j → AreWritten k before old new
    → (begins_record n before new ≡ true) ⊎ (begins_record n before new ≡ false) → Begun (read_some j n before old) (read_some k n before new)
unfolding AreWritten
beginning-by zero j n before old new low high are (inl e) = (let r = begun n before new e in let h = r.head in absurd (omega (arith, low, h)))
beginning-by zero j n before old new low high are (inr e) =
    rw (step-false zero n before new e) (ended zero n before old new (read_some j n before old) (λ f. step-false j n before old f)
    (λ whole. let w = wholly before new whole in let h = w.head in absurd (omega (arith, low, h))) (cases (begins_checkpoint before new)))
beginning-by (suc k) j n before old new low high are (inr e) =
    rw (step-false (suc k) n before new e) (ended k n before old new (read_some j n before old) (λ f. step-false j n before old f)
    (λ whole. (are whole).0) (cases (begins_checkpoint before new)))
beginning-by (suc k) zero n before old new low high are (inl e) =
    let r = begun n before new e in
    let whole : is_whole before new ≡ true = holds before new (record { head = r.head; whole = r.whole; one = r.one; two = r.two }) in
    let l = old-long before old new whole (are whole).0 in
    absurd (omega (arith, high, l))
beginning-by (suc k) (suc j) n before old new low high are (inl e) =
    let r = begun n before new e in
    let h = r.head in
    let wh = r.whole in
    let whole : is_whole before new ≡ true = holds before new (record { head = r.head; whole = r.whole; one = r.one; two = r.two }) in
    let same = (are whole).0 in
    let rest = (are whole).1 in
    let e' = begins-old before old new whole same n e in
    let l = lens before old new whole same in
    let far = old-long before old new whole same in
    let dn = length-drop (record_len new) new in
    let dold = length-drop (record_len new) old in
    let more = beginning-by k j n (sum_in new) (drop (record_len new) old) (drop (record_len new) new)
    (omega (arith, dn, low, wh, h)) (omega (arith, dold, high, far)) rest (cases (begins_record n (sum_in new) (drop (record_len new) new))) in
    let olds : read_some (suc j) n before old ≡ (let m = read_some j n (sum_in new) (drop (record_len new) old) in record { changes = change_in new ∷ m.changes; sum = m.sum; rest = m.rest }) =
    step-true j n before old e'
    ∙ (ap (λ v. let m = read_some j n (sum_in old) (drop v old) in record { changes = change_in old ∷ m.changes; sum = m.sum; rest = m.rest }) l
    ∙ (ap (λ v. let m = read_some j n v (drop (record_len new) old) in record { changes = change_in old ∷ m.changes; sum = m.sum; rest = m.rest }) (sums before old new whole same)
    ∙ ap (λ v. let m = read_some j n (sum_in new) (drop (record_len new) old) in record { changes = v ∷ m.changes; sum = m.sum; rest = m.rest }) (change-is before old new whole same))) in
    rw olds (rw (step-true k n before new e) (grown (change_in new) (read_some j n (sum_in new) (drop (record_len new) old)) (read_some k n (sum_in new) (drop (record_len new) new)) more))

-- What is read of a beginning of bytes is a beginning of what is read of all.
pub part-by : (k j n : ℕ) (before : ℕ × ℕ) (xs ys : List ℕ) → length (xs ++ ys) ≤ j → (begins_record n before xs ≡ true) ⊎ (begins_record n before xs ≡ false)
    → (more : List Change) × ((read_some j n before (xs ++ ys)).changes ≡ (read_some k n before xs).changes ++ more)
unfolding read_some
part-by k j n before xs ys high (inr e) = ((read_some j n before (xs ++ ys)).changes, ap (λ v. v.changes ++ (read_some j n before (xs ++ ys)).changes) (sym (step-false k n before xs e)))
part-by zero j n before xs ys high (inl e) = ((read_some j n before (xs ++ ys)).changes, refl)
part-by (suc k) zero n before xs ys high (inl e) = (let r = begun n before xs e in let h = r.head in let l = length-append xs ys in absurd (omega (arith, high, h, l)))
part-by (suc k) (suc j) n before xs ys high (inl e) =
    let r = begun n before xs e in
    let h = r.head in
    let wh = r.whole in
    let l = length-append xs ys in
    let good : begins_record n before (xs ++ ys) ≡ true = begins n before (xs ++ ys) (begins-still n before xs ys r) in
    let left : List ℕ = drop (record_len xs) xs in
    let dropped : drop (record_len (xs ++ ys)) (xs ++ ys) ≡ left ++ ys = ap (λ v. drop (24 + v) (xs ++ ys)) (len-same xs ys h) ∙ drop-append-le (record_len xs) xs ys wh in
    let ll = length-append left ys in
    let ld = length-drop (record_len xs) xs in
    let more = part-by k j n (sum_in xs) left ys (omega (arith, ll, ld, l, high, h, wh)) (cases (begins_record n (sum_in xs) left)) in
    let all : read_some (suc j) n before (xs ++ ys) ≡ (let m = read_some j n (sum_in xs) (left ++ ys) in record { changes = change_in xs ∷ m.changes; sum = m.sum; rest = m.rest }) =
    step-true j n before (xs ++ ys) good
    ∙ (ap (λ v. let m = read_some j n (sum_in (xs ++ ys)) v in record { changes = change_in (xs ++ ys) ∷ m.changes; sum = m.sum; rest = m.rest }) dropped
    ∙ (ap (λ v. let m = read_some j n v (left ++ ys) in record { changes = change_in (xs ++ ys) ∷ m.changes; sum = m.sum; rest = m.rest }) (sum-same xs ys h)
    ∙ ap (λ v. let m = read_some j n (sum_in xs) (left ++ ys) in record { changes = v ∷ m.changes; sum = m.sum; rest = m.rest }) (change-same xs ys h wh))) in
    (more.0, ap (λ v. v.changes) all ∙ (ap (λ v. change_in xs ∷ v) more.1 ∙ ap (λ v. v.changes ++ more.0) (sym (step-true k n before xs e))))

-- The head of a log is the same whatever follows it.
both : (p q : Bool) → p ≡ true → q ≡ true → (p && q) ≡ true
both true true e f = refl
both true false e f = cc
both false q e f = cc

halves : (p q : Bool) → (p && q) ≡ true → (p ≡ true) × (q ≡ true)
halves true true e = (refl, refl)
halves true false e = cc
halves false q e = cc

number-still : (i : ℕ) (xs ys : List ℕ) → i + 4 ≤ 16 → 16 ≤ length xs → little_from i 4 (xs ++ ys) ≡ little_from i 4 xs
number-still i xs ys low long =
    sym (little_from-take i 4 16 (xs ++ ys) low)
    ∙ (ap (λ v. little_from i 4 v) (take-append-le 16 xs ys long) ∙ little_from-take i 4 16 xs low)

pub head-long : (b : List ℕ) → has_head b ≡ true → 16 ≤ length b
head-long b e = (let h = ltb-true 15 (length b) (halves _ _ (halves _ _ e).0).0 in omega (arith, h))

pub head-more : (xs ys : List ℕ) → has_head xs ≡ true → has_head (xs ++ ys) ≡ true
head-more xs ys e =
    let long = head-long xs e in
    let l = length-append xs ys in
    let t = halves _ _ e in
    let s = halves _ _ t.0 in
    both _ _ (both _ _ (lt-ltb 15 (length (xs ++ ys)) (omega (arith, long, l)))
    (ap (λ v. v == 0x4252_4F4E) (number-still 0 xs ys (omega arith) long) ∙ s.1))
    (ap (λ v. v == 0x474F_4C44) (number-still 4 xs ys (omega arith) long) ∙ t.1)

pub head-less : (xs ys : List ℕ) → 16 ≤ length xs → has_head (xs ++ ys) ≡ true → has_head xs ≡ true
head-less xs ys long e =
    let t = halves _ _ e in
    let s = halves _ _ t.0 in
    both _ _ (both _ _ (lt-ltb 15 (length xs) (omega (arith, long)))
    (ap (λ v. v == 0x4252_4F4E) (sym (number-still 0 xs ys (omega arith) long)) ∙ s.1))
    (ap (λ v. v == 0x474F_4C44) (sym (number-still 4 xs ys (omega arith) long)) ∙ t.1)

pub head-sum-still : (xs ys : List ℕ) → 16 ≤ length xs → head_sum (xs ++ ys) ≡ head_sum xs
head-sum-still xs ys long = ap (λ v. (v, little_from 12 4 (xs ++ ys))) (number-still 8 xs ys (omega arith) long) ∙ ap (λ v. (little_from 8 4 xs, v)) (number-still 12 xs ys (omega arith) long)

abbrev none : LogReading
none = record { changes = []; sum = (0, 0); rest = [] }

pub with-head : (n : ℕ) (log : List ℕ) → has_head log ≡ true → log_changes n log ≡ log_reading n (head_sum log) (drop 16 log)
with-head n log e = ap (λ t. if t then log_reading n (head_sum log) (drop 16 log) else none) e

pub without-head : (n : ℕ) (log : List ℕ) → has_head log ≡ false → log_changes n log ≡ none
without-head n log e = ap (λ t. if t then log_reading n (head_sum log) (drop 16 log) else none) e

-- What is read of a beginning of a log is a beginning of what is read of all.
part-log-by : (n : ℕ) (xs ys : List ℕ) → (has_head xs ≡ true) ⊎ (has_head xs ≡ false) → (more : List Change) × ((log_changes n (xs ++ ys)).changes ≡ (log_changes n xs).changes ++ more)
part-log-by n xs ys (inr e) = ((log_changes n (xs ++ ys)).changes, ap (λ v. v.changes ++ (log_changes n (xs ++ ys)).changes) (sym (without-head n xs e)))
part-log-by n xs ys (inl e) =
    let long = head-long xs e in
    let all : log_changes n (xs ++ ys) ≡ log_reading n (head_sum xs) (drop 16 xs ++ ys) =
    with-head n (xs ++ ys) (head-more xs ys e)
    ∙ (ap (λ v. log_reading n v (drop 16 (xs ++ ys))) (head-sum-still xs ys long)
    ∙ ap (λ v. log_reading n (head_sum xs) v) (drop-append-le 16 xs ys long)) in
    let more = part-by (length (drop 16 xs)) (length (drop 16 xs ++ ys)) n (head_sum xs) (drop 16 xs) ys (omega arith) (cases (begins_record n (head_sum xs) (drop 16 xs))) in
    (more.0, ap (λ v. v.changes) all ∙ (more.1 ∙ ap (λ v. v.changes ++ more.0) (sym (with-head n xs e))))

pub part-log : (n s : ℕ) (log : List ℕ) → (more : List Change) × ((log_changes n log).changes ≡ (log_changes n (take s log)).changes ++ more)
part-log n s log =
    let more = part-log-by n (take s log) (drop s log) (cases (has_head (take s log))) in
    (more.0, ap (λ v. (log_changes n v).changes) (sym (take-append-drop s log)) ∙ more.1)

-- Only the blocks of a checkpoint say what is placed.
pub placed-taken : (k : ℕ) (b image : List ℕ) → with_blocks k (take (4104 * k) b) image ≡ with_blocks k b image
unfolding with_blocks
placed-taken zero b image = refl
placed-taken (suc k) b image =
    let e : 4104 * suc k ≡ 4104 + 4104 * k = omega arith in
    let dropped : drop 4104 (take (4104 * suc k) b) ≡ take (4104 * k) (drop 4104 b) = ap (λ v. drop 4104 (take v b)) e ∙ drop-take 4104 (4104 * k) b in
    let first : with_block image (take (4104 * suc k) b) ≡ with_block image b =
    sym (with-taken image (take (4104 * suc k) b)) ∙ (ap (λ v. with_block image v) (take-take 4104 (4104 * suc k) b (omega arith)) ∙ with-taken image b) in
    ap (λ v. with_blocks k v (with_block image (take (4104 * suc k) b))) dropped
    ∙ (placed-taken k (drop 4104 b) (with_block image (take (4104 * suc k) b))
    ∙ ap (λ v. with_blocks k (drop 4104 b) v) first)

-- what both hold, by whether there is a checkpoint
with-checkpoint : (represents : List ℕ → List ℕ) (n : ℕ) (image log : List ℕ) → has_checkpoint n log ≡ true → contents_in represents n image log ≡ represents (placed_in (log_changes n log).rest image)
with-checkpoint represents n image log e = ap (λ t. if t then represents (placed_in (log_changes n log).rest image) else replayed (log_changes n log).changes (represents image)) e

without-checkpoint : (represents : List ℕ → List ℕ) (n : ℕ) (image log : List ℕ) → has_checkpoint n log ≡ false → contents_in represents n image log ≡ replayed (log_changes n log).changes (represents image)
without-checkpoint represents n image log e = ap (λ t. if t then represents (placed_in (log_changes n log).rest image) else replayed (log_changes n log).changes (represents image)) e

checkpoint-len : (b : List ℕ) → kind_in b ≡ 2 → record_len b ≡ 32 + 4104 * count_in b
checkpoint-len b e = ap (λ v. 24 + body_len_of v (count_in b)) e ∙ omega arith

-- A checkpoint that is read of what is left is the one that was written.
same-checkpoint : (old new : LogReading) (image : List ℕ) → Begun old new → begins_checkpoint new.sum new.rest ≡ true → (begins_checkpoint old.sum old.rest ≡ true) × (placed_in old.rest image ≡ placed_in new.rest image)
same-checkpoint old new image b good =
    let c = checkpoint-is new.sum new.rest good in
    let whole : is_whole new.sum new.rest ≡ true = holds new.sum new.rest c.0 in
    let same = b.same good in
    let count : count_in old.rest ≡ count_in new.rest = counts new.sum old.rest new.rest whole same in
    let kind : kind_in old.rest ≡ 2 = kinds new.sum old.rest new.rest whole same ∙ c.1 in
    let k : ℕ = count_in new.rest in
    let size : record_len new.rest ≡ 32 + 4104 * k = checkpoint-len new.rest c.1 in
    let blocks : take (4104 * k) (drop 32 new.rest) ≡ take (4104 * k) (drop 32 old.rest) =
    sym (drop-take 32 (4104 * k) new.rest)
    ∙ (ap (λ v. drop 32 v) (ap (λ v. take v new.rest) (sym size) ∙ (same ∙ ap (λ v. take v old.rest) size))
    ∙ drop-take 32 (4104 * k) old.rest) in (
      ap (λ v. begins_checkpoint v old.rest) (b.same_sum good) ∙ is-checkpoint new.sum old.rest (old-whole new.sum old.rest new.rest whole same) kind,
      ap (λ v. with_blocks v (drop 32 old.rest) image) count
          ∙ (sym (placed-taken k (drop 32 old.rest) image)
          ∙ (ap (λ v. with_blocks k v image) (sym blocks)
          ∙ placed-taken k (drop 32 new.rest) image)),
    )

-- What is read of a log that is left, where its head is that of the one that was written.
begun-log : (n : ℕ) (written left : List ℕ) → HasTrueSums written left → has_head left ≡ true → Begun (log_changes n written) (log_changes n left)
begun-log n written left true_sums e =
    let long = head-long left e in
    let heads : List ℕ = take 16 left in
    let size : length heads ≡ 16 = length-take-le 16 left long in
    let left-is : heads ++ drop 16 left ≡ left = take-append-drop 16 left in
    let written-is : heads ++ drop 16 written ≡ written = ap (λ v. v ++ drop 16 written) (true_sums.head e) ∙ take-append-drop 16 written in
    let there : 16 ≤ length heads = omega (arith, size) in
    let has : has_head heads ≡ true = head-less heads (drop 16 left) there (ap has_head left-is ∙ e) in
    let has-written : has_head written ≡ true = ap has_head (sym written-is) ∙ head-more heads (drop 16 written) has in
    let sum-left : head_sum left ≡ head_sum heads = ap head_sum (sym left-is) ∙ head-sum-still heads (drop 16 left) there in
    let sum-written : head_sum written ≡ head_sum left = ap head_sum (sym written-is) ∙ (head-sum-still heads (drop 16 written) there ∙ sym sum-left) in
    let len-left = length-drop 16 left in
    let b = beginning-by (length left) (length (drop 16 written)) n (head_sum left) (drop 16 written) (drop 16 left)
    (omega (arith, len-left)) (omega arith) (true_sums.records e) (cases (begins_record n (head_sum left) (drop 16 left))) in
    let is-left : read_some (length left) n (head_sum left) (drop 16 left) ≡ log_changes n left =
    enough (length left) (length (drop 16 left)) n (head_sum left) (drop 16 left) (omega (arith, len-left)) (omega arith) ∙ sym (with-head n left e) in
    let is-written : log_reading n (head_sum left) (drop 16 written) ≡ log_changes n written =
    ap (λ v. log_reading n v (drop 16 written)) (sym sum-written) ∙ sym (with-head n written has-written) in
    subst (λ v. Begun v (log_changes n left)) is-written (subst (λ v. Begun (log_reading n (head_sum left) (drop 16 written)) v) is-left b)

no-head : (n : ℕ) (written left : List ℕ) → has_head left ≡ false → Begun (log_changes n written) (log_changes n left)
no-head n written left e = subst (λ v. Begun (log_changes n written) v) (sym (without-head n left e)) (record {
  more = (log_changes n written).changes;
  begins = refl;
  all = λ f. absurd (neither false f refl);
  same_sum = λ f. absurd (neither false f refl);
  same = λ f. absurd (neither false f refl);
})

log-begun : (n : ℕ) (written left : List ℕ) → HasTrueSums written left → (has_head left ≡ true) ⊎ (has_head left ≡ false) → Begun (log_changes n written) (log_changes n left)
log-begun n written left true_sums (inl e) = begun-log n written left true_sums e
log-begun n written left true_sums (inr e) = no-head n written left e

-- the image is on the medium
settled-hold : (represents : List ℕ → List ℕ) (m : Medium) (image log : List ℕ) → image ≡ m.image → LeavesLog m log → HasTrueSums m.log log → (has_checkpoint m.sectors log ≡ true) ⊎ (has_checkpoint m.sectors log ≡ false)
    → (contents_in represents m.sectors image log ≡ contents_in represents m.sectors m.image m.log) ⊎ IsEarlierEnd represents m (contents_in represents m.sectors image log)
settled-hold represents m image log same left true_sums (inl good) =
    let b = log-begun m.sectors m.log log true_sums (cases (has_head log)) in
    let c = same-checkpoint (log_changes m.sectors m.log) (log_changes m.sectors log) m.image b good in
    inl (ap (λ v. contents_in represents m.sectors v log) same
    ∙ (with-checkpoint represents m.sectors m.image log good
    ∙ (ap represents (sym c.1)
    ∙ sym (with-checkpoint represents m.sectors m.image m.log c.0))))
settled-hold represents m image log same left true_sums (inr bad) =
    let b = log-begun m.sectors m.log log true_sums (cases (has_head log)) in
    let p = part-log m.sectors m.safe log in
    inr (record {
      changes = (log_changes m.sectors log).changes;
      later = b.more;
      begins = b.begins;
      unsynced = p.0;
      least = p.1 ∙ ap (λ v. (log_changes m.sectors v).changes ++ p.0) left;
      holds = ap (λ v. contents_in represents m.sectors v log) same ∙ without-checkpoint represents m.sectors m.image log bad;
    })

-- Whatever follows bytes, their records are those that are there.
none-written : (k : ℕ) (before : ℕ × ℕ) (written left : List ℕ) → length left ≤ 0 → AreWritten k before written left
unfolding AreWritten
none-written zero before written left low = tt
none-written (suc k) before written left low = λ whole. (let h = (wholly before left whole).head in absurd (omega (arith, low, h)))

front-written : (k : ℕ) (before : ℕ × ℕ) (front more : List ℕ) → AreWritten k before (front ++ more) front
unfolding AreWritten
front-written zero before front more = tt
front-written (suc k) before front more = λ whole.
    let long = (wholly before front whole).whole in (
      sym (take-append-le (record_len front) front more long),
      subst (λ v. AreWritten k (sum_in front) v (drop (record_len front) front)) (sym (drop-append-le (record_len front) front more long)) (front-written k (sum_in front) (drop (record_len front) front) more),
    )

front-sums : (front more : List ℕ) → HasTrueSums (front ++ more) front
front-sums front more = record {
  head = λ e. sym (take-append-le 16 front more (head-long front e));
  records = λ e. elim (cases_lt (length front) 16) [
    | inl less ↦ (let d = length-drop 16 front in none-written (length front) (head_sum front) (drop 16 (front ++ more)) (drop 16 front) (omega (arith, less, d)))
    | inr long ↦ subst (λ v. AreWritten (length front) (head_sum front) v (drop 16 front)) (sym (drop-append-le 16 front more long)) (front-written (length front) (head_sum front) (drop 16 front) more)
  ];
}

-- a checkpoint and all of the log are on the medium
placed-hold : (represents : List ℕ → List ℕ) (m : Medium) (image log : List ℕ) → has_checkpoint m.sectors m.log ≡ true → m.safe ≡ length m.log → LeavesImage m image → LeavesLog m log
    → contents_in represents m.sectors image log ≡ contents_in represents m.sectors m.image m.log
placed-hold represents m image log good safe made left =
    let is : m.log ++ drop m.safe log ≡ log = ap (λ v. v ++ drop m.safe log) (sym (take_all m.safe m.log (omega (arith, safe))) ∙ sym left) ∙ take-append-drop m.safe log in
    let b = log-begun m.sectors log m.log (subst (λ v. HasTrueSums v m.log) is (front-sums m.log (drop m.safe log))) (cases (has_head m.log)) in
    let same = same-checkpoint (log_changes m.sectors log) (log_changes m.sectors m.log) image b good in
    let rest : List ℕ = (log_changes m.sectors m.log).rest in
    let c = checkpoint-is (log_changes m.sectors m.log).sum rest good in
    let wh = c.0.whole in
    let size : record_len rest ≡ 32 + 4104 * count_in rest = checkpoint-len rest c.1 in
    let ld = length-drop 32 rest in
    let long : 4104 * count_in rest ≤ length (drop 32 rest) = omega (arith, ld, wh, size) in
    let len = made.size in
    let put : placed_in rest image ≡ placed_in rest m.image = placed-same (count_in rest) (drop 32 rest) image m.image long len (λ i. elim (made.others i) [
      | inl e ↦ inl e
      | inr has ↦ inr (covered (count_in rest) (drop 32 rest) (i / 4096) has.1 (length image) i has.2 (let f = has.0 in omega (arith, f, len)) (omega arith) (omega arith))
    ]) in
    with-checkpoint represents m.sectors image log same.0
    ∙ (ap represents (same.1 ∙ put)
    ∙ sym (with-checkpoint represents m.sectors m.image m.log good))

-- the image is on the medium, or a checkpoint is
order-of : (represents : List ℕ → List ℕ) (m : Medium) → IsInOrder represents m
    → ((m.settled ≡ true) × (has_checkpoint m.sectors m.log ≡ true
    → represents (placed_in (log_changes m.sectors m.log).rest m.image) ≡ replayed (log_changes m.sectors m.log).changes (represents m.image)))
    ⊎ ((has_checkpoint m.sectors m.log ≡ true) × (m.safe ≡ length m.log))
order-of represents m kept = elim (cases (has_checkpoint m.sectors m.log)) [
  | inr without ↦ inl (kept.order (λ has safe. neither (has_checkpoint m.sectors m.log) has without))
  | inl there ↦ elim (cases_lt m.safe (length m.log)) [
    | inl less ↦ inl (kept.order (λ has safe. absurd (omega (arith, less, safe))))
    | inr more ↦ (let low = kept.low in inr (there, omega (arith, low, more)))
  ]
]

pub survivors-hold : SurvivorsHold
survivors-hold = λ represents m image log kept made left true_sums. elim (order-of represents m kept) [
  | inl s ↦ settled-hold represents m image log (made.settled s.0) left true_sums (cases (has_checkpoint m.sectors log))
  | inr s ↦ inl (placed-hold represents m image log s.0 s.1 made left)
]
