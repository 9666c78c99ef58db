-- Records that are being read, and replayed.
use Rattle.std.proofs.Common.{◌≡◌, ℕ, zero, suc, ◌+◌, ◌-◌, ◌*◌, ◌≤◌, Bool, true, false, List, [], ◌∷◌, length, take, drop, ap, sym, ◌∙◌, arith, refl, Some, None, Err, ◌⊎◌, inl, inr, subst, ◌<◌}
use Rattle.block_device.specs.declared.disk.DiskError.{DiskError}
use Rattle.block_device.specs.declared.disk.DiskError.TheVariants as errors
use Rattle.std.specs.Prelude.{◌/◌, ◌↔◌, if◌then◌else◌}
use Rattle.std.proofs.lemmas.List.{length-drop, length-take-le, drop-drop, take_all}
use Rattle.block_device.specs.Facts.{Facts, IsDiskReady, CountsNeverFall, Latches}
use Rattle.disk_log.specs.declared.record.Head.{Head}
use Rattle.disk_log.specs.Records.{Change, begins_record, is_whole, kind_in, first_in, count_in, body_in, body_len, body_len_of, record_len, change_in, record_change, with_change, head_in, replayed, sum_in}
use Rattle.disk_log.specs.Logs.{LogReading, read_some, log_reading}
use Rattle.disk_log.proofs.Records.{begun}
use Rattle.disk_log.proofs.Growing.{not-true}
use Rattle.disk_log.proofs.Readings.{enough, step-true, step-false}

-- So far `at` bytes were read, the last record of which has this sum: what is left is read as all is.
pub record Reads (log : List ℕ) (n : ℕ) (from : ℕ × ℕ) (at : ℕ) (sum : ℕ × ℕ) : Type 0 where
  pub low : at ≤ length log
  pub rest : (read_some (length log) n sum (drop at log)).rest ≡ (log_reading n from log).rest
  pub last : (read_some (length log) n sum (drop at log)).sum ≡ (log_reading n from log).sum
  pub start : at ≡ 0 → sum ≡ from
  pub some : (k : ℕ) → at ≡ suc k → (log_reading n from log).changes ≡ [] → ⊥

-- Their changes were made: what is left makes of the contents what all makes of those at first.
pub record Underway (log : List ℕ) (from : ℕ × ℕ) (old new : Facts) (at : ℕ) (sum : ℕ × ℕ) : Type 0 where
  pub low : at ≤ length log
  pub sound : new.sound ≡ old.sound
  pub goes : CountsNeverFall old new
  pub ready : IsDiskReady old → IsDiskReady new
  pub contents : old.sound ≡ true → replayed (read_some (length log) (length old.contents / 512) sum (drop at log)).changes new.contents
      ≡ replayed (log_reading (length old.contents / 512) from log).changes old.contents

pub reads-first : (log : List ℕ) (n : ℕ) (from : ℕ × ℕ) → Reads log n from 0 from
reads-first log n from = record { low = omega arith; rest = refl; last = refl; start = λ e. refl; some = λ k e. cc }

pub at-first : (log : List ℕ) (from : ℕ × ℕ) (facts : Facts) → Underway log from facts facts 0 from
at-first log from facts = record { low = omega arith; sound = refl; goes = record { size = refl; cuts = omega arith; slows = omega arith }; ready = λ r. r; contents = λ s. refl }

-- the head that was found, or none
found : (t : Bool) (head h : Head) → (if t then Some head else None) ≡ Some h → (t ≡ true) × (h ≡ head)
found true head h e = (refl, some-is head h e)
  where
    some-is : (x y : Head) → Some x ≡ Some y → y ≡ x
    some-is x y q = cc
found false head h e = cc

pub is-found : (n : ℕ) (sum : ℕ × ℕ) (b : List ℕ) (h : Head) → (if begins_record n sum b then Some (head_in b) else None) ≡ Some h → (begins_record n sum b ≡ true) × (h ≡ head_in b)
is-found n sum b h e = found (begins_record n sum b) (head_in b) h e

lost : (t : Bool) (head : Head) → (if t then Some head else None) ≡ None → t ≡ false
lost true head e = cc
lost false head e = refl

pub is-lost : (n : ℕ) (sum : ℕ × ℕ) (b : List ℕ) → (if begins_record n sum b then Some (head_in b) else None) ≡ None → begins_record n sum b ≡ false
is-lost n sum b e = lost (begins_record n sum b) (head_in b) e

step-on : (k n : ℕ) (sum : ℕ × ℕ) (b : List ℕ) → length b ≤ k → begins_record n sum b ≡ true
    → read_some k n sum b ≡ record { changes = change_in b ∷ (read_some k n (sum_in b) (drop (record_len b) b)).changes; sum = (read_some k n (sum_in b) (drop (record_len b) b)).sum; rest = (read_some k n (sum_in b) (drop (record_len b) b)).rest }
step-on zero n sum b low e = (let r = begun n sum b e in let h = r.head in absurd (omega (arith, low, h)))
step-on (suc k) n sum b low e =
    let r = begun n sum b e in
    let h = r.head in
    let w = r.whole in
    let less : length (drop (record_len b) b) ≤ k = rw (length-drop (record_len b) b) (omega (arith, low, h, w)) in
    step-true k n sum b e
    ∙ ap (λ (v : LogReading). record { changes = change_in b ∷ v.changes; sum = v.sum; rest = v.rest }) (enough k (suc k) n (sum_in b) (drop (record_len b) b) less (omega (arith, less)))

onward : (k n : ℕ) (sum : ℕ × ℕ) (log : List ℕ) (at : ℕ) → read_some k n sum (drop (record_len (drop at log)) (drop at log)) ≡ read_some k n sum (drop (at + record_len (drop at log)) log)
onward k n sum log at = ap (λ v. read_some k n sum v) (drop-drop (record_len (drop at log)) at log)

some-on : (log : List ℕ) (n : ℕ) (from : ℕ × ℕ) (at : ℕ) (sum : ℕ × ℕ) → Reads log n from at sum → begins_record n sum (drop at log) ≡ true → (log_reading n from log).changes ≡ [] → ⊥
some-on log n from zero sum u e none =
    (let e' : begins_record n from log ≡ true = ap (λ v. begins_record n v log) (sym (u.start refl)) ∙ e in
    is-some (ap (λ (v : LogReading). v.changes) (sym (step-on (length log) n from log (omega arith) e')) ∙ none))
  where
    is-some : {c : Change} {cs : List Change} → c ∷ cs ≡ [] → ⊥
    is-some q = cc
some-on log n from (suc k) sum u e none = u.some k refl none

pub reads-on : (log : List ℕ) (n : ℕ) (from : ℕ × ℕ) (at : ℕ) (sum : ℕ × ℕ) → Reads log n from at sum → begins_record n sum (drop at log) ≡ true
    → Reads log n from (at + record_len (drop at log)) (sum_in (drop at log))
reads-on log n from at sum u e =
    let r = begun n sum (drop at log) e in
    let w = r.whole in
    let low = u.low in
    let long = length-drop at log in
    let step = step-on (length log) n sum (drop at log) (omega (arith, long)) e in
    let next = onward (length log) n (sum_in (drop at log)) log at in
    record {
      low = omega (arith, low, w, long);
      rest = ap (λ v. v.rest) (sym next) ∙ (ap (λ (v : LogReading). v.rest) (sym step) ∙ u.rest);
      last = ap (λ v. v.sum) (sym next) ∙ (ap (λ (v : LogReading). v.sum) (sym step) ∙ u.last);
      start = λ z. absurd (omega (arith, z));
      some = λ k z none. some-on log n from at sum u e none;
    }

pub record ReadAll (log : List ℕ) (n : ℕ) (from : ℕ × ℕ) (at : ℕ) (sum : ℕ × ℕ) : Type 0 where
  pub low : at ≤ length log
  pub rest : drop at log ≡ (log_reading n from log).rest
  pub last : sum ≡ (log_reading n from log).sum
  pub none : (at ≡ 0) ↔ ((log_reading n from log).changes ≡ [])

none-read : (log : List ℕ) (n : ℕ) (from : ℕ × ℕ) (at : ℕ) (sum : ℕ × ℕ) → Reads log n from at sum → begins_record n sum (drop at log) ≡ false → (at ≡ 0) ↔ ((log_reading n from log).changes ≡ [])
none-read log n from zero sum u e = (
  λ z. ap (λ (v : LogReading). v.changes) (step-false (length log) n from log (ap (λ v. begins_record n v log) (sym (u.start refl)) ∙ e)),
  λ z. refl,
)
none-read log n from (suc k) sum u e = (λ z. cc, λ z. absurd (u.some k refl z))

pub reads-all : (log : List ℕ) (n : ℕ) (from : ℕ × ℕ) (at : ℕ) (sum : ℕ × ℕ) → Reads log n from at sum → begins_record n sum (drop at log) ≡ false → ReadAll log n from at sum
reads-all log n from at sum u e =
    let stop = step-false (length log) n sum (drop at log) e in
    record {
      low = u.low;
      rest = ap (λ (v : LogReading). v.rest) (sym stop) ∙ u.rest;
      last = ap (λ (v : LogReading). v.sum) (sym stop) ∙ u.last;
      none = none-read log n from at sum u e;
    }

pub goes-on : (old mid new : Facts) → CountsNeverFall old mid → CountsNeverFall mid new → CountsNeverFall old new
goes-on old mid new a b =
    let p = a.cuts in
    let q = b.cuts in
    let r = a.slows in
    let s = b.slows in
    record { size = b.size ∙ a.size; cuts = omega (arith, p, q); slows = omega (arith, r, s) }

-- one record more
pub one-on : (log : List ℕ) (from : ℕ × ℕ) (old mid new : Facts) (at : ℕ) (sum : ℕ × ℕ) → Underway log from old mid at sum → begins_record (length old.contents / 512) sum (drop at log) ≡ true
    → new.sound ≡ mid.sound → CountsNeverFall mid new → (IsDiskReady mid → IsDiskReady new)
    → (mid.sound ≡ true → new.contents ≡ with_change mid.contents (change_in (drop at log)))
    → Underway log from old new (at + record_len (drop at log)) (sum_in (drop at log))
unfolding replayed
one-on log from old mid new at sum u e sound goes ready done =
    let n = length old.contents / 512 in
    let r = begun n sum (drop at log) e in
    let w = r.whole in
    let low = u.low in
    let long = length-drop at log in
    let step = step-on (length log) n sum (drop at log) (omega (arith, long)) e in
    let next = onward (length log) n (sum_in (drop at log)) log at in
    record {
      low = omega (arith, low, w, long);
      sound = sound ∙ u.sound;
      goes = goes-on old mid new u.goes goes;
      ready = λ r. ready (u.ready r);
      contents = λ s.
          ap (λ v. replayed v.changes new.contents) (sym next)
          ∙ (ap (λ v. replayed (read_some (length log) n (sum_in (drop at log)) (drop (record_len (drop at log)) (drop at log))).changes v) (done (u.sound ∙ s))
          ∙ (ap (λ (v : LogReading). replayed v.changes mid.contents) (sym step) ∙ u.contents s));
    }

-- no record more
pub at-end : (log : List ℕ) (from : ℕ × ℕ) (old new : Facts) (at : ℕ) (sum : ℕ × ℕ) → Underway log from old new at sum → begins_record (length old.contents / 512) sum (drop at log) ≡ false
    → old.sound ≡ true → new.contents ≡ replayed (log_reading (length old.contents / 512) from log).changes old.contents
unfolding replayed
at-end log from old new at sum u e s =
    ap (λ (v : LogReading). replayed v.changes new.contents) (sym (step-false (length log) (length old.contents / 512) sum (drop at log) e)) ∙ u.contents s

pub no-both : (t : Bool) → t ≡ true → t ≡ false → ⊥
no-both true e f = cc
no-both false e f = cc

-- an error comes only where one comes below
pub failed-on : (T U : Type 0) (e : DiskError) (old mid new : Facts) → CountsNeverFall old mid → (IsDiskReady old → IsDiskReady mid) → Latches {T = T} mid (Err e) new
    → IsDiskReady old → Latches {T = U} old (Err e) new
failed-on T U errors.Cut old mid new goes still l ready =
    (elim l.0 [ inl stood ↦ absurd (no-both mid.cut stood (still ready).0) | inr came ↦ (let a = goes.cuts in let b = came.1 in inr (ready, omega (arith, a, b))) ], l.1, l.2 ∙ ((still ready).1 ∙ sym ready.1))
failed-on T U errors.Slow old mid new goes still l ready =
    (ready.0, elim l.1 [ inl stood ↦ absurd (no-both mid.slow stood (still ready).1) | inr came ↦ (let a = goes.slows in inr (omega (arith, a, came))) ], l.2, l.3)

-- a record that isn't one of the disk's changes
less-than : (n : ℕ) (before : ℕ × ℕ) (b : List ℕ) → (1 < kind_in b) ⊎ (n < first_in b + count_in b) → begins_record n before b ≡ false
less-than n before b (inl h) = not-true (begins_record n before b) (λ e. let k = (begun n before b e).kind in absurd (omega (arith, h, k)))
less-than n before b (inr h) = not-true (begins_record n before b) (λ e. let i = (begun n before b e).inside in absurd (omega (arith, h, i)))

none-if : (t : Bool) (head : Head) → t ≡ false → None ≡ (if t then Some head else None)
none-if true head e = cc
none-if false head e = refl

pub out-of : (n : ℕ) (before : ℕ × ℕ) (b : List ℕ) (head : Head) → (if is_whole before b then Some (head_in b) else None) ≡ Some head → (1 < head.kind) ⊎ (n < head.first + head.count)
    → None ≡ (if begins_record n before b then Some (head_in b) else None)
out-of n before b head e h =
    let is = (found (is_whole before b) (head_in b) head e).1 in
    none-if (begins_record n before b) (head_in b) (less-than n before b (subst (λ (v : Head). (1 < v.kind) ⊎ (n < v.first + v.count)) is h))

-- what the change of such a record asks
pub kind-of : (n : ℕ) (sum : ℕ × ℕ) (b : List ℕ) → begins_record n sum b ≡ true → kind_in b < 2
kind-of n sum b e = (begun n sum b e).kind

pub inside-of : (n : ℕ) (sum : ℕ × ℕ) (b contents : List ℕ) → begins_record n sum b ≡ true → n ≤ length contents / 512 → 512 * (first_in b + count_in b) ≤ length contents
inside-of n sum b contents e low = (let r = begun n sum b e in let i = r.inside in omega (arith, i, low))

pub whole-of : (n : ℕ) (sum : ℕ × ℕ) (b : List ℕ) → begins_record n sum b ≡ true → record_len b ≤ length b
whole-of n sum b e = (begun n sum b e).whole

-- what is sliced off behind `at`
abbrev pub behind-at : List ℕ → ℕ → List ℕ
behind-at log at = take (length log - at) (drop at log)

pub all-behind : (log : List ℕ) (at : ℕ) → at ≤ length log → behind-at log at ≡ drop at log
all-behind log at low = take_all (length log - at) (drop at log) (rw (length-drop at log) (omega (arith, low)))

-- the record that a slice begins with
pub record Here (log : List ℕ) (n at : ℕ) (sum : ℕ × ℕ) (head : Head) : Type 0 where
  pub begins : begins_record n sum (drop at log) ≡ true
  pub says : head ≡ head_in (drop at log)

pub here-of : (log : List ℕ) (n sectors at : ℕ) (sum : ℕ × ℕ) (head : Head) → sectors ≡ n → at ≤ length log
    → (if begins_record sectors sum (behind-at log at) then Some (head_in (behind-at log at)) else None) ≡ Some head → Here log n at sum head
here-of log n sectors at sum head same low e =
    let all = all-behind log at low in
    let f = is-found n sum (drop at log) head
    (ap (λ b. if begins_record n sum b then Some (head_in b) else None) (sym all) ∙ (ap (λ k. if begins_record k sum (behind-at log at) then Some (head_in (behind-at log at)) else None) (sym same) ∙ e)) in
    record { begins = f.0; says = f.1 }

pub none-of : (log : List ℕ) (n sectors at : ℕ) (sum : ℕ × ℕ) → sectors ≡ n → at ≤ length log
    → (if begins_record sectors sum (behind-at log at) then Some (head_in (behind-at log at)) else None) ≡ None → begins_record n sum (drop at log) ≡ false
none-of log n sectors at sum same low e =
    let all = all-behind log at low in
    is-lost n sum (drop at log) (ap (λ b. if begins_record n sum b then Some (head_in b) else None) (sym all) ∙ (ap (λ k. if begins_record k sum (behind-at log at) then Some (head_in (behind-at log at)) else None) (sym same) ∙ e))

-- what is sliced off behind its head
pub sliced : (log : List ℕ) (at p : ℕ) → at ≤ length log → p ≡ body_len (behind-at log at)
    → take (24 + p - 24) (drop 24 (behind-at log at)) ≡ body_in (drop at log)
sliced log at p low same =
    ap (λ k. take k (drop 24 (behind-at log at))) (omega (arith, same)) ∙ ap (λ b. body_in b) (all-behind log at low)

pub sliced-len : (log : List ℕ) (n at p : ℕ) (sum : ℕ × ℕ) (head : Head) → at ≤ length log → p ≡ body_len (behind-at log at) → Here log n at sum head
    → length (take (24 + p - 24) (drop 24 (behind-at log at))) ≡ body_len_of head.kind head.count
sliced-len log n at p sum head low same here =
    let b = begun n sum (drop at log) here.begins in
    let h = b.head in
    let w = b.whole in
    ap (λ v. length v) (sliced log at p low same)
    ∙ (length-take-le (body_len (drop at log)) (drop 24 (drop at log)) (rw (length-drop 24 (drop at log)) (omega (arith, h, w)))
    ∙ ap (λ (v : Head). body_len_of v.kind v.count) (sym here.says))

pub change-here : (log : List ℕ) (n at p : ℕ) (sum : ℕ × ℕ) (head : Head) → at ≤ length log → p ≡ body_len (behind-at log at) → Here log n at sum head
    → record_change head.kind head.first head.count (take (24 + p - 24) (drop 24 (behind-at log at))) ≡ change_in (drop at log)
change-here log n at p sum head low same here =
    ap (λ v. record_change head.kind head.first head.count v) (sliced log at p low same)
    ∙ ap (λ (v : Head). record_change v.kind v.first v.count (body_in (drop at log))) here.says
