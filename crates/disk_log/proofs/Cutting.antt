-- A log that is cut behind its changes.
use Rattle.std.proofs.Common.{◌≡◌, ℕ, zero, suc, ◌+◌, ◌≤◌, true, false, List, [], ◌∷◌, ◌++◌, ◌⊎◌, inl, inr, length, take, drop, ap, sym, ◌∙◌, arith, refl, subst, Option, Some, None, Result, Ok, Err}
use Rattle.std.specs.Result.{IsErr}
use Rattle.std.specs.Prelude.{◌==◌}
use Rattle.std.proofs.lemmas.Bool.{lt-ltb}
use Rattle.disk_log.proofs.Places.{number-front}
use Rattle.std.proofs.lemmas.List.{length-append, length-drop, length-take-le, drop-append-le, take-append-drop}
use Rattle.disk_log.specs.Records.{begins_record, record_len, body_len, change_in, sum_in}
use Rattle.disk_log.specs.Checkpoints.{image_sum}
use Rattle.disk_log.specs.Logs.{LogReading, read_some, log_reading, log_changes, has_head, head_sum, has_checkpoint, contents_in, Medium}
use Rattle.disk_log.specs.Files.{SyncsImage, CutsLog, IsNeedless, OfFiles}
use Rattle.disk_log.specs.Reading.{IsRead, ReadsLog, TakesUp}
use Rattle.disk_log.specs.declared.reading.Found.{Found}
use Rattle.disk_log.specs.declared.reading.Found.TheVariants as founds
use Rattle.disk_log.proofs.Records.{Begins, begins, begun, kind-same, first-same, count-same, sum-same, len-same, over-same, change-same, both, parts}
use Rattle.disk_log.proofs.Readings.{cases, is_empty, enough, step-true, step-false}
use Rattle.disk_log.proofs.Held.{log-is, head-long, head-sum-more, told, told-changes}

-- A record stays one without what is behind it.
begins-alone : (n : ℕ) (before : ℕ × ℕ) (xs ys : List ℕ) → 24 ≤ length xs → record_len xs ≤ length xs → Begins n before (xs ++ ys) → Begins n before xs
begins-alone n before xs ys h w r =
    let sums = sum-same xs ys h in
    let over = over-same xs ys h before w in
    let k = kind-same xs ys h in
    let f = first-same xs ys h in
    let c = count-same xs ys h in
    let kind = r.kind in
    let inside = r.inside in
    record {
      head = h;
      kind = omega (arith, k, kind);
      inside = omega (arith, f, c, inside);
      whole = w;
      one = ap (λ v. v.0) (sym sums) ∙ (r.one ∙ ap (λ v. v.0) over);
      two = ap (λ v. v.1) (sym sums) ∙ (r.two ∙ ap (λ v. v.1) over);
    }

rest-short : (k n : ℕ) (before : ℕ × ℕ) (b : List ℕ) → (begins_record n before b ≡ true) ⊎ (begins_record n before b ≡ false) → length (read_some k n before b).rest ≤ length b
unfolding read_some
rest-short k n before b (inr e) = (let s = ap (λ (r : LogReading). length r.rest) (step-false k n before b e) in omega (arith, s))
rest-short zero n before b (inl e) = omega arith
rest-short (suc k) n before b (inl e) =
    let s = ap (λ (r : LogReading). length r.rest) (step-true k n before b e) in
    let more = rest-short k n (sum_in b) (drop (record_len b) b) (cases (begins_record n (sum_in b) (drop (record_len b) b))) in
    let d = length-drop (record_len b) b in
    omega (arith, s, more, d)

ended : (u rest b : List ℕ) → u ++ rest ≡ b → rest ≡ b → u ≡ []
ended u rest b e same = (let l = length-append u rest in let a = ap (λ v. length v) e in let c = ap (λ v. length v) same in is_empty u (omega (arith, l, a, c)))

none-behind : (k n : ℕ) (before : ℕ × ℕ) (b u : List ℕ) → begins_record n before b ≡ false → u ++ (read_some k n before b).rest ≡ b
    → read_some k n before u ≡ record { changes = (read_some k n before b).changes; sum = (read_some k n before b).sum; rest = [] }
none-behind k n before b u e all =
    let stop = step-false k n before b e in
    let none = ended u (read_some k n before b).rest b all (ap (λ (r : LogReading). r.rest) stop) in
    ap (λ v. read_some k n before v) none
    ∙ (step-false k n before [] refl
    ∙ ap (λ (r : LogReading). record { changes = r.changes; sum = r.sum; rest = [] }) (sym stop))

-- What was read is read the same alone.
pub front-read : (k n : ℕ) (before : ℕ × ℕ) (b u : List ℕ) → (begins_record n before b ≡ true) ⊎ (begins_record n before b ≡ false) → u ++ (read_some k n before b).rest ≡ b
    → read_some k n before u ≡ record { changes = (read_some k n before b).changes; sum = (read_some k n before b).sum; rest = [] }
unfolding read_some
front-read k n before b u (inr e) all = none-behind k n before b u e all
front-read zero n before b u (inl e) all = ap (λ v. record { changes = []; sum = before; rest = v }) (ended u b b all refl)
front-read (suc k) n before b u (inl e) all =
    let step = step-true k n before b e in
    let r = begun n before b e in
    let h = r.head in
    let w = r.whole in
    let left : List ℕ = drop (record_len b) b in
    let rest : List ℕ = (read_some k n (sum_in b) left).rest in
    let whole : u ++ rest ≡ b = ap (λ (v : LogReading). u ++ v.rest) (sym step) ∙ all in
    let short = rest-short k n (sum_in b) left (cases (begins_record n (sum_in b) left)) in
    let d = length-drop (record_len b) b in
    let l = length-append u rest in
    let a = ap (λ (v : List ℕ). length v) whole in
    let long : record_len b ≤ length u = omega (arith, w, short, d, l, a) in
    let head : 24 ≤ length u = omega (arith, long) in
    let len : record_len u ≡ record_len b = ap (λ k. 24 + k) (sym (len-same u rest head) ∙ ap (λ v. body_len v) whole) in
    let fits : record_len u ≤ length u = omega (arith, len, long) in
    let good = begins n before u (begins-alone n before u rest head fits (subst (λ v. Begins n before v) (sym whole) r)) in
    let sums : sum_in u ≡ sum_in b = sym (sum-same u rest head) ∙ ap (λ v. sum_in v) whole in
    let changes : change_in u ≡ change_in b = sym (change-same u rest head fits) ∙ ap (λ v. change_in v) whole in
    let behind : drop (record_len b) u ++ rest ≡ left = sym (drop-append-le (record_len b) u rest long) ∙ ap (λ v. drop (record_len b) v) whole in
    let more = front-read k n (sum_in b) left (drop (record_len b) u) (cases (begins_record n (sum_in b) left)) behind in
    step-true k n before u good
    ∙ (ap (λ v. record { changes = v ∷ (read_some k n (sum_in u) (drop (record_len u) u)).changes; sum = (read_some k n (sum_in u) (drop (record_len u) u)).sum; rest = (read_some k n (sum_in u) (drop (record_len u) u)).rest }) changes
    ∙ (ap (λ (v : (ℕ × ℕ) × ℕ). record { changes = change_in b ∷ (read_some k n v.0 (drop v.1 u)).changes; sum = (read_some k n v.0 (drop v.1 u)).sum; rest = (read_some k n v.0 (drop v.1 u)).rest }) (ap (λ (s : ℕ × ℕ). (s, record_len u)) sums ∙ ap (λ (j : ℕ). (sum_in b, j)) len)
    ∙ (ap (λ (v : LogReading). record { changes = change_in b ∷ v.changes; sum = v.sum; rest = v.rest }) more
    ∙ ap (λ (v : LogReading). record { changes = v.changes; sum = v.sum; rest = [] }) (sym step))))

head-less : (t d : List ℕ) → has_head (t ++ d) ≡ true → 16 ≤ length t → has_head t ≡ true
head-less t d e long =
    let p = parts _ _ e in
    let q = parts _ _ p.0 in
    both _ _ (both _ _ (lt-ltb 15 (length t) (omega (arith, long)))
    (ap (λ v. v == 0x4252_4F4E) (sym (number-front 0 t d (omega (arith, long)))) ∙ q.1))
    (ap (λ v. v == 0x474F_4C44) (sym (number-front 4 t d (omega (arith, long)))) ∙ p.1)

-- A log that ends behind its changes.
module _ (n len : ℕ) (log : List ℕ) (head : has_head log ≡ true) (low : len ≤ length log) (rest : drop len log ≡ (log_changes n log).rest) where
  rest-is : drop len log ≡ (log_reading n (head_sum log) (drop 16 log)).rest
  rest-is = rest ∙ ap (λ (r : LogReading). r.rest) (log-is n log head)

  pub long : 16 ≤ len
  long =
      let short = rest-short (length (drop 16 log)) n (head_sum log) (drop 16 log) (cases (begins_record n (head_sum log) (drop 16 log))) in
      let a = ap (λ (v : List ℕ). length v) rest-is in
      let b = length-drop len log in
      let c = length-drop 16 log in
      let d = head-long log head in
      omega (arith, short, a, b, c, d, low)

  both-are : take len log ++ drop len log ≡ log
  both-are = take-append-drop len log

  cut-len : length (take len log) ≡ len
  cut-len = length-take-le len log low

  pub cut-head : has_head (take len log) ≡ true
  cut-head = (let l = cut-len in let h = long in head-less (take len log) (drop len log) (ap (λ v. has_head v) both-are ∙ head) (omega (arith, l, h)))

  pub cut-own : head_sum (take len log) ≡ head_sum log
  cut-own = sym (head-sum-more (take len log) (drop len log) cut-head) ∙ ap (λ v. head_sum v) both-are

  front : drop 16 (take len log) ++ (log_reading n (head_sum log) (drop 16 log)).rest ≡ drop 16 log
  front =
      (let l = cut-len in let h = long in
      ap (λ v. drop 16 (take len log) ++ v) (sym rest-is)
      ∙ (sym (drop-append-le 16 (take len log) (drop len log) (omega (arith, l, h))) ∙ ap (λ v. drop 16 v) both-are))

  pub cut-read : log_changes n (take len log) ≡ record { changes = (log_changes n log).changes; sum = (log_changes n log).sum; rest = [] }
  cut-read =
      let f = ap (λ (v : List ℕ). length v) front in
      let l = length-append (drop 16 (take len log)) (log_reading n (head_sum log) (drop 16 log)).rest in
      log-is n (take len log) cut-head
      ∙ (ap (λ v. log_reading n v (drop 16 (take len log))) cut-own
      ∙ (enough (length (drop 16 (take len log))) (length (drop 16 log)) n (head_sum log) (drop 16 (take len log)) (omega arith) (omega (arith, f, l))
      ∙ (front-read (length (drop 16 log)) n (head_sum log) (drop 16 log) (drop 16 (take len log)) (cases (begins_record n (head_sum log) (drop 16 log))) front
      ∙ ap (λ (r : LogReading). record { changes = r.changes; sum = r.sum; rest = [] }) (sym (log-is n log head)))))

  pub cut-holds : (represents : List ℕ → List ℕ) (image : List ℕ) → has_checkpoint n log ≡ false → contents_in represents n image (take len log) ≡ contents_in represents n image log
  cut-holds represents image none =
      ap (λ r. told represents image r) cut-read
      ∙ (told-changes represents image (record { changes = (log_changes n log).changes; sum = (log_changes n log).sum; rest = [] }) refl
      ∙ sym (told-changes represents image (log_changes n log) none))

found-here : (m : Medium) (n : ℕ) (log image : List ℕ) (f : Found) → m.sectors ≡ n → m.log ≡ log → ReadsLog n log m.image (Ok f) image → ReadsLog m.sectors m.log m.image (Ok f) image
found-here m n log image f e q h = subst (λ k. ReadsLog k m.log m.image (Ok f) image) (sym e) (subst (λ v. ReadsLog n v m.image (Ok f) image) (sym q) h)

-- what is behind the changes that a start found is cut off
module _ (n len : ℕ) (sum : ℕ × ℕ) (image log : List ℕ) where
  pub records-needless : (T E : Type 0) (t : T) (old mid : Option Medium) → OfFiles old (λ m. IsRead n image log (founds.Records len sum) m) → SyncsImage {T = T} {E = E} old (Ok t) mid
      → OfFiles mid (λ m. IsNeedless len m)
  records-needless T E t None mid h s = subst (λ v. OfFiles v (λ m. IsNeedless len m)) (sym s) tt
  records-needless T E t (Some m) mid h s =
      let f = found-here m n log image (founds.Records len sum) h.0 h.1 h.2 in
      subst (λ v. OfFiles v (λ m. IsNeedless len m)) (sym s) (record {
        low = f.3;
        settled = refl;
        same = λ represents. cut-holds m.sectors len m.log f.0 f.3 f.4 represents m.image f.1;
      })

  pub records-taken : (T U E F : Type 0) (t : T) (u : U) (old mid new : Option Medium) → OfFiles old (λ m. IsRead n image log (founds.Records len sum) m) → SyncsImage {T = T} {E = E} old (Ok t) mid
      → CutsLog {T = U} {E = E} len mid (Ok u) new → TakesUp {E = F} old image (Ok sum) new
  records-taken T U E F t u None mid new h s c = subst (λ v. CutsLog {T = U} {E = E} len v (Ok u) new) s c
  records-taken T U E F t u (Some m) mid new h s c =
      let c' = subst (λ v. CutsLog {T = U} {E = E} len v (Ok u) new) s c in
      let f = found-here m n log image (founds.Records len sum) h.0 h.1 h.2 in
      let read = sym (log-is m.sectors (take len m.log) (cut-head m.sectors len m.log f.0 f.3 f.4)) ∙ cut-read m.sectors len m.log f.0 f.3 f.4 in (
        record m { log = take len m.log; safe = len; settled = true },
        c',
        refl,
        record {
          same = sym f.6;
          head = cut-head m.sectors len m.log f.0 f.3 f.4;
          own = cut-own m.sectors len m.log f.0 f.3 f.4 ∙ (f.2 ∙ ap (λ v. image_sum v) (sym f.6));
          whole = record { rest = ap (λ (r : LogReading). r.rest) read; sum = ap (λ (r : LogReading). r.sum) read ∙ sym f.5 };
        },
        λ represents. cut-holds m.sectors len m.log f.0 f.3 f.4 represents m.image f.1,
        refl,
        (let l = length-take-le len m.log f.3 in omega (arith, l)),
      )

  pub records-uncut : (T U E F : Type 0) (t : T) (e : E) (r : Result (ℕ × ℕ) F) → IsErr r → (old mid new : Option Medium) → OfFiles old (λ m. IsRead n image log (founds.Records len sum) m)
      → SyncsImage {T = T} {E = E} old (Ok t) mid → CutsLog {T = U} {E = E} len mid (Err e) new → TakesUp {E = F} old image r new
  records-uncut T U E F t e (Ok x) bad old mid new h s c = absurd (cc bad)
  records-uncut T U E F t e (Err g) bad None mid new h s c = subst (λ v. CutsLog {T = U} {E = E} len v (Err e) new) s c
  records-uncut T U E F t e (Err g) bad (Some m) mid new h s c =
      let c' = subst (λ v. CutsLog {T = U} {E = E} len v (Err e) new) s c in
      let f = found-here m n log image (founds.Records len sum) h.0 h.1 h.2 in (
        record m { log = c'.0; safe = c'.1; settled = true },
        c'.3,
        λ represents. elim c'.2 [
          | inl q ↦ ap (λ v. contents_in represents m.sectors m.image v) q.0
          | inr q ↦ ap (λ v. contents_in represents m.sectors m.image v) q.0 ∙ cut-holds m.sectors len m.log f.0 f.3 f.4 represents m.image f.1
        ],
      )
