-- What is read of a log that grows.
use Rattle.std.proofs.Common.{◌≡◌, ℕ, zero, suc, ◌+◌, ◌≤◌, Bool, true, false, List, [], ◌∷◌, ◌++◌, ◌⊎◌, inl, inr, length, drop, ap, sym, ◌∙◌, arith, refl}
use Rattle.std.specs.Prelude.{if◌then◌else◌}
use Rattle.std.proofs.lemmas.List.{length-append, length-drop, drop-append-le}
use Rattle.disk_log.specs.Records.{Change, begins_record, record_len, change_in, sum_in, with_change, replayed}
use Rattle.disk_log.specs.Logs.{LogReading, read_some, log_reading}
use Rattle.disk_log.proofs.Records.{begun, begins, begins-still, change-same, sum-same, len-same}

pub cases : (t : Bool) → (t ≡ true) ⊎ (t ≡ false)
cases true = inl refl
cases false = inr refl

pub is_empty : (xs : List ℕ) → length xs ≡ 0 → xs ≡ []
is_empty [] e = refl
is_empty (x ∷ xs) e = absurd (cc e)

-- some changes in front of a reading
abbrev pub behind : List Change → LogReading → LogReading
behind changes r = record { changes = changes ++ r.changes; sum = r.sum; rest = r.rest }

abbrev ends : ℕ × ℕ → List ℕ → LogReading
ends before b = record { changes = []; sum = before; rest = b }

abbrev goes-on : ℕ → ℕ → List ℕ → LogReading
goes-on k n b = let more = read_some k n (sum_in b) (drop (record_len b) b) in record { changes = change_in b ∷ more.changes; sum = more.sum; rest = more.rest }

pub step-true : (k n : ℕ) (before : ℕ × ℕ) (b : List ℕ) → begins_record n before b ≡ true → read_some (suc k) n before b ≡ goes-on k n b
unfolding read_some
step-true k n before b e = ap (λ t. if t then goes-on k n b else ends before b) e

pub step-false : (k n : ℕ) (before : ℕ × ℕ) (b : List ℕ) → begins_record n before b ≡ false → read_some k n before b ≡ ends before b
unfolding read_some
step-false zero n before b e = refl
step-false (suc k) n before b e = ap (λ t. if t then goes-on k n b else ends before b) e

none-empty : (n : ℕ) (before : ℕ × ℕ) → begins_record n before [] ≡ false
none-empty n before = refl

rest-len : (n : ℕ) (before : ℕ × ℕ) (b : List ℕ) (k : ℕ) → length b ≤ suc k → begins_record n before b ≡ true → length (drop (record_len b) b) ≤ k
rest-len n before b k low e =
    let r = begun n before b e in
    let h = r.head in
    let w = r.whole in
    rw (length-drop (record_len b) b) (omega (arith, low, h, w))

-- No more records are read than there are bytes.
enough-by : (k j n : ℕ) (before : ℕ × ℕ) (b : List ℕ) → length b ≤ k → length b ≤ j → (begins_record n before b ≡ true) ⊎ (begins_record n before b ≡ false) → read_some k n before b ≡ read_some j n before b
enough-by k j n before b p q (inr e) = step-false k n before b e ∙ sym (step-false j n before b e)
enough-by zero j n before b p q (inl e) = (let r = begun n before b e in let h = r.head in absurd (omega (arith, p, h)))
enough-by (suc k) zero n before b p q (inl e) = (let r = begun n before b e in let h = r.head in absurd (omega (arith, q, h)))
enough-by (suc k) (suc j) n before b p q (inl e) =
    step-true k n before b e
    ∙ (ap (λ r. record { changes = change_in b ∷ r.changes; sum = r.sum; rest = r.rest })
    (enough-by k j n (sum_in b) (drop (record_len b) b) (rest-len n before b k p e) (rest-len n before b j q e) (cases (begins_record n (sum_in b) (drop (record_len b) b))))
    ∙ sym (step-true j n before b e))

pub enough : (k j n : ℕ) (before : ℕ × ℕ) (b : List ℕ) → length b ≤ k → length b ≤ j → read_some k n before b ≡ read_some j n before b
enough k j n before b p q = enough-by k j n before b p q (cases (begins_record n before b))

read-on-none : (k n : ℕ) (before : ℕ × ℕ) (xs ys : List ℕ) → begins_record n before xs ≡ false → (read_some k n before xs).rest ≡ []
    → read_some k n before (xs ++ ys) ≡ behind (read_some k n before xs).changes (read_some k n (read_some k n before xs).sum ys)
read-on-none k n before xs ys e ended =
    let none : read_some k n before xs ≡ ends before xs = step-false k n before xs e in
    let all : xs ≡ [] = ap (λ r. r.rest) (sym none) ∙ ended in
    ap (λ v. read_some k n before (v ++ ys)) all
    ∙ ap (λ r. behind r.changes (read_some k n r.sum ys)) (sym none)

-- Behind records that end a log, what follows is read with their last sum.
read-on-by : (k n : ℕ) (before : ℕ × ℕ) (xs ys : List ℕ) → length (xs ++ ys) ≤ k → (begins_record n before xs ≡ true) ⊎ (begins_record n before xs ≡ false) → (read_some k n before xs).rest ≡ []
    → read_some k n before (xs ++ ys) ≡ behind (read_some k n before xs).changes (read_some k n (read_some k n before xs).sum ys)
read-on-by k n before xs ys low (inr e) ended = read-on-none k n before xs ys e ended
read-on-by zero n before xs ys low (inl e) ended = (let r = begun n before xs e in let h = r.head in let long = length-append xs ys in absurd (omega (arith, low, h, long)))
read-on-by (suc k) n before xs ys low (inl e) ended =
    let r = begun n before xs e in
    let h = r.head in
    let w = r.whole in
    let long = length-append xs ys in
    let here : read_some (suc k) n before xs ≡ goes-on k n xs = step-true k n before xs e in
    let left : List ℕ = drop (record_len xs) xs in
    let whole : begins_record n before (xs ++ ys) ≡ true = begins n before (xs ++ ys) (begins-still n before xs ys r) in
    let less : length (left ++ ys) ≤ k = rw (length-append left ys) (rw (length-drop (record_len xs) xs) (omega (arith, low, h, w, long))) in
    let most : length ys ≤ k = omega (arith, low, h, long) in
    let onward = read-on-by k n (sum_in xs) left ys less (cases (begins_record n (sum_in xs) left)) (ap (λ r. r.rest) (sym here) ∙ ended) in
    let dropped : drop (record_len (xs ++ ys)) (xs ++ ys) ≡ left ++ ys = ap (λ v. drop (24 + v) (xs ++ ys)) (len-same xs ys h) ∙ drop-append-le (record_len xs) xs ys w in
    step-true k n before (xs ++ ys) whole
    ∙ (ap (λ v. record { changes = v ∷ (read_some k n (sum_in (xs ++ ys)) (drop (record_len (xs ++ ys)) (xs ++ ys))).changes; sum = (read_some k n (sum_in (xs ++ ys)) (drop (record_len (xs ++ ys)) (xs ++ ys))).sum; rest = (read_some k n (sum_in (xs ++ ys)) (drop (record_len (xs ++ ys)) (xs ++ ys))).rest }) (change-same xs ys h w)
    ∙ (ap (λ (v : (ℕ × ℕ) × List ℕ). record { changes = change_in xs ∷ (read_some k n v.0 v.1).changes; sum = (read_some k n v.0 v.1).sum; rest = (read_some k n v.0 v.1).rest }) (ap (λ (v : ℕ × ℕ). (v, drop (record_len (xs ++ ys)) (xs ++ ys))) (sum-same xs ys h) ∙ ap (λ (v : List ℕ). (sum_in xs, v)) dropped)
    ∙ (ap (λ v. record { changes = change_in xs ∷ v.changes; sum = v.sum; rest = v.rest }) onward
    ∙ (ap (λ v. behind (change_in xs ∷ (read_some k n (sum_in xs) left).changes) v) (enough k (suc k) n (read_some k n (sum_in xs) left).sum ys most (omega (arith, most)))
    ∙ ap (λ r. behind r.changes (read_some (suc k) n r.sum ys)) (sym here)))))

pub read-on : (k n : ℕ) (before : ℕ × ℕ) (xs ys : List ℕ) → length (xs ++ ys) ≤ k → (read_some k n before xs).rest ≡ []
    → read_some k n before (xs ++ ys) ≡ behind (read_some k n before xs).changes (read_some k n (read_some k n before xs).sum ys)
read-on k n before xs ys low ended = read-on-by k n before xs ys low (cases (begins_record n before xs)) ended

-- what follows whole records is read with the sum of the last
pub reading-more : (n : ℕ) (from : ℕ × ℕ) (b x : List ℕ) → (log_reading n from b).rest ≡ []
    → log_reading n from (b ++ x) ≡ behind (log_reading n from b).changes (log_reading n (log_reading n from b).sum x)
reading-more n from b x ended =
    let long = length-append b x in
    let all = length (b ++ x) in
    let same : read_some all n from b ≡ log_reading n from b = enough all (length b) n from b (omega (arith, long)) (omega arith) in
    read-on all n from b x (omega arith) (ap (λ v. v.rest) same ∙ ended)
    ∙ (ap (λ v. behind v.changes (read_some all n v.sum x)) same
    ∙ ap (λ v. behind (log_reading n from b).changes v) (enough all (length x) n (log_reading n from b).sum x (omega (arith, long)) (omega arith)))

-- one record
pub one-read : (n : ℕ) (before : ℕ × ℕ) (r : List ℕ) → begins_record n before r ≡ true → record_len r ≡ length r
    → log_reading n before r ≡ record { changes = change_in r ∷ []; sum = sum_in r; rest = [] }
one-read n before r good len =
    let rest : drop (record_len r) r ≡ [] = is_empty (drop (record_len r) r) (length-drop (record_len r) r ∙ omega (arith, len)) in
    enough (length r) (suc (length r)) n before r (omega arith) (omega arith)
    ∙ (step-true (length r) n before r good
    ∙ (ap (λ v. record { changes = change_in r ∷ (read_some (length r) n (sum_in r) v).changes; sum = (read_some (length r) n (sum_in r) v).sum; rest = (read_some (length r) n (sum_in r) v).rest }) rest
    ∙ ap (λ v. record { changes = change_in r ∷ v.changes; sum = v.sum; rest = v.rest }) (step-false (length r) n (sum_in r) [] (none-empty n (sum_in r)))))

-- the contents after more changes
pub replayed-more : (xs ys : List Change) (contents : List ℕ) → replayed (xs ++ ys) contents ≡ replayed ys (replayed xs contents)
unfolding replayed
replayed-more [] ys contents = refl
replayed-more (x ∷ xs) ys contents = replayed-more xs ys (with_change contents x)
