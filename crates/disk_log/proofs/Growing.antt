-- What a record that is appended is read as.
use Rattle.std.proofs.Common.{◌≡◌, ℕ, ◌+◌, ◌*◌, ◌<◌, ◌≤◌, Bool, true, false, List, [], ◌∷◌, ◌++◌, length, take, drop, ap, sym, ◌∙◌, arith, refl}
use Rattle.std.specs.Prelude.{if◌then◌else◌, ◌==◌, ◌/◌, replicate}
use Rattle.std.proofs.lemmas.List.{length-append, length-drop, length-replicate, drop-append-le, drop-drop, take-append-le, take_all}
use Rattle.sqlite_wal.specs.Format.{checksum}
use Rattle.disk_log.specs.Records.{is_whole, kind_in, first_in, count_in, sum_in, sum_over, body_in, body_len, body_len_of, record_len, change_in, record_change}
use Rattle.disk_log.specs.Logs.{log_reading}
use Rattle.disk_log.proofs.Records.{Whole, begins, none-torn, kind-same, first-same, count-same, sum-same, len-same}
use Rattle.disk_log.proofs.Readings.{is_empty, one-read}

pub not-true : (t : Bool) → (t ≡ true → ⊥) → t ≡ false
not-true true f = absurd (f refl)
not-true false f = refl

-- What a head says, and the body behind it.
pub record Made (head body : List ℕ) (kind first count : ℕ) (before next : ℕ × ℕ) : Type 0 where
  pub long : length head ≡ 24
  pub len : length body ≡ body_len_of kind count
  pub kind_is : kind_in head ≡ kind
  pub first_is : first_in head ≡ first
  pub count_is : count_in head ≡ count
  pub sum_is : sum_in head ≡ next
  pub over : next ≡ checksum false (checksum false before (take 16 head)) body

module _ (head body : List ℕ) (kind first count : ℕ) (before next : ℕ × ℕ) (made : Made head body kind first count before next) where
  at_least : 24 ≤ length head
  at_least = (let long = made.long in omega (arith, long))

  all_len : body_len (head ++ body) ≡ length body
  all_len = len-same head body at_least ∙ (ap (λ v. body_len_of v (count_in head)) made.kind_is ∙ (ap (λ v. body_len_of kind v) made.count_is ∙ sym made.len))

  behind_head : drop 24 (head ++ body) ≡ body
  behind_head = (let long = made.long in drop-append-le 24 head body at_least ∙ ap (λ v. v ++ body) (is_empty (drop 24 head) (length-drop 24 head ∙ omega (arith, long))))

  body_is : body_in (head ++ body) ≡ body
  body_is = ap (λ v. take v (drop 24 (head ++ body))) all_len ∙ (ap (λ v. take (length body) v) behind_head ∙ take_all (length body) body (omega arith))

  pub made-len : record_len (head ++ body) ≡ length (head ++ body)
  made-len = (let long = made.long in let all = length-append head body in let len = all_len in omega (arith, long, all, len))

  pub made-sum : sum_in (head ++ body) ≡ next
  made-sum = sum-same head body at_least ∙ made.sum_is

  pub made-change : change_in (head ++ body) ≡ record_change kind first count body
  made-change =
      ap (λ v. record_change v (first_in (head ++ body)) (count_in (head ++ body)) (body_in (head ++ body))) (kind-same head body at_least ∙ made.kind_is)
      ∙ (ap (λ v. record_change kind v (count_in (head ++ body)) (body_in (head ++ body))) (first-same head body at_least ∙ made.first_is)
      ∙ (ap (λ v. record_change kind first v (body_in (head ++ body))) (count-same head body at_least ∙ made.count_is)
      ∙ ap (λ v. record_change kind first count v) body_is))

  pub made-whole : Whole before (head ++ body)
  made-whole =
      let long = made.long in
      let all = length-append head body in
      let whole = made-len in
      let sums : sum_in (head ++ body) ≡ sum_over before (head ++ body) =
      made-sum ∙ (made.over
      ∙ (ap (λ v. checksum false (checksum false before v) body) (sym (take-append-le 16 head body (omega (arith, long))))
      ∙ ap (λ v. checksum false (checksum false before (take 16 (head ++ body))) v) (sym body_is))) in
      record {
        head = omega (arith, long, all);
        whole = omega (arith, whole);
        one = ap (λ (v : ℕ × ℕ). v.0) sums;
        two = ap (λ (v : ℕ × ℕ). v.1) sums;
      }

  pub made-kind : kind_in (head ++ body) ≡ kind
  made-kind = kind-same head body at_least ∙ made.kind_is

  pub made-count : count_in (head ++ body) ≡ count
  made-count = count-same head body at_least ∙ made.count_is

  pub made-body : (k : ℕ) → drop (24 + k) (head ++ body) ≡ drop k body
  made-body k = sym (drop-drop k 24 (head ++ body)) ∙ ap (λ v. drop k v) behind_head

  -- read behind the record before it
  pub made-read : (n : ℕ) → kind < 2 → first + count ≤ n → log_reading n before (head ++ body) ≡ record { changes = record_change kind first count body ∷ []; sum = next; rest = [] }
  made-read n two inside =
      let w = made-whole in
      let good = begins n before (head ++ body) (record {
        head = w.head;
        kind = rw made-kind two;
        inside = rw (first-same head body at_least) (rw made.first_is (rw made-count inside));
        whole = w.whole;
        one = w.one;
        two = w.two;
      }) in
      one-read n before (head ++ body) good made-len
      ∙ (ap (λ v. record { changes = v ∷ []; sum = sum_in (head ++ body); rest = [] }) made-change
      ∙ ap (λ v. record { changes = record_change kind first count body ∷ []; sum = v; rest = [] }) made-sum)

  -- a part that is cut short is none
  pub made-torn : (taken : List ℕ) (r : ℕ) (rest : List ℕ) → head ++ body ≡ taken ++ r ∷ rest → is_whole before taken ≡ false
  made-torn taken r rest same = not-true (is_whole before taken)
      (λ e. none-torn before taken (r ∷ rest) (ap record_len (sym same) ∙ (made-len ∙ ap length same)) (omega arith) e)

count-by : (t : Bool) (first count : ℕ) (body : List ℕ) (other : ℕ) → length body ≡ (if t then 512 * count else other) → length (if t then body else replicate (512 * count) 0) ≡ 512 * count
count-by true first count body other len = len
count-by false first count body other len = length-replicate {A = ℕ} (512 * count) 0

pub change-length : (kind first count : ℕ) (body : List ℕ) → length body ≡ body_len_of kind count → length (record_change kind first count body).bytes ≡ 512 * count
change-length kind first count body len = count-by (kind == 0) first count body (if kind == 2 then 8 + 4104 * count else 0) len

pub change-inside : (kind first count : ℕ) (body : List ℕ) → length body ≡ body_len_of kind count → first + length (record_change kind first count body).bytes / 512 ≡ first + count
change-inside kind first count body len = (let e = change-length kind first count body len in ap (λ v. first + v / 512) e ∙ omega arith)
