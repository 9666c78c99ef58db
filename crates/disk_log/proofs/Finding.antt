-- What a start finds in a log.
use Rattle.std.proofs.Common.{◌≡◌, ℕ, ◌+◌, ◌-◌, ◌*◌, ◌≤◌, Bool, true, false, ◌&&◌, List, [], inr, length, take, drop, ap, sym, ◌∙◌, arith, refl, subst, Some, None, Result, Ok, Err}
use Rattle.std.specs.Prelude.{if◌then◌else◌, ◌==◌, ◌↔◌}
use Rattle.std.proofs.lemmas.Bool.{eqb-true, eq-eqb}
use Rattle.std.proofs.lemmas.List.{drop-drop, length-drop, take_rest}
use Rattle.disk_log.specs.Records.{begins_checkpoint, kind_in, count_in, record_len, body_len, body_len_of}
use Rattle.disk_log.specs.Checkpoints.{with_blocks, placed_in, image_sum, image_sum_in}
use Rattle.disk_log.specs.Logs.{LogReading, log_reading, log_changes, has_head, head_sum, has_checkpoint}
use Rattle.disk_log.specs.Reading.{ReadsLog, ReadsPlaced}
use Rattle.disk_log.specs.declared.reading.Found.{Found}
use Rattle.disk_log.specs.declared.reading.Refusal.{Refusal}
use Rattle.disk_log.proofs.Records.{Whole, checkpoint-is, both}
use Rattle.disk_log.proofs.Held.{log-is, read-false}
use Rattle.disk_log.proofs.Replays.{no-both}

-- whether a head was found
pub head-found : (log : List ℕ) (sum : ℕ × ℕ) → (if has_head log then Some (head_sum log) else None) ≡ Some sum → (has_head log ≡ true) × (sum ≡ head_sum log)
head-found log sum e = by-test (has_head log) (head_sum log) sum e
  where
    some-is : (x y : ℕ × ℕ) → Some x ≡ Some y → y ≡ x
    some-is x y e = cc

    by-test : (t : Bool) (x y : ℕ × ℕ) → (if t then Some x else None) ≡ Some y → (t ≡ true) × (y ≡ x)
    by-test true x y e = (refl, some-is x y e)
    by-test false x y e = cc

pub head-lost : (log : List ℕ) → (if has_head log then Some (head_sum log) else None) ≡ None → has_head log ≡ false
head-lost log e = by-test (has_head log) (head_sum log) e
  where
    by-test : (t : Bool) (x : ℕ × ℕ) → (if t then Some x else None) ≡ None → t ≡ false
    by-test true x e = cc
    by-test false x e = refl

-- a log whose changes were read
module _ (n : ℕ) (log : List ℕ) (own sum : ℕ × ℕ) (len : ℕ) (head : has_head log ≡ true) (is : own ≡ head_sum log) (long : 16 ≤ length log) (low : len ≤ length (take (length log - 16) (drop 16 log)))
    (rest : drop len (take (length log - 16) (drop 16 log)) ≡ (log_reading n own (take (length log - 16) (drop 16 log))).rest)
    (last : sum ≡ (log_reading n own (take (length log - 16) (drop 16 log))).sum) where
  all : take (length log - 16) (drop 16 log) ≡ drop 16 log
  all = take_rest log 16

  reading : log_reading n own (take (length log - 16) (drop 16 log)) ≡ log_changes n log
  reading = ap (λ v. log_reading n own v) all ∙ (ap (λ v. log_reading n v (drop 16 log)) is ∙ sym (log-is n log head))

  pub read-low : 16 + len ≤ length log
  read-low = (let a = ap (λ (v : List ℕ). length v) all in let d = length-drop 16 log in omega (arith, a, d, low, long))

  pub read-rest : drop (16 + len) log ≡ (log_changes n log).rest
  read-rest = sym (drop-drop len 16 log) ∙ (ap (λ v. drop len v) (sym all) ∙ (rest ∙ ap (λ (r : LogReading). r.rest) reading))

  pub read-sum : sum ≡ (log_changes n log).sum
  read-sum = last ∙ ap (λ (r : LogReading). r.sum) reading

  pub read-test : (b : List ℕ) (t : Bool) → b ≡ drop (16 + len) log → t ≡ begins_checkpoint sum b → has_checkpoint n log ≡ t
  read-test b t e f = sym (f ∙ (ap (λ v. begins_checkpoint v b) read-sum ∙ ap (λ v. begins_checkpoint (log_changes n log).sum v) (e ∙ read-rest)))

-- a log that was never begun
pub nothing-read : (n : ℕ) (log : List ℕ) → has_head log ≡ false → ((log_changes n log).changes ≡ []) × (has_checkpoint n log ≡ false)
nothing-read n log e = (
  ap (λ (r : LogReading). r.changes) (none-read e),
  ap (λ (r : LogReading). begins_checkpoint r.sum r.rest) (none-read e),
)
  where
    none-read : has_head log ≡ false → log_changes n log ≡ record { changes = []; sum = (0, 0); rest = [] }
    none-read e = read-false (has_head log) (log_reading n (head_sum log) (drop 16 log)) (record { changes = []; sum = (0, 0); rest = [] }) e

-- a log of which no record was read
pub none-changes : (n : ℕ) (log : List ℕ) (own : ℕ × ℕ) (len : ℕ) → has_head log ≡ true → own ≡ head_sum log
    → (len ≡ 0) ↔ ((log_reading n own (take (length log - 16) (drop 16 log))).changes ≡ []) → (len ≡ 0) ↔ ((log_changes n log).changes ≡ [])
none-changes n log own len head is none =
    let reading : log_reading n own (take (length log - 16) (drop 16 log)) ≡ log_changes n log =
    ap (λ v. log_reading n own v) (take_rest log 16) ∙ (ap (λ v. log_reading n v (drop 16 log)) is ∙ sym (log-is n log head)) in
    subst (λ (r : LogReading). (len ≡ 0) ↔ (r.changes ≡ [])) reading none

pub placed-reads : (n : ℕ) (log image image' b : List ℕ) (at : ℕ) (r : Result Found Refusal) → has_head log ≡ true → has_checkpoint n log ≡ true → at ≤ length log → b ≡ drop at log
    → drop at log ≡ (log_changes n log).rest → ReadsPlaced at b image r image' → length image' ≡ length image → ReadsLog n log image r image'
placed-reads n log image image' b at (Ok found) head there low same rest p len =
    subst (λ f. ReadsLog n log image (Ok f) image') (sym p.0)
    (there, low, rest, p.1 ∙ ap (λ v. placed_in v image) (same ∙ rest), ap (λ v. image_sum_in v) (sym (same ∙ rest)) ∙ p.2)
placed-reads n log image image' b at (Err refusal) head there low same rest p len =
    let e = same ∙ rest in
    subst (λ f. ReadsLog n log image (Err f) image') (sym p.0)
    (head, len, inr (there, λ q. p.2 (ap (λ v. image_sum_in v) e ∙ (q ∙ ap (λ v. image_sum v) (ap (λ v. placed_in v image) (sym e) ∙ sym p.1)))))

-- what a checkpoint has
pub checkpoint-long : (before : ℕ × ℕ) (b : List ℕ) (t : Bool) → t ≡ begins_checkpoint before b → t ≡ true → Whole before b × (kind_in b ≡ 2)
checkpoint-long before b t e f = checkpoint-is before b (sym e ∙ f)

pub entries-long : (b : List ℕ) → 24 ≤ length b → record_len b ≤ length b → kind_in b ≡ 2 → 32 + 4104 * count_in b ≤ length b
entries-long b long whole kind =
    (let e : body_len b ≡ 8 + 4104 * count_in b = ap (λ k. body_len_of k (count_in b)) kind in omega (arith, e, whole))

both-true : (p q : Bool) → true ≡ (p && q) → (p ≡ true) × (q ≡ true)
both-true true true e = (refl, refl)
both-true true false e = cc
both-true false q e = cc

-- what `==` says of two sums
pub sums-same : (x y : ℕ × ℕ) → true ≡ (x.0 == y.0 && x.1 == y.1) → x ≡ y
sums-same x y e = (let b = both-true (x.0 == y.0) (x.1 == y.1) e in ap (λ v. (v, x.1)) (eqb-true x.0 y.0 b.0) ∙ ap (λ v. (y.0, v)) (eqb-true x.1 y.1 b.1))

same-true : (x : ℕ × ℕ) → (x.0 == x.0 && x.1 == x.1) ≡ true
same-true x = both _ _ (eq-eqb x.0 x.0 refl) (eq-eqb x.1 x.1 refl)

pub sums-differ : (x y : ℕ × ℕ) → false ≡ (x.0 == y.0 && x.1 == y.1) → x ≡ y → ⊥
sums-differ x y e q = no-both (x.0 == y.0 && x.1 == y.1) (ap (λ (v : ℕ × ℕ). x.0 == v.0 && x.1 == v.1) (sym q) ∙ same-true x) (sym e)

pub placed-rest : (n : ℕ) (b image image' : List ℕ) → image' ≡ with_blocks n (take (length b - 32) (drop 32 b)) image → n ≡ count_in b → image' ≡ placed_in b image
placed-rest n b image image' e c = e ∙ (ap (λ v. with_blocks v (take (length b - 32) (drop 32 b)) image) c ∙ ap (λ v. with_blocks (count_in b) v image) (take_rest b 32))
