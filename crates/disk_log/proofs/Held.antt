-- What an image and a log hold, before a record and after it.
use Rattle.std.proofs.Common.{◌≡◌, ℕ, ◌+◌, ◌<◌, ◌≤◌, Bool, true, false, List, [], ◌∷◌, ◌++◌, ◌⊎◌, inl, inr, length, drop, ap, sym, ◌∙◌, arith, refl, Option, Some, None, Ok, Err}
use Rattle.std.specs.Prelude.{◌/◌, ◌==◌, if◌then◌else◌}
use Rattle.std.proofs.lemmas.Bool.{lt-ltb, ltb-true}
use Rattle.std.proofs.lemmas.List.{append-nil, length-append, drop-append-le}
use Rattle.byteorder.specs.Endian.{little_from}
use Rattle.disk_log.specs.Records.{begins_checkpoint, is_whole, record_change, with_change, replayed}
use Rattle.disk_log.specs.Checkpoints.{with_blocks, placed_in}
use Rattle.disk_log.specs.Logs.{LogReading, log_reading, log_changes, has_head, head_sum, has_checkpoint, contents_in, Medium, IsWholeLog, IsBegunLog}
use Rattle.disk_log.specs.Files.{Extends}
use Rattle.disk_log.specs.Settling.{AddsChange}
use Rattle.disk_log.proofs.Records.{both, parts, no-record, no-checkpoint, is-checkpoint, none-two}
use Rattle.disk_log.proofs.Readings.{behind, step-false, reading-more, replayed-more}
use Rattle.disk_log.proofs.Growing.{Made, made-whole, made-kind, made-count, made-body, made-read, made-torn}
use Rattle.disk_log.proofs.Places.{number-front}

read-true : (t : Bool) (x y : LogReading) → t ≡ true → (if t then x else y) ≡ x
read-true true x y e = refl
read-true false x y e = cc

pub read-false : (t : Bool) (x y : LogReading) → t ≡ false → (if t then x else y) ≡ y
read-false true x y e = cc
read-false false x y e = refl

pub list-true : (t : Bool) (x y : List ℕ) → t ≡ true → (if t then x else y) ≡ x
list-true true x y e = refl
list-true false x y e = cc

pub list-false : (t : Bool) (x y : List ℕ) → t ≡ false → (if t then x else y) ≡ y
list-false true x y e = cc
list-false false x y e = refl

-- a log with a head
pub head-long : (log : List ℕ) → has_head log ≡ true → 16 ≤ length log
head-long log e = (let p = parts _ _ e in let q = parts _ _ p.0 in let h = ltb-true 15 (length log) q.0 in omega (arith, h))

pub head-more : (log x : List ℕ) → has_head log ≡ true → has_head (log ++ x) ≡ true
head-more log x e =
    let long = head-long log e in
    let all = length-append log x in
    let p = parts _ _ e in
    let q = parts _ _ p.0 in
    both _ _ (both _ _ (lt-ltb 15 (length (log ++ x)) (omega (arith, long, all)))
    (ap (λ v. v == 0x4252_4F4E) (number-front 0 log x (omega (arith, long))) ∙ q.1))
    (ap (λ v. v == 0x474F_4C44) (number-front 4 log x (omega (arith, long))) ∙ p.1)

pub head-sum-more : (log x : List ℕ) → has_head log ≡ true → head_sum (log ++ x) ≡ head_sum log
head-sum-more log x e =
    let long = head-long log e in
    ap (λ v. (v, little_from 12 4 (log ++ x))) (number-front 8 log x (omega (arith, long)))
    ∙ ap (λ v. (little_from 8 4 log, v)) (number-front 12 log x (omega (arith, long)))

pub log-is : (n : ℕ) (log : List ℕ) → has_head log ≡ true → log_changes n log ≡ log_reading n (head_sum log) (drop 16 log)
log-is n log e = read-true (has_head log) (log_reading n (head_sum log) (drop 16 log)) (record { changes = []; sum = (0, 0); rest = [] }) e

-- what follows whole records of a log
pub log-more : (n : ℕ) (log x : List ℕ) (before : ℕ × ℕ) → has_head log ≡ true → IsWholeLog n (head_sum log) (drop 16 log) before
    → log_changes n (log ++ x) ≡ behind (log_changes n log).changes (log_reading n before x)
log-more n log x before e whole =
    let long = head-long log e in
    log-is n (log ++ x) (head-more log x e)
    ∙ (ap (λ v. log_reading n v (drop 16 (log ++ x))) (head-sum-more log x e)
    ∙ (ap (λ v. log_reading n (head_sum log) v) (drop-append-le 16 log x long)
    ∙ (reading-more n (head_sum log) (drop 16 log) x whole.rest
    ∙ (ap (λ v. behind (log_reading n (head_sum log) (drop 16 log)).changes (log_reading n v x)) whole.sum
    ∙ ap (λ (r : LogReading). behind r.changes (log_reading n before x)) (sym (log-is n log e))))))

-- what a reading tells
abbrev pub told : (List ℕ → List ℕ) → List ℕ → LogReading → List ℕ
told represents image r = if begins_checkpoint r.sum r.rest then represents (placed_in r.rest image) else replayed r.changes (represents image)

pub told-changes : (represents : List ℕ → List ℕ) (image : List ℕ) (r : LogReading) → begins_checkpoint r.sum r.rest ≡ false → told represents image r ≡ replayed r.changes (represents image)
told-changes represents image r e = list-false (begins_checkpoint r.sum r.rest) (represents (placed_in r.rest image)) (replayed r.changes (represents image)) e

pub told-checkpoint : (represents : List ℕ → List ℕ) (image : List ℕ) (r : LogReading) → begins_checkpoint r.sum r.rest ≡ true → told represents image r ≡ represents (placed_in r.rest image)
told-checkpoint represents image r e = list-true (begins_checkpoint r.sum r.rest) (represents (placed_in r.rest image)) (replayed r.changes (represents image)) e

pub nothing-behind : (sum : ℕ × ℕ) (rest : List ℕ) → rest ≡ [] → begins_checkpoint sum rest ≡ false
nothing-behind sum rest e = ap (λ v. begins_checkpoint sum v) e ∙ none sum
  where
    none : (s : ℕ × ℕ) → begins_checkpoint s [] ≡ false
    none s = refl

pub whole-changes : (n : ℕ) (log : List ℕ) (last : ℕ × ℕ) → has_head log ≡ true → IsWholeLog n (head_sum log) (drop 16 log) last → (log_changes n log).rest ≡ []
whole-changes n log last e whole = ap (λ r. r.rest) (log-is n log e) ∙ whole.rest

-- a log that was begun holds what its changes make of what the image represents
pub begun-told : (m : Medium) (image : List ℕ) (last : ℕ × ℕ) (represents : List ℕ → List ℕ) → IsBegunLog m image last
    → contents_in represents m.sectors m.image m.log ≡ replayed (log_changes m.sectors m.log).changes (represents m.image)
begun-told m image last represents b =
    told-changes represents m.image (log_changes m.sectors m.log)
    (nothing-behind (log_changes m.sectors m.log).sum (log_changes m.sectors m.log).rest (whole-changes m.sectors m.log last b.head b.whole))

module _ (m : Medium) (image : List ℕ) (before : ℕ × ℕ) (b : IsBegunLog m image before) where
  -- a record that isn't whole says nothing
  pub torn-told : (x : List ℕ) (represents : List ℕ → List ℕ) → is_whole before x ≡ false
      → contents_in represents m.sectors m.image (m.log ++ x) ≡ contents_in represents m.sectors m.image m.log
  torn-told x represents e =
      let more = log-more m.sectors m.log x before b.head b.whole
      ∙ ap (λ r. behind (log_changes m.sectors m.log).changes r) (step-false (length x) m.sectors before x (no-record m.sectors before x e)) in
      ap (λ r. told represents m.image r) more
      ∙ (told-changes represents m.image (record { changes = (log_changes m.sectors m.log).changes ++ []; sum = before; rest = x }) (no-checkpoint before x e)
      ∙ (ap (λ v. replayed v (represents m.image)) (append-nil (log_changes m.sectors m.log).changes)
      ∙ sym (begun-told m image before represents b)))

  torn-none : (x : List ℕ) → is_whole before x ≡ false → has_checkpoint m.sectors (m.log ++ x) ≡ false
  torn-none x e =
      ap (λ (r : LogReading). begins_checkpoint r.sum r.rest)
      (log-more m.sectors m.log x before b.head b.whole
      ∙ ap (λ r. behind (log_changes m.sectors m.log).changes r) (step-false (length x) m.sectors before x (no-record m.sectors before x e)))
      ∙ no-checkpoint before x e

  -- a log to which a whole record was added
  module _ (head body : List ℕ) (kind first count : ℕ) (next : ℕ × ℕ) (made : Made head body kind first count before next) where
    change-read : kind < 2 → first + count ≤ m.sectors
        → log_changes m.sectors (m.log ++ (head ++ body)) ≡ record { changes = (log_changes m.sectors m.log).changes ++ record_change kind first count body ∷ []; sum = next; rest = [] }
    change-read two inside =
        log-more m.sectors m.log (head ++ body) before b.head b.whole
        ∙ ap (λ r. behind (log_changes m.sectors m.log).changes r) (made-read head body kind first count before next made m.sectors two inside)

    pub change-told : (represents : List ℕ → List ℕ) → kind < 2 → first + count ≤ m.sectors
        → contents_in represents m.sectors m.image (m.log ++ (head ++ body))
        ≡ with_change (contents_in represents m.sectors m.image m.log) (record_change kind first count body)
    unfolding replayed
    change-told represents two inside =
        let r : LogReading = record { changes = (log_changes m.sectors m.log).changes ++ record_change kind first count body ∷ []; sum = next; rest = [] } in
        ap (λ v. told represents m.image v) (change-read two inside)
        ∙ (told-changes represents m.image r (nothing-behind next [] refl)
        ∙ (replayed-more (log_changes m.sectors m.log).changes (record_change kind first count body ∷ []) (represents m.image)
        ∙ ap (λ v. with_change v (record_change kind first count body)) (sym (begun-told m image before represents b))))

    pub change-begun : kind < 2 → first + count ≤ m.sectors → IsBegunLog (record m { log = m.log ++ (head ++ body) }) image next
    change-begun two inside =
        let e = head-more m.log (head ++ body) b.head in
        let is = sym (log-is m.sectors (m.log ++ (head ++ body)) e) ∙ change-read two inside in
        record {
          same = b.same;
          head = e;
          own = head-sum-more m.log (head ++ body) b.head ∙ b.own;
          whole = record { rest = ap (λ r. r.rest) is; sum = ap (λ r. r.sum) is };
        }

    pub checkpoint-read : kind ≡ 2 → log_changes m.sectors (m.log ++ (head ++ body)) ≡ record { changes = (log_changes m.sectors m.log).changes ++ []; sum = before; rest = head ++ body }
    checkpoint-read two =
        log-more m.sectors m.log (head ++ body) before b.head b.whole
        ∙ ap (λ r. behind (log_changes m.sectors m.log).changes r)
        (step-false (length (head ++ body)) m.sectors before (head ++ body) (none-two m.sectors before (head ++ body) (made-kind head body kind first count before next made ∙ two)))

    pub checkpoint-there : kind ≡ 2 → begins_checkpoint before (head ++ body) ≡ true
    checkpoint-there two = is-checkpoint before (head ++ body) (made-whole head body kind first count before next made) (made-kind head body kind first count before next made ∙ two)

    pub checkpoint-has : kind ≡ 2 → has_checkpoint m.sectors (m.log ++ (head ++ body)) ≡ true
    checkpoint-has two = ap (λ (r : LogReading). begins_checkpoint r.sum r.rest) (checkpoint-read two) ∙ checkpoint-there two

    pub checkpoint-told : (represents : List ℕ → List ℕ) → kind ≡ 2
        → contents_in represents m.sectors m.image (m.log ++ (head ++ body)) ≡ represents (with_blocks count (drop 8 body) m.image)
    checkpoint-told represents two =
        let r : LogReading = record { changes = (log_changes m.sectors m.log).changes ++ []; sum = before; rest = head ++ body } in
        ap (λ v. told represents m.image v) (checkpoint-read two)
        ∙ (told-checkpoint represents m.image r (checkpoint-there two)
        ∙ ap (λ v. represents v)
        (ap (λ v. with_blocks v (drop 32 (head ++ body)) m.image) (made-count head body kind first count before next made)
        ∙ ap (λ v. with_blocks count v m.image) (made-body head body kind first count before next made 8)))

    -- a part of it is no checkpoint
    pub part-torn : (taken : List ℕ) (r : ℕ) (rest : List ℕ) → head ++ body ≡ taken ++ r ∷ rest → has_checkpoint m.sectors (m.log ++ taken) ≡ false
    part-torn taken r rest same = torn-none taken (made-torn head body kind first count before next made taken r rest same)

    pub part-none : (taken rest : List ℕ) → kind < 2 → first + count ≤ m.sectors → head ++ body ≡ taken ++ rest → has_checkpoint m.sectors (m.log ++ taken) ≡ false
    part-none taken [] two inside same =
        ap (λ v. has_checkpoint m.sectors (m.log ++ v)) (sym (append-nil taken) ∙ sym same)
        ∙ (ap (λ (r : LogReading). begins_checkpoint r.sum r.rest) (change-read two inside) ∙ nothing-behind next [] refl)
    part-none taken (r ∷ rest) two inside same = part-torn taken r rest same

    -- a part of it says nothing, or it is all of it
    pub part-told : (taken rest : List ℕ) (represents : List ℕ → List ℕ) → head ++ body ≡ taken ++ rest
        → (contents_in represents m.sectors m.image (m.log ++ taken) ≡ contents_in represents m.sectors m.image m.log)
        ⊎ (contents_in represents m.sectors m.image (m.log ++ taken) ≡ contents_in represents m.sectors m.image (m.log ++ (head ++ body)))
    part-told taken [] represents same = inr (ap (λ v. contents_in represents m.sectors m.image (m.log ++ v)) (sym (append-nil taken) ∙ sym same))
    part-told taken (r ∷ rest) represents same = inl (torn-told taken represents (made-torn head body kind first count before next made taken r rest same))

-- An append of a change, which went well or failed.
pub added : (T E : Type 0) (head body : List ℕ) (kind first count : ℕ) (before next : ℕ × ℕ) → Made head body kind first count before next → kind < 2
    → first + length (record_change kind first count body).bytes / 512 ≡ first + count
    → (old new : Option Medium) (t : T) → Extends {T = T} {E = E} old (head ++ body) (Ok t) new
    → AddsChange {T = T} {E = E} (record_change kind first count body) before old (Ok t) next new
added T E head body kind first count before next made two len None new t e = e
added T E head body kind first count before next made two len (Some m) new t e = (
  record m { log = m.log ++ (head ++ body) },
  e,
  refl,
  λ image b inside. (
    change-begun m image before b head body kind first count next made two (rw (sym len) inside),
    λ represents. change-told m image before b head body kind first count next made represents two (rw (sym len) inside),
  ),
)

pub not-added : (T E : Type 0) (head body : List ℕ) (kind first count : ℕ) (before next last : ℕ × ℕ) → Made head body kind first count before next → kind < 2
    → first + length (record_change kind first count body).bytes / 512 ≡ first + count
    → (old new : Option Medium) (f : E) → Extends {T = T} {E = E} old (head ++ body) (Err f) new
    → AddsChange {T = T} {E = E} (record_change kind first count body) before old (Err f) last new
not-added T E head body kind first count before next last made two len None new f e = e
not-added T E head body kind first count before next last made two len (Some m) new f (taken, rest, same, is) = (
  record m { log = m.log ++ taken },
  is,
  refl,
  λ image b inside represents.
      elim (part-told m image before b head body kind first count next made taken rest represents same) [
        | inl e ↦ inl e
        | inr e ↦ inr (e ∙ change-told m image before b head body kind first count next made represents two (rw (sym len) inside))
      ],
)
