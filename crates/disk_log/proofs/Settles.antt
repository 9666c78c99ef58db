-- A log that is begun, and one that is settled.
use Rattle.std.proofs.Common.{◌≡◌, ℕ, ◌-◌, ◌<◌, ◌≤◌, true, false, List, [], ◌∷◌, ◌++◌, inl, inr, length, drop, ap, sym, ◌∙◌, arith, refl, subst, Option, Some, None, Result, Ok, Err}
use Rattle.std.specs.Prelude.{◌/◌}
use Rattle.std.specs.Result.{IsErr}
use Rattle.std.proofs.lemmas.List.{length-append, append-nil, drop_all}
use Rattle.disk_log.specs.Records.{count_in, replayed}
use Rattle.disk_log.specs.Checkpoints.{with_blocks, image_sum, IsCheckpointBody}
use Rattle.disk_log.specs.Logs.{LogReading, log_reading, log_changes, has_head, head_sum, has_checkpoint, contents_in, Medium, IsBegunLog, IsWholeLog, read_some}
use Rattle.disk_log.specs.Files.{Extends, SyncsLog, OfFiles}
use Rattle.disk_log.specs.Settling.{HasBlocks, EmptiesLog, LogsCheckpoint, SettlesFiles, AreInOrder, SettlesInOrder}
use Rattle.disk_log.specs.Power.{IsInOrder}
use Rattle.disk_log.specs.Reading.{IsEmptyOn, TakesUp}
use Rattle.disk_log.proofs.Growing.{Made, made-body, made-count, not-true}
use Rattle.disk_log.proofs.Held.{log-is, head-long, checkpoint-read, checkpoint-has, checkpoint-told, part-told, part-torn, told, told-checkpoint, begun-told, read-false}
use Rattle.disk_log.proofs.Orders.{alone-kept, begun-none, kept-settled, headless-none}
use Rattle.disk_log.proofs.Entries.{empty-holds, holds-placed}

-- a log with nothing behind its head
pub fresh-begun : (m : Medium) (image head : List ℕ) → m.image ≡ image → m.log ≡ head → length head ≡ 16 → has_head head ≡ true → head_sum head ≡ image_sum image
    → IsBegunLog m image (image_sum image)
unfolding read_some
fresh-begun m image head same is long has own =
    let none : drop 16 m.log ≡ [] = ap (λ v. drop 16 v) is ∙ drop_all 16 head (omega (arith, long)) in
    record {
      same = same;
      head = ap (λ v. has_head v) is ∙ has;
      own = ap (λ v. head_sum v) is ∙ own;
      whole = subst (λ v. IsWholeLog m.sectors (head_sum m.log) v (image_sum image)) (sym none) (record { rest = refl; sum = ap (λ v. head_sum v) is ∙ own });
    }

fresh-changes : (n : ℕ) (log : List ℕ) → has_head log ≡ true → drop 16 log ≡ [] → (log_changes n log).changes ≡ []
unfolding read_some
fresh-changes n log e none = ap (λ r. r.changes) (log-is n log e) ∙ ap (λ v. (log_reading n (head_sum log) v).changes) none

fresh-holds : (m : Medium) (image head : List ℕ) (represents : List ℕ → List ℕ) → IsBegunLog m image (image_sum image) → m.log ≡ head → length head ≡ 16
    → contents_in represents m.sectors m.image m.log ≡ represents m.image
unfolding replayed
fresh-holds m image head represents b is long =
    let none : drop 16 m.log ≡ [] = ap (λ v. drop 16 v) is ∙ drop_all 16 head (omega (arith, long)) in
    begun-told m image (image_sum image) represents b
    ∙ ap (λ v. replayed v (represents m.image)) (fresh-changes m.sectors m.log b.head none)

-- a log with no head says nothing
pub headless-holds : (represents : List ℕ → List ℕ) (n : ℕ) (image log : List ℕ) → has_head log ≡ false → contents_in represents n image log ≡ represents image
unfolding replayed
headless-holds represents n image log e =
    ap (λ r. told represents image r) (read-false (has_head log) (log_reading n (head_sum log) (drop 16 log)) (record { changes = []; sum = (0, 0); rest = [] }) e)

pub headless-replayed : (n : ℕ) (log contents : List ℕ) → has_head log ≡ false → contents ≡ replayed (log_changes n log).changes contents
unfolding replayed
headless-replayed n log contents e =
    ap (λ (r : LogReading). replayed r.changes contents) (sym (read-false (has_head log) (log_reading n (head_sum log) (drop 16 log)) (record { changes = []; sum = (0, 0); rest = [] }) e))

pub no-head : (log : List ℕ) → length log < 16 → has_head log ≡ false
no-head log short = not-true (has_head log) (λ e. let h = head-long log e in absurd (omega (arith, h, short)))

part-short : (head taken : List ℕ) (r : ℕ) (rest : List ℕ) → length head ≡ 16 → head ++ [] ≡ taken ++ r ∷ rest → length taken < 16
part-short head taken r rest long same =
    let all = ap (λ v. length v) (sym same ∙ append-nil head) in
    let both = length-append taken (r ∷ rest) in
    omega (arith, all, both, long)

module _ (image head : List ℕ) (long : length head ≡ 16) (has : has_head head ≡ true) (own : head_sum head ≡ image_sum image) where
  pub log-begun : (T U E F : Type 0) (t : T) (u : U) (old mid new : Option Medium) → OfFiles old (λ m. IsEmptyOn image m) → Extends {T = T} {E = F} old (head ++ []) (Ok t) mid
      → SyncsLog {T = U} {E = F} mid (Ok u) new → TakesUp {E = E} old image (Ok (image_sum image)) new
  log-begun T U E F t u None mid new h e s = subst (λ v. SyncsLog {T = U} {E = F} v (Ok u) new) e s
  log-begun T U E F t u (Some m) mid new h e s =
      let m' : Medium = record m { log = m.log ++ (head ++ []); safe = length (m.log ++ (head ++ [])) } in
      let is : m'.log ≡ head = ap (λ v. v ++ (head ++ [])) h.1 ∙ append-nil head in
      let b = fresh-begun m' image head h.0 is long has own in (
        m',
        subst (λ v. SyncsLog {T = U} {E = F} v (Ok u) new) e s,
        refl,
        b,
        λ represents. fresh-holds m' image head represents b is long ∙ sym (empty-holds represents m.sectors m.image m.log h.1),
        h.2,
        refl,
      )

  part-holds : (m : Medium) (taken rest : List ℕ) (represents : List ℕ → List ℕ) → IsEmptyOn image m → head ++ [] ≡ taken ++ rest
      → contents_in represents m.sectors m.image (m.log ++ taken) ≡ represents m.image
  part-holds m taken [] represents h same =
      let is : m.log ++ taken ≡ head = ap (λ v. v ++ taken) h.1 ∙ (sym (append-nil taken) ∙ (sym same ∙ append-nil head)) in
      let m' : Medium = record m { log = m.log ++ taken } in
      fresh-holds m' image head represents (fresh-begun m' image head h.0 is long has own) is long
  part-holds m taken (r ∷ rest) represents h same =
      headless-holds represents m.sectors m.image (m.log ++ taken)
      (ap (λ v. has_head (v ++ taken)) h.1 ∙ no-head taken (part-short head taken r rest long same))

  pub log-unbegun : (T E F : Type 0) (f : E) (r : Result (ℕ × ℕ) F) → IsErr r → (old new : Option Medium) → OfFiles old (λ m. IsEmptyOn image m)
      → Extends {T = T} {E = E} old (head ++ []) (Err f) new → TakesUp {E = F} old image r new
  log-unbegun T E F f (Ok sum) bad old new h e = absurd (cc bad)
  log-unbegun T E F f (Err g) bad None new h e = e
  log-unbegun T E F f (Err g) bad (Some m) new h (taken, rest, same, is) =
      (record m { log = m.log ++ taken }, is, λ represents. part-holds m taken rest represents h same ∙ sym (empty-holds represents m.sectors m.image m.log h.1))

  pub log-unsynced : (T U E F : Type 0) (t : T) (f : E) (r : Result (ℕ × ℕ) F) → IsErr r → (old mid new : Option Medium) → OfFiles old (λ m. IsEmptyOn image m)
      → Extends {T = T} {E = E} old (head ++ []) (Ok t) mid → SyncsLog {T = U} {E = E} mid (Err f) new → TakesUp {E = F} old image r new
  log-unsynced T U E F t f (Ok sum) bad old mid new h e s = absurd (cc bad)
  log-unsynced T U E F t f (Err g) bad None mid new h e s = subst (λ v. SyncsLog {T = U} {E = E} v (Err f) new) e s
  log-unsynced T U E F t f (Err g) bad (Some m) mid new h e s =
      let s' = subst (λ v. SyncsLog {T = U} {E = E} v (Err f) new) e s in (
        record m { log = m.log ++ (head ++ []); safe = s'.0 },
        s'.2,
        λ represents. part-holds m (head ++ []) [] represents h (sym (append-nil (head ++ []))) ∙ sym (empty-holds represents m.sectors m.image m.log h.1),
      )

  part-none : (m : Medium) (taken rest : List ℕ) → IsEmptyOn image m → head ++ [] ≡ taken ++ rest → has_checkpoint m.sectors (m.log ++ taken) ≡ false
  part-none m taken [] h same =
      let is : m.log ++ taken ≡ head = ap (λ v. v ++ taken) h.1 ∙ (sym (append-nil taken) ∙ (sym same ∙ append-nil head)) in
      begun-none (record m { log = m.log ++ taken }) image (image_sum image) (fresh-begun (record m { log = m.log ++ taken }) image head h.0 is long has own)
  part-none m taken (r ∷ rest) h same =
      headless-none m.sectors (m.log ++ taken) (ap (λ v. has_head (v ++ taken)) h.1 ∙ no-head taken (part-short head taken r rest long same))

  part-kept : (m : Medium) (taken rest : List ℕ) (new : Option Medium) → IsEmptyOn image m → head ++ [] ≡ taken ++ rest → new ≡ Some (record m { log = m.log ++ taken }) → AreInOrder new
  part-kept m taken rest new h same e represents =
      let none = h.3 in
      subst (λ v. OfFiles v (λ m. IsInOrder represents m)) (sym e)
      (alone-kept (record m { log = m.log ++ taken }) (omega (arith, none)) h.2 (part-none m taken rest h same) represents)

  pub synced-kept : (T U E : Type 0) (t : T) (r : Result U E) (old mid new : Option Medium) → OfFiles old (λ m. IsEmptyOn image m) → Extends {T = T} {E = E} old (head ++ []) (Ok t) mid
      → SyncsLog {T = U} {E = E} mid r new → AreInOrder new
  synced-kept T U E t (Ok u) None mid new h e s represents = subst (λ v. OfFiles v (λ m. IsInOrder represents m)) (sym (subst (λ v. SyncsLog {T = U} {E = E} v (Ok u) new) e s)) tt
  synced-kept T U E t (Err f) None mid new h e s represents = subst (λ v. OfFiles v (λ m. IsInOrder represents m)) (sym (subst (λ v. SyncsLog {T = U} {E = E} v (Err f) new) e s)) tt
  synced-kept T U E t (Ok u) (Some m) mid new h e s represents =
      subst (λ v. OfFiles v (λ m. IsInOrder represents m)) (sym (subst (λ v. SyncsLog {T = U} {E = E} v (Ok u) new) e s))
      (alone-kept (record m { log = m.log ++ (head ++ []); safe = length (m.log ++ (head ++ [])) }) (omega arith) h.2
      (part-none m (head ++ []) [] h (sym (append-nil (head ++ [])))) represents)
  synced-kept T U E t (Err f) (Some m) mid new h e s represents =
      let s' = subst (λ v. SyncsLog {T = U} {E = E} v (Err f) new) e s in
      let none = h.3 in
      subst (λ v. OfFiles v (λ m. IsInOrder represents m)) (sym s'.2)
      (alone-kept (record m { log = m.log ++ (head ++ []); safe = s'.0 }) (s'.1 (omega (arith, none))) h.2
      (part-none m (head ++ []) [] h (sym (append-nil (head ++ [])))) represents)

  pub log-kept : (T E : Type 0) (r : Result T E) (old new : Option Medium) → OfFiles old (λ m. IsEmptyOn image m) → Extends {T = T} {E = E} old (head ++ []) r new → AreInOrder new
  log-kept T E (Ok t) None new h e represents = subst (λ v. OfFiles v (λ m. IsInOrder represents m)) (sym e) tt
  log-kept T E (Err f) None new h e represents = subst (λ v. OfFiles v (λ m. IsInOrder represents m)) (sym e) tt
  log-kept T E (Ok t) (Some m) new h e represents = part-kept m (head ++ []) [] new h (sym (append-nil (head ++ []))) e represents
  log-kept T E (Err f) (Some m) new h (taken, rest, same, e) represents = part-kept m taken rest new h same e represents

-- a checkpoint that is appended
module _ (was is body head : List ℕ) (before next : ℕ × ℕ) (same : length was ≡ length is) (whole : IsCheckpointBody was is body)
    (made : Made head body 2 0 ((length body - 8) / 4104) before next) where
  count : ℕ
  count = (length body - 8) / 4104

  settled-told : (m : Medium) (represents : List ℕ → List ℕ) → IsBegunLog m was before
      → contents_in represents m.sectors m.image (m.log ++ (head ++ body)) ≡ represents is
  unfolding count
  settled-told m represents b =
      checkpoint-told m was before b head body 2 0 count next made represents refl
      ∙ ap (λ v. represents v) (ap (λ v. with_blocks count (drop 8 body) v) b.same ∙ whole.blocks)

  pub checkpoint-logged : (T E : Type 0) (t : T) (r : Result T E) (old mid new : Option Medium) → OfFiles old (λ m. IsBegunLog m was before)
      → Extends {T = T} {E = E} old (head ++ body) (Ok t) mid → SyncsLog {T = T} {E = E} mid r new → LogsCheckpoint {T = T} {E = E} is body old r new
  unfolding count
  checkpoint-logged T E t (Ok u) None mid new b e s = subst (λ v. SyncsLog {T = T} {E = E} v (Ok u) new) e s
  checkpoint-logged T E t (Err f) None mid new b e s = subst (λ v. SyncsLog {T = T} {E = E} v (Err f) new) e s
  checkpoint-logged T E t (Ok u) (Some m) mid new b e s =
      let s' = subst (λ v. SyncsLog {T = T} {E = E} v (Ok u) new) e s in
      let read = checkpoint-read m was before b head body 2 0 count next made refl in (
        record m { log = m.log ++ (head ++ body); safe = length (m.log ++ (head ++ body)) },
        s',
        refl,
        refl,
        record {
          size = ap (λ v. length v) b.same ∙ same;
          safe = refl;
          whole = checkpoint-has m was before b head body 2 0 count next made refl;
          count_is = ap (λ (r : LogReading). count_in r.rest) read ∙ made-count head body 2 0 count before next made;
          there = ap (λ (r : LogReading). drop 32 r.rest) read ∙ made-body head body 2 0 count before next made 8;
        },
      )
  checkpoint-logged T E t (Err f) (Some m) mid new b e s =
      let s' = subst (λ v. SyncsLog {T = T} {E = E} v (Err f) new) e s in
      (record m { log = m.log ++ (head ++ body); safe = s'.0 }, s'.2, λ represents. inr (settled-told m represents b))

  pub checkpoint-unlogged : (T U E F : Type 0) (f : E) (g : F) (old new : Option Medium) → OfFiles old (λ m. IsBegunLog m was before)
      → Extends {T = T} {E = E} old (head ++ body) (Err f) new → LogsCheckpoint {T = U} {E = F} is body old (Err g) new
  unfolding count
  checkpoint-unlogged T U E F f g None new b e = e
  checkpoint-unlogged T U E F f g (Some m) new b (taken, rest, part, e) = (
    record m { log = m.log ++ taken },
    e,
    λ represents. elim (part-told m was before b head body 2 0 count next made taken rest represents part) [
      | inl h ↦ inl h
      | inr h ↦ inr (h ∙ settled-told m represents b)
    ],
  )

  all-kept : (m : Medium) (represents : List ℕ → List ℕ) (safe : ℕ) → IsBegunLog m was before → IsInOrder represents m → contents_in represents m.sectors m.image m.log ≡ represents is
      → safe ≤ length (m.log ++ (head ++ body)) → IsInOrder represents (record m { log = m.log ++ (head ++ body); safe = safe })
  unfolding count
  all-kept m represents safe b k same low =
      let read = checkpoint-read m was before b head body 2 0 count next made refl in
      record {
        low = low;
        order = λ x. (
          kept-settled m was before represents b k,
          λ e. sym (told-checkpoint represents m.image (log_changes m.sectors (m.log ++ (head ++ body))) e)
              ∙ (settled-told m represents b
              ∙ (sym same
              ∙ (begun-told m was before represents b
              ∙ ap (λ v. replayed v (represents m.image)) (sym (ap (λ (r : LogReading). r.changes) read ∙ append-nil (log_changes m.sectors m.log).changes))))),
        );
      }

  after : (m : Medium) → m.safe ≤ length m.log → (safe : ℕ) → (m.safe ≤ length (m.log ++ (head ++ body)) → safe ≤ length (m.log ++ (head ++ body))) → safe ≤ length (m.log ++ (head ++ body))
  after m low safe f = (let l = length-append m.log (head ++ body) in f (omega (arith, low, l)))

  pub checkpoint-kept : (T E : Type 0) (t : T) (r : Result T E) (old mid new : Option Medium) → OfFiles old (λ m. IsBegunLog m was before)
      → Extends {T = T} {E = E} old (head ++ body) (Ok t) mid → SyncsLog {T = T} {E = E} mid r new → SettlesInOrder is old new
  checkpoint-kept T E t (Ok u) None mid new b e s represents k = subst (λ v. OfFiles v (λ m. IsInOrder represents m)) (sym (subst (λ v. SyncsLog {T = T} {E = E} v (Ok u) new) e s)) tt
  checkpoint-kept T E t (Err f) None mid new b e s represents k = subst (λ v. OfFiles v (λ m. IsInOrder represents m)) (sym (subst (λ v. SyncsLog {T = T} {E = E} v (Err f) new) e s)) tt
  checkpoint-kept T E t (Ok u) (Some m) mid new b e s represents k =
      let s' = subst (λ v. SyncsLog {T = T} {E = E} v (Ok u) new) e s in
      subst (λ v. OfFiles v (λ m. IsInOrder represents m)) (sym s') (all-kept m represents (length (m.log ++ (head ++ body))) b k.0 k.1 (omega arith))
  checkpoint-kept T E t (Err f) (Some m) mid new b e s represents k =
      let s' = subst (λ v. SyncsLog {T = T} {E = E} v (Err f) new) e s in
      subst (λ v. OfFiles v (λ m. IsInOrder represents m)) (sym s'.2) (all-kept m represents s'.0 b k.0 k.1 (after m k.0.low s'.0 s'.1))

  taken-kept : (m : Medium) (represents : List ℕ → List ℕ) (taken rest : List ℕ) → IsBegunLog m was before → IsInOrder represents m → contents_in represents m.sectors m.image m.log ≡ represents is
      → head ++ body ≡ taken ++ rest → IsInOrder represents (record m { log = m.log ++ taken })
  unfolding count
  taken-kept m represents taken [] b k same part =
      let low = k.low in
      let l = length-append m.log (head ++ body) in
      subst (λ v. IsInOrder represents (record m { log = m.log ++ v })) (part ∙ append-nil taken) (all-kept m represents m.safe b k same (omega (arith, low, l)))
  taken-kept m represents taken (r ∷ rest) b k same part =
      let low = k.low in
      let l = length-append m.log taken in
      alone-kept (record m { log = m.log ++ taken }) (omega (arith, low, l)) (kept-settled m was before represents b k)
      (part-torn m was before b head body 2 0 count next made taken r rest part) represents

  pub checkpoint-unkept : (T E : Type 0) (f : E) (old new : Option Medium) → OfFiles old (λ m. IsBegunLog m was before) → Extends {T = T} {E = E} old (head ++ body) (Err f) new → SettlesInOrder is old new
  checkpoint-unkept T E f None new b e represents k = subst (λ v. OfFiles v (λ m. IsInOrder represents m)) (sym e) tt
  checkpoint-unkept T E f (Some m) new b (taken, rest, part, e) represents k =
      subst (λ v. OfFiles v (λ m. IsInOrder represents m)) (sym e) (taken-kept m represents taken rest b k.0 k.1 part)

-- The steps of settling.
module _ (was is body : List ℕ) (before : ℕ × ℕ) (whole : IsCheckpointBody was is body) where
  placed-is : (m m1 : Medium) (len : ℕ) (represents : List ℕ → List ℕ) → IsBegunLog m was before → m1.image ≡ m.image
      → with_blocks ((length body - 8) / 4104) (drop 8 body) m1.image ≡ is
  placed-is m m1 len represents b e = ap (λ v. with_blocks ((length body - 8) / 4104) (drop 8 body) v) (e ∙ b.same) ∙ whole.blocks

  pub unsettled : (T U E F : Type 0) (f : E) (r : Result U F) → IsErr r → (last : ℕ × ℕ) (old new : Option Medium)
      → LogsCheckpoint {T = T} {E = E} is body old (Err f) new → SettlesFiles {T = U} {E = F} is old r last new
  unsettled T U E F f (Ok u) bad last old new s = absurd (cc bad)
  unsettled T U E F f (Err g) bad last None new s = s
  unsettled T U E F f (Err g) bad last (Some m) new s = s

  pub logged-blocks : (T E : Type 0) (t : T) (old one : Option Medium) → LogsCheckpoint {T = T} {E = E} is body old (Ok t) one
      → OfFiles one (λ m. HasBlocks m (length is) ((length body - 8) / 4104) (drop 8 body))
  logged-blocks T E t None one s = subst (λ v. OfFiles v (λ m. HasBlocks m (length is) ((length body - 8) / 4104) (drop 8 body))) (sym s) tt
  logged-blocks T E t (Some m) one s = subst (λ v. OfFiles v (λ m. HasBlocks m (length is) ((length body - 8) / 4104) (drop 8 body))) (sym s.1) s.4

  pub unplaced-settles : (T U E F : Type 0) (t : T) (f : E) (r : Result U F) → IsErr r → (last : ℕ × ℕ) (old one new : Option Medium) → OfFiles old (λ m. IsBegunLog m was before)
      → LogsCheckpoint {T = T} {E = E} is body old (Ok t) one → EmptiesLog {T = T} {E = E} ((length body - 8) / 4104) (drop 8 body) one (Err f) new
      → SettlesFiles {T = U} {E = F} is old r last new
  unplaced-settles T U E F t f (Ok u) bad last old one new b s p = absurd (cc bad)
  unplaced-settles T U E F t f (Err g) bad last None one new b s p = subst (λ v. EmptiesLog {T = T} {E = E} ((length body - 8) / 4104) (drop 8 body) v (Err f) new) s p
  unplaced-settles T U E F t f (Err g) bad last (Some m) one new b s p =
      let p' = subst (λ v. EmptiesLog {T = T} {E = E} ((length body - 8) / 4104) (drop 8 body) v (Err f) new) s.1 p in (
        p'.0,
        p'.1,
        λ represents. inr (p'.2 represents
            ∙ (holds-placed s.0 (length is) ((length body - 8) / 4104) (drop 8 body) s.0.image represents s.4
            ∙ ap (λ v. represents v) (placed-is m s.0 (length is) represents b s.3))),
      )

  pub emptied-on : (T E : Type 0) (t : T) (old one two : Option Medium) → OfFiles old (λ m. IsBegunLog m was before)
      → LogsCheckpoint {T = T} {E = E} is body old (Ok t) one → EmptiesLog {T = T} {E = E} ((length body - 8) / 4104) (drop 8 body) one (Ok t) two
      → OfFiles two (λ m. IsEmptyOn is m)
  emptied-on T E t None one two b s p =
      let p' = subst (λ v. EmptiesLog {T = T} {E = E} ((length body - 8) / 4104) (drop 8 body) v (Ok t) two) s p in
      subst (λ v. OfFiles v (λ m. IsEmptyOn is m)) (sym p') tt
  emptied-on T E t (Some m) one two b s p =
      let p' = subst (λ v. EmptiesLog {T = T} {E = E} ((length body - 8) / 4104) (drop 8 body) v (Ok t) two) s.1 p in
      subst (λ v. OfFiles v (λ m. IsEmptyOn is m)) (sym p') (placed-is m s.0 (length is) (λ v. v) b s.3, refl, refl, refl)

  module _ (T E : Type 0) (t : T) (old one two new : Option Medium) (b : OfFiles old (λ m. IsBegunLog m was before))
      (s : LogsCheckpoint {T = T} {E = E} is body old (Ok t) one) (p : EmptiesLog {T = T} {E = E} ((length body - 8) / 4104) (drop 8 body) one (Ok t) two) where
    two-is : (m : Medium) → OfFiles (Some m) (λ m. IsBegunLog m was before) → LogsCheckpoint {T = T} {E = E} is body (Some m) (Ok t) one
        → (m2 : Medium) × (two ≡ Some m2) × (m2.sectors ≡ m.sectors) × (m2.image ≡ is) × (m2.log ≡ [])
    two-is m b s =
        let p' = subst (λ v. EmptiesLog {T = T} {E = E} ((length body - 8) / 4104) (drop 8 body) v (Ok t) two) s.1 p in
        (record s.0 { image = with_blocks ((length body - 8) / 4104) (drop 8 body) s.0.image; log = []; safe = 0; settled = true }, p', s.2, placed-is m s.0 (length is) (λ v. v) b s.3, refl)

  pub settles : (T U E F : Type 0) (t : T) (u : U) (sum : ℕ × ℕ) (old one two new : Option Medium) → OfFiles old (λ m. IsBegunLog m was before)
      → LogsCheckpoint {T = T} {E = E} is body old (Ok t) one → EmptiesLog {T = T} {E = E} ((length body - 8) / 4104) (drop 8 body) one (Ok t) two
      → TakesUp {E = E} two is (Ok sum) new → SettlesFiles {T = U} {E = F} is old (Ok u) sum new
  settles T U E F t u sum None one two new b s p n =
      let p' = subst (λ v. EmptiesLog {T = T} {E = E} ((length body - 8) / 4104) (drop 8 body) v (Ok t) two) s p in
      subst (λ v. TakesUp {E = E} v is (Ok sum) new) p' n
  settles T U E F t u sum (Some m) one two new b s p n =
      let x = two-is T E t (Some m) one two new b s p m b s in
      let n' = subst (λ v. TakesUp {E = E} v is (Ok sum) new) x.1 n in
      (n'.0, n'.1, n'.2 ∙ x.2, n'.3, λ represents. n'.4 represents ∙ (empty-holds represents x.0.sectors x.0.image x.0.log x.4 ∙ ap (λ v. represents v) x.3))

  pub unbegun-settles : (T U E F : Type 0) (t : T) (f : E) (r : Result U F) → IsErr r → (last : ℕ × ℕ) (old one two new : Option Medium) → OfFiles old (λ m. IsBegunLog m was before)
      → LogsCheckpoint {T = T} {E = E} is body old (Ok t) one → EmptiesLog {T = T} {E = E} ((length body - 8) / 4104) (drop 8 body) one (Ok t) two
      → TakesUp {E = E} two is (Err f) new → SettlesFiles {T = U} {E = F} is old r last new
  unbegun-settles T U E F t f (Ok u) bad last old one two new b s p n = absurd (cc bad)
  unbegun-settles T U E F t f (Err g) bad last None one two new b s p n =
      let p' = subst (λ v. EmptiesLog {T = T} {E = E} ((length body - 8) / 4104) (drop 8 body) v (Ok t) two) s p in
      subst (λ v. TakesUp {E = E} v is (Err f) new) p' n
  unbegun-settles T U E F t f (Err g) bad last (Some m) one two new b s p n =
      let x = two-is T E t (Some m) one two new b s p m b s in
      let n' = subst (λ v. TakesUp {E = E} v is (Err f) new) x.1 n in
      (n'.0, n'.1, λ represents. inr (n'.2 represents ∙ (empty-holds represents x.0.sectors x.0.image x.0.log x.4 ∙ ap (λ v. represents v) x.3)))

-- where memory ran out
pub untouched : (U F : Type 0) (is : List ℕ) (g : F) (last : ℕ × ℕ) (files : Option Medium) → SettlesFiles {T = U} {E = F} is files (Err g) last files
untouched U F is g last None = refl
untouched U F is g last (Some m) = (m, refl, λ represents. inl refl)
