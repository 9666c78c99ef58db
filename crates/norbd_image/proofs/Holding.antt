-- What an image and its log hold, by what a reading finds.
use Rattle.std.proofs.Common.{◌≡◌, ◌∙◌, ◌⊎◌, inl, inr, ℕ, ◌*◌, ◌≤◌, List, [], ◌++◌, length, take, drop, Bool, true, false, ap, sym, refl, arith, subst, Option, Some, None, Result, Ok, Err}
use Rattle.std.specs.Prelude.{◌/◌, if◌then◌else◌}
use Rattle.std.proofs.lemmas.List.{append-nil, drop_all, take_all}
use Rattle.chip_model.specs.Geometry.{sector_count}
use Rattle.flash_disk.specs.Contents.{contents_of}
use Rattle.flash_disk.proofs.Sectors.{length-contents}
use Rattle.disk_log.specs.Records.{replayed}
use Rattle.disk_log.specs.Checkpoints.{image_sum, placed_in}
use Rattle.disk_log.specs.Files.{OfFiles}
use Rattle.disk_log.specs.Logged.{IsOfDisk, SettlesAlone}
use Rattle.disk_log.specs.Logs.{Medium, IsBegunLog, log_changes, has_head, has_checkpoint, contents_in, held}
use Rattle.disk_log.specs.Reading.{ReadsLog, TakesUp}
use Rattle.block_device.specs.declared.disk.DiskError.{DiskError}
use Rattle.disk_log.specs.declared.reading.Found.{Found}
use Rattle.disk_log.specs.declared.reading.Found.TheVariants.{Nothing, Records, Checkpoint}
use Rattle.disk_log.specs.declared.reading.Refusal.{Refusal}
use Rattle.disk_log.specs.declared.reading.Refusal.TheVariants as refusals
use Rattle.norbd_image.specs.declared.both.LogError.{LogError}
use Rattle.norbd_image.specs.declared.both.LogError.TheVariants.{OutOfMemory, Foreign, Another, Refused, NotClean, Failed}
use Rattle.norbd_image.specs.Both.{HasChanges, IsOnFiles, IsOwn, IsRefusedFor, ReplayFails, SettlesLog, TellsRefusal, with_changes}

neither : (t : Bool) → t ≡ true → t ≡ false → ⊥
neither true e f = cc
neither false e f = cc

-- the changes of a log on the contents of an image
pub changes-on : (image log old new : List ℕ) → old ≡ contents_of image → new ≡ replayed (log_changes (length old / 512) log).changes old
    → new ≡ with_changes (sector_count (length image)) log (contents_of image)
changes-on image log old new same is =
    let e : length old ≡ 512 * sector_count (length image) = ap length same ∙ length-contents image in
    let len : length old / 512 ≡ sector_count (length image) = ap (λ n. n / 512) e ∙ omega arith in
    is ∙ (ap (λ n. replayed (log_changes n log).changes old) len ∙ ap (λ v. replayed (log_changes (sector_count (length image)) log).changes v) same)

-- a slice that is all of a list of so many
pub whole-slice : (k : ℕ) (x items : List ℕ) → length x ≡ length items → length items ≤ k → take k (x ++ drop (length x) items) ≡ x
whole-slice k x items same low =
    let gone : drop (length x) items ≡ [] = drop_all (length x) items (omega (arith, same)) in
    ap (λ v. take k (x ++ v)) gone ∙ (ap (λ v. take k v) (append-nil x) ∙ take_all k x (omega (arith, same, low)))

-- A log of which nothing is told has nothing.
pub nothing-holds : (n : ℕ) (image log : List ℕ) → (log_changes n log).changes ≡ [] → has_checkpoint n log ≡ false → contents_of image ≡ contents_in contents_of n image log
unfolding replayed
nothing-holds n image log none bare =
    sym (ap (λ v. replayed v (contents_of image)) none)
    ∙ sym (ap (λ t. if t then contents_of (placed_in (log_changes n log).rest image) else replayed (log_changes n log).changes (contents_of image)) bare)

-- A log of which something is told is the image's own.
pub own-of : (n : ℕ) (image image' log : List ℕ) (f : Found) → ReadsLog n log image (Ok f) image' → IsOwn n image log
own-of n image image' log Nothing r = record {
  placed = λ e. absurd (neither (has_checkpoint n log) e r.2);
  begun = λ more head none. absurd (elim r.0 [
    | inl blank ↦ neither (has_head log) head blank.0
    | inr bare ↦ more bare
  ]);
}
own-of n image image' log (Records len sum) r = record {
  placed = λ e. absurd (neither (has_checkpoint n log) e r.1);
  begun = λ more head none. r.2;
}
own-of n image image' log (Checkpoint at) r = record {
  placed = λ e. r.4 ∙ ap (λ v. image_sum v) r.3;
  begun = λ more head none. absurd (neither (has_checkpoint n log) r.0 none);
}

-- One that is refused isn't.
pub refused-of : (n : ℕ) (image image' log : List ℕ) (f : Refusal) (e : LogError) → ReadsLog n log image (Err f) image' → TellsRefusal f e → IsRefusedFor n image log e
refused-of n image image' log refusals.Foreign e r is = subst (λ v. IsRefusedFor n image log v) (sym is) (r.0, r.1)
refused-of n image image' log refusals.Another e r is = subst (λ v. IsRefusedFor n image log v) (sym is) (λ own. elim r.2 [
  | inl begun ↦ begun.2 (own.begun begun.1 r.0 begun.0)
  | inr placed ↦ placed.1 (own.placed placed.0)
])

-- The changes of one that has some aren't made.
pub replay-refused : (n : ℕ) (image log : List ℕ) (e : LogError) → HasChanges n image log → ReplayFails image e → IsRefusedFor n image log e
replay-refused n image log OutOfMemory h r = r
replay-refused n image log Foreign h r = absurd r
replay-refused n image log Another h r = absurd r
replay-refused n image log (Refused e) h r = (h, r)
replay-refused n image log NotClean h r = (h, r)
replay-refused n image log Failed h r = h

-- A checkpoint that was placed.
pub placed-holds : (n : ℕ) (image log x : List ℕ) → has_checkpoint n log ≡ true → x ≡ placed_in (log_changes n log).rest image → contents_of x ≡ contents_in contents_of n image log
placed-holds n image log x e is =
    ap contents_of is ∙ sym (ap (λ t. if t then contents_of (placed_in (log_changes n log).rest image) else replayed (log_changes n log).changes (contents_of image)) e)

-- Changes that were made.
pub changed-holds : (n : ℕ) (image log contents : List ℕ) → has_checkpoint n log ≡ false → contents ≡ with_changes n log (contents_of image) → contents ≡ contents_in contents_of n image log
changed-holds n image log contents e is =
    is ∙ sym (ap (λ t. if t then contents_of (placed_in (log_changes n log).rest image) else replayed (log_changes n log).changes (contents_of image)) e)

-- a reading of two files
pub read-as : (n k : ℕ) (log image items image' : List ℕ) (f : Result Found Refusal) → n ≡ k → image ≡ items → ReadsLog n log image f image' → ReadsLog k log items f image'
read-as n k log image items image' f e q r = subst (λ v. ReadsLog k log v f image') q (subst (λ m. ReadsLog m log image f image') e r)

on-files : (n : ℕ) (items log : List ℕ) (m : Medium) → IsOnFiles n items log m → contents_in contents_of m.sectors m.image m.log ≡ contents_in contents_of n items log
on-files n items log m on =
    ap (λ k. contents_in contents_of k m.image m.log) on.0
    ∙ (ap (λ v. contents_in contents_of n v m.log) on.1
    ∙ ap (λ v. contents_in contents_of n items v) on.2)

-- What a start took up: changes, or a checkpoint, or nothing.
module _ (E : Type 0) (n : ℕ) (items image log : List ℕ) (sum : ℕ × ℕ) where
  pub taken-up : (len : ℕ) (last : ℕ × ℕ) (old new : Option Medium) → OfFiles old (λ m. IsOnFiles n items log m) → ReadsLog n log items (Ok (Records len last)) image
      → TakesUp {E = E} old image (Ok sum) new → OfFiles new (λ m. IsOfDisk contents_of n (with_changes n log (contents_of items)) items sum m)
  taken-up len last None new on r t = subst (λ v. OfFiles v (λ m. IsOfDisk contents_of n (with_changes n log (contents_of items)) items sum m)) (sym t) tt
  taken-up len last (Some m) new on r t =
      let safe = t.6 in
      subst (λ v. OfFiles v (λ m. IsOfDisk contents_of n (with_changes n log (contents_of items)) items sum m)) (sym t.1) (record {
        sectors = t.2 ∙ on.0;
        begun = subst (λ v. IsBegunLog t.0 v sum) r.6 t.3;
        same = t.4 contents_of ∙ (on-files n items log m on ∙ sym (changed-holds n items log (with_changes n log (contents_of items)) r.1 refl));
        settled = t.5;
        low = omega (arith, safe);
      })

  begun-alone : (T : Type 0) (u : T) (old new : Option Medium) → OfFiles old (λ m. IsOnFiles n items log m) → contents_of image ≡ contents_in contents_of n items log
      → TakesUp {E = E} old image (Ok sum) new → SettlesLog {T = T} old (Ok u) new
  begun-alone T u None new on held t = t
  begun-alone T u (Some m) new on held t =
      (t.0, t.1, t.4 contents_of, ap contents_of t.3.same ∙ (held ∙ sym (on-files n items log m on)))

  pub checkpoint-alone : (T : Type 0) (u : T) (at : ℕ) (old new : Option Medium) → OfFiles old (λ m. IsOnFiles n items log m) → ReadsLog n log items (Ok (Checkpoint at)) image
      → TakesUp {E = E} old image (Ok sum) new → SettlesLog {T = T} old (Ok u) new
  checkpoint-alone T u at old new on r t = begun-alone T u old new on (placed-holds n items log image r.0 r.3) t

  pub nothing-alone : (T : Type 0) (u : T) (old new : Option Medium) → OfFiles old (λ m. IsOnFiles n items log m) → ReadsLog n log items (Ok Nothing) image
      → TakesUp {E = E} old image (Ok sum) new → SettlesLog {T = T} old (Ok u) new
  nothing-alone T u old new on r t = begun-alone T u old new on (ap contents_of r.3 ∙ nothing-holds n items log r.1 r.2) t

  pub settles-on : (T : Type 0) (result : Result T LogError) (old mid new : Option Medium) → TakesUp {E = E} old image (Ok sum) mid → SettlesLog {T = T} mid result new → SettlesLog {T = T} old result new
  settles-on T result None mid new t s = subst (λ v. SettlesLog {T = T} v result new) t s
  settles-on T (Ok u) (Some m) mid new t s =
      let s' = subst (λ v. SettlesLog {T = T} v (Ok u) new) t.1 s in
      (s'.0, s'.1, s'.2 ∙ t.4 contents_of, s'.3 ∙ t.4 contents_of)
  settles-on T (Err e) (Some m) mid new t s =
      let s' = subst (λ v. SettlesLog {T = T} v (Err e) new) t.1 s in
      (s'.0, s'.1, s'.2 ∙ t.4 contents_of)

-- nothing was told, so nothing was done
pub untouched : (T : Type 0) (u : T) (n : ℕ) (items image log : List ℕ) (files : Option Medium) → OfFiles files (λ m. IsOnFiles n items log m) → ReadsLog n log items (Ok Nothing) image
    → SettlesLog {T = T} files (Ok u) files
untouched T u n items image log None on r = refl
untouched T u n items image log (Some m) on r = (m, refl, refl, ap contents_of on.1 ∙ (nothing-holds n items log r.1 r.2 ∙ sym (on-files n items log m on)))

pub untaken : (T E : Type 0) (e : E) (f : LogError) (image : List ℕ) (old new : Option Medium) → TakesUp {E = E} old image (Err e) new → SettlesLog {T = T} old (Err f) new
untaken T E e f image None new t = t
untaken T E e f image (Some m) new t = (t.0, t.1, t.2 contents_of)

-- a disk that was settled, or failed to be
module _ (T U : Type 0) (old mid now new : Option Medium) (disk is : List ℕ) (same : is ≡ held contents_of old disk) (files : mid ≡ old) (parts : new ≡ now) (holds : OfFiles new (λ m. contents_in contents_of m.sectors m.image m.log ≡ is)) where
  pub settled-log : (t : T) (u : U) → SettlesAlone {T = T} contents_of is mid (Ok t) now → SettlesLog {T = U} old (Ok u) new
  settled-log t u a = go old same (subst (λ v. SettlesAlone {T = T} contents_of is old (Ok t) v) (sym parts) (subst (λ v. SettlesAlone {T = T} contents_of is v (Ok t) now) files a))
    where
      go : (o : Option Medium) → is ≡ held contents_of o disk → SettlesAlone {T = T} contents_of is o (Ok t) new → SettlesLog {T = U} o (Ok u) new
      go None q a = a
      go (Some m) q a = (a.0, a.1, subst (λ v. OfFiles v (λ m. contents_in contents_of m.sectors m.image m.log ≡ is)) a.1 holds ∙ q, a.2 ∙ q)

  pub unsettled-log : (e : DiskError) (f : LogError) → SettlesAlone {T = T} contents_of is mid (Err e) now → SettlesLog {T = U} old (Err f) new
  unsettled-log e f a = go old same (subst (λ v. SettlesAlone {T = T} contents_of is old (Err e) v) (sym parts) (subst (λ v. SettlesAlone {T = T} contents_of is v (Err e) now) files a))
    where
      go : (o : Option Medium) → is ≡ held contents_of o disk → SettlesAlone {T = T} contents_of is o (Err e) new → SettlesLog {T = U} o (Err f) new
      go None q a = a
      go (Some m) q a = (a.0, a.1, subst (λ v. OfFiles v (λ m. contents_in contents_of m.sectors m.image m.log ≡ is)) a.1 holds ∙ q)
