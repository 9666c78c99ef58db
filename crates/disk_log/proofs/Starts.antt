-- A log that a start takes up.
use Rattle.std.proofs.Common.{◌≡◌, ℕ, ◌+◌, ◌-◌, ◌*◌, ◌≤◌, true, false, List, [], inl, inr, length, take, drop, ap, sym, ◌∙◌, arith, refl, subst, Option, Some, None, Result, Ok, Err}
use Rattle.std.specs.Result.{IsErr}
use Rattle.std.proofs.lemmas.List.{length-drop, drop-drop, take_rest}
use Rattle.disk_log.specs.Records.{count_in, replayed}
use Rattle.disk_log.specs.Checkpoints.{with_blocks, placed_in}
use Rattle.disk_log.specs.Logs.{log_changes, has_checkpoint, contents_in, Medium, HoldsAs}
use Rattle.disk_log.specs.Files.{SyncsLog, SyncsImage, CutsLog, IsNeedless, OfFiles}
use Rattle.disk_log.specs.Settling.{HasBlocks, EmptiesLog}
use Rattle.disk_log.specs.Reading.{IsEmptyOn, IsBlankOn, IsPlacedOn, IsRead, ReadsLog, TakesUp}
use Rattle.disk_log.specs.declared.reading.Found.TheVariants as founds
use Rattle.disk_log.proofs.Records.{checkpoint-is}
use Rattle.disk_log.proofs.Places.{placed-len}
use Rattle.disk_log.proofs.Entries.{empty-holds, holds-placed}
use Rattle.disk_log.proofs.Held.{told-changes}
use Rattle.disk_log.proofs.Finding.{entries-long}

-- the files hold what they did
abbrev pub Keeps : Option Medium → Option Medium → Type 0
Keeps None new = new ≡ None
Keeps (Some m) new = (m' : Medium) × (new ≡ Some m') × (m'.sectors ≡ m.sectors) × HoldsAs m m'

pub kept-on : (E : Type 0) (image : List ℕ) (r : Result (ℕ × ℕ) E) (old mid new : Option Medium) → Keeps old mid → TakesUp {E = E} mid image r new → TakesUp {E = E} old image r new
kept-on E image r None mid new k t = subst (λ v. TakesUp {E = E} v image r new) k t
kept-on E image (Ok sum) (Some m) mid new k t =
    let t' = subst (λ v. TakesUp {E = E} v image (Ok sum) new) k.1 t in
    (t'.0, t'.1, t'.2 ∙ k.2, t'.3, λ represents. t'.4 represents ∙ k.3 represents, t'.5, t'.6)
kept-on E image (Err e) (Some m) mid new k t =
    let t' = subst (λ v. TakesUp {E = E} v image (Err e) new) k.1 t in
    (t'.0, t'.1, λ represents. t'.2 represents ∙ k.3 represents)

pub kept-err : (E : Type 0) (image : List ℕ) (r : Result (ℕ × ℕ) E) → IsErr r → (old new : Option Medium) → Keeps old new → TakesUp {E = E} old image r new
kept-err E image (Ok sum) bad old new k = absurd (cc bad)
kept-err E image (Err e) bad None new k = k
kept-err E image (Err e) bad (Some m) new k = (k.0, k.1, k.3)

pub keeps-on : (old mid new : Option Medium) → Keeps old mid → Keeps mid new → Keeps old new
keeps-on None mid new k l = subst (λ v. Keeps v new) k l
keeps-on (Some m) mid new k l =
    let l' = subst (λ v. Keeps v new) k.1 l in
    (l'.0, l'.1, l'.2 ∙ k.2, λ represents. l'.3 represents ∙ k.3 represents)

pub keeps-image : (T E : Type 0) (r : Result T E) (old new : Option Medium) → SyncsImage {T = T} {E = E} old r new → Keeps old new
keeps-image T E (Ok t) None new s = s
keeps-image T E (Err e) None new s = s
keeps-image T E (Ok t) (Some m) new s = (record m { settled = true }, s, refl, λ represents. refl)
keeps-image T E (Err e) (Some m) new s = (record m { settled = s.0 }, s.1, refl, λ represents. refl)

pub keeps-log : (T E : Type 0) (r : Result T E) (old new : Option Medium) → SyncsLog {T = T} {E = E} old r new → Keeps old new
keeps-log T E (Ok t) None new s = s
keeps-log T E (Err e) None new s = s
keeps-log T E (Ok t) (Some m) new s = (record m { safe = length m.log }, s, refl, λ represents. refl)
keeps-log T E (Err e) (Some m) new s = (record m { safe = s.0 }, s.2, refl, λ represents. refl)

-- a log that says nothing
blank-holds : (represents : List ℕ → List ℕ) (n : ℕ) (image log : List ℕ) → (log_changes n log).changes ≡ [] → has_checkpoint n log ≡ false → contents_in represents n image log ≡ represents image
unfolding replayed
blank-holds represents n image log none bare = told-changes represents image (log_changes n log) bare ∙ ap (λ v. replayed v (represents image)) none

-- it is cut
pub blank-needless : (T E : Type 0) (t : T) (image : List ℕ) (old mid : Option Medium) → OfFiles old (λ m. IsBlankOn image m) → SyncsImage {T = T} {E = E} old (Ok t) mid → OfFiles mid (λ m. IsNeedless 0 m)
blank-needless T E t image None mid b s = subst (λ v. OfFiles v (λ m. IsNeedless 0 m)) (sym s) tt
blank-needless T E t image (Some m) mid b s = subst (λ v. OfFiles v (λ m. IsNeedless 0 m)) (sym s) (record {
  low = omega arith;
  settled = refl;
  same = λ represents. empty-holds represents m.sectors m.image [] refl ∙ sym (blank-holds represents m.sectors m.image m.log b.1 b.2);
})

pub blank-cut : (T U E : Type 0) (t : T) (r : Result U E) (image : List ℕ) (old mid new : Option Medium) → OfFiles old (λ m. IsBlankOn image m) → SyncsImage {T = T} {E = E} old (Ok t) mid
    → CutsLog {T = U} {E = E} 0 mid r new → Keeps old new
blank-cut T U E t (Ok u) image None mid new b s c = subst (λ v. CutsLog {T = U} {E = E} 0 v (Ok u) new) s c
blank-cut T U E t (Err e) image None mid new b s c = subst (λ v. CutsLog {T = U} {E = E} 0 v (Err e) new) s c
blank-cut T U E t (Ok u) image (Some m) mid new b s c =
    let c' = subst (λ v. CutsLog {T = U} {E = E} 0 v (Ok u) new) s c in (
      record m { log = []; safe = 0; settled = true },
      c',
      refl,
      λ represents. empty-holds represents m.sectors m.image [] refl ∙ sym (blank-holds represents m.sectors m.image m.log b.1 b.2),
    )
blank-cut T U E t (Err e) image (Some m) mid new b s c =
    let c' = subst (λ v. CutsLog {T = U} {E = E} 0 v (Err e) new) s c in (
      record m { log = c'.0; safe = c'.1; settled = true },
      c'.3,
      refl,
      λ represents. elim c'.2 [
        | inl h ↦ ap (λ v. contents_in represents m.sectors m.image v) h.0
        | inr h ↦ empty-holds represents m.sectors m.image c'.0 h.0 ∙ sym (blank-holds represents m.sectors m.image m.log b.1 b.2)
      ],
    )

pub blank-empty : (T U E : Type 0) (t : T) (u : U) (image : List ℕ) (old mid new : Option Medium) → OfFiles old (λ m. IsBlankOn image m) → SyncsImage {T = T} {E = E} old (Ok t) mid
    → CutsLog {T = U} {E = E} 0 mid (Ok u) new → OfFiles new (λ m. IsEmptyOn image m)
blank-empty T U E t u image None mid new b s c =
    subst (λ v. OfFiles v (λ m. IsEmptyOn image m)) (sym (subst (λ v. CutsLog {T = U} {E = E} 0 v (Ok u) new) s c)) tt
blank-empty T U E t u image (Some m) mid new b s c =
    subst (λ v. OfFiles v (λ m. IsEmptyOn image m)) (sym (subst (λ v. CutsLog {T = U} {E = E} 0 v (Ok u) new) s c)) (b.0, refl, refl, refl)

-- a checkpoint is placed
pub placed-blocks : (T E : Type 0) (t : T) (image checkpoint : List ℕ) (count : ℕ) (old mid : Option Medium) → 32 + 4104 * count_in checkpoint ≤ length checkpoint → count ≡ count_in checkpoint
    → OfFiles old (λ m. IsPlacedOn image checkpoint m) → SyncsLog {T = T} {E = E} old (Ok t) mid
    → OfFiles mid (λ m. HasBlocks m (length image) count (drop 8 (take (length checkpoint - 24) (drop 24 checkpoint))))
placed-blocks T E t image checkpoint count None mid long same p s = subst (λ v. OfFiles v (λ m. HasBlocks m (length image) count (drop 8 (take (length checkpoint - 24) (drop 24 checkpoint))))) (sym s) tt
placed-blocks T E t image checkpoint count (Some m) mid long same p s =
    let d = length-drop 32 checkpoint in
    subst (λ v. OfFiles v (λ m. HasBlocks m (length image) count (drop 8 (take (length checkpoint - 24) (drop 24 checkpoint))))) (sym s) (record {
      size = sym (ap (λ v. length v) p.placed ∙ placed-len (count_in checkpoint) (drop 32 checkpoint) m.image (omega (arith, d, long)));
      safe = refl;
      whole = p.whole;
      count_is = ap (λ v. count_in v) p.rest ∙ sym same;
      there = ap (λ v. drop 32 v) p.rest ∙ sym (ap (λ v. drop 8 v) (take_rest checkpoint 24) ∙ drop-drop 8 24 checkpoint);
    })

module _ (image checkpoint entries : List ℕ) (count : ℕ) (same : count ≡ count_in checkpoint) (is : entries ≡ drop 32 checkpoint) where
  placed-is : (m : Medium) → IsPlacedOn image checkpoint m → with_blocks count entries m.image ≡ image
  placed-is m p = ap (λ n. with_blocks n entries m.image) same ∙ (ap (λ v. with_blocks (count_in checkpoint) v m.image) is ∙ sym p.placed)

  pub emptied-keeps : (T U E : Type 0) (t : T) (u : U) (old mid new : Option Medium) → OfFiles old (λ m. IsPlacedOn image checkpoint m) → OfFiles mid (λ m. HasBlocks m (length image) count entries)
      → SyncsLog {T = T} {E = E} old (Ok t) mid → EmptiesLog {T = U} {E = E} count entries mid (Ok u) new → Keeps old new
  emptied-keeps T U E t u None mid new p h s e = subst (λ v. EmptiesLog {T = U} {E = E} count entries v (Ok u) new) s e
  emptied-keeps T U E t u (Some m) mid new p h s e =
      let h' = subst (λ v. OfFiles v (λ m. HasBlocks m (length image) count entries)) s h in
      let e' = subst (λ v. EmptiesLog {T = U} {E = E} count entries v (Ok u) new) s e in (
        record m { image = with_blocks count entries m.image; log = []; safe = 0; settled = true },
        e',
        refl,
        λ represents.
            empty-holds represents m.sectors (with_blocks count entries m.image) [] refl
            ∙ sym (holds-placed (record m { safe = length m.log }) (length image) count entries m.image represents h'),
      )

  pub emptied-empty : (T U E : Type 0) (t : T) (u : U) (old mid new : Option Medium) → OfFiles old (λ m. IsPlacedOn image checkpoint m) → SyncsLog {T = T} {E = E} old (Ok t) mid
      → EmptiesLog {T = U} {E = E} count entries mid (Ok u) new → OfFiles new (λ m. IsEmptyOn image m)
  emptied-empty T U E t u None mid new p s e = subst (λ v. OfFiles v (λ m. IsEmptyOn image m)) (sym (subst (λ v. EmptiesLog {T = U} {E = E} count entries v (Ok u) new) s e)) tt
  emptied-empty T U E t u (Some m) mid new p s e =
      subst (λ v. OfFiles v (λ m. IsEmptyOn image m)) (sym (subst (λ v. EmptiesLog {T = U} {E = E} count entries v (Ok u) new) s e)) (placed-is m p, refl, refl, refl)

pub unplaced-err : (U E F : Type 0) (f : E) (image : List ℕ) (count : ℕ) (entries : List ℕ) (r : Result (ℕ × ℕ) F) → IsErr r → (T : Type 0) (t : T) (old mid new : Option Medium) → SyncsLog {T = T} {E = E} old (Ok t) mid
    → EmptiesLog {T = U} {E = E} count entries mid (Err f) new → TakesUp {E = F} old image r new
unplaced-err U E F f image count entries (Ok sum) bad T t old mid new s e = absurd (cc bad)
unplaced-err U E F f image count entries (Err g) bad T t None mid new s e = subst (λ v. EmptiesLog {T = U} {E = E} count entries v (Err f) new) s e
unplaced-err U E F f image count entries (Err g) bad T t (Some m) mid new s e =
    (let e' = subst (λ v. EmptiesLog {T = U} {E = E} count entries v (Err f) new) s e in (e'.0, e'.1, e'.2))

-- what was found
pub blank-of : (n : ℕ) (image log : List ℕ) (files : Option Medium) → OfFiles files (λ m. IsRead n image log founds.Nothing m) → OfFiles files (λ m. IsBlankOn image m)
blank-of n image log None h = h
blank-of n image log (Some m) h =
    let e = ap (λ k. (k, m.log)) h.0 ∙ ap (λ v. (n, v)) h.1 in
    (sym h.2.3, ap (λ (v : ℕ × List ℕ). (log_changes v.0 v.1).changes) e ∙ h.2.1, ap (λ (v : ℕ × List ℕ). has_checkpoint v.0 v.1) e ∙ h.2.2)

pub checkpoint-of : (n at : ℕ) (image log : List ℕ) (files : Option Medium) → OfFiles files (λ m. IsRead n image log (founds.Checkpoint at) m)
    → OfFiles files (λ m. IsPlacedOn image (take (length log - at) (drop at log)) m)
checkpoint-of n at image log None h = h
checkpoint-of n at image log (Some m) h =
    let r : (log_changes m.sectors m.log).rest ≡ (log_changes n log).rest = ap (λ (v : ℕ × List ℕ). (log_changes v.0 v.1).rest) (ap (λ k. (k, m.log)) h.0 ∙ ap (λ v. (n, v)) h.1) in
    let c = take_rest log at ∙ h.2.2 in
    record {
      whole = ap (λ (v : ℕ × List ℕ). has_checkpoint v.0 v.1) (ap (λ k. (k, m.log)) h.0 ∙ ap (λ v. (n, v)) h.1) ∙ h.2.0;
      rest = r ∙ sym c;
      placed = h.2.3 ∙ ap (λ v. placed_in v m.image) (sym c);
    }

pub checkpoint-long : (n at : ℕ) (image log : List ℕ) → (was : List ℕ) × ReadsLog n log was (Ok (founds.Checkpoint at)) image
    → 32 + 4104 * count_in (take (length log - at) (drop at log)) ≤ length (take (length log - at) (drop at log))
checkpoint-long n at image log (was, h) =
    let w = checkpoint-is _ _ h.0 in
    let c = take_rest log at ∙ h.2 in
    subst (λ v. 32 + 4104 * count_in v ≤ length v) (sym c) (entries-long (log_changes n log).rest w.0.head w.0.whole w.1)
