-- What a disk with a log holds, before a call and after it.
use Rattle.std.proofs.Common.{◌≡◌, ℕ, ◌+◌, ◌*◌, ◌≤◌, List, ◌⊎◌, inl, inr, length, ap, sym, ◌∙◌, arith, refl, subst, Option, Some, None, Result, Ok, Err}
use Rattle.std.specs.Prelude.{◌/◌}
use Rattle.std.specs.Result.{IsErr}
use Rattle.block_device.specs.Contents.{replaced, Outcome, sector, InRange}
use Rattle.block_device.specs.Facts.{Facts, CountsNeverFall, Latches, Writes}
use Rattle.block_device.specs.declared.disk.DiskError.{DiskError}
use Rattle.block_device.specs.declared.disk.DiskError.TheVariants as errors
use Rattle.disk_log.specs.Records.{Change, with_change}
use Rattle.disk_log.specs.Logs.{Medium, IsBegunLog, held}
use Rattle.disk_log.specs.Files.{OfFiles}
use Rattle.disk_log.specs.Settling.{AddsChange, SettlesFiles, StaysInOrder, SettlesInOrder}
use Rattle.disk_log.specs.Power.{IsInOrder}
use Rattle.disk_log.specs.declared.logged.Standing.{Standing}
use Rattle.disk_log.specs.declared.logged.Standing.TheVariants as standings
use Rattle.disk_log.specs.Logged.{standing_answer, logged_facts, is_cut, is_slow, Settled, SettlesAlone, WritesTo, IsOfDisk}
use Rattle.disk_log.proofs.Places.{length-replaced}
use Rattle.disk_log.proofs.Replays.{goes-on, no-both}
use Rattle.disk_log.proofs.Orders.{alone-kept, begun-none}

pub some-is : {X : Type 0} (x y : X) → Some x ≡ Some y → x ≡ y
some-is x y e = cc

not-some : (m : Medium) → None ≡ Some m → ⊥
not-some m e = cc

pub to-files : (fact : Medium → Type 0) (files : Option Medium) → ((m : Medium) → files ≡ Some m → fact m) → OfFiles files fact
to-files fact None f = tt
to-files fact (Some m) f = f m refl

pub of-files : (fact : Medium → Type 0) (files : Option Medium) → OfFiles files fact → (m : Medium) → files ≡ Some m → fact m
of-files fact None f m e = absurd (not-some m e)
of-files fact (Some o) f m e = subst fact (some-is o m e) f

pub in-range : (these those : List ℕ) (first n : ℕ) → length these ≡ length those → InRange those first n → InRange these first n
in-range these those first n same r = (let w = r.within in record { within = omega (arith, w, same); whole = r.whole })

pub ready-of : (s : Standing) (t : Unit {0}) → standing_answer s ≡ Ok t → s ≡ standings.Ready
ready-of standings.Ready t e = refl
ready-of standings.Cut t e = cc
ready-of standings.Slow t e = cc

-- the sectors of a change are on the disk
pub on-disk : (contents bytes : List ℕ) (first sectors : ℕ) → length contents ≡ 512 * sectors → InRange contents first (length bytes) → first + length bytes / 512 ≤ sectors
on-disk contents bytes first sectors size r = (let within = r.within in omega (arith, size, within))

-- both are an outcome of a write
pub outcome-of : (old meant new : List ℕ) → length meant ≡ length old → (new ≡ old) ⊎ (new ≡ meant) → Outcome old meant new
outcome-of old meant new len (inl e) = record { size = ap (λ v. length v) e; each = λ s. inl (ap (λ v. sector v s) e) }
outcome-of old meant new len (inr e) = record { size = ap (λ v. length v) e ∙ len; each = λ s. inr (ap (λ v. sector v s) e) }

-- What an append leaves.
module _ (T E : Type 0) (represents : List ℕ → List ℕ) (change : Change) (n : ℕ) (image : List ℕ) (before : ℕ × ℕ) (fits : 512 * change.first + length change.bytes ≤ 512 * n)
    (old new : Option Medium) (count : (m : Medium) → old ≡ Some m → m.sectors ≡ n) (begun : (m : Medium) → old ≡ Some m → IsBegunLog m image before) where
  inside-of : (m : Medium) → old ≡ Some m → change.first + length change.bytes / 512 ≤ m.sectors
  inside-of m e = (let c = count m e in omega (arith, c, fits))

  module _ (last : ℕ × ℕ) (t : T) (a : AddsChange {T = T} {E = E} change before old (Ok t) last new) where
    pub added-begun : (m : Medium) → new ≡ Some m → IsBegunLog m image last
    added-begun m e = go old refl a
      where
        go : (o : Option Medium) → old ≡ o → AddsChange {T = T} {E = E} change before o (Ok t) last new → IsBegunLog m image last
        go None is a = absurd (not-some m (sym a ∙ e))
        go (Some o) is a = subst (λ v. IsBegunLog v image last) (some-is a.0 m (sym a.1 ∙ e)) (a.3 image (begun o is) (inside-of o is)).0

    pub added-sectors : (m : Medium) → new ≡ Some m → m.sectors ≡ n
    added-sectors m e = go old refl a
      where
        go : (o : Option Medium) → old ≡ o → AddsChange {T = T} {E = E} change before o (Ok t) last new → m.sectors ≡ n
        go None is a = absurd (not-some m (sym a ∙ e))
        go (Some o) is a = ap (λ (v : Medium). v.sectors) (some-is m a.0 (sym e ∙ a.1)) ∙ (a.2 ∙ count o is)

    held-added : (contents contents' : List ℕ) → ((old ≡ None) × (new ≡ None)) ⊎ (held represents new contents' ≡ with_change (held represents old contents) change)
    held-added contents contents' = go old refl a
      where
        go : (o : Option Medium) → old ≡ o → AddsChange {T = T} {E = E} change before o (Ok t) last new → ((old ≡ None) × (new ≡ None)) ⊎ (held represents new contents' ≡ with_change (held represents old contents) change)
        go None is a = inl (is, a)
        go (Some o) is a = inr (ap (λ v. held represents v contents') a.1 ∙ ((a.3 image (begun o is) (inside-of o is)).1 represents ∙ ap (λ v. with_change (held represents v contents) change) (sym is)))

    pub told-added : (contents contents' : List ℕ) → length contents' ≡ 512 * n → length (held represents old contents) ≡ 512 * n → length (held represents new contents') ≡ 512 * n
    told-added contents contents' size told = elim (held-added contents contents') [
      | inl none ↦ ap (λ v. length (held represents v contents')) none.1 ∙ size
      | inr e ↦ ap (λ v. length v) e ∙ (length-replaced (512 * change.first) (held represents old contents) change.bytes (omega (arith, fits, told)) ∙ told)
    ]

    pub same-added : (contents contents' : List ℕ) → held represents old contents ≡ contents → contents' ≡ with_change contents change → held represents new contents' ≡ contents'
    same-added contents contents' same done = elim (held-added contents contents') [
      | inl none ↦ ap (λ v. held represents v contents') none.1
      | inr e ↦ e ∙ (ap (λ v. with_change v change) same ∙ sym done)
    ]

  module _ (last : ℕ × ℕ) (f : E) (a : AddsChange {T = T} {E = E} change before old (Err f) last new) where
    held-not-added : (contents contents' : List ℕ)
        → ((old ≡ None) × (new ≡ None)) ⊎ ((held represents new contents' ≡ held represents old contents) ⊎ (held represents new contents' ≡ with_change (held represents old contents) change))
    held-not-added contents contents' = go old refl a
      where
        go : (o : Option Medium) → old ≡ o → AddsChange {T = T} {E = E} change before o (Err f) last new
            → ((old ≡ None) × (new ≡ None)) ⊎ ((held represents new contents' ≡ held represents old contents) ⊎ (held represents new contents' ≡ with_change (held represents old contents) change))
        go None is a = inl (is, a)
        go (Some o) is a = inr (elim (a.3 image (begun o is) (inside-of o is) represents) [
          | inl e ↦ inl (ap (λ v. held represents v contents') a.1 ∙ (e ∙ ap (λ v. held represents v contents) (sym is)))
          | inr e ↦ inr (ap (λ v. held represents v contents') a.1 ∙ (e ∙ ap (λ v. with_change (held represents v contents) change) (sym is)))
        ])

    pub told-not-added : (contents contents' : List ℕ) → length contents' ≡ 512 * n → length (held represents old contents) ≡ 512 * n → length (held represents new contents') ≡ 512 * n
    told-not-added contents contents' size told = elim (held-not-added contents contents') [
      | inl none ↦ ap (λ v. length (held represents v contents')) none.1 ∙ size
      | inr e ↦ elim e [
        | inl x ↦ ap (λ v. length v) x ∙ told
        | inr x ↦ ap (λ v. length v) x ∙ (length-replaced (512 * change.first) (held represents old contents) change.bytes (omega (arith, fits, told)) ∙ told)
      ]
    ]

    pub outcome-not-added : (contents contents' : List ℕ) → length (held represents old contents) ≡ 512 * n → contents' ≡ with_change contents change
        → Outcome (held represents old contents) (with_change (held represents old contents) change) (held represents new contents')
    outcome-not-added contents contents' told done =
        outcome-of (held represents old contents) (with_change (held represents old contents) change) (held represents new contents')
        (length-replaced (512 * change.first) (held represents old contents) change.bytes (omega (arith, fits, told)))
        (elim (held-not-added contents contents') [
          | inl none ↦ inr (ap (λ v. held represents v contents') none.1 ∙ (done ∙ ap (λ v. with_change (held represents v contents) change) (sym none.0)))
          | inr e ↦ e
        ])

  pub kept-added : OfFiles old (λ m. IsInOrder represents m) → StaysInOrder change before old new → OfFiles new (λ m. IsInOrder represents m)
  kept-added k s = s represents image (go old refl k)
    where
      go : (o : Option Medium) → old ≡ o → OfFiles o (λ m. IsInOrder represents m)
          → OfFiles o (λ m. IsInOrder represents m × IsBegunLog m image before × (change.first + length change.bytes / 512 ≤ m.sectors))
      go None is k = tt
      go (Some o) is k = (k, begun o is, inside-of o is)

-- the order stays where a disk in memory is what the files hold
pub kept-settled-on : (represents : List ℕ → List ℕ) (is contents : List ℕ) (old new : Option Medium) → represents is ≡ contents → held represents old contents ≡ contents
    → OfFiles old (λ m. IsInOrder represents m) → SettlesInOrder is old new → OfFiles new (λ m. IsInOrder represents m)
kept-settled-on represents is contents None new made same k s = s represents tt
kept-settled-on represents is contents (Some m) new made same k s = s represents (k, same ∙ sym made)

-- The files stay as they are.
pub untouched-alone : (T : Type 0) (represents : List ℕ → List ℕ) (c : List ℕ) (e : DiskError) (files : Option Medium) → SettlesAlone {T = T} represents c files (Err e) files
untouched-alone T represents c e None = refl
untouched-alone T represents c e (Some m) = (m, refl)

pub unready-alone : (T : Type 0) (represents : List ℕ → List ℕ) (c : List ℕ) (r : Result T DiskError) → IsErr r → (files : Option Medium) → SettlesAlone represents c files r files
unready-alone T represents c (Ok t) bad files = absurd (cc bad)
unready-alone T represents c (Err e) bad files = untouched-alone T represents c e files

-- What settling leaves.
module _ (T E : Type 0) (represents : List ℕ → List ℕ) (n : ℕ) (is contents : List ℕ) (old new : Option Medium) (last : ℕ × ℕ) (made : represents is ≡ contents) where
  module _ (t : T) (a : SettlesFiles {T = T} {E = E} is old (Ok t) last new) where
    pub settled-held : held represents new contents ≡ contents
    settled-held = go old a
      where
        go : (o : Option Medium) → SettlesFiles {T = T} {E = E} is o (Ok t) last new → held represents new contents ≡ contents
        go None a = ap (λ v. held represents v contents) a
        go (Some o) a = ap (λ v. held represents v contents) a.1 ∙ (a.4 represents ∙ made)

    pub settled-begun : (m : Medium) → new ≡ Some m → IsBegunLog m is last
    settled-begun m e = go old a
      where
        go : (o : Option Medium) → SettlesFiles {T = T} {E = E} is o (Ok t) last new → IsBegunLog m is last
        go None a = absurd (not-some m (sym a ∙ e))
        go (Some o) a = subst (λ v. IsBegunLog v is last) (some-is a.0 m (sym a.1 ∙ e)) a.3

    pub settled-alone : (U : Type 0) (u : U) → SettlesAlone represents (held represents new contents) old (Ok u) new
    settled-alone U u = go old a
      where
        go : (o : Option Medium) → SettlesFiles {T = T} {E = E} is o (Ok t) last new → SettlesAlone represents (held represents new contents) o (Ok u) new
        go None a = a
        go (Some o) a = (a.0, a.1, ap represents a.3.same ∙ (sym (a.4 represents) ∙ sym (ap (λ v. held represents v contents) a.1)))

    pub settled-sectors : ((m : Medium) → old ≡ Some m → m.sectors ≡ n) → (m : Medium) → new ≡ Some m → m.sectors ≡ n
    settled-sectors count m e = go old refl a
      where
        go : (o : Option Medium) → old ≡ o → SettlesFiles {T = T} {E = E} is o (Ok t) last new → m.sectors ≡ n
        go None is' a = absurd (not-some m (sym a ∙ e))
        go (Some o) is' a = ap (λ (v : Medium). v.sectors) (some-is m a.0 (sym e ∙ a.1)) ∙ (a.2 ∙ count o is')

  module _ (f : E) (a : SettlesFiles {T = T} {E = E} is old (Err f) last new) where
    pub unsettled-alone : (U : Type 0) (e : DiskError) (c : List ℕ) → SettlesAlone {T = U} represents c old (Err e) new
    unsettled-alone U e c = go old a
      where
        go : (o : Option Medium) → SettlesFiles {T = T} {E = E} is o (Err f) last new → SettlesAlone {T = U} represents c o (Err e) new
        go None a = a
        go (Some o) a = (a.0, a.1)

    pub unsettled-held : (held represents new contents ≡ held represents old contents) ⊎ (held represents new contents ≡ contents)
    unsettled-held = go old refl a
      where
        go : (o : Option Medium) → old ≡ o → SettlesFiles {T = T} {E = E} is o (Err f) last new → (held represents new contents ≡ held represents old contents) ⊎ (held represents new contents ≡ contents)
        go None e a = inr (ap (λ v. held represents v contents) a)
        go (Some o) e a = elim (a.2 represents) [
          | inl x ↦ inl (ap (λ v. held represents v contents) a.1 ∙ (x ∙ ap (λ v. held represents v contents) (sym e)))
          | inr x ↦ inr (ap (λ v. held represents v contents) a.1 ∙ (x ∙ made))
        ]

    pub unsettled-told : length contents ≡ 512 * n → length (held represents old contents) ≡ 512 * n → length (held represents new contents) ≡ 512 * n
    unsettled-told size told = elim unsettled-held [ inl e ↦ ap (λ v. length v) e ∙ told | inr e ↦ ap (λ v. length v) e ∙ size ]

    pub unsettled-same : held represents old contents ≡ contents → held represents new contents ≡ held represents old contents
    unsettled-same same = elim unsettled-held [ inl e ↦ e | inr e ↦ e ∙ sym same ]

-- what is known of files that are those of a disk
pub held-of : (represents : List ℕ → List ℕ) (n : ℕ) (contents image : List ℕ) (last : ℕ × ℕ) (files : Option Medium) → OfFiles files (λ m. IsOfDisk represents n contents image last m)
    → held represents files contents ≡ contents
held-of represents n contents image last None h = refl
held-of represents n contents image last (Some m) h = h.same

pub sectors-of : (represents : List ℕ → List ℕ) (n : ℕ) (contents image : List ℕ) (last : ℕ × ℕ) (files : Option Medium) (sectors : ℕ)
    → OfFiles files (λ m. IsOfDisk represents (length contents / 512) contents image last m) → length contents ≡ 512 * sectors → (m : Medium) → files ≡ Some m → m.sectors ≡ sectors
sectors-of represents n contents image last None sectors h size m e = cc
sectors-of represents n contents image last (Some o) sectors h size m e = (let s = h.sectors in ap (λ v. v.sectors) (some-is m o (sym e)) ∙ omega (arith, s, size))

pub kept-of : (represents : List ℕ → List ℕ) (n : ℕ) (contents image : List ℕ) (last : ℕ × ℕ) (files : Option Medium) → OfFiles files (λ m. IsOfDisk represents n contents image last m)
    → OfFiles files (λ m. IsInOrder represents m)
kept-of represents n contents image last None h = tt
kept-of represents n contents image last (Some m) h = alone-kept m h.low h.settled (begun-none m image last h.begun) represents

pub begun-of : (represents : List ℕ → List ℕ) (n : ℕ) (contents image : List ℕ) (last : ℕ × ℕ) (files : Option Medium) → OfFiles files (λ m. IsOfDisk represents n contents image last m)
    → (m : Medium) → files ≡ Some m → IsBegunLog m image last
begun-of represents n contents image last None h m e = cc
begun-of represents n contents image last (Some o) h m e = subst (λ v. IsBegunLog v image last) (some-is o m e) h.begun

-- The facts of a disk with a log.
pub counts-of : (represents : List ℕ → List ℕ) (w w' : Option Medium) (s s' : Standing) (lost lost' : ℕ) (i i' : Option ℕ) (sectors : ℕ) (old new : Facts)
    → length (held represents w old.contents) ≡ 512 * sectors → length (held represents w' new.contents) ≡ 512 * sectors → lost ≤ lost' → CountsNeverFall old new
    → CountsNeverFall (logged_facts represents w s lost i old) (logged_facts represents w' s' lost' i' new)
counts-of represents w w' s s' lost lost' i i' sectors old new here there more goes =
    let cuts = goes.cuts in
    record { size = there ∙ sym here; cuts = omega (arith, cuts, more); slows = goes.slows }

-- a call that found room, and then another
pub latches-on : (T U : Type 0) (t : T) (r : Result U DiskError) (old mid new : Facts) → Latches {T = T} old (Ok t) mid → CountsNeverFall old mid → Latches {T = U} mid r new → Latches {T = U} old r new
latches-on T U t (Ok u) old mid new a g b = (a.0, b.1)
latches-on T U t (Err errors.Cut) old mid new a g b =
    (elim b.0 [ inl stood ↦ absurd (no-both mid.cut stood a.1.0) | inr came ↦ (let x = g.cuts in let y = came.1 in inr (a.0, omega (arith, x, y))) ], b.1, b.2 ∙ (a.1.1 ∙ sym a.0.1))
latches-on T U t (Err errors.Slow) old mid new a g b =
    (a.0.0, elim b.1 [ inl stood ↦ absurd (no-both mid.slow stood a.1.1) | inr came ↦ (let x = g.slows in inr (omega (arith, x, came))) ], b.2, b.3)

pub writes-on : (T U : Type 0) (t : T) (r : Result U DiskError) (first : ℕ) (bytes : List ℕ) (old mid new : Facts) → Settled {T = T} old (Ok t) mid → WritesTo {T = U} first bytes mid r new
    → WritesTo {T = U} first bytes old r new
writes-on T U t r first bytes old mid new a b = record {
  contents = λ s. subst (λ v. Writes {T = U} first bytes v r new.contents) (a.contents s) (b.contents (a.sound ∙ s));
  sound = b.sound ∙ a.sound;
  goes = goes-on old mid new a.goes b.goes;
  latches = latches-on T U t r old mid new a.latches a.goes b.latches;
}

-- a loss of the files, in a call that no error stood before
pub cut-latches : (T : Type 0) (represents : List ℕ → List ℕ) (w w' : Option Medium) (s : Standing) (lost lost' : ℕ) (i i' : Option ℕ) (old new : Facts) → s ≡ standings.Ready → lost' ≡ lost + 1
    → old.cuts ≤ new.cuts → Latches {T = T} (logged_facts represents w s lost i old) (Err errors.Cut) (logged_facts represents w' standings.Cut lost' i' new)
cut-latches T represents w w' s lost lost' i i' old new e more cuts =
    (inr ((ap (λ v. is_cut v) e, ap (λ v. is_slow v) e), omega (arith, more, cuts)), refl, sym (ap (λ v. is_slow v) e))

pub ready-latches : (T : Type 0) (t : T) (represents : List ℕ → List ℕ) (w w' : Option Medium) (s : Standing) (lost lost' : ℕ) (i i' : Option ℕ) (old new : Facts) → s ≡ standings.Ready
    → Latches {T = T} (logged_facts represents w s lost i old) (Ok t) (logged_facts represents w' s lost' i' new)
ready-latches T t represents w w' s lost lost' i i' old new e = ((ap (λ v. is_cut v) e, ap (λ v. is_slow v) e), (ap (λ v. is_cut v) e, ap (λ v. is_slow v) e))

pub same-facts : (old : Facts) → CountsNeverFall old old
same-facts old = record { size = refl; cuts = omega arith; slows = omega arith }

-- where no room was found, nothing was written
pub unroomed : (T U : Type 0) (e : DiskError) (first : ℕ) (bytes : List ℕ) (old new : Facts) → InRange old.contents first (length bytes) → Settled {T = T} old (Err e) new
    → WritesTo {T = U} first bytes old (Err e) new
unroomed T U errors.Cut first bytes old new r s = (let within = r.within in record {
  contents = λ sound. outcome-of old.contents (replaced old.contents (512 * first) bytes) new.contents (length-replaced (512 * first) old.contents bytes within) (inl (s.contents sound));
  sound = s.sound;
  goes = s.goes;
  latches = s.latches;
})
unroomed T U errors.Slow first bytes old new r s = record { contents = λ sound. tt; sound = s.sound; goes = s.goes; latches = s.latches }
