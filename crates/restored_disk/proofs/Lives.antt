-- The calls of the disk of a chip in its lives, by those of the disk that is mounted.
use Rattle.std.proofs.Common.{◌≡◌, ◌⊎◌, ℕ, ◌+◌, ◌*◌, ◌<◌, ◌≤◌, true, false, List, length, Option, None, Some, refl, sym, ◌∙◌, ap, subst, arith, inl, inr}
use Rattle.std.proofs.lemmas.Bool.{true≢false}
use Rattle.std.specs.Prelude.{Bool, Result, Ok, Err, [], ◌∷◌, ◌++◌, if◌then◌else◌, is_some, IfSome, not, ◌&&◌}
use Rattle.std.specs.Result.{IsErrOf}
use Rattle.chip_model.specs.Geometry.{sector_count}
use Rattle.chip_model.specs.Chip.{Chip, is_idle}
use Rattle.chip_model.specs.Wavering.{Bits, bits_of}
use Rattle.nor_driver.specs.Probe.{IsAcceptedChip}
use Rattle.sector_slots.specs.Fit.{IsFitForFirmMount}
use Rattle.sector_slots.specs.Slots.{IsClean}
use Rattle.sector_map.proofs.Marking.{disk-laid}
use Rattle.sector_map.specs.Maps.{IsMountable}
use Rattle.block_device.specs.declared.disk.DiskError.{DiskError}
use Rattle.block_device.specs.declared.disk.DiskError.TheVariants.{Cut, Slow}
use Rattle.block_device.specs.Contents.{Outcome, replaced}
use Rattle.block_device.specs.Facts.{CountsNeverFall, Facts, IsDiskReady, KeepsContents, Latches, RestoreLatches, Writes}
use Rattle.flash_disk.specs.Contents.{AtEachDraw, contents_of}
use Rattle.nor_driver.specs.declared.error.ProbeError.TheVariants as probes
use Rattle.flash_disk.specs.Mounting.{CallCounts, IsIdleAfter, RefusedAt, RefusedFor}
use Rattle.flash_disk.specs.declared.error.MountError.{MountError}
use Rattle.flash_disk.specs.declared.error.MountError.TheVariants as refusals
use Rattle.flash_disk.proofs.Sectors.{length-contents}
use Rattle.restored_disk.specs.Lives.{CanGoOn, Draw, HaveLost, IsFoundNext, IsNextLife, IsFirmOrSteady, Place, StandsInFirst, StandsInLife, WaitsForPower, mount_told, off_chip, stands_cut, lives_facts, lost_now}

-- a chip reads as before at this power-on
abbrev pub SameRead : ((b : Bits) → Draw b) → Type 0
SameRead draw = (b : Bits) → (draw b).later ≡ b.shown

-- what is known of a chip that is served, of one of its power-ons
pub reads-at : (firm : Bool) (draws : ℕ → (b : Bits) → Draw b) (life : ℕ) → IsFirmOrSteady firm draws → (firm ≡ true) ⊎ SameRead (draws life)
reads-at true draws life served = inl refl
reads-at false draws life served = inr (λ b. served refl life b)

-- nothing is said of what isn't there
pub if-none : {A : Type 0} (o : Option A) (P : A → Type 0) → is_some o ≡ false → IfSome o P
if-none None P none = tt
if-none (Some x) P none = absurd (true≢false none)

-- each life before ended with a loss, and so did one more
pub lost-more : {B : Type 0} (count : B → ℕ) (l : List (B × Unit {0})) (b : B) → HaveLost count l → 0 < count b → HaveLost count (l ++ (b, tt) ∷ [])
lost-more count [] b before lost = (lost, tt)
lost-more count (e ∷ l) b before lost = (before.0, lost-more count l b before.1 lost)

pub not-empty : {B : Type 0} (l : List B) (b : B) (A : Type 0) → l ++ b ∷ [] ≡ [] → A
not-empty [] b A same = absurd (cc same)
not-empty (x ∷ l) b A same = absurd (cc same)

pub one-more : {B : Type 0} (l : List B) (b : B) → length (l ++ b ∷ []) ≡ length l + 1
one-more [] b = refl
one-more (x ∷ l) b = (let more = one-more l b in omega (arith, more))

pub empty : {B : Type 0} (l : List B) → length l ≡ 0 → l ≡ []
empty [] none = refl
empty (x ∷ l) none = absurd (omega (arith, none))

-- an error that a call answered
abbrev pub failed : (T : Type 0) → DiskError → Result T DiskError
failed T e = Err e

-- what stands after a call
abbrev pub after : {T : Type 0} → Result T DiskError → Option DiskError
after (Ok v) = None
after (Err e) = Some e

-- how many losses were answered then
abbrev pub ticked : {T : Type 0} → ℕ → Result T DiskError → ℕ
ticked n (Ok v) = n
ticked n (Err e) = n + (if stands_cut (Some e) then 1 else 0)

-- a draw is as many bytes
pub size-drawn : (draw : (b : Bits) → Draw b) (b : Bits) → length (contents_of (draw b).later) ≡ length (contents_of b.shown)
size-drawn draw b = length-contents (draw b).later ∙ (ap (λ n. 512 * sector_count n) (draw b).drawn.same_length ∙ sym (length-contents b.shown))

-- what is said at each draw, or where bits read as before of what the chip reads as, holds at this one
pub at-draw : (firm : Bool) (draw : (b : Bits) → Draw b) (b : Bits) (Holds : List ℕ → Type 0) → (firm ≡ true) ⊎ SameRead draw → (firm ≡ true → AtEachDraw b Holds) → Holds (contents_of b.shown) → Holds (contents_of (draw b).later)
at-draw firm draw b Holds (inl is) each shown = (each is (draw b).later (draw b).drawn).2
at-draw firm draw b Holds (inr same) each shown = subst (λ m. Holds (contents_of m)) (sym (same b)) shown

-- a chip is fit whatever its contents are
pub fit-draws : (b : Bits) (Holds : List ℕ → Type 0) → AtEachDraw b Holds → AtEachDraw b (λ _. Unit {0})
fit-draws b Holds each = λ later drawn. let x = each later drawn in (x.0, x.1, tt)

-- A call that is answered by what stands changes nothing.
pub stood-latches : (T : Type 0) (draw : (b : Bits) → Draw b) (e : DiskError) (n : ℕ) (p : Place) → Latches {T = T} (lives_facts draw (Some e) n p) (Err e) (lives_facts draw (Some e) n p)
stood-latches T draw Cut n p = (inl refl, refl, refl)
stood-latches T draw Slow n p = (refl, inl refl, refl, refl)

pub stood-keeps : (T : Type 0) (e : DiskError) (d : List ℕ) → KeepsContents {T = T} d (Err e) d
stood-keeps T Cut d = refl
stood-keeps T Slow d = tt

pub stood-writes : (T : Type 0) (e : DiskError) (first : ℕ) (bytes d : List ℕ) → Writes {T = T} first bytes d (Err e) d
stood-writes T Cut first bytes d = record { size = refl; each = λ s. inl refl }
stood-writes T Slow first bytes d = tt

pub goes-same : (f : Facts) → CountsNeverFall f f
goes-same f = record { size = refl; cuts = omega arith; slows = omega arith }

-- A call of the disk that is mounted.
pub call-latches : (T : Type 0) (r : Result T DiskError) (draw : (b : Bits) → Draw b) (n : ℕ) (p q : Place) → IsDiskReady p.facts → Latches p.facts r q.facts → Latches (lives_facts draw None n p) r (lives_facts draw (after r) (ticked n r) q)
call-latches T (Ok v) draw n p q ready latched = ((refl, refl), (refl, refl))
call-latches T (Err Cut) draw n p q ready latched = (inr ((refl, refl), omega arith), refl, refl)
call-latches T (Err Slow) draw n p q ready latched =
    (refl, inr (elim latched.1 as (λ _. p.facts.slows < q.facts.slows) [ inl stood ↦ absurd (let no = ready.1 in cc (stood, no)) | inr more ↦ more ]), refl, refl)

size-after : (T : Type 0) (r : Result T DiskError) (draw : (b : Bits) → Draw b) (n : ℕ) (q : Place) → q.mounted ≡ true → q.facts.contents ≡ contents_of q.bits.shown → length (lives_facts draw (after r) n q).contents ≡ length q.facts.contents
size-after T (Ok v) draw n q here whole = ap (λ t. length (if t && false then contents_of (draw q.bits).later else q.facts.contents)) here
size-after T (Err Cut) draw n q here whole = ap (λ t. length (if t && true then contents_of (draw q.bits).later else q.facts.contents)) here ∙ (size-drawn draw q.bits ∙ sym (ap length whole))
size-after T (Err Slow) draw n q here whole = ap (λ t. length (if t && false then contents_of (draw q.bits).later else q.facts.contents)) here

-- a disk with power is as it is mounted
pub lit : (draw : (b : Bits) → Draw b) (n : ℕ) (p : Place) → p.mounted ≡ true → (lives_facts draw None n p).contents ≡ p.facts.contents
lit draw n p here = ap (λ t. if t && false then contents_of (draw p.bits).later else p.facts.contents) here

pub call-goes : (T : Type 0) (r : Result T DiskError) (draw : (b : Bits) → Draw b) (n : ℕ) (p q : Place) → p.mounted ≡ true → q.mounted ≡ true → q.facts.contents ≡ contents_of q.bits.shown → CountsNeverFall p.facts q.facts
    → CountsNeverFall (lives_facts draw None n p) (lives_facts draw (after r) (ticked n r) q)
call-goes T r draw n p q here there whole goes = record {
  size = size-after T r draw (ticked n r) q there whole ∙ (goes.size ∙ ap length (sym (lit draw n p here)));
  cuts = elim r as (λ x. n ≤ ticked n x) [ Ok v ↦ omega arith | Err e ↦ elim e as (λ y. n ≤ ticked {T = T} n (Err y)) [ Cut ↦ omega arith | Slow ↦ omega arith ] ];
  slows = goes.slows;
}

pub call-keeps : (T : Type 0) (r : Result T DiskError) (firm : Bool) (draw : (b : Bits) → Draw b) (n : ℕ) (p q : Place) → p.mounted ≡ true → q.mounted ≡ true → q.facts.contents ≡ contents_of q.bits.shown → (firm ≡ true) ⊎ SameRead draw
    → KeepsContents p.facts.contents r q.facts.contents → (IsErrOf r Cut → firm ≡ true → AtEachDraw q.bits (λ later. later ≡ p.facts.contents)) → KeepsContents (lives_facts draw None n p).contents r (lives_facts draw (after r) (ticked n r) q).contents
call-keeps T (Ok v) firm draw n p q here there whole reads kept lost =
    ap (λ t. if t && false then contents_of (draw q.bits).later else q.facts.contents) there ∙ (kept ∙ sym (lit draw n p here))
call-keeps T (Err Cut) firm draw n p q here there whole reads kept lost =
    ap (λ t. if t && true then contents_of (draw q.bits).later else q.facts.contents) there
    ∙ (at-draw firm draw q.bits (λ d. d ≡ p.facts.contents) reads (lost refl) (sym whole ∙ kept) ∙ sym (lit draw n p here))
call-keeps T (Err Slow) firm draw n p q here there whole reads kept lost = tt

pub call-writes : (T : Type 0) (r : Result T DiskError) (first : ℕ) (bytes : List ℕ) (firm : Bool) (draw : (b : Bits) → Draw b) (n : ℕ) (p q : Place) → p.mounted ≡ true → q.mounted ≡ true → q.facts.contents ≡ contents_of q.bits.shown → (firm ≡ true) ⊎ SameRead draw
    → Writes first bytes p.facts.contents r q.facts.contents → (IsErrOf r Cut → firm ≡ true → AtEachDraw q.bits (Outcome p.facts.contents (replaced p.facts.contents (512 * first) bytes)))
    → Writes first bytes (lives_facts draw None n p).contents r (lives_facts draw (after r) (ticked n r) q).contents
call-writes T (Ok v) first bytes firm draw n p q here there whole reads done lost =
    ap (λ t. if t && false then contents_of (draw q.bits).later else q.facts.contents) there ∙ (done ∙ ap (λ d. replaced d (512 * first) bytes) (sym (lit draw n p here)))
call-writes T (Err Cut) first bytes firm draw n p q here there whole reads done lost =
    let new = (lives_facts draw (Some Cut) (n + 1) q).contents in
    subst (λ d. Outcome d (replaced d (512 * first) bytes) new) (sym (lit draw n p here))
    (subst (λ d. Outcome p.facts.contents (replaced p.facts.contents (512 * first) bytes) d) (sym (ap (λ t. if t && true then contents_of (draw q.bits).later else q.facts.contents) there))
    (at-draw firm draw q.bits (Outcome p.facts.contents (replaced p.facts.contents (512 * first) bytes)) reads (lost refl) (subst (λ d. Outcome p.facts.contents (replaced p.facts.contents (512 * first) bytes) d) whole done)))
call-writes T (Err Slow) first bytes firm draw n p q here there whole reads done lost = tt

-- what stands after it
pub call-stands : (T : Type 0) (r : Result T DiskError) (firm : Bool) (slows : ℕ) (p q : Place) (Holds : List ℕ → Type 0) → StandsInLife firm slows None p → q.mounted ≡ true → q.facts.sound ≡ p.facts.sound → Latches p.facts r q.facts → CallCounts r p.facts q.facts
    → (IsErrOf r Cut → firm ≡ true → AtEachDraw q.bits Holds) → StandsInLife firm slows (after r) q
call-stands T (Ok v) firm slows p q Holds s there sound latched counts lost = (there, sound ∙ s.1, latched.1, counts.0 ∙ s.3, counts.1 ∙ s.4)
call-stands T (Err Cut) firm slows p q Holds s there sound latched counts lost = λ _. (
  sound ∙ s.1,
  latched.2 ∙ s.2.1,
  elim latched.0 as (λ _. 0 < q.facts.cuts) [ inl stood ↦ absurd (let no = s.2.0 in cc (stood, no)) | inr came ↦ (let more = came.1 in omega (arith, more)) ],
  counts ∙ s.4,
  λ is. fit-draws q.bits Holds (lost refl is),
)
call-stands T (Err Slow) firm slows p q Holds s there sound latched counts lost =
    elim latched.1 as (λ _. slows < q.facts.slows) [ inl stood ↦ absurd (let no = s.2.1 in cc (stood, no)) | inr more ↦ (let at = s.4 in omega (arith, more, at)) ]

-- The same of one that was answered by an error, by the names that a function has for what it leaves.
pub lost-keeps : (T : Type 0) (e : DiskError) (firm : Bool) (draw : (b : Bits) → Draw b) (n : ℕ) (p q : Place) (old : Facts) (standing : Option DiskError) (answer : DiskError) (losses : ℕ) → lives_facts draw None n p ≡ old → standing ≡ Some e → answer ≡ e
    → p.mounted ≡ true → q.mounted ≡ true → q.facts.contents ≡ contents_of q.bits.shown → (firm ≡ true) ⊎ SameRead draw
    → KeepsContents {T = T} p.facts.contents (Err e) q.facts.contents → (IsErrOf (failed T e) Cut → firm ≡ true → AtEachDraw q.bits (λ later. later ≡ p.facts.contents)) → KeepsContents {T = T} old.contents (Err answer) (lives_facts draw standing losses q).contents
lost-keeps T e firm draw n p q old standing answer losses was stands same here there whole reads kept lost =
    subst (λ (x : Facts). KeepsContents {T = T} x.contents (Err answer) (lives_facts draw standing losses q).contents) was
    (subst (λ s. KeepsContents {T = T} (lives_facts draw None n p).contents (Err answer) (lives_facts draw s losses q).contents) (sym stands)
    (subst (λ r. KeepsContents {T = T} (lives_facts draw None n p).contents (Err r) (lives_facts draw (Some e) losses q).contents) (sym same)
    (call-keeps T (Err e) firm draw n p q here there whole reads kept lost)))

pub lost-writes : (T : Type 0) (e : DiskError) (first : ℕ) (bytes : List ℕ) (firm : Bool) (draw : (b : Bits) → Draw b) (n : ℕ) (p q : Place) (old : Facts) (standing : Option DiskError) (answer : DiskError) (losses : ℕ) → lives_facts draw None n p ≡ old → standing ≡ Some e → answer ≡ e
    → p.mounted ≡ true → q.mounted ≡ true → q.facts.contents ≡ contents_of q.bits.shown → (firm ≡ true) ⊎ SameRead draw
    → Writes {T = T} first bytes p.facts.contents (Err e) q.facts.contents → (IsErrOf (failed T e) Cut → firm ≡ true → AtEachDraw q.bits (Outcome p.facts.contents (replaced p.facts.contents (512 * first) bytes)))
    → Writes {T = T} first bytes old.contents (Err answer) (lives_facts draw standing losses q).contents
lost-writes T e first bytes firm draw n p q old standing answer losses was stands same here there whole reads done lost =
    subst (λ (x : Facts). Writes {T = T} first bytes x.contents (Err answer) (lives_facts draw standing losses q).contents) was
    (subst (λ s. Writes {T = T} first bytes (lives_facts draw None n p).contents (Err answer) (lives_facts draw s losses q).contents) (sym stands)
    (subst (λ r. Writes {T = T} first bytes (lives_facts draw None n p).contents (Err r) (lives_facts draw (Some e) losses q).contents) (sym same)
    (call-writes T (Err e) first bytes firm draw n p q here there whole reads done lost)))

pub lost-goes : (e : DiskError) (draw : (b : Bits) → Draw b) (n : ℕ) (p q : Place) (old : Facts) (standing : Option DiskError) (losses : ℕ) → lives_facts draw None n p ≡ old → standing ≡ Some e → losses ≡ n + (if stands_cut (Some e) then 1 else 0)
    → p.mounted ≡ true → q.mounted ≡ true → q.facts.contents ≡ contents_of q.bits.shown → CountsNeverFall p.facts q.facts → CountsNeverFall old (lives_facts draw standing losses q)
lost-goes e draw n p q old standing losses was stands counts here there whole goes =
    subst (λ x. CountsNeverFall x (lives_facts draw standing losses q)) was
    (subst (λ s. CountsNeverFall (lives_facts draw None n p) (lives_facts draw s losses q)) (sym stands)
    (subst (λ l. CountsNeverFall (lives_facts draw None n p) (lives_facts draw (Some e) l q)) (sym counts)
    (call-goes (Unit {0}) (Err e) draw n p q here there whole goes)))

pub lost-size : (e : DiskError) (draw : (b : Bits) → Draw b) (p q : Place) (standing : Option DiskError) (losses size : ℕ) → standing ≡ Some e → q.mounted ≡ true → q.facts.contents ≡ contents_of q.bits.shown → CountsNeverFall p.facts q.facts
    → length p.facts.contents ≡ size → length (lives_facts draw standing losses q).contents ≡ size
lost-size e draw p q standing losses size stands there whole goes was =
    subst (λ s. length (lives_facts draw s losses q).contents ≡ size) (sym stands) (size-after (Unit {0}) (Err e) draw losses q there whole ∙ (goes.size ∙ was))

pub lost-stands : (T : Type 0) (e : DiskError) (firm : Bool) (slows : ℕ) (p q : Place) (Holds : List ℕ → Type 0) (standing : Option DiskError) → standing ≡ Some e → StandsInLife firm slows None p → q.mounted ≡ true → q.facts.sound ≡ p.facts.sound → Latches {T = T} p.facts (Err e) q.facts
    → CallCounts {T = T} (Err e) p.facts q.facts → (IsErrOf (failed T e) Cut → firm ≡ true → AtEachDraw q.bits Holds) → StandsInLife firm slows standing q
lost-stands T e firm slows p q Holds standing stands s there sound latched counts lost =
    subst (λ x. StandsInLife firm slows x q) (sym stands) (call-stands T (Err e) firm slows p q Holds s there sound latched counts lost)

-- contents that a call left are kept whatever it answered
pub keeps-any : (T : Type 0) (r : Result T DiskError) (d d' : List ℕ) → d' ≡ d → KeepsContents d r d'
keeps-any T (Ok v) d d' same = same
keeps-any T (Err Cut) d d' same = same
keeps-any T (Err Slow) d d' same = tt

-- a mount that is refused leaves the chip its size
pub refused-size : (e : MountError) (m m' : List ℕ) → RefusedAt e m m' → IsMountable m → length (contents_of m') ≡ length (contents_of m)
refused-size (refusals.Probe probes.Cut) m m' r h = ap length (r h).contents
refused-size (refusals.Probe probes.Slow) m m' r h = length-contents m' ∙ (ap (λ n. 512 * sector_count n) r ∙ sym (length-contents m))
refused-size (refusals.Probe probes.WrongId) m m' r h = ap (λ x. length (contents_of x)) r
refused-size (refusals.Probe (probes.Sfdp e)) m m' r h = ap (λ x. length (contents_of x)) r
refused-size (refusals.Probe probes.Protected) m m' r h = ap (λ x. length (contents_of x)) r
refused-size refusals.OutOfMemory m m' r h = ap (λ x. length (contents_of x)) r
refused-size refusals.NotFormatted m m' r h = ap (λ x. length (contents_of x)) r.1
refused-size refusals.Corrupt m m' r h = ap length r.contents

-- A chip on which a life begins that can be mounted firmly.
pub record Begins (firm : Bool) (c : Chip) : Type 0 where
  pub idle : is_idle c.operation ≡ true
  pub accepted : IsAcceptedChip c
  pub clean : IsClean c.memory
  pub mountable : IsMountable c.memory
  pub fit : firm ≡ true → IsFitForFirmMount (bits_of c)

pub next-fit : (firm : Bool) (draw : (b : Bits) → Draw b) (old new : Chip) → IsNextLife draw old new → CanGoOn firm old → firm ≡ true → IsFitForFirmMount (bits_of new)
next-fit firm draw old new next go is =
    subst (λ w. IsFitForFirmMount (record { shown = new.memory; weak = w })) (sym next.weak)
    (subst (λ m. IsFitForFirmMount (record { shown = m; weak = old.weak })) (sym next.memory) (go.fit is (draw (bits_of old)).later (draw (bits_of old)).drawn).1)

-- so it is of the next one of a chip that can go on
pub next-begins : (firm : Bool) (draw : (b : Bits) → Draw b) (old new : Chip) → (firm ≡ true) ⊎ SameRead draw → IsNextLife draw old new → CanGoOn firm old → Begins firm new
next-begins firm draw old new (inl is) next go = record {
  idle = next.idle;
  accepted = next.accepted go.accepted;
  clean = (next-fit firm draw old new next go is).clean;
  mountable = subst IsMountable (sym next.memory) (go.fit is (draw (bits_of old)).later (draw (bits_of old)).drawn).0;
  fit = λ firmly. next-fit firm draw old new next go firmly;
}
next-begins firm draw old new (inr same) next go = record {
  idle = next.idle;
  accepted = next.accepted go.accepted;
  clean = subst IsClean (sym (next.memory ∙ same (bits_of old))) go.clean;
  mountable = subst IsMountable (sym (next.memory ∙ same (bits_of old))) go.mountable;
  fit = λ firmly. next-fit firm draw old new next go firmly;
}

-- a chip whose mount was refused can go on, but where an operation was slow
go-same : (firm : Bool) (c c' : Chip) → Begins firm c → c'.memory ≡ c.memory → is_idle c'.operation ≡ true → IsAcceptedChip c' → CanGoOn false c'
go-same firm c c' b same idle accepted = record {
  idle = idle;
  accepted = accepted;
  clean = subst IsClean (sym same) b.clean;
  mountable = subst IsMountable (sym same) b.mountable;
  fit = λ no. absurd (cc no);
}

pub refused-goes : (e : MountError) (firm : Bool) (c c' : Chip) → mount_told e ≡ Cut → Begins firm c → RefusedAt e c.memory c'.memory → IsIdleAfter e c' → IsAcceptedChip c' → CanGoOn false c'
refused-goes (refusals.Probe probes.Cut) firm c c' told b at idle accepted = (let k = (at b.mountable).keeps in record {
  idle = idle;
  accepted = accepted;
  clean = k.clean b.clean;
  mountable = record { superblock = disk-laid c.memory c'.memory k.disk b.mountable.superblock; store = k.store };
  fit = λ no. absurd (cc no);
})
refused-goes (refusals.Probe probes.Slow) firm c c' told b at idle accepted = absurd (cc told)
refused-goes (refusals.Probe probes.WrongId) firm c c' told b at idle accepted = go-same firm c c' b at idle accepted
refused-goes (refusals.Probe (probes.Sfdp e)) firm c c' told b at idle accepted = go-same firm c c' b at idle accepted
refused-goes (refusals.Probe probes.Protected) firm c c' told b at idle accepted = go-same firm c c' b at idle accepted
refused-goes refusals.OutOfMemory firm c c' told b at idle accepted = go-same firm c c' b at idle accepted
refused-goes refusals.NotFormatted firm c c' told b at idle accepted = go-same firm c c' b at.1 idle accepted
refused-goes refusals.Corrupt firm c c' told b at idle accepted = absurd (at.corrupt b.mountable)

-- it has the contents that it had, and no operation was slow
pub refused-keeps : (e : MountError) (m m' : List ℕ) (a b x y : ℕ) → mount_told e ≡ Cut → IsMountable m → RefusedAt e m m' → RefusedFor e a b x y → (y ≡ b) × (contents_of m' ≡ contents_of m)
refused-keeps (refusals.Probe probes.Cut) m m' a b x y told h at for = (for.1, (at h).contents)
refused-keeps (refusals.Probe probes.Slow) m m' a b x y told h at for = absurd (cc told)
refused-keeps (refusals.Probe probes.WrongId) m m' a b x y told h at for = (for.1, ap contents_of at)
refused-keeps (refusals.Probe (probes.Sfdp e)) m m' a b x y told h at for = (for.1, ap contents_of at)
refused-keeps (refusals.Probe probes.Protected) m m' a b x y told h at for = (for.1, ap contents_of at)
refused-keeps refusals.OutOfMemory m m' a b x y told h at for = (for.1, ap contents_of at)
refused-keeps refusals.NotFormatted m m' a b x y told h at for = (for.1, ap contents_of at.1)
refused-keeps refusals.Corrupt m m' a b x y told h at for = (for.1, at.contents)

-- it waits for its power
pub waits : (firm : Bool) (slows : ℕ) (standing : Option DiskError) (e : DiskError) (c : Chip) (counted : ℕ) → standing ≡ Some e → (e ≡ Cut → firm ≡ false → CanGoOn false c) → (e ≡ Cut → counted ≡ slows) → WaitsForPower firm slows standing c counted
waits firm slows standing e c counted stands go same =
    subst (λ s. WaitsForPower firm slows s c counted) (sym stands) (each e go same)
  where
    each : (e : DiskError) → (e ≡ Cut → firm ≡ false → CanGoOn false c) → (e ≡ Cut → counted ≡ slows) → WaitsForPower firm slows (Some e) c counted
    each Cut go same = λ is. (go refl is, same refl)
    each Slow go same = tt

-- A mount in a restore was refused.
pub restore-latches : (T : Type 0) (e : DiskError) (draw draw' : (b : Bits) → Draw b) (n : ℕ) (p q : Place) (old : Facts) (standing : Option DiskError) (answer : DiskError) (losses : ℕ) → lives_facts draw (Some Cut) n p ≡ old → standing ≡ Some e → answer ≡ e
    → losses ≡ n + (if stands_cut (Some e) then 1 else 0) → (e ≡ Slow → p.facts.slows < q.facts.slows) → RestoreLatches {T = T} old (Err answer) (lives_facts draw' standing losses q)
restore-latches T e draw draw' n p q old standing answer losses was stands same counts slow =
    subst (λ (x : Facts). RestoreLatches {T = T} x (Err answer) (lives_facts draw' standing losses q)) was
    (subst (λ s. RestoreLatches {T = T} (lives_facts draw (Some Cut) n p) (Err answer) (lives_facts draw' s losses q)) (sym stands)
    (subst (λ r. RestoreLatches {T = T} (lives_facts draw (Some Cut) n p) (Err r) (lives_facts draw' (Some e) losses q)) (sym same)
    (subst (λ l. RestoreLatches {T = T} (lives_facts draw (Some Cut) n p) (Err e) (lives_facts draw' (Some e) l q)) (sym counts) (latched e slow))))
  where
    latched : (e : DiskError) → (e ≡ Slow → p.facts.slows < q.facts.slows) → RestoreLatches {T = T} (lives_facts draw (Some Cut) n p) (Err e) (lives_facts draw' (Some e) (n + (if stands_cut (Some e) then 1 else 0)) q)
    latched Cut slow = (omega arith, refl, refl)
    latched Slow slow = (inr (slow refl), refl, refl)

pub restore-goes : (e : DiskError) (draw draw' : (b : Bits) → Draw b) (n : ℕ) (p : Place) (m : List ℕ) (s s' : ℕ) (old : Facts) (standing : Option DiskError) (losses : ℕ) → lives_facts draw (Some Cut) n p ≡ old → standing ≡ Some e → losses ≡ n + (if stands_cut (Some e) then 1 else 0) → p.mounted ≡ true → p.facts.slows ≡ s
    → (e ≡ Cut → s' ≡ s) → (e ≡ Slow → s < s') → length (contents_of m) ≡ length (contents_of p.bits.shown) → CountsNeverFall old (lives_facts draw' standing losses (off_chip m s'))
restore-goes e draw draw' n p m s s' old standing losses was stands counts here at cut slow size =
    subst (λ x. CountsNeverFall x (lives_facts draw' standing losses (off_chip m s'))) was
    (subst (λ z. CountsNeverFall (lives_facts draw (Some Cut) n p) (lives_facts draw' z losses (off_chip m s'))) (sym stands)
    (subst (λ l. CountsNeverFall (lives_facts draw (Some Cut) n p) (lives_facts draw' (Some e) l (off_chip m s'))) (sym counts) (record {
      size = size ∙ (sym (size-drawn draw p.bits) ∙ sym (ap (λ t. length (if t && true then contents_of (draw p.bits).later else p.facts.contents)) here));
      cuts = omega arith;
      slows = slows e cut slow;
    })))
  where
    slows : (e : DiskError) → (e ≡ Cut → s' ≡ s) → (e ≡ Slow → s < s') → p.facts.slows ≤ s'
    slows Cut cut slow = (let x = cut refl in omega (arith, x, at))
    slows Slow cut slow = (let x = slow refl in omega (arith, x, at))

-- So was one that was tried again, of a chip that reads as before.
pub retry-fails : (e : DiskError) (draw : (b : Bits) → Draw b) (n : ℕ) (m m' : List ℕ) (s s' : ℕ) (old : Facts) (standing : Option DiskError) (answer : DiskError) (losses : ℕ) → lives_facts draw (Some Cut) n (off_chip m s) ≡ old → standing ≡ Some e → answer ≡ e → losses ≡ n + (if stands_cut (Some e) then 1 else 0)
    → (e ≡ Cut → (s' ≡ s) × (contents_of m' ≡ contents_of m)) → (e ≡ Slow → s < s') → length (contents_of m') ≡ length (contents_of m)
    → KeepsContents {T = Unit {0}} old.contents (Err answer) (lives_facts draw standing losses (off_chip m' s')).contents × CountsNeverFall old (lives_facts draw standing losses (off_chip m' s'))
retry-fails e draw n m m' s s' old standing answer losses was stands same counts cut slow size =
    subst (λ (x : Facts). KeepsContents {T = Unit {0}} x.contents (Err answer) (lives_facts draw standing losses (off_chip m' s')).contents × CountsNeverFall x (lives_facts draw standing losses (off_chip m' s'))) was
    (subst (λ z. KeepsContents {T = Unit {0}} (contents_of m) (Err answer) (lives_facts draw z losses (off_chip m' s')).contents × CountsNeverFall (lives_facts draw (Some Cut) n (off_chip m s)) (lives_facts draw z losses (off_chip m' s'))) (sym stands)
    (subst (λ r. KeepsContents {T = Unit {0}} (contents_of m) (Err r) (lives_facts draw (Some e) losses (off_chip m' s')).contents × CountsNeverFall (lives_facts draw (Some Cut) n (off_chip m s)) (lives_facts draw (Some e) losses (off_chip m' s'))) (sym same)
    (subst (λ l. KeepsContents {T = Unit {0}} (contents_of m) (Err e) (lives_facts draw (Some e) l (off_chip m' s')).contents × CountsNeverFall (lives_facts draw (Some Cut) n (off_chip m s)) (lives_facts draw (Some e) l (off_chip m' s'))) (sym counts) (each e cut slow))))
  where
    each : (e : DiskError) → (e ≡ Cut → (s' ≡ s) × (contents_of m' ≡ contents_of m)) → (e ≡ Slow → s < s')
        → KeepsContents {T = Unit {0}} (contents_of m) (Err e) (lives_facts draw (Some e) (n + (if stands_cut (Some e) then 1 else 0)) (off_chip m' s')).contents × CountsNeverFall (lives_facts draw (Some Cut) n (off_chip m s)) (lives_facts draw (Some e) (n + (if stands_cut (Some e) then 1 else 0)) (off_chip m' s'))
    each Cut cut slow = let x = cut refl in (x.1, record { size = size; cuts = omega arith; slows = (let y = x.0 in omega (arith, y)) })
    each Slow cut slow = (tt, record { size = size; cuts = omega arith; slows = (let y = slow refl in omega (arith, y)) })

pub none-of : {A : Type 0} (o : Option A) → not (is_some o) ≡ true → o ≡ None
none-of None none = refl
none-of (Some x) none = absurd (true≢false (sym none))

pub cut-stands : (standing : Option DiskError) → stands_cut standing ≡ true → standing ≡ Some Cut
cut-stands None cut = absurd (true≢false (sym cut))
cut-stands (Some Cut) cut = refl
cut-stands (Some Slow) cut = absurd (true≢false (sym cut))

pub no-firm : (firm : Bool) → not firm ≡ true → firm ≡ false
no-firm false no-firmness = refl
no-firm true no-firmness = absurd (true≢false (sym no-firmness))

-- A chip that is given back: with no error its contents are found at each draw,
pub left-ready : (firm : Bool) (slows : ℕ) (draw : (b : Bits) → Draw b) (standing : Option DiskError) (n : ℕ) (p : Place) (old : Facts) (b : Bits) → lives_facts draw standing n p ≡ old → p.mounted ≡ true → StandsInLife firm slows standing p → IsDiskReady old
    → (p.facts.cuts ≡ 0 → p.facts.slows ≡ slows → AtEachDraw b (λ later. later ≡ p.facts.contents)) → AtEachDraw b (λ later. later ≡ old.contents)
left-ready firm slows draw None n p old b was here s ready each =
    subst (λ d. AtEachDraw b (λ later. later ≡ d)) (sym (lit draw n p here) ∙ ap (λ (x : Facts). x.contents) was) (each s.3 s.4)
left-ready firm slows draw (Some Cut) n p old b was here s ready each = absurd (true≢false (ap (λ (x : Facts). x.cut) was ∙ ready.0))
left-ready firm slows draw (Some Slow) n p old b was here s ready each = absurd (true≢false (ap (λ (x : Facts). x.slow) was ∙ ready.1))

-- and whatever stands but a Slow, at this one.
pub left-found : (firm : Bool) (slows : ℕ) (draw : (b : Bits) → Draw b) (standing : Option DiskError) (n : ℕ) (p : Place) (old : Facts) (c : Chip) → lives_facts draw standing n p ≡ old → p.mounted ≡ true → StandsInLife firm slows standing p → old.slow ≡ false → (firm ≡ true) ⊎ SameRead draw
    → bits_of c ≡ p.bits → contents_of c.memory ≡ p.facts.contents → (p.facts.slows ≡ slows → IsMountable c.memory) → (p.facts.slow ≡ false → p.facts.sound ≡ true → IsClean c.memory)
    → (firm ≡ true → p.facts.cuts ≡ 0 → p.facts.slows ≡ slows → AtEachDraw (bits_of c) (λ later. later ≡ p.facts.contents)) → IsFoundNext firm draw old.contents (bits_of c)
left-found firm slows draw None n p old c was here s quick (inl is) same whole mountable clean each =
    let b = bits_of c in
    let x = each is s.3 s.4 (draw b).later (draw b).drawn in
    record { contents_are = x.2 ∙ (sym (lit draw n p here) ∙ ap (λ (x : Facts). x.contents) was); mountable = x.0; clean = x.1.clean; fit = λ _. x.1 }
left-found firm slows draw None n p old c was here s quick (inr read) same whole mountable clean each =
    let b = bits_of c in
    record {
      contents_are = ap (λ m. contents_of m) (read b) ∙ (whole ∙ (sym (lit draw n p here) ∙ ap (λ (x : Facts). x.contents) was));
      mountable = subst IsMountable (sym (read b)) (mountable s.4);
      clean = subst IsClean (sym (read b)) (clean s.2.1 s.1);
      fit = λ is. (each is s.3 s.4 (draw b).later (draw b).drawn).1;
    }
left-found firm slows draw (Some Slow) n p old c was here s quick reads same whole mountable clean each = absurd (true≢false (ap (λ (x : Facts). x.slow) was ∙ quick))
left-found firm slows draw (Some Cut) n p old c was here s quick reads same whole mountable clean each = at-loss reads
  where
    b : Bits
    b = bits_of c

    at : contents_of (draw b).later ≡ old.contents
    at = ap (λ (x : Bits). contents_of (draw x).later) same ∙ (sym (ap (λ t. if t && true then contents_of (draw p.bits).later else p.facts.contents) here) ∙ ap (λ (x : Facts). x.contents) was)

    each-cut : (is : firm ≡ true) → AtEachDraw b (λ _. Unit {0})
    each-cut is = subst (λ z. AtEachDraw z (λ _. Unit {0})) (sym same) ((s here).4 is)

    at-loss : (firm ≡ true) ⊎ SameRead draw → IsFoundNext firm draw old.contents b
    at-loss (inl is) = let x = each-cut is (draw b).later (draw b).drawn in record { contents_are = at; mountable = x.0; clean = x.1.clean; fit = λ _. x.1 }
    at-loss (inr read) = record {
      contents_are = at;
      mountable = subst IsMountable (sym (read b)) (mountable (s here).3);
      clean = subst IsClean (sym (read b)) (clean (s here).1 (s here).0);
      fit = λ is. (each-cut is (draw b).later (draw b).drawn).1;
    }

-- what stands once a mount was refused
pub refused-stands : (firm : Bool) (slows : ℕ) (e : DiskError) (standing : Option DiskError) (m : List ℕ) (counted : ℕ) → standing ≡ Some e → (e ≡ Slow → slows < counted) → StandsInLife firm slows standing (off_chip m counted)
refused-stands firm slows e standing m counted stands slow = subst (λ s. StandsInLife firm slows s (off_chip m counted)) (sym stands) (each e slow)
  where
    each : (e : DiskError) → (e ≡ Slow → slows < counted) → StandsInLife firm slows (Some e) (off_chip m counted)
    each Cut slow = λ no. absurd (cc no)
    each Slow slow = slow refl

-- A Slow that stands was counted.
pub left-slow : (firm : Bool) (slows : ℕ) (draw : (b : Bits) → Draw b) (standing : Option DiskError) (n : ℕ) (p : Place) (old : Facts) → lives_facts draw standing n p ≡ old → StandsInLife firm slows standing p → old.slow ≡ true → slows < old.slows
left-slow firm slows draw None n p old was s slow = absurd (true≢false (sym slow ∙ sym (ap (λ (x : Facts). x.slow) was)))
left-slow firm slows draw (Some Cut) n p old was s slow = absurd (true≢false (sym slow ∙ sym (ap (λ (x : Facts). x.slow) was)))
left-slow firm slows draw (Some Slow) n p old was s slow = (let more = s in let same = ap (λ (x : Facts). x.slows) was in omega (arith, more, same))

-- A chip that reads as before is found where its mount was refused, too.
pub waits-found : (firm : Bool) (draws : ℕ → (b : Bits) → Draw b) (life slows : ℕ) (standing : Option DiskError) (n : ℕ) (old : Facts) (c : Chip) (counted : ℕ) → lives_facts (draws life) standing n (off_chip c.memory counted) ≡ old → StandsInLife firm slows standing (off_chip c.memory counted)
    → WaitsForPower firm slows standing c counted → IsFirmOrSteady firm draws → firm ≡ false → old.slow ≡ false → IsFoundNext firm (draws life) old.contents (bits_of c) × CanGoOn false c
waits-found firm draws life slows None n old c counted was s w served is quick = absurd (true≢false (sym s.0))
waits-found firm draws life slows (Some Slow) n old c counted was s w served is quick = absurd (true≢false (ap (λ (x : Facts). x.slow) was ∙ quick))
waits-found firm draws life slows (Some Cut) n old c counted was s w served is quick =
    let go = (w is).0 in
    let read = served is life (bits_of c) in (
      record {
        contents_are = ap (λ m. contents_of m) read ∙ ap (λ (x : Facts). x.contents) was;
        mountable = subst IsMountable (sym read) go.mountable;
        clean = subst IsClean (sym read) go.clean;
        fit = λ yes. absurd (true≢false (sym yes ∙ is));
      },
      go,
    )

-- In the first life no loss was answered after a call that met a slow operation,
pub first-after : (e : DiskError) (standing : Option DiskError) (n losses : ℕ) → standing ≡ Some e → losses ≡ n + (if stands_cut (Some e) then 1 else 0) → n ≡ 0 → stands_cut standing ≡ false → losses ≡ 0
first-after Cut standing n losses stands counts none quiet = absurd (true≢false (sym (ap stands_cut stands) ∙ quiet))
first-after Slow standing n losses stands counts none quiet = omega (arith, counts, none)

-- One loss was answered for each earlier life, and for the one that stands.
pub told-after : (e : DiskError) (n life losses : ℕ) (standing : Option DiskError) → standing ≡ Some e → losses ≡ n + (if stands_cut (Some e) then 1 else 0) → n ≡ life + lost_now None → losses ≡ life + lost_now standing
told-after e n life losses standing stands counts told = (let s = ap lost_now stands in omega (arith, counts, told, s))

-- In the first life none was answered but one that its bus counted.
pub first-none : (standing : Option DiskError) (losses cuts : ℕ) (mounted : Bool) → StandsInFirst standing losses mounted → (stands_cut standing ≡ true → 0 < cuts) → cuts ≡ 0 → losses ≡ 0
first-none None losses cuts mounted first counted none = first.1 refl
first-none (Some Slow) losses cuts mounted first counted none = first.1 refl
first-none (Some Cut) losses cuts mounted first counted none = (let more = counted refl in absurd (omega (arith, more, none)))

-- how many losses its bus counted
pub left-cuts : (firm : Bool) (slows : ℕ) (draw : (b : Bits) → Draw b) (standing : Option DiskError) (n : ℕ) (p : Place) (old : Facts) (cuts : ℕ) → lives_facts draw standing n p ≡ old → p.mounted ≡ true → StandsInLife firm slows standing p → cuts ≡ p.facts.cuts
    → (IsDiskReady old → cuts ≡ 0) × (old.cut ≡ true → 0 < cuts)
left-cuts firm slows draw None n p old cuts was here s same = (λ ready. same ∙ s.3, λ cut. absurd (true≢false (sym (ap (λ (x : Facts). x.cut) was ∙ cut))))
left-cuts firm slows draw (Some Cut) n p old cuts was here s same =
    (λ ready. absurd (true≢false (ap (λ (x : Facts). x.cut) was ∙ ready.0)), λ cut. (let some = (s here).2 in omega (arith, some, same)))
left-cuts firm slows draw (Some Slow) n p old cuts was here s same =
    (λ ready. absurd (true≢false (ap (λ (x : Facts). x.slow) was ∙ ready.1)), λ cut. absurd (true≢false (sym (ap (λ (x : Facts). x.cut) was ∙ cut))))

-- and that nothing is in progress on it
pub left-quick : (firm : Bool) (slows : ℕ) (draw : (b : Bits) → Draw b) (standing : Option DiskError) (n : ℕ) (p : Place) (old : Facts) → lives_facts draw standing n p ≡ old → p.mounted ≡ true → StandsInLife firm slows standing p → old.slow ≡ false → p.facts.slow ≡ false
left-quick firm slows draw None n p old was here s quick = s.2.1
left-quick firm slows draw (Some Cut) n p old was here s quick = (s here).1
left-quick firm slows draw (Some Slow) n p old was here s quick = absurd (true≢false (ap (λ (x : Facts). x.slow) was ∙ quick))
