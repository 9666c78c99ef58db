-- what was written into a sector stays there
use Rattle.std.proofs.Common.{◌≡◌, ◌≢◌, ◌⊎◌, inl, inr, ℕ, ◌+◌, ◌*◌, ◌<◌, ◌≤◌, true, false, List, [], ◌∷◌, ◌++◌, length, refl, sym, ◌∙◌, ap, subst, arith}
use Rattle.std.specs.Prelude.{replicate, Ok, Err}
use Rattle.std.proofs.lemmas.List.{take_all, length-replicate}
use Rattle.block_device.specs.declared.disk.DiskError.TheVariants.{Cut, Slow}
use Rattle.block_device.specs.Contents.{sector, replaced, WritesSectors, ReplacedBySector}
use Rattle.block_device.specs.Facts.{Facts}
use Rattle.flash_host.specs.declared.request.Request.{Request}
use Rattle.flash_host.specs.declared.request.Request.TheVariants.{Sectors, Read, Write, Zero, Flush, Tidy, Restore}
use Rattle.flash_host.specs.declared.request.Answer.{Answer}
use Rattle.flash_host.specs.declared.request.Answer.TheVariants.{Counted, Done, Idle, Refused, Failed}
use Rattle.flash_host.specs.Answers.{Answered, AnswerLatches, AnswerLeaves, CallLatches, IsContentsKnown, IsOnDisk, RefusesOthers, meant_by}
use Rattle.flash_host.specs.Exchanges.{HostExchange, AnswersEach}
use Rattle.flash_host.specs.ReadingBack.{SparesSector, IsNotSlow, SparesEach, IsReadBack}

known : (r : Request) (f : Facts) → f.sound ≡ true → f.slow ≡ false → IsContentsKnown r f
known Sectors f sound quick = sound
known (Read s) f sound quick = sound
known (Write s) f sound quick = sound
known (Zero first count) f sound quick = sound
known Flush f sound quick = sound
known Tidy f sound quick = sound
known Restore f sound quick = (sound, quick)

quick_done : (r : Request) (old new : Facts) → CallLatches r old (Ok tt) new → old.slow ≡ false → new.slow ≡ false
quick_done Sectors old new l q = ap (λ f. f.slow) l ∙ q
quick_done (Read s) old new l q = l.1.1
quick_done (Write s) old new l q = l.1.1
quick_done (Zero first count) old new l q = l.1.1
quick_done Flush old new l q = ap (λ f. f.slow) l.0 ∙ q
quick_done Tidy old new l q = l.1.1
quick_done Restore old new l q = l.1

quick_cut : (r : Request) (old new : Facts) → CallLatches r old (Err Cut) new → old.slow ≡ false → new.slow ≡ false
quick_cut Sectors old new l q = ap (λ f. f.slow) l ∙ q
quick_cut (Read s) old new l q = l.2 ∙ q
quick_cut (Write s) old new l q = l.2 ∙ q
quick_cut (Zero first count) old new l q = l.2 ∙ q
quick_cut Flush old new l q = ap (λ f. f.slow) l.0 ∙ q
quick_cut Tidy old new l q = l.2 ∙ q
quick_cut Restore old new l q = l.2 ∙ q

quick : (r : Request) (old : Facts) (a : Answer) (new : Facts) → AnswerLatches r old a new → IsNotSlow a → old.slow ≡ false → new.slow ≡ false
quick r old (Counted n) new l isnt q = quick_done r old new l q
quick r old Done new l isnt q = quick_done r old new l q
quick r old Idle new l isnt q = quick_done r old new l q
quick r old Refused new l isnt q = ap (λ f. f.slow) l ∙ q
quick r old (Failed Cut) new l isnt q = quick_cut r old new l q
quick r old (Failed Slow) new l isnt q = absurd isnt

apart : (s t : ℕ) → t ≢ s → (s < t) ⊎ (t + 1 ≤ s)
apart s t ne = grind arith

-- a sound disk on which nothing is slow, and what a sector of it has
record Holds (s : ℕ) (x : List ℕ) (f : Facts) : Type 0 where
  sound : f.sound ≡ true
  quick : f.slow ≡ false
  held : sector f.contents s ≡ x

last_of : (es : List HostExchange) (e : HostExchange) (f g : Facts) → AnswersEach f (es ++ e ∷ []) g
    → (m : Facts) × AnswersEach f es m × Answered e.request e.given m e.answer e.bytes g
last_of [] e f g a = (f, refl, subst (λ k. Answered e.request e.given f e.answer e.bytes k) (sym a.2) a.1)
last_of (d ∷ more) e f g a = let more_of = last_of more e a.0 g a.2 in (more_of.0, (a.0, a.1, more_of.1), more_of.2)

module _ (law : ReplacedBySector) where
  writes : (c bytes : List ℕ) (first count : ℕ) → length bytes ≡ 512 * count → 512 * first + length bytes ≤ length c → WritesSectors first count bytes c (replaced c (512 * first) bytes)
  writes c bytes first count long fits = law c bytes first count long (record { within = fits; whole = (count, long) })

  meant_spares : (r : Request) (given c : List ℕ) (s : ℕ) → length given ≡ 512 → IsOnDisk r c → SparesSector s r → sector (meant_by r given c) s ≡ sector c s
  meant_spares Sectors given c s long on spares = refl
  meant_spares (Read t) given c s long on spares = refl
  meant_spares (Write t) given c s long on spares =
      let w = writes c given t 1 (omega (arith, long)) (omega (arith, long, on)) in
      elim (apart s t spares) [ inl below ↦ w.before s below | inr above ↦ w.behind s above ]
  meant_spares (Zero first count) given c s long on spares =
      let n : length (replicate (512 * count) 0) ≡ 512 * count = length-replicate _ _ in
      let w = writes c (replicate (512 * count) 0) first count n (omega (arith, n, on)) in
      elim spares [ inl below ↦ w.before s below | inr above ↦ w.behind s above ]
  meant_spares Flush given c s long on spares = refl
  meant_spares Tidy given c s long on spares = refl
  meant_spares Restore given c s long on spares = refl

  left : (r : Request) (given : List ℕ) (s : ℕ) (old new : List ℕ) (a : Answer) → length given ≡ 512 → RefusesOthers r old a → SparesSector s r → IsNotSlow a
      → AnswerLeaves old (meant_by r given old) a new → sector new s ≡ sector old s
  left r given s old new (Counted n) long on spares isnt l = ap (λ c. sector c s) l ∙ meant_spares r given old s long on spares
  left r given s old new Done long on spares isnt l = ap (λ c. sector c s) l ∙ meant_spares r given old s long on spares
  left r given s old new Idle long on spares isnt l = ap (λ c. sector c s) l ∙ meant_spares r given old s long on spares
  left r given s old new Refused long on spares isnt l = ap (λ c. sector c s) l
  left r given s old new (Failed Cut) long on spares isnt l = elim (l.each s) [ inl same ↦ same | inr meant ↦ meant ∙ meant_spares r given old s long on spares ]
  left r given s old new (Failed Slow) long on spares isnt l = absurd isnt

  keeps : (s : ℕ) (x : List ℕ) (e : HostExchange) (f g : Facts) → Answered e.request e.given f e.answer e.bytes g → SparesSector s e.request → IsNotSlow e.answer
      → Holds s x f → Holds s x g
  keeps s x e f g a spares isnt h = record {
    sound = a.sound.sound h.quick ∙ h.sound;
    quick = quick e.request f e.answer g a.latches isnt h.quick;
    held = left e.request e.given s f.contents g.contents e.answer a.long a.refuses spares isnt (a.contents (known e.request f h.sound h.quick)) ∙ h.held;
  }

  through : (s : ℕ) (x : List ℕ) (es : List HostExchange) (f g : Facts) → AnswersEach f es g → SparesEach s es → Holds s x f → Holds s x g
  through s x [] f g same spares h = subst (λ k. Holds s x k) (sym same) h
  through s x (e ∷ more) f g a spares h = through s x more a.0 g a.2 spares.2 (keeps s x e f a.0 a.1 spares.0 spares.1 h)

  written_holds : (s : ℕ) (given bytes : List ℕ) (f g : Facts) → f.sound ≡ true → Answered (Write s) given f Done bytes g → Holds s given g
  unfolding sector
  written_holds s given bytes f g sound a =
      let q = a.latches.0.1 in
      let w = writes f.contents given s 1 (omega (arith, a.long)) (omega (arith, a.long, a.refuses)) in
      let at : s + 0 ≡ s = omega arith in
      record {
        sound = a.sound.sound q ∙ sound;
        quick = a.latches.1.1;
        held = ap (λ c. sector c s) (a.contents sound) ∙ (ap (λ k. sector (replaced f.contents (512 * s) given) k) (sym at) ∙ (w.written 0 (omega arith) ∙ take_all 512 given (omega (arith, a.long))));
      }

  pub is_read_back : IsReadBack
  unfolding sector
  is_read_back old new s written read between sound wr wa rr ra spares run =
      let first = subst (λ r. Answered r written.given old written.answer written.bytes run.0) wr run.1 in
      let done = subst (λ a. Answered (Write s) written.given old a written.bytes run.0) wa first in
      let end = last_of between read run.0 new run.2 in
      let h = through s written.given between run.0 end.0 end.1 spares (written_holds s written.given written.bytes old run.0 sound done) in
      let asked = subst (λ r. Answered r read.given end.0 read.answer read.bytes new) rr end.2 in
      let got = subst (λ a. Answered (Read s) read.given end.0 a read.bytes new) ra asked in
      got.tells h.sound ∙ h.held
