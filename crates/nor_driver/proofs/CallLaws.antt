-- One call of a memory after another: what two that answered Ok leave together, and what one leaves that failed after others.
use Rattle.std.proofs.Common.{◌≡◌, ◌⊎◌, ◌<◌, ◌≤◌, Bool, true, false, refl, sym, subst, ◌∙◌, arith, inl, inr}
use Rattle.std.specs.Prelude.{Result, Ok, Err, OnOk, IfErr, MatchResult}
use Rattle.std.specs.Result.{IsErrAnd}
use Rattle.nor_driver.specs.State.{NorState, bits_in, IsNorReady, OnlyMemoryChanges, NorFails, IsFirst, Succeeds, Refuses, EndsReady, AnswersWhatIsLatched}
use Rattle.nor_driver.proofs.Firmer.{firmer-none, firmer-on, interrupted-after}
use Rattle.nor_driver.specs.declared.error.NorError.{NorError}
use Rattle.nor_driver.specs.declared.error.NorError.TheVariants as errors

-- nothing changed
pub kept-none : (a : NorState) → OnlyMemoryChanges a a
kept-none a = record { bits = firmer-none (bits_in a); cuts = refl; slows = refl; powered = refl; is_slow = refl; has_large = refl }

pub kept-after : (a b c : NorState) → OnlyMemoryChanges a b → OnlyMemoryChanges b c → OnlyMemoryChanges a c
kept-after a b c p q = record { bits = firmer-on (bits_in a) (bits_in b) (bits_in c) p.bits q.bits; cuts = q.cuts ∙ p.cuts; slows = q.slows ∙ p.slows; powered = q.powered ∙ p.powered; is_slow = q.is_slow ∙ p.is_slow; has_large = q.has_large ∙ p.has_large }

-- what is ready stays so, and was so
pub ready-after : (a b : NorState) → OnlyMemoryChanges a b → IsNorReady a → IsNorReady b
ready-after a b k r = (k.powered ∙ r.0, k.is_slow ∙ r.1)

pub ready-back : (a b : NorState) → OnlyMemoryChanges a b → IsNorReady b → IsNorReady a
ready-back a b k r = (sym k.powered ∙ r.0, sym k.is_slow ∙ r.1)

pub fails-after : (e : NorError) (a b c : NorState) → OnlyMemoryChanges a b → NorFails e b c → NorFails e a c
fails-after errors.Cut a b c k f = (
  elim f.0 as (λ _. (a.cuts < c.cuts) ⊎ ((a.powered ≡ false) × (c.cuts ≡ a.cuts))) [
    | inl lost ↦ (let e = k.cuts in inl (omega (arith, e, lost)))
    | inr off ↦ inr (sym k.powered ∙ off.0, off.1 ∙ k.cuts)
  ],
  f.1 ∙ k.slows,
  f.2,
  f.3 ∙ k.is_slow,
  f.4 ∙ k.has_large,
  interrupted-after (bits_in a) (bits_in b) (bits_in c) k.bits f.5,
)
fails-after errors.Slow a b c k f = (
  elim f.0 as (λ _. (a.slows < c.slows) ⊎ ((a.is_slow ≡ true) × (c.slows ≡ a.slows))) [
    | inl slow ↦ (let e = k.slows in inl (omega (arith, e, slow)))
    | inr latched ↦ inr (sym k.is_slow ∙ latched.0, latched.1 ∙ k.slows)
  ],
  f.1 ∙ k.cuts,
  f.2 ∙ k.powered,
  f.3,
  f.4 ∙ k.has_large,
  firmer-on (bits_in a) (bits_in b) (bits_in c) k.bits f.5,
)

-- where the power was on and no Slow was latched, nothing was latched
pub first-ready : (e : NorError) (a c : NorState) → IsNorReady a → IsFirst e a c
first-ready errors.Cut a c r = (r.1, λ off. absurd (cc (r.0, off)))
first-ready errors.Slow a c r = (λ quick. r.0, λ slow. absurd (cc (r.1, slow)))

pub succeeds-after : (a b c : NorState) → Succeeds a b → Succeeds b c → Succeeds a c
succeeds-after a b c p q = record { ready = p.ready; kept = kept-after a b c p.kept q.kept }

-- a call that failed after others that answered Ok
pub refuses-since : (e : NorError) (a b c : NorState) → IsNorReady a → OnlyMemoryChanges a b → Refuses e b c → Refuses e a c
refuses-since e a b c ready k r = record { fails = fails-after e a b c k r.fails; first = first-ready e a c ready }

pub refuses-after : (e : NorError) (a b c : NorState) → Succeeds a b → Refuses e b c → Refuses e a c
refuses-after e a b c s r = refuses-since e a b c s.ready s.kept r

-- no count falls
pub refuses-cuts : (e : NorError) (a b : NorState) → Refuses e a b → a.cuts ≤ b.cuts
refuses-cuts errors.Cut a b r = elim r.fails.0 as (λ _. a.cuts ≤ b.cuts) [ inl h ↦ omega (arith, h) | inr h ↦ (let e = h.1 in omega (arith, e)) ]
refuses-cuts errors.Slow a b r = let e = r.fails.1 in omega (arith, e)

pub refuses-slows : (e : NorError) (a b : NorState) → Refuses e a b → a.slows ≤ b.slows
refuses-slows errors.Cut a b r = let e = r.fails.1 in omega (arith, e)
refuses-slows errors.Slow a b r = elim r.fails.0 as (λ _. a.slows ≤ b.slows) [ inl h ↦ omega (arith, h) | inr h ↦ (let e = h.1 in omega (arith, e)) ]

-- whether a Slow is latched, or the power is off
cases-of : (slow powered : Bool) → ((slow ≡ false) × (powered ≡ true)) ⊎ (slow ≡ true) ⊎ ((slow ≡ false) × (powered ≡ false))
cases-of true p = inr (inl refl)
cases-of false true = inl (refl, refl)
cases-of false false = inr (inr (refl, refl))

-- a call that failed found the memory ready, or changed nothing
pub first-or-ready : (e : NorError) (old new : NorState) → IsFirst e old new → IsNorReady old ⊎ (new ≡ old)
first-or-ready errors.Cut old new f = elim (cases-of old.is_slow old.powered) [
  | inl ready ↦ inl (ready.1, ready.0)
  | inr other ↦ elim other [ inl slow ↦ absurd (cc) | inr off ↦ inr (f.1 off.1) ]
]
first-or-ready errors.Slow old new f = elim (cases-of old.is_slow old.powered) [
  | inl ready ↦ inl (ready.1, ready.0)
  | inr other ↦ elim other [ inl slow ↦ inr (f.1 slow) | inr off ↦ absurd (cc (f.0 off.0)) ]
]

-- what stands is answered first
pub first-cut : (old new : NorState) → AnswersWhatIsLatched old (Err errors.Cut) new → IsFirst errors.Cut old new
first-cut old new s =
    let quick : old.is_slow ≡ false = elim (cases-of old.is_slow old.powered) [
      | inl ready ↦ ready.0
      | inr other ↦ elim other [ inl slow ↦ (let e = (s.slow slow).0 in absurd (cc)) | inr off ↦ off.0 ]
    ] in
    (quick, λ off. (s.off quick off).1)

pub first-slow : (old new : NorState) → AnswersWhatIsLatched old (Err errors.Slow) new → IsFirst errors.Slow old new
first-slow old new s = (
  λ quick. elim (cases-of old.is_slow old.powered) [
    | inl ready ↦ ready.1
    | inr other ↦ elim other [ inl slow ↦ absurd (cc (quick, slow)) | inr off ↦ (let e = (s.off quick off.1).0 in absurd (cc)) ]
  ],
  λ slow. (s.slow slow).1,
)

-- the one call of a memory whose answer is returned as it is
pub succeeds-of : (old new : NorState) (r : Result (Unit {0}) NorError) → OnOk r (IsNorReady old) → OnOk r (OnlyMemoryChanges old new) → OnOk r (Succeeds old new)
succeeds-of old new (Ok x) ready kept = record { ready = ready; kept = kept }
succeeds-of old new (Err e) p q = p

pub refuses-of : (old new : NorState) (r : Result (Unit {0}) NorError) → IfErr r (λ e. NorFails e old new) → AnswersWhatIsLatched old r new → IfErr r (λ e. Refuses e old new)
refuses-of old new (Ok x) f s = f
refuses-of old new (Err errors.Cut) f s = record { fails = f; first = first-cut old new s }
refuses-of old new (Err errors.Slow) f s = record { fails = f; first = first-slow old new s }

-- and the one after others that answered Ok
pub succeeds-then : (a b c : NorState) (r : Result (Unit {0}) NorError) → Succeeds a b → OnOk r (OnlyMemoryChanges b c) → OnOk r (Succeeds a c)
succeeds-then a b c (Ok x) s k = record { ready = s.ready; kept = kept-after a b c s.kept k }
succeeds-then a b c (Err e) s k = k

pub refuses-then : (a b c : NorState) (r : Result (Unit {0}) NorError) → Succeeds a b → IfErr r (λ e. NorFails e b c) → IfErr r (λ e. Refuses e a c)
refuses-then a b c (Ok x) s f = f
refuses-then a b c (Err e) s f = record { fails = fails-after e a b c s.kept f; first = first-ready e a c s.ready }

pub refuses-on : (a b c : NorState) (r : Result (Unit {0}) NorError) → Succeeds a b → IfErr r (λ e. Refuses e b c) → IfErr r (λ e. Refuses e a c)
refuses-on a b c (Ok x) s f = f
refuses-on a b c (Err e) s f = refuses-after e a b c s f

-- how a call ends, by its two answers; and each of these
pub ends-of : {T : Type 0} (r : Result T NorError) (a b : NorState) → OnOk r (Succeeds a b) → IfErr r (λ e. Refuses e a b) → EndsReady r a b
ends-of (Ok x) a b d f = d
ends-of (Err e) a b d f = f

pub done-of : {T : Type 0} (r : Result T NorError) (P : Type 0) (Q : NorError → Type 0) → MatchResult r (λ _. P) Q → OnOk r P
done-of (Ok x) P Q h = h
done-of (Err e) P Q h = tt

pub fails-of : {T : Type 0} (r : Result T NorError) (P : Type 0) (Q : NorError → Type 0) → MatchResult r (λ _. P) Q → IfErr r Q
fails-of (Ok x) P Q h = tt
fails-of (Err e) P Q h = h

-- what a `?` returns, by the error of the call before it
pub fails-as : {T E : Type 0} (r : Result T E) (e : E) (P : T → Type 0) (Q : E → Type 0) → IsErrAnd r (λ y. y ≡ e) → Q e → MatchResult r P Q
fails-as (Ok x) e P Q is h = absurd is
fails-as (Err y) e P Q is h = subst Q (sym is) h

-- a call whose answer is returned as it is, after others that answered Ok
pub ends-since : {T : Type 0} (r : Result T NorError) (a b c : NorState) → IsNorReady a → OnlyMemoryChanges a b → EndsReady r b c → EndsReady r a c
ends-since (Ok x) a b c ready k h = record { ready = ready; kept = kept-after a b c k h.kept }
ends-since (Err e) a b c ready k h = refuses-since e a b c ready k h

-- a call after one that answered Ok without asking the memory, or was ready
pub refuses-perhaps : (e : NorError) (a b c : NorState) → IsNorReady a ⊎ (b ≡ a) → OnlyMemoryChanges a b → Refuses e b c → Refuses e a c
refuses-perhaps e a b c idle k r = elim idle [
  | inl ready ↦ refuses-since e a b c ready k r
  | inr same ↦ subst (λ s. Refuses e s c) same r
]

pub succeeds-back : (a b c : NorState) → OnlyMemoryChanges a b → Succeeds b c → Succeeds a c
succeeds-back a b c k s = record { ready = ready-back a b k s.ready; kept = kept-after a b c k s.kept }
