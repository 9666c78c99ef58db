-- what is told of losses and of slow operations, in one event after another
use Rattle.std.proofs.Common.{arith, ◌≡◌, inl, inr, ℕ, ◌<◌, ◌≤◌, ◌+◌, List, [], ◌∷◌, ◌++◌, length, take, get_or, Option, refl, sym, ◌∙◌, ap, append_assoc, subst}
use Rattle.std.proofs.lemmas.List.{append-nil, take_more}
use Rattle.std.specs.Prelude.{Result, Ok, Err, OnOk}
use Rattle.std.specs.Io.KnownBytes.{Appends}
use Rattle.block_device.specs.Facts.{Facts}
use Rattle.block_device.specs.Streams.{Sends}
use Rattle.std.proofs.KnownBytes.{Appends-trans}
use Rattle.nbd_station.specs.declared.event.Event.{Event}
use Rattle.nbd_station.specs.StationState.{StationState}
use Rattle.nbd_station.specs.Telling.{SlowComes, EventTells, EventTold, AllTell, AllTold}
use Rattle.nbd_station.proofs.Pieces.{appends_none}

pub slow_still : (f : Facts) → SlowComes f f
slow_still f = λ h. inl h

pub slow_twice : (a b c : Facts) → a.slows ≤ b.slows → b.slows ≤ c.slows → SlowComes a b → SlowComes b c → SlowComes a c
slow_twice a b c one two first then = λ h. elim (then h) [
  | inl k ↦ (elim (first k) [ inl j ↦ inl j | inr lt ↦ inr (omega (arith, lt, two)) ])
  | inr lt ↦ inr (omega (arith, lt, one))
]

-- bytes that are known to be written so far
abbrev pub Grows : Option (List ℕ) → Option (List ℕ) → Type 0
Grows was is = (wrote : List ℕ) × Appends was is wrote

pub grows_twice : (a b c : Option (List ℕ)) → Grows a b → Grows b c → Grows a c
grows_twice a b c one two = (one.0 ++ two.0, Appends-trans a b c one.0 two.0 one.1 two.1)

pub grows_still : (a : Option (List ℕ)) → Grows a a
grows_still a = ([], appends_none a)

-- an event whose last record was sent
pub told_sent : {T E : Type 0} (view old new : StationState) (e : Event) (was mid is : Option (List ℕ)) (y : List ℕ) (f f' : ℕ) (r : Result T E)
    → view ≡ old → Grows was mid → Sends mid f y r is f' → ((x : List ℕ) → EventTells old e x new) → SlowComes view.disk new.disk → OnOk r (EventTold old e was is new)
told_sent view old new e was mid is y f f' (Ok v) same one two t s =
    (one.0 ++ y, Appends-trans was mid is one.0 y one.1 two.0, t (one.0 ++ y), subst (λ b. SlowComes b.disk new.disk) same s)
told_sent view old new e was mid is y f f' (Err x) same one two t s = tt

all_more : (old mid new : StationState) (es : List Event) (e : Event) (x y : List ℕ) → AllTell old es x mid → EventTells mid e y new → SlowComes mid.disk new.disk → AllTell old (es ++ e ∷ []) (x ++ y) new
all_more old mid new [] e x y all t s =
    (y, [], new, ap (λ l. l ++ y) all.0 ∙ sym (append-nil y), subst (λ b. EventTells b e y new) all.1 t, subst (λ b. SlowComes b.disk new.disk) all.1 s, (refl, refl))
all_more old mid new (f ∷ es) e x y all t s =
    (all.0, all.1 ++ y, all.2, ap (λ l. l ++ y) all.3 ∙ append_assoc all.0 all.1 y, all.4, all.5, all_more all.2 mid new es e all.1 y all.6 t s)

pub all_none : (b : StationState) (is : Option (List ℕ)) → AllTold b [] is is b
all_none b is = ([], appends_none is, (refl, refl))

pub all_told_more : (old mid new : StationState) (es : List Event) (e : Event) (was is now : Option (List ℕ)) → AllTold old es was is mid → EventTold mid e is now new → AllTold old (es ++ e ∷ []) was now new
all_told_more old mid new es e was is now all t =
    (all.0 ++ t.0, Appends-trans was is now all.0 t.0 all.1 t.1, all_more old mid new es e all.0 t.0 all.2 t.2 t.3)

pub all_told_at : (old mid new : StationState) (es : List Event) (i : ℕ) (d : Event) (was is now : Option (List ℕ)) → i < length es → AllTold old (take i es) was is mid → EventTold mid (get_or es i d) is now new
    → AllTold old (take (i + 1) es) was now new
all_told_at old mid new es i d was is now lt all t =
    subst (λ l. AllTold old l was now new) (sym (take_more es i d lt)) (all_told_more old mid new (take i es) (get_or es i d) was is now all t)
