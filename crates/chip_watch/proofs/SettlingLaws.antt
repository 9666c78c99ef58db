-- Waits that follow one another.
use Rattle.std.proofs.Common.{ℕ, length, arith, subst, ◌≡◌, List, [], ◌∷◌, ◌++◌, true, Option, refl}
use Rattle.std.proofs.lemmas.Bool.{and_from, and_parts}
use Rattle.chip_model.specs.Exchanges.{Exchange, Exchanged}
use Rattle.chip_model.proofs.ExchangeLaws.{exchanged_none, exchanged_twice}
use Rattle.chip_watch.specs.Settling.{Rests, are_waits, sent_alone}

both_wait : (some more : List Exchange) → are_waits some ≡ true → are_waits more ≡ true → are_waits (some ++ more) ≡ true
both_wait [] more one two = two
both_wait (e ∷ es) more one two =
    let parts = and_parts _ _ one in
    and_from _ _ parts.0 (both_wait es more parts.1 two)

pub rests_none : (log : Option (List Exchange)) → Rests log log
rests_none log = ([], refl, exchanged_none log log refl)

pub rests_more : (old mid new : Option (List Exchange)) (more : List Exchange) → Rests old mid → are_waits more ≡ true → Exchanged mid new more → Rests old new
rests_more old mid new more rests quiet one =
    (rests.0 ++ more, both_wait rests.0 more rests.1 quiet, exchanged_twice old mid new rests.0 more rests.2 one)

empty : (xs : List ℕ) → length xs ≡ 0 → xs ≡ []
empty [] e = refl
empty (x ∷ xs) e = absurd (omega (arith, e))

-- a frame that asks for no byte
pub silent : (old new : Option (List Exchange)) (sent heard : List ℕ) → length heard ≡ 0 → Exchanged old new (record { sent = sent; received = heard } ∷ [])
    → Exchanged old new (sent_alone sent ∷ [])
silent old new sent heard none one = subst (λ (r : List ℕ). Exchanged old new (record { sent = sent; received = r } ∷ [])) (empty heard none) one

pub rests_from : (old mid new : Option (List Exchange)) → mid ≡ old → Rests mid new → Rests old new
rests_from old mid new same rests = subst (λ (l : Option (List Exchange)). Rests l new) same rests
