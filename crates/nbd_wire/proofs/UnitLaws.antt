-- There is one cutting of a text into units, and more bytes only add units to it.
use Rattle.std.proofs.Common.{◌≡◌, ℕ, ◌+◌, ◌<◌, ◌≤◌, List, [], ◌∷◌, ◌++◌, length, take, drop, refl, sym, ap, subst, ◌∙◌, append_assoc, arith, inl, inr}
use Rattle.std.proofs.lemmas.Bool.{cases_lt}
use Rattle.std.proofs.lemmas.List.{take_at, drop_at, take-append-drop, length-append, append-nil}
use Rattle.nbd_wire.specs.declared.phase.Phase.{Phase}
use Rattle.nbd_wire.specs.declared.phase.Phase.TheVariants.{AwaitingFlags, Negotiating, Transmitting, Closed}
use Rattle.nbd_wire.specs.Units.{head_len, tail_len, IsOpen, IsUnit, IsPartial, after, Splits}
use Rattle.nbd_wire.proofs.Cutting.{tail_front, head_pos, first_unit, cut}

-- no unit begins another
pub one_front : (p : Phase) (u v x y : List ℕ) → IsUnit p u → IsUnit p v → u ++ x ≡ v ++ y → (u ≡ v) × (x ≡ y)
one_front p u v x y hu hv e =
    let tails : tail_len p u ≡ tail_len p v = sym (tail_front p u x hu.whole_head) ∙ ap (tail_len p) e ∙ tail_front p v y hv.whole_head in
    let lens : length u ≡ length v = omega (arith, hu.whole, hv.whole) in
    (sym (take_at u x (length v) lens) ∙ ap (take (length v)) e ∙ take_at v y (length v) refl, sym (drop_at u x (length v) lens) ∙ ap (drop (length v)) e ∙ drop_at v y (length v) refl)

pub Splits_one : (p : Phase) (text : List ℕ) (us vs : List (List ℕ)) (r s : List ℕ) (q e : Phase) → Splits p text us r q → Splits p text vs s e → (us ≡ vs) × (r ≡ s) × (q ≡ e)
Splits_one p text [] [] r s q e a b = (refl, sym a.1 ∙ b.1, sym a.0 ∙ b.0)
Splits_one p text [] (v ∷ vs) r s q e a b =
    absurd (a.2 v b.0 (sym a.1 ∙ b.1) (subst (λ (x : Phase). IsUnit x v) a.0 b.2))
Splits_one p text (u ∷ us) [] r s q e a b =
    absurd (b.2 u a.0 (sym b.1 ∙ a.1) (subst (λ (x : Phase). IsUnit x u) b.0 a.2))
Splits_one p text (u ∷ us) (v ∷ vs) r s q e a b =
    let same = one_front p u v a.0 b.0 a.2 b.2 (sym a.1 ∙ b.1) in
    let moved : Splits (after p u) a.0 vs s e = rw (same.0, same.1) b.3 in
    let rest = Splits_one (after p u) a.0 us vs r s q e a.3 moved in
    let us_same = rest.0 in
    let head = same.0 in
    (cc, rest.1, rest.2)

-- units that come after the rest are more units of the whole
pub Splits_join : (p : Phase) (text x : List ℕ) (us ws : List (List ℕ)) (r s : List ℕ) (q e : Phase) → Splits p text us r q → Splits q (r ++ x) ws s e → Splits p (text ++ x) (us ++ ws) s e
Splits_join p text x [] ws r s q e a b = rw (a.1, a.0) b
Splits_join p text x (u ∷ us) ws r s q e a b =
    (a.0 ++ x, ap (λ (t : List ℕ). t ++ x) a.1 ∙ append_assoc u a.0 x, a.2, Splits_join (after p u) a.0 x us ws r s q e a.3 b)

-- the units of a text are a beginning of those of any longer text
pub units_begin : (p : Phase) (text x : List ℕ) (us vs : List (List ℕ)) (r s : List ℕ) (q e : Phase) → Splits p text us r q → Splits p (text ++ x) vs s e → (ws : List (List ℕ)) × (vs ≡ us ++ ws)
units_begin p text x us vs r s q e a b =
    let more = cut q (r ++ x) in
    let joined = Splits_join p text x us more.0 r more.1 q more.2 a more.3 in
    let same = Splits_one p (text ++ x) vs (us ++ more.0) s more.1 e more.2 b joined in
    (more.0, same.0)

pub partial_nil : (p : Phase) → IsPartial p []
partial_nil p u more e h =
    let pos = head_pos p h.is_open in
    let lens : 0 ≡ length u + length more = ap length e ∙ length-append u more in
    omega (arith, h.whole_head)

-- the rest grows, and no unit is complete
pub Splits_more : (p : Phase) (text x : List ℕ) (us : List (List ℕ)) (r : List ℕ) (q : Phase) → Splits p text us r q → IsPartial q (r ++ x) → Splits p (text ++ x) us (r ++ x) q
Splits_more p text x us r q a h =
    subst (λ (v : List (List ℕ)). Splits p (text ++ x) v (r ++ x) q) (append-nil us) (Splits_join p text x us [] r (r ++ x) q q a (refl, refl, h))

-- the rest grows to a unit
pub Splits_unit : (p : Phase) (text x : List ℕ) (us : List (List ℕ)) (r : List ℕ) (q : Phase) → Splits p text us r q → IsUnit q (r ++ x) → Splits p (text ++ x) (us ++ (r ++ x) ∷ []) [] (after q (r ++ x))
Splits_unit p text x us r q a h =
    Splits_join p text x us ((r ++ x) ∷ []) r [] q (after q (r ++ x)) a ([], sym (append-nil (r ++ x)), h, (refl, refl, partial_nil (after q (r ++ x))))

pub open_of_head : (p : Phase) → 0 < head_len p → IsOpen p
open_of_head AwaitingFlags h = tt
open_of_head (Negotiating no_zeroes) h = tt
open_of_head Transmitting h = tt
open_of_head Closed h = absurd (omega arith)

-- what is no unit yet is shorter than its head says
pub partial_is_short : (p : Phase) (rest : List ℕ) → IsOpen p → IsPartial p rest → head_len p ≤ length rest → length rest < head_len p + tail_len p rest
partial_is_short p rest open_p partial whole =
    let n = head_len p + tail_len p rest in
    elim (cases_lt (length rest) n) [
      | inl lt ↦ lt
      | inr ge ↦ absurd (partial (take n rest) (drop n rest) (sym (take-append-drop n rest)) (first_unit p rest open_p whole ge))
    ]
