-- Which slots hold a sector, slot by slot.
use Rattle.std.proofs.Common.{◌≡◌, ℕ, zero, suc, ◌+◌, ◌<◌, Bool, true, false, List, length, refl, sym, ap, subst, arith, inl, inr, add-one}
use Rattle.std.proofs.lemmas.Bool.{cases_eq, eq-eqb, ne_eqb}
use Rattle.std.proofs.lemmas.Option.{none-some}
use Rattle.std.specs.Prelude.{Option, Some, None, if◌then◌else◌, replicate, slice_index_or, unwrap_or}
use Rattle.nor_layout.specs.declared.header.Generation.{Generation}
use Rattle.nor_layout.specs.declared.header.Generation.TheVariants as generations
use Rattle.nor_layout.specs.declared.layout.Layout.{Layout}
use Rattle.sector_slots.specs.Sectors.{zeros}
use Rattle.sector_rescue.specs.Rescue.{first_held, holders, is_last, none_held, said_at, with_holder, with_said}
use Rattle.sector_rescue.specs.Steps.{IsBelow, IsTableBelow}
use Rattle.sector_rescue.specs.declared.slot.Said.{Said}
use Rattle.sector_rescue.specs.declared.slot.Said.TheVariants.{Nothing, Doubtful, Holds}
use Rattle.sector_rescue.specs.declared.table.Holders.{Holders}

pub holders-none : (said : ℕ → Said) (g : ℕ) → holders said 0 g ≡ none_held
unfolding holders
holders-none said g = refl

pub holders-more : (said : ℕ → Said) (s g : ℕ) → holders said (s + 1) g ≡ with_said (said s) s g (holders said s g)
unfolding holders
holders-more said s g = ap (λ n. holders said n g) (add-one s)

-- a slot that is held is one of those that were looked at
abbrev Below : ℕ → Option ℕ → Type 0
Below n o = (s : ℕ) → o ≡ Some s → s < n

record AllBelow (n : ℕ) (h : Holders) : Type 0 where
  zero : Below n h.zero
  one : Below n h.one
  two : Below n h.two
  three : Below n h.three

same-slot : (s t : ℕ) → Some s ≡ Some t → s ≡ t
same-slot s t e = ap (λ (o : Option ℕ). unwrap_or o 0) e

first-below : (o : Option ℕ) (n : ℕ) → Below n o → Below (suc n) (first_held o n)
first-below None n p = λ s e. (let q : n ≡ s = same-slot n s e in omega (arith, q))
first-below (Some t) n p = λ s e. (let q : s < n = p s e in omega (arith, q))

later : (o : Option ℕ) (n : ℕ) → Below n o → Below (suc n) o
later o n p = λ s e. (let q : s < n = p s e in omega (arith, q))

all-later : (n : ℕ) (h : Holders) → AllBelow n h → AllBelow (suc n) h
all-later n h a = record { zero = later h.zero n a.zero; one = later h.one n a.one; two = later h.two n a.two; three = later h.three n a.three }

with-below : (k : Generation) (n : ℕ) (h : Holders) → AllBelow n h → AllBelow (suc n) (with_holder k n h)
with-below generations.Zero n h a = record { zero = first-below h.zero n a.zero; one = later h.one n a.one; two = later h.two n a.two; three = later h.three n a.three }
with-below generations.One n h a = record { zero = later h.zero n a.zero; one = first-below h.one n a.one; two = later h.two n a.two; three = later h.three n a.three }
with-below generations.Two n h a = record { zero = later h.zero n a.zero; one = later h.one n a.one; two = first-below h.two n a.two; three = later h.three n a.three }
with-below generations.Three n h a = record { zero = later h.zero n a.zero; one = later h.one n a.one; two = later h.two n a.two; three = first-below h.three n a.three }

said-below : (x : Said) (n g : ℕ) (h : Holders) → AllBelow n h → AllBelow (suc n) (with_said x n g h)
said-below Nothing n g h a = all-later n h a
said-below Doubtful n g h a = all-later n h a
said-below (Holds tag) n g h a = elim (cases_eq tag.number g) as (λ _. AllBelow (suc n) (with_said (Holds tag) n g h)) [
  | inl e ↦ rw (eq-eqb tag.number g e) (with-below tag.generation n h a)
  | inr ne ↦ rw (ne_eqb tag.number g ne) (all-later n h a)
]

all-below : (said : ℕ → Said) (n g : ℕ) → AllBelow n (holders said n g)
unfolding holders
all-below said zero g = record { zero = λ s e. absurd (none-some s e); one = λ s e. absurd (none-some s e); two = λ s e. absurd (none-some s e); three = λ s e. absurd (none-some s e) }
all-below said (suc n) g = said-below (said n) n g (holders said n g) (all-below said n g)

if-below : (b : Bool) (x y : Option ℕ) (n : ℕ) → Below n x → Below n y → Below n (if b then x else y)
if-below true x y n p q = p
if-below false x y n p q = q

newest-below : (n : ℕ) (h : Holders) → AllBelow n h → IsBelow n h
newest-below n h a =
    if-below (is_last h.zero h.one) h.zero _ n a.zero
    (if-below (is_last h.one h.two) h.one _ n a.one (if-below (is_last h.two h.three) h.two _ n a.two (if-below (is_last h.three h.zero) h.three h.zero n a.three a.zero)))

pub table-below : (layout : Layout) (m : List ℕ) (n : ℕ) (table : List Holders) (g : ℕ) → IsTableBelow layout m n table → g < length table → IsBelow n (slice_index_or table g none_held)
table-below layout m n table g t low =
    let said = said_at layout m in
    subst (λ h. IsBelow n h) (sym (t.each g low)) (newest-below n (holders said n g) (all-below said n g))

pub zeros-are : replicate 512 0 ≡ zeros
unfolding zeros
zeros-are = refl
