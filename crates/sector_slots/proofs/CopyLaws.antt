-- What the steps of a copying do to the slots that count.
use Rattle.std.proofs.Common.{◌≡◌, ◌≢◌, ℕ, zero, suc, ◌+◌, ◌*◌, ◌<◌, Bool, true, false, not, ◌&&◌, cond, List, refl, sym, ap, ◌∙◌, subst, arith, inl, inr, if◌then◌else◌}
use Rattle.std.specs.Prelude.{◌/◌, ◌%◌}
use Rattle.std.proofs.lemmas.Bool.{cases_eq, eq-eqb, ne_eqb}
use Rattle.nor_layout.specs.declared.header.Generation.{Generation}
use Rattle.nor_layout.specs.declared.header.Tag.{Tag}
use Rattle.nor_layout.specs.declared.kind.Kind.{Kind}
use Rattle.nor_layout.specs.declared.kind.Kind.TheVariants as kinds
use Rattle.erase_journal.specs.Places.{how_many}
use Rattle.sector_slots.specs.Slots.{Slot, Free, Live, NoGeneration, Dead, Outside, is_void, is_copy_of, copies, is_counted, counted}
use Rattle.sector_slots.specs.Blocks.{IsAtRest, AreAtRest, IsCopying, IsTarget}
use Rattle.sector_slots.specs.Copying.{OnlyData, HoldsNothing, SameLive, IsCopy, copied, skipped, copy_slot, copied_tag, to_copy, BeginsCopy, CopiesIn, ErasesSource, Settles, ErasesVoid, shifted}

pub how_many-zero : (p : ℕ → Bool) → how_many p 0 ≡ 0
unfolding how_many
how_many-zero p = refl

pub how_many-suc : (p : ℕ → Bool) (n : ℕ) → how_many p (suc n) ≡ (if p n then 1 else 0) + how_many p n
unfolding how_many
how_many-suc p n = refl

pub how_many-same : (p q : ℕ → Bool) (n : ℕ) → ((k : ℕ) → k < n → p k ≡ q k) → how_many p n ≡ how_many q n
how_many-same p q zero same = how_many-zero p ∙ sym (how_many-zero q)
how_many-same p q (suc n) same =
    let rest = how_many-same p q n (λ k h. same k (omega arith)) in
    let here = same n (omega arith) in
    rw (how_many-suc, how_many-suc, here, rest)

pub how_many-none : (p : ℕ → Bool) (n : ℕ) → how_many p n ≡ 0 → (k : ℕ) → k < n → p k ≡ false
how_many-none p zero none k low = absurd (omega arith)
how_many-none p (suc n) none k low = grind (arith, how_many-suc p n, how_many-none p n, low, none)

pub how_many-each_fails : (p : ℕ → Bool) (n : ℕ) → ((k : ℕ) → k < n → p k ≡ false) → how_many p n ≡ 0
how_many-each_fails p zero h = how_many-zero p
how_many-each_fails p (suc n) h = grind (arith, how_many-suc p n, how_many-each_fails p n, h)

-- kinds
pub at-rest-copies : (b : ℕ) (k : Kind) → IsAtRest k → is_copy_of b k ≡ false
at-rest-copies b kinds.Plain h = refl
at-rest-copies b kinds.Void h = absurd h
at-rest-copies b (kinds.Committed s) h = absurd h
at-rest-copies b kinds.Settled h = refl
at-rest-copies b (kinds.Group tag) h = refl
at-rest-copies b kinds.DeadGroup h = refl
at-rest-copies b kinds.SpoiltGroup h = refl
at-rest-copies b kinds.Unknown h = absurd h

pub at-rest-counts : (k : Kind) → IsAtRest k → is_void k ≡ false
at-rest-counts kinds.Plain h = refl
at-rest-counts kinds.Void h = absurd h
at-rest-counts (kinds.Committed s) h = absurd h
at-rest-counts kinds.Settled h = refl
at-rest-counts (kinds.Group tag) h = refl
at-rest-counts kinds.DeadGroup h = refl
at-rest-counts kinds.SpoiltGroup h = refl
at-rest-counts kinds.Unknown h = absurd h

-- how many copies of a block there are
pub copies-none : (kind : ℕ → Kind) (n c : ℕ) → ((d : ℕ) → d < n → is_copy_of (c + 4) (kind d) ≡ false) → copies kind n c ≡ 0
unfolding copies
copies-none kind n c h = how_many-each_fails (λ d. is_copy_of (c + 4) (kind d)) n h

pub copies-same : (kind kind' : ℕ → Kind) (n c : ℕ) → ((d : ℕ) → d < n → is_copy_of (c + 4) (kind' d) ≡ is_copy_of (c + 4) (kind d)) → copies kind' n c ≡ copies kind n c
unfolding copies
copies-same kind kind' n c h = how_many-same (λ d. is_copy_of (c + 4) (kind' d)) (λ d. is_copy_of (c + 4) (kind d)) n h

copies-some : (kind : ℕ → Kind) (n c d : ℕ) → d < n → is_copy_of (c + 4) (kind d) ≡ true → copies kind n c ≢ 0
unfolding copies
copies-some kind n c d low is e = let no = how_many-none (λ a. is_copy_of (c + 4) (kind a)) n e d low in (let h : false ≡ true = sym no ∙ is in cc)

-- a slot of a block that counts, and one of a block that doesn't
pub counted-in : (kind : ℕ → Kind) (slots : ℕ → ℕ → Slot) (n s : ℕ) → is_void (kind (s / 7)) ≡ false → copies kind n (s / 7) ≡ 0 → counted kind slots n s ≡ slots (s / 7) (s % 7)
unfolding counted
counted-in kind slots n s v z = rw (v, z) refl

pub counted-void : (kind : ℕ → Kind) (slots : ℕ → ℕ → Slot) (n s : ℕ) → is_void (kind (s / 7)) ≡ true → counted kind slots n s ≡ Outside
unfolding counted
counted-void kind slots n s v = rw v refl

and-false : (a : Bool) → (a && false) ≡ false
and-false true = refl
and-false false = refl

pub counted-source : (kind : ℕ → Kind) (slots : ℕ → ℕ → Slot) (n s : ℕ) → copies kind n (s / 7) ≢ 0 → counted kind slots n s ≡ Outside
unfolding counted
counted-source kind slots n s z = rw (ne_eqb (copies kind n (s / 7)) 0 z, and-false (not (is_void (kind (s / 7))))) refl

-- a slot of another block than the one that changed, where no commit came or went for it
pub counted-other : (kind kind' : ℕ → Kind) (slots slots' : ℕ → ℕ → Slot) (n c s : ℕ) → OnlyData c n kind kind' slots slots' → s / 7 < n → s / 7 ≢ c
    → is_copy_of (s / 7 + 4) (kind' c) ≡ is_copy_of (s / 7 + 4) (kind c) → counted kind' slots' n s ≡ counted kind slots n s
unfolding counted
counted-other kind kind' slots slots' n c s only low other same =
    let k : kind' (s / 7) ≡ kind (s / 7) = only.same_kind (s / 7) low other in
    let x : slots' (s / 7) (s % 7) ≡ slots (s / 7) (s % 7) = only.same_slots (s / 7) (s % 7) low other in
    let z : copies kind' n (s / 7) ≡ copies kind n (s / 7) =
    copies-same kind kind' n (s / 7) (λ d h. elim (cases_eq d c) as (λ _. is_copy_of (s / 7 + 4) (kind' d) ≡ is_copy_of (s / 7 + 4) (kind d)) [
      | inl e ↦ ap (λ a. is_copy_of (s / 7 + 4) (kind' a)) e ∙ (same ∙ ap (λ a. is_copy_of (s / 7 + 4) (kind a)) (sym e))
      | inr e ↦ ap (λ a. is_copy_of (s / 7 + 4) a) (only.same_kind d h e)
    ]) in
    rw (k, x, z) refl

pub free-quiet : (s : Slot) → s ≡ Free → HoldsNothing s
free-quiet s e = subst (λ a. HoldsNothing a) (sym e) tt

outside-quiet : (s : Slot) → s ≡ Outside → HoldsNothing s
outside-quiet s e = subst (λ a. HoldsNothing a) (sym e) tt

-- a block of free slots is quiet whether it counts or not
either-quiet : (t : Bool) (a b : Slot) → HoldsNothing a → HoldsNothing b → HoldsNothing (cond t a b)
either-quiet true a b p q = p
either-quiet false a b p q = q

pub counted-quiet : (kind : ℕ → Kind) (slots : ℕ → ℕ → Slot) (n s : ℕ) → slots (s / 7) (s % 7) ≡ Free → HoldsNothing (counted kind slots n s)
unfolding counted
counted-quiet kind slots n s e = either-quiet (is_counted kind n (s / 7)) (slots (s / 7) (s % 7)) Outside (free-quiet (slots (s / 7) (s % 7)) e) tt

-- begin
pub begin-live : (t n : ℕ) (kind kind' : ℕ → Kind) (slots slots' : ℕ → ℕ → Slot) → BeginsCopy t n kind kind' slots slots' → SameLive (counted kind slots n) (counted kind' slots' n) (7 * n)
begin-live t n kind kind' slots slots' h s low = elim (cases_eq (s / 7) t) [
  | inl e ↦
      inr (
        counted-quiet kind slots n s (ap (λ c. slots c (s % 7)) e ∙ h.spare.free (s % 7) (omega arith)),
        outside-quiet (counted kind' slots' n s) (counted-void kind' slots' n s (ap (λ c. is_void (kind' c)) e ∙ ap is_void h.now)),
      )
  | inr ne ↦ inl (counted-other kind kind' slots slots' n t s h.only (omega arith) ne (ap (λ k. is_copy_of (s / 7 + 4) k) h.now ∙ sym (ap (λ k. is_copy_of (s / 7 + 4) k) h.spare.plain)))
]

-- copy: the slots that count are the same
pub copy-same : (t n : ℕ) (kind kind' : ℕ → Kind) (slots slots' : ℕ → ℕ → Slot) → CopiesIn t n kind kind' slots slots' → (s : ℕ) → s < 7 * n → counted kind' slots' n s ≡ counted kind slots n s
copy-same t n kind kind' slots slots' h s low = elim (cases_eq (s / 7) t) [
  | inl e ↦ counted-void kind' slots' n s (ap (λ c. is_void (kind' c)) e ∙ ap is_void h.now) ∙ sym (counted-void kind slots n s (ap (λ c. is_void (kind c)) e ∙ ap is_void h.was))
  | inr ne ↦ counted-other kind kind' slots slots' n t s h.only (omega arith) ne (ap (λ k. is_copy_of (s / 7 + 4) k) (h.now ∙ sym h.was))
]

-- erase of a void block
pub erase_void-live : (t n : ℕ) (kind kind' : ℕ → Kind) (slots slots' : ℕ → ℕ → Slot) → ErasesVoid t n kind kind' slots slots' → SameLive (counted kind slots n) (counted kind' slots' n) (7 * n)
erase_void-live t n kind kind' slots slots' h s low = elim (cases_eq (s / 7) t) [
  | inl e ↦
      inr (
        outside-quiet (counted kind slots n s) (counted-void kind slots n s (ap (λ c. is_void (kind c)) e ∙ ap is_void h.was)),
        counted-quiet kind' slots' n s (ap (λ c. slots' c (s % 7)) e ∙ h.now.free (s % 7) (omega arith)),
      )
  | inr ne ↦ inl (counted-other kind kind' slots slots' n t s h.only (omega arith) ne (ap (λ k. is_copy_of (s / 7 + 4) k) h.now.plain ∙ sym (ap (λ k. is_copy_of (s / 7 + 4) k) h.was)))
]

-- no copy of any block while the target is void, or none is
pub void-copies : (t n : ℕ) (kind : ℕ → Kind) (c : ℕ) → IsTarget t n kind → kind t ≡ kinds.Void → copies kind n c ≡ 0
void-copies t n kind c target void = copies-none kind n c (λ d low. elim (cases_eq d t) as (λ _. is_copy_of (c + 4) (kind d) ≡ false) [
  | inl e ↦ ap (λ a. is_copy_of (c + 4) (kind a)) e ∙ ap (λ k. is_copy_of (c + 4) k) void
  | inr ne ↦ at-rest-copies (c + 4) (kind d) (target.others d low ne)
])

-- and while it is committed none but of its source
pub committed-copies : (s t n : ℕ) (kind : ℕ → Kind) (c : ℕ) → IsTarget t n kind → kind t ≡ kinds.Committed (s + 4) → c ≢ s → copies kind n c ≡ 0
committed-copies s t n kind c target committed other = copies-none kind n c (λ d low. elim (cases_eq d t) as (λ _. is_copy_of (c + 4) (kind d) ≡ false) [
  | inl e ↦ ap (λ a. is_copy_of (c + 4) (kind a)) e ∙ (ap (λ k. is_copy_of (c + 4) k) committed ∙ ne_eqb (s + 4) (c + 4) (λ q. other (omega (arith, q))))
  | inr ne ↦ at-rest-copies (c + 4) (kind d) (target.others d low ne)
])

pub source-copies : (s t n : ℕ) (kind : ℕ → Kind) → t < n → kind t ≡ kinds.Committed (s + 4) → copies kind n s ≢ 0
source-copies s t n kind low committed = copies-some kind n s t low (ap (λ k. is_copy_of (s + 4) k) committed ∙ eq-eqb (s + 4) (s + 4) refl)

-- the source of a committed block is another one, and at rest
pub committed-source : (s t n : ℕ) (kind : ℕ → Kind) → IsTarget t n kind → kind t ≡ kinds.Committed (s + 4) → (s < n) × (s ≢ t)
committed-source s t n kind target committed =
    let h : IsCopying (kinds.Committed (s + 4)) t n = subst (λ k. IsCopying k t n) committed target.copying in
    let e = h.1.0 in
    (let q = h.1.1.0 in omega (arith, e, q), λ same. h.1.1.1 (omega (arith, e, same)))

-- erase of the source of a committed block: the slots that count are the same
pub erase_source-same : (s t n : ℕ) (kind kind' : ℕ → Kind) (slots slots' : ℕ → ℕ → Slot) → ErasesSource s t n kind kind' slots slots' → (w : ℕ) → w < 7 * n → counted kind' slots' n w ≡ counted kind slots n w
erase_source-same s t n kind kind' slots slots' h w low =
    let place = committed-source s t n kind h.target h.was in
    let stays : kind' t ≡ kinds.Committed (s + 4) = h.only.same_kind t h.target.number (λ e. place.1 (sym e)) ∙ h.was in
    let rest : IsAtRest (kind s) = h.target.others s place.0 place.1 in
    elim (cases_eq (w / 7) s) [
      | inl e ↦
          counted-source kind' slots' n w (λ z. source-copies s t n kind' h.target.number stays (ap (λ c. copies kind' n c) (sym e) ∙ z))
          ∙ sym (counted-source kind slots n w (λ z. source-copies s t n kind h.target.number h.was (ap (λ c. copies kind n c) (sym e) ∙ z)))
      | inr ne ↦ counted-other kind kind' slots slots' n s w h.only (omega arith) ne (ap (λ k. is_copy_of (w / 7 + 4) k) h.now.plain ∙ sym (at-rest-copies (w / 7 + 4) (kind s) rest))
    ]

-- settle: the source, which is wholly free, counts again
pub settle-live : (s t n : ℕ) (kind kind' : ℕ → Kind) (slots slots' : ℕ → ℕ → Slot) → Settles s t n kind kind' slots slots' → SameLive (counted kind slots n) (counted kind' slots' n) (7 * n)
settle-live s t n kind kind' slots slots' h w low =
    let place = committed-source s t n kind h.target h.was in
    elim (cases_eq (w / 7) s) [
      | inl e ↦
          inr (
            outside-quiet (counted kind slots n w) (counted-source kind slots n w (λ z. source-copies s t n kind h.target.number h.was (ap (λ c. copies kind n c) (sym e) ∙ z))),
            counted-quiet kind' slots' n w (ap (λ c. slots' c (w % 7)) e ∙ (h.only.same_slots s (w % 7) place.0 place.1 ∙ h.source.free (w % 7) (omega arith))),
          )
      | inr ne ↦ elim (cases_eq (w / 7) t) [
        | inr nt ↦ inl (counted-other kind kind' slots slots' n t w h.only (omega arith) nt
            (ap (λ k. is_copy_of (w / 7 + 4) k) h.now ∙ sym (ap (λ k. is_copy_of (w / 7 + 4) k) h.was ∙ ne_eqb (s + 4) (w / 7 + 4) (λ q. ne (omega (arith, q))))))
        | inl e ↦
            let before = counted-in kind slots n w (ap (λ c. is_void (kind c)) e ∙ ap is_void h.was) (committed-copies s t n kind (w / 7) h.target h.was ne) in
            let none : copies kind' n (w / 7) ≡ 0 = copies-none kind' n (w / 7) (λ d l. elim (cases_eq d t) as (λ _. is_copy_of (w / 7 + 4) (kind' d) ≡ false) [
              | inl q ↦ ap (λ a. is_copy_of (w / 7 + 4) (kind' a)) q ∙ ap (λ k. is_copy_of (w / 7 + 4) k) h.now
              | inr nq ↦ ap (λ k. is_copy_of (w / 7 + 4) k) (h.only.same_kind d l nq) ∙ at-rest-copies (w / 7 + 4) (kind d) (h.target.others d l nq)
            ]) in
            let after = counted-in kind' slots' n w (ap (λ c. is_void (kind' c)) e ∙ ap is_void h.now) none in
            inl (after ∙ (ap (λ c. slots' c (w % 7)) e ∙ (h.same (w % 7) (omega arith) ∙ (ap (λ c. slots c (w % 7)) (sym e) ∙ sym before))))
      ]
    ]

pub shifted-there : (s t w : ℕ) → w / 7 ≡ s → shifted s t w ≡ 7 * t + w % 7
shifted-there s t w e = rw (eq-eqb (w / 7) s e) refl

pub shifted-else : (s t w : ℕ) → w / 7 ≢ s → shifted s t w ≡ w
shifted-else s t w ne = rw (ne_eqb (w / 7) s ne) refl

pub quiet-live : (s : Slot) (g : ℕ) (k : Generation) (x : List ℕ) → HoldsNothing s → s ≡ Live (record { number = g; generation = k }) x → ⊥
quiet-live s g k x q e = subst (λ a. HoldsNothing a) e q

pub outside-live : (s : Slot) (g : ℕ) (k : Generation) (x : List ℕ) → s ≡ Outside → s ≡ Live (record { number = g; generation = k }) x → ⊥
outside-live s g k x o e = quiet-live s g k x (outside-quiet s o) e

abbrev number_of : Slot → ℕ
number_of Free = 0
number_of (Live tag x) = tag.number
number_of NoGeneration = 0
number_of Dead = 0
number_of Outside = 0

abbrev data_of : Slot → List ℕ → List ℕ
data_of Free y = y
data_of (Live tag x) y = x
data_of NoGeneration y = y
data_of Dead y = y
data_of Outside y = y

copied-number : (kind : Kind) (tag : Tag) → (copied_tag kind tag).number ≡ tag.number
copied-number kinds.Plain tag = refl
copied-number kinds.Void tag = refl
copied-number (kinds.Committed b) tag = refl
copied-number kinds.Settled tag = refl
copied-number (kinds.Group group) tag = refl
copied-number kinds.DeadGroup tag = refl
copied-number kinds.SpoiltGroup tag = refl
copied-number kinds.Unknown tag = refl

pub copy-on : (old new : Slot) (g : ℕ) (k : Generation) (x : List ℕ) → IsCopy old new → old ≡ Live (record { number = g; generation = k }) x → (j : Generation) × (new ≡ Live (record { number = g; generation = j }) x)
copy-on old new g k x (copied h i j y was is) e =
    let number : h ≡ g = ap number_of (sym was ∙ e) in
    let content : y ≡ x = ap (λ s. data_of s x) (sym was ∙ e) in
    (j, is ∙ (ap (λ a. Live (record { number = a; generation = j }) y) number ∙ ap (λ a. Live (record { number = g; generation = j }) a) content))
copy-on old new g k x (skipped p q) e = absurd (quiet-live old g k x p e)

pub copy-back : (old new : Slot) (g : ℕ) (k : Generation) (x : List ℕ) → IsCopy old new → new ≡ Live (record { number = g; generation = k }) x → (j : Generation) × (old ≡ Live (record { number = g; generation = j }) x)
copy-back old new g k x (copied h i j y was is) e =
    let number : h ≡ g = ap number_of (sym is ∙ e) in
    let content : y ≡ x = ap (λ s. data_of s x) (sym is ∙ e) in
    (i, was ∙ (ap (λ a. Live (record { number = a; generation = i }) y) number ∙ ap (λ a. Live (record { number = g; generation = i }) a) content))
copy-back old new g k x (skipped p q) e = absurd (quiet-live new g k x q e)

abbrev pub IsWhole : Slot → Type 0
IsWhole Free = Unit {0}
IsWhole (Live tag x) = Unit {0}
IsWhole NoGeneration = ⊥
IsWhole Dead = Unit {0}
IsWhole Outside = Unit {0}

pub copy-whole : (old new : Slot) → IsCopy old new → new ≢ NoGeneration
copy-whole old new (copied h i j y was is) e = subst (λ a. IsWhole a) (sym is ∙ e) tt
copy-whole old new (skipped p q) e = subst (λ a. HoldsNothing a) e q

-- the exact copy of a slot is a copy
pub copy-exact : (slot : Slot) → slot ≢ NoGeneration → IsCopy slot (copy_slot slot)
copy-exact Free whole = skipped tt tt
copy-exact (Live tag x) whole = copied tag.number tag.generation tag.generation x refl refl
copy-exact NoGeneration whole = absurd (whole refl)
copy-exact Dead whole = skipped tt tt
copy-exact Outside whole = skipped tt tt

-- while no copying goes on every slot counts
pub rest-counted : (kind : ℕ → Kind) (slots : ℕ → ℕ → Slot) (n w : ℕ) → AreAtRest kind n → w < 7 * n → counted kind slots n w ≡ slots (w / 7) (w % 7)
rest-counted kind slots n w rest low = counted-in kind slots n w (at-rest-counts (kind (w / 7)) (rest (w / 7) (omega arith))) (copies-none kind n (w / 7) (λ d l. at-rest-copies (w / 7 + 4) (kind d) (rest d l)))

-- the copy of what is to be copied of a slot is a copy of it
pub copied-from : (kind : Kind) (old new : Slot) → old ≢ NoGeneration → IsCopy (to_copy kind old) new → IsCopy old new
copied-from kind Free new whole (copied g k j x was now) = absurd (quiet-live Free g k x tt was)
copied-from kind Free new whole (skipped p q) = skipped tt q
copied-from kind (Live tag x) new whole (copied g k j y was now) =
    let number : tag.number ≡ g = sym (copied-number kind tag) ∙ ap number_of was in
    let content : x ≡ y = ap (λ s. data_of s x) was in
    copied tag.number tag.generation j x refl (now ∙ (ap (λ a. Live (record { number = a; generation = j }) y) (sym number) ∙ ap (λ a. Live (record { number = tag.number; generation = j }) a) (sym content)))
copied-from kind (Live tag x) new whole (skipped p q) = absurd p
copied-from kind NoGeneration new whole c = absurd (whole refl)
copied-from kind Dead new whole (copied g k j x was now) = absurd (quiet-live Dead g k x tt was)
copied-from kind Dead new whole (skipped p q) = skipped tt q
copied-from kind Outside new whole (copied g k j x was now) = absurd (quiet-live Outside g k x tt was)
copied-from kind Outside new whole (skipped p q) = skipped tt q
