-- The commit of a copy: the live slots of the source become those of the copy.
use Rattle.std.proofs.Common.{◌≡◌, ◌≢◌, ℕ, ◌+◌, ◌*◌, ◌<◌, false, List, sym, ap, ◌∙◌, subst, arith, inl, inr}
use Rattle.std.specs.Prelude.{◌/◌, ◌%◌}
use Rattle.std.proofs.lemmas.Bool.{cases_eq, ne_eqb}
use Rattle.nor_layout.specs.declared.header.Generation.{Generation}
use Rattle.nor_layout.specs.declared.kind.Kind.{Kind}
use Rattle.sector_slots.specs.Slots.{Slot, Live, NoGeneration, Outside, is_void, is_copy_of, copies, counted}
use Rattle.sector_slots.specs.Sectors.{LiveAt}
use Rattle.sector_slots.specs.Copying.{MovesSlots, Commits}
use Rattle.sector_slots.proofs.CopyLaws.{at-rest-copies, at-rest-counts, copies-none, counted-in, counted-void, counted-source, void-copies, source-copies, shifted-there, shifted-else, outside-live, copy-on, copy-back, copy-whole, IsWhole}
use Rattle.sector_slots.specs.Copying.{shifted}

-- before: the slots of the target are outside, and all others count
pub before-target : (s t n : ℕ) (kind kind' : ℕ → Kind) (slots slots' : ℕ → ℕ → Slot) (w : ℕ) → Commits s t n kind kind' slots slots' → w / 7 ≡ t → counted kind slots n w ≡ Outside
before-target s t n kind kind' slots slots' w h e = counted-void kind slots n w (ap (λ c. is_void (kind c)) e ∙ ap is_void h.was)

pub before-other : (s t n : ℕ) (kind kind' : ℕ → Kind) (slots slots' : ℕ → ℕ → Slot) (w : ℕ) → Commits s t n kind kind' slots slots' → w < 7 * n → w / 7 ≢ t → counted kind slots n w ≡ slots (w / 7) (w % 7)
before-other s t n kind kind' slots slots' w h low ne = counted-in kind slots n w (at-rest-counts (kind (w / 7)) (h.target.others (w / 7) (omega arith) ne)) (void-copies t n kind (w / 7) h.target h.was)

-- after: the slots of the source are outside, and all others count
pub after-source : (s t n : ℕ) (kind kind' : ℕ → Kind) (slots slots' : ℕ → ℕ → Slot) (w : ℕ) → Commits s t n kind kind' slots slots' → w / 7 ≡ s → counted kind' slots' n w ≡ Outside
after-source s t n kind kind' slots slots' w h e = counted-source kind' slots' n w (λ z. source-copies s t n kind' h.target.number h.now (ap (λ c. copies kind' n c) (sym e) ∙ z))

no-other : (s t n : ℕ) (kind kind' : ℕ → Kind) (slots slots' : ℕ → ℕ → Slot) (c : ℕ) → Commits s t n kind kind' slots slots' → c ≢ s → copies kind' n c ≡ 0
no-other s t n kind kind' slots slots' c h ne = copies-none kind' n c (λ d low. elim (cases_eq d t) as (λ _. is_copy_of (c + 4) (kind' d) ≡ false) [
  | inl e ↦ ap (λ a. is_copy_of (c + 4) (kind' a)) e ∙ (ap (λ k. is_copy_of (c + 4) k) h.now ∙ ne_eqb (s + 4) (c + 4) (λ q. ne (omega (arith, q))))
  | inr nt ↦ ap (λ k. is_copy_of (c + 4) k) (h.only.same_kind d low nt) ∙ at-rest-copies (c + 4) (kind d) (h.target.others d low nt)
])

pub after-target : (s t n : ℕ) (kind kind' : ℕ → Kind) (slots slots' : ℕ → ℕ → Slot) (w : ℕ) → Commits s t n kind kind' slots slots' → w / 7 ≡ t → counted kind' slots' n w ≡ slots' t (w % 7)
after-target s t n kind kind' slots slots' w h e =
    counted-in kind' slots' n w (ap (λ c. is_void (kind' c)) e ∙ ap is_void h.now) (no-other s t n kind kind' slots slots' (w / 7) h (λ q. h.other (sym q ∙ e)))
    ∙ ap (λ c. slots' c (w % 7)) e

pub after-other : (s t n : ℕ) (kind kind' : ℕ → Kind) (slots slots' : ℕ → ℕ → Slot) (w : ℕ) → Commits s t n kind kind' slots slots' → w < 7 * n → w / 7 ≢ s → w / 7 ≢ t → counted kind' slots' n w ≡ slots (w / 7) (w % 7)
after-other s t n kind kind' slots slots' w h low ns nt =
    counted-in kind' slots' n w (ap is_void (h.only.same_kind (w / 7) (omega arith) nt) ∙ at-rest-counts (kind (w / 7)) (h.target.others (w / 7) (omega arith) nt)) (no-other s t n kind kind' slots slots' (w / 7) h ns)
    ∙ h.only.same_slots (w / 7) (w % 7) (omega arith) nt

live-there : (f : ℕ → Slot) (n v w g : ℕ) (k : Generation) (x : List ℕ) → v ≡ w → LiveAt f n v g k x → LiveAt f n w g k x
live-there f n v w g k x e l = subst (λ a. LiveAt f n a g k x) e l

-- a live slot goes where its block goes
commit-on : (s t n : ℕ) (kind kind' : ℕ → Kind) (slots slots' : ℕ → ℕ → Slot) (w g : ℕ) (k : Generation) (x : List ℕ) → Commits s t n kind kind' slots slots' → LiveAt (counted kind slots n) (7 * n) w g k x
    → (j : Generation) × LiveAt (counted kind' slots' n) (7 * n) (shifted s t w) g j x
commit-on s t n kind kind' slots slots' w g k x h l =
    let number : w < 7 * n = l.number in
    let within : t < n = h.target.number in
    elim (cases_eq (w / 7) s) [
      | inl e ↦
          let v = 7 * t + w % 7 in
          let block : v / 7 ≡ t = omega arith in
          let place : v % 7 ≡ w % 7 = omega arith in
          let was : slots s (w % 7) ≡ Live (record { number = g; generation = k }) x =
          ap (λ c. slots c (w % 7)) (sym e) ∙ (sym (before-other s t n kind kind' slots slots' w h number (λ q. h.other (sym e ∙ q))) ∙ l.is) in
          let c = copy-on (slots s (w % 7)) (slots' t (w % 7)) g k x (h.copies (w % 7) (omega arith)) was in (
            c.0,
            live-there (counted kind' slots' n) (7 * n) v (shifted s t w) g c.0 x (sym (shifted-there s t w e))
                (record { number = omega (arith, within); is = after-target s t n kind kind' slots slots' v h block ∙ (ap (λ i. slots' t i) place ∙ c.1) }),
          )
      | inr ns ↦ elim (cases_eq (w / 7) t) [
        | inl e ↦ absurd (outside-live (counted kind slots n w) g k x (before-target s t n kind kind' slots slots' w h e) l.is)
        | inr nt ↦ (
          k,
          live-there (counted kind' slots' n) (7 * n) w (shifted s t w) g k x (sym (shifted-else s t w ns))
              (record { number = number; is = after-other s t n kind kind' slots slots' w h number ns nt ∙ (sym (before-other s t n kind kind' slots slots' w h number nt) ∙ l.is) }),
        )
      ]
    ]

commit-back : (s t n : ℕ) (kind kind' : ℕ → Kind) (slots slots' : ℕ → ℕ → Slot) (w g : ℕ) (k : Generation) (x : List ℕ) → Commits s t n kind kind' slots slots' → LiveAt (counted kind' slots' n) (7 * n) w g k x
    → (j : Generation) × LiveAt (counted kind slots n) (7 * n) (shifted t s w) g j x
commit-back s t n kind kind' slots slots' w g k x h l =
    let number : w < 7 * n = l.number in
    let within : s < n = h.number in
    elim (cases_eq (w / 7) t) [
      | inl e ↦
          let v = 7 * s + w % 7 in
          let block : v / 7 ≡ s = omega arith in
          let place : v % 7 ≡ w % 7 = omega arith in
          let is : slots' t (w % 7) ≡ Live (record { number = g; generation = k }) x = sym (after-target s t n kind kind' slots slots' w h e) ∙ l.is in
          let c = copy-back (slots s (w % 7)) (slots' t (w % 7)) g k x (h.copies (w % 7) (omega arith)) is in
          let low : v < 7 * n = omega (arith, within) in
          let was = before-other s t n kind kind' slots slots' v h low (λ q. h.other (sym block ∙ q)) in (
            c.0,
            live-there (counted kind slots n) (7 * n) v (shifted t s w) g c.0 x (sym (shifted-there t s w e))
                (record { number = low; is = was ∙ (ap (λ a. slots a (v % 7)) block ∙ (ap (λ i. slots s i) place ∙ c.1)) }),
          )
      | inr nt ↦ elim (cases_eq (w / 7) s) [
        | inl e ↦ absurd (outside-live (counted kind' slots' n w) g k x (after-source s t n kind kind' slots slots' w h e) l.is)
        | inr ns ↦ (
          k,
          live-there (counted kind slots n) (7 * n) w (shifted t s w) g k x (sym (shifted-else t s w nt))
              (record { number = number; is = before-other s t n kind kind' slots slots' w h number nt ∙ (sym (after-other s t n kind kind' slots slots' w h number ns nt) ∙ l.is) }),
        )
      ]
    ]

commit-round : (s t n : ℕ) (kind kind' : ℕ → Kind) (slots slots' : ℕ → ℕ → Slot) (w g : ℕ) (k : Generation) (x : List ℕ) → Commits s t n kind kind' slots slots' → LiveAt (counted kind' slots' n) (7 * n) w g k x
    → shifted s t (shifted t s w) ≡ w
commit-round s t n kind kind' slots slots' w g k x h l = elim (cases_eq (w / 7) t) [
  | inl e ↦
      let v = 7 * s + w % 7 in
      let block : v / 7 ≡ s = omega arith in
      let back : 7 * t + v % 7 ≡ w = omega (arith, e) in
      ap (λ a. shifted s t a) (shifted-there t s w e) ∙ (shifted-there s t v block ∙ back)
  | inr nt ↦ elim (cases_eq (w / 7) s) [
    | inl e ↦ absurd (outside-live (counted kind' slots' n w) g k x (after-source s t n kind kind' slots slots' w h e) l.is)
    | inr ns ↦ ap (λ a. shifted s t a) (shifted-else t s w nt) ∙ shifted-else s t w ns
  ]
]

-- no slot is without a generation where none was
outside-whole : (s : Slot) → s ≡ Outside → s ≢ NoGeneration
outside-whole s o e = subst (λ a. IsWhole a) (sym o ∙ e) tt

commit-whole : (s t n : ℕ) (kind kind' : ℕ → Kind) (slots slots' : ℕ → ℕ → Slot) (w : ℕ) → Commits s t n kind kind' slots slots' → ((v : ℕ) → v < 7 * n → counted kind slots n v ≢ NoGeneration) → w < 7 * n
    → counted kind' slots' n w ≢ NoGeneration
commit-whole s t n kind kind' slots slots' w h whole low e = elim (cases_eq (w / 7) t) [
  | inl q ↦ copy-whole (slots s (w % 7)) (slots' t (w % 7)) (h.copies (w % 7) (omega arith)) (sym (after-target s t n kind kind' slots slots' w h q) ∙ e)
  | inr nt ↦ elim (cases_eq (w / 7) s) [
    | inl q ↦ outside-whole (counted kind' slots' n w) (after-source s t n kind kind' slots slots' w h q) e
    | inr ns ↦ whole w low (before-other s t n kind kind' slots slots' w h low nt ∙ (sym (after-other s t n kind kind' slots slots' w h low ns nt) ∙ e))
  ]
]

-- a commit moves the live slots of s to t, and changes nothing else of the slots that count
pub commit-moves : (s t n : ℕ) (kind kind' : ℕ → Kind) (slots slots' : ℕ → ℕ → Slot) → Commits s t n kind kind' slots slots' → ((v : ℕ) → v < 7 * n → counted kind slots n v ≢ NoGeneration)
    → MovesSlots (counted kind slots n) (counted kind' slots' n) (7 * n) (shifted s t) (shifted t s)
commit-moves s t n kind kind' slots slots' h whole = record {
  on = λ w g k x l. commit-on s t n kind kind' slots slots' w g k x h l;
  back = λ w g k x l. commit-back s t n kind kind' slots slots' w g k x h l;
  round = λ w g k x l. commit-round s t n kind kind' slots slots' w g k x h l;
  whole = λ w low. commit-whole s t n kind kind' slots slots' w h whole low;
}
