-- A slot by the bytes of its place: what reads as free, dead or live, and what the programs of one slot leave of it.
use Rattle.std.proofs.Common.{◌≡◌, ℕ, zero, suc, ◌+◌, ◌-◌, ◌*◌, ◌<◌, ◌≤◌, ◌⊎◌, Bool, true, false, cond, List, [], ◌∷◌, length, refl, sym, ap, ◌∙◌, subst, arith, inl, inr}
use Rattle.std.specs.Prelude.{drop, bit_and, Option, Some, None, ◌==◌}
use Rattle.std.proofs.lemmas.List.{ext_get_or, get_or-drop}
use Rattle.std.proofs.lemmas.Nat.{and_le_r}
use Rattle.std.proofs.lemmas.Bool.{cases_eq, cases_lt, ne_eqb}
use Rattle.byteorder.specs.Endian.{little_from}
use Rattle.chip_model.specs.Memory.{byte, and_at, IsMixed, TornAnd}
use Rattle.chip_model.proofs.MemoryLaws.{length-placed, placed-outside, placed-inside}
use Rattle.chip_model.proofs.BitLaws.{mixed_one}
use Rattle.chip_model.proofs.PartLaws.{get-part, part-whole}
use Rattle.nor_driver.specs.State.{Leaves, as_before, torn_in_it, changed_whole}
use Rattle.nor_layout.specs.declared.header.Header.{Header}
use Rattle.nor_layout.specs.declared.header.Header.TheVariants as headers
use Rattle.nor_layout.specs.declared.header.Generation.{Generation}
use Rattle.nor_layout.specs.declared.header.Tag.{Tag}
use Rattle.nor_layout.specs.Headers.{header_of, live_of, generation_of}
use Rattle.erase_journal.specs.Blocks.{blank}
use Rattle.erase_journal.proofs.BlockLaws.{byte-blank}
use Rattle.sector_slots.specs.Slots.{Slot, Free, Live, NoGeneration, Dead, Outside, slot_with, slot_in, content_bytes, descriptor_in, is_group, data_block, raw_slot, blank_sector}
use Rattle.nor_layout.specs.Kinds.{kind_of, group_kind}
use Rattle.nor_layout.specs.declared.kind.Kind.TheVariants as kinds
use Rattle.journal_slots.specs.Programs.{OnlyBytes, InPlace, WriteLeaves, untouched, spoiled, filled}
use Rattle.sector_slots.specs.Steps.{HoldsTag}
use Rattle.journal_slots.proofs.Marks.{header-bytes, bits-begin, and-all, IsGroupKind, group-header, dead-kind}
use Rattle.journal_slots.proofs.Bytes.{leaves-only, and-only, state-leaves, bits-commit, bits-retire, descriptor-place, content-place, place-after, place-same, place-group}
use Rattle.sector_slots.proofs.GroupLaws.{descriptor-slot, free-no_group}
use Rattle.sector_slots.proofs.HeadLaws.{first-live, header_number, live-state, slot-dead}

-- slots as numbers, and what a live one holds
abbrev pub number_of : Slot → ℕ
number_of Free = 0
number_of (Live tag x) = 1
number_of NoGeneration = 2
number_of Dead = 3
number_of Outside = 4

abbrev content_of : Slot → List ℕ
content_of Free = []
content_of (Live tag x) = x
content_of NoGeneration = []
content_of Dead = []
content_of Outside = []

pub dead-not-free : (s : Slot) → s ≡ Dead → s ≡ Free → ⊥
dead-not-free s e f = let q : 0 ≡ 3 = ap number_of (sym f ∙ e) in omega (arith, q)

pub live-not-free : (s : Slot) (tag : Tag) (x : List ℕ) → s ≡ Live tag x → s ≡ Free → ⊥
live-not-free s tag x e f = let q : 0 ≡ 1 = ap number_of (sym f ∙ e) in omega (arith, q)

pub live-not-dead : (s : Slot) (tag : Tag) (x : List ℕ) → s ≡ Live tag x → s ≡ Dead → ⊥
live-not-dead s tag x e f = let q : 3 ≡ 1 = ap number_of (sym f ∙ e) in omega (arith, q)

-- what a descriptor makes of bytes
pub with-free : (h : Header) (x : List ℕ) → slot_with h x ≡ Free → h ≡ headers.Free
with-free headers.Free x e = refl
with-free (headers.Live tag) x e = let q : 1 ≡ 0 = ap number_of e in absurd (omega (arith, q))
with-free headers.NoGeneration x e = let q : 2 ≡ 0 = ap number_of e in absurd (omega (arith, q))
with-free headers.Dead x e = let q : 3 ≡ 0 = ap number_of e in absurd (omega (arith, q))

pub with-dead : (h : Header) (x : List ℕ) → slot_with h x ≡ Dead → h ≡ headers.Dead
with-dead headers.Free x e = let q : 0 ≡ 3 = ap number_of e in absurd (omega (arith, q))
with-dead (headers.Live tag) x e = let q : 1 ≡ 3 = ap number_of e in absurd (omega (arith, q))
with-dead headers.NoGeneration x e = let q : 2 ≡ 3 = ap number_of e in absurd (omega (arith, q))
with-dead headers.Dead x e = refl

pub with-live : (h : Header) (tag : Tag) (x y : List ℕ) → slot_with h x ≡ Live tag y → y ≡ x
with-live headers.Free tag x y e = let q : 0 ≡ 1 = ap number_of e in absurd (omega (arith, q))
with-live (headers.Live t) tag x y e = sym (ap content_of e)
with-live headers.NoGeneration tag x y e = let q : 2 ≡ 1 = ap number_of e in absurd (omega (arith, q))
with-live headers.Dead tag x y e = let q : 3 ≡ 1 = ap number_of e in absurd (omega (arith, q))

with-number : (h : Header) (x : List ℕ) → number_of (slot_with h x) ≡ header_number h
with-number headers.Free x = refl
with-number (headers.Live tag) x = refl
with-number headers.NoGeneration x = refl
with-number headers.Dead x = refl

not-free : (t : Bool) (o : Option Generation) (n : ℕ) → header_number (cond t (live_of o n) headers.Dead) ≡ 0 → ⊥
not-free true (Some g) n e = omega (arith, e)
not-free true None n e = omega (arith, e)
not-free false o n e = omega (arith, e)

-- a byte of the descriptor of place i
at-descriptor : (i : ℕ) (b : List ℕ) (j : ℕ) → byte (drop (16 + 4 * i) b) j ≡ byte b (16 + 4 * i + j)
at-descriptor i b j = get_or-drop (16 + 4 * i) b j 0

-- four bytes that are free
free-four : (h : List ℕ) → header_of h ≡ headers.Free → (byte h 0 ≡ 255) × (byte h 1 ≡ 255) × (byte h 2 ≡ 255) × (byte h 3 ≡ 255)
free-four h e =
    let no = λ (f : header_of h ≡ cond (byte h 0 == 252) (live_of (generation_of (byte h 1)) (little_from 2 2 h)) headers.Dead).
    not-free (byte h 0 == 252) (generation_of (byte h 1)) (little_from 2 2 h) (ap header_number (sym f ∙ e)) in
    elim (cases_eq (byte h 0) 255) as (λ _. (byte h 0 ≡ 255) × (byte h 1 ≡ 255) × (byte h 2 ≡ 255) × (byte h 3 ≡ 255)) [
      | inr n ↦ absurd (no (rw (ne_eqb (byte h 0) 255 n) refl))
      | inl e0 ↦ elim (cases_eq (byte h 1) 255) as (λ _. (byte h 0 ≡ 255) × (byte h 1 ≡ 255) × (byte h 2 ≡ 255) × (byte h 3 ≡ 255)) [
        | inr n ↦ absurd (no (rw (e0, ne_eqb (byte h 1) 255 n) refl))
        | inl e1 ↦ elim (cases_eq (byte h 2) 255) as (λ _. (byte h 0 ≡ 255) × (byte h 1 ≡ 255) × (byte h 2 ≡ 255) × (byte h 3 ≡ 255)) [
          | inr n ↦ absurd (no (rw (e0, e1, ne_eqb (byte h 2) 255 n) refl))
          | inl e2 ↦ elim (cases_eq (byte h 3) 255) as (λ _. (byte h 0 ≡ 255) × (byte h 1 ≡ 255) × (byte h 2 ≡ 255) × (byte h 3 ≡ 255)) [
            | inr n ↦ absurd (no (rw (e0, e1, e2, ne_eqb (byte h 3) 255 n) refl))
            | inl e3 ↦ (e0, e1, e2, e3)
          ]
        ]
      ]
    ]

-- a state byte that is FFh where the others aren't
spoiled-header : (h : List ℕ) → byte h 0 ≡ 255 → (byte h 1 ≡ 255 → byte h 2 ≡ 255 → byte h 3 ≡ 255 → ⊥) → header_of h ≡ headers.Dead
spoiled-header h e other = elim (cases_eq (byte h 1) 255) as (λ _. header_of h ≡ headers.Dead) [
  | inr n1 ↦ rw (e, ne_eqb (byte h 1) 255 n1) refl
  | inl e1 ↦ elim (cases_eq (byte h 2) 255) as (λ _. header_of h ≡ headers.Dead) [
    | inr n2 ↦ rw (e, e1, ne_eqb (byte h 2) 255 n2) refl
    | inl e2 ↦ elim (cases_eq (byte h 3) 255) as (λ _. header_of h ≡ headers.Dead) [
      | inr n3 ↦ rw (e, e1, e2, ne_eqb (byte h 3) 255 n3) refl
      | inl e3 ↦ absurd (other e1 e2 e3)
    ]
  ]
]

-- a slot by its descriptor
pub slot-header : (b : List ℕ) (i : ℕ) (h : Header) → descriptor_in b i ≡ h → slot_in b i ≡ slot_with h (content_bytes b i)
unfolding slot_in
slot-header b i h e = ap (λ x. slot_with x (content_bytes b i)) e

pub slot-free : (b : List ℕ) (i : ℕ) → slot_in b i ≡ Free → descriptor_in b i ≡ headers.Free
unfolding slot_in
slot-free b i e = with-free (descriptor_in b i) (content_bytes b i) e

pub slot-says-dead : (b : List ℕ) (i : ℕ) → slot_in b i ≡ Dead → descriptor_in b i ≡ headers.Dead
unfolding slot_in
slot-says-dead b i e = with-dead (descriptor_in b i) (content_bytes b i) e

pub slot-content : (b : List ℕ) (i : ℕ) (tag : Tag) (x : List ℕ) → slot_in b i ≡ Live tag x → x ≡ content_bytes b i
unfolding slot_in
slot-content b i tag x e = with-live (descriptor_in b i) tag (content_bytes b i) x e

pub slot-number : (b : List ℕ) (i : ℕ) → number_of (slot_in b i) ≡ header_number (descriptor_in b i)
unfolding slot_in
slot-number b i = with-number (descriptor_in b i) (content_bytes b i)

pub slot-begun : (b : List ℕ) (i : ℕ) → is_group (kind_of b) ≡ false → byte b (16 + 4 * i) ≡ 254 → slot_in b i ≡ Dead
slot-begun b i g e = slot-dead b i g (λ q. omega (arith, e, q)) (λ q. omega (arith, e, q))

-- a slot by the four bytes of its descriptor, and with its sector
pub slot-tagged : (t : List ℕ) (i : ℕ) (h : List ℕ) (tag : Tag) → is_group (kind_of t) ≡ false → ((j : ℕ) → j < 4 → byte t (16 + 4 * i + j) ≡ byte h j) → header_of h ≡ headers.Live tag → slot_in t i ≡ Live tag (content_bytes t i)
slot-tagged t i h tag g head live =
    let at = at-descriptor i t in
    let e : descriptor_in t i ≡ headers.Live tag =
    descriptor-slot t i g ∙ (header-bytes (drop (16 + 4 * i) t) h (at 0 ∙ head 0 (omega arith)) (at 1 ∙ head 1 (omega arith)) (at 2 ∙ head 2 (omega arith)) (at 3 ∙ head 3 (omega arith)) ∙ live) in
    slot-header t i (headers.Live tag) e

pub slot-live : (t : List ℕ) (i : ℕ) (h : List ℕ) (tag : Tag) (x : List ℕ) → is_group (kind_of t) ≡ false → i < 7 → length t ≡ 4096 → ((j : ℕ) → j < 4 → byte t (16 + 4 * i + j) ≡ byte h j) → header_of h ≡ headers.Live tag
    → length x ≡ 512 → ((j : ℕ) → j < 512 → byte t (512 * (i + 1) + j) ≡ byte x j) → slot_in t i ≡ Live tag x
slot-live t i h tag x g li n head live size rest =
    let long : length (content_bytes t i) ≡ 512 = part-whole 512 t (i + 1) (omega (arith, n, li)) in
    let c : content_bytes t i ≡ x = ext_get_or 0 (content_bytes t i) x (long ∙ sym size) (λ j q.
    let low : j < 512 = omega (arith, q, long) in
    get-part 512 t (i + 1) j low ∙ rest j low) in
    slot-tagged t i h tag g head live ∙ ap (λ q. Live tag q) c

-- one of four bytes
pick : (h : List ℕ) → (byte h 0 ≡ 255) × (byte h 1 ≡ 255) × (byte h 2 ≡ 255) × (byte h 3 ≡ 255) → (j : ℕ) → j < 4 → byte h j ≡ 255
pick h all zero low = all.0
pick h all (suc zero) low = all.1
pick h all (suc (suc zero)) low = all.2
pick h all (suc (suc (suc zero))) low = all.3
pick h all (suc (suc (suc (suc j)))) low = absurd (omega (arith, low))

four-bytes : (d : ℕ) (t h : List ℕ) → byte t (d + 0) ≡ 252 → byte t (d + 1) ≡ byte h 1 → byte t (d + 2) ≡ byte h 2 → byte t (d + 3) ≡ byte h 3
    → (j : ℕ) → j < 4 → byte t (d + j) ≡ byte (252 ∷ byte h 1 ∷ byte h 2 ∷ byte h 3 ∷ []) j
four-bytes d t h e0 e1 e2 e3 zero low = e0
four-bytes d t h e0 e1 e2 e3 (suc zero) low = e1
four-bytes d t h e0 e1 e2 e3 (suc (suc zero)) low = e2
four-bytes d t h e0 e1 e2 e3 (suc (suc (suc zero))) low = e3
four-bytes d t h e0 e1 e2 e3 (suc (suc (suc (suc j)))) low = absurd (omega (arith, low))

-- blocks that differ at most in four bytes, and there are the same
same-four : (d : ℕ) (b t : List ℕ) → length b ≡ 4096 → (n : ℕ) → n ≡ 4 → OnlyBytes d n b t → ((j : ℕ) → j < 4 → byte t (d + j) ≡ byte b (d + j)) → t ≡ b
same-four d b t long n four only same = ext_get_or 0 t b only.same_length (λ k q.
    let low : k < 4096 = (let w = only.same_length in omega (arith, q, w, long)) in
    elim (cases_lt k d) as (λ _. byte t k ≡ byte b k) [
      | inl l ↦ only.each k low (inl l)
      | inr r ↦ elim (cases_lt k (d + 4)) as (λ _. byte t k ≡ byte b k) [
        | inl l ↦ (let z : d + (k - d) ≡ k = omega (arith, r) in subst (λ a. byte t a ≡ byte b a) z (same (k - d) (omega (arith, r, l))))
        | inr f ↦ only.each k low (inr (omega (arith, f, four)))
      ]
    ])

-- a free place, and one where nothing was programmed
pub fresh-descriptor : (c i : ℕ) (m : List ℕ) → raw_slot m c i ≡ Free → (j : ℕ) → j < 4 → byte (data_block m c) (16 + 4 * i + j) ≡ 255
fresh-descriptor c i m free j low =
    let four = free-four (drop (16 + 4 * i) (data_block m c)) (sym (descriptor-slot (data_block m c) i (free-no_group (data_block m c) i free)) ∙ slot-free (data_block m c) i free) in
    sym (at-descriptor i (data_block m c) j) ∙ pick (drop (16 + 4 * i) (data_block m c)) four j low

pub blank-content : (b : List ℕ) (i : ℕ) → content_bytes b i ≡ blank_sector → (j : ℕ) → j < 512 → byte b (512 * (i + 1) + j) ≡ 255
blank-content b i e j low = sym (get-part 512 b (i + 1) j low) ∙ (ap (λ q. byte q j) e ∙ (get-part 512 blank 1 j low ∙ byte-blank (512 * 1 + j) (omega (arith, low))))

-- A descriptor that is begun, in a free place, whole or torn.
begun-torn : (i : ℕ) (b h t : List ℕ) → i < 7 → length b ≡ 4096 → length h ≡ 4 → byte h 0 ≡ 254 → ((j : ℕ) → j < 4 → byte b (16 + 4 * i + j) ≡ 255) → TornAnd b (16 + 4 * i) h t → is_group (kind_of t) ≡ false → (t ≡ b) ⊎ (slot_in t i ≡ Dead)
begun-torn i b h t li n four begun free torn g =
    let d = 16 + 4 * i in
    let w = and_at b d h in
    let only = leaves-only b h t d n (torn_in_it torn) in
    let z : d + 0 ≡ d = omega arith in
    let bd : byte b d ≡ 255 = ap (λ k. byte b k) (sym z) ∙ free 0 (omega arith) in
    let first : byte w d ≡ 254 = subst (λ q. byte w q ≡ bit_and (byte b q) (byte h 0)) z (placed-inside bit_and b d h 0 (omega (arith, four)) (omega (arith, n, li))) ∙ (ap (λ x. bit_and x (byte h 0)) bd ∙ ap (λ x. bit_and 255 x) begun) in
    let state : (byte t d ≡ 255) ⊎ (byte t d ≡ 254) = mixed_one 0 255 254 (byte t d) bits-begin (subst (λ x. IsMixed x 254 (byte t d)) bd (subst (λ x. IsMixed (byte b d) x (byte t d)) first (torn.each d (omega (arith, n, li))))) in
    let at = at-descriptor i t in
    elim state as (λ _. (t ≡ b) ⊎ (slot_in t i ≡ Dead)) [
      | inr e ↦ inr (slot-begun t i g e)
      | inl e ↦
          let e0 : byte (drop d t) 0 ≡ 255 = at 0 ∙ (ap (λ k. byte t k) z ∙ e) in
          let spoil = λ (q : byte (drop d t) 1 ≡ 255 → byte (drop d t) 2 ≡ 255 → byte (drop d t) 3 ≡ 255 → ⊥). slot-header t i headers.Dead (descriptor-slot t i g ∙ spoiled-header (drop d t) e0 q) in
          elim (cases_eq (byte (drop d t) 1) 255) as (λ _. (t ≡ b) ⊎ (slot_in t i ≡ Dead)) [
            | inr n1 ↦ inr (spoil (λ x y z. n1 x))
            | inl e1 ↦ elim (cases_eq (byte (drop d t) 2) 255) as (λ _. (t ≡ b) ⊎ (slot_in t i ≡ Dead)) [
              | inr n2 ↦ inr (spoil (λ x y z. n2 y))
              | inl e2 ↦ elim (cases_eq (byte (drop d t) 3) 255) as (λ _. (t ≡ b) ⊎ (slot_in t i ≡ Dead)) [
                | inr n3 ↦ inr (spoil (λ x y z. n3 z))
                | inl e3 ↦ inl (same-four d b t n (length h) four only (λ j low. sym (at j) ∙ (pick (drop d t) (e0, e1, e2, e3) j low ∙ sym (free j low))))
              ]
            ]
          ]
    ]

-- its state byte
pub begun-state : (i : ℕ) (b h t : List ℕ) → i < 7 → length b ≡ 4096 → length h ≡ 4 → byte h 0 ≡ 254 → ((j : ℕ) → j < 4 → byte b (16 + 4 * i + j) ≡ 255) → t ≡ and_at b (16 + 4 * i) h → byte t (16 + 4 * i) ≡ 254
begun-state i b h t li n four begun free e =
    let d = 16 + 4 * i in
    let z : d + 0 ≡ d = omega arith in
    ap (λ q. byte q d) e ∙ subst (λ q. byte (and_at b d h) q ≡ 254) z (placed-inside bit_and b d h 0 (omega (arith, four)) (omega (arith, n, li)) ∙ (ap (λ x. bit_and x (byte h 0)) (free 0 (omega arith)) ∙ ap (λ x. bit_and 255 x) begun))

pub begun-cut : (i : ℕ) (b h t : List ℕ) → i < 7 → length b ≡ 4096 → length h ≡ 4 → byte h 0 ≡ 254 → ((j : ℕ) → j < 4 → byte b (16 + 4 * i + j) ≡ 255)
    → Leaves b (TornAnd b (16 + 4 * i) h) (and_at b (16 + 4 * i) h) t → is_group (kind_of b) ≡ false → (t ≡ b) ⊎ (slot_in t i ≡ Dead)
begun-cut i b h t li n four begun free (as_before e) g = inl e
begun-cut i b h t li n four begun free (torn_in_it torn) g =
    begun-torn i b h t li n four begun free torn (place-group i b t (descriptor-place i (length h) b t (omega (arith, four)) (leaves-only b h t (16 + 4 * i) n (torn_in_it torn))) g)
begun-cut i b h t li n four begun free (changed_whole e) g =
    inr (slot-begun t i (place-group i b t (descriptor-place i (length h) b t (omega (arith, four)) (and-only b h t (16 + 4 * i) e)) g) (begun-state i b h t li n four begun free e))

-- What the programs of a write leave of the place, and of all others.
pub filled-within : (i : ℕ) (b h x t : List ℕ) → length h ≡ 4 → length x ≡ 512 → t ≡ and_at (and_at b (16 + 4 * i) h) (512 * (i + 1)) x → InPlace i b t
filled-within i b h x t four size e =
    let d = and_at b (16 + 4 * i) h in
    place-after i b d t (descriptor-place i (length h) b d (omega (arith, four)) (and-only b h d (16 + 4 * i) refl))
    (content-place i d t (subst (λ n. OnlyBytes (512 * (i + 1)) n d t) size (and-only d x t (512 * (i + 1)) e)))

pub copied-within : (i : ℕ) (b x t : List ℕ) → length x ≡ 512 → t ≡ and_at b (512 * (i + 1)) x → InPlace i b t
copied-within i b x t size e = content-place i b t (subst (λ n. OnlyBytes (512 * (i + 1)) n b t) size (and-only b x t (512 * (i + 1)) e))

-- A slot whose descriptor was begun and whose sector is written, whole or torn.
pub content-cut : (i : ℕ) (b t : List ℕ) → i < 7 → byte b (16 + 4 * i) ≡ 254 → OnlyBytes (512 * (i + 1)) 512 b t → is_group (kind_of b) ≡ false → slot_in t i ≡ Dead
content-cut i b t li e only g = slot-begun t i (place-group i b t (content-place i b t only) g) (only.each (16 + 4 * i) (omega (arith, li)) (inl (omega (arith, li))) ∙ e)

-- its commit: the descriptor, and where the place was erased the sector
committed-head : (i : ℕ) (b h x t : List ℕ) → i < 7 → length b ≡ 4096 → length h ≡ 4 → byte h 0 ≡ 254 → ((j : ℕ) → byte h j < 256) → ((j : ℕ) → j < 4 → byte b (16 + 4 * i + j) ≡ 255)
    → t ≡ and_at (and_at (and_at b (16 + 4 * i) h) (512 * (i + 1)) x) (16 + 4 * i) (252 ∷ []) → (j : ℕ) → j < 4 → byte t (16 + 4 * i + j) ≡ byte (252 ∷ byte h 1 ∷ byte h 2 ∷ byte h 3 ∷ []) j
committed-head i b h x t li n four begun bytes free e =
    let d = 16 + 4 * i in
    let b1 = and_at b d h in
    let b2 = and_at b1 (512 * (i + 1)) x in
    let n2 : length b2 ≡ 4096 = length-placed bit_and b1 (512 * (i + 1)) x ∙ (length-placed bit_and b d h ∙ n) in
    let head = λ (j : ℕ) (low : j < 4). placed-outside bit_and b1 (512 * (i + 1)) x (d + j) (inl (omega (arith, low, li))) ∙ (placed-inside bit_and b d h j (omega (arith, four, low)) (omega (arith, n, li, low))
    ∙ (ap (λ q. bit_and q (byte h j)) (free j low) ∙ and-all (byte h j) (bytes j))) in
    let t0 : byte t (d + 0) ≡ 252 = ap (λ q. byte q (d + 0)) e ∙ (placed-inside bit_and b2 d (252 ∷ []) 0 (omega arith) (omega (arith, n2, li)) ∙ ap (λ q. bit_and q 252) (head 0 (omega arith) ∙ begun)) in
    let rest = λ (j : ℕ) (from : 1 ≤ j) (low : j < 4). ap (λ q. byte q (d + j)) e ∙ (placed-outside bit_and b2 d (252 ∷ []) (d + j) (inr (omega (arith, from))) ∙ head j low) in
    four-bytes d t h t0 (rest 1 (omega arith) (omega arith)) (rest 2 (omega arith) (omega arith)) (rest 3 (omega arith) (omega arith))

committed-within : (i : ℕ) (b h x t : List ℕ) → length h ≡ 4 → length x ≡ 512 → t ≡ and_at (and_at (and_at b (16 + 4 * i) h) (512 * (i + 1)) x) (16 + 4 * i) (252 ∷ []) → InPlace i b t
committed-within i b h x t four size e =
    let d = and_at (and_at b (16 + 4 * i) h) (512 * (i + 1)) x in
    place-after i b d t (filled-within i b h x d four size refl) (descriptor-place i 1 d t (omega arith) (and-only d (252 ∷ []) t (16 + 4 * i) e))

pub committed-tag : (i : ℕ) (b h x t : List ℕ) (tag : Tag) → i < 7 → length b ≡ 4096 → length h ≡ 4 → byte h 0 ≡ 254 → ((j : ℕ) → byte h j < 256) → header_of (252 ∷ byte h 1 ∷ byte h 2 ∷ byte h 3 ∷ []) ≡ headers.Live tag
    → ((j : ℕ) → j < 4 → byte b (16 + 4 * i + j) ≡ 255) → t ≡ and_at (and_at (and_at b (16 + 4 * i) h) (512 * (i + 1)) x) (16 + 4 * i) (252 ∷ []) → length x ≡ 512 → is_group (kind_of b) ≡ false → HoldsTag tag (slot_in t i)
committed-tag i b h x t tag li n four begun bytes back free e size g =
    (content_bytes t i, slot-tagged t i (252 ∷ byte h 1 ∷ byte h 2 ∷ byte h 3 ∷ []) tag (place-group i b t (committed-within i b h x t four size e) g) (committed-head i b h x t li n four begun bytes free e) back)

pub committed : (i : ℕ) (b h x t : List ℕ) (tag : Tag) → i < 7 → length b ≡ 4096 → length h ≡ 4 → byte h 0 ≡ 254 → ((j : ℕ) → byte h j < 256) → header_of (252 ∷ byte h 1 ∷ byte h 2 ∷ byte h 3 ∷ []) ≡ headers.Live tag
    → length x ≡ 512 → ((j : ℕ) → byte x j < 256) → ((j : ℕ) → j < 4 → byte b (16 + 4 * i + j) ≡ 255) → content_bytes b i ≡ blank_sector
    → t ≡ and_at (and_at (and_at b (16 + 4 * i) h) (512 * (i + 1)) x) (16 + 4 * i) (252 ∷ []) → is_group (kind_of b) ≡ false → slot_in t i ≡ Live tag x
committed i b h x t tag li n four begun bytes back size small free blank e g =
    let d = 16 + 4 * i in
    let f = 512 * (i + 1) in
    let b1 = and_at b d h in
    let b2 = and_at b1 f x in
    let n1 : length b1 ≡ 4096 = length-placed bit_and b d h ∙ n in
    let n2 : length b2 ≡ 4096 = length-placed bit_and b1 f x ∙ n1 in
    slot-live t i (252 ∷ byte h 1 ∷ byte h 2 ∷ byte h 3 ∷ []) tag x (place-group i b t (committed-within i b h x t four size e) g) li (ap (λ q. length q) e ∙ (length-placed bit_and b2 d (252 ∷ []) ∙ n2)) (committed-head i b h x t li n four begun bytes free e) back size
    (λ j low. ap (λ q. byte q (f + j)) e ∙ (placed-outside bit_and b2 d (252 ∷ []) (f + j) (inr (omega (arith, li)))
    ∙ (placed-inside bit_and b1 f x j (omega (arith, size, low)) (omega (arith, n1, li, low))
    ∙ (ap (λ q. bit_and q (byte x j)) (placed-outside bit_and b d h (f + j) (inr (omega (arith, four, li))) ∙ blank-content b i blank j low) ∙ and-all (byte x j) (small j)))))

-- a copy: the sector, and then the whole descriptor
copied-head : (i : ℕ) (b h x t : List ℕ) → i < 7 → length b ≡ 4096 → length h ≡ 4 → ((j : ℕ) → byte h j < 256) → ((j : ℕ) → j < 4 → byte b (16 + 4 * i + j) ≡ 255)
    → t ≡ and_at (and_at b (512 * (i + 1)) x) (16 + 4 * i) h → (j : ℕ) → j < 4 → byte t (16 + 4 * i + j) ≡ byte h j
copied-head i b h x t li n four bytes free e j low =
    let d = 16 + 4 * i in
    let b1 = and_at b (512 * (i + 1)) x in
    let n1 : length b1 ≡ 4096 = length-placed bit_and b (512 * (i + 1)) x ∙ n in
    ap (λ q. byte q (d + j)) e ∙ (placed-inside bit_and b1 d h j (omega (arith, four, low)) (omega (arith, n1, li, low))
    ∙ (ap (λ q. bit_and q (byte h j)) (placed-outside bit_and b (512 * (i + 1)) x (d + j) (inl (omega (arith, low, li))) ∙ free j low) ∙ and-all (byte h j) (bytes j)))

copied-all_within : (i : ℕ) (b h x t : List ℕ) → length h ≡ 4 → length x ≡ 512 → t ≡ and_at (and_at b (512 * (i + 1)) x) (16 + 4 * i) h → InPlace i b t
copied-all_within i b h x t four size e =
    let d = and_at b (512 * (i + 1)) x in
    place-after i b d t (copied-within i b x d size refl) (descriptor-place i (length h) d t (omega (arith, four)) (and-only d h t (16 + 4 * i) e))

pub copied-tag : (i : ℕ) (b h x t : List ℕ) (tag : Tag) → i < 7 → length b ≡ 4096 → length h ≡ 4 → ((j : ℕ) → byte h j < 256) → header_of h ≡ headers.Live tag → ((j : ℕ) → j < 4 → byte b (16 + 4 * i + j) ≡ 255)
    → t ≡ and_at (and_at b (512 * (i + 1)) x) (16 + 4 * i) h → length x ≡ 512 → is_group (kind_of b) ≡ false → HoldsTag tag (slot_in t i)
copied-tag i b h x t tag li n four bytes live free e size g = (content_bytes t i, slot-tagged t i h tag (place-group i b t (copied-all_within i b h x t four size e) g) (copied-head i b h x t li n four bytes free e) live)

pub copied : (i : ℕ) (b h x t : List ℕ) (tag : Tag) → i < 7 → length b ≡ 4096 → length h ≡ 4 → ((j : ℕ) → byte h j < 256) → header_of h ≡ headers.Live tag
    → length x ≡ 512 → ((j : ℕ) → byte x j < 256) → ((j : ℕ) → j < 4 → byte b (16 + 4 * i + j) ≡ 255) → content_bytes b i ≡ blank_sector
    → t ≡ and_at (and_at b (512 * (i + 1)) x) (16 + 4 * i) h → is_group (kind_of b) ≡ false → slot_in t i ≡ Live tag x
copied i b h x t tag li n four bytes live size small free blank e g =
    let d = 16 + 4 * i in
    let f = 512 * (i + 1) in
    let b1 = and_at b f x in
    let n1 : length b1 ≡ 4096 = length-placed bit_and b f x ∙ n in
    slot-live t i h tag x (place-group i b t (copied-all_within i b h x t four size e) g) li (ap (λ q. length q) e ∙ (length-placed bit_and b1 d h ∙ n1)) (copied-head i b h x t li n four bytes free e) live size
    (λ j low. ap (λ q. byte q (f + j)) e ∙ (placed-outside bit_and b1 d h (f + j) (inr (omega (arith, four, li)))
    ∙ (placed-inside bit_and b f x j (omega (arith, size, low)) (omega (arith, n, li, low)) ∙ (ap (λ q. bit_and q (byte x j)) (blank-content b i blank j low) ∙ and-all (byte x j) (small j)))))

-- A retirement makes any slot dead, in a block of slots.
pub retired : (i : ℕ) (b t : List ℕ) → i < 7 → length b ≡ 4096 → t ≡ and_at b (16 + 4 * i) (248 ∷ []) → is_group (kind_of b) ≡ false → slot_in t i ≡ Dead
retired i b t li n e g =
    let d = 16 + 4 * i in
    let z : d + 0 ≡ d = omega arith in
    let first : byte t d ≡ bit_and (byte b d) 248 = ap (λ q. byte q d) e ∙ subst (λ q. byte (and_at b d (248 ∷ [])) q ≡ bit_and (byte b q) 248) z (placed-inside bit_and b d (248 ∷ []) 0 (omega arith) (omega (arith, n, li))) in
    let most = and_le_r (byte b d) 248 in
    slot-dead t i (place-group i b t (descriptor-place i 1 b t (omega arith) (and-only b (248 ∷ []) t d e)) g) (λ q. omega (arith, first, most, q)) (λ q. omega (arith, first, most, q))

pub retire-cut : (i : ℕ) (b t : List ℕ) (tag : Tag) (x : List ℕ) → i < 7 → length b ≡ 4096 → slot_in b i ≡ Live tag x → Leaves b (TornAnd b (16 + 4 * i) (248 ∷ [])) (and_at b (16 + 4 * i) (248 ∷ [])) t → is_group (kind_of b) ≡ false → (t ≡ b) ⊎ (slot_in t i ≡ Dead)
retire-cut i b t tag x li n live l g = elim (state-leaves (16 + 4 * i) 2 252 248 b t bits-retire (omega (arith, li)) n (live-state b i tag x g live) refl l) as (λ _. (t ≡ b) ⊎ (slot_in t i ≡ Dead)) [
  | inl e ↦ inl e
  | inr e ↦ inr (retired i b t li n e g)
]

-- the state byte once the sector is written
pub filled-state : (i : ℕ) (b h x t : List ℕ) → i < 7 → length b ≡ 4096 → length h ≡ 4 → byte h 0 ≡ 254 → ((j : ℕ) → j < 4 → byte b (16 + 4 * i + j) ≡ 255)
    → t ≡ and_at (and_at b (16 + 4 * i) h) (512 * (i + 1)) x → byte t (16 + 4 * i) ≡ 254
filled-state i b h x t li n four begun free e =
    let d = and_at b (16 + 4 * i) h in
    ap (λ q. byte q (16 + 4 * i)) e ∙ (placed-outside bit_and d (512 * (i + 1)) x (16 + 4 * i) (inl (omega (arith, li))) ∙ begun-state i b h d li n four begun free refl)

pub commit-leaves : (i : ℕ) (b h x d t : List ℕ) (tag : Tag) → i < 7 → length b ≡ 4096 → length h ≡ 4 → byte h 0 ≡ 254 → ((j : ℕ) → byte h j < 256) → header_of (252 ∷ byte h 1 ∷ byte h 2 ∷ byte h 3 ∷ []) ≡ headers.Live tag
    → length x ≡ 512 → ((j : ℕ) → byte x j < 256) → ((j : ℕ) → j < 4 → byte b (16 + 4 * i + j) ≡ 255)
    → d ≡ and_at (and_at b (16 + 4 * i) h) (512 * (i + 1)) x → Leaves d (TornAnd d (16 + 4 * i) (252 ∷ [])) (and_at d (16 + 4 * i) (252 ∷ [])) t → is_group (kind_of b) ≡ false → WriteLeaves i tag x b t
commit-leaves i b h x d t tag li n four begun bytes back size small free e l g =
    let state = filled-state i b h x d li n four begun free e in
    let long : length d ≡ 4096 = (filled-within i b h x d four size e).same_length ∙ n in
    elim (state-leaves (16 + 4 * i) 1 254 252 d t bits-commit (omega (arith, li)) long state refl l) as (λ _. WriteLeaves i tag x b t) [
      | inl s ↦ spoiled (slot-begun t i (place-group i b t (place-after i b d t (filled-within i b h x d four size e) (place-same i d t s)) g) (ap (λ q. byte q (16 + 4 * i)) s ∙ state))
      | inr s ↦
          let whole = s ∙ ap (λ q. and_at q (16 + 4 * i) (252 ∷ [])) e in
          filled (committed-tag i b h x t tag li n four begun bytes back free whole size g) (λ blank. committed i b h x t tag li n four begun bytes back size small free blank whole g)
    ]

pub fill-leaves : (i : ℕ) (tag : Tag) (x b t : List ℕ) → (t ≡ b) ⊎ (slot_in t i ≡ Dead) → WriteLeaves i tag x b t
fill-leaves i tag x b t (inl e) = untouched e
fill-leaves i tag x b t (inr e) = spoiled e

-- a block of a group: its state byte, and its retirement
live-number : (h : Header) → IsGroupKind (group_kind h) → header_number h ≡ 1
live-number headers.Free p = absurd p
live-number (headers.Live tag) p = refl
live-number headers.NoGeneration p = absurd p
live-number headers.Dead p = absurd p

group-state : (b : List ℕ) (tag : Tag) → kind_of b ≡ kinds.Group tag → byte b 0 ≡ 252
group-state b tag e = first-live b (live-number (header_of b) (group-header b tag e))

pub retire-group : (b t : List ℕ) (tag : Tag) → length b ≡ 4096 → kind_of b ≡ kinds.Group tag → t ≡ and_at b 0 (248 ∷ []) → kind_of t ≡ kinds.DeadGroup
retire-group b t tag n k e =
    let first : byte t 0 ≡ 248 = ap (λ x. byte x 0) e ∙ (placed-inside bit_and b 0 (248 ∷ []) 0 (omega arith) (omega (arith, n)) ∙ ap (λ x. bit_and x 248) (group-state b tag k)) in
    dead-kind t (λ q. omega (arith, first, q)) (λ q. omega (arith, first, q))

pub retire-group_cut : (b t : List ℕ) (tag : Tag) → length b ≡ 4096 → kind_of b ≡ kinds.Group tag → Leaves b (TornAnd b 0 (248 ∷ [])) (and_at b 0 (248 ∷ [])) t → (t ≡ b) ⊎ (kind_of t ≡ kinds.DeadGroup)
retire-group_cut b t tag n k l = elim (state-leaves 0 2 252 248 b t bits-retire (omega arith) n (group-state b tag k) refl l) as (λ _. (t ≡ b) ⊎ (kind_of t ≡ kinds.DeadGroup)) [
  | inl e ↦ inl e
  | inr e ↦ inr (retire-group b t tag n k e)
]
