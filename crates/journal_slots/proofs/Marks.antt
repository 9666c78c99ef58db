-- What a program of the bytes 4 to 7 of a block leaves of it, whole or torn.
use Rattle.std.proofs.Common.{◌≡◌, ◌≢◌, ℕ, zero, suc, ◌+◌, ◌-◌, ◌*◌, ◌%◌, ◌<◌, ◌≤◌, ◌⊎◌, Bool, true, false, ◌&&◌, cond, List, [], ◌∷◌, length, refl, sym, ap, ◌∙◌, subst, arith, inl, inr}
use Rattle.std.specs.Prelude.{drop, slice_range, bit_and, ◌==◌, nat_lt}
use Rattle.std.specs.Int.{bit_at}
use Rattle.std.proofs.lemmas.List.{ext_get_or, get_or-take, get_or-drop}
use Rattle.std.proofs.lemmas.Nat.{and_mask, and_comm}
use Rattle.std.proofs.lemmas.Nat.Bits.{bit_at-suc}
use Rattle.std.proofs.lemmas.Bool.{cases_eq, cases_lt, ne_eqb}
use Rattle.chip_model.specs.Memory.{byte, and_at, IsMixed, TornAnd}
use Rattle.chip_model.proofs.MemoryLaws.{length-placed, placed-outside, placed-inside}
use Rattle.chip_model.proofs.BitLaws.{mixed_same, mixed_one}
use Rattle.chip_model.proofs.PartLaws.{part-same}
use Rattle.nor_driver.specs.State.{Leaves, as_before, torn_in_it, changed_whole}
use Rattle.nor_layout.specs.Headers.{header_of}
use Rattle.nor_layout.specs.declared.header.Header.{Header}
use Rattle.nor_layout.specs.declared.header.Header.TheVariants as headers
use Rattle.nor_layout.specs.declared.header.Tag.{Tag}
use Rattle.nor_layout.specs.Kinds.{kind_of, mark_of, group_kind}
use Rattle.nor_layout.specs.declared.kind.Kind.{Kind}
use Rattle.nor_layout.specs.declared.kind.Kind.TheVariants as kinds
use Rattle.erase_journal.specs.Blocks.{OnlyBlock}
use Rattle.sector_slots.specs.Slots.{slot_in, slot_with, descriptor_in, written_in, header_in, content_bytes, data_block}
use Rattle.sector_slots.proofs.GroupLaws.{place-four}
use Rattle.sector_slots.proofs.HeadLaws.{plain-mark, plain-start}
use Rattle.sector_slots.specs.Steps.{OnlyMark}

pub header-bytes : (b h : List ℕ) → byte b 0 ≡ byte h 0 → byte b 1 ≡ byte h 1 → byte b 2 ≡ byte h 2 → byte b 3 ≡ byte h 3 → header_of b ≡ header_of h
header-bytes b h e0 e1 e2 e3 = rw (e0, e1, e2, e3) refl

-- a slot is said by its four bytes and its 512
pub slot-bytes : (b t : List ℕ) (i : ℕ) → length t ≡ length b → ((j : ℕ) → j < 4 → byte t j ≡ byte b j) → ((j : ℕ) → j < 4 → byte t (16 + 4 * i + j) ≡ byte b (16 + 4 * i + j)) → ((j : ℕ) → j < 512 → byte t (512 * (i + 1) + j) ≡ byte b (512 * (i + 1) + j))
    → slot_in t i ≡ slot_in b i
unfolding slot_in descriptor_in
slot-bytes b t i n mark head rest =
    let at = λ (x : List ℕ) (j : ℕ). get_or-drop (16 + 4 * i) x j 0 in
    let h = header-bytes (drop (16 + 4 * i) t) (drop (16 + 4 * i) b) (at t 0 ∙ (head 0 (omega arith) ∙ sym (at b 0))) (at t 1 ∙ (head 1 (omega arith) ∙ sym (at b 1)))
    (at t 2 ∙ (head 2 (omega arith) ∙ sym (at b 2))) (at t 3 ∙ (head 3 (omega arith) ∙ sym (at b 3))) in
    let c = part-same 512 b t (i + 1) n rest in
    let k = place-four b t (written_in b i) i (mark 0 (omega arith)) (mark 1 (omega arith)) (mark 2 (omega arith)) (mark 3 (omega arith)) in
    ap (λ x. slot_with (header_in (kind_of t) x i) (content_bytes t i)) h ∙ (ap (λ x. slot_with x (content_bytes t i)) k ∙ ap (λ x. slot_with (descriptor_in b i) x) c)

pub bits-begin : (k : ℕ) → k ≢ 0 → bit_at 255 k ≡ bit_at 254 k
bits-begin zero other = absurd (other refl)
bits-begin (suc k) other = bit_at-suc 255 k ∙ sym (bit_at-suc 254 k)

-- the first eight bytes of a block that is begun, whole or torn: as they were, or void
void-kind : (t : List ℕ) → byte t 0 ≡ 255 → byte t 1 ≡ 255 → byte t 2 ≡ 255 → byte t 3 ≡ 255 → byte t 4 ≡ 254 → kind_of t ≡ kinds.Void
void-kind t e0 e1 e2 e3 e4 = rw (e0, e1, e2, e3, e4) refl

spoiled-kind : (t : List ℕ) → byte t 0 ≡ 255 → byte t 1 ≡ 255 → byte t 2 ≡ 255 → byte t 3 ≡ 255 → byte t 4 ≡ 255 → (byte t 5 ≡ 255 → byte t 6 ≡ 255 → byte t 7 ≡ 255 → ⊥) → kind_of t ≡ kinds.Void
spoiled-kind t e0 e1 e2 e3 e4 other = elim (cases_eq (byte t 5) 255) [
  | inr n5 ↦ rw (e0, e1, e2, e3, e4, ne_eqb (byte t 5) 255 n5) refl
  | inl e5 ↦ elim (cases_eq (byte t 6) 255) [
    | inr n6 ↦ rw (e0, e1, e2, e3, e4, e5, ne_eqb (byte t 6) 255 n6) refl
    | inl e6 ↦ elim (cases_eq (byte t 7) 255) [ inr n7 ↦ rw (e0, e1, e2, e3, e4, e5, e6, ne_eqb (byte t 7) 255 n7) refl | inl e7 ↦ absurd (other e5 e6 e7) ]
  ]
]

-- a torn mark
pub mark-torn : (b h t : List ℕ) → length b ≡ 4096 → length h ≡ 4 → byte h 0 ≡ 254 → ((i : ℕ) → i < 8 → byte b i ≡ 255) → TornAnd b 4 h t → (t ≡ b) ⊎ (kind_of t ≡ kinds.Void)
mark-torn b h t n four begun plain torn =
    let w = and_at b 4 h in
    let out = λ (i : ℕ) (low : i < 4096) (away : (i < 4) ⊎ (4 + length h ≤ i)).
    mixed_same (byte b i) (byte t i) (subst (λ x. IsMixed (byte b i) x (byte t i)) (placed-outside bit_and b 4 h i away) (torn.each i (omega (arith, n, low)))) in
    let first : byte w 4 ≡ 254 = placed-inside bit_and b 4 h 0 (omega (arith, four)) (omega (arith, n)) ∙ (ap (λ x. bit_and x (byte h 0)) (plain 4 (omega arith)) ∙ ap (λ x. bit_and 255 x) begun) in
    let state : (byte t 4 ≡ 255) ⊎ (byte t 4 ≡ 254) =
    mixed_one 0 255 254 (byte t 4) bits-begin (subst (λ x. IsMixed x 254 (byte t 4)) (plain 4 (omega arith)) (subst (λ x. IsMixed (byte b 4) x (byte t 4)) first (torn.each 4 (omega (arith, n))))) in
    let low = λ (i : ℕ) (h4 : i < 4). out i (omega (arith, h4)) (inl h4) ∙ plain i (omega (arith, h4)) in
    elim state [
      | inr e ↦ inr (void-kind t (low 0 (omega arith)) (low 1 (omega arith)) (low 2 (omega arith)) (low 3 (omega arith)) e)
      | inl e ↦ elim (cases_eq (byte t 5) 255) [
        | inr n5 ↦ inr (spoiled-kind t (low 0 (omega arith)) (low 1 (omega arith)) (low 2 (omega arith)) (low 3 (omega arith)) e (λ x y z. n5 x))
        | inl e5 ↦ elim (cases_eq (byte t 6) 255) [
          | inr n6 ↦ inr (spoiled-kind t (low 0 (omega arith)) (low 1 (omega arith)) (low 2 (omega arith)) (low 3 (omega arith)) e (λ x y z. n6 y))
          | inl e6 ↦ elim (cases_eq (byte t 7) 255) [
            | inr n7 ↦ inr (spoiled-kind t (low 0 (omega arith)) (low 1 (omega arith)) (low 2 (omega arith)) (low 3 (omega arith)) e (λ x y z. n7 z))
            | inl e7 ↦ inl (ext_get_or 0 t b torn.same_length (λ i small.
                let size : i < 4096 = (let q = torn.same_length in omega (arith, n, q)) in
                elim (cases_eq i 4) [
                  | inl q ↦ ap (λ c. byte t c) q ∙ (e ∙ (sym (plain 4 (omega arith)) ∙ ap (λ c. byte b c) (sym q)))
                  | inr n4 ↦ elim (cases_eq i 5) [
                    | inl q ↦ ap (λ c. byte t c) q ∙ (e5 ∙ (sym (plain 5 (omega arith)) ∙ ap (λ c. byte b c) (sym q)))
                    | inr m5 ↦ elim (cases_eq i 6) [
                      | inl q ↦ ap (λ c. byte t c) q ∙ (e6 ∙ (sym (plain 6 (omega arith)) ∙ ap (λ c. byte b c) (sym q)))
                      | inr m6 ↦ elim (cases_eq i 7) [
                        | inl q ↦ ap (λ c. byte t c) q ∙ (e7 ∙ (sym (plain 7 (omega arith)) ∙ ap (λ c. byte b c) (sym q)))
                        | inr m7 ↦ out i size (elim (cases_lt i 4) as (λ _. (i < 4) ⊎ (4 + length h ≤ i)) [ inl l ↦ inl l | inr r ↦ inr (omega (arith, r, n4, m5, m6, m7, four)) ])
                      ]
                    ]
                  ]
                ]))
          ]
        ]
      ]
    ]

-- bytes after the mark stay, and so do the slots
after-mark : (b h t : List ℕ) → length b ≡ 4096 → length h ≡ 4 → Leaves b (TornAnd b 4 h) (and_at b 4 h) t → (length t ≡ length b) × ((k : ℕ) → 8 ≤ k → k < 4096 → byte t k ≡ byte b k) × ((k : ℕ) → k < 4 → byte t k ≡ byte b k)
after-mark b h t n four (as_before e) = (ap (λ x. length x) e, λ k from low. ap (λ x. byte x k) e, λ k low. ap (λ x. byte x k) e)
after-mark b h t n four (changed_whole e) = (ap (λ x. length x) e ∙ length-placed bit_and b 4 h, λ k from low. ap (λ x. byte x k) e ∙ placed-outside bit_and b 4 h k (inr (omega (arith, four, from))), λ k low. ap (λ x. byte x k) e ∙ placed-outside bit_and b 4 h k (inl (omega (arith, low))))
after-mark b h t n four (torn_in_it torn) = (
  torn.same_length,
  λ k from low.
      mixed_same (byte b k) (byte t k) (subst (λ x. IsMixed (byte b k) x (byte t k)) (placed-outside bit_and b 4 h k (inr (omega (arith, four, from)))) (torn.each k (omega (arith, n, low)))),
  λ k low. mixed_same (byte b k) (byte t k) (subst (λ x. IsMixed (byte b k) x (byte t k)) (placed-outside bit_and b 4 h k (inl (omega (arith, low)))) (torn.each k (omega (arith, n, low)))),
)

pub mark-leaves : (c : ℕ) (m m' h : List ℕ) → length (data_block m c) ≡ 4096 → length h ≡ 4 → OnlyBlock (c + 4) m m'
    → Leaves (data_block m c) (TornAnd (data_block m c) 4 h) (and_at (data_block m c) 4 h) (data_block m' c) → OnlyMark c m m'
mark-leaves c m m' h n four only l =
    let a = after-mark (data_block m c) h (data_block m' c) n four l in
    record {
      only = only;
      slots = λ i low. slot-bytes (data_block m c) (data_block m' c) i a.0 (λ j small. a.2 j small) (λ j small. a.1 (16 + 4 * i + j) (omega arith) (omega (arith, low, small))) (λ j small. a.1 (512 * (i + 1) + j) (omega arith) (omega (arith, low, small)));
      contents = λ i low. part-same 512 (data_block m c) (data_block m' c) (i + 1) a.0 (λ j small. a.1 (512 * (i + 1) + j) (omega arith) (omega (arith, low, small)));
    }

pub mark-state : (b h t : List ℕ) → length b ≡ 4096 → length h ≡ 4 → byte h 0 ≡ 254 → ((i : ℕ) → i < 8 → byte b i ≡ 255) → t ≡ and_at b 4 h → byte t 4 ≡ 254
mark-state b h t n four begun plain e =
    ap (λ x. byte x 4) e ∙ (placed-inside bit_and b 4 h 0 (omega (arith, four)) (omega (arith, n)) ∙ (ap (λ x. bit_and x (byte h 0)) (plain 4 (omega arith)) ∙ ap (λ x. bit_and 255 x) begun))

pub mark-begun : (b h t : List ℕ) → length b ≡ 4096 → length h ≡ 4 → byte h 0 ≡ 254 → ((i : ℕ) → i < 8 → byte b i ≡ 255) → t ≡ and_at b 4 h → kind_of t ≡ kinds.Void
mark-begun b h t n four begun plain e =
    let low = λ (i : ℕ) (h4 : i < 4). ap (λ x. byte x i) e ∙ (placed-outside bit_and b 4 h i (inl h4) ∙ plain i (omega (arith, h4))) in
    void-kind t (low 0 (omega arith)) (low 1 (omega arith)) (low 2 (omega arith)) (low 3 (omega arith)) (mark-state b h t n four begun plain e)

pub begin-leaves : (b h t : List ℕ) → length b ≡ 4096 → length h ≡ 4 → byte h 0 ≡ 254 → ((i : ℕ) → i < 8 → byte b i ≡ 255) → Leaves b (TornAnd b 4 h) (and_at b 4 h) t → (t ≡ b) ⊎ (kind_of t ≡ kinds.Void)
begin-leaves b h t n four begun plain (as_before e) = inl e
begin-leaves b h t n four begun plain (torn_in_it torn) = mark-torn b h t n four begun plain torn
begin-leaves b h t n four begun plain (changed_whole e) = inr (mark-begun b h t n four begun plain e)

-- the kind is that of the first eight bytes
pub kind-bytes : (b h : List ℕ) → ((i : ℕ) → i < 8 → byte b i ≡ byte h i) → kind_of b ≡ kind_of h
kind-bytes b h e = rw (e 0 (omega arith), e 1 (omega arith), e 2 (omega arith), e 3 (omega arith), e 4 (omega arith), e 5 (omega arith), e 6 (omega arith), e 7 (omega arith)) refl

pub kind-read : (b h : List ℕ) → h ≡ slice_range b 0 8 → kind_of h ≡ kind_of b
kind-read b h e = kind-bytes h b (λ i low.
    let z : 0 + i ≡ i = omega arith in
    ap (λ q. byte q i) e ∙ (get_or-take 8 (drop 0 b) i 0 low ∙ (get_or-drop 0 b i 0 ∙ ap (λ q. byte b q) z)))

-- a plain block begins with eight FFh
pub plain-bytes : (b : List ℕ) → kind_of b ≡ kinds.Plain → (i : ℕ) → i < 8 → byte b i ≡ 255
plain-bytes b e i low = elim (cases_lt i 4) as (λ _. byte b i ≡ 255) [
  | inl first ↦ plain-start b e i first
  | inr from ↦ (let z : 4 + (i - 4) ≡ i = omega (arith, from) in subst (λ q. byte b q ≡ 255) z (plain-mark b e (i - 4) (omega (arith, low, from))))
]

pub and-all : (x : ℕ) → x < 256 → bit_and 255 x ≡ x
and-all x h = and_comm 255 x ∙ (and_mask x 8 ∙ (let e : x % 256 ≡ x = omega arith in e))

pub kind-eight : (b h : List ℕ) → byte b 0 ≡ byte h 0 → byte b 1 ≡ byte h 1 → byte b 2 ≡ byte h 2 → byte b 3 ≡ byte h 3 → byte b 4 ≡ byte h 4 → byte b 5 ≡ byte h 5 → byte b 6 ≡ byte h 6 → byte b 7 ≡ byte h 7 → kind_of b ≡ kind_of h
kind-eight b h e0 e1 e2 e3 e4 e5 e6 e7 = rw (e0, e1, e2, e3, e4, e5, e6, e7) refl

-- once committed, the copy names its source
pub mark-once : (b h t : List ℕ) (source : ℕ) → length b ≡ 4096 → length h ≡ 4 → byte h 0 ≡ 254 → ((i : ℕ) → byte h i < 256) → ((i : ℕ) → i < 8 → byte b i ≡ 255) → t ≡ and_at b 4 h
    → kind_of (255 ∷ 255 ∷ 255 ∷ 255 ∷ 252 ∷ byte h 1 ∷ byte h 2 ∷ byte h 3 ∷ []) ≡ kinds.Committed source → kind_of (and_at t 4 (252 ∷ [])) ≡ kinds.Committed source
mark-once b h t source n four begun small plain e back =
    let w = and_at t 4 (252 ∷ []) in
    let lt : length t ≡ 4096 = ap (λ q. length q) e ∙ (length-placed bit_and b 4 h ∙ n) in
    let low = λ (i : ℕ) (h4 : i < 4). placed-outside bit_and t 4 (252 ∷ []) i (inl h4) ∙ (ap (λ q. byte q i) e ∙ (placed-outside bit_and b 4 h i (inl h4) ∙ plain i (omega (arith, h4)))) in
    let t4 : byte t 4 ≡ 254 = ap (λ x. byte x 4) e ∙ (placed-inside bit_and b 4 h 0 (omega (arith, four)) (omega (arith, n)) ∙ (ap (λ x. bit_and x (byte h 0)) (plain 4 (omega arith)) ∙ ap (λ x. bit_and 255 x) begun)) in
    let w4 : byte w 4 ≡ 252 = placed-inside bit_and t 4 (252 ∷ []) 0 (omega arith) (omega (arith, lt)) ∙ ap (λ x. bit_and x 252) t4 in
    let late = λ (j : ℕ) (from : 1 ≤ j) (to : j < 4). placed-outside bit_and t 4 (252 ∷ []) (4 + j) (inr (omega (arith, from))) ∙ (ap (λ q. byte q (4 + j)) e
    ∙ (placed-inside bit_and b 4 h j (omega (arith, four, to)) (omega (arith, n, to)) ∙ (ap (λ x. bit_and x (byte h j)) (plain (4 + j) (omega (arith, to))) ∙ and-all (byte h j) (small j)))) in
    kind-eight w (255 ∷ 255 ∷ 255 ∷ 255 ∷ 252 ∷ byte h 1 ∷ byte h 2 ∷ byte h 3 ∷ []) (low 0 (omega arith)) (low 1 (omega arith)) (low 2 (omega arith)) (low 3 (omega arith)) w4
    (late 1 (omega arith) (omega arith)) (late 2 (omega arith) (omega arith)) (late 3 (omega arith) (omega arith)) ∙ back

-- A committed block's first bytes.
abbrev IsCopyKind : Kind → Type 0
IsCopyKind kinds.Plain = ⊥
IsCopyKind kinds.Void = ⊥
IsCopyKind (kinds.Committed b) = Unit {0}
IsCopyKind kinds.Settled = ⊥
IsCopyKind (kinds.Group tag) = ⊥
IsCopyKind kinds.DeadGroup = ⊥
IsCopyKind kinds.SpoiltGroup = ⊥
IsCopyKind kinds.Unknown = ⊥

either-copy : (t : Bool) (tag : Tag) → IsCopyKind (cond t (kinds.Group tag) kinds.SpoiltGroup) → ⊥
either-copy true tag p = p
either-copy false tag p = p

group-copy : (h : Header) → IsCopyKind (group_kind h) → ⊥
group-copy headers.Free p = p
group-copy (headers.Live tag) p = either-copy (nat_lt tag.number 9362) tag p
group-copy headers.NoGeneration p = p
group-copy headers.Dead p = p

not-copy : (b : List ℕ) (s : ℕ) (k : Kind) → kind_of b ≡ kinds.Committed s → kind_of b ≡ k → IsCopyKind k
not-copy b s k e f = subst (λ q. IsCopyKind q) (sym e ∙ f) tt

late-mark : (x : Bool) → IsCopyKind (cond x kinds.Settled kinds.Unknown) → ⊥
late-mark true h = h
late-mark false h = h

copy-0 : (b : List ℕ) (s : ℕ) → kind_of b ≡ kinds.Committed s → byte b 0 ≡ 255
copy-0 b s e = elim (cases_eq (byte b 0) 255) as (λ _. byte b 0 ≡ 255) [ inl q ↦ q | inr n ↦ absurd (group-copy (header_of b) (not-copy b s (group_kind (header_of b)) e (rw (ne_eqb (byte b 0) 255 n) refl))) ]

copy-1 : (b : List ℕ) (s : ℕ) → kind_of b ≡ kinds.Committed s → byte b 1 ≡ 255
copy-1 b s e = elim (cases_eq (byte b 1) 255) as (λ _. byte b 1 ≡ 255) [ inl q ↦ q | inr n ↦ absurd (group-copy (header_of b) (not-copy b s (group_kind (header_of b)) e (rw (copy-0 b s e, ne_eqb (byte b 1) 255 n) refl))) ]

copy-2 : (b : List ℕ) (s : ℕ) → kind_of b ≡ kinds.Committed s → byte b 2 ≡ 255
copy-2 b s e = elim (cases_eq (byte b 2) 255) as (λ _. byte b 2 ≡ 255) [ inl q ↦ q | inr n ↦ absurd (group-copy (header_of b) (not-copy b s (group_kind (header_of b)) e (rw (copy-0 b s e, copy-1 b s e, ne_eqb (byte b 2) 255 n) refl))) ]

copy-3 : (b : List ℕ) (s : ℕ) → kind_of b ≡ kinds.Committed s → byte b 3 ≡ 255
copy-3 b s e = elim (cases_eq (byte b 3) 255) as (λ _. byte b 3 ≡ 255) [
  | inl q ↦ q
  | inr n ↦ absurd (group-copy (header_of b) (not-copy b s (group_kind (header_of b)) e (rw (copy-0 b s e, copy-1 b s e, copy-2 b s e, ne_eqb (byte b 3) 255 n) refl)))
]

copy-4 : (b : List ℕ) (s : ℕ) → kind_of b ≡ kinds.Committed s → byte b 4 ≡ 252
copy-4 b s e = elim (cases_eq (byte b 4) 252) as (λ _. byte b 4 ≡ 252) [
  | inl q ↦ q
  | inr n ↦ elim (cases_eq (byte b 4) 254) as (λ _. byte b 4 ≡ 252) [
    | inl q ↦ absurd (not-copy b s kinds.Void e (void-kind b (copy-0 b s e) (copy-1 b s e) (copy-2 b s e) (copy-3 b s e) q))
    | inr m ↦ elim (cases_eq (byte b 4) 255) as (λ _. byte b 4 ≡ 252) [
      | inr p ↦ absurd (late-mark (byte b 4 == 248) (not-copy b s (cond (byte b 4 == 248) kinds.Settled kinds.Unknown) e
          (rw (copy-0 b s e, copy-1 b s e, copy-2 b s e, copy-3 b s e, ne_eqb (byte b 4) 255 p, ne_eqb (byte b 4) 254 m, ne_eqb (byte b 4) 252 n) refl)))
      | inl e4 ↦ elim (cases_eq (byte b 5) 255) as (λ _. byte b 4 ≡ 252) [
        | inr n5 ↦ absurd (not-copy b s kinds.Void e (spoiled-kind b (copy-0 b s e) (copy-1 b s e) (copy-2 b s e) (copy-3 b s e) e4 (λ x y z. n5 x)))
        | inl e5 ↦ elim (cases_eq (byte b 6) 255) as (λ _. byte b 4 ≡ 252) [
          | inr n6 ↦ absurd (not-copy b s kinds.Void e (spoiled-kind b (copy-0 b s e) (copy-1 b s e) (copy-2 b s e) (copy-3 b s e) e4 (λ x y z. n6 y)))
          | inl e6 ↦ elim (cases_eq (byte b 7) 255) as (λ _. byte b 4 ≡ 252) [
            | inr n7 ↦ absurd (not-copy b s kinds.Void e (spoiled-kind b (copy-0 b s e) (copy-1 b s e) (copy-2 b s e) (copy-3 b s e) e4 (λ x y z. n7 z)))
            | inl e7 ↦ absurd (not-copy b s kinds.Plain e (rw (copy-0 b s e, copy-1 b s e, copy-2 b s e, copy-3 b s e, e4, e5, e6, e7) refl))
          ]
        ]
      ]
    ]
  ]
]

pub copy-state : (b : List ℕ) (s : ℕ) → kind_of b ≡ kinds.Committed s → byte b 4 ≡ 252
copy-state b s e = copy-4 b s e

settled-kind : (t : List ℕ) → byte t 0 ≡ 255 → byte t 1 ≡ 255 → byte t 2 ≡ 255 → byte t 3 ≡ 255 → byte t 4 ≡ 248 → kind_of t ≡ kinds.Settled
settled-kind t e0 e1 e2 e3 e4 = rw (e0, e1, e2, e3, e4) refl

pub settle-mark : (b t : List ℕ) (s : ℕ) → length b ≡ 4096 → kind_of b ≡ kinds.Committed s → t ≡ and_at b 4 (248 ∷ []) → kind_of t ≡ kinds.Settled
settle-mark b t s n k e =
    let low = λ (i : ℕ) (h4 : i < 4). ap (λ x. byte x i) e ∙ placed-outside bit_and b 4 (248 ∷ []) i (inl h4) in
    let first : byte t 4 ≡ 248 = ap (λ x. byte x 4) e ∙ (placed-inside bit_and b 4 (248 ∷ []) 0 (omega arith) (omega (arith, n)) ∙ ap (λ x. bit_and x 248) (copy-4 b s k)) in
    settled-kind t (low 0 (omega arith) ∙ copy-0 b s k) (low 1 (omega arith) ∙ copy-1 b s k) (low 2 (omega arith) ∙ copy-2 b s k) (low 3 (omega arith) ∙ copy-3 b s k) first

-- A block of a group: its state byte, and what a retirement makes of it.
abbrev pub IsGroupKind : Kind → Type 0
IsGroupKind kinds.Plain = ⊥
IsGroupKind kinds.Void = ⊥
IsGroupKind (kinds.Committed b) = ⊥
IsGroupKind kinds.Settled = ⊥
IsGroupKind (kinds.Group tag) = Unit {0}
IsGroupKind kinds.DeadGroup = ⊥
IsGroupKind kinds.SpoiltGroup = ⊥
IsGroupKind kinds.Unknown = ⊥

pub dead-kind : (b : List ℕ) → byte b 0 ≢ 255 → byte b 0 ≢ 252 → kind_of b ≡ kinds.DeadGroup
dead-kind b n m = rw (ne_eqb (byte b 0) 255 n, ne_eqb (byte b 0) 252 m) refl

slots-mark : (a p q r s : Bool) (source : ℕ) → IsGroupKind (cond a kinds.Plain (cond p kinds.Void (cond q kinds.Void (cond r (kinds.Committed source) (cond s kinds.Settled kinds.Unknown))))) → ⊥
slots-mark true p q r s source h = h
slots-mark false true q r s source h = h
slots-mark false false true r s source h = h
slots-mark false false false true s source h = h
slots-mark false false false false true source h = h
slots-mark false false false false false source h = h

kind-by : (t : Bool) (m g : Kind) → (IsGroupKind m → ⊥) → IsGroupKind (cond t m g) → IsGroupKind g
kind-by true m g never h = absurd (never h)
kind-by false m g never h = h

pub group-header : (b : List ℕ) (tag : Tag) → kind_of b ≡ kinds.Group tag → IsGroupKind (group_kind (header_of b))
group-header b tag e = kind-by ((byte b 0 == 255) && (byte b 1 == 255) && (byte b 2 == 255) && (byte b 3 == 255)) (mark_of b) (group_kind (header_of b))
    (slots-mark ((byte b 4 == 255) && (byte b 5 == 255) && (byte b 6 == 255) && (byte b 7 == 255)) (byte b 4 == 255) (byte b 4 == 254) (byte b 4 == 252) (byte b 4 == 248) _) (subst (λ k. IsGroupKind k) (sym e) tt)
