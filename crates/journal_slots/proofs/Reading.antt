-- What is read of a place, and of the mark of a begun copy.
use Rattle.std.proofs.Common.{◌≡◌, ◌≢◌, ℕ, zero, suc, ◌+◌, ◌-◌, ◌*◌, ◌<◌, ◌≤◌, ◌⊎◌, List, [], ◌∷◌, length, set, refl, sym, ap, ◌∙◌, arith, inl, inr, get_or-set_other, get_or-set_same}
use Rattle.std.specs.Prelude.{take, drop, slice_range, slice_index_or, bit_and}
use Rattle.std.proofs.lemmas.List.{get_or-take, get_or-drop, length-take-le}
use Rattle.std.proofs.lemmas.Bool.{cases_eq, cases_lt}
use Rattle.chip_model.specs.Memory.{byte, and_at}
use Rattle.chip_model.proofs.MemoryLaws.{placed-outside, placed-inside}
use Rattle.chip_model.specs.Parts.{part}
use Rattle.nor_layout.specs.declared.header.Header.{Header}
use Rattle.nor_layout.specs.declared.header.Header.TheVariants as headers
use Rattle.nor_layout.specs.declared.header.Tag.{Tag}
use Rattle.nor_layout.specs.declared.kind.Kind.{Kind}
use Rattle.nor_layout.specs.declared.kind.Kind.TheVariants as kinds
use Rattle.nor_layout.specs.Headers.{header_of}
use Rattle.nor_layout.specs.Kinds.{kind_of}
use Rattle.sector_slots.specs.Slots.{Free, Live, slot_in, content_bytes, descriptor_in, header_in, data_block}
use Rattle.sector_slots.specs.Steps.{IsBegun}
use Rattle.journal_slots.proofs.Marks.{header-bytes, kind-bytes}
use Rattle.sector_slots.proofs.HeadLaws.{header_number}
use Rattle.journal_slots.proofs.Places.{number_of, slot-header, slot-number}

pub content-read : (b x : List ℕ) (i at n : ℕ) → at ≡ 512 * (i + 1) → n ≡ 512 → x ≡ slice_range b at (at + n) → x ≡ content_bytes b i
unfolding part
content-read b x i at n e f read =
    let size : at + n - at ≡ 512 = omega (arith, f) in
    read ∙ (ap (λ q. take q (drop at b)) size ∙ ap (λ q. take 512 (drop q b)) e)

-- a slot whose descriptor was read
pub known-free : (b : List ℕ) (i : ℕ) → headers.Free ≡ descriptor_in b i → slot_in b i ≡ Free
known-free b i e = slot-header b i headers.Free (sym e)

pub known-other : (b : List ℕ) (i : ℕ) (h : Header) → h ≡ descriptor_in b i → header_number h ≢ 0 → slot_in b i ≢ Free
known-other b i h e n f = n (ap header_number e ∙ (sym (slot-number b i) ∙ ap number_of f))

pub known-live : (b x : List ℕ) (i : ℕ) (tag : Tag) → headers.Live tag ≡ descriptor_in b i → x ≡ content_bytes b i → slot_in b i ≡ Live tag x
known-live b x i tag e read = slot-header b i (headers.Live tag) (sym e) ∙ ap (λ q. Live tag q) (sym read)

pub known-not_live : (b : List ℕ) (i : ℕ) (h : Header) (tag : Tag) (x : List ℕ) → h ≡ descriptor_in b i → header_number h ≢ 1 → slot_in b i ≢ Live tag x
known-not_live b i h tag x e n f = n (ap header_number e ∙ (sym (slot-number b i) ∙ ap number_of f))

-- the mark of a begun copy, once committed
mark-byte : (b h : List ℕ) (i : ℕ) → h ≡ slice_range b 0 8 → i < 8 → byte h i ≡ byte b i
mark-byte b h i e low =
    let z : 0 + i ≡ i = omega arith in
    ap (λ q. byte q i) e ∙ (get_or-take 8 (drop 0 b) i 0 low ∙ (get_or-drop 0 b i 0 ∙ ap (λ q. byte b q) z))

mark-length : (b h : List ℕ) → length b ≡ 4096 → h ≡ slice_range b 0 8 → length h ≡ 8
mark-length b h n e = ap (λ q. length q) e ∙ length-take-le 8 (drop 0 b) (let z : drop 0 b ≡ b = refl in omega (arith, n, ap (λ q. length q) z))

pub source-read : (t s : ℕ) (m h : List ℕ) → length (data_block m t) ≡ 4096 → h ≡ slice_range (data_block m t) 0 8 → IsBegun t s m → kind_of (set h 4 252) ≡ kinds.Committed (s + 4)
source-read t s m h n e begun =
    let b = data_block m t in
    let w = and_at b 4 (252 ∷ []) in
    let long = mark-length b h n e in
    let four : byte w 4 ≡ 252 = placed-inside bit_and b 4 (252 ∷ []) 0 (omega arith) (omega (arith, n)) ∙ ap (λ q. bit_and q 252) begun.state in
    kind-bytes (set h 4 252) w (λ i low. elim (cases_eq i 4) as (λ _. byte (set h 4 252) i ≡ byte w i) [
      | inl q ↦ ap (λ k. byte (set h 4 252) k) q ∙ (get_or-set_same h 4 252 0 (omega (arith, long)) ∙ (sym four ∙ ap (λ k. byte w k) (sym q)))
      | inr ne ↦ get_or-set_other h 4 i 252 0 ne ∙ (mark-byte b h i e low ∙ sym (placed-outside bit_and b 4 (252 ∷ []) i (elim (cases_lt i 4) as (λ _. (i < 4) ⊎ (5 ≤ i)) [ inl l ↦ inl l | inr r ↦ inr (omega (arith, r, ne)) ])))
    ]) ∙ begun.once

-- the head of a block
pub head-byte : (b h : List ℕ) (k : ℕ) → h ≡ slice_range b 0 44 → k < 44 → byte h k ≡ byte b k
head-byte b h k e low =
    let z : 0 + k ≡ k = omega arith in
    ap (λ q. byte q k) e ∙ (get_or-take 44 (drop 0 b) k 0 low ∙ (get_or-drop 0 b k 0 ∙ ap (λ q. byte b q) z))

pub head-descriptor : (b h : List ℕ) (i : ℕ) → h ≡ slice_range b 0 44 → i < 7 → header_of (drop (16 + 4 * i) h) ≡ header_of (drop (16 + 4 * i) b)
head-descriptor b h i e low =
    let at = λ (j : ℕ) (small : j < 4). get_or-drop (16 + 4 * i) h j 0 ∙ (head-byte b h (16 + 4 * i + j) e (omega (arith, low, small)) ∙ sym (get_or-drop (16 + 4 * i) b j 0)) in
    header-bytes (drop (16 + 4 * i) h) (drop (16 + 4 * i) b) (at 0 (omega arith)) (at 1 (omega arith)) (at 2 (omega arith)) (at 3 (omega arith))

-- what is said of a place
pub head-kind : (b h : List ℕ) → h ≡ slice_range b 0 44 → kind_of h ≡ kind_of b
head-kind b h e = kind-bytes h b (λ k low. head-byte b h k e (omega (arith, low)))

pub head-place : (b h : List ℕ) (i : ℕ) → h ≡ slice_range b 0 44 → i < 7 → header_in (kind_of h) (header_of (drop (16 + 4 * i) h)) i ≡ descriptor_in b i
unfolding descriptor_in
head-place b h i e low = ap (λ k. header_in k (header_of (drop (16 + 4 * i) h)) i) (head-kind b h e) ∙ ap (λ w. header_in (kind_of b) w i) (head-descriptor b h i e low)

pub seven-headers : (k : Kind) (h : List ℕ) (a b c d e f g : Header) → a ≡ header_in k (header_of (drop 16 h)) 0 → b ≡ header_in k (header_of (drop 20 h)) 1 → c ≡ header_in k (header_of (drop 24 h)) 2 → d ≡ header_in k (header_of (drop 28 h)) 3 → e ≡ header_in k (header_of (drop 32 h)) 4 → f ≡ header_in k (header_of (drop 36 h)) 5 → g ≡ header_in k (header_of (drop 40 h)) 6
    → (i : ℕ) → i < 7 → slice_index_or (a ∷ b ∷ c ∷ d ∷ e ∷ f ∷ g ∷ []) i headers.Free ≡ header_in k (header_of (drop (16 + 4 * i) h)) i
seven-headers k h a b c d e f g p q r s t u v zero low = p
seven-headers k h a b c d e f g p q r s t u v (suc zero) low = q
seven-headers k h a b c d e f g p q r s t u v (suc (suc zero)) low = r
seven-headers k h a b c d e f g p q r s t u v (suc (suc (suc zero))) low = s
seven-headers k h a b c d e f g p q r s t u v (suc (suc (suc (suc zero)))) low = t
seven-headers k h a b c d e f g p q r s t u v (suc (suc (suc (suc (suc zero))))) low = u
seven-headers k h a b c d e f g p q r s t u v (suc (suc (suc (suc (suc (suc zero)))))) low = v
seven-headers k h a b c d e f g p q r s t u v (suc (suc (suc (suc (suc (suc (suc i))))))) low = absurd (omega (arith, low))
