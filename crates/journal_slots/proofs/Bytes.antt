-- What one program leaves of a block's bytes, whole or torn, and what the bytes of a place are to the block's slots.
use Rattle.std.proofs.Common.{◌≡◌, ◌≢◌, ℕ, zero, suc, ◌+◌, ◌-◌, ◌*◌, ◌<◌, ◌≤◌, ◌⊎◌, false, List, [], ◌∷◌, length, refl, sym, ap, ◌∙◌, subst, arith, inl, inr}
use Rattle.std.specs.Prelude.{take, drop, bit_and}
use Rattle.std.specs.Int.{bit_at}
use Rattle.std.proofs.lemmas.List.{ext_get_or, length-take-le, length-drop, take_all, take-append-drop}
use Rattle.std.proofs.lemmas.Nat.Bits.{bit_at-suc}
use Rattle.std.proofs.lemmas.Bool.{cases_eq, cases_lt}
use Rattle.chip_model.specs.Memory.{byte, and_at, IsMixed, TornAnd}
use Rattle.chip_model.proofs.MemoryLaws.{length-placed, placed-append, placed-outside, placed-inside}
use Rattle.chip_model.proofs.BitLaws.{mixed_same, mixed_one}
use Rattle.chip_model.proofs.PartLaws.{part-same}
use Rattle.nor_driver.specs.State.{Leaves, as_before, torn_in_it, changed_whole}
use Rattle.nor_layout.specs.Kinds.{kind_of}
use Rattle.nor_layout.specs.declared.kind.Kind.TheVariants as kinds
use Rattle.erase_journal.specs.Blocks.{OnlyBlock}
use Rattle.erase_journal.specs.Journals.{IsHealthy}
use Rattle.erase_journal.specs.Steps.{EraseInterrupted, as_it_was, block_erased}
use Rattle.sector_slots.specs.Slots.{slot_in, content_bytes, is_group, data_block, kind_at}
use Rattle.journal_slots.specs.Programs.{OnlyBytes, IsElsewhere, InPlace}
use Rattle.sector_slots.specs.Steps.{OnlyMark, IsBegun}
use Rattle.journal_slots.proofs.Marks.{slot-bytes, kind-bytes, copy-state, settle-mark}

-- all bytes outside a program stay
pub leaves-only : (b h t : List ℕ) (at : ℕ) → length b ≡ 4096 → Leaves b (TornAnd b at h) (and_at b at h) t → OnlyBytes at (length h) b t
leaves-only b h t at n (as_before e) = record { same_length = ap (λ x. length x) e; each = λ k low out. ap (λ x. byte x k) e }
leaves-only b h t at n (changed_whole e) = record {
  same_length = ap (λ x. length x) e ∙ length-placed bit_and b at h;
  each = λ k low out. ap (λ x. byte x k) e ∙ placed-outside bit_and b at h k out;
}
leaves-only b h t at n (torn_in_it torn) = record {
  same_length = torn.same_length;
  each = λ k low out. mixed_same (byte b k) (byte t k) (subst (λ x. IsMixed (byte b k) x (byte t k)) (placed-outside bit_and b at h k out) (torn.each k (omega (arith, n, low))));
}

pub and-only : (b h t : List ℕ) (at : ℕ) → t ≡ and_at b at h → OnlyBytes at (length h) b t
and-only b h t at e = record {
  same_length = ap (λ x. length x) e ∙ length-placed bit_and b at h;
  each = λ k low out. ap (λ x. byte x k) e ∙ placed-outside bit_and b at h k out;
}

-- a program at a place that is known by another name
pub placed-at : (b h t : List ℕ) (a d : ℕ) → a ≡ d → t ≡ and_at b a h → t ≡ and_at b d h
placed-at b h t a d e f = f ∙ ap (λ k. and_at b k h) e

pub only-wider : (from n from' n' : ℕ) (b t : List ℕ) → from' ≤ from → from + n ≤ from' + n' → OnlyBytes from n b t → OnlyBytes from' n' b t
only-wider from n from' n' b t below above h = record {
  same_length = h.same_length;
  each = λ k low out. h.each k low (elim out as (λ _. (k < from) ⊎ (from + n ≤ k)) [ inl l ↦ inl (omega (arith, l, below)) | inr r ↦ inr (omega (arith, r, above)) ]);
}

pub bytes-after : (from n : ℕ) (a b c : List ℕ) → OnlyBytes from n a b → OnlyBytes from n b c → OnlyBytes from n a c
bytes-after from n a b c p q = record { same_length = q.same_length ∙ p.same_length; each = λ k low out. q.each k low out ∙ p.each k low out }

-- a program of one byte that clears one bit is all or nothing
pub state-torn : (d j old new : ℕ) (b t : List ℕ) → ((k : ℕ) → k ≢ j → bit_at old k ≡ bit_at new k) → d < 4096 → length b ≡ 4096 → byte b d ≡ old → bit_and old new ≡ new
    → TornAnd b d (new ∷ []) t → (t ≡ b) ⊎ (t ≡ and_at b d (new ∷ []))
state-torn d j old new b t one low n e fits torn =
    let w = and_at b d (new ∷ []) in
    let lw : length w ≡ length b = length-placed bit_and b d (new ∷ []) in
    let z : d + 0 ≡ d = omega arith in
    let first : byte w d ≡ new = subst (λ q. byte w q ≡ bit_and (byte b q) new) z (placed-inside bit_and b d (new ∷ []) 0 (omega arith) (omega (arith, n, low))) ∙ (ap (λ x. bit_and x new) e ∙ fits) in
    let rest = λ (i : ℕ) (ne : i ≢ d). placed-outside bit_and b d (new ∷ []) i (elim (cases_lt i d) as (λ _. (i < d) ⊎ (d + 1 ≤ i)) [ inl l ↦ inl l | inr r ↦ inr (omega (arith, r, ne)) ]) in
    let here : (byte t d ≡ old) ⊎ (byte t d ≡ new) = mixed_one j old new (byte t d) one (subst (λ x. IsMixed x new (byte t d)) e (subst (λ x. IsMixed (byte b d) x (byte t d)) first (torn.each d (omega (arith, n, low))))) in
    let others = λ (i : ℕ) (ne : i ≢ d) (within : i < length b). mixed_same (byte b i) (byte t i) (subst (λ x. IsMixed (byte b i) x (byte t i)) (rest i ne) (torn.each i within)) in
    elim here [
      | inl y ↦ inl (ext_get_or 0 t b torn.same_length (λ i q. elim (cases_eq i d) [
        | inl s ↦ ap (λ c. byte t c) s ∙ (y ∙ (sym e ∙ ap (λ c. byte b c) (sym s)))
        | inr s ↦ others i s (omega (arith, torn.same_length))
      ]))
      | inr y ↦ inr (ext_get_or 0 t w (torn.same_length ∙ sym lw) (λ i q. elim (cases_eq i d) [
        | inl s ↦ ap (λ c. byte t c) s ∙ (y ∙ (sym first ∙ ap (λ c. byte w c) (sym s)))
        | inr s ↦ others i s (omega (arith, torn.same_length)) ∙ sym (rest i s)
      ]))
    ]

pub state-leaves : (d j old new : ℕ) (b t : List ℕ) → ((k : ℕ) → k ≢ j → bit_at old k ≡ bit_at new k) → d < 4096 → length b ≡ 4096 → byte b d ≡ old → bit_and old new ≡ new
    → Leaves b (TornAnd b d (new ∷ [])) (and_at b d (new ∷ [])) t → (t ≡ b) ⊎ (t ≡ and_at b d (new ∷ []))
state-leaves d j old new b t one low n e fits (as_before s) = inl s
state-leaves d j old new b t one low n e fits (changed_whole s) = inr s
state-leaves d j old new b t one low n e fits (torn_in_it torn) = state-torn d j old new b t one low n e fits torn

pub bits-commit : (k : ℕ) → k ≢ 1 → bit_at 254 k ≡ bit_at 252 k
bits-commit zero other = refl
bits-commit (suc zero) other = absurd (other refl)
bits-commit (suc (suc k)) other = bit_at-suc 254 (suc k) ∙ (bit_at-suc 127 k ∙ (sym (bit_at-suc 126 k) ∙ sym (bit_at-suc 252 (suc k))))

pub bits-retire : (k : ℕ) → k ≢ 2 → bit_at 252 k ≡ bit_at 248 k
bits-retire zero other = refl
bits-retire (suc zero) other = refl
bits-retire (suc (suc zero)) other = absurd (other refl)
bits-retire (suc (suc (suc k))) other =
    bit_at-suc 252 (suc (suc k)) ∙ (bit_at-suc 126 (suc k) ∙ (bit_at-suc 63 k ∙ (sym (bit_at-suc 62 k) ∙ (sym (bit_at-suc 124 (suc k)) ∙ sym (bit_at-suc 248 (suc (suc k)))))))

-- The bytes of one place.
pub place-same : (i : ℕ) (b t : List ℕ) → t ≡ b → InPlace i b t
place-same i b t e = record { same_length = ap (λ x. length x) e; each = λ k low out. ap (λ x. byte x k) e }

pub place-after : (i : ℕ) (a b c : List ℕ) → InPlace i a b → InPlace i b c → InPlace i a c
place-after i a b c p q = record { same_length = q.same_length ∙ p.same_length; each = λ k low out. q.each k low out ∙ p.each k low out }

pub descriptor-place : (i n : ℕ) (b t : List ℕ) → n ≤ 4 → OnlyBytes (16 + 4 * i) n b t → InPlace i b t
descriptor-place i n b t short h = record {
  same_length = h.same_length;
  each = λ k low out. h.each k low (elim out.0 as (λ _. (k < 16 + 4 * i) ⊎ (16 + 4 * i + n ≤ k)) [ inl l ↦ inl l | inr r ↦ inr (omega (arith, r, short)) ]);
}

pub content-place : (i : ℕ) (b t : List ℕ) → OnlyBytes (512 * (i + 1)) 512 b t → InPlace i b t
content-place i b t h = record { same_length = h.same_length; each = λ k low out. h.each k low out.1 }

-- the descriptor and the sector of another place are elsewhere, and so is the mark
other-descriptor : (i j q : ℕ) → i < 7 → j < 7 → j ≢ i → q < 4 → IsElsewhere i (16 + 4 * j + q)
other-descriptor i j q li lj ne small = (
  elim (cases_lt j i) as (λ _. (16 + 4 * j + q < 16 + 4 * i) ⊎ (20 + 4 * i ≤ 16 + 4 * j + q)) [ inl l ↦ inl (omega (arith, l, small)) | inr r ↦ inr (omega (arith, r, ne)) ],
  inl (omega (arith, lj, small)),
)

other-content : (i j q : ℕ) → i < 7 → j ≢ i → q < 512 → IsElsewhere i (512 * (j + 1) + q)
other-content i j q li ne small = (
  inr (omega (arith, li)),
  elim (cases_lt j i) as (λ _. (512 * (j + 1) + q < 512 * (i + 1)) ⊎ (512 * (i + 1) + 512 ≤ 512 * (j + 1) + q)) [ inl l ↦ inl (omega (arith, l, small)) | inr r ↦ inr (omega (arith, r, ne)) ],
)

pub place-mark : (i : ℕ) (b t : List ℕ) → InPlace i b t → (k : ℕ) → k < 8 → byte t k ≡ byte b k
place-mark i b t h k low = h.each k (omega (arith, low)) (inl (omega (arith, low)), inl (omega (arith, low)))

pub place-slot : (i j : ℕ) (b t : List ℕ) → i < 7 → j < 7 → j ≢ i → InPlace i b t → slot_in t j ≡ slot_in b j
place-slot i j b t li lj ne h = slot-bytes b t j h.same_length (λ q small. place-mark i b t h q (omega (arith, small)))
    (λ q small. h.each (16 + 4 * j + q) (omega (arith, lj, small)) (other-descriptor i j q li lj ne small))
    (λ q small. h.each (512 * (j + 1) + q) (omega (arith, lj, small)) (other-content i j q li ne small))

pub place-content : (i j : ℕ) (b t : List ℕ) → i < 7 → j < 7 → j ≢ i → InPlace i b t → content_bytes t j ≡ content_bytes b j
place-content i j b t li lj ne h = part-same 512 b t (j + 1) h.same_length (λ q small. h.each (512 * (j + 1) + q) (omega (arith, lj, small)) (other-content i j q li ne small))

pub place-kind : (i : ℕ) (b t : List ℕ) → InPlace i b t → kind_of t ≡ kind_of b
place-kind i b t h = kind-bytes t b (λ k low. place-mark i b t h k low)

-- so a block of slots stays one
pub place-group : (i : ℕ) (b t : List ℕ) → InPlace i b t → is_group (kind_of b) ≡ false → is_group (kind_of t) ≡ false
place-group i b t h g = ap is_group (place-kind i b t h) ∙ g

-- a sector that is written page by page
pub last-page : (x : List ℕ) → take (length x - 256) (drop 256 x) ≡ drop 256 x
last-page x = let n = length-drop 256 x in take_all (length x - 256) (drop 256 x) (omega (arith, n))

pub two-pages : (b c t x : List ℕ) (at : ℕ) → length x ≡ 512 → c ≡ and_at b at (take 256 x) → t ≡ and_at c (at + 256) (take (length x - 256) (drop 256 x)) → t ≡ and_at b at x
two-pages b c t x at n first second =
    let half : length (take 256 x) ≡ 256 = length-take-le 256 x (omega (arith, n)) in
    second ∙ (ap (λ q. and_at c (at + 256) q) (last-page x) ∙ (ap (λ q. and_at q (at + 256) (drop 256 x)) first ∙ (ap (λ q. and_at (and_at b at (take 256 x)) (at + q) (drop 256 x)) (sym half) ∙ (placed-append bit_and b at (take 256 x) (drop 256 x) ∙ ap (λ q. and_at b at q) (take-append-drop 256 x)))))

-- A program of the mark alone.
pub mark-only : (c : ℕ) (m m' : List ℕ) → OnlyBlock (c + 4) m m' → OnlyBytes 4 4 (data_block m c) (data_block m' c) → OnlyMark c m m'
mark-only c m m' only h = record {
  only = only;
  slots = λ i low. slot-bytes (data_block m c) (data_block m' c) i h.same_length (λ j small. h.each j (omega (arith, small)) (inl small)) (λ j small. h.each (16 + 4 * i + j) (omega (arith, low, small)) (inr (omega arith)))
      (λ j small. h.each (512 * (i + 1) + j) (omega (arith, low, small)) (inr (omega arith)));
  contents = λ i low. part-same 512 (data_block m c) (data_block m' c) (i + 1) h.same_length (λ j small. h.each (512 * (i + 1) + j) (omega (arith, low, small)) (inr (omega arith)));
}

pub state-only : (b t : List ℕ) (x : ℕ) → length b ≡ 4096 → Leaves b (TornAnd b 4 (x ∷ [])) (and_at b 4 (x ∷ [])) t → OnlyBytes 4 4 b t
state-only b t x n l = only-wider 4 1 4 4 b t (omega arith) (omega arith) (leaves-only b (x ∷ []) t 4 n l)

-- the commit of a begun copy, and the settlement of a committed one
pub commit-cut : (t s : ℕ) (m m' : List ℕ) → length (data_block m t) ≡ 4096 → IsBegun t s m → Leaves (data_block m t) (TornAnd (data_block m t) 4 (252 ∷ [])) (and_at (data_block m t) 4 (252 ∷ [])) (data_block m' t)
    → (kind_at m' t ≡ kinds.Void) ⊎ (kind_at m' t ≡ kinds.Committed (s + 4))
commit-cut t s m m' n h l =
    elim (state-leaves 4 1 254 252 (data_block m t) (data_block m' t) bits-commit (omega arith) n h.state refl l) as (λ _. (kind_at m' t ≡ kinds.Void) ⊎ (kind_at m' t ≡ kinds.Committed (s + 4))) [
      | inl e ↦ inl (ap kind_of e ∙ h.void)
      | inr e ↦ inr (ap kind_of e ∙ h.once)
    ]

pub settle-cut : (t s : ℕ) (m m' : List ℕ) → length (data_block m t) ≡ 4096 → kind_at m t ≡ kinds.Committed s → Leaves (data_block m t) (TornAnd (data_block m t) 4 (248 ∷ [])) (and_at (data_block m t) 4 (248 ∷ [])) (data_block m' t)
    → (kind_at m' t ≡ kinds.Committed s) ⊎ (kind_at m' t ≡ kinds.Settled)
settle-cut t s m m' n k l =
    elim (state-leaves 4 2 252 248 (data_block m t) (data_block m' t) bits-retire (omega arith) n (copy-state (data_block m t) s k) refl l) as (λ _. (kind_at m' t ≡ kinds.Committed s) ⊎ (kind_at m' t ≡ kinds.Settled)) [
      | inl e ↦ inl (ap kind_of e ∙ k)
      | inr e ↦ inr (settle-mark (data_block m t) (data_block m' t) s n k e)
    ]

-- an erase that was cut leaves a healthy memory
pub interrupted-healthy : (c : ℕ) (m m' : List ℕ) → EraseInterrupted c m m' → IsHealthy m'
interrupted-healthy c m m' (as_it_was h) = h.healthy
interrupted-healthy c m m' (block_erased healthy h) = healthy
