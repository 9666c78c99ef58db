-- A free slot is made dead, and the head of a block is programmed again.
use Rattle.std.proofs.Common.{◌/◌, ◌%◌, ◌≡◌, ◌≢◌, ℕ, zero, suc, ◌+◌, ◌-◌, ◌*◌, ◌<◌, ◌≤◌, ◌⊎◌, false, List, [], ◌∷◌, length, refl, sym, ap, ◌∙◌, subst, arith, inl, inr}
use Rattle.std.specs.Prelude.{bit_and, min, drop, slice_range, slice_set}
use Rattle.std.proofs.lemmas.Grind.{get_or-set_at}
use Rattle.chip_model.proofs.PartLaws.{part-same}
use Rattle.nor_layout.specs.declared.kind.Kind.TheVariants as kinds
use Rattle.sector_slots.proofs.GroupLaws.{descriptor-slot}
use Rattle.std.specs.Int.{bit_at}
use Rattle.std.specs.Int.Bits.{and_self}
use Rattle.std.proofs.lemmas.Nat.{and_mask, and_assoc}
use Rattle.std.proofs.lemmas.Nat.Bits.{bit_at-suc, bit_at_and}
use Rattle.std.proofs.lemmas.Bool.{cases_lt, cases_eq}
use Rattle.std.proofs.lemmas.List.{ext_get_or, get_or-drop, get_or-set_other}
use Rattle.chip_model.specs.Memory.{byte, and_at, IsMixed, TornAnd}
use Rattle.chip_model.proofs.MemoryLaws.{placed-inside}
use Rattle.chip_model.proofs.BitLaws.{mixed_one, mixed_same}
use Rattle.nor_driver.specs.State.{Leaves, as_before, torn_in_it, changed_whole}
use Rattle.nor_layout.specs.declared.header.Header.TheVariants as headers
use Rattle.nor_layout.specs.Headers.{header_of}
use Rattle.nor_layout.specs.Kinds.{kind_of}
use Rattle.sector_slots.specs.Slots.{data_block, raw_slot, slot_at, slot_count, stored_at, Free, Dead, slot_in, descriptor_in, content_bytes, is_group}
use Rattle.journal_slots.specs.Programs.{OnlyBytes, IsFirmByte, as_read, killed}
use Rattle.journal_slots.proofs.Marks.{header-bytes, kind-bytes}
use Rattle.journal_slots.proofs.Bytes.{and-only, leaves-only, state-leaves, descriptor-place, place-group}
use Rattle.erase_journal.specs.Blocks.{OnlyBlock}
use Rattle.sector_slots.specs.Firm.{KeepsHead, HoldsBegun, AreDeadForGood}
use Rattle.sector_slots.specs.Weak.{block_place, IsDeadForGood}
use Rattle.sector_slots.proofs.FirmLaws.{here, and-bit}
use Rattle.chip_model.specs.Wavering.{Bits}
use Rattle.erase_journal.specs.Journals.{IsSettled}
use Rattle.erase_journal.specs.Weak.{AreZerosFirm}
use Rattle.erase_journal.proofs.WeakLaws.{blank-firm}
use Rattle.sector_slots.specs.Steps.{OnlyPlace}
use Rattle.journal_slots.proofs.Reading.{head-byte, head-kind}
use Rattle.sector_slots.proofs.SlotLaws.{counted-raw}
use Rattle.sector_slots.proofs.HeadLaws.{dead-four, header_number, slot-dead}
use Rattle.journal_slots.proofs.Places.{fresh-descriptor, slot-free, slot-says-dead}
use Rattle.journal_slots.proofs.Slots.{place-counts, free-inside}

bits-kill : (k : ℕ) → k ≢ 2 → bit_at 255 k ≡ bit_at 251 k
bits-kill zero other = refl
bits-kill (suc zero) other = refl
bits-kill (suc (suc zero)) other = absurd (other refl)
bits-kill (suc (suc (suc k))) other =
    bit_at-suc 255 (suc (suc k)) ∙ (bit_at-suc 127 (suc k) ∙ (bit_at-suc 63 k ∙ (sym (bit_at-suc 62 k) ∙ (sym (bit_at-suc 125 (suc k)) ∙ sym (bit_at-suc 251 (suc (suc k)))))))

-- a byte without its third bit differs in that bit alone, and is neither FCh nor FFh
pub bits-killed : (s k : ℕ) → s < 256 → k ≢ 2 → bit_at s k ≡ bit_at (bit_and s 251) k
bits-killed s k low other =
    let whole : bit_and s 255 ≡ s = and_mask s 8 ∙ omega arith in
    ap (λ x. bit_at x k) (sym whole) ∙ (bit_at_and s 255 k ∙ (ap (λ y. min (bit_at s k) y) (bits-kill k other) ∙ sym (bit_at_and s 251 k)))

pub third-none : (s : ℕ) → bit_at (bit_and s 251) 2 ≡ 0
third-none s = let e = bit_at_and s 251 2 in let z : bit_at 251 2 ≡ 0 = refl in e ∙ (ap (λ y. min (bit_at s 2) y) z ∙ omega arith)

not-third : (s v : ℕ) → bit_at v 2 ≡ 1 → bit_and s 251 ≢ v
not-third s v one e = let q : 0 ≡ 1 = sym (third-none s) ∙ (ap (λ x. bit_at x 2) e ∙ one) in omega (arith, q)

pub killed-live : (s : ℕ) → bit_and s 251 ≢ 252
killed-live s = not-third s 252 refl

pub killed-free : (s : ℕ) → bit_and s 251 ≢ 255
killed-free s = not-third s 255 refl

-- A free slot is killed.
pub kill-done : (i : ℕ) (b t : List ℕ) → i < 7 → length b ≡ 4096 → t ≡ and_at b (16 + 4 * i) (251 ∷ []) → is_group (kind_of b) ≡ false → slot_in t i ≡ Dead
kill-done i b t li n e g =
    let d = 16 + 4 * i in
    let z : d + 0 ≡ d = omega arith in
    let first : byte t d ≡ bit_and (byte b d) 251 = ap (λ q. byte q d) e ∙ subst (λ q. byte (and_at b d (251 ∷ [])) q ≡ bit_and (byte b q) 251) z (placed-inside bit_and b d (251 ∷ []) 0 (omega arith) (omega (arith, n, li))) in
    slot-dead t i (place-group i b t (descriptor-place i 1 b t (omega arith) (and-only b (251 ∷ []) t d e)) g) (λ q. killed-free (byte b d) (sym first ∙ q)) (λ q. killed-live (byte b d) (sym first ∙ q))

pub kill-cut : (i : ℕ) (b t : List ℕ) → i < 7 → length b ≡ 4096 → byte b (16 + 4 * i) ≡ 255 → Leaves b (TornAnd b (16 + 4 * i) (251 ∷ [])) (and_at b (16 + 4 * i) (251 ∷ [])) t → is_group (kind_of b) ≡ false
    → (t ≡ b) ⊎ (slot_in t i ≡ Dead)
kill-cut i b t li n free l g = elim (state-leaves (16 + 4 * i) 2 255 251 b t bits-kill (omega (arith, li)) n free refl l) as (λ _. (t ≡ b) ⊎ (slot_in t i ≡ Dead)) [
  | inl e ↦ inl e
  | inr e ↦ inr (kill-done i b t li n e g)
]

and-twice : (s v : ℕ) → bit_and s (bit_and s v) ≡ bit_and s v
and-twice s v = sym (and_assoc v s s) ∙ ap (λ x. bit_and x v) (and_self s)

-- what holds of a byte before, mixed and after a program holds of what it leaves
whole-or-torn : (b h t : List ℕ) (k w : ℕ) → byte (and_at b 0 h) k ≡ w → (P : ℕ → Type 0) → k < length b → P (byte b k) → ((x : ℕ) → IsMixed (byte b k) w x → P x) → P w
    → Leaves b (TornAnd b 0 h) (and_at b 0 h) t → P (byte t k)
whole-or-torn b h t k w e P low before mixed after (as_before s) = subst (λ q. P (byte q k)) (sym s) before
whole-or-torn b h t k w e P low before mixed after (torn_in_it torn) = mixed (byte t k) (subst (λ x. IsMixed (byte b k) x (byte t k)) e (torn.each k low))
whole-or-torn b h t k w e P low before mixed after (changed_whole s) = subst (λ q. P (byte q k)) (sym s) (subst P (sym e) after)

-- The state of a free slot, and a free slot that was killed.
pub free-state : (c i : ℕ) (m : List ℕ) → raw_slot m c i ≡ Free → byte (data_block m c) (16 + 4 * i) ≡ 255
free-state c i m free = let z : 16 + 4 * i + 0 ≡ 16 + 4 * i = omega arith in ap (λ k. byte (data_block m c) k) (sym z) ∙ fresh-descriptor c i m free 0 (omega arith)

pub kill-dead : (w : ℕ) (m m' : List ℕ) → w < slot_count m → OnlyPlace w m m' → slot_at m w ≡ Free → stored_at m' w ≡ Dead → slot_at m' w ≡ Dead
kill-dead w m m' low only free e = place-counts w m m' low only (free-inside (slot_at m w) free) ∙ e

pub kill-left : (w : ℕ) (m m' : List ℕ) → w < slot_count m → OnlyPlace w m m' → slot_at m w ≡ Free → (data_block m' (w / 7) ≡ data_block m (w / 7)) ⊎ (stored_at m' w ≡ Dead) → (slot_at m' w ≡ Free) ⊎ (slot_at m' w ≡ Dead)
kill-left w m m' low only free (inl e) =
    inl (place-counts w m m' low only (free-inside (slot_at m w) free) ∙ (ap (λ b. slot_in b (w % 7)) e ∙ counted-raw m w Free free (free-inside Free refl)))
kill-left w m m' low only free (inr e) = inr (kill-dead w m m' low only free e)

-- a slot by its kind, its descriptor and its sector
slot-same : (b t : List ℕ) (i : ℕ) → kind_of t ≡ kind_of b → header_of (drop (16 + 4 * i) t) ≡ header_of (drop (16 + 4 * i) b) → content_bytes t i ≡ content_bytes b i → slot_in t i ≡ slot_in b i
unfolding slot_in descriptor_in
slot-same b t i k h c = rw (k, h, c) refl

-- a descriptor by its four bytes
four-header : (b x : List ℕ) (i : ℕ) → ((j : ℕ) → 16 + 4 * i ≤ j → j < 20 + 4 * i → byte x j ≡ byte b j) → header_of (drop (16 + 4 * i) b) ≡ header_of (drop (16 + 4 * i) x)
four-header b x i same =
    let at = λ (y : List ℕ) (j : ℕ). get_or-drop (16 + 4 * i) y j 0 in
    header-bytes (drop (16 + 4 * i) b) (drop (16 + 4 * i) x)
    (at b 0 ∙ (sym (same (16 + 4 * i + 0) (omega arith) (omega arith)) ∙ sym (at x 0)))
    (at b 1 ∙ (sym (same (16 + 4 * i + 1) (omega arith) (omega arith)) ∙ sym (at x 1)))
    (at b 2 ∙ (sym (same (16 + 4 * i + 2) (omega arith) (omega arith)) ∙ sym (at x 2)))
    (at b 3 ∙ (sym (same (16 + 4 * i + 3) (omega arith) (omega arith)) ∙ sym (at x 3)))

moved : (b x y : List ℕ) (k : ℕ) → byte y k ≡ byte x k → IsFirmByte b x k → IsFirmByte b y k
moved b x y k e (as_read f) = as_read (e ∙ f)
moved b x y k e (killed i li at dead f) = killed i li at dead (e ∙ f)

-- The first 44 bytes of a block are programmed, whole or torn.
module _ (b h t : List ℕ) (n : length b ≡ 4096) (size : length h ≡ 44) (bytes : (k : ℕ) → k < 44 → byte b k < 256)
    (each : (k : ℕ) → k < 44 → IsFirmByte b h k) (l : Leaves b (TornAnd b 0 h) (and_at b 0 h) t) where
  only : OnlyBytes 0 44 b t
  only = subst (λ q. OnlyBytes 0 q b t) size (leaves-only b h t 0 n l)

  and-byte : (k : ℕ) → k < 44 → byte (and_at b 0 h) k ≡ bit_and (byte b k) (byte h k)
  and-byte k low = let z : 0 + k ≡ k = omega arith in subst (λ q. byte (and_at b 0 h) q ≡ bit_and (byte b q) (byte h k)) z (placed-inside bit_and b 0 h k (omega arith) (omega arith))

  outside : (k : ℕ) → 44 ≤ k → k < 4096 → byte t k ≡ byte b k
  outside k high low = only.each k low (inr high)

  -- a byte that is programmed as it was
  same-byte : (k : ℕ) → k < 44 → byte h k ≡ byte b k → byte t k ≡ byte b k
  same-byte k low e =
      let w : byte (and_at b 0 h) k ≡ byte b k = and-byte k low ∙ (ap (λ x. bit_and (byte b k) x) e ∙ and_self (byte b k)) in
      whole-or-torn b h t k (byte b k) w (λ x. x ≡ byte b k) (omega arith) refl (λ x m. mixed_same (byte b k) x m) refl l

  -- and one without its third bit: that one, or as it was
  killed-byte : (k : ℕ) → k < 44 → byte h k ≡ bit_and (byte b k) 251 → (byte t k ≡ byte b k) ⊎ (byte t k ≡ bit_and (byte b k) 251)
  killed-byte k low e =
      let s = byte b k in
      let w : byte (and_at b 0 h) k ≡ bit_and s 251 = and-byte k low ∙ (ap (λ x. bit_and s x) e ∙ and-twice s 251) in
      whole-or-torn b h t k (bit_and s 251) w (λ x. (x ≡ s) ⊎ (x ≡ bit_and s 251)) (omega arith) (inl refl)
      (λ x m. mixed_one 2 s (bit_and s 251) x (λ j ne. bits-killed s j (bytes k low) ne) m) (inr refl) l

  firm-elsewhere : (k : ℕ) → k < 44 → ((i : ℕ) → i < 7 → k ≡ 16 + 4 * i → ⊥) → IsFirmByte b h k → byte t k ≡ byte b k
  firm-elsewhere k low other (as_read e) = same-byte k low e
  firm-elsewhere k low other (killed i li at dead e) = absurd (other i li at)

  -- the kind
  pub firm-kind : kind_of t ≡ kind_of b
  firm-kind = kind-bytes t b (λ k low. firm-elsewhere k (omega arith) (λ i li at. omega (arith, at, low)) (each k (omega arith)))

  pub firm-content : (i : ℕ) → i < 7 → content_bytes t i ≡ content_bytes b i
  firm-content i li = part-same 512 b t (i + 1) only.same_length (λ q low. outside (512 * (i + 1) + q) (omega (arith, low)) (omega (arith, li, low)))

  rest-byte : (i j : ℕ) → i < 7 → 0 < j → j < 4 → byte t (16 + 4 * i + j) ≡ byte b (16 + 4 * i + j)
  rest-byte i j li some low = firm-elsewhere (16 + 4 * i + j) (omega (arith, li, low)) (λ p lp at. omega (arith, at, some, low)) (each (16 + 4 * i + j) (omega (arith, li, low)))

  at-place : (x : List ℕ) (i j : ℕ) → byte (drop (16 + 4 * i) x) j ≡ byte x (16 + 4 * i + j)
  at-place x i j = get_or-drop (16 + 4 * i) x j 0

  same-header : (i : ℕ) → i < 7 → byte t (16 + 4 * i) ≡ byte b (16 + 4 * i) → header_of (drop (16 + 4 * i) t) ≡ header_of (drop (16 + 4 * i) b)
  same-header i li e =
      let z : 16 + 4 * i + 0 ≡ 16 + 4 * i = omega arith in
      header-bytes (drop (16 + 4 * i) t) (drop (16 + 4 * i) b)
      (at-place t i 0 ∙ (ap (λ k. byte t k) z ∙ (e ∙ (ap (λ k. byte b k) (sym z) ∙ sym (at-place b i 0)))))
      (at-place t i 1 ∙ (rest-byte i 1 li (omega arith) (omega arith) ∙ sym (at-place b i 1)))
      (at-place t i 2 ∙ (rest-byte i 2 li (omega arith) (omega arith) ∙ sym (at-place b i 2)))
      (at-place t i 3 ∙ (rest-byte i 3 li (omega arith) (omega arith) ∙ sym (at-place b i 3)))

  killed-header : (i : ℕ) → i < 7 → header_of (drop (16 + 4 * i) b) ≡ headers.Dead → byte h (16 + 4 * i) ≡ bit_and (byte b (16 + 4 * i)) 251
      → header_of (drop (16 + 4 * i) t) ≡ header_of (drop (16 + 4 * i) b)
  killed-header i li dead e = elim (killed-byte (16 + 4 * i) (omega (arith, li)) e) as (λ _. header_of (drop (16 + 4 * i) t) ≡ header_of (drop (16 + 4 * i) b)) [
    | inl same ↦ same-header i li same
    | inr now ↦
        let z : 16 + 4 * i + 0 ≡ 16 + 4 * i = omega arith in
        let first : byte (drop (16 + 4 * i) t) 0 ≡ bit_and (byte b (16 + 4 * i)) 251 = at-place t i 0 ∙ (ap (λ k. byte t k) z ∙ now) in
        dead-four (drop (16 + 4 * i) t) (λ q. killed-free (byte b (16 + 4 * i)) (sym first ∙ q)) (λ q. killed-live (byte b (16 + 4 * i)) (sym first ∙ q)) ∙ sym dead
  ]

  place-header : (i : ℕ) → i < 7 → IsFirmByte b h (16 + 4 * i) → header_of (drop (16 + 4 * i) t) ≡ header_of (drop (16 + 4 * i) b)
  place-header i li (as_read e) = same-header i li (same-byte (16 + 4 * i) (omega (arith, li)) e)
  place-header i li (killed p lp at dead e) =
      let same : p ≡ i = omega (arith, at) in
      killed-header i li (subst (λ q. header_of (drop (16 + 4 * q) b) ≡ headers.Dead) same dead) e

  pub firm-slot : (i : ℕ) → i < 7 → slot_in t i ≡ slot_in b i
  firm-slot i li = slot-same b t i firm-kind (place-header i li (each (16 + 4 * i) (omega (arith, li)))) (firm-content i li)

  -- where no slot is dead nothing changes
  pub firm-spare : ((i : ℕ) → i < 7 → header_of (drop (16 + 4 * i) b) ≢ headers.Dead) → t ≡ b
  firm-spare none = ext_get_or 0 t b only.same_length (λ k q. elim (cases_lt k 44) as (λ _. byte t k ≡ byte b k) [
    | inl low ↦ undead k low (each k low)
    | inr high ↦ outside k high (let w = only.same_length in omega (arith, q, w, n))
  ]) where
    undead : (k : ℕ) → k < 44 → IsFirmByte b h k → byte t k ≡ byte b k
    undead k low (as_read e) = same-byte k low e
    undead k low (killed i li at dead e) = absurd (none i li dead)

-- A free slot's descriptor isn't dead.
pub spare-undead : (b : List ℕ) (i : ℕ) → kind_of b ≡ kinds.Plain → slot_in b i ≡ Free → header_of (drop (16 + 4 * i) b) ≢ headers.Dead
spare-undead b i plain free dead =
    let g : is_group (kind_of b) ≡ false = ap is_group plain in
    let f : headers.Free ≡ headers.Dead = sym (slot-free b i free) ∙ (descriptor-slot b i g ∙ dead) in
    let q : 0 ≡ 3 = ap header_number f in omega (arith, q)

-- What was read of a block is its bytes.
pub firm-read : (b head h : List ℕ) (k : ℕ) → k < 44 → ((j : ℕ) → j < 44 → byte head j ≡ byte b j) → IsFirmByte head h k → IsFirmByte b h k
firm-read b head h k low same (as_read e) = as_read (e ∙ same k low)
firm-read b head h k low same (killed i li at dead e) = killed i li at (four-header b head i (λ j from to. same j (omega (arith, to, li))) ∙ dead) (e ∙ ap (λ x. bit_and x 251) (same k low))

-- One more place of a head is made firm.
pub firm-step : (b x : List ℕ) (p v : ℕ) → p < 7 → length x ≡ 44 → ((k : ℕ) → k < 44 → IsFirmByte b x k) → ((k : ℕ) → 16 + 4 * p ≤ k → byte x k ≡ byte b k)
    → (v ≡ byte x (16 + 4 * p)) ⊎ ((header_of (drop (16 + 4 * p) x) ≡ headers.Dead) × (v ≡ bit_and (byte x (16 + 4 * p)) 251))
    → (k : ℕ) → k < 44 → IsFirmByte b (slice_set x (16 + 4 * p) v) k
firm-step b x p v lp n each rest state k low = elim (cases_eq k (16 + 4 * p)) as (λ _. IsFirmByte b (slice_set x (16 + 4 * p) v) k) [
  | inr other ↦ moved b x (slice_set x (16 + 4 * p) v) k (get_or-set_other x (16 + 4 * p) k v 0 other) (each k low)
  | inl here ↦
      let now : byte (slice_set x (16 + 4 * p) v) k ≡ v = get_or-set_at x (16 + 4 * p) k v 0 here (omega (arith, n, lp)) in
      let was : byte x (16 + 4 * p) ≡ byte b k = rest (16 + 4 * p) (omega arith) ∙ ap (λ q. byte b q) (sym here) in
      elim state as (λ _. IsFirmByte b (slice_set x (16 + 4 * p) v) k) [
        | inl same ↦ as_read (now ∙ (same ∙ was))
        | inr dead ↦ killed p lp here (four-header b x p (λ j from to. rest j from) ∙ dead.0) (now ∙ (dead.1 ∙ ap (λ q. bit_and q 251) was))
      ]
]

-- What the program of a head leaves of the slots of a memory.
pub head-kept : (c : ℕ) (m m' : List ℕ) (head h : List ℕ) → length (data_block m c) ≡ 4096 → length h ≡ 44 → head ≡ slice_range (data_block m c) 0 44 → ((k : ℕ) → byte head k < 256)
    → ((k : ℕ) → k < 44 → IsFirmByte head h k) → OnlyBlock (c + 4) m m' → Leaves (data_block m c) (TornAnd (data_block m c) 0 h) (and_at (data_block m c) 0 h) (data_block m' c) → KeepsHead c m m'
head-kept c m m' head h n size read bytes each only l =
    let b = data_block m c in
    let t = data_block m' c in
    let same : (j : ℕ) → j < 44 → byte head j ≡ byte b j = λ j low. head-byte b head j read low in
    let firm : (k : ℕ) → k < 44 → IsFirmByte b h k = λ k low. firm-read b head h k low same (each k low) in
    let small : (k : ℕ) → k < 44 → byte b k < 256 = λ k low. subst (λ x. x < 256) (same k low) (bytes k) in
    record {
      only = only;
      kind = firm-kind b h t n size small firm l;
      slots = λ i li. firm-slot b h t n size small firm l i li;
      contents = λ i li. firm-content b h t n size small firm l i li;
      spare = λ s. firm-spare b h t n size small firm l (λ i li. spare-undead b i s.plain (s.free i li));
    }

-- nothing was programmed
pub head-same : (c : ℕ) (m m' : List ℕ) → m' ≡ m → KeepsHead c m m'
head-same c m m' e = subst (λ z. KeepsHead c m z) (sym e) (record {
  only = record { chip = record { same_length = refl; superblock = λ k low. refl }; others = λ d from to other. refl };
  kind = refl;
  slots = λ i li. refl;
  contents = λ i li. refl;
  spare = λ s. refl;
})

-- Whether a slot is begun, by the bytes that were read.
pub begun-holds : (b head : List ℕ) → head ≡ slice_range b 0 44 → is_group (kind_of head) ≡ false → (i : ℕ) × (i < 7) × (byte head (16 + 4 * i) ≡ 254) → HoldsBegun b
begun-holds b head read g (i, low, e) = record {
  slots = ap is_group (sym (head-kind b head read)) ∙ g;
  place = i;
  within = low;
  begun = sym (head-byte b head (16 + 4 * i) read (omega (arith, low))) ∙ e;
}

pub none-begun : (b head : List ℕ) → head ≡ slice_range b 0 44 → (is_group (kind_of head) ≡ false → (i : ℕ) → i < 7 → byte head (16 + 4 * i) ≢ 254) → HoldsBegun b → ⊥
none-begun b head read none h = let low = h.within in
    none (ap is_group (head-kind b head read) ∙ h.slots) h.place h.within (head-byte b head (16 + 4 * h.place) read (omega (arith, low)) ∙ h.begun)

pub blank-begun : (b head : List ℕ) → head ≡ slice_range b 0 44 → ((k : ℕ) → k < 44 → byte head k ≡ 255) → HoldsBegun b → ⊥
blank-begun b head read blank h = none-begun b head read (λ g i low e. let q = blank (16 + 4 * i) (omega (arith, low)) in omega (arith, e, q)) h

-- One more place: of a state that was dead and not begun the third bit is 0.
pub dead-step : (b x : List ℕ) (p v : ℕ) → p < 7 → length x ≡ 44
    → ((i : ℕ) → i < p → header_of (drop (16 + 4 * i) b) ≡ headers.Dead → byte b (16 + 4 * i) ≢ 254 → bit_at (byte x (16 + 4 * i)) 2 ≡ 0)
    → ((k : ℕ) → 16 + 4 * p ≤ k → byte x k ≡ byte b k)
    → (header_of (drop (16 + 4 * p) x) ≡ headers.Dead → byte x (16 + 4 * p) ≢ 254 → bit_at v 2 ≡ 0)
    → (i : ℕ) → i < p + 1 → header_of (drop (16 + 4 * i) b) ≡ headers.Dead → byte b (16 + 4 * i) ≢ 254 → bit_at (byte (slice_set x (16 + 4 * p) v) (16 + 4 * i)) 2 ≡ 0
dead-step b x p v lp n each rest now i low dead other = elim (cases_lt i p) as (λ _. bit_at (byte (slice_set x (16 + 4 * p) v) (16 + 4 * i)) 2 ≡ 0) [
  | inl below ↦
      let away : 16 + 4 * i ≢ 16 + 4 * p = omega arith in
      ap (λ q. bit_at q 2) (get_or-set_other x (16 + 4 * p) (16 + 4 * i) v 0 away) ∙ each i below dead other
  | inr from ↦
      let same : p ≡ i = omega arith in
      let at : 16 + 4 * i ≡ 16 + 4 * p = omega arith in
      let was : byte x (16 + 4 * p) ≡ byte b (16 + 4 * p) = rest (16 + 4 * p) (omega arith) in
      ap (λ q. bit_at q 2) (get_or-set_at x (16 + 4 * p) (16 + 4 * i) v 0 at (omega (arith, n, lp)))
      ∙ now (sym (four-header b x p (λ j above to. rest j above)) ∙ subst (λ q. header_of (drop (16 + 4 * q) b) ≡ headers.Dead) (sym same) dead)
      (λ q. other (ap (λ k. byte b k) at ∙ (sym was ∙ q)))
]

-- A state that was begun is programmed as it was.
pub begun-step : (b x : List ℕ) (p v : ℕ) → p < 7 → length x ≡ 44 → ((i : ℕ) → i < p → byte b (16 + 4 * i) ≡ 254 → byte x (16 + 4 * i) ≡ 254)
    → ((k : ℕ) → 16 + 4 * p ≤ k → byte x k ≡ byte b k) → (byte x (16 + 4 * p) ≡ 254 → v ≡ 254) → (i : ℕ) → i < p + 1 → byte b (16 + 4 * i) ≡ 254 → byte (slice_set x (16 + 4 * p) v) (16 + 4 * i) ≡ 254
begun-step b x p v lp n each rest now i low was = elim (cases_lt i p) as (λ _. byte (slice_set x (16 + 4 * p) v) (16 + 4 * i) ≡ 254) [
  | inl below ↦
      let away : 16 + 4 * i ≢ 16 + 4 * p = omega arith in
      get_or-set_other x (16 + 4 * p) (16 + 4 * i) v 0 away ∙ each i below was
  | inr from ↦
      let at : 16 + 4 * i ≡ 16 + 4 * p = omega arith in
      get_or-set_at x (16 + 4 * p) (16 + 4 * i) v 0 at (omega (arith, n, lp)) ∙ now (rest (16 + 4 * p) (omega arith) ∙ (ap (λ k. byte b k) (sym at) ∙ was))
]

-- The first 44 bytes of a block were programmed: each bit of them that reads 0 is firm, and each slot
-- that was dead and not begun is dead for good.
module _ (c : ℕ) (old new : Bits) (head h : List ℕ) (n : length (data_block old.shown c) ≡ 4096) (size : length h ≡ 44) (read : head ≡ slice_range (data_block old.shown c) 0 44)
    (each : (k : ℕ) → k < 44 → IsFirmByte head h k) (settled : IsSettled new.shown) (is : data_block new.shown c ≡ and_at (data_block old.shown c) 0 h)
    (weak : new.weak ≡ and_at old.weak (block_place c + 0) h) where
  head-firm : (k : ℕ) → k < 44 → IsFirmByte (data_block old.shown c) h k
  head-firm k low = firm-read (data_block old.shown c) head h k low (λ j small. head-byte (data_block old.shown c) head j read small) (each k low)

  head-and : (k : ℕ) → k < 44 → IsFirmByte (data_block old.shown c) h k → bit_and (byte (data_block old.shown c) k) (byte h k) ≡ byte h k
  head-and k low (as_read e) = ap (λ x. bit_and (byte (data_block old.shown c) k) x) e ∙ (and_self (byte (data_block old.shown c) k) ∙ sym e)
  head-and k low (killed i li at dead e) = ap (λ x. bit_and (byte (data_block old.shown c) k) x) e ∙ (and-twice (byte (data_block old.shown c) k) 251 ∙ sym e)

  head-shown : (k : ℕ) → k < 44 → byte new.shown (block_place c + k) ≡ byte h k
  head-shown k low =
      let z : 0 + k ≡ k = omega arith in
      let p : byte (and_at (data_block old.shown c) 0 h) k ≡ bit_and (byte (data_block old.shown c) k) (byte h k) =
      subst (λ q. byte (and_at (data_block old.shown c) 0 h) q ≡ bit_and (byte (data_block old.shown c) q) (byte h k)) z (placed-inside bit_and (data_block old.shown c) 0 h k (omega arith) (omega arith)) in
      sym (here new.shown c k settled (omega arith)) ∙ (ap (λ b. byte b k) is ∙ (p ∙ head-and k low (head-firm k low)))

  head-weak : (k j : ℕ) → k < 44 → bit_at (byte h k) j ≡ 0 → bit_at (byte new.weak (block_place c + k)) j ≡ 0
  head-weak k j low none =
      let z : block_place c + 0 + k ≡ block_place c + k = omega arith in
      ap (λ w. bit_at (byte w (block_place c + k)) j) weak
      ∙ subst (λ q. bit_at (byte (and_at old.weak (block_place c + 0) h) q) j ≡ 0) z (and-bit old.weak (block_place c + 0) h k j (omega arith) none)

  pub head-zeros : AreZerosFirm new (block_place c) 44
  head-zeros i j from to low none =
      let is_there : block_place c + (i - block_place c) ≡ i = omega arith in
      let inside : i - block_place c < 44 = omega arith in
      let zero_bit : bit_at (byte h (i - block_place c)) j ≡ 0 = ap (λ x. bit_at x j) (sym (head-shown (i - block_place c) inside) ∙ ap (λ q. byte new.shown q) is_there) ∙ none in
      ap (λ q. bit_at (byte new.weak q) j) (sym is_there) ∙ head-weak (i - block_place c) j inside zero_bit

  pub head-for-good : ((i : ℕ) → i < 7 → header_of (drop (16 + 4 * i) head) ≡ headers.Dead → byte head (16 + 4 * i) ≢ 254 → bit_at (byte h (16 + 4 * i)) 2 ≡ 0)
      → ((i : ℕ) → i < 7 → byte head (16 + 4 * i) ≡ 254 → byte h (16 + 4 * i) ≡ 254) → AreDeadForGood c old.shown new
  head-for-good dead begun g i low is_dead =
      let b = data_block old.shown c in
      let same : (j : ℕ) → j < 44 → byte head j ≡ byte b j = λ j small. head-byte b head j read small in
      let said : header_of (drop (16 + 4 * i) b) ≡ headers.Dead = sym (descriptor-slot b i g) ∙ slot-says-dead b i is_dead in
      elim (cases_eq (byte head (16 + 4 * i)) 254) as (λ _. IsDeadForGood new c i ⊎ ((byte b (16 + 4 * i) ≡ 254) × (byte (data_block new.shown c) (16 + 4 * i) ≡ 254))) [
        | inl state ↦ inr (sym (same (16 + 4 * i) (omega (arith, low))) ∙ state, here new.shown c (16 + 4 * i) settled (omega (arith, low)) ∙ (head-shown (16 + 4 * i) (omega (arith, low)) ∙ begun i low state))
        | inr other ↦
            let third = dead i low (sym (four-header b head i (λ j from to. same j (omega (arith, to, low)))) ∙ said) other in
            inl (record {
              bit = 2;
              from = omega arith;
              below = omega arith;
              reads = ap (λ x. bit_at x 2) (head-shown (16 + 4 * i) (omega (arith, low))) ∙ third;
              firm = head-weak (16 + 4 * i) 2 (omega (arith, low)) third;
            })
      ]

-- A head that is erased has no bit that reads 0, and no slot of it is dead.
pub blank-zeros : (c : ℕ) (m w : List ℕ) (head : List ℕ) → IsSettled m → head ≡ slice_range (data_block m c) 0 44 → ((k : ℕ) → k < 44 → byte head k ≡ 255) → AreZerosFirm (record { shown = m; weak = w }) (block_place c) 44
blank-zeros c m w head settled read full = blank-firm (record { shown = m; weak = w }) (block_place c) 44
    (λ k low. sym (here m c k settled (omega arith)) ∙ (sym (head-byte (data_block m c) head k read low) ∙ full k low))

pub blank-for-good : (c : ℕ) (m : List ℕ) (b : Bits) (head : List ℕ) → head ≡ slice_range (data_block m c) 0 44 → ((k : ℕ) → k < 44 → byte head k ≡ 255) → AreDeadForGood c m b
blank-for-good c m b head read full g i low is_dead =
    let at = λ (j : ℕ) (small : j < 4). get_or-drop (16 + 4 * i) (data_block m c) j 0 ∙ (sym (head-byte (data_block m c) head (16 + 4 * i + j) read (omega (arith, low, small))) ∙ full (16 + 4 * i + j) (omega (arith, low, small))) in
    let free : header_of (drop (16 + 4 * i) (data_block m c)) ≡ headers.Free = rw (at 0 (omega arith), at 1 (omega arith), at 2 (omega arith), at 3 (omega arith)) refl in
    let q : 0 ≡ 3 = ap header_number (sym free ∙ (sym (descriptor-slot (data_block m c) i g) ∙ slot-says-dead (data_block m c) i is_dead)) in
    absurd (omega (arith, q))
