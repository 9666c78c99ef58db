-- A data block of slots as it reads at a later power-on: it is as one interrupted change leaves it.
use Rattle.std.proofs.Common.{◌≡◌, ◌≢◌, ℕ, ◌+◌, ◌-◌, ◌*◌, ◌<◌, ◌≤◌, ◌⊎◌, true, false, List, length, refl, sym, ap, ◌∙◌, subst, arith, inl, inr}
use Rattle.std.specs.Prelude.{◌/◌, ◌%◌, min}
use Rattle.std.specs.Int.{bit_at}
use Rattle.std.proofs.lemmas.Bool.{cases_eq, cases_lt}
use Rattle.std.proofs.lemmas.Nat.Bits.{same_from_bits}
use Rattle.chip_model.specs.Memory.{byte}
use Rattle.chip_model.specs.Parts.{part}
use Rattle.chip_model.specs.Wavering.{Bits, Drawn}
use Rattle.chip_model.proofs.PartLaws.{get-part, length-part}
use Rattle.nor_layout.specs.declared.header.Tag.{Tag}
use Rattle.nor_layout.specs.declared.kind.Kind.{Kind}
use Rattle.nor_layout.specs.declared.kind.Kind.TheVariants as kinds
use Rattle.erase_journal.specs.Blocks.{block, is_opened}
use Rattle.erase_journal.specs.Weak.{AreFirm}
use Rattle.sector_slots.specs.Half.{HasMark}
use Rattle.sector_slots.specs.Slots.{Slot, Free, Live, NoGeneration, Dead, Outside, data_blocks, data_block, kind_at, raw_slot, slot_at, copies, is_group, is_void, IsSpareIn}
use Rattle.sector_slots.specs.Sectors.{zeros, IsSoundMap}
use Rattle.sector_slots.specs.Blocks.{IsAtRest, AreAtRest}
use Rattle.sector_slots.specs.Weak.{block_place, mark_place, descriptor_place, sector_place, IsDeadForGood, IsFadingSlot, AreEdgesFirm, IsSureSlot, firm, dead, fading, IsDoubtfulSlot, IsDoubtfulMark, IsSureBlock, AreOnesFirm, HalfMark, HalfSlot, IsHalfBlock, HasNewer, HasSureRoom, spare, void}
use Rattle.sector_slots.proofs.CopyLaws.{counted-in, copies-none, at-rest-copies, at-rest-counts}
use Rattle.sector_slots.proofs.GroupLaws.{group-four}
use Rattle.sector_slots.proofs.FirmLaws.{bit-firm, slot_number}
use Rattle.sector_slots.proofs.TornBits.{begin-step, one-weak}
use Rattle.sector_slots.proofs.HeadLaws.{marked-four, slot-inside, slot-dead, slot-unlive, live-state, free-state, slot-bytes, killed-state, kind-eight, idle-kind, rest-marked, byte-4}

-- where no erase goes on
pub unopened-own : (m : List ℕ) (b : ℕ) → is_opened m b ≡ false → block m b ≡ part 4096 m b
unfolding block
unopened-own m b e = rw e refl

-- bytes that are firm have no weak bit that reads 1
pub firm-ones : (b : Bits) (at n : ℕ) → AreFirm b.weak at n → AreOnesFirm b at n
firm-ones b at n h i k from to one = (let e : at + (i - at) ≡ i = omega (arith, from) in bit-firm b.weak i k (ap (λ q. byte b.weak q) (sym e) ∙ h (i - at) (omega (arith, from, to))))

-- the first of bytes that are firm, and the three after it
pub first-firm : (w : List ℕ) (at n : ℕ) → 0 < n → AreFirm w at n → byte w at ≡ 0
first-firm w at n some f = (let e : at ≡ at + 0 = omega arith in ap (λ q. byte w q) e) ∙ f 0 some

pub firm-after : (w : List ℕ) (at : ℕ) → AreFirm w at 4 → AreFirm w (at + 1) 3
firm-after w at f k low = (let e : at + 1 + k ≡ at + (1 + k) = omega arith in ap (λ q. byte w q) e) ∙ f (1 + k) (omega (arith, low))

-- a slot of whose state a bit reads 0 that a free one and a live one have
pub dead-reads : (m : List ℕ) (c i k : ℕ) → data_block m c ≡ part 4096 m (c + 4) → is_group (kind_at m c) ≡ false → i < 7 → 2 ≤ k → k < 8 → bit_at (byte m (descriptor_place c i)) k ≡ 0 → raw_slot m c i ≡ Dead
dead-reads m c i k own slots low from below none =
    let there : byte (data_block m c) (16 + 4 * i) ≡ byte m (descriptor_place c i) = ap (λ x. byte x (16 + 4 * i)) own ∙ get-part 4096 m (c + 4) (16 + 4 * i) (omega (arith, low)) in
    let no = killed-state (byte (data_block m c) (16 + 4 * i)) k from below (ap (λ x. bit_at x k) there ∙ none) in
    slot-dead (data_block m c) i slots no.0 no.1

-- No slot of a block that counts is without a generation.
pub counted-whole : (m : List ℕ) (c i : ℕ) → IsSoundMap m → c < data_blocks m → i < 7 → is_void (kind_at m c) ≡ false → copies (kind_at m) (data_blocks m) c ≡ 0 → raw_slot m c i ≢ NoGeneration
counted-whole m c i sound low within counts none e =
    let s = 7 * c + i in
    let at : s / 7 ≡ c = omega (arith, within) in
    let place : s % 7 ≡ i = omega (arith, within) in
    let here : slot_at m s ≡ raw_slot m (s / 7) (s % 7) = counted-in (kind_at m) (raw_slot m) (data_blocks m) s (ap (λ q. is_void (kind_at m q)) at ∙ counts) (ap (λ q. copies (kind_at m) (data_blocks m) q) at ∙ none) in
    sound.slots.whole s (omega (arith, low, within)) (here ∙ (ap (λ q. raw_slot m q (s % 7)) at ∙ (ap (λ q. raw_slot m c q) place ∙ e)))

-- so it is of each one where no copying goes on
pub whole-slots : (m : List ℕ) (c i : ℕ) → IsSoundMap m → AreAtRest (kind_at m) (data_blocks m) → c < data_blocks m → i < 7 → raw_slot m c i ≢ NoGeneration
whole-slots m c i sound rest low within = counted-whole m c i sound low within (at-rest-counts (kind_at m c) (rest c low)) (copies-none (kind_at m) (data_blocks m) c (λ d inside. at-rest-copies (c + 4) (kind_at m d) (rest d inside)))

-- A block of slots reads as that of b, but for the weak bits of b, at the places of which P holds: a power-on reads it, after a call that left what is there.
pub record IsBlockRead (P : ℕ → Type 0) (b : Bits) (m' : List ℕ) (c : ℕ) : Type 0 where
  pub was_own : data_block b.shown c ≡ part 4096 b.shown (c + 4)
  pub is_own : data_block m' c ≡ part 4096 m' (c + 4)
  pub same_length : length m' ≡ length b.shown
  pub start : (k : ℕ) → k < 4 → P k
  pub reads : (k j : ℕ) → k < 4096 → P k → bit_at (byte b.weak (block_place c + k)) j ≡ 0 → bit_at (byte m' (block_place c + k)) j ≡ bit_at (byte b.shown (block_place c + k)) j
  pub edges : AreEdgesFirm b.weak c
  pub slots : is_group (kind_at b.shown c) ≡ false

-- P holds of the places of a slot: of those of its descriptor after the state, and of its sector
pub record IsBesideState (P : ℕ → Type 0) (i : ℕ) : Type 0 where
  pub descriptor : (j : ℕ) → 1 ≤ j → j < 4 → P (16 + 4 * i + j)
  pub sector : (j : ℕ) → j < 512 → P (512 * (i + 1) + j)

-- and of the state
pub record IsBesideSlot (P : ℕ → Type 0) (i : ℕ) : Type 0 where
  pub state : P (16 + 4 * i)
  pub rest : IsBesideState P i

-- A slot that was left as it was is sure or doubtful. Of one that was changed all is said that a mount needs: it is free only if it was.
pub data IsTornSlot (P : ℕ → Type 0) (b : Bits) (m' : List ℕ) (c i : ℕ) : Type 0 where
  left_sure : IsBesideSlot P i → IsSureSlot b c i → IsTornSlot P b m' c i
  left_doubtful : IsBesideSlot P i → IsDoubtfulSlot b c i → IsTornSlot P b m' c i
  changed : (raw_slot m' c i ≡ Free → raw_slot b.shown c i ≡ Free) → HalfSlot (raw_slot m' c i) (record { shown = m'; weak = b.weak }) c i → IsTornSlot P b m' c i

module _ (P : ℕ → Type 0) (b : Bits) (m' : List ℕ) (c : ℕ) (d : IsBlockRead P b m' c) where
  abbrev now : Bits
  now = record { shown = m'; weak = b.weak }

  was-there : (k : ℕ) → k < 4096 → byte (data_block b.shown c) k ≡ byte b.shown (block_place c + k)
  was-there k low = ap (λ x. byte x k) d.was_own ∙ get-part 4096 b.shown (c + 4) k low

  pub is-there : (k : ℕ) → k < 4096 → byte (data_block m' c) k ≡ byte m' (block_place c + k)
  is-there k low = ap (λ x. byte x k) d.is_own ∙ get-part 4096 m' (c + 4) k low

  drawn-bit : (k j : ℕ) → k < 4096 → P k → bit_at (byte b.weak (block_place c + k)) j ≡ 0 → bit_at (byte (data_block m' c) k) j ≡ bit_at (byte (data_block b.shown c) k) j
  drawn-bit k j low left f = ap (λ x. bit_at x j) (is-there k low) ∙ (d.reads k j low left f ∙ sym (ap (λ x. bit_at x j) (was-there k low)))

  drawn-byte : (k : ℕ) → k < 4096 → P k → byte b.weak (block_place c + k) ≡ 0 → byte (data_block m' c) k ≡ byte (data_block b.shown c) k
  drawn-byte k low left f = same_from_bits (byte (data_block m' c) k) (byte (data_block b.shown c) k) (λ j. drawn-bit k j low left (bit-firm b.weak (block_place c + k) j f))

  drawn-length : length (data_block m' c) ≡ length (data_block b.shown c)
  drawn-length = ap length d.is_own ∙ (length-part 4096 m' (c + 4) ∙ (ap (λ n. min 4096 (n - 4096 * (c + 4))) d.same_length ∙ (sym (length-part 4096 b.shown (c + 4)) ∙ sym (ap length d.was_own))))

  drawn-start : (k : ℕ) → k < 4 → byte (data_block m' c) k ≡ byte (data_block b.shown c) k
  drawn-start k low = drawn-byte k (omega (arith, low)) (d.start k low) (d.edges.start k low)

  pub drawn-group : is_group (kind_at m' c) ≡ false
  drawn-group = group-four (data_block b.shown c) (data_block m' c) (drawn-start 0 (omega arith)) (drawn-start 1 (omega arith)) (drawn-start 2 (omega arith)) (drawn-start 3 (omega arith)) ∙ d.slots

  -- the first bytes of a block with a mark
  pub marked-start : HasMark (kind_at b.shown c) → (k : ℕ) → k < 4 → byte (data_block m' c) k ≡ 255
  marked-start p k low = drawn-start k low ∙ marked-four (data_block b.shown c) p k low

  -- a mark that is firm
  pub drawn-kind : ((k : ℕ) → k < 4 → P (4 + k)) → AreFirm b.weak (mark_place c) 4 → kind_at m' c ≡ kind_at b.shown c
  drawn-kind left f = kind-eight (data_block m' c) (data_block b.shown c) (λ k low. elim (cases_lt k 4) [
    | inl start ↦ drawn-start k start
    | inr after ↦
        let e : mark_place c + (k - 4) ≡ block_place c + k = omega (arith, after) in
        let z : 4 + (k - 4) ≡ k = omega (arith, after) in
        drawn-byte k (omega (arith, low)) (subst (λ q. P q) z (left (k - 4) (omega (arith, low, after)))) (ap (λ q. byte b.weak q) (sym e) ∙ f (k - 4) (omega (arith, low, after)))
  ])

  -- and one that reads as none, or as begun
  pub begun-kind : kind_at b.shown c ≡ kinds.Plain → ((k : ℕ) → k ≢ 0 → bit_at (byte (data_block m' c) 4) k ≡ bit_at 255 k) → (kind_at m' c ≡ kinds.Plain) ⊎ (kind_at m' c ≡ kinds.Void)
  begun-kind plain same = idle-kind (data_block m' c) (marked-start (subst (λ k. HasMark k) (sym plain) tt)) (one-weak 0 255 254 (byte (data_block m' c) 4) begin-step same)

  -- and one that is doubtful
  pub drawn-idle : P 4 → IsDoubtfulMark b c → (kind_at m' c ≡ kinds.Plain) ⊎ (kind_at m' c ≡ kinds.Void)
  drawn-idle left h =
      let plain = h.spare.plain in
      begun-kind plain (λ k other. drawn-bit 4 k (omega arith) left (h.state k other) ∙ ap (λ x. bit_at x k) (byte-4 (data_block b.shown c) plain))

  -- a slot whose bytes read the same
  drawn-same : (i : ℕ) → i < 7 → IsBesideState P i → byte (data_block m' c) (16 + 4 * i) ≡ byte (data_block b.shown c) (16 + 4 * i) → AreFirm b.weak (descriptor_place c i + 1) 3 → AreFirm b.weak (sector_place c i) 512 → raw_slot m' c i ≡ raw_slot b.shown c i
  drawn-same i low left state rest sector = slot-bytes (data_block b.shown c) (data_block m' c) i drawn-length drawn-start
      (λ j small. elim (cases_eq j 0) as (λ _. byte (data_block m' c) (16 + 4 * i + j) ≡ byte (data_block b.shown c) (16 + 4 * i + j)) [
        | inl z ↦ (let e : 16 + 4 * i ≡ 16 + 4 * i + j = omega (arith, z) in subst (λ q. byte (data_block m' c) q ≡ byte (data_block b.shown c) q) e state)
        | inr more ↦
            let e : descriptor_place c i + 1 + (j - 1) ≡ block_place c + (16 + 4 * i + j) = omega (arith, more) in
            drawn-byte (16 + 4 * i + j) (omega (arith, low, small)) (left.descriptor j (omega (arith, more)) small) (ap (λ q. byte b.weak q) (sym e) ∙ rest (j - 1) (omega (arith, small, more)))
      ])
      (λ j small.
      let e : sector_place c i + j ≡ block_place c + (512 * (i + 1) + j) = omega arith in
      drawn-byte (512 * (i + 1) + j) (omega (arith, low, small)) (left.sector j small) (ap (λ q. byte b.weak q) (sym e) ∙ sector j small))

  pub drawn-firm : (i : ℕ) → i < 7 → IsBesideSlot P i → AreFirm b.weak (descriptor_place c i) 4 → AreFirm b.weak (sector_place c i) 512 → raw_slot m' c i ≡ raw_slot b.shown c i
  drawn-firm i low left x y = drawn-same i low left.rest (drawn-byte (16 + 4 * i) (omega (arith, low)) left.state (first-firm b.weak (descriptor_place c i) 4 (omega arith) x)) (firm-after b.weak (descriptor_place c i) x) y

  -- one that is dead for good was dead, and is
  pub dead-was : (i : ℕ) → i < 7 → IsDeadForGood b c i → raw_slot b.shown c i ≡ Dead
  dead-was i low h = dead-reads b.shown c i h.bit d.was_own d.slots low h.from h.below h.reads

  pub dead-is : (i : ℕ) → i < 7 → IsBesideSlot P i → IsDeadForGood b c i → raw_slot m' c i ≡ Dead
  dead-is i low left h = dead-reads m' c i h.bit d.is_own drawn-group low h.from h.below (d.reads (16 + 4 * i) h.bit (omega (arith, low)) left.state h.firm ∙ h.reads)

  -- A live one of whose state but the third bit reads as it did is live, or dead.
  pub retiring-is : (i : ℕ) (tag : Tag) (x : List ℕ) → i < 7 → IsBesideState P i → raw_slot b.shown c i ≡ Live tag x → ((k : ℕ) → k ≢ 2 → bit_at (byte (data_block m' c) (16 + 4 * i)) k ≡ bit_at 252 k) → AreFirm b.weak (descriptor_place c i + 1) 3 → AreFirm b.weak (sector_place c i) 512 → (raw_slot m' c i ≡ Live tag x) ⊎ (raw_slot m' c i ≡ Dead)
  retiring-is i tag x low left live state rest sector =
      let was : byte (data_block b.shown c) (16 + 4 * i) ≡ 252 = live-state (data_block b.shown c) i tag x d.slots live in
      elim (cases_eq (byte (data_block m' c) (16 + 4 * i)) 252) [
        | inl still ↦ inl (drawn-same i low left (still ∙ sym was) rest sector ∙ live)
        | inr other ↦ inr (slot-dead (data_block m' c) i drawn-group
            (λ e.
            let even : bit_at (byte (data_block m' c) (16 + 4 * i)) 0 ≡ 0 = state 0 (omega arith) in
            let odd : bit_at (byte (data_block m' c) (16 + 4 * i)) 0 ≡ 1 = ap (λ x. bit_at x 0) e in
            omega (arith, even, odd))
            other)
      ]

  -- so is a fading one
  pub fading-is : (i : ℕ) → i < 7 → IsBesideSlot P i → (h : IsFadingSlot b c i) → (raw_slot m' c i ≡ Live h.tag zeros) ⊎ (raw_slot m' c i ≡ Dead)
  fading-is i low left h =
      let was : byte (data_block b.shown c) (16 + 4 * i) ≡ 252 = live-state (data_block b.shown c) i h.tag zeros d.slots h.live in
      retiring-is i h.tag zeros low left.rest h.live (λ k other. drawn-bit (16 + 4 * i) k (omega (arith, low)) left.state (h.state k other) ∙ ap (λ x. bit_at x k) was) h.rest h.sector

  -- one of whose state the second bit reads 1 is free, or dead
  pub unlive-is : (i : ℕ) → bit_at (byte (data_block m' c) (16 + 4 * i)) 1 ≡ 1 → (raw_slot m' c i ≡ Free) ⊎ (raw_slot m' c i ≡ Dead)
  unlive-is i one = slot-unlive (data_block m' c) i drawn-group (λ e.
      let none : bit_at (byte (data_block m' c) (16 + 4 * i)) 1 ≡ 0 = ap (λ x. bit_at x 1) e in
      omega (arith, one, none))

  -- so is a doubtful one
  pub doubtful-one : (i : ℕ) → i < 7 → IsBesideSlot P i → IsDoubtfulSlot b c i → bit_at (byte (data_block m' c) (16 + 4 * i)) 1 ≡ 1
  doubtful-one i low left h =
      let was : byte (data_block b.shown c) (16 + 4 * i) ≡ 255 = free-state (data_block b.shown c) i d.slots h.free in
      drawn-bit (16 + 4 * i) 1 (omega (arith, low)) left.state h.state ∙ ap (λ x. bit_at x 1) was

  -- A slot of whose state bit 0 reads 0 and bit 1 reads 1, as of one that is begun, is dead.
  pub begun-torn : (i : ℕ) → bit_at (byte (data_block m' c) (16 + 4 * i)) 0 ≡ 0 → bit_at (byte (data_block m' c) (16 + 4 * i)) 1 ≡ 1 → IsTornSlot P b m' c i
  begun-torn i even one =
      let is : raw_slot m' c i ≡ Dead = slot-dead (data_block m' c) i drawn-group
      (λ e. (let q : bit_at (byte (data_block m' c) (16 + 4 * i)) 0 ≡ 1 = ap (λ x. bit_at x 0) e in omega (arith, even, q)))
      (λ e. (let q : bit_at (byte (data_block m' c) (16 + 4 * i)) 1 ≡ 0 = ap (λ x. bit_at x 1) e in omega (arith, one, q))) in
      changed (λ free. absurd (let q : 0 ≡ 3 = ap slot_number (sym free ∙ is) in omega (arith, q))) (subst (λ s. HalfSlot s now c i) (sym is) tt)

  -- A live slot whose sector is firm, and each bit of its descriptor that reads 1.
  live-half : (s : Slot) (i : ℕ) → slot_number s ≡ 1 → AreFirm b.weak (sector_place c i) 512 → AreOnesFirm now (descriptor_place c i + 1) 3 → AreOnesFirm now (descriptor_place c i) 1 → HalfSlot s now c i
  live-half Free i e sector rest state = absurd (omega (arith, e))
  live-half (Live tag x) i e sector rest state = record { sector = sector; rest = rest; state = inl state }
  live-half NoGeneration i e sector rest state = absurd (omega (arith, e))
  live-half Dead i e sector rest state = tt
  live-half Outside i e sector rest state = absurd (omega (arith, e))

  pub live-torn : (i : ℕ) → slot_number (raw_slot m' c i) ≡ 1 → AreFirm b.weak (sector_place c i) 512 → AreOnesFirm now (descriptor_place c i + 1) 3 → AreOnesFirm now (descriptor_place c i) 1 → IsTornSlot P b m' c i
  live-torn i e sector rest state = changed (λ free. absurd (let q : 0 ≡ 1 = ap slot_number (sym free) ∙ e in omega (arith, q))) (live-half (raw_slot m' c i) i e sector rest state)

  -- A sure slot that is free was.
  pub free-was : (i : ℕ) → i < 7 → IsBesideSlot P i → IsSureSlot b c i → raw_slot m' c i ≡ Free → raw_slot b.shown c i ≡ Free
  free-was i low left (firm x y) free = sym (drawn-firm i low left x y) ∙ free
  free-was i low left (dead h) free = absurd (let q : 0 ≡ 3 = ap slot_number (sym free ∙ dead-is i low left h) in omega (arith, q))
  free-was i low left (fading h) free = absurd (elim (fading-is i low left h) as (λ _. ⊥) [
    | inl live ↦ (let q : 0 ≡ 1 = ap slot_number (sym free ∙ live) in omega (arith, q))
    | inr none ↦ (let q : 0 ≡ 3 = ap slot_number (sym free ∙ none) in omega (arith, q))
  ])

  -- A sure slot that was free is, and is sure.
  pub free-is : (i : ℕ) → i < 7 → IsBesideSlot P i → raw_slot b.shown c i ≡ Free → IsSureSlot b c i → (raw_slot m' c i ≡ Free) × IsSureSlot now c i
  free-is i low left free (firm x y) = (drawn-firm i low left x y ∙ free, firm x y)
  free-is i low left free (dead h) = absurd (let q : 0 ≡ 3 = ap slot_number (sym free ∙ dead-was i low h) in omega (arith, q))
  free-is i low left free (fading h) = absurd (let q : 0 ≡ 1 = ap slot_number (sym free ∙ h.live) in omega (arith, q))

  -- what the next mount needs of a slot whose bytes are firm
  firm-half : (s : Slot) (i : ℕ) → s ≢ NoGeneration → s ≢ Outside → AreFirm b.weak (descriptor_place c i) 4 → AreFirm b.weak (sector_place c i) 512 → HalfSlot s now c i
  firm-half Free i whole inside x y = inl (firm x y)
  firm-half (Live tag content) i whole inside x y = record {
    sector = y;
    rest = firm-ones now (descriptor_place c i + 1) 3 (firm-after b.weak (descriptor_place c i) x);
    state = inl (firm-ones now (descriptor_place c i) 1 (λ k low. x k (omega (arith, low))));
  }
  firm-half NoGeneration i whole inside x y = absurd (whole refl)
  firm-half Dead i whole inside x y = tt
  firm-half Outside i whole inside x y = absurd (inside refl)

  -- of a live one that may be dead: a newer slot holds its sector, or it is zeros
  pub retiring-half : (i : ℕ) (tag : Tag) (x : List ℕ) → HasNewer m' tag ⊎ (x ≡ zeros) → ((k : ℕ) → k ≢ 2 → bit_at (byte b.weak (descriptor_place c i)) k ≡ 0) → AreFirm b.weak (descriptor_place c i + 1) 3 → AreFirm b.weak (sector_place c i) 512
      → (raw_slot m' c i ≡ Live tag x) ⊎ (raw_slot m' c i ≡ Dead) → HalfSlot (raw_slot m' c i) now c i
  retiring-half i tag x newer state rest sector (inl live) = subst (λ s. HalfSlot s now c i) (sym live) (record {
    sector = sector;
    rest = firm-ones now (descriptor_place c i + 1) 3 rest;
    state = inr (λ k other one. state k other, newer);
  })
  retiring-half i tag x newer state rest sector (inr none) = subst (λ s. HalfSlot s now c i) (sym none) tt

  sure-half : (i : ℕ) → i < 7 → IsBesideSlot P i → raw_slot b.shown c i ≢ NoGeneration → IsSureSlot b c i → HalfSlot (raw_slot m' c i) now c i
  sure-half i low left whole (firm x y) = subst (λ s. HalfSlot s now c i) (sym (drawn-firm i low left x y)) (firm-half (raw_slot b.shown c i) i whole (slot-inside (data_block b.shown c) i) x y)
  sure-half i low left whole (dead h) = subst (λ s. HalfSlot s now c i) (sym (dead-is i low left h)) tt
  sure-half i low left whole (fading h) = retiring-half i h.tag zeros (inr refl) h.state h.rest h.sector (fading-is i low left h)

  -- of one that is free, or dead: it is the lowest free one
  pub unlive-half : (i : ℕ) → bit_at (byte (data_block m' c) (16 + 4 * i)) 1 ≡ 1 → ((j : ℕ) → j < i → raw_slot m' c j ≢ Free) → bit_at (byte b.weak (descriptor_place c i)) 1 ≡ 0 → AreFirm b.weak (sector_place c i) 512 → HalfSlot (raw_slot m' c i) now c i
  unlive-half i one lowest state sector = elim (unlive-is i one) as (λ _. HalfSlot (raw_slot m' c i) now c i) [
    | inl free ↦ subst (λ s. HalfSlot s now c i) (sym free) (inr (record { free = free; lowest = lowest; state = state; sector = sector }))
    | inr none ↦ subst (λ s. HalfSlot s now c i) (sym none) tt
  ]

  pub torn-free : (i : ℕ) → i < 7 → IsTornSlot P b m' c i → raw_slot m' c i ≡ Free → raw_slot b.shown c i ≡ Free
  torn-free i low (left_sure left s) free = free-was i low left s free
  torn-free i low (left_doubtful left h) free = h.free
  torn-free i low (changed was half) free = was free

  torn-half : (i : ℕ) → i < 7 → raw_slot b.shown c i ≢ NoGeneration → ((j : ℕ) → j < 7 → IsTornSlot P b m' c j) → IsTornSlot P b m' c i → HalfSlot (raw_slot m' c i) now c i
  torn-half i low whole each (left_sure left s) = sure-half i low left whole s
  torn-half i low whole each (left_doubtful left h) = unlive-half i (doubtful-one i low left h) (λ j below free. h.lowest j below (torn-free j (omega (arith, below, low)) (each j (omega (arith, below, low))) free)) h.state h.sector
  torn-half i low whole each (changed was half) = half

  -- and of a mark
  mark-half : (k : Kind) → HasMark k → AreFirm b.weak (mark_place c) 4 → HalfMark k now c
  mark-half kinds.Plain marked f = inl f
  mark-half kinds.Void marked f = tt
  mark-half (kinds.Committed source) marked f = (
    λ k other one. bit-firm b.weak (mark_place c) k (first-firm b.weak (mark_place c) 4 (omega arith) f),
    firm-ones now (mark_place c + 1) 3 (firm-after b.weak (mark_place c) f),
  )
  mark-half kinds.Settled marked f = firm-ones now (mark_place c) 4 f
  mark-half (kinds.Group tag) marked f = absurd marked
  mark-half kinds.DeadGroup marked f = absurd marked
  mark-half kinds.SpoiltGroup marked f = absurd marked
  mark-half kinds.Unknown marked f = absurd marked

  pub firm-mark : ((k : ℕ) → k < 4 → P (4 + k)) → HasMark (kind_at b.shown c) → AreFirm b.weak (mark_place c) 4 → HalfMark (kind_at m' c) now c
  firm-mark left marked f = subst (λ k. HalfMark k now c) (sym (drawn-kind left f)) (mark-half (kind_at b.shown c) marked f)

  -- of one that reads as none, or as begun, in a wholly free block whose slots are sure
  pub begun-mark : ((i : ℕ) → i < 7 → IsBesideSlot P i) → IsSpareIn b.shown c → ((i : ℕ) → i < 7 → IsSureSlot b c i) → ((k : ℕ) → k ≢ 0 → bit_at (byte b.weak (mark_place c)) k ≡ 0) → (kind_at m' c ≡ kinds.Plain) ⊎ (kind_at m' c ≡ kinds.Void)
      → HalfMark (kind_at m' c) now c
  begun-mark left is each state (inl plain) = subst (λ k. HalfMark k now c) (sym plain) (inr (record {
    spare = record { plain = plain; free = λ i low. (free-is i low (left i low) (is.free i low) (each i low)).0 };
    slots = λ i low. (free-is i low (left i low) (is.free i low) (each i low)).1;
    state = state;
  }))
  begun-mark left is each state (inr torn) = subst (λ k. HalfMark k now c) (sym torn) tt

  pub doubtful-mark : P 4 → ((i : ℕ) → i < 7 → IsBesideSlot P i) → IsDoubtfulMark b c → HalfMark (kind_at m' c) now c
  doubtful-mark mark left h = begun-mark left h.spare h.slots h.state (drawn-idle mark h)

  -- the whole block
  pub block-torn : ((i k : ℕ) → i < 4096 → 8 ≤ k → bit_at (byte b.weak (block_place c + i)) k ≡ 0) → HalfMark (kind_at m' c) now c → (kind_at m' c ≢ kinds.Void → (i : ℕ) → i < 7 → raw_slot b.shown c i ≢ NoGeneration) → ((i : ℕ) → i < 7 → IsTornSlot P b m' c i) → IsHalfBlock now c
  block-torn bits mark whole each = record {
    bytes = λ _. bits;
    mark = mark;
    edges = λ other. d.edges;
    slots = λ other i low. torn-half i low (whole other i low) each (each i low);
  }

-- A block of which nothing was changed.
abbrev pub IsAnyPlace : ℕ → Type 0
IsAnyPlace k = Unit {0}

pub beside-any : (i : ℕ) → IsBesideSlot IsAnyPlace i
beside-any i = record { state = tt; rest = record { descriptor = λ j from low. tt; sector = λ j low. tt } }

pub block-read : (b : Bits) (m' : List ℕ) (c : ℕ) → Drawn b.weak b.shown m' → data_block b.shown c ≡ part 4096 b.shown (c + 4) → data_block m' c ≡ part 4096 m' (c + 4) → AreEdgesFirm b.weak c → is_group (kind_at b.shown c) ≡ false → IsBlockRead IsAnyPlace b m' c
block-read b m' c d own own' edges g = record {
  was_own = own;
  is_own = own';
  same_length = d.same_length;
  start = λ k low. tt;
  reads = λ k j low any f. d.firm (block_place c + k) j f;
  edges = edges;
  slots = g;
}

module _ (b : Bits) (m' : List ℕ) (c : ℕ) (d : IsBlockRead IsAnyPlace b m' c) where
  -- A block that is sure or doubtful is one of which a change was interrupted.
  pub block-half : ((i k : ℕ) → i < 4096 → 8 ≤ k → bit_at (byte b.weak (block_place c + i)) k ≡ 0) → IsAtRest (kind_at b.shown c) → ((i : ℕ) → i < 7 → raw_slot b.shown c i ≢ NoGeneration) → IsSureBlock b true c → IsHalfBlock (now IsAnyPlace b m' c d) c
  block-half bits rest whole h = block-torn IsAnyPlace b m' c d bits
      (elim h.mark as (λ _. HalfMark (kind_at m' c) (now IsAnyPlace b m' c d) c) [ inl f ↦ firm-mark IsAnyPlace b m' c d (λ k low. tt) (rest-marked (kind_at b.shown c) rest d.slots) f | inr q ↦ doubtful-mark IsAnyPlace b m' c d tt (λ i low. beside-any i) q.1 ])
      (λ other. whole)
      (λ i low. elim (h.slots i low) [ inl s ↦ left_sure (beside-any i) s | inr q ↦ left_doubtful (beside-any i) q.1 ])

  -- The block that is wholly free and sure is, or its mark is torn.
  pub spare-room : c < data_blocks m' → IsSpareIn b.shown c → ((i : ℕ) → i < 7 → IsSureSlot b c i) → AreFirm b.weak (mark_place c) 4 ⊎ ((true ≡ true) × IsDoubtfulMark b c) → HasSureRoom (now IsAnyPlace b m' c d)
  spare-room low is sure mark =
      let still = λ (i : ℕ) (li : i < 7). free-is IsAnyPlace b m' c d i li (beside-any i) (is.free i li) (sure i li) in
      let plainly : kind_at m' c ≡ kinds.Plain → HasSureRoom (now IsAnyPlace b m' c d) = λ plain. spare c low (record { plain = plain; free = λ i li. (still i li).0 }) (λ i li. (still i li).1) in
      elim mark as (λ _. HasSureRoom (now IsAnyPlace b m' c d)) [
        | inl f ↦ plainly (drawn-kind IsAnyPlace b m' c d (λ k small. tt) f ∙ is.plain)
        | inr q ↦ elim (drawn-idle IsAnyPlace b m' c d tt q.1) as (λ _. HasSureRoom (now IsAnyPlace b m' c d)) [ inl plain ↦ plainly plain | inr torn ↦ void c low torn ]
      ]
