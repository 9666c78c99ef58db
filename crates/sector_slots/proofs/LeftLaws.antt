-- What a call that left most places of a block leaves of its weak bits, and what a later power-on reads of these places.
use Rattle.std.proofs.Common.{◌≡◌, ◌≢◌, ℕ, ◌+◌, ◌-◌, ◌*◌, ◌<◌, ◌≤◌, ◌⊎◌, Bool, false, List, length, refl, sym, ap, ◌∙◌, subst, arith, inl, inr}
use Rattle.std.specs.Int.{bit_at}
use Rattle.std.proofs.lemmas.Bool.{cases_eq, cases_lt, true≢false}
use Rattle.chip_model.specs.Memory.{byte}
use Rattle.chip_model.specs.Wavering.{Bits, Drawn}
use Rattle.nor_layout.specs.declared.header.Tag.{Tag}
use Rattle.nor_layout.specs.Journals.{block_len}
use Rattle.erase_journal.specs.Blocks.{is_opened}
use Rattle.erase_journal.specs.Journals.{IsSettled}
use Rattle.erase_journal.specs.Weak.{AreFirm}
use Rattle.erase_journal.proofs.Data.{settled-own}
use Rattle.erase_journal.proofs.Losses.{program-beside}
use Rattle.sector_slots.specs.Half.{IsKnownBlock}
use Rattle.sector_slots.specs.Slots.{Slot, Free, Live, Dead, data_blocks, kind_at, is_group, IsSpareIn}
use Rattle.sector_slots.specs.Sectors.{HasSlotsAlone, IsSoundMap}
use Rattle.sector_slots.specs.Blocks.{AreAtRest}
use Rattle.erase_journal.specs.Torn.{SameAt, ProgramInterrupted}
use Rattle.sector_slots.specs.Weak.{HasByteBits, block_place, mark_place, descriptor_place, sector_place, AreEdgesFirm, IsSureSlot, firm, dead, fading, IsDoubtfulSlot, IsDoubtfulMark, IsSureBlock, IsHalfBlock}
use Rattle.sector_slots.proofs.FirmLaws.{slot_number}
use Rattle.sector_slots.proofs.TornBits.{high-kept, program-length}
use Rattle.sector_slots.proofs.HeadLaws.{marked-slots, rest-marked}
use Rattle.sector_slots.proofs.HalfBlocks.{drawn-kind, IsBlockRead, IsBesideSlot, IsBesideState, IsTornSlot, left_sure, left_doubtful, firm-mark, block-torn, whole-slots, unopened-own}

-- What is known of a block before a call is so of each one of a sound chip of slots, while no copying goes on.
pub known-block : (a : Bits) (c : ℕ) → IsSettled a.shown → IsSoundMap a.shown → AreAtRest (kind_at a.shown) (data_blocks a.shown) → HasSlotsAlone a.shown → c < data_blocks a.shown → HasByteBits a c → IsKnownBlock a c
known-block a c settled sound rest alone low bytes = record {
  settled = settled;
  marked = rest-marked (kind_at a.shown c) (rest c low) (alone c low);
  whole = λ other i within. whole-slots a.shown c i sound rest low within;
  bytes = bytes;
}

pub known-slots : (a : Bits) (c : ℕ) → IsKnownBlock a c → is_group (kind_at a.shown c) ≡ false
known-slots a c known = marked-slots (kind_at a.shown c) known.marked

-- The call left the places of a block of which P holds.
pub record IsLeft (P : ℕ → Type 0) (a new : Bits) (c : ℕ) : Type 0 where
  pub same_length : length new.shown ≡ length a.shown
  pub same : (k : ℕ) → k < block_len → P k → SameAt a new (block_place c + k)

-- P holds of the bytes that are neither mark nor descriptor nor sector
pub record AreBesideEdges (P : ℕ → Type 0) : Type 0 where
  pub start : (k : ℕ) → k < 4 → P k
  pub after_mark : (k : ℕ) → k < 8 → P (8 + k)
  pub after_descriptors : (k : ℕ) → k < 468 → P (44 + k)

-- what was shown before the loss, with the weak bits after it
abbrev pub with_loss : Bits → Bits → Bits
with_loss a new = record { shown = a.shown; weak = new.weak }

module _ (P : ℕ → Type 0) (a new : Bits) (c : ℕ) (l : IsLeft P a new c) where
  pub left-byte : (at k : ℕ) → at ≡ block_place c + k → k < 4096 → P k → byte new.weak at ≡ byte a.weak at
  left-byte at k e low left = ap (λ q. byte new.weak q) e ∙ ((l.same k low left).1 ∙ ap (λ q. byte a.weak q) (sym e))

  pub left-bit : (at k j : ℕ) → at ≡ block_place c + k → k < 4096 → P k → bit_at (byte a.weak at) j ≡ 0 → bit_at (byte new.weak at) j ≡ 0
  left-bit at k j e low left f = ap (λ x. bit_at x j) (left-byte at k e low left) ∙ f

  pub left-mark : ((k : ℕ) → k < 4 → P (4 + k)) → AreFirm a.weak (mark_place c) 4 → AreFirm new.weak (mark_place c) 4
  left-mark left f k low = left-byte (mark_place c + k) (4 + k) (omega arith) (omega (arith, low)) (left k low) ∙ f k low

  pub left-edges : AreBesideEdges P → AreEdgesFirm a.weak c → AreEdgesFirm new.weak c
  left-edges beside h = record {
    start = λ k low. left-byte (block_place c + k) k (omega arith) (omega (arith, low)) (beside.start k low) ∙ h.start k low;
    after_mark = λ k low. left-byte (block_place c + 8 + k) (8 + k) (omega arith) (omega (arith, low)) (beside.after_mark k low) ∙ h.after_mark k low;
    after_descriptors = λ k low. left-byte (block_place c + 44 + k) (44 + k) (omega arith) (omega (arith, low)) (beside.after_descriptors k low) ∙ h.after_descriptors k low;
  }

  pub left-rest : (i : ℕ) → i < 7 → IsBesideState P i → AreFirm a.weak (descriptor_place c i + 1) 3 → AreFirm new.weak (descriptor_place c i + 1) 3
  left-rest i low left f k small = left-byte (descriptor_place c i + 1 + k) (16 + 4 * i + (1 + k)) (omega arith) (omega (arith, low, small)) (left.descriptor (1 + k) (omega arith) (omega (arith, small))) ∙ f k small

  pub left-sector : (i : ℕ) → i < 7 → IsBesideState P i → AreFirm a.weak (sector_place c i) 512 → AreFirm new.weak (sector_place c i) 512
  left-sector i low left f k small = left-byte (sector_place c i + k) (512 * (i + 1) + k) (omega arith) (omega (arith, low, small)) (left.sector k small) ∙ f k small

  pub left-state : (i j : ℕ) → i < 7 → IsBesideSlot P i → bit_at (byte a.weak (descriptor_place c i)) j ≡ 0 → bit_at (byte new.weak (descriptor_place c i)) j ≡ 0
  left-state i j low left f = left-bit (descriptor_place c i) (16 + 4 * i) j refl (omega (arith, low)) left.state f

  pub left-descriptor : (i : ℕ) → i < 7 → IsBesideSlot P i → AreFirm a.weak (descriptor_place c i) 4 → AreFirm new.weak (descriptor_place c i) 4
  left-descriptor i low left f k small = left-byte (descriptor_place c i + k) (16 + 4 * i + k) (omega arith) (omega (arith, low, small)) (elim (cases_eq k 0) [
    | inl z ↦ (let e : 16 + 4 * i ≡ 16 + 4 * i + k = omega (arith, z) in subst (λ q. P q) e left.state)
    | inr more ↦ left.rest.descriptor k (omega (arith, more)) small
  ]) ∙ f k small

  pub left-sure : (i : ℕ) → i < 7 → IsBesideSlot P i → IsSureSlot a c i → IsSureSlot (with_loss a new) c i
  left-sure i low left (firm x y) = firm (left-descriptor i low left x) (left-sector i low left.rest y)
  left-sure i low left (dead h) = dead (record { bit = h.bit; from = h.from; below = h.below; reads = h.reads; firm = left-state i h.bit low left h.firm })
  left-sure i low left (fading h) = fading (record {
    tag = h.tag;
    live = h.live;
    state = λ k other. left-state i k low left (h.state k other);
    rest = left-rest i low left.rest h.rest;
    sector = left-sector i low left.rest h.sector;
  })

  pub left-doubtful : (i : ℕ) → i < 7 → IsBesideSlot P i → IsDoubtfulSlot a c i → IsDoubtfulSlot (with_loss a new) c i
  left-doubtful i low left h = record { free = h.free; lowest = h.lowest; state = left-state i 1 low left h.state; sector = left-sector i low left.rest h.sector }

  pub left-idle : P 4 → ((i : ℕ) → i < 7 → IsBesideSlot P i) → IsDoubtfulMark a c → IsDoubtfulMark (with_loss a new) c
  left-idle mark left h = record {
    spare = h.spare;
    slots = λ i low. left-sure i low (left i low) (h.slots i low);
    state = λ k other. left-bit (mark_place c) 4 k refl (omega arith) mark (h.state k other);
  }

  pub left-torn : (v : List ℕ) (suspect : Bool) (i : ℕ) → i < 7 → IsBesideSlot P i → IsSureBlock a suspect c → IsTornSlot P (with_loss a new) v c i
  left-torn v suspect i low left h = elim (h.slots i low) [
    | inl s ↦ left_sure left (left-sure i low left s)
    | inr q ↦ left_doubtful left (left-doubtful i low left q.1)
  ]

  pub left-read : (v : List ℕ) → AreBesideEdges P → IsSettled a.shown → is_group (kind_at a.shown c) ≡ false → AreEdgesFirm a.weak c → Drawn new.weak new.shown v → is_opened v (c + 4) ≡ false → IsBlockRead P (with_loss a new) v c
  left-read v beside settled slots edges d shut = record {
    was_own = settled-own a.shown (c + 4) settled;
    is_own = unopened-own v (c + 4) shut;
    same_length = d.same_length ∙ l.same_length;
    start = beside.start;
    reads = λ k j low left f. d.firm (block_place c + k) j f ∙ ap (λ x. bit_at x j) (l.same k low left).0;
    edges = left-edges beside edges;
    slots = slots;
  }

-- The places of a block beside n of them.
abbrev pub Beside : ℕ → ℕ → ℕ → Type 0
Beside at n k = (k < at) ⊎ (at + n ≤ k)

pub program-left : (a new : Bits) (c at : ℕ) (bytes : List ℕ) → ProgramInterrupted (block_place c + at) bytes a new → IsLeft (Beside at (length bytes)) a new c
program-left a new c at bytes l = record {
  same_length = program-length a new (block_place c + at) bytes l;
  same = λ k low beside. program-beside a new (block_place c + at) bytes l (block_place c + k) (elim beside [ inl before ↦ inl (omega (arith, before)) | inr after ↦ inr (omega (arith, after)) ]);
}

-- those of a program had no weak bit but the low eight
pub program-bytes : (a new : Bits) (c at : ℕ) (bytes : List ℕ) → ProgramInterrupted (block_place c + at) bytes a new → IsKnownBlock a c → ((j : ℕ) → j < length bytes → byte a.shown (block_place c + (at + j)) < 256)
    → HasByteBits new c
program-bytes a new c at bytes l known small k j low high = elim (cases_lt k at) as (λ _. bit_at (byte new.weak (block_place c + k)) j ≡ 0) [
  | inl before ↦ left-bit (Beside at (length bytes)) a new c (program-left a new c at bytes l) (block_place c + k) k j refl low (inl before) (known.bytes k j low high)
  | inr from ↦ elim (cases_lt k (at + length bytes)) as (λ _. bit_at (byte new.weak (block_place c + k)) j ≡ 0) [
    | inr after ↦ left-bit (Beside at (length bytes)) a new c (program-left a new c at bytes l) (block_place c + k) k j refl low (inr after) (known.bytes k j low high)
    | inl inside ↦
        let e : block_place c + (at + (k - at)) ≡ block_place c + k = omega (arith, from) in
        high-kept a new (block_place c + at) bytes (block_place c + k) j l (subst (λ q. byte a.shown q < 256) e (small (k - at) (omega (arith, inside, from)))) high (known.bytes k j low high)
  ]
]

-- beside a descriptor, or the first of its bytes
pub beside-descriptor : (p n : ℕ) → p < 7 → n ≤ 4 → AreBesideEdges (Beside (16 + 4 * p) n)
beside-descriptor p n low few = record {
  start = λ k small. inl (omega (arith, small));
  after_mark = λ k small. inl (omega (arith, small));
  after_descriptors = λ k small. inr (omega (arith, low, few));
}

pub other-slot : (p n i : ℕ) → p < 7 → n ≤ 4 → i ≢ p → IsBesideSlot (Beside (16 + 4 * p) n) i
other-slot p n i low few other = record {
  state = elim (cases_lt i p) [ inl below ↦ inl (omega (arith, below)) | inr above ↦ inr (omega (arith, above, few, other)) ];
  rest = record {
    descriptor = λ j from small. elim (cases_lt i p) [ inl below ↦ inl (omega (arith, below, small)) | inr above ↦ inr (omega (arith, above, few, other)) ];
    sector = λ j small. inr (omega (arith, low, few));
  };
}

pub own-rest : (p : ℕ) → p < 7 → IsBesideState (Beside (16 + 4 * p) 1) p
own-rest p low = record { descriptor = λ j from small. inr (omega (arith, from)); sector = λ j small. inr (omega (arith, low)) }

-- beside a mark, or the first of its bytes
pub beside-mark : (n : ℕ) → n ≤ 4 → AreBesideEdges (Beside 4 n)
beside-mark n few = record { start = λ k small. inl small; after_mark = λ k small. inr (omega (arith, few)); after_descriptors = λ k small. inr (omega (arith, few)) }

pub mark-slot : (n i : ℕ) → n ≤ 4 → IsBesideSlot (Beside 4 n) i
mark-slot n i few = record { state = inr (omega (arith, few)); rest = record { descriptor = λ j from small. inr (omega (arith, few)); sector = λ j small. inr (omega (arith, few)) } }

-- a mark is firm where a slot isn't free
pub taken-mark : (a : Bits) (suspect : Bool) (c : ℕ) → (IsSpareIn a.shown c → ⊥) → IsSureBlock a suspect c → AreFirm a.weak (mark_place c) 4
taken-mark a suspect c part h = elim h.mark [ inl f ↦ f | inr q ↦ absurd (part q.1.spare) ]

pub trusted-mark : (a : Bits) (c : ℕ) → IsSureBlock a false c → AreFirm a.weak (mark_place c) 4
trusted-mark a c h = elim h.mark [ inl f ↦ f | inr q ↦ absurd (true≢false (sym q.0)) ]

-- One slot of a block was changed: what is said of it is enough.
pub slot-torn : (P : ℕ → Type 0) (a new : Bits) (c p : ℕ) (suspect : Bool) (v : List ℕ) (l : IsLeft P a new c) (r : IsBlockRead P (with_loss a new) v c) → IsKnownBlock a c → HasByteBits new c
    → IsSureBlock a suspect c → AreFirm a.weak (mark_place c) 4 → ((k : ℕ) → k < 4 → P (4 + k)) → ((i : ℕ) → i < 7 → i ≢ p → IsBesideSlot P i) → IsTornSlot P (with_loss a new) v c p
    → IsHalfBlock (record { shown = v; weak = new.weak }) c
slot-torn P a new c p suspect v l r known bytes h mark beside others torn =
    let firmly = left-mark P a new c l beside mark in
    let same = drawn-kind P (with_loss a new) v c r beside firmly in
    block-torn P (with_loss a new) v c r bytes (firm-mark P (with_loss a new) v c r beside known.marked firmly) (λ other. known.whole (λ void. other (same ∙ void))) (λ i low. elim (cases_eq i p) [
      | inl is ↦ subst (λ q. IsTornSlot P (with_loss a new) v c q) (sym is) torn
      | inr other ↦ left-torn P a new c l v suspect i low (others i low other) h
    ])

pub not-free-live : (s : Slot) (tag : Tag) (x : List ℕ) → s ≡ Live tag x → s ≢ Free
not-free-live s tag x e f = let q : 0 ≡ 1 = ap slot_number (sym f ∙ e) in omega (arith, q)

pub live-or-dead : (s : Slot) (tag : Tag) (x : List ℕ) → (s ≡ Live tag x) ⊎ (s ≡ Dead) → s ≢ Free
live-or-dead s tag x (inl e) f = not-free-live s tag x e f
live-or-dead s tag x (inr e) f = let q : 0 ≡ 3 = ap slot_number (sym f ∙ e) in omega (arith, q)

-- a program in one block leaves each other one
pub program-apart : (a new : Bits) (c at e : ℕ) (bytes : List ℕ) → at + length bytes ≤ block_len → e ≢ c → ProgramInterrupted (block_place c + at) bytes a new → (k : ℕ) → k < block_len → SameAt a new (block_place e + k)
program-apart a new c at e bytes fits other l k low = program-beside a new (block_place c + at) bytes l (block_place e + k) (elim (cases_lt e c) [ inl below ↦ inl (omega (arith, below, low)) | inr above ↦ inr (omega (arith, above, other, fits)) ])
