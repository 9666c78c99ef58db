-- What calls leave of the weak bits of data blocks.
use Rattle.std.proofs.Common.{◌≡◌, ◌≢◌, ℕ, ◌+◌, ◌*◌, ◌<◌, ◌≤◌, ◌⊎◌, Bool, true, false, List, [], ◌∷◌, length, sym, ap, ◌∙◌, subst, arith, inl, inr}
use Rattle.std.specs.Prelude.{bit_and, ◌/◌}
use Rattle.std.specs.Int.{bit_at}
use Rattle.std.proofs.lemmas.Bool.{cases_lt, cases_eq}
use Rattle.std.proofs.lemmas.List.{get_or_past}
use Rattle.std.proofs.lemmas.Nat.Bits.{bit_at_and, bit_at-zero, bit_at_above, same_from_bits}
use Rattle.chip_model.specs.Memory.{byte, and_at}
use Rattle.chip_model.specs.Wavering.{Bits}
use Rattle.chip_model.proofs.PartLaws.{get-part}
use Rattle.chip_model.proofs.MemoryLaws.{length-placed, placed-inside}
use Rattle.nor_driver.specs.State.{IsFirmer}
use Rattle.erase_journal.specs.Journals.{IsSettled}
use Rattle.erase_journal.specs.Weak.{AreFirm}
use Rattle.erase_journal.proofs.Data.{settled-own}
use Rattle.erase_journal.proofs.WeakLaws.{firm-stays, are-firm-stays}
use Rattle.erase_journal.proofs.FirmJournals.{some-bit}
use Rattle.std.proofs.lemmas.Bool.{true≢false}
use Rattle.sector_slots.specs.Slots.{Slot, Free, Live, NoGeneration, Dead, Outside, data_block, kind_at, raw_slot, IsSpareIn}
use Rattle.sector_slots.specs.Weak.{block_place, mark_place, descriptor_place, sector_place, IsDeadForGood, IsWhollyFirm, AreEdgesFirm, IsSureSlot, firm, dead, fading, IsDoubtfulSlot, IsDoubtfulMark, IsSureBlock}

-- a byte of a data block, where no erase goes on
pub here : (m : List ℕ) (c k : ℕ) → IsSettled m → k < 4096 → byte (data_block m c) k ≡ byte m (block_place c + k)
here m c k s low = ap (λ b. byte b k) (settled-own m (c + 4) s) ∙ get-part 4096 m (c + 4) k low

-- a bit that is programmed 0 reads 0
pub and-bit : (m : List ℕ) (at : ℕ) (bytes : List ℕ) (i k : ℕ) → i < length bytes → bit_at (byte bytes i) k ≡ 0 → bit_at (byte (and_at m at bytes) (at + i)) k ≡ 0
and-bit m at bytes i k low none = elim (cases_lt (at + i) (length m)) [
  | inr past ↦ ap (λ x. bit_at x k) (get_or_past (and_at m at bytes) (at + i) 0 (let l = length-placed bit_and m at bytes in omega (arith, l, past))) ∙ bit_at-zero k
  | inl inside ↦
      let e = ap (λ x. bit_at x k) (placed-inside bit_and m at bytes i low inside) in
      let b = bit_at_and (byte m (at + i)) (byte bytes i) k in
      omega (arith, b, e, none)
]

-- the state of a slot was programmed, its third bit among it
pub programmed-for-good : (old new : Bits) (c i v : ℕ) → i < 7 → bit_at v 2 ≡ 0 → IsSettled new.shown → data_block new.shown c ≡ and_at (data_block old.shown c) (16 + 4 * i) (v ∷ [])
    → new.weak ≡ and_at old.weak (block_place c + (16 + 4 * i)) (v ∷ []) → IsDeadForGood new c i
programmed-for-good old new c i v low third settled e f =
    let at = 16 + 4 * i in
    let z : at + 0 ≡ at = omega arith in
    let z' : block_place c + at + 0 ≡ block_place c + at = omega arith in
    record {
      bit = 2;
      from = omega arith;
      below = omega arith;
      reads =
          let shown = subst (λ k. bit_at (byte (and_at (data_block old.shown c) at (v ∷ [])) k) 2 ≡ 0) z (and-bit (data_block old.shown c) at (v ∷ []) 0 2 (omega arith) third) in
          ap (λ x. bit_at x 2) (sym (here new.shown c at settled (omega (arith, low))) ∙ ap (λ b. byte b at) e) ∙ shown;
      firm =
          ap (λ w. bit_at (byte w (block_place c + at)) 2) f ∙ subst (λ k. bit_at (byte (and_at old.weak (block_place c + at) (v ∷ [])) k) 2 ≡ 0) z' (and-bit old.weak (block_place c + at) (v ∷ []) 0 2 (omega arith) third);
    }

-- a bit whose byte is firm
pub bit-firm : (w : List ℕ) (at k : ℕ) → byte w at ≡ 0 → bit_at (byte w at) k ≡ 0
bit-firm w at k e = ap (λ x. bit_at x k) e ∙ bit_at-zero k

-- a byte all of whose bits are firm
pub byte-firm : (w : List ℕ) (at : ℕ) → byte w at < 256 → ((k : ℕ) → k < 8 → bit_at (byte w at) k ≡ 0) → byte w at ≡ 0
byte-firm w at small each = same_from_bits (byte w at) 0 (λ k. elim (cases_lt k 8) [
  | inl low ↦ each k low ∙ sym (bit_at-zero k)
  | inr high ↦ bit_at_above (byte w at) 8 k small high ∙ sym (bit_at-zero k)
])

-- a part of bytes that are firm
pub firm-part : (w : List ℕ) (at n from len : ℕ) → AreFirm w at n → from + len ≤ n → AreFirm w (at + from) len
firm-part w at n from len h inside k low = (let e : at + (from + k) ≡ at + from + k = omega arith in ap (λ i. byte w i) (sym e)) ∙ h (from + k) (omega (arith, inside, low))

-- a block no bit of which is weak
pub wholly-edges : (w : List ℕ) (c : ℕ) → IsWhollyFirm w c → AreEdgesFirm w c
wholly-edges w c h = record {
  start = λ k low. h k (omega (arith, low));
  after_mark = firm-part w (block_place c) 4096 8 8 h (omega arith);
  after_descriptors = firm-part w (block_place c) 4096 44 468 h (omega arith);
}

pub wholly-mark : (w : List ℕ) (c : ℕ) → IsWhollyFirm w c → AreFirm w (mark_place c) 4
wholly-mark w c h = firm-part w (block_place c) 4096 4 4 h (omega arith)

pub wholly-slot : (b : Bits) (c i : ℕ) → i < 7 → IsWhollyFirm b.weak c → IsSureSlot b c i
wholly-slot b c i low h = firm (firm-part b.weak (block_place c) 4096 (16 + 4 * i) 4 h (omega (arith, low))) (firm-part b.weak (block_place c) 4096 (512 * (i + 1)) 512 h (omega (arith, low)))

pub wholly-block : (b : Bits) (suspect : Bool) (c : ℕ) → IsWhollyFirm b.weak c → IsSureBlock b suspect c
wholly-block b suspect c h = record {
  edges = wholly-edges b.weak c h;
  mark = inl (wholly-mark b.weak c h);
  slots = λ i low. inl (wholly-slot b c i low h);
}

-- a trusted block is sure to be as one that is suspect
pub sure-doubted : (b : Bits) (suspect : Bool) (c : ℕ) → IsSureBlock b false c → IsSureBlock b suspect c
sure-doubted b suspect c h = record {
  edges = h.edges;
  mark = elim h.mark [ inl f ↦ inl f | inr d ↦ absurd (true≢false (sym d.0)) ];
  slots = λ i low. elim (h.slots i low) [ inl f ↦ inl f | inr d ↦ absurd (true≢false (sym d.0)) ];
}

-- slots by their kinds
abbrev pub slot_number : Slot → ℕ
slot_number Free = 0
slot_number (Live tag x) = 1
slot_number NoGeneration = 2
slot_number Dead = 3
slot_number Outside = 4

-- Calls that answered Ok.
module _ (a b : Bits) (f : IsFirmer a b) where
  -- a slot that is dead for good stays so, or its block was erased
  pub dead-stays : (c i : ℕ) → i < 7 → IsDeadForGood a c i → IsDeadForGood b c i ⊎ IsWhollyFirm b.weak c
  dead-stays c i low d = elim (cases_eq (bit_at (byte b.shown (descriptor_place c i)) d.bit) 0) [
    | inl still ↦ inl (record { bit = d.bit; from = d.from; below = d.below; reads = still; firm = firm-stays a b (descriptor_place c i) d.bit f d.firm })
    | inr erased ↦ inr (λ k small. elim (cases_eq (byte b.weak (block_place c + k)) 0) [
      | inl none ↦ none
      | inr some ↦
          let bit = some-bit (byte b.weak (block_place c + k)) some in
          let unit : descriptor_place c i / 4096 ≡ (block_place c + k) / 4096 = omega (arith, low, small) in
          absurd (erased (f.zeros (block_place c + k) bit.0 (descriptor_place c i) d.bit bit.1 unit d.reads))
    ])
  ]

  pub sure-dead : (c i : ℕ) → i < 7 → IsDeadForGood a c i → IsSureSlot b c i
  sure-dead c i low d = elim (dead-stays c i low d) [ inl still ↦ dead still | inr erased ↦ wholly-slot b c i low erased ]

  -- a slot that reads as it did
  pub sure-stays : (c i : ℕ) → i < 7 → raw_slot b.shown c i ≡ raw_slot a.shown c i → IsSureSlot a c i → IsSureSlot b c i
  sure-stays c i low same (firm d s) = firm (are-firm-stays a b (descriptor_place c i) 4 f d) (are-firm-stays a b (sector_place c i) 512 f s)
  sure-stays c i low same (dead d) = sure-dead c i low d
  sure-stays c i low same (fading h) = fading (record {
    tag = h.tag;
    live = same ∙ h.live;
    state = λ k other. firm-stays a b (descriptor_place c i) k f (h.state k other);
    rest = are-firm-stays a b (descriptor_place c i + 1) 3 f h.rest;
    sector = are-firm-stays a b (sector_place c i) 512 f h.sector;
  })

  pub doubtful-stays : (c i : ℕ) → ((j : ℕ) → j ≤ i → raw_slot b.shown c j ≡ raw_slot a.shown c j) → IsDoubtfulSlot a c i → IsDoubtfulSlot b c i
  doubtful-stays c i same h = record {
    free = same i (omega arith) ∙ h.free;
    lowest = λ j below free. h.lowest j below (sym (same j (omega (arith, below))) ∙ free);
    state = firm-stays a b (descriptor_place c i) 1 f h.state;
    sector = are-firm-stays a b (sector_place c i) 512 f h.sector;
  }

  pub edges-stay : (c : ℕ) → AreEdgesFirm a.weak c → AreEdgesFirm b.weak c
  edges-stay c h = record {
    start = are-firm-stays a b (block_place c) 4 f h.start;
    after_mark = are-firm-stays a b (block_place c + 8) 8 f h.after_mark;
    after_descriptors = are-firm-stays a b (block_place c + 44) 468 f h.after_descriptors;
  }

  pub mark-stays : (c : ℕ) → kind_at b.shown c ≡ kind_at a.shown c → ((i : ℕ) → i < 7 → raw_slot b.shown c i ≡ raw_slot a.shown c i) → IsDoubtfulMark a c → IsDoubtfulMark b c
  mark-stays c kind same h = record {
    spare = record { plain = kind ∙ h.spare.plain; free = λ i low. same i low ∙ h.spare.free i low };
    slots = λ i low. sure-stays c i low (same i low) (h.slots i low);
    state = λ k other. firm-stays a b (mark_place c) k f (h.state k other);
  }

  -- a block that reads as it did
  pub block-stays : (suspect : Bool) (c : ℕ) → kind_at b.shown c ≡ kind_at a.shown c → ((i : ℕ) → i < 7 → raw_slot b.shown c i ≡ raw_slot a.shown c i)
      → IsSureBlock a suspect c → IsSureBlock b suspect c
  block-stays suspect c kind same h = record {
    edges = edges-stay c h.edges;
    mark = elim h.mark [ inl m ↦ inl (are-firm-stays a b (mark_place c) 4 f m) | inr d ↦ inr (d.0, mark-stays c kind same d.1) ];
    slots = λ i low. elim (h.slots i low) [
      | inl s ↦ inl (sure-stays c i low (same i low) s)
      | inr d ↦ inr (d.0, doubtful-stays c i (λ j below. same j (omega (arith, below, low))) d.1)
    ];
  }

  -- One slot of a block came to be another one, and is sure; it wasn't free, and isn't.
  pub block-retired : (suspect : Bool) (c p : ℕ) → p < 7 → raw_slot a.shown c p ≢ Free → raw_slot b.shown c p ≢ Free → IsSureSlot b c p
      → ((i : ℕ) → i < 7 → i ≢ p → raw_slot b.shown c i ≡ raw_slot a.shown c i) → IsSureBlock a suspect c → IsSureBlock b suspect c
  block-retired suspect c p within was now sure others h = record {
    edges = edges-stay c h.edges;
    mark = elim h.mark [ inl m ↦ inl (are-firm-stays a b (mark_place c) 4 f m) | inr d ↦ absurd (was (d.1.spare.free p within)) ];
    slots = λ i low. elim (cases_eq i p) [
      | inl here_is ↦ inl (subst (λ q. IsSureSlot b c q) (sym here_is) sure)
      | inr other ↦ elim (h.slots i low) [
        | inl s ↦ inl (sure-stays c i low (others i low other) s)
        | inr d ↦ inr (
          d.0,
          record {
            free = others i low other ∙ d.1.free;
            lowest = λ j below free. elim (cases_eq j p) [
              | inl at ↦ now (subst (λ q. raw_slot b.shown c q ≡ Free) at free)
              | inr away ↦ d.1.lowest j below (sym (others j (omega (arith, below, low)) away) ∙ free)
            ];
            state = firm-stays a b (descriptor_place c i) 1 f d.1.state;
            sector = are-firm-stays a b (sector_place c i) 512 f d.1.sector;
          },
        )
      ]
    ];
  }

  -- The lowest free slot of a block that isn't wholly free was made dead: the block can be trusted.
  pub block-killed : (c p : ℕ) → p < 7 → (IsSpareIn a.shown c → ⊥) → raw_slot a.shown c p ≡ Free → ((j : ℕ) → j < p → raw_slot a.shown c j ≢ Free) → IsDeadForGood b c p
      → ((i : ℕ) → i < 7 → i ≢ p → raw_slot b.shown c i ≡ raw_slot a.shown c i) → IsSureBlock a true c → IsSureBlock b false c
  block-killed c p within part was lowest killed others h = record {
    edges = edges-stay c h.edges;
    mark = elim h.mark [ inl m ↦ inl (are-firm-stays a b (mark_place c) 4 f m) | inr d ↦ absurd (part d.1.spare) ];
    slots = λ i low. elim (cases_eq i p) [
      | inl here_is ↦ inl (subst (λ q. IsSureSlot b c q) (sym here_is) (dead killed))
      | inr other ↦ elim (h.slots i low) [
        | inl s ↦ inl (sure-stays c i low (others i low other) s)
        | inr d ↦ absurd (elim (cases_lt i p) as (λ _. ⊥) [ inl below ↦ lowest i below d.1.free | inr above ↦ d.1.lowest p (omega (arith, above, other)) was ])
      ]
    ];
  }

  -- A free slot of a trusted block was written.
  pub block-written : (c p : ℕ) → p < 7 → raw_slot a.shown c p ≡ Free
      → ((i : ℕ) → i < 7 → i ≢ p → raw_slot b.shown c i ≡ raw_slot a.shown c i) → IsSureBlock a false c → IsSureBlock b false c
  block-written c p within was others h = record {
    edges = edges-stay c h.edges;
    mark = elim h.mark [ inl m ↦ inl (are-firm-stays a b (mark_place c) 4 f m) | inr d ↦ absurd (true≢false (sym d.0)) ];
    slots = λ i low. elim (cases_eq i p) [
      | inl here_is ↦ inl (subst (λ q. IsSureSlot b c q) (sym here_is) (elim (h.slots p within) [ inl s ↦ free-firm c p within was s | inr d ↦ absurd (true≢false (sym d.0)) ]))
      | inr other ↦ elim (h.slots i low) [ inl s ↦ inl (sure-stays c i low (others i low other) s) | inr d ↦ absurd (true≢false (sym d.0)) ]
    ];
  } where
    free-firm : (d q : ℕ) → q < 7 → raw_slot a.shown d q ≡ Free → IsSureSlot a d q → IsSureSlot b d q
    free-firm d q low free (firm x y) = firm (are-firm-stays a b (descriptor_place d q) 4 f x) (are-firm-stays a b (sector_place d q) 512 f y)
    free-firm d q low free (dead x) = sure-dead d q low x
    free-firm d q low free (fading x) = let e : 0 ≡ 1 = ap slot_number (sym free ∙ x.live) in absurd (omega (arith, e))
