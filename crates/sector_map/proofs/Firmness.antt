-- What the steps of a firm mount leave of weak bits, block by block.
use Rattle.std.proofs.Common.{◌≡◌, ◌≢◌, ℕ, ◌+◌, ◌-◌, ◌*◌, ◌<◌, ◌≤◌, ◌⊎◌, Bool, true, false, List, refl, sym, ap, ◌∙◌, subst, arith, inl, inr}
use Rattle.std.specs.Prelude.{◌||◌}
use Rattle.std.specs.Int.{bit_at}
use Rattle.std.proofs.lemmas.Bool.{cases_lt, cases_eq, true≢false}
use Rattle.std.proofs.lemmas.Nat.Bits.{bit_at-lt, bit_at-zero, same_from_bits}
use Rattle.chip_model.specs.Memory.{byte}
use Rattle.chip_model.specs.Wavering.{Bits}
use Rattle.nor_driver.specs.State.{IsFirmer}
use Rattle.nor_layout.specs.declared.header.Tag.{Tag}
use Rattle.nor_layout.specs.declared.kind.Kind.{Kind}
use Rattle.nor_layout.specs.declared.kind.Kind.TheVariants as kinds
use Rattle.nor_layout.specs.Kinds.{kind_of}
use Rattle.erase_journal.specs.Weak.{AreFirm, AreZerosFirm}
use Rattle.erase_journal.proofs.FirmJournals.{zeros-stay}
use Rattle.erase_journal.proofs.WeakLaws.{firm-stays, are-firm-stays}
use Rattle.sector_slots.specs.Slots.{Slot, Free, Live, NoGeneration, Dead, Outside, slot_in, data_blocks, data_block, kind_at, raw_slot, is_group, IsSpareIn}
use Rattle.sector_slots.specs.Blocks.{IsAtRest}
use Rattle.sector_slots.specs.Firm.{KeepsHead, HoldsBegun, AreDeadForGood, SameStates, SameStatesBut}
use Rattle.sector_slots.specs.Weak.{block_place, mark_place, descriptor_place, sector_place, AreOnesFirm, AreOnesFirmButThird, HalfMark, HalfSlot, HasNewer, IsHalfBlock, IsHalfLive, IsDoubtfulMark, IsDoubtfulSlot, IsDeadForGood, IsSureSlot, firm, dead, fading, IsSureBlock, IsWhollyFirm}
use Rattle.sector_slots.proofs.DiskLaws.{byte-bits-stay}
use Rattle.sector_slots.proofs.FirmLaws.{bit-firm, wholly-edges, wholly-mark, wholly-slot, slot_number, sure-stays, doubtful-stays, edges-stay, mark-stays}
use Rattle.sector_map.specs.Firm.{IsBegunSlot, IsHeadFirm, IsReadBlock, IsHeldBlock}

-- data block c reads as it did: its kind, its slots and their states
pub record SameRead (m m' : List ℕ) (c : ℕ) : Type 0 where
  pub kind : kind_at m' c ≡ kind_at m c
  pub slots : (i : ℕ) → i < 7 → raw_slot m' c i ≡ raw_slot m c i
  pub states : SameStates c m m'

pub same-block : (m m' : List ℕ) (c : ℕ) → data_block m' c ≡ data_block m c → SameRead m m' c
same-block m m' c e = record {
  kind = ap kind_of e;
  slots = λ i low. ap (λ b. slot_in b i) e;
  states = λ i low. ap (λ b. byte b (16 + 4 * i)) e;
}

pub same-memory : (m m' : List ℕ) (c : ℕ) → m' ≡ m → SameRead m m' c
same-memory m m' c e = same-block m m' c (ap (λ x. data_block x c) e)

-- where a slot of block c had a newer one, it still has
abbrev pub KeepsNewer : List ℕ → List ℕ → ℕ → Type 0
KeepsNewer m m' c = (i : ℕ) → i < 7 → (tag : Tag) (x : List ℕ) → raw_slot m c i ≡ Live tag x → HasNewer m tag → HasNewer m' tag

abbrev pub HeadsFirmBelow : ℕ → Bool → Bits → Type 0
HeadsFirmBelow k begun b = (c : ℕ) → c < k → IsHeadFirm b begun c

pub heads-none : (begun : Bool) (b : Bits) → HeadsFirmBelow 0 begun b
heads-none begun b c low = absurd (omega (arith, low))

or-left : (a b : Bool) → a ≡ true → (a || b) ≡ true
or-left true b e = refl
or-left false b e = absurd (true≢false (sym e))

or-right : (a b : Bool) → b ≡ true → (a || b) ≡ true
or-right true b e = refl
or-right false b e = e

flag-true : (here : Bool) → (here ≡ false → ⊥) → here ≡ true
flag-true true h = refl
flag-true false h = absurd (h refl)

-- a byte of which each bit that reads 0 and each that reads 1 is firm
pub read-byte : (b : Bits) (i : ℕ) → ((k : ℕ) → k < 8 → bit_at (byte b.shown i) k ≡ 0 → bit_at (byte b.weak i) k ≡ 0) → ((k : ℕ) → bit_at (byte b.shown i) k ≡ 1 → bit_at (byte b.weak i) k ≡ 0)
    → ((j : ℕ) → 8 ≤ j → bit_at (byte b.weak i) j ≡ 0) → byte b.weak i ≡ 0
read-byte b i none one high = same_from_bits (byte b.weak i) 0 (λ k. elim (cases_lt k 8) [
  | inr above ↦ high k above ∙ sym (bit_at-zero k)
  | inl low ↦ elim (cases_eq (bit_at (byte b.shown i) k) 0) [
    | inl z ↦ none k low z ∙ sym (bit_at-zero k)
    | inr o ↦ (let two = bit_at-lt (byte b.shown i) k in one k (omega (arith, o, two)) ∙ sym (bit_at-zero k))
  ]
])

-- Calls that answered Ok.
module _ (a b : Bits) (f : IsFirmer a b) where
  ones-stay : (at n : ℕ) → AreOnesFirm a at n → AreOnesFirm b at n
  ones-stay at n h i k from to one = bit-stays i k (λ was. h i k from to was) one where
    bit-stays : (i k : ℕ) → (bit_at (byte a.shown i) k ≡ 1 → bit_at (byte a.weak i) k ≡ 0) → bit_at (byte b.shown i) k ≡ 1 → bit_at (byte b.weak i) k ≡ 0
    bit-stays i k h one = elim (cases_eq (bit_at (byte b.weak i) k) 0) [
      | inl still ↦ still
      | inr weak ↦
          let two = bit_at-lt (byte b.weak i) k in
          let is : bit_at (byte b.weak i) k ≡ 1 = omega (arith, weak, two) in
          let was = f.weak i k is in
          let bit = bit_at-lt (byte a.shown i) k in
          elim (cases_eq (bit_at (byte a.shown i) k) 0) [
            | inl z ↦ (let r = f.reads i k 0 is z in absurd (omega (arith, r, one)))
            | inr o ↦ (let q = h (omega (arith, o, bit)) in absurd (omega (arith, q, was)))
          ]
    ]

  third-stay : (at : ℕ) → AreOnesFirmButThird a at → AreOnesFirmButThird b at
  third-stay at h k other one = elim (cases_eq (bit_at (byte b.weak at) k) 0) [
    | inl still ↦ still
    | inr weak ↦
        let two = bit_at-lt (byte b.weak at) k in
        let is : bit_at (byte b.weak at) k ≡ 1 = omega (arith, weak, two) in
        let was = f.weak at k is in
        let bit = bit_at-lt (byte a.shown at) k in
        elim (cases_eq (bit_at (byte a.shown at) k) 0) [
          | inl z ↦ (let r = f.reads at k 0 is z in absurd (omega (arith, r, one)))
          | inr o ↦ (let q = h k other (omega (arith, o, bit)) in absurd (omega (arith, q, was)))
        ]
  ]

  half-mark : (kind : Kind) (c : ℕ) → (IsDoubtfulMark a c → IsDoubtfulMark b c) → HalfMark kind a c → HalfMark kind b c
  half-mark kinds.Plain c d (inl m) = inl (are-firm-stays a b (mark_place c) 4 f m)
  half-mark kinds.Plain c d (inr h) = inr (d h)
  half-mark kinds.Void c d h = tt
  half-mark (kinds.Committed source) c d h = (third-stay (mark_place c) h.0, ones-stay (mark_place c + 1) 3 h.1)
  half-mark kinds.Settled c d h = ones-stay (mark_place c) 4 h
  half-mark (kinds.Group tag) c d h = h
  half-mark kinds.DeadGroup c d h = h
  half-mark kinds.SpoiltGroup c d h = h
  half-mark kinds.Unknown c d h = h

  half-live : (c i : ℕ) (tag : Tag) (x : List ℕ) → (HasNewer a.shown tag → HasNewer b.shown tag) → IsHalfLive a c i tag x → IsHalfLive b c i tag x
  half-live c i tag x newer h = record {
    sector = are-firm-stays a b (sector_place c i) 512 f h.sector;
    rest = ones-stay (descriptor_place c i + 1) 3 h.rest;
    state = elim h.state [
      | inl o ↦ inl (ones-stay (descriptor_place c i) 1 o)
      | inr t ↦ inr (third-stay (descriptor_place c i) t.0, elim t.1 [ inl n ↦ inl (newer n) | inr z ↦ inr z ])
    ];
  }

  doubtful-moves : (c i : ℕ) → raw_slot b.shown c i ≡ raw_slot a.shown c i → ((j : ℕ) → j < i → raw_slot b.shown c j ≡ Free → raw_slot a.shown c j ≡ Free) → IsDoubtfulSlot a c i → IsDoubtfulSlot b c i
  doubtful-moves c i same lower h = record {
    free = same ∙ h.free;
    lowest = λ j below free. h.lowest j below (lower j below free);
    state = firm-stays a b (descriptor_place c i) 1 f h.state;
    sector = are-firm-stays a b (sector_place c i) 512 f h.sector;
  }

  half-slot : (s : Slot) (c i : ℕ) → i < 7 → raw_slot a.shown c i ≡ s → raw_slot b.shown c i ≡ raw_slot a.shown c i → ((j : ℕ) → j < i → raw_slot b.shown c j ≡ Free → raw_slot a.shown c j ≡ Free) → KeepsNewer a.shown b.shown c
      → HalfSlot s a c i → HalfSlot s b c i
  half-slot Free c i low is same lower newer (inl s) = inl (sure-stays a b f c i low same s)
  half-slot Free c i low is same lower newer (inr d) = inr (doubtful-moves c i same lower d)
  half-slot (Live tag x) c i low is same lower newer h = half-live c i tag x (newer i low tag x is) h
  half-slot NoGeneration c i low is same lower newer h = h
  half-slot Dead c i low is same lower newer h = tt
  half-slot Outside c i low is same lower newer h = h

  pub half-stays : (c : ℕ) → KeepsNewer a.shown b.shown c → kind_at b.shown c ≡ kind_at a.shown c → ((i : ℕ) → i < 7 → raw_slot b.shown c i ≡ raw_slot a.shown c i) → IsHalfBlock a c → IsHalfBlock b c
  half-stays c newer kind same h = record {
    bytes = λ other. byte-bits-stay a b f c (h.bytes (λ e. other (kind ∙ e)));
    mark = subst (λ k. HalfMark k b c) (sym kind) (half-mark (kind_at a.shown c) c (mark-stays a b f c kind same) h.mark);
    edges = λ other. edges-stay a b f c (h.edges (λ e. other (kind ∙ e)));
    slots = λ other i low. subst (λ s. HalfSlot s b c i) (sym (same i low))
        (half-slot (raw_slot a.shown c i) c i low refl (same i low) (λ j below free. sym (same j (omega (arith, below, low))) ∙ free) newer (h.slots (λ e. other (kind ∙ e)) i low));
  }

  pub head-stays : (begun now : Bool) → (begun ≡ true → now ≡ true) → (c : ℕ) → SameRead a.shown b.shown c → IsHeadFirm a begun c → IsHeadFirm b now c
  head-stays begun now more c same h = record {
    zeros = zeros-stay a b (block_place c) 44 f h.zeros;
    dead = λ g i low e. elim (h.dead (ap is_group (sym same.kind) ∙ g) i low (sym (same.slots i low) ∙ e)) [
      | inl s ↦ inl (sure-stays a b f c i low (same.slots i low) s)
      | inr w ↦ inr (more w.0, same.states i low ∙ w.1)
    ];
  }

  pub read-stays : (begun : Bool) (c : ℕ) → KeepsNewer a.shown b.shown c → SameRead a.shown b.shown c → IsReadBlock a begun c → IsReadBlock b begun c
  read-stays begun c newer same h = record {
    half = half-stays c newer same.kind same.slots h.half;
    head = head-stays begun begun (λ e. e) c same h.head;
  }

  pub held-stays : (begun : Bool) (c : ℕ) → SameRead a.shown b.shown c → IsHeldBlock a begun c → IsHeldBlock b begun c
  held-stays begun c same h = record {
    of_slots = ap is_group same.kind ∙ h.of_slots;
    edges = edges-stay a b f c h.edges;
    mark = elim h.mark [ inl m ↦ inl (are-firm-stays a b (mark_place c) 4 f m) | inr d ↦ inr (mark-stays a b f c same.kind same.slots d) ];
    slots = λ i low. elim (h.slots i low) [
      | inl s ↦ inl (elim s [ inl t ↦ inl (sure-stays a b f c i low (same.slots i low) t) | inr d ↦ inr (doubtful-stays a b f c i (λ j below. same.slots j (omega (arith, below, low))) d) ])
      | inr w ↦ inr (w.0, same.states i low ∙ w.1)
    ];
  }

  -- one more head was programmed
  pub heads-more : (k : ℕ) (before here now : Bool) → k < data_blocks a.shown → now ≡ (before || here) → KeepsHead k a.shown b.shown → AreZerosFirm b (block_place k) 44 → AreDeadForGood k a.shown b
      → (here ≡ false → HoldsBegun (data_block a.shown k) → ⊥) → HeadsFirmBelow k before a → HeadsFirmBelow (k + 1) now b
  heads-more k before here now inside is keeps none good not_begun below c low = elim (cases_eq c k) [
    | inr other ↦
        let under : c < k = omega (arith, low, other) in
        let e : data_block b.shown c ≡ data_block a.shown c = keeps.only.others (c + 4) (omega arith) (omega (arith, under, inside)) (λ q. other (omega (arith, q))) in
        head-stays before now (λ t. is ∙ or-left before here t) c (same-block a.shown b.shown c e) (below c under)
    | inl at ↦ subst (λ q. IsHeadFirm b now q) (sym at) (record {
      zeros = none;
      dead = λ g i li e.
          let g0 : is_group (kind_at a.shown k) ≡ false = ap is_group (sym keeps.kind) ∙ g in
          elim (good g0 i li (sym (keeps.slots i li) ∙ e)) [
            | inl d ↦ inl (dead d)
            | inr w ↦ inr (is ∙ or-right before here (flag-true here (λ none_here. not_begun none_here (record { slots = g0; place = i; within = li; begun = w.0 }))), w.1)
          ];
    })
  ]

-- A block that was erased.
pub wholly-read : (b : Bits) (begun : Bool) (c : ℕ) → IsWhollyFirm b.weak c → IsSpareIn b.shown c → IsReadBlock b begun c
wholly-read b begun c w spare = record {
  half = record {
    bytes = λ other k j low high. bit-firm b.weak (block_place c + k) j (w k low);
    mark = subst (λ k. HalfMark k b c) (sym spare.plain) (inl (wholly-mark b.weak c w));
    edges = λ other. wholly-edges b.weak c w;
    slots = λ other i low. subst (λ s. HalfSlot s b c i) (sym (spare.free i low)) (inl (wholly-slot b c i low w));
  };
  head = record {
    zeros = λ i k from to low none.
        let e : block_place c + (i - block_place c) ≡ i = omega arith in
        ap (λ q. bit_at (byte b.weak q) k) (sym e) ∙ bit-firm b.weak (block_place c + (i - block_place c)) k (w (i - block_place c) (omega arith));
    dead = λ g i low e. (let q : 0 ≡ 3 = ap slot_number (sym (spare.free i low) ∙ e) in absurd (omega (arith, q)));
  };
}

-- a committed block isn't void
abbrev IsCommittedKind : Kind → Type 0
IsCommittedKind kinds.Plain = ⊥
IsCommittedKind kinds.Void = ⊥
IsCommittedKind (kinds.Committed s) = Unit {0}
IsCommittedKind kinds.Settled = ⊥
IsCommittedKind (kinds.Group tag) = ⊥
IsCommittedKind kinds.DeadGroup = ⊥
IsCommittedKind kinds.SpoiltGroup = ⊥
IsCommittedKind kinds.Unknown = ⊥

pub committed-void : (s : ℕ) → kinds.Committed s ≡ kinds.Void → ⊥
committed-void s e = subst (λ k. IsCommittedKind k) e tt

-- A committed copy was settled.
pub settled-read : (a b : Bits) → IsFirmer a b → (begun : Bool) (source t : ℕ) → KeepsNewer a.shown b.shown t → kind_at a.shown t ≡ kinds.Committed source → kind_at b.shown t ≡ kinds.Settled
    → ((i : ℕ) → i < 7 → raw_slot b.shown t i ≡ raw_slot a.shown t i) → SameStates t a.shown b.shown → bit_at (byte b.weak (mark_place t)) 2 ≡ 0 → IsReadBlock a begun t → IsReadBlock b begun t
settled-read a b f begun source t newer was is same states third h =
    let m : HalfMark (kinds.Committed source) a t = subst (λ k. HalfMark k a t) was h.half.mark in
    let not_void : kind_at a.shown t ≡ kinds.Void → ⊥ = λ e. committed-void source (sym was ∙ e) in
    record {
      half = record {
        bytes = λ other. byte-bits-stay a b f t (h.half.bytes not_void);
        mark = subst (λ k. HalfMark k b t) (sym is) (λ i k from to one. elim (cases_eq i (mark_place t)) [
          | inl at ↦ subst (λ q. bit_at (byte b.weak q) k ≡ 0) (sym at) (elim (cases_eq k 2) [
            | inl two ↦ subst (λ q. bit_at (byte b.weak (mark_place t)) q ≡ 0) (sym two) third
            | inr other ↦ third-stay a b f (mark_place t) m.0 k other (subst (λ q. bit_at (byte b.shown q) k ≡ 1) at one)
          ])
          | inr away ↦ ones-stay a b f (mark_place t + 1) 3 m.1 i k (omega (arith, from, away)) (omega (arith, to)) one
        ]);
        edges = λ other. edges-stay a b f t (h.half.edges not_void);
        slots = λ other i low. subst (λ s. HalfSlot s b t i) (sym (same i low)) (half-slot a b f (raw_slot a.shown t i) t i low refl (same i low) (λ j below free. sym (same j (omega (arith, below, low))) ∙ free) newer (h.half.slots not_void i low));
      };
      head = record {
        zeros = zeros-stay a b (block_place t) 44 f h.head.zeros;
        dead = λ g i low e. elim (h.head.dead (ap is_group was) i low (sym (same i low) ∙ e)) [
          | inl s ↦ inl (sure-stays a b f t i low (same i low) s)
          | inr w ↦ inr (w.0, states i low ∙ w.1)
        ];
      };
    }

-- One slot of a block, which was live, came to be dead for good.
pub retired-read : (a b : Bits) (f : IsFirmer a b) (begun : Bool) (c p : ℕ) → p < 7 → (tag : Tag) (x : List ℕ) → raw_slot a.shown c p ≡ Live tag x → raw_slot b.shown c p ≡ Dead → IsDeadForGood b c p → kind_at b.shown c ≡ kind_at a.shown c
    → ((i : ℕ) → i < 7 → i ≢ p → raw_slot b.shown c i ≡ raw_slot a.shown c i) → SameStatesBut p c a.shown b.shown → KeepsNewer a.shown b.shown c → IsReadBlock a begun c → IsReadBlock b begun c
retired-read a b f begun c p within tag x was now good kind same states newer h =
    let not_free : (s : Slot) → s ≡ Live tag x → s ≡ Free → ⊥ = λ s l e. (let q : 0 ≡ 1 = ap slot_number (sym e ∙ l) in omega (arith, q)) in
    let dead_free : (s : Slot) → s ≡ Dead → s ≡ Free → ⊥ = λ s l e. (let q : 0 ≡ 3 = ap slot_number (sym e ∙ l) in omega (arith, q)) in
    record {
      half = record {
        bytes = λ other. byte-bits-stay a b f c (h.half.bytes (λ e. other (kind ∙ e)));
        mark = subst (λ k. HalfMark k b c) (sym kind) (half-mark a b f (kind_at a.shown c) c (λ d. absurd (not_free (raw_slot a.shown c p) was (d.spare.free p within))) h.half.mark);
        edges = λ other. edges-stay a b f c (h.half.edges (λ e. other (kind ∙ e)));
        slots = λ other i low. elim (cases_eq i p) as (λ _. HalfSlot (raw_slot b.shown c i) b c i) [
          | inl at ↦ subst (λ q. HalfSlot (raw_slot b.shown c q) b c q) (sym at) (subst (λ s. HalfSlot s b c p) (sym now) tt)
          | inr away ↦ subst (λ s. HalfSlot s b c i) (sym (same i low away))
              (half-slot a b f (raw_slot a.shown c i) c i low refl (same i low away)
              (λ j below free. elim (cases_eq j p) as (λ _. raw_slot a.shown c j ≡ Free) [
                | inl there ↦ absurd (dead_free (raw_slot b.shown c p) now (subst (λ q. raw_slot b.shown c q ≡ Free) there free))
                | inr elsewhere ↦ sym (same j (omega (arith, below, low)) elsewhere) ∙ free
              ])
              newer (h.half.slots (λ e. other (kind ∙ e)) i low))
        ];
      };
      head = record {
        zeros = zeros-stay a b (block_place c) 44 f h.head.zeros;
        dead = λ g i low e. elim (cases_eq i p) as (λ _. IsSureSlot b c i ⊎ ((begun ≡ true) × IsBegunSlot b.shown c i)) [
          | inl at ↦ inl (subst (λ q. IsSureSlot b c q) (sym at) (dead good))
          | inr away ↦ elim (h.head.dead (ap is_group (sym kind) ∙ g) i low (sym (same i low away) ∙ e)) [
            | inl s ↦ inl (sure-stays a b f c i low (same i low away) s)
            | inr w ↦ inr (w.0, states i low away ∙ w.1)
          ]
        ];
      };
    }

-- Where no copying goes on, and no slot has a newer one: all is sure or doubtful, or begun.
module _ (b : Bits) (begun : Bool) (c : ℕ) (h : IsReadBlock b begun c) (newest : (i : ℕ) → i < 7 → (tag : Tag) (x : List ℕ) → raw_slot b.shown c i ≡ Live tag x → HasNewer b.shown tag → ⊥) (rest : IsAtRest (kind_at b.shown c)) where
  not-void : kind_at b.shown c ≡ kinds.Void → ⊥
  not-void e = subst (λ q. IsAtRest q) e rest

  low-zeros : (at k : ℕ) → at < 44 → k < 8 → bit_at (byte b.shown (block_place c + at)) k ≡ 0 → bit_at (byte b.weak (block_place c + at)) k ≡ 0
  low-zeros at k small low none = h.head.zeros (block_place c + at) k (omega arith) (omega (arith, small)) low none

  both-firm : (at n : ℕ) → at + n ≤ 44 → AreOnesFirm b (block_place c + at) n → AreFirm b.weak (block_place c + at) n
  both-firm at n fits ones k low =
      let e : block_place c + at + k ≡ block_place c + (at + k) = omega arith in
      ap (λ q. byte b.weak q) e ∙ read-byte b (block_place c + (at + k)) (λ j small none. low-zeros (at + k) j (omega (arith, fits, low)) small none)
      (λ j one. ones (block_place c + (at + k)) j (omega arith) (omega (arith, low)) one) (λ j high. h.half.bytes not-void (at + k) j (omega (arith, fits, low)) high)

  held-mark : (kind : Kind) → IsAtRest kind → HalfMark kind b c → AreFirm b.weak (mark_place c) 4 ⊎ IsDoubtfulMark b c
  held-mark kinds.Plain rest m = m
  held-mark kinds.Void rest m = absurd rest
  held-mark (kinds.Committed source) rest m = absurd rest
  held-mark kinds.Settled rest m = inl (both-firm 4 4 (omega arith) m)
  held-mark (kinds.Group tag) rest m = absurd m
  held-mark kinds.DeadGroup rest m = absurd m
  held-mark kinds.SpoiltGroup rest m = absurd m
  held-mark kinds.Unknown rest m = absurd m

  four : (at : ℕ) → AreFirm b.weak at 1 → AreFirm b.weak (at + 1) 3 → AreFirm b.weak at 4
  four at one rest k low = elim (cases_eq k 0) [
    | inl z ↦ subst (λ q. byte b.weak (at + q) ≡ 0) (sym z) (one 0 (omega arith))
    | inr more ↦ (let e : at + 1 + (k - 1) ≡ at + k = omega (arith, more) in ap (λ q. byte b.weak q) (sym e)) ∙ rest (k - 1) (omega (arith, low, more))
  ]

  live-sure : (i : ℕ) → i < 7 → (tag : Tag) (x : List ℕ) → raw_slot b.shown c i ≡ Live tag x → IsHalfLive b c i tag x → IsSureSlot b c i
  live-sure i low tag x is l =
      let back : descriptor_place c i + 1 ≡ block_place c + (16 + 4 * i + 1) = omega arith in
      let rest : AreFirm b.weak (descriptor_place c i + 1) 3 = subst (λ q. AreFirm b.weak q 3) (sym back) (both-firm (16 + 4 * i + 1) 3 (omega (arith, low)) (subst (λ q. AreOnesFirm b q 3) back l.rest)) in
      elim l.state as (λ _. IsSureSlot b c i) [
        | inl ones ↦ firm (four (descriptor_place c i) (both-firm (16 + 4 * i) 1 (omega (arith, low)) ones) rest) l.sector
        | inr third ↦ elim third.1 as (λ _. IsSureSlot b c i) [
          | inl n ↦ absurd (newest i low tag x is n)
          | inr blank ↦ fading (record {
            tag = tag;
            live = is ∙ ap (λ y. Live tag y) blank;
            state = λ k other. elim (cases_lt k 8) [
              | inr high ↦ h.half.bytes not-void (16 + 4 * i) k (omega (arith, low)) high
              | inl small ↦ elim (cases_eq (bit_at (byte b.shown (descriptor_place c i)) k) 0) [
                | inl z ↦ low-zeros (16 + 4 * i) k (omega (arith, low)) small z
                | inr o ↦ (let two = bit_at-lt (byte b.shown (descriptor_place c i)) k in third.0 k other (omega (arith, o, two)))
              ]
            ];
            rest = rest;
            sector = l.sector;
          })
        ]
      ]

  held-slot : (s : Slot) (i : ℕ) → i < 7 → raw_slot b.shown c i ≡ s → is_group (kind_at b.shown c) ≡ false → HalfSlot s b c i → (IsSureSlot b c i ⊎ IsDoubtfulSlot b c i) ⊎ ((begun ≡ true) × IsBegunSlot b.shown c i)
  held-slot Free i low is g d = inl d
  held-slot (Live tag x) i low is g l = inl (inl (live-sure i low tag x is l))
  held-slot NoGeneration i low is g d = absurd d
  held-slot Dead i low is g d = elim (h.head.dead g i low is) [ inl s ↦ inl (inl s) | inr w ↦ inr w ]
  held-slot Outside i low is g d = absurd d

  rest-group : (k : Kind) → HalfMark k b c → is_group k ≡ false
  rest-group kinds.Plain m = refl
  rest-group kinds.Void m = refl
  rest-group (kinds.Committed source) m = refl
  rest-group kinds.Settled m = refl
  rest-group (kinds.Group tag) m = absurd m
  rest-group kinds.DeadGroup m = absurd m
  rest-group kinds.SpoiltGroup m = absurd m
  rest-group kinds.Unknown m = absurd m

  pub held-read : IsHeldBlock b begun c
  held-read = record {
    of_slots = rest-group (kind_at b.shown c) h.half.mark;
    edges = h.half.edges not-void;
    mark = held-mark (kind_at b.shown c) rest h.half.mark;
    slots = λ i low. held-slot (raw_slot b.shown c i) i low refl (rest-group (kind_at b.shown c) h.half.mark) (h.half.slots not-void i low);
  }

-- a block is of no group
pub half-no-group : (kind : Kind) (b : Bits) (c : ℕ) → HalfMark kind b c → is_group kind ≡ true → ⊥
half-no-group kinds.Plain b c m e = true≢false (sym e)
half-no-group kinds.Void b c m e = true≢false (sym e)
half-no-group (kinds.Committed source) b c m e = true≢false (sym e)
half-no-group kinds.Settled b c m e = true≢false (sym e)
half-no-group (kinds.Group tag) b c m e = m
half-no-group kinds.DeadGroup b c m e = m
half-no-group kinds.SpoiltGroup b c m e = m
half-no-group kinds.Unknown b c m e = m

-- A block none of whose slots is begun is sure.
pub held-sure : (b : Bits) (begun : Bool) (c : ℕ) → IsHeldBlock b begun c → ((i : ℕ) → i < 7 → begun ≡ true → IsBegunSlot b.shown c i → ⊥) → IsSureBlock b true c
held-sure b begun c h none = record {
  edges = h.edges;
  mark = elim h.mark [ inl m ↦ inl m | inr d ↦ inr (refl, d) ];
  slots = λ i low. elim (h.slots i low) [
    | inl s ↦ elim s [ inl t ↦ inl t | inr d ↦ inr (refl, d) ]
    | inr w ↦ absurd (none i low w.0 w.1)
  ];
}

pub wholly-held : (b : Bits) (begun : Bool) (c : ℕ) → is_group (kind_at b.shown c) ≡ false → IsWhollyFirm b.weak c → IsHeldBlock b begun c
wholly-held b begun c g w = record { of_slots = g; edges = wholly-edges b.weak c w; mark = inl (wholly-mark b.weak c w); slots = λ i low. inl (inl (wholly-slot b c i low w)) }
