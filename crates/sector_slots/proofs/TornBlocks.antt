-- What a loss of power in a call leaves of a block: at each draw of its weak bits it is as one interrupted change leaves it.
use Rattle.std.proofs.Common.{◌≡◌, ◌≢◌, ℕ, ◌+◌, ◌-◌, ◌*◌, ◌<◌, ◌≤◌, ◌⊎◌, Bool, false, List, [], ◌∷◌, length, refl, sym, ap, ◌∙◌, subst, arith, inl, inr}
use Rattle.std.specs.Prelude.{bit_and, drop, min, take}
use Rattle.std.specs.Int.{bit_at}
use Rattle.std.proofs.lemmas.Bool.{cases_eq, cases_lt, true≢false}
use Rattle.chip_model.specs.Memory.{byte}
use Rattle.chip_model.specs.Wavering.{Bits, Drawn}
use Rattle.nor_driver.specs.State.{changed_whole}
use Rattle.nor_layout.specs.declared.header.Generation.{Generation}
use Rattle.nor_layout.specs.declared.header.Generation.TheVariants as generations
use Rattle.nor_layout.specs.declared.header.Tag.{Tag}
use Rattle.nor_layout.specs.declared.kind.Kind.TheVariants as kinds
use Rattle.nor_layout.specs.Headers.{generation_byte}
use Rattle.nor_layout.specs.Journals.{block_len}
use Rattle.erase_journal.specs.Blocks.{is_opened}
use Rattle.erase_journal.specs.Journals.{IsSettled}
use Rattle.erase_journal.specs.Weak.{AreFirm}
use Rattle.erase_journal.proofs.Data.{settled-own}
use Rattle.erase_journal.proofs.Losses.{program-beside}
use Rattle.erase_journal.proofs.Draws.{firm-byte}
use Rattle.sector_slots.specs.Half.{IsHalfAtEachDraw, IsKnownBlock}
use Rattle.sector_slots.specs.Slots.{data_blocks, NoGeneration, Free, Live, data_block, kind_at, raw_slot, is_group, IsSpareIn}
use Rattle.sector_slots.specs.Sectors.{zeros}
use Rattle.erase_journal.specs.Torn.{SameAt, ProgramInterrupted}
use Rattle.sector_slots.specs.Torn.{StateInterrupted, IsBegunHead, BeginInterrupted, SameButPlace, PutInterrupted, in_header, in_first_page, in_second_page, in_commit, with_descriptor, with_first_page, with_pages}
use Rattle.sector_slots.specs.Weak.{HasByteBits, IsFirmStore, block_place, mark_place, descriptor_place, sector_place, IsSureSlot, firm, dead, fading, IsSureBlock, HalfMark, IsHalfBlock, HasNewer, AreOnesFirm}
use Rattle.sector_slots.proofs.FirmLaws.{here, bit-firm, slot_number}
use Rattle.sector_slots.proofs.SectorBits.{SameButSector, first-aside, second-aside, pages-aside, begun-generation}
use Rattle.sector_slots.proofs.TornBits.{IsKeptBit, shown-bit, programmed-byte, zero-stays, state-kept, others-left, IsBitStep, begin-step, commit-step, retire-step, one-weak, no-bits}
use Rattle.sector_slots.proofs.HeadLaws.{committed-slot, void-kind, committed-kind, settled-kind, committed-state, void-plain, committed-plain, committed-void, live-state, free-bytes, plain-mark}
use Rattle.sector_slots.proofs.HalfBlocks.{IsBlockRead, IsBesideSlot, IsTornSlot, left_sure, changed, is-there, drawn-group, drawn-kind, begun-kind, begun-mark, doubtful-mark, firm-mark, torn-free, begun-torn, live-torn, marked-start, retiring-is, retiring-half, unlive-half, block-torn, dead-reads, firm-ones, first-firm, firm-after, IsAnyPlace, beside-any}
use Rattle.sector_slots.proofs.LeftLaws.{program-apart, known-slots, with_loss, left-byte, left-bit, left-mark, left-rest, left-sector, left-sure, left-idle, left-torn, left-read, Beside, program-left, program-bytes, beside-descriptor, other-slot, own-rest, beside-mark, mark-slot, taken-mark, trusted-mark, slot-torn, not-free-live, live-or-dead, IsLeft, AreBesideEdges}

-- The retirement of a live slot was cut.
pub record IsSureLive (a : Bits) (c p : ℕ) : Type 0 where
  pub state : (k : ℕ) → k ≢ 2 → bit_at (byte a.weak (descriptor_place c p)) k ≡ 0
  pub rest : AreFirm a.weak (descriptor_place c p + 1) 3
  pub sector : AreFirm a.weak (sector_place c p) 512

state-firm : (w : List ℕ) (at k : ℕ) → AreFirm w at 4 → bit_at (byte w at) k ≡ 0
state-firm w at k f = bit-firm w at k (first-firm w at 4 (omega arith) f)

pub sure-live : (a : Bits) (c p : ℕ) (tag : Tag) (x : List ℕ) → p < 7 → IsKnownBlock a c → raw_slot a.shown c p ≡ Live tag x → IsSureSlot a c p → IsSureLive a c p
sure-live a c p tag x low known live (firm d s) = record { state = λ k other. state-firm a.weak (descriptor_place c p) k d; rest = firm-after a.weak (descriptor_place c p) d; sector = s }
sure-live a c p tag x low known live (dead h) =
    let q : 3 ≡ 1 = ap slot_number (sym (dead-reads a.shown c p h.bit (settled-own a.shown (c + 4) known.settled) (known-slots a c known) low h.from h.below h.reads) ∙ live) in
    absurd (omega (arith, q))
sure-live a c p tag x low known live (fading h) = record { state = h.state; rest = h.rest; sector = h.sector }

-- A live slot was made dead, of which a newer one holds the sector, at each draw, or that is zeros.
pub half-retired : (a new : Bits) (suspect : Bool) (c p : ℕ) (tag : Tag) (x : List ℕ) → p < 7 → IsKnownBlock a c → IsSureBlock a suspect c → raw_slot a.shown c p ≡ Live tag x
    → ((v : List ℕ) → Drawn new.weak new.shown v → HasNewer v tag ⊎ (x ≡ zeros)) → StateInterrupted (descriptor_place c p) 248 a new → IsHalfAtEachDraw c new
half-retired a new suspect c p tag x low known h live newer l v d shut =
    let P = Beside (16 + 4 * p) 1 in
    let b = with_loss a new in
    let left = program-left a new c (16 + 4 * p) (248 ∷ []) l in
    let r = left-read P a new c left v (beside-descriptor p 1 low (omega arith)) known.settled (known-slots a c known) h.edges d shut in
    let was : byte a.shown (descriptor_place c p) ≡ 252 = sym (here a.shown c (16 + 4 * p) known.settled (omega (arith, low))) ∙ live-state (data_block a.shown c) p tag x (known-slots a c known) live in
    let s : IsSureLive a c p = elim (h.slots p low) [ inl s ↦ sure-live a c p tag x low known live s | inr q ↦ absurd (not-free-live (raw_slot a.shown c p) tag x live q.1.free) ] in
    let kept = λ (k : ℕ) (other : k ≢ 2). state-kept a new (descriptor_place c p) (248 ∷ []) 252 k l (omega arith) was (others-left 2 252 248 k retire-step.others other) (s.state k other) in
    let rest' = left-rest P a new c left p low (own-rest p low) s.rest in
    let sector' = left-sector P a new c left p low (own-rest p low) s.sector in
    let reads = retiring-is P b v c r p tag x low (own-rest p low) live (λ k other. ap (λ y. bit_at y k) (is-there P b v c r (16 + 4 * p) (omega (arith, low))) ∙ (kept k other).reads v d) rest' sector' in
    let single : (j : ℕ) → j < 1 → byte a.shown (block_place c + (16 + 4 * p + j)) < 256 = λ j small. (let e : block_place c + (16 + 4 * p + j) ≡ descriptor_place c p = omega (arith, small) in let y = ap (λ q. byte a.shown q) e in omega (arith, y, was)) in
    slot-torn P a new c p suspect v left r known (program-bytes a new c (16 + 4 * p) (248 ∷ []) l known single) h (taken-mark a suspect c (λ is. not-free-live (raw_slot a.shown c p) tag x live (is.free p low)) h)
    (λ k small. inl (omega (arith, small))) (λ i li other. other-slot p 1 i low (omega arith) other)
    (changed (λ free. absurd (live-or-dead (raw_slot v c p) tag x reads free)) (retiring-half P b v c r p tag x (newer v d) (λ k other. (kept k other).firm) rest' sector' reads))

-- Nothing of the block was changed.
pub half-left : (a new : Bits) (suspect : Bool) (c : ℕ) → IsKnownBlock a c → IsSureBlock a suspect c → length new.shown ≡ length a.shown → ((k : ℕ) → k < block_len → SameAt a new (block_place c + k)) → IsHalfAtEachDraw c new
half-left a new suspect c known h size same v d shut =
    let b = with_loss a new in
    let left : IsLeft IsAnyPlace a new c = record { same_length = size; same = λ k low any. same k low } in
    let edges : AreBesideEdges IsAnyPlace = record { start = λ k low. tt; after_mark = λ k low. tt; after_descriptors = λ k low. tt } in
    let r = left-read IsAnyPlace a new c left v edges known.settled (known-slots a c known) h.edges d shut in
    let slots = λ (i : ℕ) (low : i < 7). left-torn IsAnyPlace a new c left v suspect i low (beside-any i) h in
    let bytes : HasByteBits new c = λ k j low high. left-bit IsAnyPlace a new c left (block_place c + k) k j refl low tt (known.bytes k j low high) in
    elim h.mark as (λ _. IsHalfBlock (record { shown = v; weak = new.weak }) c) [
      | inl f ↦
          let firmly = left-mark IsAnyPlace a new c left (λ k low. tt) f in
          let still = drawn-kind IsAnyPlace b v c r (λ k low. tt) firmly in
          block-torn IsAnyPlace b v c r bytes (firm-mark IsAnyPlace b v c r (λ k low. tt) known.marked firmly) (λ other. known.whole (λ void. other (still ∙ void))) slots
      | inr q ↦
          block-torn IsAnyPlace b v c r bytes (doubtful-mark IsAnyPlace b v c r tt (λ i low. beside-any i) (left-idle IsAnyPlace a new c left tt (λ i low. beside-any i) q.1))
          (λ other. known.whole (λ void. void-plain (kind_at a.shown c) void q.1.spare.plain)) slots
    ]

-- One block was changed: so is each block, where the others were sure.
pub each-half : (a new : Bits) (suspect : ℕ → Bool) (c : ℕ) → ((e : ℕ) → e < data_blocks a.shown → e ≢ c → IsKnownBlock a e) → IsFirmStore a suspect → length new.shown ≡ length a.shown
    → ((e : ℕ) → e ≢ c → (k : ℕ) → k < block_len → SameAt a new (block_place e + k)) → IsHalfAtEachDraw c new → (e : ℕ) → e < data_blocks a.shown → IsHalfAtEachDraw e new
each-half a new suspect c known store size same half e low = elim (cases_eq e c) as (λ _. IsHalfAtEachDraw e new) [
  | inl is ↦ subst (λ q. IsHalfAtEachDraw q new) (sym is) half
  | inr other ↦ half-left a new (suspect e) e (known e low other) (store e low) size (same e other)
]

-- The lowest free slot was killed, in a block that isn't wholly free.
pub sure-free : (a : Bits) (c p : ℕ) → p < 7 → IsKnownBlock a c → raw_slot a.shown c p ≡ Free → IsSureSlot a c p → AreFirm a.weak (descriptor_place c p) 4 × AreFirm a.weak (sector_place c p) 512
sure-free a c p low known free (firm d s) = (d, s)
sure-free a c p low known free (dead h) =
    let q : 0 ≡ 3 = ap slot_number (sym free ∙ dead-reads a.shown c p h.bit (settled-own a.shown (c + 4) known.settled) (known-slots a c known) low h.from h.below h.reads) in
    absurd (omega (arith, q))
sure-free a c p low known free (fading h) = absurd (not-free-live (raw_slot a.shown c p) h.tag zeros h.live free)

-- a free slot: its sector is firm, and bit 1 of its state
pub free-firm : (a : Bits) (suspect : Bool) (c p : ℕ) → p < 7 → IsKnownBlock a c → raw_slot a.shown c p ≡ Free → IsSureBlock a suspect c → (bit_at (byte a.weak (descriptor_place c p)) 1 ≡ 0) × AreFirm a.weak (sector_place c p) 512
free-firm a suspect c p low known free h = elim (h.slots p low) [
  | inl s ↦ (let f = sure-free a c p low known free s in (state-firm a.weak (descriptor_place c p) 1 f.0, f.1))
  | inr q ↦ (q.1.state, q.1.sector)
]

-- the bytes of its descriptor
free-place : (a : Bits) (c p : ℕ) → p < 7 → IsKnownBlock a c → raw_slot a.shown c p ≡ Free → (j : ℕ) → j < 4 → byte a.shown (descriptor_place c p + j) ≡ 255
free-place a c p low known free j small =
    let e : block_place c + (16 + 4 * p + j) ≡ descriptor_place c p + j = omega arith in
    ap (λ q. byte a.shown q) (sym e) ∙ (sym (here a.shown c (16 + 4 * p + j) known.settled (omega (arith, low, small))) ∙ free-bytes (data_block a.shown c) p (known-slots a c known) free j small)

pub free-first : (a : Bits) (c p : ℕ) → p < 7 → IsKnownBlock a c → raw_slot a.shown c p ≡ Free → byte a.shown (descriptor_place c p) ≡ 255
free-first a c p low known free = (let e : descriptor_place c p ≡ descriptor_place c p + 0 = omega arith in ap (λ q. byte a.shown q) e) ∙ free-place a c p low known free 0 (omega arith)

-- The first program of the lowest free slot was interrupted, and left bit 1 of its state.
half-unlive : (a new : Bits) (suspect : Bool) (c p : ℕ) (bytes : List ℕ) → p < 7 → IsKnownBlock a c → IsSureBlock a suspect c → AreFirm a.weak (mark_place c) 4 → raw_slot a.shown c p ≡ Free → ((j : ℕ) → j < p → raw_slot a.shown c j ≢ Free)
    → length bytes ≤ 4 → 0 < length bytes → bit_at (byte bytes 0) 1 ≡ 1 → ProgramInterrupted (descriptor_place c p) bytes a new → IsHalfAtEachDraw c new
half-unlive a new suspect c p bytes low known h mark free lowest few some one l v d shut =
    let P = Beside (16 + 4 * p) (length bytes) in
    let b = with_loss a new in
    let left = program-left a new c (16 + 4 * p) bytes l in
    let r = left-read P a new c left v (beside-descriptor p (length bytes) low few) known.settled (known-slots a c known) h.edges d shut in
    let f = free-firm a suspect c p low known free h in
    let kept = state-kept a new (descriptor_place c p) bytes 255 1 l some (free-first a c p low known free) (ap (λ x. min 1 x) one) f.0 in
    let small : (j : ℕ) → j < length bytes → byte a.shown (block_place c + (16 + 4 * p + j)) < 256 = λ j li.
    (let e : descriptor_place c p + j ≡ block_place c + (16 + 4 * p + j) = omega arith in let y = ap (λ q. byte a.shown q) e in let z = free-place a c p low known free j (omega (arith, li, few)) in omega (arith, y, z)) in
    let others = λ (i : ℕ) (li : i < 7) (other : i ≢ p). other-slot p (length bytes) i low few other in
    slot-torn P a new c p suspect v left r known (program-bytes a new c (16 + 4 * p) bytes l known small) h mark (λ k tiny. inl (omega (arith, tiny))) others
    (changed (λ _. free) (unlive-half P b v c r p
    (ap (λ y. bit_at y 1) (is-there P b v c r (16 + 4 * p) (omega (arith, low))) ∙ kept.reads v d)
    (λ j below is.
    let lj : j < 7 = omega (arith, below, low) in
    lowest j below (torn-free P b v c r j lj (left-torn P a new c left v suspect j lj (others j lj (omega (arith, below))) h) is))
    kept.firm
    (λ k tiny. left-byte P a new c left (sector_place c p + k) (512 * (p + 1) + k) (omega arith) (omega (arith, low, tiny)) (inr (omega (arith, low, few))) ∙ f.1 k tiny)))

pub half-killed : (a new : Bits) (suspect : Bool) (c p : ℕ) → p < 7 → IsKnownBlock a c → IsSureBlock a suspect c → (IsSpareIn a.shown c → ⊥) → raw_slot a.shown c p ≡ Free → ((j : ℕ) → j < p → raw_slot a.shown c j ≢ Free)
    → StateInterrupted (descriptor_place c p) 251 a new → IsHalfAtEachDraw c new
half-killed a new suspect c p low known h part free lowest l = half-unlive a new suspect c p (251 ∷ []) low known h (taken-mark a suspect c part h) free lowest (omega arith) (omega arith) refl l

-- A copying into a wholly free block was begun.
begun-bit : (bytes : List ℕ) (k : ℕ) → IsBegunHead bytes → k ≢ 0 → min (bit_at 255 k) (bit_at (byte bytes 0) k) ≡ bit_at 255 k
begun-bit bytes k begun other = ap (λ x. min (bit_at 255 k) (bit_at x k)) begun.state ∙ others-left 0 255 254 k begin-step.others other

pub trusted-slot : (a : Bits) (c i : ℕ) → i < 7 → IsSureBlock a false c → IsSureSlot a c i
trusted-slot a c i low h = elim (h.slots i low) [ inl s ↦ s | inr q ↦ absurd (true≢false (sym q.0)) ]

pub half-begun : (a new : Bits) (c : ℕ) → IsKnownBlock a c → IsSureBlock a false c → IsSpareIn a.shown c → BeginInterrupted c a new → IsHalfAtEachDraw c new
half-begun a new c known h is call v d shut =
    let bytes = call.mark in
    let n = length bytes in
    let four : n ≡ 4 = call.begun.size in
    let P = Beside 4 n in
    let b = with_loss a new in
    let l : ProgramInterrupted (mark_place c) bytes a new = call.program in
    let left = program-left a new c 4 bytes l in
    let r = left-read P a new c left v (beside-mark n (omega (arith, four))) known.settled (known-slots a c known) h.edges d shut in
    let beside = λ (i : ℕ) (low : i < 7). mark-slot n i (omega (arith, four)) in
    let full = λ (j : ℕ) (small : j < 4). here a.shown c (4 + j) known.settled (omega (arith, small)) in
    let was : byte a.shown (mark_place c) ≡ 255 = sym (here a.shown c 4 known.settled (omega arith)) ∙ plain-mark (data_block a.shown c) is.plain 0 (omega arith) in
    let kept = λ (k : ℕ) (other : k ≢ 0). state-kept a new (mark_place c) bytes 255 k l (omega (arith, four)) was (begun-bit bytes k call.begun other) (state-firm a.weak (mark_place c) k (trusted-mark a c h)) in
    let small : (j : ℕ) → j < n → byte a.shown (block_place c + (4 + j)) < 256 = λ j li.
    (let e = full j (omega (arith, li, four)) in let f = plain-mark (data_block a.shown c) is.plain j (omega (arith, li, four)) in omega (arith, e, f)) in
    let sure = λ (i : ℕ) (low : i < 7). left-sure P a new c left i low (beside i low) (trusted-slot a c i low h) in
    block-torn P b v c r (program-bytes a new c 4 bytes l known small)
    (begun-mark P b v c r beside is sure (λ k other. (kept k other).firm) (begun-kind P b v c r is.plain (λ k other. ap (λ x. bit_at x k) (is-there P b v c r 4 (omega arith)) ∙ (kept k other).reads v d)))
    (λ other. known.whole (λ void. void-plain (kind_at a.shown c) void is.plain)) (λ i low. left_sure (beside i low) (sure i low))

-- The mark of a block that isn't plain, before its state was programmed.
record IsMarkBefore (a : Bits) (suspect : Bool) (c state : ℕ) : Type 0 where
  known : IsKnownBlock a c
  sure : IsSureBlock a suspect c
  other : kind_at a.shown c ≢ kinds.Plain
  was : byte a.shown (mark_place c) ≡ state
  whole : (i : ℕ) → i < 7 → raw_slot a.shown c i ≢ NoGeneration

-- One bit of the state was programmed, and may be weak.
module _ (a new : Bits) (suspect : Bool) (c j old state : ℕ) (step : IsBitStep j old state) (m : IsMarkBefore a suspect c old) (l : StateInterrupted (mark_place c) state a new) where
  mark-firm : AreFirm a.weak (mark_place c) 4
  mark-firm = taken-mark a suspect c (λ is. m.other is.plain) m.sure

  mark-left : IsLeft (Beside 4 1) a new c
  mark-left = program-left a new c 4 (state ∷ []) l

  mark-kept : (k : ℕ) → k ≢ j → IsKeptBit new (mark_place c) k (bit_at old k)
  mark-kept k other = state-kept a new (mark_place c) (state ∷ []) old k l (omega arith) m.was (others-left j old state k step.others other) (state-firm a.weak (mark_place c) k mark-firm)

  -- all other bits of the mark are firm
  mark-ones : (i k : ℕ) → mark_place c ≤ i → i < mark_place c + 4 → (i ≡ mark_place c → k ≢ j) → bit_at (byte new.weak i) k ≡ 0
  mark-ones i k from to other = elim (cases_eq i (mark_place c)) as (λ _. bit_at (byte new.weak i) k ≡ 0) [
    | inl e ↦ subst (λ q. bit_at (byte new.weak q) k ≡ 0) (sym e) (mark-kept k (other e)).firm
    | inr more ↦
        let e : i ≡ block_place c + (4 + (i - mark_place c)) = omega (arith, from) in
        let f : mark_place c + (i - mark_place c) ≡ i = omega (arith, from) in
        left-bit (Beside 4 1) a new c mark-left i (4 + (i - mark_place c)) k e (omega (arith, to)) (inr (omega (arith, from, more)))
        (bit-firm a.weak i k (ap (λ q. byte a.weak q) (sym f) ∙ mark-firm (i - mark_place c) (omega (arith, from, to))))
  ]

  module _ (v : List ℕ) (d : Drawn new.weak new.shown v) (shut : is_opened v (c + 4) ≡ false) where
    mark-read : IsBlockRead (Beside 4 1) (with_loss a new) v c
    mark-read = left-read (Beside 4 1) a new c mark-left v (beside-mark 1 (omega arith)) m.known.settled (known-slots a c m.known) m.sure.edges d shut

    mark-start : (k : ℕ) → k < 4 → byte (data_block v c) k ≡ 255
    mark-start k low = marked-start (Beside 4 1) (with_loss a new) v c mark-read m.known.marked k low

    mark-there : byte (data_block v c) 4 ≡ byte v (mark_place c)
    mark-there = is-there (Beside 4 1) (with_loss a new) v c mark-read 4 (omega arith)

    mark-either : (byte (data_block v c) 4 ≡ old) ⊎ (byte (data_block v c) 4 ≡ state)
    mark-either = one-weak j old state (byte (data_block v c) 4) step (λ k other. ap (λ x. bit_at x k) mark-there ∙ (mark-kept k other).reads v d)

    -- where it was programmed, that bit reads 0
    mark-done : (i k : ℕ) → byte (data_block v c) 4 ≡ state → bit_at (byte v i) k ≡ 1 → i ≡ mark_place c → k ≢ j
    mark-done i k done reads here third =
        let bit = ap (λ x. bit_at x j) (sym mark-there ∙ done) ∙ step.none in
        let one : bit_at (byte v (mark_place c)) j ≡ 1 = subst (λ q. bit_at (byte v (mark_place c)) q ≡ 1) third (subst (λ q. bit_at (byte v q) k ≡ 1) here reads) in
        omega (arith, bit, one)

    mark-torn : HalfMark (kind_at v c) (record { shown = v; weak = new.weak }) c → IsHalfBlock (record { shown = v; weak = new.weak }) c
    mark-torn half = block-torn (Beside 4 1) (with_loss a new) v c mark-read
        (program-bytes a new c 4 (state ∷ []) l m.known (λ i small. (let e : block_place c + (4 + i) ≡ mark_place c = omega (arith, small) in let y = ap (λ q. byte a.shown q) e in let was = m.was in let top = step.small in omega (arith, y, was, top))))
        half (λ other. m.whole) (λ i low. left-torn (Beside 4 1) a new c mark-left v suspect i low (mark-slot 1 i (omega arith)) m.sure)

-- A void block whose mark is begun was committed.
pub half-committed : (a new : Bits) (suspect : Bool) (c : ℕ) → IsKnownBlock a c → IsSureBlock a suspect c → kind_at a.shown c ≡ kinds.Void → byte a.shown (mark_place c) ≡ 254 → ((i : ℕ) → i < 7 → raw_slot a.shown c i ≢ NoGeneration) → StateInterrupted (mark_place c) 252 a new → IsHalfAtEachDraw c new
half-committed a new suspect c known h void was whole l v d shut =
    let m : IsMarkBefore a suspect c 254 = record {
      known = known;
      sure = h;
      other = λ plain. void-plain (kind_at a.shown c) void plain;
      was = was;
      whole = whole;
    } in
    let start = mark-start a new suspect c 1 254 252 commit-step m l v d shut in
    mark-torn a new suspect c 1 254 252 commit-step m l v d shut
    (elim (mark-either a new suspect c 1 254 252 commit-step m l v d shut) as (λ _. HalfMark (kind_at v c) (record { shown = v; weak = new.weak }) c) [
      | inl still ↦ subst (λ k. HalfMark k (record { shown = v; weak = new.weak }) c) (sym (void-kind (data_block v c) start still)) tt
      | inr done ↦
          let ones = λ (i k : ℕ) (from : mark_place c ≤ i) (to : i < mark_place c + 4) (reads : bit_at (byte v i) k ≡ 1). mark-ones a new suspect c 1 254 252 commit-step m l i k from to (mark-done a new suspect c 1 254 252 commit-step m l v d shut i k done reads) in
          subst (λ k. HalfMark k (record { shown = v; weak = new.weak }) c) (sym (committed-kind (data_block v c) start done)) (
            λ k third reads. ones (mark_place c) k (omega arith) (omega arith) reads,
            λ i k from to reads. ones i k (omega (arith, from)) (omega (arith, to)) reads,
          )
    ])

-- A committed block was settled.
pub half-settled : (a new : Bits) (suspect : Bool) (c source : ℕ) → IsKnownBlock a c → IsSureBlock a suspect c → kind_at a.shown c ≡ kinds.Committed source → StateInterrupted (mark_place c) 248 a new → IsHalfAtEachDraw c new
half-settled a new suspect c source known h is l v d shut =
    let m : IsMarkBefore a suspect c 252 = record {
      known = known;
      sure = h;
      other = λ plain. committed-plain (kind_at a.shown c) source is plain;
      was = sym (here a.shown c 4 known.settled (omega arith)) ∙ committed-state (data_block a.shown c) source is;
      whole = known.whole (λ void. committed-void (kind_at a.shown c) source is void);
    } in
    let start = mark-start a new suspect c 2 252 248 retire-step m l v d shut in
    mark-torn a new suspect c 2 252 248 retire-step m l v d shut
    (elim (mark-either a new suspect c 2 252 248 retire-step m l v d shut) as (λ _. HalfMark (kind_at v c) (record { shown = v; weak = new.weak }) c) [
      | inl still ↦ subst (λ k. HalfMark k (record { shown = v; weak = new.weak }) c) (sym (committed-kind (data_block v c) start still)) (
        λ k third reads. mark-ones a new suspect c 2 252 248 retire-step m l (mark_place c) k (omega arith) (omega arith) (λ _. third),
        λ i k from to reads. mark-ones a new suspect c 2 252 248 retire-step m l i k (omega (arith, from)) (omega (arith, to)) (λ e. absurd (omega (arith, e, from))),
      )
      | inr done ↦ subst (λ k. HalfMark k (record { shown = v; weak = new.weak }) c) (sym (settled-kind (data_block v c) start done)) (λ i k from to reads. mark-ones a new suspect c 2 252 248 retire-step m l i k from to (mark-done a new suspect c 2 252 248 retire-step m l v d shut i k done reads))
    ])

generation-kept : (g : Generation) → bit_and 255 (generation_byte g) ≡ generation_byte g
generation-kept generations.Zero = refl
generation-kept generations.One = refl
generation-kept generations.Two = refl
generation-kept generations.Three = refl

-- The places of a block beside the descriptor and the sector of place p.
abbrev pub BesidePlace : ℕ → ℕ → Type 0
BesidePlace p k = Beside (16 + 4 * p) 4 k × Beside (512 * (p + 1)) 512 k

pub place-edges : (p : ℕ) → p < 7 → AreBesideEdges (BesidePlace p)
place-edges p low = record {
  start = λ k small. (inl (omega (arith, small)), inl (omega (arith, small)));
  after_mark = λ k small. (inl (omega (arith, small)), inl (omega (arith, small)));
  after_descriptors = λ k small. (inr (omega (arith, low)), inl (omega (arith, small)));
}

pub place-slot : (p i : ℕ) → p < 7 → i < 7 → i ≢ p → IsBesideSlot (BesidePlace p) i
place-slot p i low li other = record {
  state = ((other-slot p 4 i low (omega arith) other).state, inl (omega (arith, li)));
  rest = record {
    descriptor = λ j from small. ((other-slot p 4 i low (omega arith) other).rest.descriptor j from small, inl (omega (arith, li, small)));
    sector = λ j small. ((other-slot p 4 i low (omega arith) other).rest.sector j small, elim (cases_lt i p) [ inl below ↦ inl (omega (arith, below, small)) | inr above ↦ inr (omega (arith, above, other)) ]);
  };
}

pub place-mark : (p k : ℕ) → k < 4 → BesidePlace p (4 + k)
place-mark p k small = (inl (omega (arith, small)), inl (omega (arith, small)))

-- A place of a void block was written: the block is void.
pub half-copied : (a new : Bits) (suspect : Bool) (c p : ℕ) → p < 7 → IsSettled a.shown → IsSureBlock a suspect c → kind_at a.shown c ≡ kinds.Void → length new.shown ≡ length a.shown → SameButPlace c p a new → IsHalfAtEachDraw c new
half-copied a new suspect c p low settled h void size same v d shut =
    let b = with_loss a new in
    let left : IsLeft (BesidePlace p) a new c = record {
      same_length = size;
      same = λ k small beside. same (block_place c + k) (elim beside.0 [ inl before ↦ inl (omega (arith, before)) | inr after ↦ inr (omega (arith, after)) ]) (elim beside.1 [ inl before ↦ inl (omega (arith, before)) | inr after ↦ inr (omega (arith, after)) ]);
    } in
    let r = left-read (BesidePlace p) a new c left v (place-edges p low) settled (ap is_group void) h.edges d shut in
    let mark = taken-mark a suspect c (λ is. void-plain (kind_at a.shown c) void is.plain) h in
    let still : kind_at v c ≡ kinds.Void = drawn-kind (BesidePlace p) b v c r (λ k small. place-mark p k small) (left-mark (BesidePlace p) a new c left (λ k small. place-mark p k small) mark) ∙ void in
    record {
      bytes = λ other. absurd (other still);
      mark = subst (λ k. HalfMark k (record { shown = v; weak = new.weak }) c) (sym still) tt;
      edges = λ other. absurd (other still);
      slots = λ other. absurd (other still);
    }

-- A sector was written into the lowest free slot of a trusted block.
module _ (a : Bits) (c p : ℕ) (low : p < 7) (known : IsKnownBlock a c) (h : IsSureBlock a false c) (free : raw_slot a.shown c p ≡ Free) (header : List ℕ) (begun : IsBegunHead header) where
  abbrev at : ℕ
  at = descriptor_place c p

  -- its descriptor was programmed
  abbrev headed : Bits
  headed = with_descriptor c p header a

  was-firm : AreFirm a.weak at 4 × AreFirm a.weak (sector_place c p) 512
  was-firm = sure-free a c p low known free (trusted-slot a c p low h)

  headed-byte : (j : ℕ) → j < 4 → byte headed.shown (at + j) ≡ bit_and 255 (byte header j)
  headed-byte j small = programmed-byte a.shown at header j (let four = begun.size in omega (arith, small, four)) (free-place a c p low known free j small)

  headed-state : byte headed.shown at ≡ 254
  headed-state = (let e : at ≡ at + 0 = omega arith in ap (λ q. byte headed.shown q) e) ∙ (headed-byte 0 (omega arith) ∙ ap (λ x. bit_and 255 x) begun.state)

  headed-firm : (j k : ℕ) → j < 4 → bit_at (byte headed.weak (at + j)) k ≡ 0
  headed-firm j k small = zero-stays a.weak at header (at + j) k (bit-firm a.weak (at + j) k (was-firm.0 j small))

  headed-first : (k : ℕ) → bit_at (byte headed.weak at) k ≡ 0
  headed-first k = zero-stays a.weak at header at k (state-firm a.weak at k was-firm.0)

  place-left : (new : Bits) → length new.shown ≡ length a.shown → ((k : ℕ) → k < 4096 → BesidePlace p k → SameAt headed new (block_place c + k)) → IsLeft (BesidePlace p) a new c
  place-left new size same = record {
    same_length = size;
    same = λ k small beside.
        let s = same k small beside in
        let b = program-beside a headed at header (changed_whole refl) (block_place c + k) (let four = begun.size in elim beside.0 [ inl before ↦ inl (omega (arith, before)) | inr after ↦ inr (omega (arith, after, four)) ]) in
        (s.0 ∙ b.0, s.1 ∙ b.1);
  }

  -- the block, by what is said of that slot
  place-torn : (new : Bits) (v : List ℕ) → HasByteBits new c → (l : IsLeft (BesidePlace p) a new c) (r : IsBlockRead (BesidePlace p) (with_loss a new) v c) → IsTornSlot (BesidePlace p) (with_loss a new) v c p
      → IsHalfBlock (record { shown = v; weak = new.weak }) c
  place-torn new v bytes l r torn = slot-torn (BesidePlace p) a new c p false v l r known bytes h (trusted-mark a c h) (λ k small. place-mark p k small) (λ i li other. place-slot p i low li other) torn

  -- the call was cut in a program of the sector
  put-in-sector : (new : Bits) → length new.shown ≡ length a.shown → HasByteBits new c → SameButSector c p headed new → IsHalfAtEachDraw c new
  put-in-sector new size bytes same v d shut =
      let b = with_loss a new in
      let l = place-left new size (λ k small beside. same (block_place c + k) (elim beside.1 [ inl before ↦ inl (omega (arith, before)) | inr after ↦ inr (omega (arith, after)) ])) in
      let r = left-read (BesidePlace p) a new c l v (place-edges p low) known.settled (known-slots a c known) h.edges d shut in
      let s = same at (inl (omega (arith, low))) in
      let there = is-there (BesidePlace p) b v c r (16 + 4 * p) (omega (arith, low)) in
      let bit = λ (k : ℕ). ap (λ x. bit_at x k) there ∙ (shown-bit new at k (bit_at 254 k) (ap (λ x. bit_at x k) (s.0 ∙ headed-state)) (ap (λ x. bit_at x k) s.1 ∙ headed-first k)).reads v d in
      place-torn new v bytes l r (begun-torn (BesidePlace p) b v c r p (bit 0) (bit 1))

  -- or in that of the state FCh
  module _ (generation : Generation) (says : byte header 1 ≡ generation_byte generation) (content : List ℕ) (whole : length content ≡ 512) (new : Bits) (l : StateInterrupted at 252 (with_pages c p content headed) new) (size : length new.shown ≡ length a.shown) where
    abbrev filled : Bits
    filled = with_pages c p content headed

    filled-beside : SameButSector c p headed filled
    filled-beside = pages-aside c p content headed whole

    last-beside : (k : ℕ) → k ≢ at → SameAt filled new k
    last-beside k other = program-beside filled new at (252 ∷ []) l k (elim (cases_lt k at) [ inl before ↦ inl before | inr from ↦ inr (omega (arith, other, from)) ])

    filled-rest : (j : ℕ) → j < 3 → SameAt headed new (at + 1 + j)
    filled-rest j small =
        let s = filled-beside (at + 1 + j) (inl (omega (arith, low, small))) in
        let e = last-beside (at + 1 + j) (omega arith) in
        (e.0 ∙ s.0, e.1 ∙ s.1)

    put-left : IsLeft (BesidePlace p) a new c
    put-left = place-left new size (λ k small beside.
        let s = filled-beside (block_place c + k) (elim beside.1 [ inl before ↦ inl (omega (arith, before)) | inr after ↦ inr (omega (arith, after)) ]) in
        let e = last-beside (block_place c + k) (λ q. elim beside.0 as (λ _. ⊥) [ inl before ↦ omega (arith, q, before) | inr after ↦ omega (arith, q, after) ]) in
        (e.0 ∙ s.0, e.1 ∙ s.1))

    state-bit : (k : ℕ) → k ≢ 1 → IsKeptBit new at k (bit_at 254 k)
    state-bit k other =
        let s = filled-beside at (inl (omega (arith, low))) in
        state-kept filled new at (252 ∷ []) 254 k l (omega arith) (s.0 ∙ headed-state) (others-left 1 254 252 k commit-step.others other) (ap (λ x. bit_at x k) s.1 ∙ headed-first k)

    rest-firmly : AreFirm new.weak (at + 1) 3
    rest-firmly j small =
        let e : at + 1 + j ≡ at + (1 + j) = omega arith in
        (filled-rest j small).1 ∙ (ap (λ q. byte headed.weak q) e ∙ no-bits (byte headed.weak (at + (1 + j))) (λ k. headed-firm (1 + j) k (omega (arith, small))))

    sector-firmly : AreFirm new.weak (sector_place c p) 512
    sector-firmly j small =
        let place = sector_place c p + j in
        let first = with_first_page c p content headed in
        (last-beside place (omega (arith, low))).1 ∙ no-bits (byte filled.weak place) (λ k.
        zero-stays first.weak (sector_place c p + 256) (drop 256 content) place k
        (zero-stays headed.weak (sector_place c p) (take 256 content) place k
        (zero-stays a.weak at header place k (bit-firm a.weak place k (was-firm.1 j small)))))

    module _ (v : List ℕ) (d : Drawn new.weak new.shown v) (shut : is_opened v (c + 4) ≡ false) where
      put-read : IsBlockRead (BesidePlace p) (with_loss a new) v c
      put-read = left-read (BesidePlace p) a new c put-left v (place-edges p low) known.settled (known-slots a c known) h.edges d shut

      state-there : byte (data_block v c) (16 + 4 * p) ≡ byte v at
      state-there = is-there (BesidePlace p) (with_loss a new) v c put-read (16 + 4 * p) (omega (arith, low))

      bits-there : (k : ℕ) → k ≢ 1 → bit_at (byte (data_block v c) (16 + 4 * p)) k ≡ bit_at 254 k
      bits-there k other = ap (λ x. bit_at x k) state-there ∙ (state-bit k other).reads v d

      generation-there : byte (data_block v c) (16 + 4 * p + 1) ≡ generation_byte generation
      generation-there =
          let e : block_place c + (16 + 4 * p + 1) ≡ at + 1 + 0 = omega arith in
          let e' : at + 1 + 0 ≡ at + 1 = omega arith in
          is-there (BesidePlace p) (with_loss a new) v c put-read (16 + 4 * p + 1) (omega (arith, low))
          ∙ (ap (λ q. byte v q) e
          ∙ (firm-byte new.shown new.weak v (at + 1 + 0) d (rest-firmly 0 (omega arith))
          ∙ ((filled-rest 0 (omega arith)).0 ∙ (ap (λ q. byte headed.shown q) e' ∙ (headed-byte 1 (omega arith) ∙ (ap (λ x. bit_and 255 x) says ∙ generation-kept generation))))))

      -- live
      ones-firm : byte (data_block v c) (16 + 4 * p) ≡ 252 → AreOnesFirm (record { shown = v; weak = new.weak }) at 1
      ones-firm done i k from to reads =
          let e : i ≡ at = omega (arith, from, to) in
          subst (λ q. bit_at (byte new.weak q) k ≡ 0) (sym e) (state-bit k (λ second.
          let bit : bit_at (byte v at) 1 ≡ 0 = ap (λ x. bit_at x 1) (sym state-there ∙ done) in
          let one : bit_at (byte v at) 1 ≡ 1 = subst (λ q. bit_at (byte v at) q ≡ 1) second (subst (λ q. bit_at (byte v q) k ≡ 1) e reads) in
          omega (arith, bit, one))).firm

      put-torn : IsTornSlot (BesidePlace p) (with_loss a new) v c p
      put-torn = elim (one-weak 1 254 252 (byte (data_block v c) (16 + 4 * p)) commit-step bits-there) as (λ _. IsTornSlot (BesidePlace p) (with_loss a new) v c p) [
        | inl still ↦ begun-torn (BesidePlace p) (with_loss a new) v c put-read p (ap (λ x. bit_at x 0) still) (ap (λ x. bit_at x 1) still)
        | inr done ↦
            live-torn (BesidePlace p) (with_loss a new) v c put-read p
            (committed-slot (data_block v c) p generation (drawn-group (BesidePlace p) (with_loss a new) v c put-read) done generation-there)
            sector-firmly (firm-ones (record { shown = v; weak = new.weak }) (at + 1) 3 rest-firmly) (ones-firm done)
      ]

apart-sector : (c p e k : ℕ) → p < 7 → k < block_len → e ≢ c → (block_place e + k < sector_place c p) ⊎ (sector_place c p + 512 ≤ block_place e + k)
apart-sector c p e k low inside other = elim (cases_lt e c) [ inl below ↦ inl (omega (arith, below, inside)) | inr above ↦ inr (omega (arith, above, other, low)) ]

pub half-put : (a new : Bits) (c p : ℕ) (tag : Tag) (content : List ℕ) → length content ≡ 512 → p < 7 → IsKnownBlock a c → IsSureBlock a false c → raw_slot a.shown c p ≡ Free → ((j : ℕ) → j < p → raw_slot a.shown c j ≢ Free)
    → length new.shown ≡ length a.shown → HasByteBits new c → PutInterrupted c p tag content a new → IsHalfAtEachDraw c new
half-put a new c p tag content whole low known h free lowest size bytes (in_header header begun l) =
    let four = begun.begun.size in
    half-unlive a new false c p header low known h (trusted-mark a c h) free lowest (omega (arith, four)) (omega (arith, four)) (ap (λ x. bit_at x 1) begun.begun.state) l
half-put a new c p tag content whole low known h free lowest size bytes (in_first_page header begun l) =
    put-in-sector a c p low known h free header begun.begun new size bytes (first-aside c p content (with_descriptor c p header a) new whole l)
half-put a new c p tag content whole low known h free lowest size bytes (in_second_page header begun l) =
    put-in-sector a c p low known h free header begun.begun new size bytes (second-aside c p content (with_descriptor c p header a) new whole l)
half-put a new c p tag content whole low known h free lowest size bytes (in_commit header begun l) = λ v d shut.
    let g = begun-generation tag header begun in
    place-torn a c p low known h free header begun.begun new v bytes (put-left a c p low known h free header begun.begun g.0 g.1 content whole new l size) (put-read a c p low known h free header begun.begun g.0 g.1 content whole new l size v d shut)
    (put-torn a c p low known h free header begun.begun g.0 g.1 content whole new l size v d shut)

-- Each other block is left by a put that was cut.
put-beside : (a new : Bits) (c p e : ℕ) (header : List ℕ) → p < 7 → e ≢ c → IsBegunHead header → SameButSector c p (with_descriptor c p header a) new → (k : ℕ) → k < block_len → SameAt a new (block_place e + k)
put-beside a new c p e header low other begun same k inside =
    let b = program-apart a (with_descriptor c p header a) c (16 + 4 * p) e header (let four = begun.size in omega (arith, low, four)) other (changed_whole refl) k inside in
    let s = same (block_place e + k) (apart-sector c p e k low inside other) in
    (s.0 ∙ b.0, s.1 ∙ b.1)

pub put-apart : (a new : Bits) (c p e : ℕ) (tag : Tag) (content : List ℕ) → length content ≡ 512 → p < 7 → e ≢ c → PutInterrupted c p tag content a new → (k : ℕ) → k < block_len → SameAt a new (block_place e + k)
put-apart a new c p e tag content whole low other (in_header header begun l) k inside = program-apart a new c (16 + 4 * p) e header (let four = begun.begun.size in omega (arith, low, four)) other l k inside
put-apart a new c p e tag content whole low other (in_first_page header begun l) k inside = put-beside a new c p e header low other begun.begun (first-aside c p content (with_descriptor c p header a) new whole l) k inside
put-apart a new c p e tag content whole low other (in_second_page header begun l) k inside = put-beside a new c p e header low other begun.begun (second-aside c p content (with_descriptor c p header a) new whole l) k inside
put-apart a new c p e tag content whole low other (in_commit header begun l) k inside =
    let filled = with_pages c p content (with_descriptor c p header a) in
    let b = put-beside a filled c p e header low other begun.begun (pages-aside c p content (with_descriptor c p header a) whole) k inside in
    let m = program-apart filled new c (16 + 4 * p) e (252 ∷ []) (omega (arith, low)) other l k inside in
    (m.0 ∙ b.0, m.1 ∙ b.1)
