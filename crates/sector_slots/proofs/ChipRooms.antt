-- Where the next mount finds room after a loss of power, however the weak bits read.
use Rattle.std.proofs.Common.{◌≡◌, ◌≢◌, ℕ, ◌+◌, ◌-◌, ◌<◌, ◌≤◌, ◌⊎◌, Bool, true, false, List, [], ◌∷◌, length, refl, sym, ap, ◌∙◌, subst, arith, inl, inr}
use Rattle.std.specs.Prelude.{bit_and, min}
use Rattle.std.specs.Int.{bit_at}
use Rattle.std.proofs.lemmas.Bool.{cases_eq, cases_lt, true≢false}
use Rattle.std.proofs.lemmas.List.{get_or_past}
use Rattle.chip_model.specs.Geometry.{block_count}
use Rattle.chip_model.specs.Memory.{byte, and_at}
use Rattle.chip_model.specs.Wavering.{Bits, Drawn}
use Rattle.chip_model.proofs.MemoryLaws.{placed-inside, placed-outside}
use Rattle.nor_layout.specs.declared.kind.Kind.{Kind}
use Rattle.nor_layout.specs.declared.kind.Kind.TheVariants as kinds
use Rattle.erase_journal.specs.Blocks.{is_opened}
use Rattle.erase_journal.specs.Torn.{SameAt, SameBlock}
use Rattle.erase_journal.specs.Weak.{AreFirm}
use Rattle.erase_journal.proofs.Draws.{firm-byte}
use Rattle.sector_slots.specs.Half.{HasMark}
use Rattle.sector_slots.specs.Slots.{Free, data_blocks, data_block, kind_at, raw_slot, IsSpareIn}
use Rattle.sector_slots.specs.Blocks.{IsAtRest, AreAtRest}
use Rattle.sector_slots.specs.Losses.{HasSureSlots, IsFirmDisk}
use Rattle.sector_slots.specs.Steps.{IsBegun}
use Rattle.sector_slots.specs.Torn.{BeginInterrupted, SameButPlace, StateInterrupted}
use Rattle.sector_slots.specs.Weak.{block_place, mark_place, HasChipRoom, HasSureRoom, HasSureSpare, IsSureBlock, IsSureSlot, committed, found, opened, spare, void}
use Rattle.sector_slots.proofs.FirmLaws.{bit-firm, here}
use Rattle.sector_slots.proofs.HeadLaws.{kind-eight, marked-four, plain-mark, settled-kind, void-kind, void-plain, committed-plain, committed-state}
use Rattle.sector_slots.proofs.TornBits.{IsBitStep, begin-step, commit-step, one-weak, others-left, retire-step, state-kept}
use Rattle.sector_slots.proofs.HalfBlocks.{IsAnyPlace, IsBesideSlot, IsBlockRead, begun-kind, beside-any, drawn-kind, first-firm, free-is, is-there, marked-start, spare-room, torn-free}
use Rattle.sector_slots.proofs.LeftLaws.{AreBesideEdges, Beside, IsLeft, beside-mark, left-idle, left-mark, left-read, left-sure, left-torn, mark-slot, program-left, taken-mark, trusted-mark, with_loss}

-- where no copying goes on, the room is a wholly free block
rest-void : (k : Kind) → IsAtRest k → k ≢ kinds.Void
rest-void k h e = subst (λ a. IsAtRest a) e h

rest-committed : (k : Kind) (b : ℕ) → IsAtRest k → k ≢ kinds.Committed b
rest-committed k b h e = subst (λ a. IsAtRest a) e h

rest-spare : (a : Bits) → AreAtRest (kind_at a.shown) (data_blocks a.shown) → HasSureRoom a → HasSureSpare a
rest-spare a rest (spare c low is sure) = record { block = c; number = low; spare = is; slots = sure }
rest-spare a rest (void c low is) = absurd (rest-void (kind_at a.shown c) (rest c low) is)
rest-spare a rest (committed s t low inside is sure) = absurd (rest-committed (kind_at a.shown t) (s + 4) (rest t inside) is)

-- a block has an open entry, or none
pub either-opened : (t : Bool) → (t ≡ true) ⊎ (t ≡ false)
either-opened true = inl refl
either-opened false = inr refl

any-edges : AreBesideEdges IsAnyPlace
any-edges = record { start = λ k low. tt; after_mark = λ k low. tt; after_descriptors = λ k low. tt }

-- the bytes of a block that are neither descriptors nor sectors
abbrev IsHeadPlace : ℕ → Type 0
IsHeadPlace k = (k < 16) ⊎ ((44 ≤ k) × (k < 512))

head-edges : AreBesideEdges IsHeadPlace
head-edges = record { start = λ k low. inl (omega (arith, low)); after_mark = λ k low. inl (omega (arith, low)); after_descriptors = λ k low. inr (omega arith, omega (arith, low)) }

-- a state that was programmed
anded-first : (m : List ℕ) (at old new : ℕ) → byte m at ≡ old → 0 < old → byte (and_at m at (new ∷ [])) at ≡ bit_and old new
anded-first m at old new was some = elim (cases_lt at (length m)) as (λ _. byte (and_at m at (new ∷ [])) at ≡ bit_and old new) [
  | inl low ↦
      let z : at + 0 ≡ at = omega arith in
      ap (λ i. byte (and_at m at (new ∷ [])) i) (sym z) ∙ (placed-inside bit_and m at (new ∷ []) 0 (omega arith) (omega (arith, low)) ∙ ap (λ x. bit_and x new) (ap (λ i. byte m i) z ∙ was))
  | inr past ↦ (let none = get_or_past m at 0 past in absurd (omega (arith, none, was, some)))
]

module _ (a new : Bits) (suspect : ℕ → Bool) (disk : IsFirmDisk a suspect) (size : length new.shown ≡ length a.shown) (v : List ℕ) (d : Drawn new.weak new.shown v) where
  -- the bits at the next power-on
  abbrev pub drawn : Bits
  drawn = record { shown = v; weak = new.weak }

  pub same-blocks : data_blocks v ≡ data_blocks a.shown
  same-blocks = ap (λ k. block_count k - 4) (d.same_length ∙ size)

  within : (e : ℕ) → e < data_blocks a.shown → e < data_blocks v
  within e low = subst (λ n. e < n) (sym same-blocks) low

  -- a block of which an erase goes on is room
  pub opened-chip : (e : ℕ) → e < data_blocks a.shown → is_opened v (e + 4) ≡ true → HasChipRoom drawn
  opened-chip e low is = opened e (within e low) is

  pub either-chip : (e : ℕ) → e < data_blocks a.shown → (is_opened v (e + 4) ≡ false → HasChipRoom drawn) → HasChipRoom drawn
  either-chip e low shut = elim (either-opened (is_opened v (e + 4))) as (λ _. HasChipRoom drawn) [ inl is ↦ opened-chip e low is | inr not ↦ shut not ]

  pub spare-found : (e : ℕ) → e < data_blocks a.shown → IsSpareIn v e → HasSureSlots drawn e → HasChipRoom drawn
  spare-found e low is sure = found (spare e (within e low) is sure)

  -- A block of which nothing was changed.
  module _ (e : ℕ) (low : e < data_blocks a.shown) (same : SameBlock (e + 4) a new) (shut : is_opened v (e + 4) ≡ false) where
    pub still-left : IsLeft IsAnyPlace a new e
    still-left = record { same_length = size; same = λ k small any. same k small }

    block-sure : IsSureBlock a (suspect e) e
    block-sure = disk.store e low

    pub still-read : IsBlockRead IsAnyPlace (with_loss a new) v e
    still-read = left-read IsAnyPlace a new e still-left v any-edges disk.settled (disk.alone e low) block-sure.edges d shut

    pub firm-kind : AreFirm a.weak (mark_place e) 4 → kind_at v e ≡ kind_at a.shown e
    firm-kind f = drawn-kind IsAnyPlace (with_loss a new) v e still-read (λ k small. tt) (left-mark IsAnyPlace a new e still-left (λ k small. tt) f)

    -- one that isn't wholly free is of the kind that it was
    taken-kind : (IsSpareIn a.shown e → ⊥) → kind_at v e ≡ kind_at a.shown e
    taken-kind part = firm-kind (taken-mark a (suspect e) e part block-sure)

    -- one that is wholly free was
    was-spare : IsSpareIn v e → IsSpareIn a.shown e
    was-spare is = elim block-sure.mark [
      | inl f ↦ record {
        plain = sym (firm-kind f) ∙ is.plain;
        free = λ i li. torn-free IsAnyPlace (with_loss a new) v e still-read i li (left-torn IsAnyPlace a new e still-left v (suspect e) i li (beside-any i) block-sure) (is.free i li);
      }
      | inr q ↦ q.1.spare
    ]

    slots-left : HasSureSlots a e → HasSureSlots (with_loss a new) e
    slots-left h i li = left-sure IsAnyPlace a new e still-left i li (beside-any i) (h i li)

    -- of one that was its slots are block-sure
    still-sure : IsSpareIn a.shown e → HasSureSlots a e → HasSureSlots drawn e
    still-sure is h i li = (free-is IsAnyPlace (with_loss a new) v e still-read i li (beside-any i) (is.free i li) (slots-left h i li)).1

    source-sure : (IsSpareIn a.shown e → HasSureSlots a e) → IsSpareIn v e → HasSureSlots drawn e
    source-sure h is = let was = was-spare is in still-sure was (h was)

    room-spare : IsSpareIn a.shown e → HasSureSlots a e → HasSureRoom drawn
    room-spare is h =
        spare-room (with_loss a new) v e still-read (within e low) is (slots-left h)
        (elim block-sure.mark [ inl f ↦ inl (left-mark IsAnyPlace a new e still-left (λ k small. tt) f) | inr q ↦ inr (refl, left-idle IsAnyPlace a new e still-left tt (λ i li. beside-any i) q.1) ])

  -- A wholly free block whose slots are sure, and of which nothing was changed.
  pub spare-chip : (e : ℕ) → e < data_blocks a.shown → SameBlock (e + 4) a new → IsSpareIn a.shown e → HasSureSlots a e → HasChipRoom drawn
  spare-chip e low same is h = either-chip e low (λ shut. found (room-spare e low same shut is h))

  -- Nothing was changed.
  pub before-chip : ((e : ℕ) → e < data_blocks a.shown → SameBlock (e + 4) a new) → HasSureRoom a → HasChipRoom drawn
  before-chip same (spare c low is h) = spare-chip c low (same c low) is h
  before-chip same (void c low is) = either-chip c low (λ shut. found (void c (within c low) (taken-kind c low (same c low) shut (λ s. void-plain (kind_at a.shown c) is s.plain) ∙ is)))
  before-chip same (committed s t low inside is h) = either-chip s low (λ shut. either-chip t inside (λ closed. found (committed s t (within s low) (within t inside)
      (taken-kind t inside (same t inside) closed (λ q. committed-plain (kind_at a.shown t) (s + 4) is q.plain) ∙ is) (source-sure s low (same s low) shut h))))

  -- One block was changed that wasn't wholly free, while no copying goes on.
  pub other-chip : (c : ℕ) → AreAtRest (kind_at a.shown) (data_blocks a.shown) → (IsSpareIn a.shown c → ⊥) → ((e : ℕ) → e ≢ c → SameBlock (e + 4) a new) → HasChipRoom drawn
  other-chip c rest part same =
      let room = rest-spare a rest disk.room in
      spare-chip room.block room.number (same room.block (λ e. part (subst (λ q. IsSpareIn a.shown q) e room.spare))) room.spare room.slots

  pub void-chip : (t : ℕ) → t < data_blocks a.shown → kind_at v t ≡ kinds.Void → HasChipRoom drawn
  void-chip t low is = found (void t (within t low) is)

  -- A place of a void block was written: its mark is as it was.
  pub copied-kind : (t p : ℕ) → t < data_blocks a.shown → p < 7 → kind_at a.shown t ≡ kinds.Void → SameButPlace t p a new → is_opened v (t + 4) ≡ false → kind_at v t ≡ kinds.Void
  copied-kind t p low within is same shut =
      let left : IsLeft IsHeadPlace a new t = record {
        same_length = size;
        same = λ k small head. elim head as (λ _. SameAt a new (block_place t + k)) [
          | inl mark ↦ same (block_place t + k) (inl (omega (arith, mark))) (inl (omega (arith, mark)))
          | inr edge ↦ same (block_place t + k) (inr (let from = edge.0 in omega (arith, from, within))) (inl (let to = edge.1 in omega (arith, to)))
        ];
      } in
      let sure = disk.store t low in
      let r = left-read IsHeadPlace a new t left v head-edges disk.settled (disk.alone t low) sure.edges d shut in
      let mark = left-mark IsHeadPlace a new t left (λ k small. inl (omega (arith, small))) (taken-mark a (suspect t) t (λ s. void-plain (kind_at a.shown t) is s.plain) sure) in
      drawn-kind IsHeadPlace (with_loss a new) v t r (λ k small. inl (omega (arith, small))) mark ∙ is

  pub copied-chip : (t p : ℕ) → t < data_blocks a.shown → p < 7 → kind_at a.shown t ≡ kinds.Void → SameButPlace t p a new → HasChipRoom drawn
  copied-chip t p low within is same = either-chip t low (λ shut. void-chip t low (copied-kind t p low within is same shut))

  -- A copying into a wholly free block was begun: it reads as free, or as void.
  module _ (t : ℕ) (low : t < data_blocks a.shown) (is : IsSpareIn a.shown t) (trusted : suspect t ≡ false) (call : BeginInterrupted t a new) (shut : is_opened v (t + 4) ≡ false) where
    begun-sure : IsSureBlock a false t
    begun-sure = subst (λ q. IsSureBlock a q t) trusted (disk.store t low)

    begun-four : length call.mark ≡ 4
    begun-four = call.begun.size

    pub begun-left : IsLeft (Beside 4 (length call.mark)) a new t
    begun-left = program-left a new t 4 call.mark call.program

    pub begun-read : IsBlockRead (Beside 4 (length call.mark)) (with_loss a new) v t
    begun-read = left-read (Beside 4 (length call.mark)) a new t begun-left v (beside-mark (length call.mark) (let four = begun-four in omega (arith, four))) disk.settled (disk.alone t low) begun-sure.edges d shut

    pub begun-beside : (i : ℕ) → IsBesideSlot (Beside 4 (length call.mark)) i
    begun-beside i = mark-slot (length call.mark) i (let four = begun-four in omega (arith, four))

    pub begun-either : (kind_at v t ≡ kinds.Plain) ⊎ (kind_at v t ≡ kinds.Void)
    begun-either =
        let P = Beside 4 (length call.mark) in
        let four = begun-four in
        let was : byte a.shown (mark_place t) ≡ 255 = sym (here a.shown t 4 disk.settled (omega arith)) ∙ plain-mark (data_block a.shown t) is.plain 0 (omega arith) in
        let step = λ (k : ℕ) (other : k ≢ 0). ap (λ x. min (bit_at 255 k) (bit_at x k)) call.begun.state ∙ others-left 0 255 254 k begin-step.others other in
        let firm = first-firm a.weak (mark_place t) 4 (omega arith) (trusted-mark a t begun-sure) in
        let bit = λ (k : ℕ) (other : k ≢ 0). state-kept a new (mark_place t) call.mark 255 k call.program (omega (arith, four)) was (step k other) (bit-firm a.weak (mark_place t) k firm) in
        begun-kind P (with_loss a new) v t begun-read is.plain (λ k other. ap (λ x. bit_at x k) (is-there P (with_loss a new) v t begun-read 4 (omega arith)) ∙ (bit k other).reads v d)

    begun-slot : (i : ℕ) → i < 7 → IsSureSlot a t i
    begun-slot i li = elim (begun-sure.slots i li) [ inl s ↦ s | inr q ↦ absurd (true≢false (sym q.0)) ]

    begun-free : (i : ℕ) → i < 7 → (raw_slot v t i ≡ Free) × IsSureSlot drawn t i
    begun-free i li = free-is (Beside 4 (length call.mark)) (with_loss a new) v t begun-read i li (begun-beside i) (is.free i li) (left-sure (Beside 4 (length call.mark)) a new t begun-left i li (begun-beside i) (begun-slot i li))

  pub begun-chip : (t : ℕ) → t < data_blocks a.shown → IsSpareIn a.shown t → suspect t ≡ false → BeginInterrupted t a new → HasChipRoom drawn
  begun-chip t low is trusted call = either-chip t low (λ shut. elim (begun-either t low is trusted call shut) as (λ _. HasChipRoom drawn) [
    | inl plain ↦ spare-found t low (record { plain = plain; free = λ i li. (begun-free t low is trusted call shut i li).0 }) (λ i li. (begun-free t low is trusted call shut i li).1)
    | inr torn ↦ void-chip t low torn
  ])

  -- One bit of the state of a mark was programmed, of a block that wasn't plain.
  module _ (t : ℕ) (inside : t < data_blocks a.shown) (j old state : ℕ) (step : IsBitStep j old state) (marked : HasMark (kind_at a.shown t)) (part : IsSpareIn a.shown t → ⊥) (was : byte (data_block a.shown t) 4 ≡ old) (l : StateInterrupted (mark_place t) state a new) (closed : is_opened v (t + 4) ≡ false) where
    pub state-left : IsLeft (Beside 4 1) a new t
    state-left = program-left a new t 4 (state ∷ []) l

    state-sure : IsSureBlock a (suspect t) t
    state-sure = disk.store t inside

    pub state-read : IsBlockRead (Beside 4 1) (with_loss a new) v t
    state-read = left-read (Beside 4 1) a new t state-left v (beside-mark 1 (omega arith)) disk.settled (disk.alone t inside) state-sure.edges d closed

    state-start : (k : ℕ) → k < 4 → byte (data_block v t) k ≡ 255
    state-start k low = marked-start (Beside 4 1) (with_loss a new) v t state-read marked k low

    state-firm : AreFirm a.weak (mark_place t) 4
    state-firm = taken-mark a (suspect t) t part state-sure

    state-either : (byte (data_block v t) 4 ≡ old) ⊎ (byte (data_block v t) 4 ≡ state)
    state-either =
        let there : byte a.shown (mark_place t) ≡ old = sym (here a.shown t 4 disk.settled (omega arith)) ∙ was in
        let firm = first-firm a.weak (mark_place t) 4 (omega arith) state-firm in
        one-weak j old state (byte (data_block v t) 4) step (λ k other.
        ap (λ x. bit_at x k) (is-there (Beside 4 1) (with_loss a new) v t state-read 4 (omega arith))
        ∙ (state-kept a new (mark_place t) (state ∷ []) old k l (omega arith) there (others-left j old state k step.others other) (bit-firm a.weak (mark_place t) k firm)).reads v d)

    -- the bytes of the mark after the state
    state-after : (k : ℕ) → 4 < k → k < 8 → byte (data_block v t) k ≡ byte (data_block a.shown t) k
    state-after k from to =
        let small : k < 4096 = omega (arith, to) in
        let same = state-left.same k small (inr (omega (arith, from))) in
        let e : mark_place t + (k - 4) ≡ block_place t + k = omega (arith, from) in
        let firm : byte new.weak (block_place t + k) ≡ 0 = same.1 ∙ (ap (λ q. byte a.weak q) (sym e) ∙ state-firm (k - 4) (omega (arith, from, to))) in
        is-there (Beside 4 1) (with_loss a new) v t state-read k small ∙ (firm-byte new.shown new.weak v (block_place t + k) d firm ∙ (same.0 ∙ sym (here a.shown t k disk.settled small)))

    -- all eight bytes, by that of the state
    state-eight : (m : List ℕ) → ((k : ℕ) → k < 8 → k ≢ 4 → byte m k ≡ byte (data_block a.shown t) k) → byte (data_block v t) 4 ≡ byte m 4 → (k : ℕ) → k < 8 → byte (data_block v t) k ≡ byte m k
    state-eight m others state k low = elim (cases_eq k 4) as (λ _. byte (data_block v t) k ≡ byte m k) [
      | inl is ↦ subst (λ q. byte (data_block v t) q ≡ byte m q) (sym is) state
      | inr other ↦ elim (cases_lt k 4) as (λ _. byte (data_block v t) k ≡ byte m k) [
        | inl start ↦ state-start k start ∙ sym (others k low other ∙ marked-four (data_block a.shown t) marked k start)
        | inr from ↦ state-after k (omega (arith, from, other)) low ∙ sym (others k low other)
      ]
    ]

  -- A copy was committed: it reads as void, or as committed.
  pub committed-either : (s t : ℕ) → t < data_blocks a.shown → IsBegun t s a.shown → StateInterrupted (mark_place t) 252 a new → is_opened v (t + 4) ≡ false → (kind_at v t ≡ kinds.Void) ⊎ (kind_at v t ≡ kinds.Committed (s + 4))
  committed-either s t inside begun l closed =
      let marked = subst (λ k. HasMark k) (sym begun.void) tt in
      let part = λ (is : IsSpareIn a.shown t). void-plain (kind_at a.shown t) begun.void is.plain in
      let done = and_at (data_block a.shown t) 4 (252 ∷ []) in
      elim (state-either t inside 1 254 252 commit-step marked part begun.state l closed) [
        | inl still ↦ inl (void-kind (data_block v t) (state-start t inside 1 254 252 commit-step marked part begun.state l closed) still)
        | inr now ↦ inr (kind-eight (data_block v t) done (state-eight t inside 1 254 252 commit-step marked part begun.state l closed done
            (λ k low other. placed-outside bit_and (data_block a.shown t) 4 (252 ∷ []) k (elim (cases_lt k 4) [ inl before ↦ inl before | inr from ↦ inr (omega (arith, from, other)) ]))
            (now ∙ sym (anded-first (data_block a.shown t) 4 254 252 begun.state (omega arith)))) ∙ begun.once)
      ]

  -- One was settled: it reads as committed, or as settled.
  pub settled-either : (source t : ℕ) → t < data_blocks a.shown → kind_at a.shown t ≡ kinds.Committed source → StateInterrupted (mark_place t) 248 a new → is_opened v (t + 4) ≡ false → (kind_at v t ≡ kind_at a.shown t) ⊎ (kind_at v t ≡ kinds.Settled)
  settled-either source t inside is l closed =
      let marked = subst (λ k. HasMark k) (sym is) tt in
      let part = λ (free : IsSpareIn a.shown t). committed-plain (kind_at a.shown t) source is free.plain in
      let was = committed-state (data_block a.shown t) source is in
      elim (state-either t inside 2 252 248 retire-step marked part was l closed) [
        | inl still ↦ inl (kind-eight (data_block v t) (data_block a.shown t) (state-eight t inside 2 252 248 retire-step marked part was l closed (data_block a.shown t) (λ k low other. refl) (still ∙ sym was)))
        | inr now ↦ inr (settled-kind (data_block v t) (state-start t inside 2 252 248 retire-step marked part was l closed) now)
      ]

  pub committed-chip : (s t : ℕ) → s < data_blocks a.shown → t < data_blocks a.shown → SameBlock (s + 4) a new → IsBegun t s a.shown → (IsSpareIn a.shown s → HasSureSlots a s) → StateInterrupted (mark_place t) 252 a new → HasChipRoom drawn
  committed-chip s t low inside same begun h l = either-chip s low (λ shut. either-chip t inside (λ closed. elim (committed-either s t inside begun l closed) as (λ _. HasChipRoom drawn) [
    | inl still ↦ void-chip t inside still
    | inr done ↦ found (committed s t (within s low) (within t inside) done (source-sure s low same shut h))
  ]))
