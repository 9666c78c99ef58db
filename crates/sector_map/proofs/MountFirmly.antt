-- The steps of a firm mount one after another, by what they leave of weak bits.
use Rattle.std.proofs.Common.{◌≡◌, ◌≢◌, ℕ, ◌+◌, ◌-◌, ◌*◌, ◌/◌, ◌%◌, ◌<◌, ◌≤◌, ◌⊎◌, Bool, true, false, List, length, refl, sym, ap, ◌∙◌, subst, arith, inl, inr}
use Rattle.std.proofs.lemmas.Bool.{cases_eq, true≢false}
use Rattle.chip_model.specs.Wavering.{Bits}
use Rattle.chip_model.specs.Geometry.{block_count, sector_count}
use Rattle.nor_driver.specs.State.{NorState, bits_in, IsFirmer}
use Rattle.nor_layout.specs.declared.header.Tag.{Tag}
use Rattle.nor_layout.specs.Headers.{next_generation}
use Rattle.nor_layout.specs.declared.kind.Kind.{Kind}
use Rattle.nor_layout.specs.declared.kind.Kind.TheVariants as kinds
use Rattle.erase_journal.specs.Blocks.{SameBlocks, block, blank, is_opened}
use Rattle.erase_journal.specs.Weak.{AreFirm}
use Rattle.erase_journal.specs.Recovery.{Recovers}
use Rattle.erase_journal.specs.Steps.{SucceedsSettled}
use Rattle.sector_slots.specs.Slots.{Slot, Free, Live, NoGeneration, Dead, Outside, content_bytes, data_blocks, data_block, kind_at, raw_slot, slot_at, slot_count, is_group, IsSpareIn}
use Rattle.sector_slots.specs.Blocks.{AreAtRest, IsAtRest, IsCopying}
use Rattle.sector_slots.proofs.PlaceLaws.{place-kinds}
use Rattle.sector_map.proofs.Retiring.{Retired, single-tabled}
use Rattle.chip_model.specs.Memory.{byte}
use Rattle.sector_slots.specs.Copying.{SameLive, HoldsNothing}
use Rattle.sector_slots.specs.Firm.{HoldsBegun, SameStatesBut}
use Rattle.sector_slots.specs.Sectors.{LiveAt, IsSingle, generation_in}
use Rattle.sector_slots.specs.Steps.{OnlyPlace}
use Rattle.sector_slots.specs.Weak.{HasNewer, HasSureRoom, HasSureSpare, HasChipRoom, HaveByteBits, IsDeadForGood, IsDoubtedStore, IsHalfStore, IsHalfChip, IsWhollyFirm, IsSureBlock, IsSureSlot}
use Rattle.sector_slots.specs.Weak as weak
use Rattle.sector_slots.proofs.FirmLaws.{slot_number, wholly-block, wholly-slot, sure-stays, block-stays}
use Rattle.sector_slots.proofs.BlankLaws.{erased-spare}
use Rattle.sector_slots.proofs.DiskLaws.{byte-bits-stay, wholly-room}
use Rattle.sector_slots.proofs.SectorLaws.{never-round}
use Rattle.sector_stock.specs.Copy.{EndsVoid, IsCommittedIn, IsFinished, OthersStay, SettlesCopy, OnlySettles}
use Rattle.sector_stock.proofs.FirmLosses.{rest-room}
use Rattle.sector_stock.proofs.Moved.{rest-slot}
use Rattle.sector_map.specs.Firm.{ReadsAlike, AreHeadsFirm, AreReadBlocks, IsReadBlock, IsHeldBlock, AreHeldBlocks, KeepsRead, MakesHeld, MovesFirmly}
use Rattle.sector_map.specs.Mending.{HasDeadGroup, PairsSeen}
use Rattle.sector_map.specs.Table.{IsTabled, IsTableOf, TwoHold, EntryHolds}
use Rattle.sector_map.specs.declared.table.Held.{Held}
use Rattle.sector_map.specs.declared.table.LiveSlots.{LiveSlots}
use Rattle.sector_map.proofs.Alike.{alike-slot, blocks-alike}
use Rattle.sector_map.proofs.Places.{slot-only, others-kept, at-rest-slot}
use Rattle.sector_map.proofs.Firmness.{same-block, same-memory, KeepsNewer, read-stays, half-stays, held-stays, wholly-read, settled-read, retired-read, held-read, half-no-group, held-sure, wholly-held, committed-void}

pub keeps-none : (a : NorState) → KeepsRead a a
keeps-none a begun h = h

pub keeps-after : (a b c : NorState) → KeepsRead a b → KeepsRead b c → KeepsRead a c
keeps-after a b c f g begun h = g begun (f begun h)

-- room stays where blocks read as they did
fewer-sized : (m m' : List ℕ) (c : ℕ) → length m' ≡ length m → c < data_blocks m' → c < data_blocks m
fewer-sized m m' c n low = rw (← n) low

more-sized : (m m' : List ℕ) (c : ℕ) → length m' ≡ length m → c < data_blocks m → c < data_blocks m'
more-sized m m' c n low = rw n low

pub bytes-stay : (a b : Bits) → IsFirmer a b → length b.shown ≡ length a.shown → HaveByteBits a → HaveByteBits b
bytes-stay a b f n h c low = byte-bits-stay a b f c (h c (fewer-sized a.shown b.shown c n low))

spare-alike : (m m' : List ℕ) (c : ℕ) → kind_at m' c ≡ kind_at m c → ((i : ℕ) → i < 7 → raw_slot m' c i ≡ raw_slot m c i) → IsSpareIn m c → IsSpareIn m' c
spare-alike m m' c k r s = record { plain = k ∙ s.plain; free = λ i low. r i low ∙ s.free i low }

spare-back : (m m' : List ℕ) (c : ℕ) → kind_at m' c ≡ kind_at m c → ((i : ℕ) → i < 7 → raw_slot m' c i ≡ raw_slot m c i) → IsSpareIn m' c → IsSpareIn m c
spare-back m m' c k r s = record { plain = sym k ∙ s.plain; free = λ i low. sym (r i low) ∙ s.free i low }

pub room-alike : (a b : Bits) → IsFirmer a b → length b.shown ≡ length a.shown → ((c : ℕ) → c < data_blocks a.shown → kind_at b.shown c ≡ kind_at a.shown c)
    → ((c i : ℕ) → c < data_blocks a.shown → i < 7 → raw_slot b.shown c i ≡ raw_slot a.shown c i) → HasSureRoom a → HasSureRoom b
room-alike a b f n kinds_same raws (weak.HasSureRoom.spare c low s each) = weak.HasSureRoom.spare c (more-sized a.shown b.shown c n low) (spare-alike a.shown b.shown c (kinds_same c low) (λ i small. raws c i low small) s)
    (λ i small. sure-stays a b f c i small (raws c i low small) (each i small))
room-alike a b f n kinds_same raws (weak.HasSureRoom.void c low e) = weak.HasSureRoom.void c (more-sized a.shown b.shown c n low) (kinds_same c low ∙ e)
room-alike a b f n kinds_same raws (weak.HasSureRoom.committed s t ls lt e each) = weak.HasSureRoom.committed s t (more-sized a.shown b.shown s n ls) (more-sized a.shown b.shown t n lt) (kinds_same t lt ∙ e)
    (λ sp i small. sure-stays a b f s i small (raws s i ls small) (each (spare-back a.shown b.shown s (kinds_same s ls) (λ j l. raws s j ls l) sp) i small))

room-same : (a b : Bits) → IsFirmer a b → b.shown ≡ a.shown → HasSureRoom a → HasSureRoom b
room-same a b f e h = room-alike a b f (ap (λ m. length m) e) (λ c low. ap (λ m. kind_at m c) e) (λ c i low small. ap (λ m. raw_slot m c i) e) h

-- a block at rest is neither void nor committed
void-rest : (k : Kind) → k ≡ kinds.Void → IsAtRest k → ⊥
void-rest k e r = subst (λ q. IsAtRest q) e r

copy-rest : (k : Kind) (s : ℕ) → k ≡ kinds.Committed s → IsAtRest k → ⊥
copy-rest k s e r = subst (λ q. IsAtRest q) e r

spare-same : (a b : Bits) → IsFirmer a b → b.shown ≡ a.shown → HasSureSpare a → HasSureSpare b
spare-same a b f e h = record {
  block = h.block;
  number = subst (λ m. h.block < data_blocks m) (sym e) h.number;
  spare = subst (λ m. IsSpareIn m h.block) (sym e) h.spare;
  slots = λ i low. sure-stays a b f h.block i low (ap (λ m. raw_slot m h.block i) e) (h.slots i low);
}

-- a call that leaves the memory
newer-same : (m m' : List ℕ) (c : ℕ) → m' ≡ m → KeepsNewer m m' c
newer-same m m' c e i low tag x live n = subst (λ z. HasNewer z tag) (sym e) n

fewer-same : (m m' : List ℕ) (c : ℕ) → m' ≡ m → c < data_blocks m' → c < data_blocks m
fewer-same m m' c e low = subst (λ z. c < data_blocks z) e low

pub keeps-same : (a b : NorState) → IsFirmer (bits_in a) (bits_in b) → b.memory ≡ a.memory → KeepsRead a b
keeps-same a b f e begun h = record {
  each = λ c low. read-stays (bits_in a) (bits_in b) f begun c (newer-same a.memory b.memory c e) (same-memory a.memory b.memory c e) (h.each c (fewer-same a.memory b.memory c e low));
  room = room-same (bits_in a) (bits_in b) f e h.room;
}

pub keeps-perhaps : (a b : NorState) → (b ≡ a) ⊎ SucceedsSettled a b → b.memory ≡ a.memory → KeepsRead a b
keeps-perhaps a b (inl e) same = subst (λ z. KeepsRead a z) (sym e) (keeps-none a)
keeps-perhaps a b (inr s) same = keeps-same a b s.kept.bits same

-- live slots stay
holds-live : (s : Slot) (tag : Tag) (x : List ℕ) → s ≡ Live tag x → HoldsNothing s → ⊥
holds-live s tag x e h = subst (λ z. HoldsNothing z) e h

pub newer-alike : (m m' : List ℕ) (c : ℕ) → ReadsAlike m m' → KeepsNewer m m' c
newer-alike m m' c alike i small tag x live n = record {
  slot = n.slot;
  content = n.content;
  live = record { number = (let q = n.live.number in let e = alike.same_length in rw e q); is = alike-slot m m' alike n.slot n.live.number ∙ n.live.is };
}

pub newer-live : (m m' : List ℕ) (c : ℕ) → length m' ≡ length m → SameLive (slot_at m) (slot_at m') (slot_count m) → KeepsNewer m m' c
newer-live m m' c n live i low tag x is h = record {
  slot = h.slot;
  content = h.content;
  live = record {
    number = (let q = h.live.number in rw n q);
    is = elim (live h.slot h.live.number) [ inl e ↦ e ∙ h.live.is | inr none ↦ absurd (holds-live (slot_at m h.slot) _ h.content h.live.is none.0) ];
  };
}

-- a void block was erased
pub void-keeps : (a b : NorState) (t : ℕ) → IsFirmer (bits_in a) (bits_in b) → EndsVoid t a.memory b.memory → IsWhollyFirm b.weak t → t < data_blocks a.memory → KeepsRead a b
void-keeps a b t f ends w low_t begun h = record {
  each = λ c low.
      let n = ends.keeps.chip.same_length in
      elim (cases_eq c t) [
        | inl e ↦ subst (λ q. IsReadBlock (bits_in b) begun q) (sym e) (wholly-read (bits_in b) begun t w ends.erased)
        | inr other ↦
            let low0 = fewer-sized a.memory b.memory c n low in
            read-stays (bits_in a) (bits_in b) f begun c (newer-live a.memory b.memory c n ends.live) (same-block a.memory b.memory c (ends.blocks c low0 other)) (h.each c low0)
      ];
  room = wholly-room (bits_in b) t (more-sized a.memory b.memory t ends.keeps.chip.same_length low_t) ends.erased w;
}

-- a committed copy and its source are two blocks
copying-apart : (k : Kind) (s t n : ℕ) → k ≡ kinds.Committed (s + 4) → IsCopying k t n → s ≢ t
copying-apart k s t n e h same = (let c : IsCopying (kinds.Committed (s + 4)) t n = subst (λ z. IsCopying z t n) e h in c.1.1.1 (omega (arith, c.1.0, same)))

pub committed-apart : (s t : ℕ) (m : List ℕ) → IsCommittedIn s t m → s ≢ t
committed-apart s t m h = copying-apart (kind_at m t) s t (data_blocks m) h.committed h.target.copying

copying-source : (k : Kind) (s t n : ℕ) → k ≡ kinds.Committed (s + 4) → IsCopying k t n → s < n
copying-source k s t n e h = (let c : IsCopying (kinds.Committed (s + 4)) t n = subst (λ z. IsCopying z t n) e h in let low = c.1.1.0 in let is = c.1.0 in omega (arith, low, is))

pub committed-source : (s t : ℕ) (m : List ℕ) → IsCommittedIn s t m → s < data_blocks m
committed-source s t m h = copying-source (kind_at m t) s t (data_blocks m) h.committed h.target.copying

-- What the settlement of a copy whose source is wholly free leaves of room.
kind-source : (s t : ℕ) → kinds.Committed s ≡ kinds.Committed t → s ≡ t
kind-source s t e = ap source_of e where
  source_of : Kind → ℕ
  source_of kinds.Plain = 0
  source_of kinds.Void = 0
  source_of (kinds.Committed b) = b
  source_of kinds.Settled = 0
  source_of (kinds.Group tag) = 0
  source_of kinds.DeadGroup = 0
  source_of kinds.SpoiltGroup = 0
  source_of kinds.Unknown = 0

abbrev IsPlainKind : Kind → Type 0
IsPlainKind kinds.Plain = Unit {0}
IsPlainKind kinds.Void = ⊥
IsPlainKind (kinds.Committed s) = ⊥
IsPlainKind kinds.Settled = ⊥
IsPlainKind (kinds.Group tag) = ⊥
IsPlainKind kinds.DeadGroup = ⊥
IsPlainKind kinds.SpoiltGroup = ⊥
IsPlainKind kinds.Unknown = ⊥

plain-committed : (k : Kind) (s : ℕ) → k ≡ kinds.Plain → k ≡ kinds.Committed s → ⊥
plain-committed k s p e = subst (λ q. IsPlainKind q) (sym p ∙ e) tt

spare-after : (a b : Bits) (c s t : ℕ) → IsFirmer a b → c < data_blocks a.shown → kind_at a.shown t ≡ kinds.Committed (s + 4) → OnlySettles t a.shown b.shown → length b.shown ≡ length a.shown → IsSpareIn a.shown c → ((i : ℕ) → i < 7 → IsSureSlot a c i) → HasSureRoom b
spare-after a b c s t f low committed alone n spare each =
    let other : c ≢ t = λ e. plain-committed (kind_at a.shown c) (s + 4) spare.plain (ap (λ q. kind_at a.shown q) e ∙ committed) in
    let r = same-block a.shown b.shown c (alone.others c low other other) in
    weak.HasSureRoom.spare c (more-sized a.shown b.shown c n low) (spare-alike a.shown b.shown c r.kind r.slots spare) (λ i small. sure-stays a b f c i small (r.slots i small) (each i small))

settled-room : (a b : Bits) (s t : ℕ) → IsFirmer a b → IsCommittedIn s t a.shown → IsSpareIn a.shown s → OnlySettles t a.shown b.shown → length b.shown ≡ length a.shown → HasSureRoom a → HasSureRoom b
settled-room a b s t f found spare alone n (weak.HasSureRoom.spare c low sp each) = spare-after a b c s t f low found.committed alone n sp each
settled-room a b s t f found spare alone n (weak.HasSureRoom.void c low e) = absurd (elim (cases_eq c t) as (λ _. ⊥) [
  | inl at ↦ committed-void (s + 4) (sym found.committed ∙ (ap (λ q. kind_at a.shown q) (sym at) ∙ e))
  | inr other ↦ void-rest (kind_at a.shown c) e (found.target.others c low other)
])
settled-room a b s t f found spare alone n (weak.HasSureRoom.committed s1 t1 ls lt e each) = elim (cases_eq t1 t) as (λ _. HasSureRoom b) [
  | inr other ↦ absurd (copy-rest (kind_at a.shown t1) (s1 + 4) e (found.target.others t1 lt other))
  | inl at ↦
      let four : s1 + 4 ≡ s + 4 = kind-source (s1 + 4) (s + 4) (sym e ∙ (ap (λ q. kind_at a.shown q) at ∙ found.committed)) in
      let is : s1 ≡ s = omega (arith, four) in
      spare-after a b s1 s t f ls found.committed alone n (subst (λ q. IsSpareIn a.shown q) (sym is) spare) (each (subst (λ q. IsSpareIn a.shown q) (sym is) spare))
]

pub erased-keeps : (a b : NorState) (s t : ℕ) → IsFirmer (bits_in a) (bits_in b) → IsCommittedIn s t a.memory → IsSpareIn a.memory s → OnlySettles t a.memory b.memory → SettlesCopy t (bits_in a) (bits_in b)
    → length b.memory ≡ length a.memory → SameLive (slot_at a.memory) (slot_at b.memory) (slot_count a.memory) → KeepsRead a b
erased-keeps a b s t f found spare alone settles n live begun h = record {
  each = λ c low.
      let low0 = fewer-sized a.memory b.memory c n low in
      elim (cases_eq c t) [
        | inl e ↦ subst (λ q. IsReadBlock (bits_in b) begun q) (sym e) (settled-read (bits_in a) (bits_in b) f begun (s + 4) t (newer-live a.memory b.memory t n live) found.committed alone.settled alone.target settles.states settles.third (h.each t (subst (λ q. q < data_blocks a.memory) e low0)))
        | inr other ↦ read-stays (bits_in a) (bits_in b) f begun c (newer-live a.memory b.memory c n live) (same-block a.memory b.memory c (alone.others c low0 other other)) (h.each c low0)
      ];
  room = settled-room (bits_in a) (bits_in b) s t f found spare alone n h.room;
}

pub committed-keeps : (a b : NorState) (s t : ℕ) → IsFirmer (bits_in a) (bits_in b) → s < data_blocks a.memory → IsCommittedIn s t a.memory → IsFinished s t a.memory b.memory → SettlesCopy t (bits_in a) (bits_in b) → IsWhollyFirm b.weak s
    → SameLive (slot_at a.memory) (slot_at b.memory) (slot_count a.memory) → KeepsRead a b
committed-keeps a b s t f low_s found done settles w live begun h = record {
  each = λ c low.
      let n = done.same_length in
      let low0 = fewer-sized a.memory b.memory c n low in
      elim (cases_eq c s) [
        | inl e ↦ subst (λ q. IsReadBlock (bits_in b) begun q) (sym e) (wholly-read (bits_in b) begun s w done.erased)
        | inr away ↦ elim (cases_eq c t) [
          | inl e ↦ subst (λ q. IsReadBlock (bits_in b) begun q) (sym e) (settled-read (bits_in a) (bits_in b) f begun (s + 4) t (newer-live a.memory b.memory t n live) found.committed done.settled done.target settles.states settles.third (h.each t (subst (λ q. q < data_blocks a.memory) e low0)))
          | inr other ↦ read-stays (bits_in a) (bits_in b) f begun c (newer-live a.memory b.memory c n live) (same-block a.memory b.memory c (done.blocks c low0 away other)) (h.each c low0)
        ]
      ];
  room = wholly-room (bits_in b) s (more-sized a.memory b.memory s done.same_length low_s) done.erased w;
}

-- no block is of a group
pub pair-none : (a : NorState) (begun : Bool) (table : List LiveSlots) → AreReadBlocks (bits_in a) begun → IsTabled table (slot_at a.memory) (slot_count a.memory) → PairsSeen true table a.memory → ⊥
pair-none a begun table h t p =
    let pair = p.1 in
    let two : TwoHold pair.newer pair.older (slot_at a.memory) (slot_count a.memory) p.0 = subst (λ e. EntryHolds e (slot_at a.memory) (slot_count a.memory) p.0) pair.entry (t.each p.0 pair.number) in
    let low = two.older_live.1.number in
    let c = pair.older.slot / 7 in
    half-no-group (kind_at a.memory c) (bits_in a) c (h.each c (omega (arith, low))).half.mark pair.group

pub dead-none : (a : NorState) (begun : Bool) → AreReadBlocks (bits_in a) begun → HasDeadGroup a.memory → ⊥
dead-none a begun h d = half-no-group (kind_at a.memory d.0) (bits_in a) d.0 (h.each d.0 d.1.0).half.mark (ap is_group d.1.1)

-- two live slots with the same number are one
tag-same : (m : List ℕ) (s : ℕ) (t u : Tag) (x y : List ℕ) → slot_at m s ≡ Live t x → slot_at m s ≡ Live u y → (t.number ≡ u.number) × (t.generation ≡ u.generation)
tag-same m s t u x y a b = (ap number_in (sym a ∙ b), ap generation_in (sym a ∙ b)) where
  number_in : Slot → ℕ
  number_in Free = 0
  number_in (Live tag z) = tag.number
  number_in NoGeneration = 0
  number_in Dead = 0
  number_in Outside = 0

free-live : (s : Slot) {tag : Tag} {x : List ℕ} → s ≡ Free → s ≡ Live tag x → ⊥
free-live s f l = (let q : 0 ≡ 1 = ap slot_number (sym f ∙ l) in omega (arith, q))

-- The older of two slots was retired.
module _ (a b : NorState) (f : IsFirmer (bits_in a) (bits_in b)) (x y : Held) (g : ℕ) (only : OnlyPlace y.slot a.memory b.memory) (two : TwoHold x y (slot_at a.memory) (slot_count a.memory) g)
    (rest : AreAtRest (kind_at a.memory) (data_blocks a.memory)) where
  newer-kept : (c : ℕ) → c < data_blocks a.memory → KeepsNewer a.memory b.memory c
  newer-kept c low i small tag z live h = elim (cases_eq h.slot y.slot) as (λ _. HasNewer b.memory tag) [
    | inr other ↦ record {
      slot = h.slot;
      content = h.content;
      live = record {
        number = (let q = h.live.number in let n = only.only.chip.same_length in rw n q);
        is = (others-kept y.slot a.memory b.memory (slot-only y.slot a.memory b.memory only)).each h.slot h.live.number other ∙ h.live.is;
      };
    }
    | inl same ↦
        let at : slot_at a.memory (7 * c + i) ≡ Live tag z = rest-slot a.memory c i rest low small ∙ live in
        let same_tag = tag-same a.memory y.slot (record { number = tag.number; generation = next_generation tag.generation }) (record { number = g; generation = y.generation }) h.content two.older_live.0
        (subst (λ q. slot_at a.memory q ≡ Live (record { number = tag.number; generation = next_generation tag.generation }) h.content) same h.live.is) two.older_live.1.is in
        let mine : LiveAt (slot_at a.memory) (slot_count a.memory) (7 * c + i) g tag.generation z = record { number = omega (arith, low, small); is = subst (λ q. slot_at a.memory (7 * c + i) ≡ Live (record { number = q; generation = tag.generation }) z) same_tag.0 at } in
        absurd (elim (two.only (7 * c + i) tag.generation z mine) as (λ _. ⊥) [
          | inl newer ↦
              let gen = (tag-same a.memory x.slot (record { number = g; generation = tag.generation }) (record { number = g; generation = x.generation }) z two.newer_live.0 (subst (λ q. slot_at a.memory q ≡ Live (record { number = g; generation = tag.generation }) z) newer mine.is) two.newer_live.1.is).1 in
              never-round y.generation x.generation (sym same_tag.1 ∙ ap next_generation gen) two.next
          | inr older ↦
              let gen = (tag-same a.memory y.slot (record { number = g; generation = tag.generation }) (record { number = g; generation = y.generation }) z two.older_live.0 (subst (λ q. slot_at a.memory q ≡ Live (record { number = g; generation = tag.generation }) z) older mine.is) two.older_live.1.is).1 in
              let round : y.generation ≡ next_generation y.generation = sym same_tag.1 ∙ ap next_generation gen in
              never-round y.generation y.generation round round
        ])
  ]

  pub retire-keeps : slot_at b.memory y.slot ≡ Dead → AreAtRest (kind_at b.memory) (data_blocks b.memory) → IsDeadForGood (bits_in b) (y.slot / 7) (y.slot % 7) → SameStatesBut (y.slot % 7) (y.slot / 7) a.memory b.memory → KeepsRead a b
  retire-keeps now after good states begun h = record {
    each = λ c low.
        let n = only.only.chip.same_length in
        let low0 = fewer-sized a.memory b.memory c n low in
        let number = two.older_live.1.number in
        elim (cases_eq c (y.slot / 7)) [
          | inr other ↦ read-stays (bits_in a) (bits_in b) f begun c (newer-kept c low0) (same-block a.memory b.memory c (only.only.others (c + 4) (omega arith) (omega (arith, low0)) (λ e. other (omega (arith, e))))) (h.each c low0)
          | inl e ↦ subst (λ q. IsReadBlock (bits_in b) begun q) (sym e)
              (let inside : y.slot / 7 < data_blocks a.memory = omega (arith, number) in
              retired-read (bits_in a) (bits_in b) f begun (y.slot / 7) (y.slot % 7) (omega arith) (record { number = g; generation = y.generation }) two.older_live.0 (sym (at-rest-slot a.memory y.slot rest number) ∙ two.older_live.1.is)
              (sym (at-rest-slot b.memory y.slot after (rw n number)) ∙ now) good only.kind
              (λ i small away. only.slots i small (λ q. away (omega (arith, q, small)))) states (newer-kept (y.slot / 7) inside) (h.each (y.slot / 7) inside))
        ];
    room =
        let r = rest-room (bits_in a) rest h.room in
        let n = only.only.chip.same_length in
        let away : r.block ≢ y.slot / 7 = λ e. free-live (raw_slot a.memory (y.slot / 7) (y.slot % 7)) (subst (λ q. raw_slot a.memory q (y.slot % 7) ≡ Free) e (r.spare.free (y.slot % 7) (omega arith))) (sym (at-rest-slot a.memory y.slot rest two.older_live.1.number) ∙ two.older_live.1.is) in
        let number = r.number in
        let same = same-block a.memory b.memory r.block (only.only.others (r.block + 4) (omega arith) (omega (arith, number)) (λ e. away (omega (arith, e)))) in
        weak.HasSureRoom.spare r.block (more-sized a.memory b.memory r.block n number) (spare-alike a.memory b.memory r.block same.kind same.slots r.spare) (λ i small. sure-stays (bits_in a) (bits_in b) f r.block i small (same.slots i small) (r.slots i small));
  }

-- No sector has two slots: so no slot has a newer one.
pub single-held : (b : NorState) → IsSingle b.memory → AreAtRest (kind_at b.memory) (data_blocks b.memory) → (begun : Bool) → AreReadBlocks (bits_in b) begun → AreHeldBlocks (bits_in b) begun
single-held b single rest begun h = record {
  bytes = λ c low. (h.each c low).half.bytes (λ e. void-rest (kind_at b.memory c) e (rest c low));
  each = λ c low. held-read (bits_in b) begun c (h.each c low) (λ i small tag x live newer.
      let at : slot_at b.memory (7 * c + i) ≡ Live tag x = rest-slot b.memory c i rest low small ∙ live in
      let one = single.one (7 * c + i) newer.slot tag.number tag.generation (next_generation tag.generation) x newer.content (record { number = omega (arith, low, small); is = at }) newer.live in
      let gen = (tag-same b.memory newer.slot tag (record { number = tag.number; generation = next_generation tag.generation }) x newer.content (subst (λ q. slot_at b.memory q ≡ Live tag x) one at) newer.live.is).1 in
      never-round tag.generation tag.generation gen gen)
      (rest c low);
  room = rest-room (bits_in b) rest h.room;
}

-- the table says so once each older slot is retired
abbrev pub sized_slots : ℕ → ℕ
sized_slots n = 7 * (block_count n - 4)

pub place-rest : (w : ℕ) (m m' : List ℕ) → OnlyPlace w m m' → AreAtRest (kind_at m) (data_blocks m) → AreAtRest (kind_at m') (data_blocks m')
place-rest w m m' h rest d low =
    let n = h.only.chip.same_length in
    let low0 : d < data_blocks m = rw (← n) low in
    subst (λ k. IsAtRest k) (sym (place-kinds w m m' h d low0)) (rest d low0)

pub table-held : (table0 table : List LiveSlots) (a b : NorState) (n : ℕ) → length table0 ≡ sector_count (length a.memory) → length table ≤ n → KeepsRead a b → Retired table0 table n a b → MakesHeld a b
table-held table0 table a b n size all keeps r begun h =
    let sized = r.chip.same_length in
    let t : IsTabled table (slot_at b.memory) (slot_count b.memory) = subst (λ k. IsTabled table (slot_at b.memory) k) (ap sized_slots (sym sized)) r.tabled in
    let of : IsTableOf table b.memory = record { size = r.size ∙ (size ∙ ap sector_count (sym sized)); tabled = t; single = λ g low. r.single g (omega (arith, low, all)) } in
    single-held b (single-tabled table b.memory of) r.blocks.rest begun (keeps begun h)

-- The move of a block.
pub still-moves : (a b : NorState) (s : ℕ) → IsFirmer (bits_in a) (bits_in b) → b.memory ≡ a.memory → (HoldsBegun (data_block a.memory s) → ⊥) → MovesFirmly s (bits_in a) (bits_in b)
still-moves a b s f e none = record {
  held = λ begun c low h. held-stays (bits_in a) (bits_in b) f begun c (same-memory a.memory b.memory c e) h;
  sure = λ c low h. (let r = same-memory a.memory b.memory c e in block-stays (bits_in a) (bits_in b) f true c r.kind r.slots h);
  moved = λ begun h. held-sure (bits_in b) begun s (held-stays (bits_in a) (bits_in b) f begun s (same-memory a.memory b.memory s e) h)
      (λ i low is state. none (record { slots = h.of_slots; place = i; within = low; begun = ap (λ m. byte_of_state m s i) (sym e) ∙ state }));
  room = spare-same (bits_in a) (bits_in b) f e;
  bytes = bytes-stay (bits_in a) (bits_in b) f (ap (λ m. length m) e);
} where
  byte_of_state : List ℕ → ℕ → ℕ → ℕ
  byte_of_state m c i = byte (data_block m c) (16 + 4 * i)

pub afresh-moves : (a b : NorState) (s t : ℕ) → IsFirmer (bits_in a) (bits_in b) → length b.memory ≡ length a.memory → OthersStay s t a.memory b.memory → IsWhollyFirm b.weak s → IsWhollyFirm b.weak t → IsSpareIn b.memory s → s < data_blocks b.memory → is_group (kind_at b.memory t) ≡ false
    → MovesFirmly s (bits_in a) (bits_in b)
afresh-moves a b s t f n others ws wt spare low_s gt = record {
  held = λ begun c low h. elim (cases_eq c s) [
    | inl e ↦ subst (λ q. IsHeldBlock (bits_in b) begun q) (sym e) (wholly-held (bits_in b) begun s (ap is_group spare.plain) ws)
    | inr away ↦ elim (cases_eq c t) [
      | inl e ↦ subst (λ q. IsHeldBlock (bits_in b) begun q) (sym e) (wholly-held (bits_in b) begun t gt wt)
      | inr other ↦ held-stays (bits_in a) (bits_in b) f begun c (same-block a.memory b.memory c (others c low away other)) h
    ]
  ];
  sure = λ c low h. elim (cases_eq c s) [
    | inl e ↦ subst (λ q. IsSureBlock (bits_in b) true q) (sym e) (wholly-block (bits_in b) true s ws)
    | inr away ↦ elim (cases_eq c t) [
      | inl e ↦ subst (λ q. IsSureBlock (bits_in b) true q) (sym e) (wholly-block (bits_in b) true t wt)
      | inr other ↦ (let r = same-block a.memory b.memory c (others c low away other) in block-stays (bits_in a) (bits_in b) f true c r.kind r.slots h)
    ]
  ];
  moved = λ begun h. wholly-block (bits_in b) true s ws;
  room = λ _. record { block = s; number = low_s; spare = spare; slots = λ i small. wholly-slot (bits_in b) s i small ws };
  bytes = bytes-stay (bits_in a) (bits_in b) f n;
}

-- so far in the loop
pub record IsMovedBelow (k : ℕ) (begun : Bool) (b : NorState) : Type 0 where
  pub each : (c : ℕ) → c < data_blocks b.memory → IsHeldBlock (bits_in b) begun c
  pub sure : (c : ℕ) → c < data_blocks b.memory → c < k → IsSureBlock (bits_in b) true c
  pub room : HasSureSpare (bits_in b)
  pub bytes : HaveByteBits (bits_in b)

abbrev pub MovedBelow : ℕ → Bool → NorState → NorState → Type 0
MovedBelow k begun a b = AreHeldBlocks (bits_in a) begun → IsMovedBelow k begun b

pub moved-none : (begun : Bool) (a : NorState) → MovedBelow 0 begun a a
moved-none begun a h = record { each = h.each; sure = λ c low none. absurd (omega (arith, none)); room = h.room; bytes = h.bytes }

pub moved-more : (k next : ℕ) (begun : Bool) (a b d : NorState) → next ≡ k + 1 → length d.memory ≡ length b.memory → MovesFirmly k (bits_in b) (bits_in d) → MovedBelow k begun a b → MovedBelow next begun a d
moved-more k next begun a b d e n moves so_far h =
    let was = so_far h in
    record {
      each = λ c low. moves.held begun c (fewer-sized b.memory d.memory c n low) (was.each c (fewer-sized b.memory d.memory c n low));
      sure = λ c low below. elim (cases_eq c k) [
        | inl at ↦ subst (λ q. IsSureBlock (bits_in d) true q) (sym at) (moves.moved begun (subst (λ q. IsHeldBlock (bits_in b) begun q) at (was.each c (fewer-sized b.memory d.memory c n low))))
        | inr other ↦ moves.sure c (fewer-sized b.memory d.memory c n low) (was.sure c (fewer-sized b.memory d.memory c n low) (omega (arith, below, other, e)))
      ];
      room = moves.room was.room;
      bytes = moves.bytes was.bytes;
    }

pub moved-all : (k : ℕ) (begun : Bool) (a b : NorState) → data_blocks b.memory ≤ k → MovedBelow k begun a b → AreHeldBlocks (bits_in a) begun → IsDoubtedStore (bits_in b)
moved-all k begun a b all so_far h = (let was = so_far h in record { bytes = was.bytes; each = λ c low. was.sure c low (omega (arith, low, all)); room = was.room })

-- no slot was seen to be begun
pub none-moved : (begun : Bool) (a : NorState) → begun ≡ false → AreHeldBlocks (bits_in a) begun → IsDoubtedStore (bits_in a)
none-moved begun a e h = record { bytes = h.bytes; each = λ c low. held-sure (bits_in a) begun c (h.each c low) (λ i small is state. true≢false (sym is ∙ e)); room = h.room }

pub doubted-same : (a b : NorState) → IsFirmer (bits_in a) (bits_in b) → b.memory ≡ a.memory → IsDoubtedStore (bits_in a) → IsDoubtedStore (bits_in b)
doubted-same a b f e h = record {
  bytes = bytes-stay (bits_in a) (bits_in b) f (ap (λ m. length m) e) h.bytes;
  each = λ c low. (let r = same-memory a.memory b.memory c e in block-stays (bits_in a) (bits_in b) f true c r.kind r.slots (h.each c (fewer-same a.memory b.memory c e low)));
  room = spare-same (bits_in a) (bits_in b) f e h.room;
}

-- The heads were programmed again.
pub half-read : (a b : NorState) (begun : Bool) → IsFirmer (bits_in a) (bits_in b) → ReadsAlike a.memory b.memory → AreHeadsFirm (bits_in b) begun → IsHalfStore (bits_in a) → AreReadBlocks (bits_in b) begun
half-read a b begun f alike heads h = record {
  each = λ c low. record {
    half = half-stays (bits_in a) (bits_in b) f c (newer-alike a.memory b.memory c alike) (alike.kinds c (fewer-sized a.memory b.memory c alike.same_length low)) (λ i small. alike.slots c i (fewer-sized a.memory b.memory c alike.same_length low) small) (h.each c (fewer-sized a.memory b.memory c alike.same_length low));
    head = heads c low;
  };
  room = room-alike (bits_in a) (bits_in b) f alike.same_length alike.kinds alike.slots h.room;
}

-- A recovery of the journals erased the blocks whose entries were open, and left the others.
by-test : (t : Bool) → (t ≡ true) ⊎ (t ≡ false)
by-test true = inl refl
by-test false = inr refl

opened-blank : (m : List ℕ) (b : ℕ) → is_opened m b ≡ true → block m b ≡ blank
unfolding block
opened-blank m b e = rw e refl

opened-spare : (m m' : List ℕ) (c : ℕ) → SameBlocks m m' → c < data_blocks m → is_opened m (c + 4) ≡ true → IsSpareIn m' c
opened-spare m m' c same low e = erased-spare m' c (same.each (c + 4) (omega arith) (omega (arith, low)) ∙ opened-blank m (c + 4) e)

pub recovered-half : (a b : NorState) → IsFirmer (bits_in a) (bits_in b) → SameBlocks a.memory b.memory → ((c : ℕ) → c < data_blocks a.memory → is_opened a.memory (c + 4) ≡ true → IsWhollyFirm b.weak c) → IsHalfChip (bits_in a) → IsHalfStore (bits_in b)
recovered-half a b f same erased h =
    let alike = blocks-alike a.memory b.memory same in
    let n = alike.same_length in
    record {
      each = λ c low.
          let low0 = fewer-sized a.memory b.memory c n low in
          elim (by-test (is_opened a.memory (c + 4))) [
            | inl e ↦ (wholly-read (bits_in b) false c (erased c low0 e) (opened-spare a.memory b.memory c same low0 e)).half
            | inr e ↦ half-stays (bits_in a) (bits_in b) f c (newer-alike a.memory b.memory c alike) (alike.kinds c low0) (λ i small. alike.slots c i low0 small) (h.each c low0 e)
          ];
      room = chip-room h.room;
    } where
      chip-room : HasChipRoom (bits_in a) → HasSureRoom (bits_in b)
      chip-room (weak.HasChipRoom.found r) = (let alike = blocks-alike a.memory b.memory same in room-alike (bits_in a) (bits_in b) f alike.same_length alike.kinds alike.slots r)
      chip-room (weak.HasChipRoom.opened c low e) = wholly-room (bits_in b) c (more-sized a.memory b.memory c same.chip.same_length low) (opened-spare a.memory b.memory c same low e) (erased c low e)

pub half-chip-same : (a b : NorState) → IsFirmer (bits_in a) (bits_in b) → b.memory ≡ a.memory → IsHalfChip (bits_in a) → IsHalfChip (bits_in b)
half-chip-same a b f e h =
    let alike : ReadsAlike a.memory b.memory = record { same_length = ap (λ m. length m) e; kinds = λ c low. ap (λ m. kind_at m c) e; slots = λ c i low small. ap (λ m. raw_slot m c i) e; contents = λ c i low small. ap (λ m. content_bytes (data_block m c) i) e; spare = λ c low s. ap (λ m. data_block m c) e } in
    record {
      each = λ c low none.
          let low0 = fewer-sized a.memory b.memory c alike.same_length low in
          half-stays (bits_in a) (bits_in b) f c (newer-alike a.memory b.memory c alike) (alike.kinds c low0) (λ i small. alike.slots c i low0 small) (h.each c low0 (subst (λ m. is_opened m (c + 4) ≡ false) e none));
      room = chip-room h.room;
    } where
      chip-room : HasChipRoom (bits_in a) → HasChipRoom (bits_in b)
      chip-room (weak.HasChipRoom.found r) = weak.HasChipRoom.found (room-same (bits_in a) (bits_in b) f e r)
      chip-room (weak.HasChipRoom.opened c low o) = weak.HasChipRoom.opened c (more-sized a.memory b.memory c (ap (λ m. length m) e) low) (subst (λ m. is_opened m (c + 4) ≡ true) (sym e) o)

pub recovered-chip : (a b : NorState) → Recovers a b
    → ((c : ℕ) → 4 ≤ c → c < block_count (length a.memory) → is_opened a.memory c ≡ true → AreFirm b.weak (4096 * c) 4096) → IsHalfChip (bits_in a) → IsHalfStore (bits_in b)
recovered-chip a b ok erased h =
    recovered-half a b ok.kept.bits ok.blocks (λ c low o. erased (c + 4) (omega arith) (omega (arith, low)) o) h
