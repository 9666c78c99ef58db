-- A block comes to be trusted: what is told of weak bits, and what was done for it.
use Rattle.std.proofs.Common.{◌≡◌, ◌≢◌, ◌⊎◌, ℕ, ◌+◌, ◌-◌, ◌*◌, ◌<◌, Bool, true, false, List, length, refl, sym, ap, ◌∙◌, subst, arith, inl, inr}
use Rattle.std.specs.Prelude.{◌/◌, ◌%◌}
use Rattle.std.proofs.lemmas.Bool.{cases_eq, false≢true}
use Rattle.chip_model.specs.Geometry.{block_count}
use Rattle.chip_model.specs.Wavering.{Bits}
use Rattle.nor_layout.specs.Kinds.{kind_of}
use Rattle.nor_driver.specs.State.{IsFirmer}
use Rattle.erase_journal.specs.Blocks.{OnlyBlock, blank}
use Rattle.sector_slots.specs.Slots.{Slot, Free, Live, NoGeneration, Dead, Outside, slot_at, slot_count, slot_in, data_blocks, data_block, kind_at, raw_slot, IsLive, IsSpareIn}
use Rattle.sector_slots.specs.Steps.{OnlyPlace}
use Rattle.sector_slots.specs.Blocks.{AreAtRest}
use Rattle.sector_slots.specs.Weak.{IsSureBlock, IsDeadForGood, dead}
use Rattle.sector_slots.proofs.FirmLaws.{block-stays, block-retired, block-killed, block-written}
use Rattle.sector_slots.proofs.SlotLaws.{counted-raw}
use Rattle.sector_stock.specs.declared.index.SlotState.{SlotState}
use Rattle.sector_stock.specs.declared.index.BlockState.{BlockState}
use Rattle.sector_stock.specs.declared.index.Cursors.{Cursors}
use Rattle.sector_stock.specs.Index.{in_block, IsFirmIn, IsIndexOf, IsWholeBlock, Trusts, TrustsMore, Marked, one_dead_more, one_free_fewer}
use Rattle.sector_stock.specs.Room.{HasRoom}
use Rattle.sector_stock.specs.IndexSteps.{HasNoneFreeBefore}
use Rattle.sector_stock.specs.Takes.{KillsFirstFree, MadeTrusted}
use Rattle.sector_stock.proofs.Moved.{rest-slot, spare-whole}

-- slots by what they are
abbrev kind_number : Slot → ℕ
kind_number Free = 0
kind_number (Live tag x) = 1
kind_number NoGeneration = 2
kind_number Dead = 3
kind_number Outside = 4

free-in : Free ≢ Outside
free-in e = let q : 0 ≡ 4 = ap kind_number e in omega (arith, q)

dead-in : Dead ≢ Outside
dead-in e = let q : 3 ≡ 4 = ap kind_number e in omega (arith, q)

dead-free : Dead ≢ Free
dead-free e = let q : 3 ≡ 0 = ap kind_number e in omega (arith, q)

pub raw-free : (m : List ℕ) (w : ℕ) → slot_at m w ≡ Free → raw_slot m (w / 7) (w % 7) ≡ Free
raw-free m w e = counted-raw m w Free e free-in

raw-dead : (m : List ℕ) (w : ℕ) → slot_at m w ≡ Dead → raw_slot m (w / 7) (w % 7) ≡ Dead
raw-dead m w e = counted-raw m w Dead e dead-in

-- the places before the first free one
pub before-raw : (m : List ℕ) (w : ℕ) → AreAtRest (kind_at m) (data_blocks m) → w < slot_count m → HasNoneFreeBefore w m → (j : ℕ) → j < w % 7 → raw_slot m (w / 7) j ≢ Free
before-raw m w rest low first j below free =
    first (7 * (w / 7) + j) (omega (arith, below)) (omega (arith, below)) (rest-slot m (w / 7) j rest (omega (arith, low)) (omega (arith, below)) ∙ free)

-- the other places of the block
place-kept : (w : ℕ) (m m' : List ℕ) → OnlyPlace w m m' → (i : ℕ) → i < 7 → i ≢ w % 7 → raw_slot m' (w / 7) i ≡ raw_slot m (w / 7) i
place-kept w m m' only i small other = only.slots i small (λ e. other (omega (arith, e)))

-- the other blocks
others-kept : (s : ℕ) (m m' : List ℕ) → OnlyBlock (s + 4) m m' → (c : ℕ) → c < data_blocks m → c ≢ s → data_block m' c ≡ data_block m c
others-kept s m m' only c low other = only.others (c + 4) (omega arith) (omega (arith, low)) (λ e. other (omega (arith, e)))

-- What is told of weak bits.
module _ (a b : Bits) (f : IsFirmer a b) where
  -- a block that is as it was
  same-sure : (suspect : Bool) (c : ℕ) → data_block b.shown c ≡ data_block a.shown c → IsSureBlock a suspect c → IsSureBlock b suspect c
  same-sure suspect c same h = block-stays a b f suspect c (ap kind_of same) (λ i low. ap (λ x. slot_in x i) same) h

  -- one block changed
  pub firm-but : (s : ℕ) (blocks blocks' : List BlockState) → OnlyBlock (s + 4) a.shown b.shown
      → ((c : ℕ) → c < data_blocks a.shown → c ≢ s → (in_block blocks' c).suspect ≡ (in_block blocks c).suspect)
      → (IsSureBlock a (in_block blocks s).suspect s → IsSureBlock b (in_block blocks' s).suspect s) → IsFirmIn a blocks → IsFirmIn b blocks'
  firm-but s blocks blocks' only same here h c low =
      let n : data_blocks b.shown ≡ data_blocks a.shown = ap (λ k. block_count k - 4) only.chip.same_length in
      let inside : c < data_blocks a.shown = omega (arith, low, n) in
      elim (cases_eq c s) as (λ _. IsSureBlock b (in_block blocks' c).suspect c) [
        | inl e ↦ subst (λ d. IsSureBlock b (in_block blocks' d).suspect d) (sym e) (here (subst (λ d. IsSureBlock a (in_block blocks d).suspect d) e (h c inside)))
        | inr ne ↦ subst (λ q. IsSureBlock b q c) (sym (same c inside ne)) (same-sure (in_block blocks c).suspect c (others-kept s a.shown b.shown only c inside ne) (h c inside))
      ]

  -- the first free slot of a suspect block was killed
  pub killed-sure : (w : ℕ) → AreAtRest (kind_at a.shown) (data_blocks a.shown) → w < slot_count a.shown → (IsSpareIn a.shown (w / 7) → ⊥) → slot_at a.shown w ≡ Free → HasNoneFreeBefore w a.shown
      → IsDeadForGood b (w / 7) (w % 7) → OnlyPlace w a.shown b.shown → IsSureBlock a true (w / 7) → IsSureBlock b false (w / 7)
  killed-sure w rest low part free first killed only h =
      block-killed a b f (w / 7) (w % 7) (omega arith) part (raw-free a.shown w free) (before-raw a.shown w rest low first) killed (place-kept w a.shown b.shown only) h

-- the block of a slot isn't wholly free
pub part-spare : (c : ℕ) (m : List ℕ) (slots : List SlotState) (blocks : List BlockState) (at : Cursors) → HasRoom m → IsIndexOf slots blocks at m → c < data_blocks m → (IsWholeBlock (in_block blocks c) → ⊥) → IsSpareIn m c → ⊥
part-spare c m slots blocks at room index low part spare = part (spare-whole m slots blocks c room.blocks.rest index.listed low spare)

-- What was done for it.
pub kills-first : (w : ℕ) (m m' : List ℕ) → AreAtRest (kind_at m) (data_blocks m) → w < slot_count m → slot_at m w ≡ Free → HasNoneFreeBefore w m → slot_at m' w ≡ Dead → KillsFirstFree (w / 7) m m'
kills-first w m m' rest low free first now = record { place = w % 7; within = omega arith; was = raw-free m w free; first = before-raw m w rest low first; now = raw-dead m' w now }

-- of one block
pub made-one : (s : ℕ) (m m' : List ℕ) (blocks blocks' : List BlockState) → length blocks ≡ data_blocks m → OnlyBlock (s + 4) m m' → (in_block blocks s).suspect ≡ true → (in_block blocks' s).suspect ≡ false
    → ((c : ℕ) → c < data_blocks m → c ≢ s → (in_block blocks' c).suspect ≡ (in_block blocks c).suspect) → (data_block m' s ≡ blank) ⊎ KillsFirstFree s m m' → MadeTrusted blocks blocks' m m'
made-one s m m' blocks blocks' n only was now same done = record {
  made = λ c low old new. elim (cases_eq c s) [
    | inl e ↦ subst (λ d. (data_block m' d ≡ blank) ⊎ KillsFirstFree d m m') (sym e) done
    | inr ne ↦ absurd (false≢true (sym new ∙ (same c (omega (arith, low, n)) ne ∙ old)))
  ];
  others = λ c low e. elim (cases_eq c s) as (λ _. data_block m' c ≡ data_block m c) [
    | inl q ↦ absurd (false≢true (sym now ∙ (ap (λ d. (in_block blocks' d).suspect) (sym q) ∙ (e ∙ (ap (λ d. (in_block blocks d).suspect) q ∙ was)))))
    | inr ne ↦ others-kept s m m' only c (omega (arith, low, n)) ne
  ];
}

-- of none; and one after the other
pub made-none : (m : List ℕ) (blocks : List BlockState) → MadeTrusted blocks blocks m m
made-none m blocks = record { made = λ c low old new. absurd (false≢true (sym new ∙ old)); others = λ c low e. refl }

kills-from : (c : ℕ) (m m1 m2 : List ℕ) → data_block m1 c ≡ data_block m c → KillsFirstFree c m1 m2 → KillsFirstFree c m m2
kills-from c m m1 m2 same h = record {
  place = h.place;
  within = h.within;
  was = ap (λ x. slot_in x h.place) (sym same) ∙ h.was;
  first = λ i below free. h.first i below (ap (λ x. slot_in x i) same ∙ free);
  now = h.now;
}

kills-to : (c : ℕ) (m m1 m2 : List ℕ) → data_block m2 c ≡ data_block m1 c → KillsFirstFree c m m1 → KillsFirstFree c m m2
kills-to c m m1 m2 same h = record { place = h.place; within = h.within; was = h.was; first = h.first; now = ap (λ x. slot_in x h.place) same ∙ h.now }

pub made-after : (x y z : List BlockState) (m m1 m2 : List ℕ) → TrustsMore x y → TrustsMore y z → MadeTrusted x y m m1 → MadeTrusted y z m1 m2 → MadeTrusted x z m m2
made-after x y z m m1 m2 t u p q =
    let n = t.size in
    record {
      made = λ c low old new.
          let inside : c < length y = omega (arith, low, n) in
          elim (t.each c low) as (λ _. (data_block m2 c ≡ blank) ⊎ KillsFirstFree c m m2) [
            | inl e ↦
                let s = ap (λ k. k.suspect) e in
                elim (q.made c inside (s ∙ old) new) [
                  | inl erased ↦ inl erased
                  | inr kills ↦ inr (kills-from c m m1 m2 (p.others c low s) kills)
                ]
            | inr came ↦
                let same : data_block m2 c ≡ data_block m1 c = q.others c inside (new ∙ sym came.now) in
                elim (p.made c low old came.now) [
                  | inl erased ↦ inl (same ∙ erased)
                  | inr kills ↦ inr (kills-to c m m1 m2 same kills)
                ]
          ];
      others = λ c low e.
          let inside : c < length y = omega (arith, low, n) in
          elim (t.each c low) as (λ _. data_block m2 c ≡ data_block m c) [
            | inl same ↦ let s = ap (λ k. k.suspect) same in q.others c inside (e ∙ sym s) ∙ p.others c low s
            | inr came ↦ elim (u.each c inside) as (λ _. data_block m2 c ≡ data_block m c) [
              | inl same ↦ absurd (false≢true (sym came.now ∙ (sym (ap (λ k. k.suspect) same) ∙ (e ∙ came.was))))
              | inr again ↦ absurd (false≢true (sym came.now ∙ again.was))
            ]
          ];
    }

-- The flags, once the lists are changed.
pub killed-flags : (w : ℕ) (n : ℕ) (slots slots1 slots' : List SlotState) (blocks blocks1 blocks2 blocks' : List BlockState) (x y : SlotState) (i j : BlockState) → length blocks ≡ n → Marked w x i slots slots1 blocks blocks1 → Marked w y j slots1 slots' blocks1 blocks2 → Trusts (w / 7) blocks2 blocks'
    → (c : ℕ) → c < n → c ≢ w / 7 → (in_block blocks' c).suspect ≡ (in_block blocks c).suspect
killed-flags w n slots slots1 slots' blocks blocks1 blocks2 blocks' x y i j size a b t c low ne =
    let k = a.block_size in
    let l = b.block_size in
    ap (λ q. q.suspect) (t.others c (omega (arith, low, size, k, l)) ne ∙ (b.other_blocks c (omega (arith, low, size, k)) ne ∙ a.other_blocks c (omega (arith, low, size)) ne))

pub marked-flags : (w : ℕ) (n : ℕ) (slots slots1 : List SlotState) (blocks blocks1 : List BlockState) (x : SlotState) (i : BlockState) → length blocks ≡ n → Marked w x i slots slots1 blocks blocks1
    → (c : ℕ) → c < n → c ≢ w / 7 → (in_block blocks1 c).suspect ≡ (in_block blocks c).suspect
marked-flags w n slots slots1 blocks blocks1 x i size a c low ne = ap (λ q. q.suspect) (a.other_blocks c (omega (arith, low, size)) ne)

-- A sector was written into a free slot of a trusted block, or a live slot was made dead.
pub written-firm : (w : ℕ) (a b : Bits) (slots slots' : List SlotState) (blocks blocks' : List BlockState) (x : SlotState) → IsFirmer a b → length blocks ≡ data_blocks a.shown → slot_at a.shown w ≡ Free → OnlyPlace w a.shown b.shown
    → Marked w x (one_free_fewer (in_block blocks (w / 7))) slots slots' blocks blocks' → (in_block blocks (w / 7)).suspect ≡ false → IsFirmIn a blocks → IsFirmIn b blocks'
written-firm w a b slots slots' blocks blocks' x f size free only marked trusted h =
    firm-but a b f (w / 7) blocks blocks' only.only (marked-flags w (data_blocks a.shown) slots slots' blocks blocks' x _ size marked)
    (λ sure. subst (λ q. IsSureBlock b q (w / 7)) (sym (ap (λ q. q.suspect) marked.its_block ∙ trusted))
    (block-written a b f (w / 7) (w % 7) (omega arith) (raw-free a.shown w free) (place-kept w a.shown b.shown only) (subst (λ q. IsSureBlock a q (w / 7)) trusted sure)))
    h

live-not : (x : Slot) → IsLive x → x ≢ Free
live-not x live free = let q : 1 ≡ 0 = ap kind_number (sym live.2 ∙ free) in omega (arith, q)

raw-live : (m : List ℕ) (w : ℕ) → IsLive (slot_at m w) → raw_slot m (w / 7) (w % 7) ≢ Free
raw-live m w live free =
    let raw : raw_slot m (w / 7) (w % 7) ≡ Live live.0 live.1 = counted-raw m w (Live live.0 live.1) live.2 (λ e. (let q : 1 ≡ 4 = ap kind_number e in omega (arith, q))) in
    live-not (raw_slot m (w / 7) (w % 7)) (live.0, live.1, raw) free

pub retired-firm : (w : ℕ) (a b : Bits) (slots slots' : List SlotState) (blocks blocks' : List BlockState) (x : SlotState) → IsFirmer a b → length blocks ≡ data_blocks a.shown → IsLive (slot_at a.shown w) → slot_at b.shown w ≡ Dead → IsDeadForGood b (w / 7) (w % 7) → OnlyPlace w a.shown b.shown
    → Marked w x (one_dead_more (in_block blocks (w / 7))) slots slots' blocks blocks' → IsFirmIn a blocks → IsFirmIn b blocks'
retired-firm w a b slots slots' blocks blocks' x f size live now killed only marked h =
    firm-but a b f (w / 7) blocks blocks' only.only (marked-flags w (data_blocks a.shown) slots slots' blocks blocks' x _ size marked)
    (λ sure. subst (λ q. IsSureBlock b q (w / 7)) (sym (ap (λ q. q.suspect) marked.its_block))
    (block-retired a b f (in_block blocks (w / 7)).suspect (w / 7) (w % 7) (omega arith) (raw-live a.shown w live) (λ e. dead-free (sym (raw-dead b.shown w now) ∙ e)) (dead killed) (place-kept w a.shown b.shown only) sure))
    h
