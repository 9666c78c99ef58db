-- What making a block firm leaves: a free slot is dead, or a wholly free block was erased; the sectors are what they were, and the index is the memory's.
use Rattle.std.proofs.Common.{◌≡◌, ◌≢◌, ◌⊎◌, ℕ, ◌+◌, ◌*◌, ◌-◌, ◌<◌, ◌≤◌, Bool, true, false, List, length, refl, sym, ap, ◌∙◌, subst, arith, inl, inr}
use Rattle.std.specs.Prelude.{◌/◌}
use Rattle.std.proofs.lemmas.Bool.{cases_eq, cases_lt, false≢true}
use Rattle.chip_model.specs.Geometry.{block_count, sector_count}
use Rattle.erase_journal.specs.Blocks.{WithErased}
use Rattle.sector_slots.specs.Slots.{Free, Dead, slot_at, slot_count, data_blocks, kind_at, raw_slot, IsClean, IsSpareIn}
use Rattle.sector_slots.specs.Steps.{OnlyPlace}
use Rattle.sector_slots.specs.Blocks.{AreAtRest, AreSettled, IsSettledBlocks}
use Rattle.sector_slots.specs.Copying.{HoldsNothing, SameLive}
use Rattle.sector_slots.proofs.AloneLaws.{place-alone}
use Rattle.sector_slots.proofs.MachineLaws.{single-sized}
use Rattle.sector_slots.proofs.MoveLaws.{live-stands, same-back, live-single}
use Rattle.sector_slots.proofs.PlaceLaws.{later, later-is, place-others, place-kinds, place-settled, place-holds, place-fit}
use Rattle.sector_stock.specs.Copy.{KeepsSectors}
use Rattle.sector_stock.specs.declared.index.SlotState.{SlotState}
use Rattle.sector_stock.specs.declared.index.BlockState.{BlockState}
use Rattle.sector_stock.specs.declared.index.Cursors.{Cursors}
use Rattle.sector_stock.specs.declared.policy.Wanted.{Wanted}
use Rattle.sector_stock.specs.declared.policy.Wanted.TheVariants as wanteds
use Rattle.sector_stock.specs.declared.policy.Policy.{Policy}
use Rattle.sector_stock.specs.declared.policy.Policy.TheVariants as policies
use Rattle.sector_stock.specs.Index.{in_block, erases_of, Counts, IsIndexOf, IsWholeBlock, Trusts, Suspects, TrustsMore, ComesToBeTrusted, AreTrusted, AreWithin, IsStocked, AreBounds, AreWorn}
use Rattle.sector_stock.specs.IndexSteps.{suspects}
use Rattle.sector_stock.specs.Room.{HasRoom, IsSpareBlock, HasNoneFree}
use Rattle.sector_stock.specs.Takes.{MakesFirm, KeepsErases, IsLowestFree, FillsUp, GivesTrusted, IsGivable, TrustsReserve}
use Rattle.sector_stock.proofs.Copying.{after-keeps, same-sectors-sound}
use Rattle.sector_stock.proofs.Even.{even-kept}
use Rattle.sector_stock.proofs.Finding.{reserve-one}
use Rattle.sector_stock.proofs.Tallies.{how_many-less}
use Rattle.erase_journal.specs.Places.{how_many}
use Rattle.sector_stock.proofs.Moved.{rest-slot, sound-of, spare-whole, whole-spare}
use Rattle.sector_stock.proofs.Renewing.{SameBut, AreSameBut, listed-but, ahead-but, listed-done, spare-keeps, spare-done, reserve-stays, spare-stays}

-- the slots that count, once a free one is free or dead
killed-live : (w : ℕ) (m m' : List ℕ) → slot_at m w ≡ Free → (slot_at m' w ≡ Free) ⊎ (slot_at m' w ≡ Dead) → OnlyPlace w m m' → SameLive (slot_at m) (later m m') (slot_count m)
killed-live w m m' free now only s low = elim (cases_eq s w) [
  | inr ne ↦ inl ((place-others w m m' only).each s low ne)
  | inl e ↦
      let is = sym (later-is m m' s only.only.chip.same_length) in
      let quiet : HoldsNothing (slot_at m' w) = elim now as (λ _. HoldsNothing (slot_at m' w)) [ inl f ↦ subst (λ q. HoldsNothing q) (sym f) tt | inr d ↦ subst (λ q. HoldsNothing q) (sym d) tt ] in
      inr (subst (λ v. HoldsNothing (slot_at m v)) (sym e) (subst (λ q. HoldsNothing q) (sym free) tt), subst (λ q. HoldsNothing q) (sym is) (subst (λ v. HoldsNothing (slot_at m' v)) (sym e) quiet))
]

pub killed-keeps : (w r : ℕ) (m m' : List ℕ) → slot_at m w ≡ Free → (slot_at m' w ≡ Free) ⊎ (slot_at m' w ≡ Dead) → OnlyPlace w m m' → IsSpareBlock r m → r ≢ w / 7 → AreAtRest (kind_at m) (data_blocks m) → (IsClean m → IsClean m') → KeepsSectors m m'
killed-keeps w r m m' free now only spare apart rest clean =
    let live = killed-live w m m' free now only in
    record {
      chip = only.only.chip;
      sectors = λ sectors h. place-holds w r m m' sectors spare.number spare.spare apart rest only (live-stands (slot_at m) (later m m') (slot_count m) (sector_count (length m)) sectors live h.slots)
          (place-fit w m m' only (same-back (slot_at m) (later m m') (slot_count m) live) h.groups);
      alone = place-alone w m m' only;
      clean = clean;
    }

pub killed-firm : (w r : ℕ) (m m' : List ℕ) → slot_at m w ≡ Free → slot_at m' w ≡ Dead → OnlyPlace w m m' → IsSpareBlock r m → r ≢ w / 7 → AreAtRest (kind_at m) (data_blocks m) → (IsClean m → IsClean m') → MakesFirm m m'
killed-firm w r m m' free now only spare apart rest clean = record {
  slots = λ s low. elim (cases_eq s w) [
    | inl e ↦ inr (ap (λ v. slot_at m v) e ∙ free, ap (λ v. slot_at m' v) e ∙ now)
    | inr ne ↦ inl (later-is m m' s only.only.chip.same_length ∙ (place-others w m m' only).each s low ne)
  ];
  kinds = place-kinds w m m' only;
  blocks = subst (λ n. IsSettledBlocks (kind_at m') (raw_slot m') (block_count n - 4)) (sym only.only.chip.same_length) (place-settled w r m m' spare.number spare.spare apart rest only);
  keeps = killed-keeps w r m m' free (inr now) only spare apart rest clean;
}

-- the block of a slot that isn't wholly free isn't the reserve
pub part-apart : (w : ℕ) (m : List ℕ) (slots : List SlotState) (blocks : List BlockState) (at : Cursors) → HasRoom m → IsIndexOf slots blocks at m → (IsWholeBlock (in_block blocks (w / 7)) → ⊥) → at.reserve ≢ w / 7
part-apart w m slots blocks at room index part e =
    part (subst (λ c. IsWholeBlock (in_block blocks c)) e (spare-whole m slots blocks at.reserve room.blocks.rest index.listed index.reserve.number index.reserve.spare))

-- a wholly free block that was erased
pub erased-firm : (c : ℕ) (m m' : List ℕ) → HasRoom m → c < data_blocks m → IsSpareIn m c → WithErased (c + 4) m m' → MakesFirm m m'
erased-firm c m m' room low spare w =
    let done = spare-done c m m' room.blocks low spare w in
    record { slots = λ s inside. inl (done.slots s inside); kinds = done.kinds; blocks = done.blocks; keeps = spare-keeps c m m' low spare w }

-- nothing happened; and one after the other
pub firm-none : (m : List ℕ) → AreSettled m → MakesFirm m m
firm-none m settled = record {
  slots = λ w low. inl refl;
  kinds = λ c low. refl;
  blocks = settled;
  keeps = record { chip = record { same_length = refl; superblock = λ k low. refl }; sectors = λ sectors h. h; alone = λ a. a; clean = λ a. a };
}

pub firm-after : (a b c : List ℕ) → MakesFirm a b → MakesFirm b c → MakesFirm a c
firm-after a b c p q =
    let n : data_blocks b ≡ data_blocks a = ap (λ k. block_count k - 4) p.keeps.chip.same_length in
    record {
      slots = λ w low.
          let inside : w < slot_count b = omega (arith, low, n) in
          elim (q.slots w inside) [
            | inl e ↦ elim (p.slots w low) [ inl f ↦ inl (e ∙ f) | inr d ↦ inr (d.0, e ∙ d.1) ]
            | inr d ↦ elim (p.slots w low) [ inl f ↦ inr (sym f ∙ d.0, d.1) | inr g ↦ absurd (let h : Free ≡ Dead = sym d.0 ∙ g.1 in cc) ]
          ];
      kinds = λ d low. q.kinds d (omega (arith, low, n)) ∙ p.kinds d low;
      blocks = q.blocks;
      keeps = after-keeps a b c p.keeps q.keeps;
    }

-- there still is room
firm-live : (m m' : List ℕ) → MakesFirm m m' → SameLive (slot_at m) (later m m') (slot_count m)
firm-live m m' h s low =
    let is = sym (later-is m m' s h.keeps.chip.same_length) in
    elim (h.slots s low) [
      | inl e ↦ inl (is ∙ e)
      | inr d ↦ inr (subst (λ q. HoldsNothing q) (sym d.0) tt, subst (λ q. HoldsNothing q) (sym (is ∙ d.1)) tt)
    ]

pub firm-room : (m m' : List ℕ) → HasRoom m → MakesFirm m m' → HasRoom m'
firm-room m m' room h =
    let n : data_blocks m' ≡ data_blocks m = ap (λ k. block_count k - 4) h.keeps.chip.same_length in
    let sound = same-sectors-sound m m' h.keeps.sectors (sound-of m room) in
    record {
      sector = sound.slots.sector;
      single = single-sized m m' h.keeps.chip (live-single (slot_at m) (later m m') (slot_count m) (firm-live m m' h) room.single);
      whole = sound.slots.whole;
      blocks = h.blocks;
      layout = sound.groups.layout;
    }

-- The index, once a block is trusted.
trusted-but : (s : ℕ) (blocks blocks' : List BlockState) → Trusts s blocks blocks' → AreSameBut blocks blocks'
trusted-but s blocks blocks' h c low = elim (cases_eq c s) as (λ _. SameBut (in_block blocks c) (in_block blocks' c)) [
  | inl e ↦ subst (λ a. SameBut (in_block blocks a) (in_block blocks' a)) (sym e) (record { free = ap (λ b. b.free) h.here; dead = ap (λ b. b.dead) h.here; plain = ap (λ b. b.plain) h.here; group = ap (λ b. b.group) h.here })
  | inr ne ↦ let same = h.others c low ne in record { free = ap (λ b. b.free) same; dead = ap (λ b. b.dead) same; plain = ap (λ b. b.plain) same; group = ap (λ b. b.group) same }
]

trusted-erases : (s : ℕ) (blocks blocks' : List BlockState) → Trusts s blocks blocks' → KeepsErases (length blocks) (erases_of blocks) (erases_of blocks')
trusted-erases s blocks blocks' h c low = elim (cases_eq c s) as (λ _. erases_of blocks' c ≡ erases_of blocks c) [
  | inl e ↦ subst (λ a. erases_of blocks' a ≡ erases_of blocks a) (sym e) (ap (λ b. b.erases) h.here)
  | inr ne ↦ ap (λ b. b.erases) (h.others c low ne)
]

suspects-but : (blocks blocks' : List BlockState) → Suspects (length blocks) blocks blocks' → AreSameBut blocks blocks'
suspects-but blocks blocks' h c low = let same = h.each c low low in record { free = ap (λ b. b.free) same; dead = ap (λ b. b.dead) same; plain = ap (λ b. b.plain) same; group = ap (λ b. b.group) same }

counts-alike : (wanted : Wanted) (b b' : BlockState) → SameBut b b' → Counts wanted b' → Counts wanted b
counts-alike wanteds.Free b b' h counts = let e = h.free in omega (arith, e, counts)
counts-alike (wanteds.Dead count) b b' h counts = (counts.0, counts.1, sym h.dead ∙ counts.2)
counts-alike wanteds.Resting b b' h counts = tt

-- lists that differ in nothing but what is suspect
index-alike : (m : List ℕ) (slots : List SlotState) (blocks blocks' : List BlockState) (at : Cursors) → length blocks' ≡ length blocks → AreSameBut blocks blocks' → KeepsErases (length blocks) (erases_of blocks) (erases_of blocks') → IsIndexOf slots blocks at m → IsIndexOf slots blocks' at m
index-alike m slots blocks blocks' at n alike erases index =
    let bounds : AreBounds blocks' at.bounds = λ wanted c low counts.
    (let l : c < length blocks = omega (arith, low, n) in
    let p = index.ahead.bounds wanted c l (counts-alike wanted (in_block blocks c) (in_block blocks' c) (alike c l) counts) in
    let q = erases c l in
    omega (arith, p, q)) in
    let worn : AreWorn at.least_erases at.most_erases blocks' = λ c low.
    (let l : c < length blocks = omega (arith, low, n) in
    let p = index.ahead.worn c l in
    let least = p.0 in
    let most = p.1 in
    let q = erases c l in
    (omega (arith, least, q), omega (arith, most, q))) in
    record {
      listed = listed-but slots blocks blocks' (slot_at m) (kind_at m) (data_blocks m) n alike index.listed;
      ahead = ahead-but blocks blocks' at at.policy at.bounds at.least_erases at.most_erases n alike bounds worn index.ahead;
      reserve = index.reserve;
      highest = index.highest;
      even = λ by. subst (λ k. AreWithin 32 k (erases_of blocks')) (sym n) (even-kept 32 (length blocks) (erases_of blocks) (erases_of blocks') erases (index.even by));
    }

pub index-trusted : (s : ℕ) (m : List ℕ) (slots : List SlotState) (blocks blocks' : List BlockState) (at : Cursors) → Trusts s blocks blocks' → IsIndexOf slots blocks at m → IsIndexOf slots blocks' at m
index-trusted s m slots blocks blocks' at h index = index-alike m slots blocks blocks' at h.size (trusted-but s blocks blocks' h) (trusted-erases s blocks blocks' h) index

pub stocked-suspects : (m : List ℕ) (slots : List SlotState) (blocks blocks' : List BlockState) (at : Cursors) (indexed : Bool) → Suspects (length blocks) blocks blocks' → IsStocked slots blocks at indexed m → IsStocked slots blocks' at indexed m
stocked-suspects m slots blocks blocks' at indexed h stock = record {
  sized = stock.sized;
  slots_size = stock.slots_size;
  blocks_size = h.size ∙ stock.blocks_size;
  index = λ q. index-alike m slots blocks blocks' at h.size (suspects-but blocks blocks' h) (λ c low. ap (λ b. b.erases) (h.each c low low)) (stock.index q);
}

-- the index, once a wholly free block was erased
pub index-erased : (c : ℕ) (m m' : List ℕ) (slots : List SlotState) (blocks : List BlockState) (at : Cursors) → HasRoom m → c < data_blocks m → IsSpareIn m c → WithErased (c + 4) m m' → IsIndexOf slots blocks at m → IsIndexOf slots blocks at m'
index-erased c m m' slots blocks at room low spare w index = record {
  listed = listed-done c m m' slots blocks (spare-done c m m' room.blocks low spare w) index.listed;
  ahead = index.ahead;
  reserve = spare-stays c at.reserve m m' spare w index.reserve;
  highest = λ by. reserve-stays c m m' spare w at.reserve (index.highest by);
  even = index.even;
}

-- Which blocks are trusted.
pub trusts-none : (blocks : List BlockState) → TrustsMore blocks blocks
trusts-none blocks = record { size = refl; each = λ c low. inl refl }

-- a block is trusted of which at most one slot died
pub trusts-one : (s : ℕ) (blocks blocks1 blocks' : List BlockState) → length blocks1 ≡ length blocks → s < length blocks → (in_block blocks s).suspect ≡ true → (in_block blocks1 s).dead ≤ (in_block blocks s).dead + 1 → (in_block blocks1 s).erases ≡ (in_block blocks s).erases
    → ((c : ℕ) → c < length blocks → c ≢ s → in_block blocks1 c ≡ in_block blocks c) → Trusts s blocks1 blocks' → TrustsMore blocks blocks'
trusts-one s blocks blocks1 blocks' n low was dead erases others h = record {
  size = h.size ∙ n;
  each = λ c inside. elim (cases_eq c s) [
    | inr ne ↦ inl (h.others c (omega (arith, inside, n)) ne ∙ others c inside ne)
    | inl e ↦
        let d = ap (λ b. b.dead) h.here in
        inr (subst (λ a. ComesToBeTrusted (in_block blocks a) (in_block blocks' a)) (sym e) (record { was = was; now = ap (λ b. b.suspect) h.here; dead = omega (arith, d, dead); erases = ap (λ b. b.erases) h.here ∙ erases }))
  ];
}

pub trusts-after : (a b c : List BlockState) → TrustsMore a b → TrustsMore b c → TrustsMore a c
trusts-after a b c p q = record {
  size = q.size ∙ p.size;
  each = λ d low.
      let n = p.size in
      elim (q.each d (omega (arith, low, n))) [
        | inl e ↦ elim (p.each d low) [
          | inl f ↦ inl (e ∙ f)
          | inr t ↦ inr (subst (λ x. ComesToBeTrusted (in_block a d) x) (sym e) t)
        ]
        | inr t ↦ elim (p.each d low) [
          | inl f ↦ inr (subst (λ x. ComesToBeTrusted x (in_block c d)) f t)
          | inr u ↦ absurd (false≢true (sym u.now ∙ t.was))
        ]
      ];
}

-- where none was suspect none is
pub none-suspect : (c : ℕ) (blocks blocks' : List BlockState) → TrustsMore blocks blocks' → AreTrusted blocks → c < length blocks → (in_block blocks' c).suspect ≡ true → ⊥
none-suspect c blocks blocks' h trusted low is = elim (h.each c low) as (λ _. ⊥) [
  | inl e ↦ false≢true (sym (trusted c low) ∙ (sym (ap (λ b. b.suspect) e) ∙ is))
  | inr t ↦ false≢true (sym t.now ∙ is)
]

-- no erase is counted
pub trusts-erases : (blocks blocks' : List BlockState) → TrustsMore blocks blocks' → KeepsErases (length blocks) (erases_of blocks) (erases_of blocks')
trusts-erases blocks blocks' h c low = elim (h.each c low) as (λ _. erases_of blocks' c ≡ erases_of blocks c) [ inl e ↦ ap (λ b. b.erases) e | inr t ↦ t.erases ]

-- and one more block is trusted
pub suspects-fewer : (s : ℕ) (blocks blocks' : List BlockState) → TrustsMore blocks blocks' → s < length blocks → (in_block blocks s).suspect ≡ true → (in_block blocks' s).suspect ≡ false → suspects blocks' < suspects blocks
unfolding suspects
suspects-fewer s blocks blocks' h low was now =
    subst (λ n. how_many (λ c. (in_block blocks' c).suspect) n < how_many (λ c. (in_block blocks c).suspect) (length blocks)) (sym h.size)
    (how_many-less (λ c. (in_block blocks c).suspect) (λ c. (in_block blocks' c).suspect) (length blocks) s
    (λ c inside is. elim (h.each c inside) as (λ _. (in_block blocks c).suspect ≡ true) [ inl e ↦ sym (ap (λ b. b.suspect) e) ∙ is | inr t ↦ t.was ]) low was now)

-- The slot that is given next.
below-either : (w v : ℕ) → w ≢ v → (w < v) ⊎ (v < w)
below-either w v ne = elim (cases_lt w v) [ inl low ↦ inl low | inr high ↦ inr (omega (arith, high, ne)) ]

lowest-one : (w v : ℕ) (m : List ℕ) → IsLowestFree w m → IsLowestFree v m → w ≡ v
lowest-one w v m a b =
    let same = reserve-one a.reserve b.reserve m a.is_reserve b.is_reserve in
    elim (cases_eq w v) as (λ _. w ≡ v) [
      | inl e ↦ e
      | inr ne ↦ elim (below-either w v ne) as (λ _. w ≡ v) [
        | inl low ↦ absurd (b.lowest w low (λ e. a.outside (same ∙ sym e)) a.free)
        | inr low ↦ absurd (a.lowest v low (λ e. b.outside (sym same ∙ sym e)) b.free)
      ]
    ]

fills-newest : (n r w v : ℕ) (erases : ℕ → ℕ) (m : List ℕ) → n ≡ v / 7 → FillsUp n r erases w m → v < slot_count m → slot_at m v ≡ Free → r ≢ v / 7 → w / 7 ≡ n
fills-newest n r w v erases m is h low free out = h.goes_on (record { other = λ e. out (sym e ∙ is); slot = v; number = low; block = sym is; free = free })

-- it is of a trusted block
pub trusted-next : (v : ℕ) (m : List ℕ) (slots : List SlotState) (blocks : List BlockState) (at new : Cursors) → (in_block blocks (v / 7)).suspect ≡ false → IsIndexOf slots blocks at m → new.policy ≡ at.policy → new.reserve ≡ at.reserve
    → (at.policy ≡ policies.Lowest → IsLowestFree v m) → (at.policy ≡ policies.Level → FillsUp at.newest at.reserve (erases_of blocks) v m) → (at.policy ≡ policies.Level → new.newest ≡ v / 7) → GivesTrusted new.policy new blocks m
trusted-next v m slots blocks at new trusted index same reserve low up newest = record {
  lowest = λ by w h. subst (λ a. (in_block blocks (a / 7)).suspect ≡ false) (lowest-one v w m (low (sym same ∙ by)) h) trusted;
  level = λ by w h.
      let p = sym same ∙ by in
      let f = up p in
      let q = newest p in
      let e : w / 7 ≡ new.newest = fills-newest new.newest new.reserve w v (erases_of blocks) m q h f.number f.free (λ x. f.outside (sym reserve ∙ x)) in
      subst (λ a. (in_block blocks a).suspect ≡ false) (sym (e ∙ q)) trusted;
}

-- or there is none
pub none-next : (m : List ℕ) (slots : List SlotState) (blocks : List BlockState) (at new : Cursors) → HasNoneFree at.reserve m → IsIndexOf slots blocks at m → new.policy ≡ at.policy → new.reserve ≡ at.reserve → GivesTrusted new.policy new blocks m
none-next m slots blocks at new none index same reserve = record {
  lowest = λ by w h. absurd (none w h.number (λ e. h.outside (reserve-one h.reserve at.reserve m h.is_reserve (index.highest (sym same ∙ by)) ∙ sym e)) h.free);
  level = λ by w h. absurd (none w h.number (λ e. h.outside (reserve ∙ sym e)) h.free);
}

-- The slot that is given next isn't in the reserve.
pub given-outside : (v : ℕ) (m : List ℕ) (slots : List SlotState) (blocks : List BlockState) (at : Cursors) → IsIndexOf slots blocks at m → (at.policy ≡ policies.Lowest → IsLowestFree v m) → (at.policy ≡ policies.Level → FillsUp at.newest at.reserve (erases_of blocks) v m) → v / 7 ≢ at.reserve
given-outside v m slots blocks at index low up e = from at.policy refl where
  from : (p : Policy) → at.policy ≡ p → ⊥
  from policies.Lowest by = (let h = low by in h.outside (reserve-one h.reserve at.reserve m h.is_reserve (index.highest by) ∙ sym e))
  from policies.Level by = (up by).outside (sym e)

-- Where its block is wholly free, the first slot of the reserve could be given, too.
pub reserve-givable : (v r : ℕ) (m : List ℕ) (slots : List SlotState) (blocks : List BlockState) (at : Cursors) → AreAtRest (kind_at m) (data_blocks m) → IsIndexOf slots blocks at m → r ≡ at.reserve → v / 7 < length blocks → IsWholeBlock (in_block blocks (v / 7))
    → (at.policy ≡ policies.Lowest → IsLowestFree v m) → (at.policy ≡ policies.Level → FillsUp at.newest at.reserve (erases_of blocks) v m) → IsGivable (7 * r) m
reserve-givable v r m slots blocks at rest index is inside whole low up =
    let n = index.listed.block_size in
    let number = index.reserve.number in
    let low' : r < data_blocks m = omega (arith, number, is) in
    let here : 7 * r / 7 ≡ r = omega arith in
    record {
      number = omega (arith, low');
      free = (let z : 7 * r + 0 ≡ 7 * r = omega arith in ap (λ q. slot_at m q) (sym z)) ∙ (rest-slot m r 0 rest low' (omega arith) ∙ (ap (λ q. raw_slot m q 0) is ∙ index.reserve.spare.free 0 (omega arith)));
      reserve = v / 7;
      is_spare = record { number = omega (arith, inside, n); spare = whole-spare m slots blocks (v / 7) rest index.listed (omega (arith, inside, n)) whole };
      apart = λ e. given-outside v m slots blocks at index low up (e ∙ (here ∙ is));
    }

-- Where the block is wholly free, and so the reserve is trusted.
pub reserve-trusted : (v : ℕ) (m : List ℕ) (slots : List SlotState) (blocks : List BlockState) (at new : Cursors) → (IsWholeBlock (in_block blocks (v / 7)) → (in_block blocks new.reserve).suspect ≡ false) → IsIndexOf slots blocks at m → new.policy ≡ at.policy → new.reserve ≡ at.reserve
    → (at.policy ≡ policies.Lowest → IsLowestFree v m) → (at.policy ≡ policies.Level → FillsUp at.newest at.reserve (erases_of blocks) v m) → (at.policy ≡ policies.Level → new.newest ≡ v / 7) → TrustsReserve new.policy new blocks m
reserve-trusted v m slots blocks at new trusted index same reserve low up newest = record {
  lowest = λ by w h whole. trusted (subst (λ a. IsWholeBlock (in_block blocks (a / 7))) (sym (lowest-one v w m (low (sym same ∙ by)) h)) whole);
  level = λ by w h whole.
      let p = sym same ∙ by in
      let f = up p in
      let q = newest p in
      let e : w / 7 ≡ new.newest = fills-newest new.newest new.reserve w v (erases_of blocks) m q h f.number f.free (λ x. f.outside (sym reserve ∙ x)) in
      trusted (subst (λ a. IsWholeBlock (in_block blocks a)) (e ∙ q) whole);
}

pub reserve-none : (m : List ℕ) (slots : List SlotState) (blocks : List BlockState) (at new : Cursors) → HasNoneFree at.reserve m → IsIndexOf slots blocks at m → new.policy ≡ at.policy → new.reserve ≡ at.reserve → TrustsReserve new.policy new blocks m
reserve-none m slots blocks at new none index same reserve = record {
  lowest = λ by w h whole. absurd (none w h.number (λ e. h.outside (reserve-one h.reserve at.reserve m h.is_reserve (index.highest (sym same ∙ by)) ∙ sym e)) h.free);
  level = λ by w h whole. absurd (none w h.number (λ e. h.outside (reserve ∙ sym e)) h.free);
}
