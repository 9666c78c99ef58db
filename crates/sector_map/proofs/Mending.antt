-- The steps by which a mount mends the blocks.
use Rattle.std.proofs.Common.{◌≡◌, ◌≢◌, ℕ, suc, ◌+◌, ◌-◌, ◌*◌, ◌<◌, ◌≤◌, ◌⊎◌, Bool, true, false, List, length, refl, sym, ap, ◌∙◌, subst, arith, inl, inr}
use Rattle.std.specs.Prelude.{◌/◌, ◌%◌}
use Rattle.std.proofs.lemmas.Bool.{cases_eq}
use Rattle.chip_model.specs.Geometry.{block_count}
use Rattle.nor_driver.specs.State.{NorState}
use Rattle.erase_journal.specs.Steps.{RefusesFirmly}
use Rattle.nor_driver.specs.declared.error.NorError.{NorError}
use Rattle.nor_layout.specs.declared.header.Tag.{Tag}
use Rattle.nor_layout.specs.declared.kind.Kind.{Kind}
use Rattle.nor_layout.specs.declared.kind.Kind.TheVariants as kinds
use Rattle.nor_layout.specs.Headers.{next_generation}
use Rattle.erase_journal.specs.Blocks.{SameChip, SameBlocks, OnlyBlock, WithErased}
use Rattle.erase_journal.specs.Journals.{IsHealthy}
use Rattle.erase_journal.specs.Steps.{SucceedsSettled, EraseInterrupted, as_it_was, block_erased}
use Rattle.erase_journal.proofs.SettledLaws.{settled-healthy, settled-after}
use Rattle.erase_journal.proofs.Firmly.{refuses-firmly}
use Rattle.sector_slots.specs.Slots.{Slot, counted, is_group, data_blocks, data_block, kind_at, raw_slot, slot_at, slot_count, IsClean}
use Rattle.sector_slots.specs.Blocks.{IsAtRest, AreAtRest, AreSettled, HasGroupRoom, dead_group, two_blocks}
use Rattle.sector_slots.specs.Sectors.{HoldsSectors, IsSoundMap, sector_at}
use Rattle.sector_slots.specs.Copying.{SameLive, RetiresGroup, ErasesGroup}
use Rattle.sector_slots.specs.Machine.{retires_group, erases_group}
use Rattle.sector_slots.specs.Laws.{IsMarked}
use Rattle.sector_slots.specs.Steps.{IsErasable}
use Rattle.sector_slots.proofs.StepLaws.{chip-after}
use Rattle.sector_slots.proofs.MachineLaws.{block-data, step-holds}
use Rattle.sector_slots.proofs.SaidLaws.{retire_group-clean, erase_group-clean}
use Rattle.sector_slots.proofs.RetireLaws.{retire_group-settled, erase_group-settled, erase_group-live, memory-sees}
use Rattle.sector_slots.proofs.BlankLaws.{sound-holds, holds-sound, blocks-holds, erased-spare}
use Rattle.sector_slots.proofs.GroupLaws.{dead-slot}
use Rattle.sector_slots.proofs.SectorLaws.{kind_in}
use Rattle.sector_slots.proofs.SlotLaws.{counted-raw}
use Rattle.sector_slots.proofs.MixLaws.{marks-keep}
use Rattle.sector_stock.specs.Copy.{EndsCopy, KeepsSectors}
use Rattle.sector_map.specs.Found.{FoundIn, RoomSeen, leaves_room}
use Rattle.sector_map.specs.Table.{IsTabled, Mends}
use Rattle.sector_map.specs.Mending.{IsGroupPair, PairsSeen, PairsAreSlots, HasDeadGroup, IsOlderGroup, EndsFound, RetiresOlder, RetiresEach, MakesRoom, MendsBlocks}
use Rattle.sector_map.specs.declared.found.Found.{Found}
use Rattle.sector_map.specs.declared.found.Found.TheVariants.{AtRest, Void, Committed}
use Rattle.sector_map.specs.declared.table.LiveSlots.{LiveSlots}
use Rattle.sector_map.proofs.Grouping.{of-group, older-of, has-newer, none-room, pair-held, group-number}
use Rattle.sector_map.proofs.Mounting.{live-tabled}
use Rattle.sector_map.proofs.Restoring.{blocks-clean}
use Rattle.sector_map.proofs.Retiring.{two-apart}
use Rattle.sector_map.proofs.Places.{settled-at}

-- one step after another
pub mends-none : (m : List ℕ) → Mends m m
mends-none m = record { chip = record { same_length = refl; superblock = λ k low. refl }; sectors = λ s h. h; clean = λ c. c }

pub mends-after : (a b c : List ℕ) → Mends a b → Mends b c → Mends a c
mends-after a b c p q = record { chip = chip-after a b c p.chip q.chip; sectors = λ s h. q.sectors s (p.sectors s h); clean = λ h. q.clean (p.clean h) }

pub mends-same : (a b : List ℕ) → b ≡ a → Mends a b
mends-same a b e = subst (λ z. Mends a z) (sym e) (mends-none a)

pub mends-sound : (a b : List ℕ) → Mends a b → IsSoundMap a → IsSoundMap b
mends-sound a b h sound = holds-sound b (sector_at a) (h.sectors (sector_at a) (sound-holds a sound))

pub kept-mends : (a b : List ℕ) → KeepsSectors a b → Mends a b
kept-mends a b k = record { chip = k.chip; sectors = k.sectors; clean = k.clean }

pub ends-mends : (a b : List ℕ) → EndsCopy a b → Mends a b
ends-mends a b e = record { chip = e.whole.chip; sectors = e.whole.sectors; clean = e.whole.clean }

blocks-mend : (a b : List ℕ) → SameBlocks a b → Mends a b
blocks-mend a b s = record { chip = s.chip; sectors = λ sectors h. blocks-holds a b sectors s h; clean = blocks-clean a b s }

-- a block that didn't change
same-marked : (c : ℕ) (a b : List ℕ) → OnlyBlock (c + 4) a b → data_block b c ≡ data_block a c → IsMarked a b
same-marked c a b only here = record {
  same_length = only.chip.same_length;
  layout = only.chip.superblock 8 (omega arith);
  each = λ d low. elim (cases_eq d c) as (λ _. data_block b d ≡ data_block a d) [
    | inl e ↦ ap (λ z. data_block b z) e ∙ (here ∙ ap (λ z. data_block a z) (sym e))
    | inr ne ↦ only.others (d + 4) (omega arith) (omega (arith, low)) (λ e. ne (omega (arith, e)))
  ];
}

perhaps-settled : (a b c : NorState) → (b ≡ a) ⊎ SucceedsSettled a b → SucceedsSettled b c → SucceedsSettled a c
perhaps-settled a b c (inl e) s = subst (λ z. SucceedsSettled z c) e s
perhaps-settled a b c (inr t) s = settled-after a b c t s

-- The retirement of an older block of a group.
step-of : (table : List LiveSlots) (a b c : List ℕ) (k d : ℕ) (tag : Tag) → k < data_blocks b → d < data_blocks b → k ≢ d → AreAtRest (kind_at b) (data_blocks b) → kind_at b k ≡ kinds.Group tag → kind_at b d ≡ kinds.Group (record { number = tag.number; generation = next_generation tag.generation })
    → OnlyBlock (k + 4) b c → kind_at c k ≡ kinds.DeadGroup → RetiresGroup k d (data_blocks b) (kind_at b) (kind_at c) (raw_slot b) (raw_slot c)
step-of table a b c k d tag low number other rest was by only now = record {
  rest = rest;
  number = low;
  newer = number;
  other = other;
  group = tag.number;
  generation = tag.generation;
  was = was;
  by = by;
  only = block-data k b c only;
  now = now;
}

retired-mends : (b c : List ℕ) (k d : ℕ) (tag : Tag) → kind_at b k ≡ kinds.Group tag → OnlyBlock (k + 4) b c → RetiresGroup k d (data_blocks b) (kind_at b) (kind_at c) (raw_slot b) (raw_slot c) → Mends b c
retired-mends b c k d tag was only h = record {
  chip = only.chip;
  sectors = λ sectors holds. step-holds k d b c sectors (retires_group only.chip h) holds;
  clean = retire_group-clean k b c tag only was h.now;
}

-- What the loop keeps.
pub record Retiring (table : List LiveSlots) (k : ℕ) (a b : NorState) : Type 0 where
  pub since : (b ≡ a) ⊎ SucceedsSettled a b
  pub mends : Mends a.memory b.memory
  pub each : (d : ℕ) → d < data_blocks a.memory → (kind_at b.memory d ≡ kind_at a.memory d) ⊎ ((kind_at b.memory d ≡ kinds.DeadGroup) × IsOlderGroup table d (kind_at a.memory d))
  pub done : (d : ℕ) → d < data_blocks a.memory → d < k → IsOlderGroup table d (kind_at a.memory d) → kind_at b.memory d ≡ kinds.DeadGroup
  pub later : (d : ℕ) → d < data_blocks a.memory → k ≤ d → kind_at b.memory d ≡ kind_at a.memory d
  pub settled : AreSettled a.memory → AreSettled b.memory

pub retiring-none : (table : List LiveSlots) (a : NorState) → Retiring table 0 a a
retiring-none table a = record { since = inl refl; mends = mends-none a.memory; each = λ d low. inl refl; done = λ d low none. absurd (omega (arith, none)); later = λ d low high. refl; settled = λ s. s }

dead-rest : (k : Kind) → k ≡ kinds.DeadGroup → IsAtRest k
dead-rest k e = subst (λ z. IsAtRest z) (sym e) tt

pub retiring-rest : (table : List LiveSlots) (k : ℕ) (a b : NorState) → Retiring table k a b → AreAtRest (kind_at a.memory) (data_blocks a.memory) → AreAtRest (kind_at b.memory) (data_blocks b.memory)
retiring-rest table k a b r rest d high =
    let n = r.mends.chip.same_length in
    let low : d < data_blocks a.memory = omega (arith, high, n) in
    elim (r.each d low) as (λ _. IsAtRest (kind_at b.memory d)) [ inl e ↦ subst (λ z. IsAtRest z) (sym e) (rest d low) | inr p ↦ dead-rest (kind_at b.memory d) p.0 ]

-- one more block, which isn't an older one
pub retiring-quiet : (table : List LiveSlots) (k next : ℕ) (a b c : NorState) → next ≡ suc k → c.memory ≡ b.memory → SucceedsSettled b c → k < data_blocks a.memory → (IsOlderGroup table k (kind_at b.memory k) → ⊥) → Retiring table k a b → Retiring table next a c
retiring-quiet table k next a b c e same s low none r = subst (λ z. Retiring table z a c) (sym e) (record {
  since = inr (perhaps-settled a b c r.since s);
  mends = mends-after a.memory b.memory c.memory r.mends (mends-same b.memory c.memory same);
  each = λ d within. subst (λ z. (kind_at z d ≡ kind_at a.memory d) ⊎ ((kind_at z d ≡ kinds.DeadGroup) × IsOlderGroup table d (kind_at a.memory d))) (sym same) (r.each d within);
  done = λ d within below o. elim (cases_eq d k) as (λ _. kind_at c.memory d ≡ kinds.DeadGroup) [
    | inl q ↦ absurd (none (subst (λ z. IsOlderGroup table k z) (sym (r.later k low (omega arith))) (subst (λ z. IsOlderGroup table z (kind_at a.memory z)) q o)))
    | inr ne ↦ ap (λ z. kind_at z d) same ∙ r.done d within (omega (arith, below, ne)) o
  ];
  later = λ d within high. ap (λ z. kind_at z d) same ∙ r.later d within (omega (arith, high));
  settled = λ h. subst (λ z. AreSettled z) (sym same) (r.settled h);
})

-- what is known of an older block before it is retired
record Older (table : List LiveSlots) (k : ℕ) (a b : NorState) : Type 0 where
  tag : Tag
  block : ℕ
  low : k < data_blocks b.memory
  number : block < data_blocks b.memory
  other : k ≢ block
  was : kind_at b.memory k ≡ kinds.Group tag
  by : kind_at b.memory block ≡ kinds.Group (record { number = tag.number; generation = next_generation tag.generation })
  rest : AreAtRest (kind_at b.memory) (data_blocks b.memory)
  old : IsOlderGroup table k (kind_at a.memory k)

older-at : (table : List LiveSlots) (k : ℕ) (a b : NorState) → IsTabled table (slot_at a.memory) (slot_count a.memory) → AreAtRest (kind_at a.memory) (data_blocks a.memory) → IsSoundMap a.memory → k < data_blocks a.memory → IsOlderGroup table k (kind_at b.memory k) → Retiring table k a b
    → Older table k a b
older-at table k a b t rest sound low o r =
    let here = r.later k low (omega arith) in
    let old : IsOlderGroup table k (kind_at a.memory k) = subst (λ z. IsOlderGroup table k z) here o in
    let n = has-newer table a.memory k t rest sound.groups.sectors low old in
    let size = r.mends.chip.same_length in
    let within = n.number in
    record {
      tag = old.tag;
      block = n.block;
      low = omega (arith, low, size);
      number = omega (arith, within, size);
      other = n.other;
      was = here ∙ old.live;
      by = elim (r.each n.block n.number) as (λ _. kind_at b.memory n.block ≡ kinds.Group (record { number = old.tag.number; generation = next_generation old.tag.generation })) [ inl e ↦ e ∙ n.by | inr p ↦ absurd (n.newest p.1) ];
      rest = retiring-rest table k a b r rest;
      old = old;
    }

-- after the kind was read
pub retiring-still : (table : List LiveSlots) (k : ℕ) (a b c : NorState) → c.memory ≡ b.memory → SucceedsSettled b c → Retiring table k a b → Retiring table k a c
retiring-still table k a b c same s r = record {
  since = inr (perhaps-settled a b c r.since s);
  mends = mends-after a.memory b.memory c.memory r.mends (mends-same b.memory c.memory same);
  each = λ d within. subst (λ z. (kind_at z d ≡ kind_at a.memory d) ⊎ ((kind_at z d ≡ kinds.DeadGroup) × IsOlderGroup table d (kind_at a.memory d))) (sym same) (r.each d within);
  done = λ d within below o. ap (λ z. kind_at z d) same ∙ r.done d within below o;
  later = λ d within high. ap (λ z. kind_at z d) same ∙ r.later d within high;
  settled = λ h. subst (λ z. AreSettled z) (sym same) (r.settled h);
}

pub retiring-more : (table : List LiveSlots) (k next : ℕ) (a b0 b c : NorState) → next ≡ suc k → b.memory ≡ b0.memory → SucceedsSettled b0 b → IsTabled table (slot_at a.memory) (slot_count a.memory) → AreAtRest (kind_at a.memory) (data_blocks a.memory) → IsSoundMap a.memory
    → k < data_blocks a.memory → IsOlderGroup table k (kind_at b0.memory k) → ((group : Tag) → kind_at b.memory k ≡ kinds.Group group → kind_at c.memory k ≡ kinds.DeadGroup) → OnlyBlock (k + 4) b.memory c.memory → SucceedsSettled b c → Retiring table k a b0 → Retiring table next a c
retiring-more table k next a b0 b c e same s0 t rest sound low o now' only s r0 =
    let r = retiring-still table k a b0 b same s0 r0 in
    let h = older-at table k a b t rest sound low (subst (λ z. IsOlderGroup table k (kind_at z k)) (sym same) o) r in
    let now = now' h.tag h.was in
    let step = step-of table a.memory b.memory c.memory k h.block h.tag h.low h.number h.other h.rest h.was h.by only now in
    let others = block-data k b.memory c.memory only in
    let size = r.mends.chip.same_length in
    subst (λ z. Retiring table z a c) (sym e) (record {
      since = inr (perhaps-settled a b c r.since s);
      mends = mends-after a.memory b.memory c.memory r.mends (retired-mends b.memory c.memory k h.block h.tag h.was only step);
      each = λ d within. elim (cases_eq d k) as (λ _. (kind_at c.memory d ≡ kind_at a.memory d) ⊎ ((kind_at c.memory d ≡ kinds.DeadGroup) × IsOlderGroup table d (kind_at a.memory d))) [
        | inl q ↦ inr (ap (λ z. kind_at c.memory z) q ∙ now, subst (λ z. IsOlderGroup table z (kind_at a.memory z)) (sym q) h.old)
        | inr ne ↦ subst (λ z. (z ≡ kind_at a.memory d) ⊎ ((z ≡ kinds.DeadGroup) × IsOlderGroup table d (kind_at a.memory d))) (sym (others.same_kind d (omega (arith, within, size)) ne)) (r.each d within)
      ];
      done = λ d within below p. elim (cases_eq d k) as (λ _. kind_at c.memory d ≡ kinds.DeadGroup) [
        | inl q ↦ ap (λ z. kind_at c.memory z) q ∙ now
        | inr ne ↦ others.same_kind d (omega (arith, within, size)) ne ∙ r.done d within (omega (arith, below, ne)) p
      ];
      later = λ d within high. others.same_kind d (omega (arith, within, size)) (λ q. omega (arith, high, q)) ∙ r.later d within (omega (arith, high));
      settled = λ w. settled-at b.memory c.memory only.chip (retire_group-settled k h.block (data_blocks b.memory) (kind_at b.memory) (kind_at c.memory) (raw_slot b.memory) (raw_slot c.memory) step (r.settled w));
    })

-- a retirement that was cut
pub retiring-cut : (table : List LiveSlots) (k : ℕ) (a b0 b c : NorState) → b.memory ≡ b0.memory → SucceedsSettled b0 b → IsTabled table (slot_at a.memory) (slot_count a.memory) → AreAtRest (kind_at a.memory) (data_blocks a.memory) → IsSoundMap a.memory → k < data_blocks a.memory
    → IsOlderGroup table k (kind_at b0.memory k) → ((group : Tag) → kind_at b.memory k ≡ kinds.Group group → (data_block c.memory k ≡ data_block b.memory k) ⊎ (kind_at c.memory k ≡ kinds.DeadGroup)) → OnlyBlock (k + 4) b.memory c.memory → Retiring table k a b0 → Mends a.memory c.memory
retiring-cut table k a b0 b c same s0 t rest sound low o left only r0 =
    let r = retiring-still table k a b0 b same s0 r0 in
    let h = older-at table k a b t rest sound low (subst (λ z. IsOlderGroup table k (kind_at z k)) (sym same) o) r in
    elim (left h.tag h.was) as (λ _. Mends a.memory c.memory) [
      | inl e ↦ (let q = marks-keep b.memory c.memory (same-marked k b.memory c.memory only e) in mends-after a.memory b.memory c.memory r.mends (record { chip = only.chip; sectors = q.0; clean = q.1 }))
      | inr now ↦
          let step = step-of table a.memory b.memory c.memory k h.block h.tag h.low h.number h.other h.rest h.was h.by only now in
          mends-after a.memory b.memory c.memory r.mends (retired-mends b.memory c.memory k h.block h.tag h.was only step)
    ]

each-dead : (x y : Kind) (P : Type 0) → (x ≡ y) ⊎ ((x ≡ kinds.DeadGroup) × P) → (x ≡ y) ⊎ (x ≡ kinds.DeadGroup)
each-dead x y P (inl e) = inl e
each-dead x y P (inr p) = inr p.0

pub retired-each : (table : List LiveSlots) (k : ℕ) (a b : NorState) → k ≡ data_blocks a.memory → Retiring table k a b → RetiresEach table a.memory b.memory
retired-each table k a b e r = record {
  mends = r.mends;
  each = λ d low. each-dead (kind_at b.memory d) (kind_at a.memory d) (IsOlderGroup table d (kind_at a.memory d)) (r.each d low);
  older = λ d low o. r.done d low (omega (arith, low, e)) o;
  settled = r.settled;
}

pub each-rest : (table : List LiveSlots) (a b : List ℕ) → RetiresEach table a b → AreAtRest (kind_at a) (data_blocks a) → AreAtRest (kind_at b) (data_blocks b)
each-rest table a b r rest d high =
    let n = r.mends.chip.same_length in
    let low : d < data_blocks a = omega (arith, high, n) in
    elim (r.each d low) as (λ _. IsAtRest (kind_at b d)) [ inl e ↦ subst (λ z. IsAtRest z) (sym e) (rest d low) | inr p ↦ dead-rest (kind_at b d) p ]

dead-live : (k : Kind) (tag : Tag) → k ≡ kinds.DeadGroup → k ≡ kinds.Group tag → ⊥
dead-live k tag d l = let e : kinds.DeadGroup ≡ kinds.Group tag = sym d ∙ l in cc

each-was : (table : List LiveSlots) (a b : List ℕ) (d : ℕ) (tag : Tag) → RetiresEach table a b → d < data_blocks a → kind_at b d ≡ kinds.Group tag → kind_at a d ≡ kinds.Group tag
each-was table a b d tag r low l = elim (r.each d low) as (λ _. kind_at a d ≡ kinds.Group tag) [ inl e ↦ sym e ∙ l | inr p ↦ absurd (dead-live (kind_at b d) tag p l) ]

-- no two blocks are live with one group then
pub each-pairs : (table new : List LiveSlots) (a b : List ℕ) → RetiresEach table a b → IsTabled table (slot_at a) (slot_count a) → AreAtRest (kind_at a) (data_blocks a) → IsSoundMap b → IsTabled new (slot_at b) (slot_count b) → PairsAreSlots new b
each-pairs table new a b r t rest sound now g p =
    let h = pair-held new b g p.newer p.older now p.number p.entry in
    let there : is_group (kind_at b (p.newer.slot / 7)) ≡ true = sound.groups.sectors.apart p.newer.slot p.older.slot g p.newer.generation p.older.generation h.newer_live.0 h.older_live.0 h.newer_live.1 h.older_live.1 ∙ p.group in
    let y = of-group b p.older.slot g p.older.generation h.older_live.0 h.older_live.1 p.group in
    let x = of-group b p.newer.slot g p.newer.generation h.newer_live.0 h.newer_live.1 there in
    let nx = x.number in
    let ny = y.number in
    let number : x.tag.number ≡ y.tag.number = omega (arith, nx, ny) in
    let size = r.mends.chip.same_length in
    let lx = h.newer_live.1.number in
    let ly = h.older_live.1.number in
    let c = p.newer.slot / 7 in
    let d = p.older.slot / 7 in
    let lc : c < data_blocks a = omega (arith, lx, size) in
    let ld : d < data_blocks a = omega (arith, ly, size) in
    let ne : c ≢ d = λ e. two-apart p.newer p.older (slot_at b) (slot_count b) g h (omega (arith, e, nx, ny, number)) in
    elim (older-of table a c d x.tag y.tag t rest lc ld ne (each-was table a b c x.tag r lc x.kind) (each-was table a b d y.tag r ld y.kind) number) [
      | inl o ↦ dead-live (kind_at b c) x.tag (r.older c lc o) x.kind
      | inr o ↦ dead-live (kind_at b d) y.tag (r.older d ld o) y.kind
    ]

each-stays : (table : List LiveSlots) (a b : List ℕ) (d : ℕ) → RetiresEach table a b → d < data_blocks a → kind_at a d ≡ kinds.DeadGroup → kind_at b d ≡ kinds.DeadGroup
each-stays table a b d r low e = elim (r.each d low) as (λ _. kind_at b d ≡ kinds.DeadGroup) [ inl q ↦ q ∙ e | inr p ↦ p ]

each-dead_group : (a b : List ℕ) (d : ℕ) → SameChip a b → d < data_blocks a → kind_at b d ≡ kinds.DeadGroup → HasDeadGroup b
each-dead_group a b d chip low e = let n = chip.same_length in (d, (omega (arith, low, n), e))

pub each-room : (table : List LiveSlots) (a b : List ℕ) → RetiresEach table a b → IsTabled table (slot_at a) (slot_count a) → AreAtRest (kind_at a) (data_blocks a) → HasGroupRoom (kind_at a) (data_blocks a) → HasDeadGroup b
each-room table a b r t rest (dead_group c low e) = each-dead_group a b c r.mends.chip low (each-stays table a b c r low e)
each-room table a b r t rest (two_blocks c d x y lc ld ne ex ey same) = elim (older-of table a c d x y t rest lc ld ne ex ey same) as (λ _. HasDeadGroup b) [
  | inl o ↦ each-dead_group a b c r.mends.chip lc (r.older c lc o)
  | inr o ↦ each-dead_group a b d r.mends.chip ld (r.older d ld o)
]

pub retires-older : (table new : List LiveSlots) (a b c : List ℕ) → RetiresEach table a b → IsTabled table (slot_at a) (slot_count a) → AreAtRest (kind_at a) (data_blocks a) → IsSoundMap a → c ≡ b → IsTabled new (slot_at b) (slot_count b) → RetiresOlder a new c
retires-older table new a b c r t rest sound same now = subst (λ z. RetiresOlder a new z) (sym same) (record {
  mends = r.mends;
  rest = each-rest table a b r rest;
  tabled = now;
  pairs = each-pairs table new a b r t rest (mends-sound a b r.mends sound) now;
  settled = r.settled;
  room = each-room table a b r t rest;
})

-- where there are none
pub retires-none : (table : List LiveSlots) (a b : List ℕ) → b ≡ a → IsTabled table (slot_at a) (slot_count a) → AreAtRest (kind_at a) (data_blocks a) → PairsSeen false table a → RetiresOlder a table b
retires-none table a b same t rest none = subst (λ z. RetiresOlder a table z) (sym same) (record {
  mends = mends-none a;
  rest = rest;
  tabled = t;
  pairs = none;
  settled = λ s. s;
  room = none-room table a t rest none;
})

-- The erase of a dead block of a group.
pub dead-erasable : (m : List ℕ) (c : ℕ) → kind_at m c ≡ kinds.DeadGroup → IsErasable c m
dead-erasable m c e = record {
  copy = λ b q. (let h : kinds.DeadGroup ≡ kinds.Committed b = sym e ∙ q in cc);
  dead = λ s tag x low block live.
      let raw = counted-raw m s (slot_at m s) refl (λ o. (let h : 1 ≡ 4 = ap kind_in (sym live ∙ o) in omega (arith, h))) in
      let dead = ap (λ a. raw_slot m a (s % 7)) block ∙ dead-slot (data_block m c) (s % 7) e in
      let h : 1 ≡ 3 = ap kind_in (sym live ∙ (sym raw ∙ dead)) in
      omega (arith, h);
}

erases-of : (m m' : List ℕ) (c : ℕ) → AreAtRest (kind_at m) (data_blocks m) → c < data_blocks m → kind_at m c ≡ kinds.DeadGroup → WithErased (c + 4) m m' → ErasesGroup c (data_blocks m) (kind_at m) (kind_at m') (raw_slot m) (raw_slot m')
erases-of m m' c rest low e w = record { rest = rest; number = low; was = e; only = block-data c m m' w.only; now = erased-spare m' c w.erased }

erased-mends : (m m' : List ℕ) (c : ℕ) → AreAtRest (kind_at m) (data_blocks m) → c < data_blocks m → kind_at m c ≡ kinds.DeadGroup → WithErased (c + 4) m m' → Mends m m'
erased-mends m m' c rest low e w = record {
  chip = w.only.chip;
  sectors = λ sectors h. step-holds c c m m' sectors (erases_group w.only.chip (erases-of m m' c rest low e w)) h;
  clean = erase_group-clean c m m' w e;
}

-- said of the memory after, with its own size
abbrev slots_sized : List ℕ → ℕ → ℕ → Slot
slots_sized m' n = counted (kind_at m') (raw_slot m') (block_count n - 4)

live-sized : (m m' : List ℕ) → SameChip m m' → SameLive (slot_at m) (slots_sized m' (length m)) (slot_count m) → SameLive (slot_at m) (slot_at m') (slot_count m)
live-sized m m' chip h = subst (λ n. SameLive (slot_at m) (slots_sized m' n) (slot_count m)) (sym chip.same_length) h

plain-slots : (k : Kind) → k ≡ kinds.Plain → is_group k ≡ false
plain-slots k e = ap is_group e

pub room-made : (m0 m m' : List ℕ) (c : ℕ) → m ≡ m0 → AreAtRest (kind_at m0) (data_blocks m0) → (c < data_blocks m0) × (kind_at m0 c ≡ kinds.DeadGroup) → WithErased (c + 4) m m' → MakesRoom m0 m'
room-made m0 m m' c same rest p w0 =
    let w : WithErased (c + 4) m0 m' = subst (λ z. WithErased (c + 4) z m') same w0 in
    let h = erases-of m0 m' c rest p.0 p.1 w in
    record {
      mends = erased-mends m0 m' c rest p.0 p.1 w;
      blocks = settled-at m0 m' w.only.chip (erase_group-settled c (data_blocks m0) (kind_at m0) (kind_at m') (raw_slot m0) (raw_slot m') h);
      live = live-sized m0 m' w.only.chip (erase_group-live c (data_blocks m0) (kind_at m0) (kind_at m') (raw_slot m0) (raw_slot m') (memory-sees m0) h);
      slots = λ d low q. elim (cases_eq d c) as (λ _. is_group (kind_at m' d) ≡ false) [
        | inl e ↦ plain-slots (kind_at m' d) (ap (λ z. kind_at m' z) e ∙ h.now.plain)
        | inr ne ↦ ap is_group (h.only.same_kind d low ne) ∙ q
      ];
    }

pub room-cut : (m0 m m' : List ℕ) (c : ℕ) → m ≡ m0 → AreAtRest (kind_at m0) (data_blocks m0) → (c < data_blocks m0) × (kind_at m0 c ≡ kinds.DeadGroup) → EraseInterrupted (c + 4) m m' → Mends m0 m'
room-cut m0 m m' c same rest p (as_it_was k) = subst (λ z. Mends z m') same (blocks-mend m m' k.blocks)
room-cut m0 m m' c same rest p (block_erased healthy w) = erased-mends m0 m' c rest p.0 p.1 (subst (λ z. WithErased (c + 4) z m') same w)

pub room-there : (m m' : List ℕ) → m' ≡ m → AreSettled m → MakesRoom m m'
room-there m m' same s = subst (λ z. MakesRoom m z) (sym same) (record { mends = mends-none m; blocks = s; live = λ s low. inl refl; slots = λ d low q. q })

-- A copying that was found was ended.
pub record Ended (found : Found) (spare : Bool) (table : List LiveSlots) (m m' : List ℕ) : Type 0 where
  pub mends : Mends m m'
  pub rest : AreAtRest (kind_at m') (data_blocks m')
  pub sound : IsSoundMap m'
  pub tabled : IsTabled table (slot_at m') (slot_count m')
  pub settled : leaves_room found spare ≡ true → AreSettled m'
  pub room : leaves_room found spare ≡ false → HasGroupRoom (kind_at m') (data_blocks m')

copy-ended : (found : Found) (spare : Bool) (table : List LiveSlots) (m m' : List ℕ) → EndsCopy m m' → IsSoundMap m → IsTabled table (slot_at m) (slot_count m) → leaves_room found spare ≡ true → Ended found spare table m m'
copy-ended found spare table m m' e sound t roomy = record {
  mends = ends-mends m m' e;
  rest = e.whole.blocks.rest;
  sound = mends-sound m m' (ends-mends m m' e) sound;
  tabled = live-tabled table m m' e.whole.chip.same_length e.live t;
  settled = λ q. e.whole.blocks;
  room = λ q. absurd (let h : true ≡ false = sym roomy ∙ q in cc);
}

room-rest : (spare : Bool) (table : List LiveSlots) (m : List ℕ) → FoundIn AtRest m → RoomSeen AtRest spare m → IsSoundMap m → IsTabled table (slot_at m) (slot_count m) → Ended AtRest spare table m m
room-rest true table m f room sound t = record { mends = mends-none m; rest = f.rest; sound = sound; tabled = t; settled = λ q. room; room = λ q. absurd (let h : true ≡ false = q in cc) }
room-rest false table m f room sound t = record { mends = mends-none m; rest = f.rest; sound = sound; tabled = t; settled = λ q. absurd (let h : false ≡ true = q in cc); room = λ q. room }

pub ended : (found : Found) (spare : Bool) (table : List LiveSlots) (m m' : List ℕ) → EndsFound found m m' → FoundIn found m → RoomSeen found spare m → IsSoundMap m → IsTabled table (slot_at m) (slot_count m) → Ended found spare table m m'
ended AtRest spare table m m' e f room sound t = subst (λ z. Ended AtRest spare table m z) (sym e) (room-rest spare table m f room sound t)
ended (Void k) spare table m m' e f room sound t = copy-ended (Void k) spare table m m' e sound t refl
ended (Committed s k) spare table m m' e f room sound t = copy-ended (Committed s k) spare table m m' e sound t refl

pub ended-dead : (b : Bool) (found : Found) (spare : Bool) (table : List LiveSlots) (m m' : List ℕ) → b ≡ leaves_room found spare → b ≢ true → Ended found spare table m m' → HasGroupRoom (kind_at m') (data_blocks m')
ended-dead true found spare table m m' e ne h = absurd (ne refl)
ended-dead false found spare table m m' e ne h = h.room (sym e)

bool-either : (b : Bool) → (b ≡ true) ⊎ (b ≡ false)
bool-either true = inl refl
bool-either false = inr refl

pairs-kept : (new : List LiveSlots) (b c d : List ℕ) (g : ℕ) → RetiresOlder b new c → MakesRoom c d → IsGroupPair new d g → ⊥
pairs-kept new b c d g q r x =
    let h = pair-held new c g x.newer x.older q.tabled x.number x.entry in
    let low = h.older_live.1.number in
    elim (bool-either (is_group (kind_at c (x.older.slot / 7)))) [
      | inl e ↦ q.pairs g (record { number = x.number; newer = x.newer; older = x.older; entry = x.entry; group = e })
      | inr e ↦ (let f : true ≡ false = sym x.group ∙ r.slots (x.older.slot / 7) (omega (arith, low)) e in cc)
    ]

-- all of it
pub mends-blocks : (found : Found) (spare : Bool) (table new : List LiveSlots) (a b c d : List ℕ) → Ended found spare table a b → RetiresOlder b new c → MakesRoom c d → MendsBlocks a new d
mends-blocks found spare table new a b c d p q r =
    let n = r.mends.chip.same_length in
    record {
      mends = mends-after a c d (mends-after a b c p.mends q.mends) r.mends;
      blocks = r.blocks;
      tabled = live-tabled new c d n r.live q.tabled;
      pairs = λ g x. pairs-kept new b c d g q r x;
    }

-- what the loop's calls ask, and what stands after one that failed
pub retiring-healthy : (table : List LiveSlots) (k : ℕ) (a b : NorState) → Retiring table k a b → IsHealthy a.memory → IsHealthy b.memory
retiring-healthy table k a b r h = elim r.since as (λ _. IsHealthy b.memory) [ inl e ↦ subst (λ z. IsHealthy z.memory) (sym e) h | inr s ↦ settled-healthy b.memory s.settled ]

pub retiring-number : (table : List LiveSlots) (k : ℕ) (a b : NorState) (kind : Kind) (tag : Tag) → IsTabled table (slot_at a.memory) (slot_count a.memory) → AreAtRest (kind_at a.memory) (data_blocks a.memory) → k < data_blocks a.memory → kind ≡ kind_at b.memory k → kind ≡ kinds.Group tag → Retiring table k a b → 7 * tag.number < length table
retiring-number table k a b kind tag t rest low is e r = group-number table a.memory k tag t rest low (sym (r.later k low (omega arith)) ∙ (sym is ∙ e))

pub retiring-refuses : (table : List LiveSlots) (k : ℕ) (e : NorError) (a b c : NorState) → Retiring table k a b → RefusesFirmly e b c → RefusesFirmly e a c
retiring-refuses table k e a b c r f = elim r.since as (λ _. RefusesFirmly e a c) [ inl q ↦ subst (λ z. RefusesFirmly e z c) q f | inr s ↦ refuses-firmly e a b c s f ]

pub rest-found : (m : List ℕ) → AreAtRest (kind_at m) (data_blocks m) → FoundIn AtRest m
rest-found m rest = record { rest = rest }

pub each-sound : (table : List LiveSlots) (a b : List ℕ) → RetiresEach table a b → IsSoundMap a → IsSoundMap b
each-sound table a b r sound = mends-sound a b r.mends sound

pub mends-of : (a b : List ℕ) → SameChip a b → ((sectors : ℕ → List ℕ) → HoldsSectors sectors a → HoldsSectors sectors b) → (IsClean a → IsClean b) → Mends a b
mends-of a b chip sectors clean = record { chip = chip; sectors = sectors; clean = clean }
