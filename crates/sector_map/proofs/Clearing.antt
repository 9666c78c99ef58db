-- A sector that is cleared: its slot is retired, and no slot holds it.
use Rattle.std.proofs.Common.{◌≡◌, ◌≢◌, ℕ, ◌-◌, ◌*◌, ◌<◌, ◌⊎◌, Bool, true, List, length, refl, sym, ap, ◌∙◌, subst, arith, inl, inr}
use Rattle.std.specs.Prelude.{Option, Some, None, slice_index_or}
use Rattle.std.proofs.lemmas.Bool.{cases_eq}
use Rattle.chip_model.specs.Geometry.{sector_count, block_count}
use Rattle.nor_layout.specs.declared.header.Generation.{Generation}
use Rattle.nor_layout.specs.declared.header.Tag.{Tag}
use Rattle.nor_driver.specs.State.{NorState}
use Rattle.erase_journal.specs.Blocks.{SameChip}
use Rattle.nor_driver.proofs.CallLaws.{ready-after}
use Rattle.erase_journal.specs.Journals.{IsHealthy}
use Rattle.erase_journal.specs.Steps.{SucceedsSettled}
use Rattle.sector_slots.specs.Slots.{Dead, slot_at, slot_count, IsClean}
use Rattle.sector_slots.specs.Blocks.{AreSettled}
use Rattle.sector_slots.proofs.ClearLaws.{cleared-absent, clear-stands}
use Rattle.sector_slots.proofs.MoveLaws.{live-stands}
use Rattle.sector_slots.proofs.AloneLaws.{place-alone}
use Rattle.sector_slots.proofs.BlankLaws.{holds-sound, sound-holds}
use Rattle.sector_slots.proofs.PlaceLaws.{later, later-is, place-others, place-holds, place-fit, retired-sub}
use Rattle.sector_slots.proofs.SectorLaws.{moved-back, dead-without, other-without}
use Rattle.sector_slots.specs.Sectors.{zeros, LiveAt, absent, IsAbsent, sector_at, with_sector, IsSingle, IsSoundMap, HoldsSectors, HasSlotsAlone}
use Rattle.sector_slots.specs.Steps.{IsRetirable, OnlyPlace}
use Rattle.erase_journal.proofs.SettledLaws.{settled-healthy}
use Rattle.sector_slots.proofs.WinnerLaws.{sector-one, sector-content-is}
use Rattle.sector_map.specs.Maps.{Sets, SetLeaves, IsServing, Wrote}
use Rattle.sector_map.specs.Replace.{HeldBy, IsInSlots}
use Rattle.sector_map.specs.Table.{IsTableOf, IsOneAtMost, Unset, holder}
use Rattle.sector_map.specs.declared.table.Held.{Held}
use Rattle.sector_map.specs.declared.table.LiveSlots.{LiveSlots}
use Rattle.sector_map.specs.declared.table.LiveSlots.TheVariants.{Absent}
use Rattle.sector_map.proofs.Places.{others-kept, slot-only, placed-settled, live-placed, holds-computed}
use Rattle.sector_map.proofs.Replacing.{held-step, single-at, not-dead}
use Rattle.sector_map.proofs.MapSteps.{named-table}
use Rattle.sector_map.proofs.MapCalls.{on-chip, keeps-holds, keeps-none, with-there, with-other}
use Rattle.sector_map.proofs.Retiring.{single-tabled, table-holder}

-- what the retirement of a sector's slot leaves
pub record Cleared (g : ℕ) (m m' : List ℕ) : Type 0 where
  pub chip : SameChip m m'
  pub sectors : HoldsSectors (with_sector (sector_at m) g zeros) m'
  pub alone : HasSlotsAlone m → HasSlotsAlone m'
  pub single : IsSingle m'
  pub blocks : AreSettled m'
  pub gone : HeldBy None g m'
  pub others : (h : ℕ) (q : Option Held) → h ≢ g → HeldBy q h m → HeldBy q h m'

pub cleared : (g : ℕ) (o : Held) (m m' : List ℕ) → OnlyPlace o.slot m m' → slot_at m' o.slot ≡ Dead → IsSoundMap m → IsSingle m → AreSettled m → HeldBy (Some o) g m → Cleared g m m'
cleared g o m m' only dead sound single blocks (y, l) =
    let w = o.slot in
    let tag : Tag = record { number = g; generation = o.generation } in
    let chip = only.only.chip in
    let place = live-placed w tag y m blocks l.number l.is in
    let kept = others-kept w m m' (slot-only w m m' only) in
    let dead' = sym (later-is m m' w chip.same_length) ∙ dead in
    let back = λ (s h : ℕ) (i : Generation) (x : List ℕ) (r : LiveAt (slot_at m') (slot_count m) s h i x). moved-back (slot_at m) (slot_at m') (slot_count m) w s h i x kept (not-dead (slot_at m') (slot_count m) w s h i x dead r) r in
    record {
      chip = chip;
      sectors = place-holds w place.reserve m m' (with_sector (sector_at m) g zeros) place.number place.spare place.apart blocks.rest only
          (clear-stands (slot_at m) (later m m') (slot_count m) w g (sector_count (length m)) o.generation y (sector_at m) single l (place-others w m m' only) dead' (sound-holds m sound).slots)
          (place-fit w m m' only (retired-sub w m m' only (inr dead')) sound.groups);
      alone = place-alone w m m' only;
      single = single-at m m' chip (record { one = λ s t h i j x z a b. single.one s t h i j x z (back s h i x a) (back t h j z b) });
      blocks = placed-settled w m m' blocks place only;
      gone = subst (λ n. IsAbsent (slot_at m') (7 * (block_count n - 4)) g) (sym chip.same_length) (cleared-absent (slot_at m) (slot_at m') (slot_count m) w g o.generation y single l kept dead);
      others = λ h q other hold. held-step m m' w h q (slot-only w m m' only) (other-without (slot_at m) w h g o.generation y l.is other) (dead-without (slot_at m') w h dead) hold;
    }

-- the table without the sector
table-without : (table table' : List LiveSlots) (m m' : List ℕ) (g : ℕ) → Cleared g m m' → IsTableOf table m → Unset table g table' → IsTableOf table' m'
table-without table table' m m' g r t s =
    named-table table' m' (s.size ∙ (t.size ∙ ap (λ n. sector_count n) (sym r.chip.same_length))) (holds-sound m' (with_sector (sector_at m) g zeros) r.sectors) r.single
    (λ h low. elim (cases_eq h g) [
      | inl same ↦ subst (λ z. IsOneAtMost (slice_index_or table' z Absent)) (sym same) (subst (λ e. IsOneAtMost e) (sym s.entry) tt)
      | inr other ↦ subst (λ e. IsOneAtMost e) (sym (s.others h (omega (arith, low, s.size)) other)) (t.single h (omega (arith, low, s.size)))
    ])
    (λ h low. elim (cases_eq h g) [
      | inl same ↦ subst (λ z. HeldBy (holder (slice_index_or table' z Absent)) z m') (sym same) (subst (λ e. HeldBy (holder e) g m') (sym s.entry) r.gone)
      | inr other ↦ subst (λ e. HeldBy (holder e) h m') (sym (s.others h (omega (arith, low, s.size)) other))
          (r.others h (holder (slice_index_or table h Absent)) other (table-holder table m h t (omega (arith, low, s.size))))
    ])

sets-zeros : (g : ℕ) (m m' : List ℕ) → SameChip m m' → HoldsSectors (with_sector (sector_at m) g zeros) m' → (HasSlotsAlone m → HasSlotsAlone m') → IsHealthy m' → (IsClean m → IsClean m') → g < sector_count (length m) → Sets g zeros m m'
sets-zeros g m m' chip holds alone healthy clean low = record {
  chip = chip;
  store = record { journals = healthy; slots = holds-sound m' (with_sector (sector_at m) g zeros) holds };
  alone = alone;
  there = λ c. holds-computed m' (with_sector (sector_at m) g zeros) g holds (on-chip m m' g chip low) ∙ with-there (sector_at m) g zeros;
  others = λ c h in_range other. holds-computed m' (with_sector (sector_at m) g zeros) h holds (on-chip m m' h chip in_range) ∙ with-other (sector_at m) g h zeros other;
  clean = clean;
}

-- a sector's slot is live, and its block isn't of a group
pub held-retirable : (g : ℕ) (o : Held) (m : List ℕ) → IsInSlots g m → HeldBy (Some o) g m → IsRetirable o.slot m
held-retirable g o m own (y, l) = ((record { number = g; generation = o.generation }, y, l.is), own o.slot o.generation y l)

-- a clearing that answered Ok
pub clear-done : (g : ℕ) (o : Held) (a c : NorState) (table table' : List LiveSlots) (indexed is : Bool) → IsServing table a indexed → HeldBy (Some o) g a.memory → OnlyPlace o.slot a.memory c.memory → slot_at c.memory o.slot ≡ Dead
    → (IsClean a.memory → IsClean c.memory) → SucceedsSettled a c → g < sector_count (length a.memory) → Unset table g table' → is ≡ true → Wrote g zeros table' a c is
clear-done g o a c table table' indexed is s hold only dead clean done low unset e =
    let h = cleared g o a.memory c.memory only dead s.store.slots (single-tabled table a.memory s.tabled) s.blocks hold in
    let sets = sets-zeros g a.memory c.memory h.chip h.sectors h.alone (settled-healthy c.memory done.settled) clean low in
    record {
      sets = sets;
      served = record {
        ready = ready-after a c done.kept s.ready;
        settled = done.settled;
        store = sets.store;
        blocks = h.blocks;
        tabled = table-without table table' a.memory c.memory g h s.tabled unset;
        index = e;
      };
    }

-- one that was cut
pub clear-cut : (g : ℕ) (o : Held) (a : NorState) (m' : List ℕ) (table : List LiveSlots) (indexed : Bool) → IsServing table a indexed → HeldBy (Some o) g a.memory → OnlyPlace o.slot a.memory m'
    → (slot_at m' o.slot ≡ slot_at a.memory o.slot) ⊎ (slot_at m' o.slot ≡ Dead) → (IsClean a.memory → IsClean m') → IsHealthy m' → g < sector_count (length a.memory) → SetLeaves g zeros a.memory m'
clear-cut g o a m' table indexed s hold only (inr dead) clean healthy low =
    let h = cleared g o a.memory m' only dead s.store.slots (single-tabled table a.memory s.tabled) s.blocks hold in
    inr (sets-zeros g a.memory m' h.chip h.sectors h.alone healthy clean low)
clear-cut g o a m' table indexed s (y, l) only (inl same) clean healthy low =
    let m = a.memory in
    let w = o.slot in
    let tag : Tag = record { number = g; generation = o.generation } in
    let place = live-placed w tag y m s.blocks l.number l.is in
    let e = only.only.chip.same_length in
    let each : (v : ℕ) → v < slot_count m → later m m' v ≡ slot_at m v = λ v inside. elim (cases_eq v w) as (λ _. later m m' v ≡ slot_at m v) [
      | inl q ↦ ap (λ z. later m m' z) q ∙ (sym (later-is m m' w e) ∙ (same ∙ ap (λ z. slot_at m z) (sym q)))
      | inr other ↦ (place-others w m m' only).each v inside other
    ] in
    let holds = place-holds w place.reserve m m' (sector_at m) place.number place.spare place.apart s.blocks.rest only
    (live-stands (slot_at m) (later m m') (slot_count m) (sector_count (length m)) (sector_at m) (λ v inside. inl (each v inside)) (sound-holds m s.store.slots).slots)
    (place-fit w m m' only (retired-sub w m m' only (inl (sym (later-is m m' w e) ∙ same))) s.store.slots.groups) in
    inl (keeps-holds m m' only.only.chip healthy (holds-sound m' (sector_at m) holds) (place-alone w m m' only) (λ c. holds) clean)

-- one of a sector that is absent already
pub clear-none : (g : ℕ) (a : NorState) (table : List LiveSlots) (indexed : Bool) → IsServing table a indexed → HeldBy None g a.memory → Wrote g zeros table a a indexed
clear-none g a table indexed s none =
    let m = a.memory in
    let k = keeps-none m s.store in
    record {
      sets = record {
        chip = k.chip;
        store = k.store;
        alone = k.alone;
        there = λ c. sym (sector-one (slot_at m) (slot_count m) g zeros (sector_at m g) (absent none refl) (sector-content-is (slot_at m) (slot_count m) g (sector_count (length m)) s.store.slots.slots));
        others = λ c h in_range other. refl;
        clean = k.clean;
      };
      served = s;
    }
