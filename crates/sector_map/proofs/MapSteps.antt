-- What the steps of a map leave of the sectors, of their holders and of the table.
use Rattle.std.proofs.Common.{◌≡◌, ℕ, ◌-◌, ◌*◌, ◌<◌, List, length, sym, ap, ◌∙◌, subst, arith, inl, inr}
use Rattle.std.specs.Prelude.{slice_index_or}
use Rattle.std.proofs.lemmas.Bool.{cases_eq}
use Rattle.chip_model.specs.Geometry.{sector_count, block_count}
use Rattle.nor_layout.specs.declared.header.Generation.{Generation}
use Rattle.erase_journal.specs.Blocks.{SameChip}
use Rattle.sector_slots.specs.Slots.{slot_at, slot_count}
use Rattle.sector_slots.specs.Sectors.{LiveAt, IsSingle, IsSoundMap, sector_at, with_sector}
use Rattle.sector_slots.proofs.BlankLaws.{holds-sound}
use Rattle.sector_map.specs.Replace.{HeldBy, Replaces}
use Rattle.sector_map.specs.Table.{EntryHolds, IsOneAtMost, IsTableOf, KeptOne, holder}
use Rattle.sector_map.specs.declared.table.Held.{Held}
use Rattle.sector_map.specs.declared.table.LiveSlots.{LiveSlots}
use Rattle.sector_map.specs.declared.table.LiveSlots.TheVariants.{Absent, One, Two}
use Rattle.sector_map.proofs.Retiring.{table-holder}

-- live slots, with the number of slots of the memory after
pub there : (m m' : List ℕ) (s g : ℕ) (k : Generation) (x : List ℕ) → SameChip m m' → LiveAt (slot_at m') (slot_count m') s g k x → LiveAt (slot_at m') (slot_count m) s g k x
there m m' s g k x chip l = subst (λ n. LiveAt (slot_at m') (7 * (block_count n - 4)) s g k x) chip.same_length l

pub back-there : (m m' : List ℕ) (s g : ℕ) (k : Generation) (x : List ℕ) → SameChip m m' → LiveAt (slot_at m') (slot_count m) s g k x → LiveAt (slot_at m') (slot_count m') s g k x
back-there m m' s g k x chip l = subst (λ n. LiveAt (slot_at m') (7 * (block_count n - 4)) s g k x) (sym chip.same_length) l

-- a table whose entries name the holders
named-says : (e : LiveSlots) (m : List ℕ) (g : ℕ) → IsSingle m → IsOneAtMost e → HeldBy (holder e) g m → EntryHolds e (slot_at m) (slot_count m) g
named-says Absent m g single one none = none
named-says (One h) m g single one live = record { live = live; only = λ s k x l. single.one s h.slot g k h.generation x live.0 l live.1 }
named-says (Two a b) m g single one live = absurd one

pub named-table : (table : List LiveSlots) (m : List ℕ) → length table ≡ sector_count (length m) → IsSoundMap m → IsSingle m → ((g : ℕ) → g < length table → IsOneAtMost (slice_index_or table g Absent))
    → ((g : ℕ) → g < length table → HeldBy (holder (slice_index_or table g Absent)) g m) → IsTableOf table m
named-table table m size sound single one held = record {
  size = size;
  tabled = record {
    each = λ g low. named-says (slice_index_or table g Absent) m g single (one g low) (held g low);
    within = λ s g k x l. subst (λ n. g < n) (sym size) (sound.slots.sector s g k x l);
    whole = sound.slots.whole;
  };
  single = one;
}

-- the table after a sector was written anew
pub table-follows : (table table' : List LiveSlots) (m m' : List ℕ) (g : ℕ) (x : List ℕ) (now : Held) → Replaces g x now m m' → IsTableOf table m → KeptOne table g now table' → IsTableOf table' m'
table-follows table table' m m' g x o r t s =
    named-table table' m' (s.size ∙ (t.size ∙ ap (λ n. sector_count n) (sym r.chip.same_length))) (holds-sound m' (with_sector (sector_at m) g x) r.sectors) r.single
    (λ h low. elim (cases_eq h g) [
      | inl same ↦ subst (λ z. IsOneAtMost (slice_index_or table' z Absent)) (sym same) (subst (λ e. IsOneAtMost e) (sym s.entry) tt)
      | inr other ↦ subst (λ e. IsOneAtMost e) (sym (s.others h (omega (arith, low, s.size)) other)) (t.single h (omega (arith, low, s.size)))
    ])
    (λ h low. elim (cases_eq h g) [
      | inl same ↦ subst (λ z. HeldBy (holder (slice_index_or table' z Absent)) z m') (sym same) (subst (λ e. HeldBy (holder e) g m') (sym s.entry) r.held)
      | inr other ↦ subst (λ e. HeldBy (holder e) h m') (sym (s.others h (omega (arith, low, s.size)) other))
          (r.others h (holder (slice_index_or table h Absent)) other (table-holder table m h t (omega (arith, low, s.size))))
    ])
