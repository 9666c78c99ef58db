-- What a mount finds, and what it leaves.
use Rattle.std.proofs.Common.{◌≡◌, ℕ, ◌-◌, ◌*◌, ◌<◌, ◌⊎◌, Bool, true, false, List, length, refl, sym, ap, ◌∙◌, subst, inl, inr}
use Rattle.std.specs.Prelude.{Option, Some, None, ◌==◌, not, slice_index_or}
use Rattle.sector_map.specs.declared.found.Seen.{Seen}
use Rattle.std.proofs.lemmas.Bool.{cases_eq, eq-eqb, ne_eqb}
use Rattle.chip_model.specs.Geometry.{sector_count, block_count}
use Rattle.nor_layout.specs.declared.kind.Kind.{Kind}
use Rattle.nor_layout.specs.declared.kind.Kind.TheVariants as kinds
use Rattle.nor_driver.specs.State.{NorState}
use Rattle.erase_journal.specs.Journals.{IsHealthy}
use Rattle.erase_journal.specs.Steps.{SucceedsSettled}
use Rattle.sector_slots.specs.Slots.{Slot, slot_at, slot_count, data_blocks, kind_at, raw_slot, IsSpareIn}
use Rattle.sector_slots.specs.Blocks.{IsAtRest, IsCopying, AreSettled, HasGroupRoom, dead_group, settled, crowded, copying, SoundBlocks}
use Rattle.sector_slots.specs.Copying.{SameLive}
use Rattle.sector_slots.proofs.MoveLaws.{same-back, same-on, same-whole}
use Rattle.sector_slots.specs.Sectors.{SoundSlots, IsSoundMap, HasSlotsAlone, HasOnlySlots}
use Rattle.nor_layout.specs.Superblock.{layout_in}
use Rattle.erase_journal.proofs.SettledLaws.{settled-healthy, settled-after}
use Rattle.sector_stock.specs.Room.{HasRoom}
use Rattle.sector_map.specs.Found.{FoundIn, RoomSeen, leaves_room}
use Rattle.sector_map.specs.Marking.{may_have_groups}
use Rattle.sector_map.specs.Mending.{PairsSeen, IsMixedPair, HasDeadGroup}
use Rattle.sector_map.proofs.Grouping.{none-room, tabled-apart}
use Rattle.sector_map.specs.Table.{EntryHolds, IsTabled, IsTableOf}
use Rattle.sector_map.specs.declared.found.Found.{Found}
use Rattle.sector_map.specs.declared.found.Found.TheVariants.{AtRest, Void, Committed}
use Rattle.sector_map.specs.declared.table.LiveSlots.{LiveSlots}
use Rattle.sector_map.specs.declared.table.LiveSlots.TheVariants as entries
use Rattle.sector_map.proofs.Founds.{void-target, committed-target}
use Rattle.sector_map.proofs.Retiring.{sound-tabled, single-tabled}

-- whether the blocks are sound
pub fits-sound : (found : Found) (spare : Bool) (m : List ℕ) → FoundIn found m → RoomSeen found spare m → SoundBlocks (kind_at m) (raw_slot m) (data_blocks m)
fits-sound AtRest true m h room = settled room
fits-sound AtRest false m h room = crowded h.rest room
fits-sound (Void t) spare m h room = copying t (void-target t (data_blocks m) (kind_at m) h)
fits-sound (Committed s t) spare m h room = copying t (committed-target s t (data_blocks m) (kind_at m) h)

pub rest-busy : (k : Kind) (t n : ℕ) → IsAtRest k → IsCopying k t n → ⊥
rest-busy kinds.Plain t n r c = c
rest-busy kinds.Void t n r c = r
rest-busy (kinds.Committed b) t n r c = r
rest-busy kinds.Settled t n r c = c
rest-busy (kinds.Group tag) t n r c = c
rest-busy kinds.DeadGroup t n r c = c
rest-busy kinds.SpoiltGroup t n r c = c
rest-busy kinds.Unknown t n r c = c

-- what was seen of a wholly free block
pub spare-room : (found : Found) (spare : Bool) (m : List ℕ) → FoundIn found m → (spare ≡ true → (c : ℕ) × ((c < data_blocks m) × IsSpareIn m c)) → leaves_room found spare ≡ true → RoomSeen found spare m
spare-room AtRest true m h some e = let s = some refl in record { rest = h.rest; reserve = s.0; number = s.1.0; spare = s.1.1 }
spare-room AtRest false m h some e = absurd (let q : false ≡ true = e in cc)
spare-room (Void t) spare m h some e = tt
spare-room (Committed s t) spare m h some e = tt

pub pair-seen : (found : Found) (spare pair : Bool) (m : List ℕ) → (leaves_room found spare ≡ true → RoomSeen found spare m) → (pair ≡ true → HasGroupRoom (kind_at m) (data_blocks m)) → (leaves_room found spare ≡ true) ⊎ (pair ≡ true) → RoomSeen found spare m
pair-seen AtRest true pair m room twice either = room refl
pair-seen AtRest false pair m room twice either = elim either as (λ _. HasGroupRoom (kind_at m) (data_blocks m)) [ inl e ↦ absurd (let q : false ≡ true = e in cc) | inr e ↦ twice e ]
pair-seen (Void t) spare pair m room twice either = tt
pair-seen (Committed s t) spare pair m room twice either = tt

pub dead-seen : (found : Found) (spare : Bool) (m : List ℕ) (c : ℕ) → (leaves_room found spare ≡ true → RoomSeen found spare m) → (c < data_blocks m) × (kind_at m c ≡ kinds.DeadGroup) → RoomSeen found spare m
dead-seen AtRest true m c room dead = room refl
dead-seen AtRest false m c room dead = dead_group c dead.0 dead.1
dead-seen (Void t) spare m c room dead = tt
dead-seen (Committed s t) spare m c room dead = tt

no-room : (table : List LiveSlots) (m : List ℕ) → FoundIn AtRest m → ((c : ℕ) → c < data_blocks m → IsSpareIn m c → ⊥) → IsTabled table (slot_at m) (slot_count m) → PairsSeen false table m → (HasDeadGroup m → ⊥)
    → SoundBlocks (kind_at m) (raw_slot m) (data_blocks m) → ⊥
no-room table m h none t pairs dead (settled s) = none s.reserve s.number s.spare
no-room table m h none t pairs dead (crowded rest room) = dead (none-room table m t rest pairs room)
no-room table m h none t pairs dead (copying t0 s) = rest-busy (kind_at m t0) t0 (data_blocks m) (h.rest t0 s.number) s.copying

pub fits-none : (found : Found) (spare : Bool) (table : List LiveSlots) (m : List ℕ) → FoundIn found m → leaves_room found spare ≡ false → (spare ≡ false → (c : ℕ) → c < data_blocks m → IsSpareIn m c → ⊥) → IsTabled table (slot_at m) (slot_count m) → PairsSeen false table m
    → (HasDeadGroup m → ⊥) → IsSoundMap m → ⊥
fits-none AtRest spare table m h e none t pairs dead sound = no-room table m h (none e) t pairs dead sound.blocks
fits-none (Void k) spare table m h e none t pairs dead sound = (let q : true ≡ false = e in absurd cc)
fits-none (Committed s k) spare table m h e none t pairs dead sound = (let q : true ≡ false = e in absurd cc)

groups-none : (a b : Bool) → not a ≡ b → b ≡ false → a ≡ true
groups-none true b e f = refl
groups-none false b e f = (let q : true ≡ false = e ∙ f in absurd cc)

two-layout : (m : List ℕ) (groups : Bool) → groups ≡ may_have_groups m → groups ≡ false → layout_in m ≡ 2
two-layout m groups e none = elim (cases_eq (layout_in m) 2) [
  | inl same ↦ same
  | inr other ↦ absurd (let q : true ≡ false = sym (groups-none (layout_in m == 2) groups (sym e) none) ∙ ne_eqb (layout_in m) 2 other in cc)
]

layout-two : (m : List ℕ) (groups : Bool) → groups ≡ may_have_groups m → layout_in m ≡ 2 → groups ≡ false
layout-two m groups e two = e ∙ ap not (eq-eqb (layout_in m) 2 two)

pub slots-alone : (m : List ℕ) (groups : Bool) → groups ≡ may_have_groups m → IsSoundMap m → groups ≡ false → HasSlotsAlone m
slots-alone m groups e sound none = sound.groups.layout (two-layout m groups e none)

pub look-sound : (found : Found) (spare groups : Bool) (table : List LiveSlots) (m : List ℕ) → FoundIn found m → RoomSeen found spare m → groups ≡ may_have_groups m → (groups ≡ false → HasSlotsAlone m) → ((h : ℕ) → IsMixedPair table m h → ⊥)
    → IsTabled table (slot_at m) (slot_count m) → length table ≡ sector_count (length m) → IsSoundMap m
look-sound found spare groups table m h room e alone apart t size = record {
  slots = subst (λ n. SoundSlots (slot_at m) (slot_count m) n) size (sound-tabled table (slot_at m) (slot_count m) t);
  blocks = fits-sound found spare m h room;
  groups = record { sectors = tabled-apart table m t apart; layout = λ two. alone (layout-two m groups e two) };
}

-- the same live slots, the same table
says-same : (e : LiveSlots) (f f' : ℕ → Slot) (n g : ℕ) → SameLive f f' n → EntryHolds e f n g → EntryHolds e f' n g
says-same entries.Absent f f' n g same none = λ s k x l. none s k x (same-back f f' n same s g k x l)
says-same (entries.One h) f f' n g same o = record { live = (o.live.0, same-on f f' n same h.slot g h.generation o.live.0 o.live.1); only = λ s k x l. o.only s k x (same-back f f' n same s g k x l) }
says-same (entries.Two a b) f f' n g same o = record {
  newer_live = (o.newer_live.0, same-on f f' n same a.slot g a.generation o.newer_live.0 o.newer_live.1);
  older_live = (o.older_live.0, same-on f f' n same b.slot g b.generation o.older_live.0 o.older_live.1);
  next = o.next;
  only = λ s k x l. o.only s k x (same-back f f' n same s g k x l);
}

pub live-tabled : (table : List LiveSlots) (m m' : List ℕ) → length m' ≡ length m → SameLive (slot_at m) (slot_at m') (slot_count m) → IsTabled table (slot_at m) (slot_count m) → IsTabled table (slot_at m') (slot_count m')
live-tabled table m m' size live t = subst (λ n. IsTabled table (slot_at m') (7 * (block_count n - 4))) (sym size) (record {
  each = λ g low. says-same (slice_index_or table g entries.Absent) (slot_at m) (slot_at m') (slot_count m) g live (t.each g low);
  within = λ s g k x l. t.within s g k x (same-back (slot_at m) (slot_at m') (slot_count m) live s g k x l);
  whole = same-whole (slot_at m) (slot_at m') (slot_count m) live t.whole;
})

pub perhaps-healthy : (a b : NorState) → (b ≡ a) ⊎ SucceedsSettled a b → IsHealthy a.memory → IsHealthy b.memory
perhaps-healthy a b (inl e) h = subst (λ z. IsHealthy z.memory) (sym e) h
perhaps-healthy a b (inr s) h = settled-healthy b.memory s.settled

pub table-room : (table : List LiveSlots) (m : List ℕ) → IsTableOf table m → AreSettled m → HasOnlySlots m → HasRoom m
table-room table m t blocks layout = record {
  sector = λ s g k x l. subst (λ n. g < n) t.size (t.tabled.within s g k x l);
  single = single-tabled table m t;
  whole = t.tabled.whole;
  blocks = blocks;
  layout = layout;
}

pub perhaps-done : (a b c : NorState) → (b ≡ a) ⊎ SucceedsSettled a b → (c ≡ b) ⊎ SucceedsSettled b c → (c ≡ a) ⊎ SucceedsSettled a c
perhaps-done a b c (inl e) q = subst (λ z. (c ≡ z) ⊎ SucceedsSettled z c) e q
perhaps-done a b c (inr s) (inl e) = inr (subst (λ z. SucceedsSettled a z) (sym e) s)
perhaps-done a b c (inr s) (inr t) = inr (settled-after a b c s t)

-- what an answer that isn't Some is
pub found-none : (o : Option Found) → ((x : Found) → o ≡ Some x → ⊥) → o ≡ None
found-none None h = refl
found-none (Some x) h = absurd (h x refl)

pub bool-none : (o : Option Bool) → ((x : Bool) → o ≡ Some x → ⊥) → o ≡ None
bool-none None h = refl
bool-none (Some x) h = absurd (h x refl)

pub same-seen : (a b : Seen) → Some a ≡ Some b → b ≡ a
same-seen a b e = cc
