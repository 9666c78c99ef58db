-- A mixed chip in the words of the two layouts; and what its own two steps do to a clean memory.
use Rattle.std.proofs.Common.{◌≡◌, ◌≢◌, ℕ, ◌+◌, ◌⊎◌, Bool, true, false, List, length, refl, sym, ap, ◌∙◌, subst, arith, inl, inr}
use Rattle.std.specs.Prelude.{◌/◌, ◌%◌}
use Rattle.chip_model.specs.Geometry.{sector_count}
use Rattle.nor_layout.specs.declared.header.Generation.{Generation}
use Rattle.nor_layout.specs.declared.header.Tag.{Tag}
use Rattle.nor_layout.specs.declared.kind.Kind.TheVariants as kinds
use Rattle.nor_layout.specs.Headers.{next_generation}
use Rattle.erase_journal.specs.Blocks.{OnlyBlock, WithErased}
use Rattle.sector_slots.specs.Slots.{Slot, Free, Live, Dead, Outside, is_group, is_copy_of, content_bytes, data_blocks, data_block, kind_at, raw_slot, slot_at, slot_count, IsClean}
use Rattle.sector_slots.specs.Blocks.{IsAtRest, AreAtRest, AreSound, SoundBlocks, settled, crowded, copying}
use Rattle.sector_slots.specs.Sectors.{LiveAt, SectorIs, absent, held, HoldsSectors}
use Rattle.sector_slots.specs.Steps.{OnlyPlace}
use Rattle.sector_slots.specs.Laws.{GroupsAreSeen, SaidSector, in_slot, in_group, nowhere, SectorsAreSaid}
use Rattle.sector_slots.proofs.CopyLaws.{counted-other}
use Rattle.sector_slots.proofs.BlockLaws.{both}
use Rattle.sector_slots.proofs.BlankLaws.{blank-content, erased-spare}
use Rattle.sector_slots.proofs.CleanLaws.{clean-only, raw-free, group-plain}
use Rattle.sector_slots.proofs.MachineLaws.{block-data, holds-sized}
use Rattle.sector_slots.proofs.GroupLaws.{group-slot, dead-slot, room-same}
use Rattle.sector_slots.proofs.SectorLaws.{retire-stands, kind_in}
use Rattle.sector_slots.proofs.SlotLaws.{counted-raw}
use Rattle.sector_slots.proofs.PlaceLaws.{place-kinds, place-others, place-settled, place-fit, retired-sub, later, later-is}

pub seen-groups : GroupsAreSeen
seen-groups m c i = (λ g e. group-slot (data_block m c) i g e, λ e. dead-slot (data_block m c) i e)

either : (b : Bool) → (b ≡ true) ⊎ (b ≡ false)
either true = inl refl
either false = inr refl

to-said : (m : List ℕ) (g : ℕ) (x : List ℕ) → ((s t : ℕ) (j k : Generation) (y z : List ℕ) → LiveAt (slot_at m) (slot_count m) s g j y → LiveAt (slot_at m) (slot_count m) t g k z → is_group (kind_at m (s / 7)) ≡ is_group (kind_at m (t / 7)))
    → SectorIs (slot_at m) (slot_count m) g x → SaidSector (kind_at m) (slot_at m) (slot_count m) g x
to-said m g x apart (absent none z) = nowhere none z
to-said m g x apart (held s k l newest) = elim (either (is_group (kind_at m (s / 7)))) [
  | inl e ↦ in_group (λ t j y lt. apart t s j k y x lt l ∙ e) s k l newest
  | inr e ↦ in_slot s k l e (λ t j y lt out other. newest t j y lt other)
]

from-said : (m : List ℕ) (g : ℕ) (x : List ℕ) → ((s t : ℕ) (j k : Generation) (y z : List ℕ) → LiveAt (slot_at m) (slot_count m) s g j y → LiveAt (slot_at m) (slot_count m) t g k z → is_group (kind_at m (s / 7)) ≡ is_group (kind_at m (t / 7)))
    → SaidSector (kind_at m) (slot_at m) (slot_count m) g x → SectorIs (slot_at m) (slot_count m) g x
from-said m g x apart (in_slot s k l e newest) = held s k l (λ t j y lt other. newest t j y lt (apart t s j k y x lt l ∙ e) other)
from-said m g x apart (in_group all s k l newest) = held s k l newest
from-said m g x apart (nowhere none z) = absent none z

pub said-sectors : SectorsAreSaid
said-sectors m g x fit =
    let apart = λ (s t : ℕ) (j k : Generation) (y z : List ℕ) (a : LiveAt (slot_at m) (slot_count m) s g j y) (b : LiveAt (slot_at m) (slot_count m) t g k z). fit.sectors.apart s t g j k y z a b in
    (to-said m g x apart, from-said m g x apart)

-- the older block of a group is retired: a clean memory stays clean
pub retire_group-clean : (c : ℕ) (m m' : List ℕ) (g : Tag) → OnlyBlock (c + 4) m m' → kind_at m c ≡ kinds.Group g → kind_at m' c ≡ kinds.DeadGroup → IsClean m → IsClean m'
retire_group-clean c m m' g only was now clean = clean-only c m m' only clean
    (λ w low ne free. inl (sym (counted-other (kind_at m) (kind_at m') (raw_slot m) (raw_slot m') (data_blocks m) c w (block-data c m m' only) (omega (arith, low)) ne
    (ap (λ k. is_copy_of (w / 7 + 4) k) now ∙ sym (ap (λ k. is_copy_of (w / 7 + 4) k) was))) ∙ free))
    (λ w low e free. (let h : 3 ≡ 0 = ap kind_in (sym (dead-slot (data_block m' c) (w % 7) now) ∙ raw-free (kind_at m') (raw_slot m') (data_blocks m) w c e free) in absurd (omega (arith, h))))
    (λ p. absurd (group-plain (kind_at m' c) now p.plain))

-- and so it does where a dead one is erased
pub erase_group-clean : (c : ℕ) (m m' : List ℕ) → WithErased (c + 4) m m' → kind_at m c ≡ kinds.DeadGroup → IsClean m → IsClean m'
erase_group-clean c m m' w was clean =
    let now = erased-spare m' c w.erased in
    clean-only c m m' w.only clean
    (λ v low ne free. inl (sym (counted-other (kind_at m) (kind_at m') (raw_slot m) (raw_slot m') (data_blocks m) c v (block-data c m m' w.only) (omega (arith, low)) ne
    (ap (λ k. is_copy_of (v / 7 + 4) k) now.plain ∙ sym (ap (λ k. is_copy_of (v / 7 + 4) k) was))) ∙ free))
    (λ v low e free. ap (λ b. content_bytes b (v % 7)) w.erased ∙ blank-content (v % 7) (omega arith))
    (λ p. w.erased)

-- A retirement of a live slot leaves sound blocks sound, also where no block is wholly free yet.
live-not_free : (s : Slot) (g : ℕ) (k : Generation) (x : List ℕ) → s ≡ Live (record { number = g; generation = k }) x → s ≡ Free → ⊥
live-not_free s g k x l f = let h : 1 ≡ 0 = ap kind_in (sym l ∙ f) in omega (arith, h)

live-inside : (s : Slot) (g : ℕ) (k : Generation) (x : List ℕ) → s ≡ Live (record { number = g; generation = k }) x → s ≢ Outside
live-inside s g k x l f = let h : 1 ≡ 4 = ap kind_in (sym l ∙ f) in omega (arith, h)

pub place-sound : (w g : ℕ) (k : Generation) (x m m' : List ℕ) → OnlyPlace w m m' → AreAtRest (kind_at m) (data_blocks m) → LiveAt (slot_at m) (slot_count m) w g k x → AreSound m → SoundBlocks (kind_at m') (raw_slot m') (data_blocks m)
place-sound w g k x m m' h rest l (settled s) =
    let raw = counted-raw m w (slot_at m w) refl (live-inside (slot_at m w) g k x l.is) in
    let apart : s.reserve ≢ w / 7 = λ e. live-not_free (slot_at m w) g k x l.is (sym raw ∙ (ap (λ c. raw_slot m c (w % 7)) (sym e) ∙ s.spare.free (w % 7) (omega arith))) in
    settled (place-settled w s.reserve m m' s.number s.spare apart rest h)
place-sound w g k x m m' h rest l (crowded r room) =
    crowded (λ d low. subst (λ q. IsAtRest q) (sym (place-kinds w m m' h d low)) (r d low)) (room-same (kind_at m) (kind_at m') (data_blocks m) (place-kinds w m m' h) room)
place-sound w g k x m m' h rest l (copying t target) = absurd (both (kind_at m t) t (data_blocks m) (rest t target.number) target.copying)

-- so the older of two slots of a sector can be retired there too
pub retire-stays : (w b g : ℕ) (j k : Generation) (x y m m' : List ℕ) (sectors : ℕ → List ℕ) → OnlyPlace b m m' → LiveAt (slot_at m) (slot_count m) b g j y → LiveAt (slot_at m) (slot_count m) w g k x → w ≢ b
    → k ≡ next_generation j → (slot_at m' b ≡ slot_at m b) ⊎ (slot_at m' b ≡ Dead) → AreAtRest (kind_at m) (data_blocks m) → HoldsSectors sectors m → HoldsSectors sectors m'
retire-stays w b g j k x y m m' sectors h old new other generation left rest s =
    let e = later-is m m' b h.only.chip.same_length in
    let left' : (later m m' b ≡ slot_at m b) ⊎ (later m m' b ≡ Dead) = elim left as (λ _. (later m m' b ≡ slot_at m b) ⊎ (later m m' b ≡ Dead)) [ inl q ↦ inl (sym e ∙ q) | inr q ↦ inr (sym e ∙ q) ] in
    holds-sized m m' sectors h.only.chip (retire-stands (slot_at m) (later m m') (slot_count m) w b g j k (sector_count (length m)) x y sectors (place-others b m m' h) old new other generation left' s.slots)
    (place-sound b g j y m m' h rest old s.blocks) (place-fit b m m' h (retired-sub b m m' h left') s.groups)
