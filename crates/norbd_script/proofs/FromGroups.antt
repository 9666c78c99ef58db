-- A chip of layout 1 holds one array, the one of its groups, and is run from it.
use Rattle.std.proofs.Common.{◌≡◌, ℕ, ◌+◌, ◌*◌, ◌<◌, true, List, length, refl, sym, ap, ◌∙◌, subst, arith, inl, inr, Result, Ok, Err, is_ok}
use Rattle.std.specs.Prelude.{◌/◌, ◌%◌}
use Rattle.std.proofs.lemmas.Bool.{cases_eq}
use Rattle.sfdp.specs.declared.params.Params.{Params}
use Rattle.chip_model.specs.Chip.{Chip, IsChip, is_idle}
use Rattle.chip_model.specs.Geometry.{IsChipSize, group_count, sector_count}
use Rattle.chip_model.specs.Parts.{part}
use Rattle.nor_driver.specs.Probe.{IsAcceptedChip, told, probe_answer}
use Rattle.nor_driver.specs.declared.error.ProbeError.{ProbeError}
use Rattle.nor_driver.proofs.Survey.{accepted}
use Rattle.sector_slots.specs.Slots.{IsClean, content_bytes, data_block, slot_at, slot_count}
use Rattle.sector_slots.specs.Sectors.{SectorIs, absent, held, SoundSlots, sector_at}
use Rattle.sector_slots.specs.Groups.{AreSoundGroups, IsCleanOfGroups}
use Rattle.sector_slots.proofs.SectorLaws.{never-round}
use Rattle.sector_slots.proofs.WinnerLaws.{sector-content-is}
use Rattle.sector_map.proofs.Grouped.{group-mountable}
use Rattle.block_device.specs.Contents.{sector, SectorsDecide}
use Rattle.flash_disk.specs.Contents.{contents_of}
use Rattle.flash_disk.proofs.Sectors.{length-contents, part-contents}
use Rattle.norbd_script.specs.Lives.{IsHealthyChip, MountSays, StaySays, as_seen, seen_with}
use Rattle.norbd_script.specs.GroupChips.{GroupSectorIs, in_none, in_newest, IsArrayOfGroups, GroupChipsAreServed}
use Rattle.norbd_script.proofs.Living.{calls-are-a-life}
use Rattle.norbd_script.proofs.GroupKinds.{live-place, place-live}

-- what the slots say of a sector, in the words of groups
said : (m : List ℕ) (g i : ℕ) (x : List ℕ) → IsChipSize (length m) → AreSoundGroups m → IsCleanOfGroups m → i < 7 → SectorIs (slot_at m) (slot_count m) (7 * g + i) x → GroupSectorIs m g i x
said m g i x size sound clean small (absent none z) = in_none (λ c tag l e. none (7 * c + i) tag.generation (content_bytes (data_block m c) i) (place-live m size sound clean c i g tag l small e)) z
said m g i x size sound clean small (held s k l newest) =
    let p = live-place m size sound clean s (7 * g + i) k x l in
    let e = p.number in
    let group : p.tag.number ≡ g = omega (arith, e, small) in
    let place : s % 7 ≡ i = omega (arith, e, small) in
    in_newest (s / 7) p.tag p.live group
    (λ d other live same apart.
    sym p.generation ∙ newest (7 * d + i) other.generation (content_bytes (data_block m d) i) (place-live m size sound clean d i g other live small same) (λ q. apart (omega (arith, q, small))))
    (p.content ∙ ap (λ j. content_bytes (data_block m (s / 7)) j) place)

-- and there is one such content
said-one : (m : List ℕ) (g i : ℕ) (x y : List ℕ) → GroupSectorIs m g i x → GroupSectorIs m g i y → x ≡ y
said-one m g i x y (in_none none z) (in_none other q) = z ∙ sym q
said-one m g i x y (in_none none z) (in_newest c a l e newest q) = absurd (none c a l e)
said-one m g i x y (in_newest c a l e newest q) (in_none none z) = absurd (none c a l e)
said-one m g i x y (in_newest c a l e newest q) (in_newest d b r f later w) = elim (cases_eq c d) [
  | inl same ↦ q ∙ (ap (λ z. content_bytes (data_block m z) i) same ∙ sym w)
  | inr apart ↦ absurd (never-round a.generation b.generation (newest d b r f (λ h. apart (sym h))) (later c a l e apart))
]

sector-part : (d : List ℕ) (s : ℕ) → sector d s ≡ part 512 d s
unfolding sector part
sector-part d s = refl

array-of : (m : List ℕ) → IsChipSize (length m) → AreSoundGroups m → IsCleanOfGroups m → SoundSlots (slot_at m) (slot_count m) (sector_count (length m)) → IsArrayOfGroups m (contents_of m)
array-of m size sound clean slots = record {
  size = length-contents m;
  each = λ g i low small.
      let s = 7 * g + i in
      let below : s < sector_count (length m) = omega (arith, low, small) in
      subst (λ x. GroupSectorIs m g i x) (sym (sector-part (contents_of m) s ∙ part-contents m s below))
      (said m g i (sector_at m s) size sound clean small (sector-content-is (slot_at m) (slot_count m) s (sector_count (length m)) slots));
}

array-one : (m these those : List ℕ) → SectorsDecide → IsArrayOfGroups m these → IsArrayOfGroups m those → these ≡ those
array-one m these those decide a b = decide (7 * group_count (length m)) these those a.size b.size (λ s low.
    let at : 7 * (s / 7) + s % 7 ≡ s = omega arith in
    let group : s / 7 < group_count (length m) = omega (arith, low) in
    subst (λ z. sector these z ≡ sector those z) at (said-one m (s / 7) (s % 7) (sector these (7 * (s / 7) + s % 7)) (sector those (7 * (s / 7) + s % 7)) (a.each (s / 7) (s % 7) group (omega arith)) (b.each (s / 7) (s % 7) group (omega arith))))

ok-of : (r : Result Params ProbeError) → is_ok r ≡ true → (p : Params) × (r ≡ Ok p)
ok-of (Ok p) e = (p, refl)
ok-of (Err f) e = cc

sized : (c : Chip) → IsChip c → IsAcceptedChip c → IsChipSize (length c.memory)
sized c law ok =
    let p = ok-of (probe_answer (told c)) ok in
    let a = accepted c p.0 law p.1 in
    subst (λ n. IsChipSize n) (sym a.size) a.of_a_chip

pub from-groups : SectorsDecide → GroupChipsAreServed
from-groups decide c law h =
    let m = c.memory in
    let size = sized c law h.accepted in
    let mounts = group-mountable m size h.groups in
    let healthy : IsHealthyChip c = record { idle = h.idle; accepted = h.accepted; mountable = mounts.0 } in
    let array = array-of m size h.groups.groups h.groups.clean mounts.0.store.slots.slots in (
      contents_of m,
      record {
        groups = array;
        only = λ other o. array-one m other (contents_of m) decide o array;
        says = λ old new stay same runs. subst (λ (z : Chip). StaySays (seen_with (sector_count (length z.memory)) (contents_of z.memory) old) stay (as_seen new)) same (runs.says (subst (λ (z : Chip). IsHealthyChip z) (sym same) healthy));
        clean = λ old new stay same runs e. (subst (λ a. MountSays a old.chip new.chip) e (runs.mounts (ap (λ (z : Chip). is_idle z.operation) same ∙ h.idle))).1 (subst (λ (z : Chip). IsClean z.memory) (sym same) mounts.1);
        lives = λ c' runs all. calls-are-a-life c c' runs all healthy;
      },
    )
