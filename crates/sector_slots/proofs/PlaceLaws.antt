-- The sectors of a memory of which one slot is written, or retired.
use Rattle.std.proofs.Common.{◌≡◌, ◌≢◌, ℕ, ◌+◌, ◌-◌, ◌*◌, ◌<◌, ◌⊎◌, false, List, length, refl, sym, ap, ◌∙◌, subst, arith, inl, inr}
use Rattle.std.specs.Prelude.{◌/◌, ◌%◌}
use Rattle.std.proofs.lemmas.Bool.{cases_eq}
use Rattle.chip_model.specs.Geometry.{block_count, sector_count}
use Rattle.nor_layout.specs.declared.header.Generation.{Generation}
use Rattle.nor_layout.specs.declared.header.Tag.{Tag}
use Rattle.nor_layout.specs.Headers.{next_generation}
use Rattle.nor_layout.specs.declared.kind.Kind.{Kind}
use Rattle.sector_slots.specs.Slots.{Slot, Free, Live, NoGeneration, Dead, Outside, is_copy_of, is_group, copies, counted, data_blocks, data_block, kind_at, raw_slot, slot_at, slot_count, IsSpareIn}
use Rattle.sector_slots.specs.Blocks.{IsSettledBlocks, settled, AreAtRest}
use Rattle.sector_slots.proofs.BlockLaws.{write-settled}
use Rattle.sector_slots.proofs.CopyLaws.{copies-same, quiet-live, free-quiet}
use Rattle.sector_slots.proofs.GroupLaws.{GroupsStay, kinds-stay, fit-step, fit-sized, free-no_group}
use Rattle.sector_slots.proofs.SlotLaws.{counted-raw}
use Rattle.sector_slots.specs.Sectors.{LiveAt, NextGeneration, SlotsRepresent, with_sector, OthersKept, IsSingle, GroupsFit, HoldsSectors}
use Rattle.sector_slots.specs.Copying.{HoldsNothing}
use Rattle.sector_slots.proofs.SectorLaws.{number_in, moved-back, sub-quiet, put-done, free-stands, dead-stands, retire-stands}
use Rattle.sector_slots.proofs.MachineLaws.{block-data, holds-sized}
use Rattle.sector_slots.specs.Steps.{PutLeaves, still_free, half_written, written, OnlyPlace}

-- a slot whose own bytes are as they were, where no kind changed
pub counted-kept : (kind kind' : ℕ → Kind) (slots slots' : ℕ → ℕ → Slot) (n s : ℕ) → ((d : ℕ) → d < n → kind' d ≡ kind d) → slots' (s / 7) (s % 7) ≡ slots (s / 7) (s % 7) → s < 7 * n
    → counted kind' slots' n s ≡ counted kind slots n s
unfolding counted
counted-kept kind kind' slots slots' n s k x low =
    let a : kind' (s / 7) ≡ kind (s / 7) = k (s / 7) (omega arith) in
    let z : copies kind' n (s / 7) ≡ copies kind n (s / 7) = copies-same kind kind' n (s / 7) (λ d h. ap (λ q. is_copy_of (s / 7 + 4) q) (k d h)) in
    rw (a, x, z) refl

pub place-kinds : (w : ℕ) (m m' : List ℕ) → OnlyPlace w m m' → (d : ℕ) → d < data_blocks m → kind_at m' d ≡ kind_at m d
place-kinds w m m' h d low = elim (cases_eq d (w / 7)) as (λ _. kind_at m' d ≡ kind_at m d) [
  | inl e ↦ ap (λ a. kind_at m' a) e ∙ (h.kind ∙ ap (λ a. kind_at m a) (sym e))
  | inr ne ↦ (block-data (w / 7) m m' h.only).same_kind d low ne
]

-- the slots that count, with the number of blocks of the memory before
abbrev pub later : List ℕ → List ℕ → ℕ → Slot
later m m' = counted (kind_at m') (raw_slot m') (data_blocks m)

pub later-is : (m m' : List ℕ) (s : ℕ) → length m' ≡ length m → slot_at m' s ≡ later m m' s
later-is m m' s e = ap (λ n. counted (kind_at m') (raw_slot m') (block_count n - 4) s) e

pub place-others : (w : ℕ) (m m' : List ℕ) → OnlyPlace w m m' → OthersKept (slot_count m) w (slot_at m) (later m m')
place-others w m m' h = record {
  each = λ s low other.
      let raw : raw_slot m' (s / 7) (s % 7) ≡ raw_slot m (s / 7) (s % 7) = elim (cases_eq (s / 7) (w / 7)) as (λ _. raw_slot m' (s / 7) (s % 7) ≡ raw_slot m (s / 7) (s % 7)) [
        | inl e ↦ ap (λ a. raw_slot m' a (s % 7)) e ∙ (h.slots (s % 7) (omega arith) (λ q. other (omega (arith, q, e))) ∙ ap (λ a. raw_slot m a (s % 7)) (sym e))
        | inr ne ↦ (block-data (w / 7) m m' h.only).same_slots (s / 7) (s % 7) (omega (arith, low)) ne
      ] in
      counted-kept (kind_at m) (kind_at m') (raw_slot m) (raw_slot m') (data_blocks m) s (λ d l. place-kinds w m m' h d l) raw low;
}

-- where a wholly free block is another one, blocks stay settled
pub place-settled : (w r : ℕ) (m m' : List ℕ) → r < data_blocks m → IsSpareIn m r → r ≢ w / 7 → AreAtRest (kind_at m) (data_blocks m) → OnlyPlace w m m' → IsSettledBlocks (kind_at m') (raw_slot m') (data_blocks m)
place-settled w r m m' low spare other rest h = write-settled (w / 7) r (data_blocks m) (kind_at m) (kind_at m') (raw_slot m) (raw_slot m') low spare other rest (block-data (w / 7) m m' h.only) h.kind

pub place-holds : (w r : ℕ) (m m' : List ℕ) (sectors : ℕ → List ℕ) → r < data_blocks m → IsSpareIn m r → r ≢ w / 7 → AreAtRest (kind_at m) (data_blocks m) → OnlyPlace w m m'
    → SlotsRepresent (later m m') (slot_count m) (sector_count (length m)) sectors → GroupsFit m' → HoldsSectors sectors m'
place-holds w r m m' sectors low spare other rest h s fit = holds-sized m m' sectors h.only.chip s (settled (place-settled w r m m' low spare other rest h)) fit

-- kinds stay, so blocks of groups do
place-stays : (w : ℕ) (m m' : List ℕ) → OnlyPlace w m m' → GroupsStay (kind_at m) (kind_at m') (later m m') (data_blocks m)
place-stays w m m' h = kinds-stay (kind_at m) (kind_at m') (later m m') (data_blocks m) (place-kinds w m m' h)

-- where the slot is live with nothing that it wasn't
pub place-fit : (w : ℕ) (m m' : List ℕ) → OnlyPlace w m m' → ((s g : ℕ) (k : Generation) (x : List ℕ) → LiveAt (later m m') (slot_count m) s g k x → LiveAt (slot_at m) (slot_count m) s g k x) → GroupsFit m → GroupsFit m'
place-fit w m m' h sub fit = fit-step m m' h.only.chip (place-stays w m m' h) sub fit

quiet-sub : (w : ℕ) (m m' : List ℕ) → OnlyPlace w m m' → HoldsNothing (later m m' w) → (s g : ℕ) (k : Generation) (x : List ℕ) → LiveAt (later m m') (slot_count m) s g k x → LiveAt (slot_at m) (slot_count m) s g k x
quiet-sub w m m' h quiet = sub-quiet (slot_at m) (later m m') (slot_count m) w (place-others w m m' h) (λ g k x e. quiet-live (later m m' w) g k x quiet e)

abbrev IsFreeOne : Slot → Type 0
IsFreeOne Free = Unit {0}
IsFreeOne (Live tag x) = ⊥
IsFreeOne NoGeneration = ⊥
IsFreeOne Dead = ⊥
IsFreeOne Outside = ⊥

free-not_outside : Free ≢ Outside
free-not_outside e = subst (λ s. IsFreeOne s) e tt

-- where it is live now: no live slot of its sector is in a block with a group
put-apart : (w : ℕ) (tag : Tag) (x m m' : List ℕ) → OnlyPlace w m m' → w < slot_count m → slot_at m w ≡ Free → later m m' w ≡ Live tag x
    → ((s : ℕ) (k : Generation) (y : List ℕ) → LiveAt (slot_at m) (slot_count m) s tag.number k y → is_group (kind_at m (s / 7)) ≡ false) → GroupsFit m → GroupsFit m'
put-apart w tag x m m' h low free now own fit =
    let raw : raw_slot m (w / 7) (w % 7) ≡ Free = counted-raw m w Free free free-not_outside in
    let here : is_group (kind_at m (w / 7)) ≡ false = free-no_group (data_block m (w / 7)) (w % 7) raw in
    let kept : (s : ℕ) → s < slot_count m → is_group (kind_at m' (s / 7)) ≡ is_group (kind_at m (s / 7)) = λ s l. ap is_group (place-kinds w m m' h (s / 7) (omega (arith, l))) in
    let each : (s g : ℕ) (k : Generation) (y : List ℕ) → LiveAt (later m m') (slot_count m) s g k y → g ≡ tag.number → is_group (kind_at m' (s / 7)) ≡ false =
    λ s g k y l e. kept s l.number ∙ (elim (cases_eq s w) as (λ _. is_group (kind_at m (s / 7)) ≡ false) [
      | inl same ↦ ap (λ a. is_group (kind_at m (a / 7))) same ∙ here
      | inr other ↦ own s k y (subst (λ z. LiveAt (slot_at m) (slot_count m) s z k y) e (moved-back (slot_at m) (later m m') (slot_count m) w s g k y (place-others w m m' h) other l))
    ]) in
    let old : (s t g : ℕ) (j k : Generation) (y z : List ℕ) → LiveAt (later m m') (slot_count m) s g j y → LiveAt (later m m') (slot_count m) t g k z → is_group (kind_at m' (s / 7)) ≡ is_group (kind_at m' (t / 7)) =
    λ s t g j k y z l r. elim (cases_eq g tag.number) as (λ _. is_group (kind_at m' (s / 7)) ≡ is_group (kind_at m' (t / 7))) [
      | inl e ↦ each s g j y l e ∙ sym (each t g k z r e)
      | inr ne ↦
          let sw : s ≢ w = λ q. ne (sym (ap number_in (sym now ∙ (ap (later m m') (sym q) ∙ l.is)))) in
          let tw : t ≢ w = λ q. ne (sym (ap number_in (sym now ∙ (ap (later m m') (sym q) ∙ r.is)))) in
          kept s l.number
          ∙ (fit.sectors.apart s t g j k y z (moved-back (slot_at m) (later m m') (slot_count m) w s g j y (place-others w m m' h) sw l) (moved-back (slot_at m) (later m m') (slot_count m) w t g k z (place-others w m m' h) tw r)
          ∙ sym (kept t r.number))
    ] in
    fit-sized m m' h.only.chip (record { apart = old }) (place-stays w m m' h) fit.layout

-- A write of a sector into a free slot outside a wholly free block r, whole or cut: the sectors are as they were, or this one new.
pub put-leaves : (w r : ℕ) (tag : Tag) (x m m' : List ℕ) (sectors : ℕ → List ℕ) → w < slot_count m → tag.number < sector_count (length m) → slot_at m w ≡ Free → OnlyPlace w m m' → PutLeaves tag x (slot_at m' w)
    → r < data_blocks m → IsSpareIn m r → r ≢ w / 7 → AreAtRest (kind_at m) (data_blocks m) → IsSingle m → NextGeneration (slot_at m) (slot_count m) tag.number tag.generation
    → ((s : ℕ) (k : Generation) (y : List ℕ) → LiveAt (slot_at m) (slot_count m) s tag.number k y → is_group (kind_at m (s / 7)) ≡ false) → HoldsSectors sectors m
    → HoldsSectors sectors m' ⊎ HoldsSectors (with_sector sectors tag.number x) m'
put-leaves w r tag x m m' sectors low within free h (still_free e) lr spare other rest single generation own s =
    inl (place-holds w r m m' sectors lr spare other rest h (free-stands (slot_at m) (later m m') (slot_count m) w (sector_count (length m)) sectors (place-others w m m' h) free (sym (later-is m m' w h.only.chip.same_length) ∙ e) s.slots)
    (place-fit w m m' h (quiet-sub w m m' h (free-quiet (later m m' w) (sym (later-is m m' w h.only.chip.same_length) ∙ e))) s.groups))
put-leaves w r tag x m m' sectors low within free h (half_written e) lr spare other rest single generation own s =
    inl (place-holds w r m m' sectors lr spare other rest h (dead-stands (slot_at m) (later m m') (slot_count m) w (sector_count (length m)) sectors (place-others w m m' h) free (sym (later-is m m' w h.only.chip.same_length) ∙ e) s.slots)
    (place-fit w m m' h (quiet-sub w m m' h (subst (λ q. HoldsNothing q) (sym (sym (later-is m m' w h.only.chip.same_length) ∙ e)) tt)) s.groups))
put-leaves w r tag x m m' sectors low within free h (written e) lr spare other rest single generation own s =
    inr (place-holds w r m m' (with_sector sectors tag.number x) lr spare other rest h
    (put-done (slot_at m) (later m m') (slot_count m) w tag.number tag.generation (sector_count (length m)) x sectors low within free (place-others w m m' h) (sym (later-is m m' w h.only.chip.same_length) ∙ e) single generation s.slots)
    (put-apart w tag x m m' h low free (sym (later-is m m' w h.only.chip.same_length) ∙ e) own s.groups))

pub retired-sub : (b : ℕ) (m m' : List ℕ) → OnlyPlace b m m' → (later m m' b ≡ slot_at m b) ⊎ (later m m' b ≡ Dead) → (s g : ℕ) (k : Generation) (x : List ℕ) → LiveAt (later m m') (slot_count m) s g k x → LiveAt (slot_at m) (slot_count m) s g k x
retired-sub b m m' h (inr dead) s g k x l = quiet-sub b m m' h (subst (λ q. HoldsNothing q) (sym dead) tt) s g k x l
retired-sub b m m' h (inl same) s g k x l = elim (cases_eq s b) as (λ _. LiveAt (slot_at m) (slot_count m) s g k x) [
  | inl e ↦ record { number = l.number; is = ap (slot_at m) e ∙ (sym same ∙ (ap (later m m') (sym e) ∙ l.is)) }
  | inr ne ↦ moved-back (slot_at m) (later m m') (slot_count m) b s g k x (place-others b m m' h) ne l
]

-- A retirement of the older of two slots of a sector, whole or cut: no sector changes.
pub retire-holds : (w b r g : ℕ) (j k : Generation) (x y m m' : List ℕ) (sectors : ℕ → List ℕ) → OnlyPlace b m m' → LiveAt (slot_at m) (slot_count m) b g j y → LiveAt (slot_at m) (slot_count m) w g k x → w ≢ b
    → k ≡ next_generation j → (slot_at m' b ≡ slot_at m b) ⊎ (slot_at m' b ≡ Dead) → r < data_blocks m → IsSpareIn m r → r ≢ b / 7 → AreAtRest (kind_at m) (data_blocks m) → HoldsSectors sectors m → HoldsSectors sectors m'
retire-holds w b r g j k x y m m' sectors h old new other generation left lr spare apart rest s =
    let e = later-is m m' b h.only.chip.same_length in
    let left' : (later m m' b ≡ slot_at m b) ⊎ (later m m' b ≡ Dead) = elim left as (λ _. (later m m' b ≡ slot_at m b) ⊎ (later m m' b ≡ Dead)) [ inl q ↦ inl (sym e ∙ q) | inr q ↦ inr (sym e ∙ q) ] in
    place-holds b r m m' sectors lr spare apart rest h
    (retire-stands (slot_at m) (later m m') (slot_count m) w b g j k (sector_count (length m)) x y sectors (place-others b m m' h) old new other generation left' s.slots)
    (place-fit b m m' h (retired-sub b m m' h left') s.groups)
