-- What a later power-on reads of a store whose blocks are sure or doubtful.
use Rattle.std.proofs.Common.{◌≡◌, ◌≢◌, ℕ, ◌+◌, ◌-◌, ◌<◌, ◌⊎◌, Bool, true, false, List, refl, sym, ap, subst, arith, inl, inr}
use Rattle.std.specs.Prelude.{◌/◌}
use Rattle.chip_model.specs.Parts.{part}
use Rattle.chip_model.specs.Wavering.{Bits, Drawn}
use Rattle.erase_journal.specs.declared.phase.ErasePhase.TheVariants.{Idle}
use Rattle.erase_journal.specs.Blocks.{is_opened}
use Rattle.erase_journal.specs.Journals.{IsSettled}
use Rattle.erase_journal.proofs.Blocks.{opened-idle}
use Rattle.erase_journal.proofs.Data.{settled-own}
use Rattle.erase_journal.proofs.Opened.{none-named}
use Rattle.sector_slots.specs.Slots.{NoGeneration, data_blocks, data_block, raw_slot}
use Rattle.sector_slots.specs.Sectors.{HasSlotsAlone, IsSoundMap}
use Rattle.sector_slots.specs.Blocks.{AreSettled}
use Rattle.sector_slots.specs.Weak.{IsDoubtedStore, HasSureRoom, HasSureSpare, IsHalfStore, IsHalfChip, HasChipRoom, found, opened}
use Rattle.firm_chip.specs.Stores.{DoubtedStoresAreHalfAtEachDraw}
use Rattle.sector_slots.proofs.HalfBlocks.{block-read, block-half, spare-room, unopened-own, whole-slots}

-- Between two calls each block represents its own bytes, and no slot is without a generation.
record IsResting (m : List ℕ) : Type 0 where
  own : (c : ℕ) → c < data_blocks m → data_block m c ≡ part 4096 m (c + 4)
  whole : (c i : ℕ) → c < data_blocks m → i < 7 → raw_slot m c i ≢ NoGeneration

resting : (m : List ℕ) → IsSettled m → IsSoundMap m → AreSettled m → IsResting m
resting m settled sound blocks = record {
  own = λ c low. settled-own m (c + 4) settled;
  whole = λ c i low li. whole-slots m c i sound blocks.rest low li;
}

-- a block has an open entry, or none
either-opened : (t : Bool) → (t ≡ true) ⊎ (t ≡ false)
either-opened true = inl refl
either-opened false = inr refl

-- where no erase goes on no block has one
settled-unopened : (m : List ℕ) (b : ℕ) → IsSettled m → is_opened m b ≡ true → ⊥
settled-unopened m b h e =
    let some = (opened-idle Idle m b h.sound e).1 in
    let none = none-named m b h.none in
    omega (arith, some, none)

half-chip-store : (b : Bits) → IsSettled b.shown → IsHalfChip b → IsHalfStore b
half-chip-store b settled h = record {
  each = λ c low. h.each c low (elim (either-opened (is_opened b.shown (c + 4))) as (λ _. is_opened b.shown (c + 4) ≡ false) [
    | inl is ↦ absurd (settled-unopened b.shown (c + 4) settled is)
    | inr not ↦ not
  ]);
  room = room h.room;
} where
  room : HasChipRoom b → HasSureRoom b
  room (found r) = r
  room (opened c low is) = absurd (settled-unopened b.shown (c + 4) settled is)

doubted-chip : (b : Bits) (m' : List ℕ) → IsSettled b.shown → IsSoundMap b.shown → AreSettled b.shown → HasSlotsAlone b.shown → IsDoubtedStore b → Drawn b.weak b.shown m' → IsHalfChip (record { shown = m'; weak = b.weak })
doubted-chip b m' settled sound blocks alone h d =
    let r = resting b.shown settled sound blocks in
    let same : data_blocks m' ≡ data_blocks b.shown = ap (λ n. n / 4096 - 4) d.same_length in
    let room : HasSureSpare b = h.room in
    let read = λ (c : ℕ) (low : c < data_blocks b.shown) (shut : is_opened m' (c + 4) ≡ false). block-read b m' c d (r.own c low) (unopened-own m' (c + 4) shut) (h.each c low).edges (alone c low) in
    record {
      each = λ c low shut.
          let q : c < data_blocks b.shown = subst (λ n. c < n) same low in
          block-half b m' c (read c q shut) (h.bytes c q) (blocks.rest c q) (λ i li. r.whole c i q li) (h.each c q);
      room =
          let c = room.block in
          let q = room.number in
          let low : c < data_blocks m' = subst (λ n. c < n) (sym same) q in
          elim (either-opened (is_opened m' (c + 4))) as (λ _. HasChipRoom (record { shown = m'; weak = b.weak })) [
            | inl is ↦ opened c low is
            | inr shut ↦ found (spare-room b m' c (read c q shut) low room.spare room.slots (h.each c q).mark)
          ];
    }

pub doubted-half : DoubtedStoresAreHalfAtEachDraw
doubted-half b m' settled sound blocks alone h d =
    let chip = doubted-chip b m' settled sound blocks alone h d in
    (chip, λ now. half-chip-store (record { shown = m'; weak = b.weak }) now chip)
