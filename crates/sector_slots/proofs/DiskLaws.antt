-- A chip as a firm mount left it, after calls that answered Ok.
use Rattle.std.proofs.Common.{◌≡◌, ℕ, ◌+◌, ◌-◌, ◌<◌, Bool, length, ap, arith}
use Rattle.chip_model.specs.Geometry.{block_count}
use Rattle.chip_model.specs.Wavering.{Bits}
use Rattle.nor_driver.specs.State.{NorState, IsFirmer, bits_in}
use Rattle.erase_journal.specs.Steps.{SucceedsSettled}
use Rattle.erase_journal.proofs.FirmJournals.{firm-journals-stay}
use Rattle.erase_journal.proofs.WeakLaws.{firm-stays}
use Rattle.sector_slots.specs.Slots.{IsClean, IsSpareIn, data_blocks, raw_slot}
use Rattle.sector_slots.specs.Sectors.{HasSlotsAlone, IsSingle, IsSoundMap}
use Rattle.sector_slots.specs.Losses.{AreNewerFirm, HasSureSlots, IsFirmDisk}
use Rattle.sector_slots.specs.Weak.{HasByteBits, HasSureRoom, IsFirmStore, IsWhollyFirm, block_place, spare}
use Rattle.sector_slots.proofs.FirmLaws.{sure-stays, wholly-slot}

pub byte-bits-stay : (a b : Bits) → IsFirmer a b → (c : ℕ) → HasByteBits a c → HasByteBits b c
byte-bits-stay a b f c h k j low high = firm-stays a b (block_place c + k) j f (h k j low high)

-- no sector has two live slots
pub single-newer : (b : Bits) → IsSingle b.shown → AreNewerFirm b
single-newer b single s t g j k x y p q other = absurd (other (single.one s t g j k x y p q))

pub wholly-room : (b : Bits) (c : ℕ) → c < data_blocks b.shown → IsSpareIn b.shown c → IsWhollyFirm b.weak c → HasSureRoom b
wholly-room b c low is firm = spare c low is (λ i small. wholly-slot b c i small firm)

-- a wholly free block that reads as it did
pub sure-slots-stay : (a b : Bits) → IsFirmer a b → (c : ℕ) → ((i : ℕ) → i < 7 → raw_slot b.shown c i ≡ raw_slot a.shown c i) → HasSureSlots a c → HasSureSlots b c
sure-slots-stay a b f c same h i low = sure-stays a b f c i low (same i low) (h i low)

pub disk-after : (a b : NorState) (suspect later : ℕ → Bool) → IsFirmDisk (bits_in a) suspect → SucceedsSettled a b → length b.memory ≡ length a.memory → IsSoundMap b.memory → HasSlotsAlone b.memory → IsClean b.memory
    → AreNewerFirm (bits_in b) → IsFirmStore (bits_in b) later → HasSureRoom (bits_in b) → IsFirmDisk (bits_in b) later
disk-after a b suspect later h done size sound alone clean newer store room =
    let n : data_blocks b.memory ≡ data_blocks a.memory = ap (λ k. block_count k - 4) size in
    record {
      bytes = λ c low. byte-bits-stay (bits_in a) (bits_in b) done.kept.bits c (h.bytes c (omega (arith, low, n)));
      settled = done.settled;
      sound = sound;
      alone = alone;
      clean = clean;
      newer = newer;
      journals = firm-journals-stay (bits_in a) (bits_in b) done.kept.bits h.settled done.settled h.journals;
      store = store;
      room = room;
    }
