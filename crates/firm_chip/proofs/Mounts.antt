-- What later power-ons read of a chip that was mounted firmly.
use Rattle.std.proofs.Common.{◌≡◌, ◌<◌, List, ℕ, length, true, refl, sym, ap, ◌∙◌, subst, arith}
use Rattle.chip_model.specs.Geometry.{sector_count}
use Rattle.chip_model.specs.Wavering.{Drawn}
use Rattle.nor_driver.specs.State.{NorState, bits_in}
use Rattle.nor_layout.specs.Layouts.{layout_of}
use Rattle.nor_layout.specs.Superblock.{layout_in}
use Rattle.erase_journal.specs.Weak.{AreFirmJournals}
use Rattle.erase_journal.proofs.Drawing.{bits_drawn}
use Rattle.erase_journal.proofs.Draws.{firm-byte, firm-drawn}
use Rattle.erase_journal.proofs.Losses.{firm-interrupted}
use Rattle.sector_slots.specs.Losses.{IsFirmDisk}
use Rattle.sector_slots.specs.Weak.{IsDoubtedStore}
use Rattle.sector_map.specs.Maps.{Mounted, IsSettledMap, is_layout, geometry_of}
use Rattle.sector_map.proofs.Marking.{disk-laid}
use Rattle.sector_map.proofs.FirmFilling.{doubted-disk}
use Rattle.firm_chip.specs.Draws.{IsSameDisk}
use Rattle.sector_slots.specs.Fit.{IsFitForFirmMount}
use Rattle.firm_chip.specs.Stores.{ReadsAgain}
use Rattle.firm_chip.proofs.Stores.{doubted-draw}
use Rattle.firm_chip.proofs.HalfDraws.{doubted-half}

-- a chip of layout 2 stays one
still-two : (a b : NorState) → layout_in a.memory ≡ 2 → Mounted a b → layout_in b.memory ≡ 2
still-two a b two mounted = mounted.keeps.disk.superblock 8 (omega arith) (λ e. omega (arith, e)) ∙ two

same-disk : (a b : NorState) (later : List ℕ) → IsFitForFirmMount (bits_in a) → Mounted a b → IsSettledMap b.memory → AreFirmJournals (bits_in b) → IsDoubtedStore (bits_in b) → Drawn b.weak b.memory later → IsSameDisk b.memory later
same-disk a b later fit mounted settled journals store drawn =
    let k = mounted.keeps in
    doubted-draw (bits_in b) later journals store k.store.journals k.store.slots (k.store.slots.groups.layout (still-two a b fit.layout mounted)) settled.single (k.clean fit.clean) drawn

pub read-again : (a b : NorState) (later : List ℕ) → IsFitForFirmMount (bits_in a) → Mounted a b → IsSettledMap b.memory → AreFirmJournals (bits_in b) → IsDoubtedStore (bits_in b) → Drawn b.weak b.memory later → ReadsAgain a.memory later
read-again a b later fit mounted settled journals store drawn =
    let k = mounted.keeps in
    let same = same-disk a b later fit mounted settled journals store drawn in
    let n = k.disk.same_length in
    record {
      same_length = same.same_length ∙ n;
      mountable = record {
        superblock = subst (λ z. is_layout (layout_of later (geometry_of z)) ≡ true) (sym same.same_length) (ap (λ z. is_layout z) (same.superblock (geometry_of (length b.memory))) ∙ disk-laid a.memory b.memory k.disk mounted.mountable.superblock);
        store = record { journals = same.journals; slots = same.slots };
      };
      sectors = λ g low. same.sectors g (subst (λ z. g < sector_count z) (sym n) low) ∙ k.sectors g low;
    }

pub fit-again : (a b : NorState) (later : List ℕ) → IsFitForFirmMount (bits_in a) → Mounted a b → IsSettledMap b.memory → AreFirmJournals (bits_in b) → IsDoubtedStore (bits_in b) → Drawn b.weak b.memory later
    → IsFitForFirmMount (record { shown = later; weak = b.weak })
fit-again a b later fit mounted settled journals store drawn =
    let k = mounted.keeps in
    let two = still-two a b fit.layout mounted in
    record {
      layout = firm-byte b.memory b.weak later 8 drawn (journals.superblock 8 (omega arith)) ∙ two;
      journals = firm-interrupted (bits_drawn later (bits_in b)) (firm-drawn (bits_in b) later drawn journals);
      store = (doubted-half (bits_in b) later settled.journals k.store.slots settled.blocks (k.store.slots.groups.layout two) store drawn).0;
      clean = (same-disk a b later fit mounted settled journals store drawn).clean;
    }

-- It is the disk that the calls keep, with all blocks suspect.
pub firm-disk : (a b : NorState) → IsFitForFirmMount (bits_in a) → Mounted a b → IsSettledMap b.memory → AreFirmJournals (bits_in b) → IsDoubtedStore (bits_in b) → IsFirmDisk (bits_in b) (λ c. true)
firm-disk a b fit mounted settled journals store =
    let k = mounted.keeps in
    doubted-disk (bits_in b) (λ c. true) (λ c low. refl) settled.journals k.store.slots (k.store.slots.groups.layout (still-two a b fit.layout mounted)) (k.clean fit.clean) settled.single journals store
