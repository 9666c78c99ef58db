-- What a firm mount leaves of a chip that is fit for it, and a restart of a firm disk.
use Rattle.std.proofs.Common.{◌≡◌, ◌<◌, ◌+◌, ℕ, Bool, List, length, true, false, refl, sym, ap, ◌∙◌, subst, arith}
use Rattle.std.specs.Prelude.{◌==◌, ◌&&◌}
use Rattle.std.proofs.lemmas.Bool.{true≢false}
use Rattle.chip_model.specs.Wavering.{Bits}
use Rattle.nor_driver.specs.State.{NorState, bits_in}
use Rattle.nor_layout.specs.Superblock.{layout_in, mixed_in}
use Rattle.erase_journal.specs.Journals.{IsSettled}
use Rattle.erase_journal.specs.Recovery.{Restored}
use Rattle.erase_journal.specs.Steps.{SucceedsSettled}
use Rattle.erase_journal.specs.Weak.{AreFirmJournals, AreRecoveredJournals, is_firm}
use Rattle.erase_journal.proofs.FirmJournals.{firm-journals-stay}
use Rattle.erase_journal.proofs.Losses.{half-entries}
use Rattle.sector_slots.specs.Losses.{IsFirmDisk}
use Rattle.sector_slots.specs.Sectors.{HasSlotsAlone, IsSingle, IsSoundMap}
use Rattle.sector_slots.specs.Slots.{IsClean, data_blocks}
use Rattle.sector_slots.specs.Weak.{IsDoubtedStore, IsSureBlock, spare}
use Rattle.sector_slots.proofs.ChipBlocks.{rest-sources}
use Rattle.sector_slots.proofs.ChipLosses.{change-half, unchanged}
use Rattle.sector_slots.proofs.DiskLaws.{single-newer}
use Rattle.sector_slots.proofs.UnopenedLaws.{journals-unopened}
use Rattle.sector_stock.specs.Losses.{AreSuspect, IsFirmDiskIn, suspects_in}
use Rattle.sector_stock.specs.declared.index.BlockState.{BlockState}
use Rattle.sector_map.specs.Filling.{IsRecoveredChip}
use Rattle.sector_map.specs.Losses.{HoldsFirmDisk}
use Rattle.sector_map.specs.Marking.{is_unmarked}
use Rattle.sector_map.specs.Table.{Mounts}
use Rattle.sector_map.specs.declared.table.LiveSlots.{LiveSlots}
use Rattle.sector_map.proofs.MountFirmly.{recovered-half}
use Rattle.sector_map.proofs.Restoring.{blocks-clean, mounts-keeps}

-- a chip of layout 2 isn't marked
pub of-two : (m : List ℕ) → layout_in m ≡ 2 → is_unmarked m ≡ false
of-two m two = ap (λ n. (n == 1) && (mixed_in m == 255)) two

-- The chip is a firm disk: by these blocks that are suspect, all of them.
pub doubted-disk : (b : Bits) (suspect : ℕ → Bool) → ((c : ℕ) → c < data_blocks b.shown → suspect c ≡ true) → IsSettled b.shown → IsSoundMap b.shown → HasSlotsAlone b.shown → IsClean b.shown → IsSingle b.shown → AreFirmJournals b → IsDoubtedStore b → IsFirmDisk b suspect
doubted-disk b suspect all settled sound alone clean single journals store =
    let r = store.room in
    record {
      bytes = store.bytes;
      settled = settled;
      sound = sound;
      alone = alone;
      clean = clean;
      newer = single-newer b single;
      journals = journals;
      store = λ c low. subst (λ s. IsSureBlock b s c) (sym (all c low)) (store.each c low);
      room = spare r.block r.number r.spare r.slots;
    }

-- A mount of a chip that is fit for it.
pub filled-disk : (a b : NorState) (table : List LiveSlots) (blocks : List BlockState) → IsRecoveredChip (bits_in a) → Mounts a.memory table b.memory → SucceedsSettled a b → AreFirmJournals (bits_in b) → IsDoubtedStore (bits_in b)
    → AreSuspect blocks → length blocks ≡ data_blocks b.memory → (layout_in b.memory ≡ 2) × IsFirmDiskIn (bits_in b) blocks
filled-disk a b table blocks fit made done journals store suspect listed =
    let sound = (mounts-keeps a.memory b.memory table made done.settled).store.slots in
    let two : layout_in b.memory ≡ 2 = made.disk.superblock 8 (omega arith) (λ e. omega (arith, e)) ∙ fit.layout in (
      two,
      doubted-disk (bits_in b) (λ c. suspects_in blocks c) (λ c low. suspect c (subst (λ n. c < n) (sym listed) low)) done.settled sound (sound.groups.layout two) (made.clean fit.clean) made.single journals store,
    )

-- A firm vote is one of a recovery.
recovered-journals : (b : Bits) → AreFirmJournals b → AreRecoveredJournals b
recovered-journals b h = record {
  superblock = h.superblock;
  votes = λ x. (λ k low. is_firm ((h.votes x).0 k low), λ k low. is_firm ((h.votes x).1 k low));
  entries = half-entries b h.entries;
}

-- A restart of a firm disk, where no copying goes on.
pub restored-chip : (a b : NorState) → a.is_slow ≡ false → HoldsFirmDisk (bits_in a) → Restored a b → IsRecoveredChip (bits_in b)
restored-chip a b quick h r =
    let disk = h.disk in
    let f = r.bits quick in
    let same = r.blocks quick in
    let half = change-half (bits_in a) h.suspect (bits_in a) disk (unchanged (bits_in a) (bits_in a) h.suspect disk (rest-sources a.memory h.rest) refl) a.memory (record { same_length = refl; firm = λ i k z. refl }) in
    let shut = λ (e : ℕ). journals-unopened (bits_in a) (bits_in a) refl (λ i low. (refl, refl)) disk.settled disk.journals a.memory (record { same_length = refl; firm = λ i k z. refl }) e in
    record {
      layout = same.chip.superblock 8 (omega arith) ∙ h.layout;
      journals = recovered-journals (bits_in b) (firm-journals-stay (bits_in a) (bits_in b) f disk.settled r.settled disk.journals);
      store = recovered-half a b f same (λ c low o. absurd (true≢false (sym o ∙ shut (c + 4)))) half;
      clean = blocks-clean a.memory b.memory same disk.clean;
    }
