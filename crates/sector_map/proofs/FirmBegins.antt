-- A map begins as a firm one, and is one again after a restart.
use Rattle.std.proofs.Common.{◌≡◌, ◌≤◌, ℕ, Bool, true, false, List, refl, sym, ap, ◌∙◌, subst, arith}
use Rattle.std.specs.Prelude.{Option, None}
use Rattle.nor_driver.specs.State.{NorState, OnlyMemoryChanges, bits_in}
use Rattle.nor_layout.specs.Superblock.{layout_in}
use Rattle.erase_journal.specs.Recovery.{Recovers}
use Rattle.erase_journal.specs.Weak.{AreRecoveredJournals}
use Rattle.erase_journal.specs.declared.firmness.Firmness.{Firmness}
use Rattle.erase_journal.specs.declared.firmness.Firmness.TheVariants.{Firm}
use Rattle.erase_journal.proofs.Interrupted.{interrupted-same}
use Rattle.nor_driver.specs.declared.error.NorError.{NorError}
use Rattle.sector_slots.specs.Slots.{IsClean}
use Rattle.sector_slots.specs.Weak.{IsHalfStore}
use Rattle.sector_stock.specs.declared.index.BlockState.{BlockState}
use Rattle.sector_stock.specs.Losses.{IsFirmDiskIn, KeepsSuspects, suspects_in}
use Rattle.sector_map.specs.Filling.{FillsFirmly, IsRecoveredChip, RenewCorrupt, RenewCut, RenewSlow, Renewed}
use Rattle.sector_map.specs.Losses.{BeginsFirmly, HoldsFirmDisk, IsFirmMap, IsSince, WhileFirm}
use Rattle.sector_map.specs.Maps.{KnownWhile}
use Rattle.sector_map.specs.declared.table.LiveSlots.{LiveSlots}
use Rattle.sector_map.proofs.KeepLosses.{suspects-kept}
use Rattle.sector_map.proofs.MountFirmly.{half-chip-same}
use Rattle.sector_map.proofs.Restoring.{blocks-clean, served-none}

-- the superblock was read
pub look-begins : (cuts slows : ℕ) (f : Firmness) (a b : NorState) → b.memory ≡ a.memory → OnlyMemoryChanges a b → BeginsFirmly cuts slows f a → BeginsFirmly cuts slows f b
look-begins cuts slows f a b same kept h = record {
  firmness_is = h.firmness_is;
  cuts_are = kept.cuts ∙ h.cuts_are;
  slows_are = kept.slows ∙ h.slows_are;
  fit = record {
    layout = ap (λ m. layout_in m) same ∙ h.fit.layout;
    journals = interrupted-same (bits_in a) (bits_in b) kept.bits same h.fit.journals;
    store = half-chip-same a b kept.bits same h.fit.store;
    clean = subst (λ m. IsClean m) (sym same) h.fit.clean;
  };
}

-- the journals were recovered
pub recovered-fills : (cuts slows : ℕ) (f : Firmness) (a b : NorState) → Recovers a b → AreRecoveredJournals (bits_in b) → IsHalfStore (bits_in b) → BeginsFirmly cuts slows f a → FillsFirmly cuts slows f b
recovered-fills cuts slows f a b ok journals store h = record {
  firmness_is = h.firmness_is;
  cuts_are = ok.kept.cuts ∙ h.cuts_are;
  slows_are = ok.kept.slows ∙ h.slows_are;
  chip = record {
    layout = ok.blocks.chip.superblock 8 (omega arith) ∙ h.fit.layout;
    journals = journals;
    store = store;
    clean = blocks-clean a.memory b.memory ok.blocks h.fit.clean;
  };
}

-- and the table was made
pub begun-since : (firm : Bool) (cuts slows : ℕ) (f : Firmness) (a b : NorState) → (firm ≡ true → FillsFirmly cuts slows f a) → OnlyMemoryChanges a b → IsSince firm cuts slows b
begun-since firm cuts slows f a b fills kept = record {
  cuts_are = λ is. (let e = (fills is).cuts_are in let k = kept.cuts in omega (arith, e, k));
  slows_are = λ is. (let e = (fills is).slows_are in let k = kept.slows in omega (arith, e, k));
}

pub begun-firm : (firm : Bool) (cuts slows : ℕ) (f : Firmness) (a b : NorState) (blocks : List BlockState) → (firm ≡ true → FillsFirmly cuts slows f a)
    → (f ≡ Firm → IsRecoveredChip (bits_in a) → (layout_in b.memory ≡ 2) × IsFirmDiskIn (bits_in b) blocks) → WhileFirm firm cuts slows b (IsFirmMap None f b blocks)
begun-firm firm cuts slows f a b blocks fills disk = λ is c s.
    let h = fills is in
    let d = disk h.firmness_is h.chip in
    record { latched_is = refl; firmness_is = h.firmness_is; layout = d.0; disk = d.1 }

-- a firm map is a firm disk between two calls
pub holds-firm : (o : Option NorError) (f : Firmness) (table : List LiveSlots) (a : NorState) (blocks : List BlockState) (i : Bool) → KnownWhile o table a i → IsFirmMap o f a blocks → HoldsFirmDisk (bits_in a)
holds-firm o f table a blocks i known h = record {
  suspect = suspects_in blocks;
  layout = h.layout;
  rest = (served-none o table a i h.latched_is known).blocks.rest;
  disk = h.disk;
}

pub behind-firm : (firm : Bool) (cuts slows : ℕ) (o : Option NorError) (f : Firmness) (table : List LiveSlots) (a b : NorState) (blocks : List BlockState) (i : Bool) → KnownWhile o table a i → b.memory ≡ a.memory → b.weak ≡ a.weak
    → WhileFirm firm cuts slows a (IsFirmMap o f a blocks) → WhileFirm firm cuts slows a (HoldsFirmDisk (bits_in b))
behind-firm firm cuts slows o f table a b blocks i known same weak h = λ is c s.
    subst (λ w. HoldsFirmDisk (record { shown = b.memory; weak = w })) (sym weak) (subst (λ m. HoldsFirmDisk (record { shown = m; weak = a.weak })) (sym same) (holds-firm o f table a blocks i known (h is c s)))

-- A restart.
pub renewed-firm : (firm : Bool) (cuts slows : ℕ) (o : Option NorError) (f : Firmness) (table after : List LiveSlots) (a b : NorState) (blocks later : List BlockState) (i j : Bool) → KnownWhile o table a i → Renewed after a b j
    → (f ≡ Firm → a.is_slow ≡ false → HoldsFirmDisk (bits_in a) → (layout_in b.memory ≡ 2) × IsFirmDiskIn (bits_in b) later)
    → WhileFirm firm cuts slows a (IsFirmMap o f a blocks) → WhileFirm firm cuts slows b (IsFirmMap None f b later)
renewed-firm firm cuts slows o f table after a b blocks later i j known r disk h = λ is c s.
    let was = h is (sym r.cuts ∙ c) (sym r.slows ∙ s) in
    let served = served-none o table a i was.latched_is known in
    let d = disk was.firmness_is served.ready.1 (holds-firm o f table a blocks i known was) in
    record { latched_is = refl; firmness_is = was.firmness_is; layout = d.0; disk = d.1 }

-- a firm map isn't found corrupt, and one that failed counted something
pub corrupt-firm : {H : Type 0} (firm : Bool) (cuts slows : ℕ) (o : Option NorError) (f : Firmness) (table : List LiveSlots) (a b : NorState) (blocks : List BlockState) (i : Bool) → KnownWhile o table a i → RenewCorrupt a b
    → WhileFirm firm cuts slows a (IsFirmMap o f a blocks) → WhileFirm firm cuts slows b H
corrupt-firm firm cuts slows o f table a b blocks i known r h = λ is c s.
    let was = h is (sym r.cuts ∙ c) (sym r.slows ∙ s) in
    let served = served-none o table a i was.latched_is known in
    absurd (r.corrupt served.ready.1 served.store)

pub cut-firm : {H : Type 0} (firm : Bool) (cuts slows : ℕ) (a b : NorState) → RenewCut a b → IsSince firm cuts slows a → WhileFirm firm cuts slows b H
cut-firm firm cuts slows a b r since = λ is c s. (let low = since.cuts_are is in let more = r.cuts in absurd (omega (arith, low, more, c)))

pub slow-firm : {H : Type 0} (firm : Bool) (cuts slows : ℕ) (a b : NorState) → RenewSlow a b → IsSince firm cuts slows a → WhileFirm firm cuts slows b H
slow-firm firm cuts slows a b r since = λ is c s. (let low = since.slows_are is in let more = r.slows in absurd (omega (arith, low, more, s)))

-- From now on blocks are chosen by erases: the same are suspect.
pub level-firm : (firm : Bool) (cuts slows : ℕ) (o : Option NorError) (f : Firmness) (a b : NorState) (p q : List BlockState) → b ≡ a → KeepsSuspects p q → WhileFirm firm cuts slows a (IsFirmMap o f a p) → WhileFirm firm cuts slows b (IsFirmMap o f b q)
level-firm firm cuts slows o f a b p q same kept h = subst (λ (z : NorState). WhileFirm firm cuts slows z (IsFirmMap o f z q)) (sym same) (λ is c s.
    let was = h is c s in
    record { latched_is = was.latched_is; firmness_is = was.firmness_is; layout = was.layout; disk = suspects-kept (bits_in a) p q kept was.disk })
