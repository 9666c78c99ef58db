-- What the calls of a map leave of its invariant, and of the disk where they are cut, while nothing was lost since a firm mount.
use Rattle.std.proofs.Common.{◌≡◌, ◌≤◌, ℕ, Bool, List, length, sym, ap, ◌∙◌, subst, arith, inl, inr}
use Rattle.std.specs.Prelude.{Option, Some, None}
use Rattle.std.proofs.lemmas.Bool.{true≢false}
use Rattle.chip_model.specs.Memory.{byte}
use Rattle.nor_driver.specs.State.{NorState, IsFirmer, IsNorReady, NorFails, OnlyMemoryChanges, bits_in}
use Rattle.nor_driver.specs.declared.error.NorError.{NorError}
use Rattle.nor_driver.specs.declared.error.NorError.TheVariants as errors
use Rattle.nor_layout.specs.Superblock.{layout_in}
use Rattle.erase_journal.specs.Blocks.{SameChip}
use Rattle.erase_journal.specs.Steps.{RefusesFirmly, SucceedsSettled}
use Rattle.erase_journal.specs.Weak.{AreInterruptedAtEachDraw}
use Rattle.erase_journal.specs.declared.firmness.Firmness.{Firmness}
use Rattle.erase_journal.specs.declared.firmness.Firmness.TheVariants.{Firm}
use Rattle.sector_slots.specs.Blocks.{AreSettled}
use Rattle.sector_stock.specs.declared.index.BlockState.{BlockState}
use Rattle.sector_stock.specs.Losses.{IsFirmDiskIn}
use Rattle.sector_map.specs.declared.table.LiveSlots.{LiveSlots}
use Rattle.sector_map.specs.Losses.{IsFirmMap, IsSince, KeepsAtLoss, StandsAtEachDraw, WhileFirm}
use Rattle.sector_map.specs.Table.{IsTableOf}
use Rattle.sector_map.specs.Maps.{IsStore, KnownWhile, SetLeaves}
use Rattle.sector_map.proofs.KeepLosses.{read-cut, read-stays}
use Rattle.sector_map.proofs.MapCalls.{keeps-none}
use Rattle.sector_map.proofs.Restoring.{known-served, served-none}

-- the superblock is as it was
pub layout-stays : (m m' : List ℕ) → SameChip m m' → layout_in m' ≡ layout_in m
layout-stays m m' chip = chip.superblock 8 (omega arith)

-- A map stays firm whose superblock stays, and whose disk does.
pub firm-keeps : (o : Option NorError) (f : Firmness) (a b : NorState) (p q : List BlockState) → SameChip a.memory b.memory → IsFirmDiskIn (bits_in b) q → IsFirmMap o f a p → IsFirmMap o f b q
firm-keeps o f a b p q chip disk h = record {
  latched_is = h.latched_is;
  firmness_is = h.firmness_is;
  layout = layout-stays a.memory b.memory chip ∙ h.layout;
  disk = disk;
}

-- What is counted doesn't fall:
pub since-on : (firm : Bool) (cuts slows : ℕ) (a b : NorState) → a.cuts ≤ b.cuts → a.slows ≤ b.slows → IsSince firm cuts slows a → IsSince firm cuts slows b
since-on firm cuts slows a b c s since = record {
  cuts_are = λ is. (let low = since.cuts_are is in omega (arith, low, c));
  slows_are = λ is. (let low = since.slows_are is in omega (arith, low, s));
}

-- in a call that answered Ok nothing was lost,
pub since-stays : (firm : Bool) (cuts slows : ℕ) (a b : NorState) → OnlyMemoryChanges a b → IsSince firm cuts slows a → IsSince firm cuts slows b
since-stays firm cuts slows a b kept since = let c = kept.cuts in let s = kept.slows in since-on firm cuts slows a b (omega (arith, c)) (omega (arith, s)) since

-- and the chip stays a firm disk.
pub firm-stays : (firm : Bool) (cuts slows : ℕ) (o : Option NorError) (f : Firmness) (a b : NorState) (p q : List BlockState) → OnlyMemoryChanges a b → SameChip a.memory b.memory → (f ≡ Firm → IsFirmDiskIn (bits_in a) p → IsFirmDiskIn (bits_in b) q)
    → WhileFirm firm cuts slows a (IsFirmMap o f a p) → WhileFirm firm cuts slows b (IsFirmMap o f b q)
firm-stays firm cuts slows o f a b p q kept chip stays h = λ is c s.
    let was = h is (sym kept.cuts ∙ c) (sym kept.slows ∙ s) in
    firm-keeps o f a b p q chip (stays was.firmness_is was.disk) was

-- One that only read.
pub known-read : (o : Option NorError) (table : List LiveSlots) (a b : NorState) (i j : Bool) → o ≡ None → KnownWhile o table a i → SucceedsSettled a b → b.memory ≡ a.memory → j ≡ i → KnownWhile o table b j
known-read o table a b i j none known done same index =
    let s = served-none o table a i none known in
    known-served o table b j none (record {
      ready = (done.kept.powered ∙ s.ready.0, done.kept.is_slow ∙ s.ready.1);
      settled = done.settled;
      store = subst (λ m. IsStore m) (sym same) s.store;
      blocks = subst (λ m. AreSettled m) (sym same) s.blocks;
      tabled = subst (λ m. IsTableOf table m) (sym same) s.tabled;
      index = index ∙ s.index;
    })

pub read-firm : (firm : Bool) (cuts slows : ℕ) (o : Option NorError) (f : Firmness) (a b : NorState) (p q : List BlockState) → OnlyMemoryChanges a b → b.memory ≡ a.memory → b.weak ≡ a.weak → q ≡ p
    → WhileFirm firm cuts slows a (IsFirmMap o f a p) → WhileFirm firm cuts slows b (IsFirmMap o f b q)
read-firm firm cuts slows o f a b p q kept same weak list h = firm-stays firm cuts slows o f a b p q kept
    (record { same_length = ap length same; superblock = λ k low. ap (λ m. byte m k) same }) (λ is. read-stays a b p q same weak list) h

-- A call that failed: what is counted grows,
grown : (e : NorError) (a b : NorState) → NorFails e a b → (a.cuts ≤ b.cuts) × (a.slows ≤ b.slows)
grown errors.Cut a b f =
    let same = f.1 in
    (elim f.0 as (λ _. a.cuts ≤ b.cuts) [ inl came ↦ omega (arith, came) | inr off ↦ (let e = off.1 in omega (arith, e)) ], omega (arith, same))
grown errors.Slow a b f =
    let same = f.1 in
    (omega (arith, same), elim f.0 as (λ _. a.slows ≤ b.slows) [ inl came ↦ omega (arith, came) | inr slow ↦ (let e = slow.1 in omega (arith, e)) ])

-- one of the two where nothing stood before it,
counted : (e : NorError) (a b : NorState) → IsNorReady a → NorFails e a b → b.cuts ≡ a.cuts → b.slows ≡ a.slows → ⊥
counted errors.Cut a b ready f c s = elim f.0 as (λ _. ⊥) [ inl came ↦ omega (arith, came, c) | inr off ↦ true≢false (sym ready.0 ∙ off.0) ]
counted errors.Slow a b ready f c s = elim f.0 as (λ _. ⊥) [ inl came ↦ omega (arith, came, s) | inr slow ↦ true≢false (sym slow.0 ∙ ready.1) ]

pub since-fails : (firm : Bool) (cuts slows : ℕ) (e : NorError) (a b : NorState) → RefusesFirmly e a b → IsSince firm cuts slows a → IsSince firm cuts slows b
since-fails firm cuts slows e a b r since = (let g = grown e a b r.fails in since-on firm cuts slows a b g.0 g.1 since)

-- so that nothing is to be shown any more.
pub firm-fails : {H : Type 0} (firm : Bool) (cuts slows : ℕ) (o : Option NorError) (e : NorError) (table : List LiveSlots) (a b : NorState) (i : Bool) → o ≡ None → KnownWhile o table a i → RefusesFirmly e a b → IsSince firm cuts slows a → WhileFirm firm cuts slows b H
firm-fails firm cuts slows o e table a b i none known r since = λ is c s.
    let ready = (served-none o table a i none known).ready in
    let g = grown e a b r.fails in
    let cuts0 = since.cuts_are is in
    let slows0 = since.slows_are is in
    let cuts1 = g.0 in
    let slows1 = g.1 in
    absurd (counted e a b ready r.fails (omega (arith, cuts0, cuts1, c)) (omega (arith, slows0, slows1, s)))

-- What is latched isn't firm.
pub firm-latched : {H : Type 0} (firm : Bool) (cuts slows : ℕ) (o : Option NorError) (e : NorError) (f : Firmness) (a : NorState) (p : List BlockState) → o ≡ Some e → WhileFirm firm cuts slows a (IsFirmMap o f a p) → WhileFirm firm cuts slows a H
firm-latched firm cuts slows o e f a p some h = λ is c s. (let none = (h is c s).latched_is in absurd (cc (some, none)))

-- What a call leaves that was cut, by what its store does;
pub firm-cut : {H : Type 0} (firm : Bool) (cuts slows : ℕ) (o : Option NorError) (f : Firmness) (a : NorState) (p : List BlockState) → (f ≡ Firm → layout_in a.memory ≡ 2 → IsFirmDiskIn (bits_in a) p → H) → WhileFirm firm cuts slows a (IsFirmMap o f a p) → WhileFirm firm cuts slows a H
firm-cut firm cuts slows o f a p loses h = λ is c s. (let was = h is c s in loses was.firmness_is was.layout was.disk)

-- the superblock too,
pub left-chip : (m m' : List ℕ) (g : ℕ) (x : List ℕ) → SetLeaves g x m m' → SameChip m m'
left-chip m m' g x left = elim left as (λ _. SameChip m m') [ inl k ↦ k.chip | inr w ↦ w.chip ]

pub stands-left : (a b : NorState) → layout_in a.memory ≡ 2 → SameChip a.memory b.memory → AreInterruptedAtEachDraw (bits_in b) → StandsAtEachDraw (bits_in b)
stands-left a b two chip journals = record { layout = layout-stays a.memory b.memory chip ∙ two; journals = journals }

-- one that only read.
pub read-loses : {H : Type 0} (firm : Bool) (cuts slows : ℕ) (o : Option NorError) (f : Firmness) (table : List LiveSlots) (a b : NorState) (i : Bool) (p : List BlockState) → o ≡ None → KnownWhile o table a i → b.memory ≡ a.memory → b.weak ≡ a.weak
    → (e : NorError) → RefusesFirmly e a b → (H → e ≡ errors.Cut) → WhileFirm firm cuts slows a (IsFirmMap o f a p) → WhileFirm firm cuts slows a (H → KeepsAtLoss a.memory (bits_in b) × StandsAtEachDraw (bits_in b))
read-loses firm cuts slows o f table a b i p none known same weak e refused is_cut =
    let served = served-none o table a i none known in
    firm-cut firm cuts slows o f a p (λ is two disk cut. (read-cut a.memory a b p disk served.blocks (keeps-none a.memory served.store) same weak, record { layout = ap (λ m. layout_in m) same ∙ two; journals = refused.journals (is_cut cut) disk.settled disk.journals }))
