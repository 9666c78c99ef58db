-- The slots of a memory after one call, and after another.
use Rattle.std.proofs.Common.{ℕ, List, refl, ◌∙◌, arith}
use Rattle.erase_journal.specs.Blocks.{SameChip}
use Rattle.sector_slots.specs.Slots.{SameSlots, OnlySlot}

pub chip-after : (a b c : List ℕ) → SameChip a b → SameChip b c → SameChip a c
chip-after a b c p q = record { same_length = q.same_length ∙ p.same_length; superblock = λ k low. q.superblock k low ∙ p.superblock k low }

-- the same slots, and the same but for one
pub same-slots : (m : List ℕ) → SameSlots m m
same-slots m = record { chip = record { same_length = refl; superblock = λ k low. refl }; each = λ s low. refl; clean = λ h. h }

pub same-after : (a b c : List ℕ) → SameSlots a b → SameSlots b c → SameSlots a c
same-after a b c p q = record {
  chip = chip-after a b c p.chip q.chip;
  each = λ s low. let n = p.chip.same_length in q.each s (omega (arith, n)) ∙ p.each s low;
  clean = λ h. q.clean (p.clean h);
}

pub same-only : (w : ℕ) (a b : List ℕ) → SameSlots a b → OnlySlot w a b
same-only w a b p = record { chip = p.chip; others = λ s low other. p.each s low }

pub only-after : (w : ℕ) (a b c : List ℕ) → OnlySlot w a b → OnlySlot w b c → OnlySlot w a c
only-after w a b c p q = record {
  chip = chip-after a b c p.chip q.chip;
  others = λ s low other. let n = p.chip.same_length in q.others s (omega (arith, n)) other ∙ p.others s low other;
}
