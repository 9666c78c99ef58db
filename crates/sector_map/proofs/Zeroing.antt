-- A sector is written with zeros, and then cleared.
use Rattle.std.proofs.Common.{◌≡◌, ℕ, ◌<◌, Bool, List, length, ◌∙◌, subst, sym, inl, inr}
use Rattle.chip_model.specs.Geometry.{sector_count}
use Rattle.nor_driver.specs.State.{NorState}
use Rattle.erase_journal.proofs.Renewal.{same-chip-on}
use Rattle.sector_map.specs.Maps.{KeepsMap, Sets, SetLeaves, Wrote}
use Rattle.sector_map.specs.declared.table.LiveSlots.{LiveSlots}

later-count : (h : ℕ) (a b : List ℕ) → length b ≡ length a → h < sector_count (length a) → h < sector_count (length b)
later-count h a b e low = subst (λ n. h < sector_count n) (sym e) low

pub sets-keeps : (g : ℕ) (x a b c : List ℕ) → g < sector_count (length a) → Sets g x a b → KeepsMap b c → Sets g x a c
sets-keeps g x a b c inside p q = record {
  chip = same-chip-on a b c p.chip q.chip;
  store = q.store;
  alone = λ s. q.alone (p.alone s);
  there = λ clean. q.sectors (p.clean clean) g (later-count g a b p.chip.same_length inside) ∙ p.there clean;
  others = λ clean h low ne. q.sectors (p.clean clean) h (later-count h a b p.chip.same_length low) ∙ p.others clean h low ne;
  clean = λ clean. q.clean (p.clean clean);
}

pub sets-twice : (g : ℕ) (x a b c : List ℕ) → Sets g x a b → Sets g x b c → Sets g x a c
sets-twice g x a b c p q = record {
  chip = same-chip-on a b c p.chip q.chip;
  store = q.store;
  alone = λ s. q.alone (p.alone s);
  there = λ clean. q.there (p.clean clean);
  others = λ clean h low ne. q.others (p.clean clean) h (later-count h a b p.chip.same_length low) ne ∙ p.others clean h low ne;
  clean = λ clean. q.clean (p.clean clean);
}

pub leaves-twice : (g : ℕ) (x a b c : List ℕ) → g < sector_count (length a) → Sets g x a b → SetLeaves g x b c → SetLeaves g x a c
leaves-twice g x a b c inside p (inl k) = inr (sets-keeps g x a b c inside p k)
leaves-twice g x a b c inside p (inr q) = inr (sets-twice g x a b c p q)

pub wrote-twice : (g : ℕ) (x : List ℕ) (t u : List LiveSlots) (a b c : NorState) (i j : Bool) → Wrote g x u a b i → Wrote g x t b c j → Wrote g x t a c j
wrote-twice g x t u a b c i j p q = record { sets = sets-twice g x a.memory b.memory c.memory p.sets q.sets; served = q.served }
