-- A superblock that is kept, and what is known of a disk while no operation was slow.
use Rattle.std.proofs.Common.{◌≡◌, ℕ, ◌≤◌, false, List, refl, sym, ◌∙◌, arith, inl, inr}
use Rattle.nor_driver.specs.State.{NorState, OnlyMemoryChanges, Refuses}
use Rattle.nor_driver.specs.declared.error.NorError.{NorError}
use Rattle.nor_driver.specs.declared.error.NorError.TheVariants as errors
use Rattle.nor_driver.proofs.CallLaws.{refuses-slows}
use Rattle.erase_journal.specs.Blocks.{SameChip}
use Rattle.sector_map.specs.Maps.{IsLaidOut, MapRestored, MapRestoreFails}
use Rattle.sector_map.proofs.Marking.{chip-disk, disk-laid}

pub superblock-kept : (m m' : List ℕ) → SameChip m m' → IsLaidOut m → IsLaidOut m'
superblock-kept m m' k laid = disk-laid m m' (chip-disk m m' k) laid

-- while no more than n slow operations were counted, none is latched, and the superblock is there
abbrev pub IsNamed : ℕ → NorState → Type 0
IsNamed n s = s.slows ≡ n → (s.is_slow ≡ false) × IsLaidOut s.memory

pub named-ok : (n : ℕ) (a b : NorState) → OnlyMemoryChanges a b → SameChip a.memory b.memory → IsNamed n a → IsNamed n b
named-ok n a b kept chip named = λ quiet. let x = named (sym kept.slows ∙ quiet) in (kept.is_slow ∙ x.0, superblock-kept a.memory b.memory chip x.1)

pub named-fails : (n : ℕ) (e : NorError) (a b : NorState) → n ≤ a.slows → Refuses e a b → (e ≡ errors.Cut → SameChip a.memory b.memory) → IsNamed n a → IsNamed n b
named-fails n errors.Cut a b low r chip named = λ quiet. let x = named (sym r.fails.1 ∙ quiet) in (r.fails.3 ∙ x.0, superblock-kept a.memory b.memory (chip refl) x.1)
named-fails n errors.Slow a b low r chip named = λ quiet. elim r.fails.0 as (λ _. (b.is_slow ≡ false) × IsLaidOut b.memory) [
  | inl more ↦ absurd (omega (arith, low, more, quiet))
  | inr stood ↦ (let x = named (sym stood.1 ∙ quiet) in let slow = stood.0 in let quick = x.0 in absurd (cc (slow, quick)))
]

pub counted-ok : (n : ℕ) (a b : NorState) → OnlyMemoryChanges a b → n ≤ a.slows → n ≤ b.slows
counted-ok n a b kept low = (let e = kept.slows in omega (arith, low, e))

pub counted-fails : (n : ℕ) (e : NorError) (a b : NorState) → Refuses e a b → n ≤ a.slows → n ≤ b.slows
counted-fails n e a b r low = (let h = refuses-slows e a b r in omega (arith, low, h))

pub named-restored : (n : ℕ) (a b : NorState) → MapRestored a b → IsNamed n a → IsNamed n b
named-restored n a b r named = λ quiet. let x = named (sym r.slows ∙ quiet) in (r.ready.1, disk-laid a.memory b.memory (r.keeps x.0).disk x.1)

pub named-restore-fails : (n : ℕ) (e : NorError) (a b : NorState) → n ≤ a.slows → MapRestoreFails e a b → IsNamed n a → IsNamed n b
named-restore-fails n errors.Cut a b low r named = λ quiet. let x = named (sym r.slows ∙ quiet) in (r.slow ∙ x.0, disk-laid a.memory b.memory (r.keeps x.0).disk x.1)
named-restore-fails n errors.Slow a b low r named = λ quiet. elim r.came as (λ _. (b.is_slow ≡ false) × IsLaidOut b.memory) [
  | inl more ↦ absurd (omega (arith, low, more, quiet))
  | inr stood ↦ (let risen = r.risen in let here : a.slows ≡ n = omega (arith, low, risen, quiet) in let slow = stood.0 in let quick = (named here).0 in absurd (cc (slow, quick)))
]

pub counted-restored : (n : ℕ) (a b : NorState) → MapRestored a b → n ≤ a.slows → n ≤ b.slows
counted-restored n a b r low = (let e = r.slows in omega (arith, low, e))

pub counted-restore-fails : (n : ℕ) (e : NorError) (a b : NorState) → MapRestoreFails e a b → n ≤ a.slows → n ≤ b.slows
counted-restore-fails n errors.Cut a b r low = (let e = r.slows in omega (arith, low, e))
counted-restore-fails n errors.Slow a b r low = (let h = r.risen in omega (arith, low, h))
