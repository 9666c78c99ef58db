-- The counts of erases stay near each other.
use Rattle.std.proofs.Common.{◌≡◌, ℕ, ◌+◌, ◌<◌, ◌≤◌, List, length, sym, ap, ◌∙◌, subst, refl, arith, inl, inr}
use Rattle.std.proofs.lemmas.Bool.{cases_eq}
use Rattle.std.specs.Prelude.{min}
use Rattle.sector_stock.specs.declared.index.BlockState.{BlockState}
use Rattle.sector_slots.specs.Slots.{data_blocks}
use Rattle.sector_stock.specs.declared.index.SlotState.{SlotState}
use Rattle.sector_stock.specs.declared.index.Cursors.{Cursors}
use Rattle.sector_stock.specs.declared.policy.Policy.{Policy}
use Rattle.sector_stock.specs.declared.policy.Policy.TheVariants as policies
use Rattle.sector_stock.specs.Index.{in_block, erases_of, AreWithin, MayWear, BlocksMoved, IsIndexOf}
use Rattle.sector_stock.specs.Takes.{IsErasedOnce, KeepsErases}

-- One block was erased once more, where it may be; or wherever it is, and the counts lie further apart by one.
even-grows : (k j s n : ℕ) (erases erases' : ℕ → ℕ) → k ≤ j → AreWithin k n erases → ((c : ℕ) → c < n → erases s < erases c + j) → IsErasedOnce n s erases erases' → AreWithin j n erases'
even-grows k j s n erases erases' more even may once c d lc ld =
    let here : erases' s ≡ min (erases s + 1) 65535 = once.here in
    let rises = once.rises in
    elim (cases_eq c s) as (λ _. erases' c ≤ erases' d + j) [
      | inl e ↦
          let own : erases' c ≡ min (erases s + 1) 65535 = ap (λ a. erases' a) e ∙ here in
          elim (cases_eq d s) as (λ _. erases' c ≤ erases' d + j) [
            | inl f ↦ let other : erases' d ≡ min (erases s + 1) 65535 = ap (λ a. erases' a) f ∙ here in omega (arith, own, other)
            | inr nf ↦ let p = may d ld in let other = once.others d ld nf in omega (arith, own, p, other)
          ]
      | inr ne ↦
          let own = once.others c lc ne in
          elim (cases_eq d s) as (λ _. erases' c ≤ erases' d + j) [
            | inl f ↦
                let other : erases' d ≡ erases' s = ap (λ a. erases' a) f in
                let p : erases c ≤ erases s + k = subst (λ a. erases c ≤ erases a + k) f (even c d lc ld) in
                omega (arith, own, other, p, rises, more)
            | inr nf ↦ let other = once.others d ld nf in let p = even c d lc ld in omega (arith, own, other, p, more)
          ]
    ]

pub even-once : (s n : ℕ) (erases erases' : ℕ → ℕ) → AreWithin 32 n erases → MayWear s n erases → IsErasedOnce n s erases erases' → AreWithin 32 n erases'
even-once s n erases erases' even may once = even-grows 32 32 s n erases erases' (omega arith) even may once

pub even-more : (k s n : ℕ) (erases erases' : ℕ → ℕ) → s < n → AreWithin k n erases → IsErasedOnce n s erases erases' → AreWithin (k + 1) n erases'
even-more k s n erases erases' low even once = even-grows k (k + 1) s n erases erases' (omega arith) even (λ c inside. (let p = even s c low inside in omega (arith, p))) once

-- none was
pub even-kept : (k n : ℕ) (erases erases' : ℕ → ℕ) → KeepsErases n erases erases' → AreWithin k n erases → AreWithin k n erases'
even-kept k n erases erases' kept even c d lc ld = let a = kept c lc in let b = kept d ld in let p = even c d lc ld in omega (arith, a, b, p)

-- a block may be erased where no two differ by more than 31, or where none was erased less
pub may-within : (s n : ℕ) (erases : ℕ → ℕ) → s < n → AreWithin 31 n erases → MayWear s n erases
may-within s n erases low even c inside = let p = even s c low inside in omega (arith, p)

pub may-least : (s n : ℕ) (erases : ℕ → ℕ) → ((c : ℕ) → c < n → erases s ≤ erases c) → MayWear s n erases
may-least s n erases least c inside = let p = least c inside in omega (arith, p)

-- by the blocks of an index
pub once-moved : (s t n : ℕ) (blocks blocks' : List BlockState) → length blocks ≡ n → (in_block blocks s).erases < 65536 → BlocksMoved s t blocks blocks' → IsErasedOnce n s (erases_of blocks) (erases_of blocks')
once-moved s t n blocks blocks' size fits moved =
    let here : erases_of blocks' s ≡ min ((in_block blocks s).erases + 1) 65535 = ap (λ b. b.erases) moved.source in
    record {
      here = here;
      rises = omega (arith, here, fits);
      others = λ c low ns. elim (cases_eq c t) as (λ _. erases_of blocks' c ≡ erases_of blocks c) [
        | inl e ↦ subst (λ a. erases_of blocks' a ≡ erases_of blocks a) (sym e) (ap (λ b. b.erases) moved.target)
        | inr nt ↦ ap (λ b. b.erases) (moved.others c (omega (arith, low, size)) ns nt)
      ];
    }

pub even-moved : (s t : ℕ) (blocks blocks' : List BlockState) → (in_block blocks s).erases < 65536 → BlocksMoved s t blocks blocks' → MayWear s (length blocks) (erases_of blocks) → AreWithin 32 (length blocks) (erases_of blocks) → AreWithin 32 (length blocks') (erases_of blocks')
even-moved s t blocks blocks' fits moved may even =
    subst (λ n. AreWithin 32 n (erases_of blocks')) (sym moved.size)
    (even-once s (length blocks) (erases_of blocks) (erases_of blocks') even may (once-moved s t (length blocks) blocks blocks' refl fits moved))

-- what an index says of them
pub index-even : (p : Policy) (m : List ℕ) (slots : List SlotState) (blocks : List BlockState) (at : Cursors) → at.policy ≡ p → IsIndexOf slots blocks at m → p ≡ policies.Level → AreWithin 32 (data_blocks m) (erases_of blocks)
index-even p m slots blocks at same index by = subst (λ n. AreWithin 32 n (erases_of blocks)) index.listed.block_size (index.even (same ∙ by))
