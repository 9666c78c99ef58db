-- The simulator's SFDP table.
use Rattle.std.proofs.Common.{◌≡◌, ℕ, ◌<◌, Bool, true, false, length, arith, refl, ◌∙◌, sym}
use Rattle.std.specs.Prelude.{replicate, set}
use Rattle.std.proofs.lemmas.Bool.{cond-false, and_right, ne_eqb}
use Rattle.std.proofs.lemmas.List.{length-replicate}
use Rattle.chip_model.specs.Memory.{byte}
use Rattle.chip_model.proofs.MemoryLaws.{length-changed_from, get-changed, changed_set}
use Rattle.chip_simulator.specs.Table.{sfdp_byte, sfdp_table, table_byte}

pub length-sfdp_table : (size : ℕ) (spoiled : Bool) → length (sfdp_table size spoiled) ≡ 256
unfolding sfdp_table
length-sfdp_table size spoiled = length-changed_from (λ k x. sfdp_byte size spoiled k) 0
    (replicate 256 255) ∙ length-replicate {A = ℕ} 256 255

pub get-sfdp_table : (size : ℕ) (spoiled : Bool) (k : ℕ) → k < 256
    → byte (sfdp_table size spoiled) k ≡ sfdp_byte size spoiled k
unfolding sfdp_table
get-sfdp_table size spoiled k low =
    get-changed (λ k x. sfdp_byte size spoiled k) (replicate 256 255) k 0
    (let e = length-replicate {A = ℕ} 256 255 in omega (arith, e))

-- a byte that isn't byte 0 is not spoiled
unspoiled : (size : ℕ) (spoiled : Bool) (k : ℕ) → (k ≡ 0 → ⊥)
    → sfdp_byte size spoiled k ≡ sfdp_byte size false k
unspoiled size spoiled k other = cond-false _ _ _ (and_right _ _ (ne_eqb _ _ other))

pub set-sfdp_table : (size : ℕ) (spoiled : Bool)
    → set (sfdp_table size spoiled) 0 82 ≡ sfdp_table size true
unfolding sfdp_table
set-sfdp_table size spoiled = changed_set (λ k x. sfdp_byte size spoiled k)
    (λ k x. sfdp_byte size true k) (replicate 256 255) 0 82
    (λ k x other. unspoiled size true k other ∙ sym (unspoiled size spoiled k other))
    (λ low. refl)

-- every byte but byte 0 is the table's, spoiled or not
pub table_at : (size : ℕ) (spoiled : Bool) (k : ℕ) → k < 256 → (k ≡ 0 → ⊥)
    → byte (sfdp_table size spoiled) k ≡ table_byte size k
table_at size spoiled k low other =
    get-sfdp_table size spoiled k low ∙ unspoiled size spoiled k other
