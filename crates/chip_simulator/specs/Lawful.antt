-- The simulator's chip is one: its table is that of a chip of its size, or none.
use Rattle.std.proofs.Common.{◌≡◌, ℕ, ◌+◌, ◌-◌, ◌*◌, ◌/◌, ◌%◌, ◌^◌, ◌<◌, ◌≤◌, Bool, true, false}
use Rattle.std.proofs.Common.{not, cond, ◌&&◌, List, length, sym, ap, ◌∙◌, subst, arith, Some}
use Rattle.std.proofs.Common.{Result, Ok, Err, IfOk}
use Rattle.std.specs.Prelude.{nat_lt, ◌==◌}
use Rattle.std.proofs.lemmas.Bool.{cond-true, and_from, eq-eqb}
use Rattle.sfdp.specs.declared.params.Params.{Params}
use Rattle.sfdp.specs.declared.error.SfdpError.{SfdpError}
use Rattle.sfdp.specs.Params.{params_of, params_at, table_params, basic_params, first_basic}
use Rattle.sfdp.specs.Params.{has_signature, headers, header_at, pointer_of, words_of, density}
use Rattle.sfdp.specs.Params.{is_size, page_exponent, has_small_erase, address_bits}
use Rattle.sfdp.specs.declared.error.SfdpError.TheVariants as refusals
use Rattle.chip_model.specs.Memory.{byte}
use Rattle.chip_model.specs.Chip.{IsChip}
use Rattle.chip_simulator.specs.Table.{sfdp_table, table_byte}
use Rattle.chip_simulator.specs.TableLaws.{length-sfdp_table, table_at}
use Rattle.chip_simulator.specs.Sim.{chip_in, chip_of}
use Rattle.chip_simulator.specs.declared.frame.Cells.{Cells}
use Rattle.chip_simulator.specs.declared.sim_chip.SimChip.{SimChip}

-- a refusal says nothing of parameters
unless_refused : (t : Bool) (e : SfdpError) (r : Result Params SfdpError) (P : Params → Type 0)
    → IfOk r P → IfOk (cond t (Err e) r) P
unless_refused true e r P h = tt
unless_refused false e r P h = h

unless_three : (a b c : Bool) (d e f : SfdpError) (r : Result Params SfdpError)
    (P : Params → Type 0) → IfOk r P → IfOk (cond a (Err d) (cond b (Err e) (cond c (Err f) r))) P
unless_three a b c d e f r P h =
    unless_refused a d (cond b (Err e) (cond c (Err f) r)) P
    (unless_refused b e (cond c (Err f) r) P (unless_refused c f r P h))

size_at : (b : List ℕ) (at words n : ℕ) → density b at + 1 ≡ 8 * n
    → IfOk (table_params b at words) (λ p. p.bytes ≡ n)
size_at b at words n e =
    let P : Params → Type 0 = λ p. p.bytes ≡ n in
    let whole : (density b at + 1) / 8 ≡ n = omega (arith, e) in
    let paged = not (nat_lt words 11) && not (page_exponent b at == 8) in
    let rest : Result Params SfdpError =
    cond paged (Err refusals.PageSize)
    (cond (not (has_small_erase b at)) (Err refusals.NoSmallErase)
    (cond (not (address_bits b at == 0)) (Err refusals.AddressBytes) (Ok (params_at b at)))) in
    unless_three (nat_lt words 9) (nat_lt (length b) (at + 4 * words))
    (not (is_size (density b at))) refusals.Short refusals.Short refusals.Density rest P
    (unless_three paged (not (has_small_erase b at)) (not (address_bits b at == 0))
    refusals.PageSize refusals.NoSmallErase refusals.AddressBytes (Ok (params_at b at)) P whole)

-- a list whose one header is basic and points at 80h gives no size but that of word 2 there
pub size_of_table : (b : List ℕ) (n : ℕ) → byte b 6 ≡ 0 → byte b 8 ≡ 0 → byte b 15 ≡ 255
    → byte b 12 ≡ 128 → byte b 13 ≡ 0 → byte b 14 ≡ 0
    → density b 128 + 1 ≡ 8 * n → IfOk (params_of b) (λ p. p.bytes ≡ n)
unfolding params_of
size_of_table b n one low high at0 at1 at2 e =
    let P : Params → Type 0 = λ p. p.bytes ≡ n in
    let found : first_basic b 0 1 ≡ Some 0 =
    cond-true _ _ _ (and_from _ _ (eq-eqb _ _ low) (eq-eqb _ _ high)) in
    let first : first_basic b 0 (byte b 6 + 1) ≡ Some 0 =
    ap (λ h. first_basic b 0 (h + 1)) one ∙ found in
    let pointer : pointer_of b 0 ≡ 128 = omega (arith, at0, at1, at2) in
    let whole : IfOk (table_params b (pointer_of b 0) (words_of b 0)) P =
    subst (λ at. IfOk (table_params b at (words_of b 0)) P) (sym pointer)
    (size_at b 128 (words_of b 0) n e) in
    unless_three (nat_lt (length b) 8) (not (has_signature b))
    (nat_lt (length b) (header_at (headers b))) refusals.Short refusals.Signature refusals.Short
    (basic_params b (first_basic b 0 (headers b))) P
    (subst (λ o. IfOk (basic_params b o) P) (sym first) whole)

four_back : (d : ℕ) → d < 2 ^ 32 → d % 256 + 256 * (d / 256 % 256) + 65536 * (d / 65536 % 256)
    + 16777216 * (d / 16777216 % 256) ≡ d
four_back d small = omega arith

pub size_in_table : (n : ℕ) (spoiled : Bool) → 0 < n → n ≤ 16777216
    → IfOk (params_of (sfdp_table n spoiled)) (λ p. p.bytes ≡ n)
size_in_table n spoiled some most =
    let t : (k : ℕ) → k < 256 → (k ≡ 0 → ⊥) → byte (sfdp_table n spoiled) k ≡ table_byte n k =
    table_at n spoiled in
    let d = 8 * n - 1 in
    let b0 : byte (sfdp_table n spoiled) 132 ≡ d % 256 =
    t 132 (omega arith) (λ e. omega (arith, e)) in
    let b1 : byte (sfdp_table n spoiled) 133 ≡ d / 256 % 256 =
    t 133 (omega arith) (λ e. omega (arith, e)) in
    let b2 : byte (sfdp_table n spoiled) 134 ≡ d / 65536 % 256 =
    t 134 (omega arith) (λ e. omega (arith, e)) in
    let b3 : byte (sfdp_table n spoiled) 135 ≡ d / 16777216 % 256 =
    t 135 (omega arith) (λ e. omega (arith, e)) in
    let back = four_back d (omega arith) in
    size_of_table (sfdp_table n spoiled) n (t 6 (omega arith) (λ e. omega (arith, e)))
    (t 8 (omega arith) (λ e. omega (arith, e))) (t 15 (omega arith) (λ e. omega (arith, e)))
    (t 12 (omega arith) (λ e. omega (arith, e))) (t 13 (omega arith) (λ e. omega (arith, e)))
    (t 14 (omega arith) (λ e. omega (arith, e)))
    (omega (arith, b0, b1, b2, b3, back))

pub lawful_cells : (s : Cells) → IsChip (chip_in s)
lawful_cells s = record {
  sfdp = length-sfdp_table s.size s.spoiled;
  size = subst (λ (m : ℕ). IfOk (params_of (sfdp_table s.size s.spoiled)) (λ p. p.bytes ≡ m))
      (sym s.bytes)
      (size_in_table s.size s.spoiled (rw (← s.bytes) s.some) (rw (← s.bytes) s.most));
}

pub lawful_chip : (s : SimChip) → IsChip (chip_of s)
lawful_chip s = lawful_cells s.cells
