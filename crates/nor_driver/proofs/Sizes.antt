-- The size of an accepted table is that of a chip.
use Rattle.std.proofs.Common.{◌≡◌, ℕ, ◌+◌, ◌*◌, ◌/◌, ◌%◌, ◌^◌, ◌<◌, Bool, true, false, not, cond, ◌&&◌, List, length, refl, arith, Option, Some, None, Result, Ok, Err, IfOk}
use Rattle.std.specs.Prelude.{nat_lt, ◌==◌}
use Rattle.std.proofs.lemmas.Bool.{and_parts, eqb-true, ltb-true}
use Rattle.sfdp.specs.declared.params.Params.{Params}
use Rattle.sfdp.specs.declared.error.SfdpError.{SfdpError}
use Rattle.sfdp.specs.declared.error.SfdpError.TheVariants as refusals
use Rattle.sfdp.specs.Params.{params_of, params_at, table_params, basic_params, first_basic, has_signature, headers, header_at, pointer_of, words_of, density, is_size, page_exponent, has_small_erase, address_bits}
use Rattle.chip_model.specs.Geometry.{IsChipSize}

-- a refusal says nothing of parameters
unless : (t : Bool) (e : SfdpError) (r : Result Params SfdpError) (P : Params → Type 0) → IfOk r P → IfOk (cond t (Err e) r) P
unless true e r P h = tt
unless false e r P h = h

where_not : (t : Bool) (e : SfdpError) (r : Result Params SfdpError) (P : Params → Type 0) → (t ≡ true → IfOk r P) → IfOk (cond (not t) (Err e) r) P
where_not true e r P h = h refl
where_not false e r P h = tt

chip_size : (d : ℕ) → (d + 1) % 524288 ≡ 0 → d < 134217728 → IsChipSize ((d + 1) / 8)
chip_size d whole most = record { whole = omega arith; least = omega arith; most = omega arith }

size_of : (d : ℕ) → is_size d ≡ true → IsChipSize ((d + 1) / 8)
size_of d h =
    let two = and_parts (nat_lt d (2 ^ 31) && ((d + 1) % 524288 == 0)) (nat_lt d 134217728) h in
    let one = and_parts (nat_lt d (2 ^ 31)) ((d + 1) % 524288 == 0) two.0 in
    chip_size d (eqb-true ((d + 1) % 524288) 0 one.1) (ltb-true d 134217728 two.1)

sized_table : (b : List ℕ) (at words : ℕ) → IfOk (table_params b at words) (λ p. IsChipSize p.bytes)
sized_table b at words =
    let P : Params → Type 0 = λ p. IsChipSize p.bytes in
    let paged = not (nat_lt words 11) && not (page_exponent b at == 8) in
    let last : Result Params SfdpError = cond (not (address_bits b at == 0)) (Err refusals.AddressBytes) (Ok (params_at b at)) in
    let erased : Result Params SfdpError = cond (not (has_small_erase b at)) (Err refusals.NoSmallErase) last in
    let rest : Result Params SfdpError = cond paged (Err refusals.PageSize) erased in
    let dense : Result Params SfdpError = cond (not (is_size (density b at))) (Err refusals.Density) rest in
    unless (nat_lt words 9) refusals.Short (cond (nat_lt (length b) (at + 4 * words)) (Err refusals.Short) dense) P
    (unless (nat_lt (length b) (at + 4 * words)) refusals.Short dense P
    (where_not (is_size (density b at)) refusals.Density rest P (λ h.
    unless paged refusals.PageSize erased P
    (unless (not (has_small_erase b at)) refusals.NoSmallErase last P
    (unless (not (address_bits b at == 0)) refusals.AddressBytes (Ok (params_at b at)) P (size_of (density b at) h))))))

sized_basic : (b : List ℕ) (o : Option ℕ) → IfOk (basic_params b o) (λ p. IsChipSize p.bytes)
sized_basic b None = tt
sized_basic b (Some k) = sized_table b (pointer_of b k) (words_of b k)

pub size_accepted : (b : List ℕ) → IfOk (params_of b) (λ p. IsChipSize p.bytes)
unfolding params_of
size_accepted b =
    let P : Params → Type 0 = λ p. IsChipSize p.bytes in
    let basic = basic_params b (first_basic b 0 (headers b)) in
    let whole : Result Params SfdpError = cond (nat_lt (length b) (header_at (headers b))) (Err refusals.Short) basic in
    let signed : Result Params SfdpError = cond (not (has_signature b)) (Err refusals.Signature) whole in
    unless (nat_lt (length b) 8) refusals.Short signed P
    (unless (not (has_signature b)) refusals.Signature whole P
    (unless (nat_lt (length b) (header_at (headers b))) refusals.Short basic P
    (sized_basic b (first_basic b 0 (headers b)))))
