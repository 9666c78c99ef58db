-- The simulator's table is accepted: it is that of a chip of its size.
use Rattle.std.proofs.Common.{◌≡◌, ℕ, ◌+◌, ◌-◌, ◌*◌, ◌/◌, ◌%◌, ◌^◌, ◌<◌, ◌≤◌, true, false, not, List, length, ap, ◌∙◌, arith, Some, Ok}
use Rattle.std.proofs.lemmas.Bool.{cond-true, cond-false, and_from, or_left, eq-eqb, lt-ltb, le-ltb}
use Rattle.sfdp.specs.declared.params.Params.{Params}
use Rattle.sfdp.specs.Params.{params_of, params_at, table_params, basic_params, first_basic, has_signature, headers, header_at, pointer_of, words_of, density, is_size, page_exponent, is_pair, has_pair, has_small_erase, address_bits}
use Rattle.chip_model.specs.Memory.{byte}
use Rattle.chip_model.specs.Geometry.{IsChipSize}
use Rattle.chip_simulator.specs.Table.{sfdp_table, table_byte}
use Rattle.chip_simulator.specs.TableLaws.{length-sfdp_table, get-sfdp_table}

-- a header, and of one basic table at 80h the words that are looked at
record HasTable (b : List ℕ) (n : ℕ) : Type 0 where
  pub long : length b ≡ 256
  pub s : byte b 0 ≡ 83
  pub f : byte b 1 ≡ 70
  pub d : byte b 2 ≡ 68
  pub p : byte b 3 ≡ 80
  pub one : byte b 6 ≡ 0
  pub low : byte b 8 ≡ 0
  pub words : byte b 11 ≡ 16
  pub at0 : byte b 12 ≡ 128
  pub at1 : byte b 13 ≡ 0
  pub at2 : byte b 14 ≡ 0
  pub high : byte b 15 ≡ 255
  pub erases : byte b 128 ≡ 1
  pub code : byte b 129 ≡ 32
  pub addresses : byte b 130 ≡ 0
  pub bits : density b 128 + 1 ≡ 8 * n
  pub exponent : byte b 156 ≡ 12
  pub pair : byte b 157 ≡ 32
  pub page : byte b 168 ≡ 128

signed : (b : List ℕ) (n : ℕ) → HasTable b n → has_signature b ≡ true
signed b n h = and_from _ _ (and_from _ _ (and_from _ _ (eq-eqb _ _ h.s) (eq-eqb _ _ h.f)) (eq-eqb _ _ h.d)) (eq-eqb _ _ h.p)

sizes : (d n : ℕ) → d + 1 ≡ 8 * n → IsChipSize n → is_size d ≡ true
sizes d n e size =
    let whole = size.whole in
    let least = size.least in
    let most = size.most in
    let a : d < 2 ^ 31 = omega arith in
    let z : (d + 1) % 524288 ≡ 0 = omega arith in
    let c : d < 134217728 = omega arith in
    and_from _ _ (and_from _ _ (lt-ltb _ _ a) (eq-eqb _ _ z)) (lt-ltb _ _ c)

erases_small : (b : List ℕ) (n : ℕ) → HasTable b n → has_small_erase b 128 ≡ true
erases_small b n h =
    let e = h.erases in
    let m : byte b 128 % 4 ≡ 1 = omega arith in
    let first : is_pair b 128 12 32 0 ≡ true = and_from _ _ (eq-eqb _ _ h.exponent) (eq-eqb _ _ h.pair) in
    let some : has_pair b 128 12 32 ≡ true = or_left _ _ (or_left _ _ (or_left _ _ first)) in
    and_from _ _ (and_from _ _ (eq-eqb _ _ m) (eq-eqb _ _ h.code)) some

table_taken : (b : List ℕ) (n : ℕ) → HasTable b n → IsChipSize n → table_params b 128 16 ≡ Ok (params_at b 128)
table_taken b n h size =
    let long = h.long in
    let fits : 128 + 4 * 16 ≤ length b = omega arith in
    let g = h.page in
    let page : page_exponent b 128 ≡ 8 = omega arith in
    let k = h.addresses in
    let three : address_bits b 128 ≡ 0 = omega arith in
    cond-false _ _ _ (le-ltb _ _ fits)
    ∙ (cond-false _ _ _ (ap not (sizes (density b 128) n h.bits size))
    ∙ (cond-false _ _ _ (ap not (eq-eqb _ _ page))
    ∙ (cond-false _ _ _ (ap not (erases_small b n h))
    ∙ cond-false _ _ _ (ap not (eq-eqb _ _ three)))))

list_taken : (b : List ℕ) (n : ℕ) → HasTable b n → IsChipSize n → params_of b ≡ Ok (params_at b 128)
unfolding params_of
list_taken b n h size =
    let long = h.long in
    let header : 8 ≤ length b = omega arith in
    let one = h.one in
    let heads : header_at (headers b) ≤ length b = omega arith in
    let found : first_basic b 0 1 ≡ Some 0 = cond-true _ _ _ (and_from _ _ (eq-eqb _ _ h.low) (eq-eqb _ _ h.high)) in
    let first : first_basic b 0 (headers b) ≡ Some 0 = ap (λ k. first_basic b 0 (k + 1)) one ∙ found in
    let a0 = h.at0 in
    let a1 = h.at1 in
    let a2 = h.at2 in
    let pointer : pointer_of b 0 ≡ 128 = omega arith in
    cond-false _ _ _ (le-ltb _ _ header)
    ∙ (cond-false _ _ _ (ap not (signed b n h))
    ∙ (cond-false _ _ _ (le-ltb _ _ heads)
    ∙ (ap (λ o. basic_params b o) first
    ∙ (ap (λ at. table_params b at (words_of b 0)) pointer
    ∙ (ap (λ w. table_params b 128 w) h.words
    ∙ table_taken b n h size)))))

four_back : (d : ℕ) → d < 2 ^ 32 → d % 256 + 256 * (d / 256 % 256) + 65536 * (d / 65536 % 256) + 16777216 * (d / 16777216 % 256) ≡ d
four_back d small = omega arith

has_table : (n : ℕ) → 0 < n → n ≤ 16777216 → HasTable (sfdp_table n false) n
has_table n some most =
    let t : (k : ℕ) → k < 256 → byte (sfdp_table n false) k ≡ table_byte n k = λ k small. get-sfdp_table n false k small in
    let d = 8 * n - 1 in
    let b0 : byte (sfdp_table n false) 132 ≡ d % 256 = t 132 (omega arith) in
    let b1 : byte (sfdp_table n false) 133 ≡ d / 256 % 256 = t 133 (omega arith) in
    let b2 : byte (sfdp_table n false) 134 ≡ d / 65536 % 256 = t 134 (omega arith) in
    let b3 : byte (sfdp_table n false) 135 ≡ d / 16777216 % 256 = t 135 (omega arith) in
    let back = four_back d (omega arith) in
    record {
      long = length-sfdp_table n false;
      s = t 0 (omega arith);
      f = t 1 (omega arith);
      d = t 2 (omega arith);
      p = t 3 (omega arith);
      one = t 6 (omega arith);
      low = t 8 (omega arith);
      words = t 11 (omega arith);
      at0 = t 12 (omega arith);
      at1 = t 13 (omega arith);
      at2 = t 14 (omega arith);
      high = t 15 (omega arith);
      erases = t 128 (omega arith);
      code = t 129 (omega arith);
      addresses = t 130 (omega arith);
      bits = omega (arith, b0, b1, b2, b3, back);
      exponent = t 156 (omega arith);
      pair = t 157 (omega arith);
      page = t 168 (omega arith);
    }

pub table_accepted : (n : ℕ) → IsChipSize n → (p : Params) × (params_of (sfdp_table n false) ≡ Ok p) × (p.bytes ≡ n)
table_accepted n size =
    let least = size.least in
    let b = sfdp_table n false in
    let h = has_table n (omega arith) size.most in
    let e = h.bits in
    (params_at b 128, list_taken b n h size, omega arith)
