-- What an accepted chip is.
use Rattle.std.proofs.Common.{◌≡◌, ℕ, ◌+◌, ◌*◌, ◌/◌, ◌%◌, ◌≤◌, Bool, true, false, not, cond, ◌&&◌, ◌||◌, length, refl, sym, ap, ◌∙◌, arith, Result, Ok, Err}
use Rattle.std.specs.Prelude.{◌==◌}
use Rattle.std.proofs.lemmas.Result.{IfOk-at_ok}
use Rattle.sfdp.specs.Params.{params_of}
use Rattle.sfdp.specs.declared.params.Params.{Params}
use Rattle.sfdp.specs.declared.error.SfdpError.{SfdpError}
use Rattle.chip_model.specs.Chip.{Chip, IsChip, is_idle}
use Rattle.chip_model.specs.Frames.{is_unprotected, id_from, status_1}
use Rattle.chip_model.specs.Geometry.{IsChipSize}
use Rattle.nor_driver.specs.Probe.{told, is_served_id, is_unprotected_by, sized, unless_protected, identity, probe_answer}
use Rattle.nor_driver.specs.declared.error.ProbeError.{ProbeError}
use Rattle.nor_driver.specs.declared.error.ProbeError.TheVariants as refusals
use Rattle.nor_driver.proofs.Sizes.{size_accepted}

flags : (low n a b : Bool) → (low && not n && not a && not b) ≡ (not (n || a || b) && low)
flags true true a b = refl
flags false true a b = refl
flags true false true b = refl
flags false false true b = refl
flags true false false true = refl
flags false false false true = refl
flags true false false false = refl
flags false false false false = refl

-- BP and SEC stand above WEL and BUSY in the register's byte
bits : (p w b : ℕ) → w ≤ 2 → b ≤ 1 → ((4 * p + w + b) / 4 % 8 ≡ p % 8) × ((4 * p + w + b) / 64 % 2 ≡ p / 16 % 2)
bits p w b h k = (omega arith, omega arith)

at_most_two : (b : Bool) → cond b 2 0 ≤ 2
at_most_two true = omega arith
at_most_two false = omega arith

at_most_one : (b : Bool) → cond b 0 1 ≤ 1
at_most_one true = omega arith
at_most_one false = omega arith

-- the status registers tell whether something is protected
pub free_open : (c : Chip) → is_unprotected_by (status_1 c) c.status2 c.status3 ≡ is_unprotected c
free_open c =
    let b = bits c.protection (cond c.enabled 2 0) (cond (is_idle c.operation) 0 1) (at_most_two c.enabled) (at_most_one (is_idle c.operation)) in
    let m : Bool = c.status2 / 64 % 2 == 1 in
    let w : Bool = c.status3 / 4 % 2 == 1 in
    ap (λ n. (n == 0) && not (status_1 c / 64 % 2 == 1) && not m && not w) b.0
    ∙ (ap (λ n. (c.protection % 8 == 0) && not (n == 1) && not m && not w) b.1
    ∙ flags (c.protection % 8 == 0) (c.protection / 16 % 2 == 1) m w)

ok_unless : (free : Bool) (r : Result Params ProbeError) (p : Params) → unless_protected free r ≡ Ok p → (free ≡ true) × (r ≡ Ok p)
ok_unless free (Err e) p h = cc
ok_unless true (Ok q) p h = (refl, h)
ok_unless false (Ok q) p h = cc

ok_cond : (b : Bool) (e : ProbeError) (r : Result Params ProbeError) (p : Params) → cond b (Err e) r ≡ Ok p → r ≡ Ok p
ok_cond true e r p h = cc
ok_cond false e r p h = h

ok_sized : (exponent : ℕ) (r : Result Params SfdpError) (p : Params) → sized exponent r ≡ Ok p → r ≡ Ok p
ok_sized exponent (Err e) p h = cc
ok_sized exponent (Ok q) p h = let k : Ok q ≡ Ok p = ok_cond (not (exponent == id_from 9 16 q.bytes)) refusals.WrongId (Ok q) p h in cc

pub record Accepted (c : Chip) (p : Params) : Type 0 where
  pub size : length c.memory ≡ p.bytes
  pub of_a_chip : IsChipSize p.bytes
  pub unprotected : is_unprotected c ≡ true

pub accepted : (c : Chip) (p : Params) → IsChip c → probe_answer (told c) ≡ Ok p → Accepted c p
accepted c p law h =
    let t = told c in
    let two = ok_unless (is_unprotected_by t.status1 t.status2 t.status3) (identity t) p h in
    let one : sized t.exponent (params_of t.sfdp) ≡ Ok p = ok_cond (not (is_served_id t.maker t.kind t.exponent)) refusals.WrongId _ p two.1 in
    let table : params_of c.sfdp ≡ Ok p = ok_sized t.exponent (params_of t.sfdp) p one in
    record {
      size = sym (IfOk-at_ok (λ (q : Params). q.bytes ≡ length c.memory) table law.size);
      of_a_chip = IfOk-at_ok (λ (q : Params). IsChipSize q.bytes) table (size_accepted c.sfdp);
      unprotected = sym (free_open c) ∙ two.0;
    }
