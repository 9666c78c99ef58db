-- A format refuses no chip whose table is accepted and has its size, where CMP and WPS are 0.
use Rattle.std.proofs.Common.{◌≡◌, ℕ, zero, suc, ◌+◌, ◌^◌, ◌≤◌, Bool, true, false, not, cond, length, refl, sym, ap, subst, ◌∙◌, arith}
use Rattle.std.specs.Prelude.{Ok, nat_le}
use Rattle.std.proofs.lemmas.Bool.{cond-true, cond-false, and_from, eq-eqb, le-leb}
use Rattle.sfdp.specs.Params.{params_of}
use Rattle.sfdp.specs.declared.params.Params.{Params}
use Rattle.chip_model.specs.Chip.{Chip}
use Rattle.chip_model.specs.Frames.{id_from}
use Rattle.chip_model.specs.Geometry.{IsChipSize}
use Rattle.nor_driver.specs.Probe.{told, is_served_id, sized, identity}
use Rattle.flash_disk.specs.Formatted.{is_locked, format_answer}

least-of : (b : Bool) (k x y : ℕ) → k ≤ x → k ≤ y → k ≤ cond b x y
least-of true k x y p q = p
least-of false k x y p q = q

most-of : (b : Bool) (k x y : ℕ) → x ≤ k → y ≤ k → cond b x y ≤ k
most-of true k x y p q = p
most-of false k x y p q = q

-- the third id byte of a chip's size
from-least : (n k size : ℕ) → k ≤ id_from n k size
from-least zero k size = omega arith
from-least (suc n) k size =
    let more = from-least n (k + 1) size in
    let one : k ≤ k = omega arith in
    let two : k ≤ id_from n (k + 1) size = omega arith in
    least-of (nat_le size (2 ^ k)) k k (id_from n (k + 1) size) one two

from-most : (n k size : ℕ) → size ≤ 2 ^ (k + n) → id_from (suc n) k size ≤ k + n
from-most zero k size h =
    let e : k + 0 ≡ k = omega arith in
    let low : size ≤ 2 ^ k = subst (λ j. size ≤ 2 ^ j) e h in
    let q : id_from 1 k size ≡ k = cond-true _ _ _ (le-leb _ _ low) in
    omega arith
from-most (suc n) k size h =
    let e : k + suc n ≡ k + 1 + n = omega arith in
    let more = from-most n (k + 1) size (subst (λ j. size ≤ 2 ^ j) e h) in
    let one : k ≤ k + suc n = omega arith in
    let two : id_from (suc n) (k + 1) size ≤ k + suc n = omega arith in
    most-of (nat_le size (2 ^ k)) (k + suc n) k (id_from (suc n) (k + 1) size) one two

served : (size : ℕ) → IsChipSize size → is_served_id 239 64 (id_from 9 16 size) ≡ true
served size s =
    and_from _ _ (and_from _ _ refl (le-leb _ _ (from-least 9 16 size))) (le-leb _ _ (from-most 8 16 size s.most))

sized-same : (k : ℕ) (p : Params) → k ≡ id_from 9 16 p.bytes → sized k (Ok p) ≡ Ok p
sized-same k p e = cond-false _ _ _ (ap not (eq-eqb _ _ e))

pub told-accepted : (c : Chip) (p : Params) → IsChipSize (length c.memory) → is_locked (told c) ≡ false → params_of c.sfdp ≡ Ok p → p.bytes ≡ length c.memory → format_answer (told c) ≡ Ok p
told-accepted c p size unlocked table bytes =
    let k = id_from 9 16 (length c.memory) in
    let good : identity (told c) ≡ Ok p =
    cond-false _ _ _ (ap not (served (length c.memory) size))
    ∙ (ap (λ r. sized k r) table ∙ sized-same k p (ap (λ n. id_from 9 16 n) (sym bytes))) in
    cond-false _ _ _ unlocked ∙ good
