-- What a chip tells, as it was received.
use Rattle.std.proofs.Common.{◌≡◌, ℕ, ◌+◌, ◌<◌, Bool, true, false, not, cond, eqb, List, length, sym, ap, ◌∙◌, subst, arith, Result, Ok, Err}
use Rattle.std.proofs.Math.Nat.{mod-eq_of_lt}
use Rattle.std.proofs.lemmas.Bool.{cond-false}
use Rattle.std.proofs.lemmas.List.{ext_get_or}
use Rattle.sfdp.specs.Params.{params_of}
use Rattle.sfdp.specs.declared.params.Params.{Params}
use Rattle.sfdp.specs.declared.error.SfdpError.{SfdpError}
use Rattle.chip_model.specs.Memory.{byte}
use Rattle.chip_model.specs.Chip.{Chip, IsChip}
use Rattle.chip_model.specs.Frames as frames
use Rattle.nor_driver.specs.Steps.{Woken}
use Rattle.nor_driver.specs.Probe.{Readings, told, is_served_id, sized, identity, AnswersIdentity, Identifies}
use Rattle.nor_driver.specs.declared.error.ProbeError.{ProbeError}
use Rattle.nor_driver.specs.declared.error.ProbeError.TheVariants as refusals

-- what the checks of id and table answer
abbrev IsIdentity : Result Params ProbeError → Type 0
IsIdentity (Ok p) = Unit {0}
IsIdentity (Err refusals.Cut) = ⊥
IsIdentity (Err refusals.Slow) = ⊥
IsIdentity (Err refusals.WrongId) = Unit {0}
IsIdentity (Err (refusals.Sfdp e)) = Unit {0}
IsIdentity (Err refusals.Protected) = ⊥

either : (b : Bool) (x y : Result Params ProbeError) → IsIdentity x → IsIdentity y → IsIdentity (cond b x y)
either true x y h k = h
either false x y h k = k

sized_is : (exponent : ℕ) (r : Result Params SfdpError) → IsIdentity (sized exponent r)
sized_is exponent (Err e) = tt
sized_is exponent (Ok p) = either (not (eqb exponent (frames.id_from 9 16 p.bytes))) (Err refusals.WrongId) (Ok p) tt tt

identity_is : (t : Readings) → IsIdentity (identity t)
identity_is t = either (not (is_served_id t.maker t.kind t.exponent)) (Err refusals.WrongId) (sized t.exponent (params_of t.sfdp)) tt (sized_is t.exponent (params_of t.sfdp))

names : (answer : Result Params ProbeError) (c new : Chip) (cuts cuts' : ℕ) → AnswersIdentity answer c new → cuts' ≡ cuts → IsIdentity answer → Identifies answer c cuts new cuts'
names (Ok p) c new cuts cuts' h n k = (h, n)
names (Err refusals.Cut) c new cuts cuts' h n k = absurd k
names (Err refusals.Slow) c new cuts cuts' h n k = absurd k
names (Err refusals.WrongId) c new cuts cuts' h n k = (h, n)
names (Err (refusals.Sfdp e)) c new cuts cuts' h n k = (h, n)
names (Err refusals.Protected) c new cuts cuts' h n k = absurd k

-- the 256 bytes of 5Ah are the chip's
pub table_back : (c : Chip) (table : List ℕ) → IsChip c → length table ≡ 256 → frames.Receives c (frames.Sfdp 0) table → table ≡ c.sfdp
table_back c table law long answers = ext_get_or 0 table c.sfdp (long ∙ sym law.sfdp) (λ k low.
    let small : 0 + k < 256 = omega (arith, long) in
    let first : 0 + k ≡ k = omega arith in
    answers k low ∙ ap (λ i. byte c.sfdp i) (mod-eq_of_lt small ∙ first))

-- id and table as they were received
pub record Received (new : Chip) (id table : List ℕ) : Type 0 where
  pub law : IsChip new
  pub three : length id ≡ 3
  pub whole : length table ≡ 256
  pub id_told : frames.Receives new frames.Id id
  pub table_told : frames.Receives new (frames.Sfdp 0) table

pub identified : (c new : Chip) (cuts cuts' : ℕ) (id table : List ℕ) (answer : Result Params ProbeError) → Woken c new → cuts' ≡ cuts → Received new id table
    → is_served_id (byte id 0) (byte id 1) (byte id 2) ≡ true → answer ≡ sized (byte id 2) (params_of table) → Identifies answer c cuts new cuts'
identified c new cuts cuts' id table answer woken n r served is =
    let t = told new in
    let b0 : byte id 0 ≡ t.maker = r.id_told 0 (let l = r.three in omega (arith, l)) in
    let b1 : byte id 1 ≡ t.kind = r.id_told 1 (let l = r.three in omega (arith, l)) in
    let b2 : byte id 2 ≡ t.exponent = r.id_told 2 (let l = r.three in omega (arith, l)) in
    let known : is_served_id t.maker t.kind t.exponent ≡ true =
    subst (λ (x : ℕ). is_served_id x t.kind t.exponent ≡ true) b0
    (subst (λ (x : ℕ). is_served_id (byte id 0) x t.exponent ≡ true) b1
    (subst (λ (x : ℕ). is_served_id (byte id 0) (byte id 1) x ≡ true) b2 served)) in
    let all : answer ≡ identity t =
    is
    ∙ (ap (λ x. sized x (params_of table)) b2
    ∙ (ap (λ x. sized t.exponent (params_of x)) (table_back new table r.law r.whole r.table_told)
    ∙ sym (cond-false _ _ _ (ap not known)))) in
    names answer c new cuts cuts' (record { woken = woken; table = all }) n (subst (λ (x : Result Params ProbeError). IsIdentity x) (sym all) (identity_is t))
