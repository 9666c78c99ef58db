-- What a format answers of what the chip tells.
use Rattle.std.proofs.Common.{◌≡◌, ◌⊎◌, arith, ℕ, Bool, true, false, not, cond, List, length, refl, sym, ap, ◌∙◌, inl, inr}
use Rattle.std.specs.Prelude.{Result, Ok, Err}
use Rattle.sfdp.specs.Params.{params_of}
use Rattle.sfdp.specs.declared.params.Params.{Params}
use Rattle.chip_model.specs.Chip.{Chip, is_idle, completed}
use Rattle.chip_model.specs.Frames.{is_unprotected, id_from, status_1}
use Rattle.nor_driver.specs.Probe.{told, is_served_id, is_unprotected_by, sized, unless_protected, identity, probe_answer, RegistersTellProtection}
use Rattle.nor_driver.specs.Unprotect.{Cleared, clearing, Unprotects}
use Rattle.nor_driver.specs.declared.error.ProbeError.{ProbeError}
use Rattle.nor_driver.specs.declared.error.ProbeError.TheVariants as refusals
use Rattle.flash_disk.specs.Formatted.{is_locked, format_answer, AnswersAsTold, FormatFails}
use Rattle.flash_disk.proofs.Opening.{and-true}

-- what a chip of so many bytes and with this table is known as
abbrev named : ℕ → List ℕ → Result Params ProbeError
named size table = cond (not (is_served_id 239 64 (id_from 9 16 size))) (Err refusals.WrongId) (sized (id_from 9 16 size) (params_of table))

-- a write of status register 1 leaves the id and the table
same-identity : (c n : Chip) → Cleared c n → length n.memory ≡ length c.memory → identity (told n) ≡ identity (told c)
same-identity c n k size =
    let table : n.sfdp ≡ c.sfdp = ap (λ (z : Chip). z.sfdp) k.is ∙ k.left.sfdp in
    ap (λ z. named z n.sfdp) size ∙ ap (λ z. named (length c.memory) z) table

-- and the chip is open then, but where it is locked
open-locked : (c n : Chip) → Cleared c n → is_unprotected n ≡ not (is_locked (told c))
open-locked c n k =
    let d : Chip = completed (clearing k.off) in
    let e : is_unprotected d ≡ not (is_locked (told c)) = rw (k.left.status2, k.left.status3) (and-true (not (is_locked (told c)))) in
    ap (λ z. is_unprotected z) k.is ∙ e

not-back : (b : Bool) → not b ≡ true → b ≡ false
not-back true e = absurd (cc e)
not-back false e = refl

unless-free : (free : Bool) (r a : Result Params ProbeError) → free ≡ true → unless_protected free r ≡ a → r ≡ a
unless-free free (Err e) a is h = h
unless-free true (Ok p) a is h = h
unless-free false (Ok p) a is h = absurd (cc is)

-- a chip that is open then is answered as a probe's checks of its id and its table say
told-answer : (c n : Chip) (a : Result Params ProbeError) → RegistersTellProtection → Cleared c n → is_unprotected n ≡ true → length n.memory ≡ length c.memory → probe_answer (told n) ≡ a → format_answer (told c) ≡ a
told-answer c n a law k free size answer =
    let unlocked : is_locked (told c) ≡ false = not-back (is_locked (told c)) (sym (open-locked c n k) ∙ free) in
    let same : identity (told n) ≡ a = unless-free (is_unprotected_by (status_1 n) n.status2 n.status3) (identity (told n)) a (law n ∙ free) answer in
    ap (λ b. cond b (Err refusals.Protected) (identity (told c))) unlocked ∙ (sym (same-identity c n k size) ∙ same)

pub cleared-idle : (c n : Chip) → Cleared c n → is_idle n.operation ≡ true
cleared-idle c n k = ap (λ (z : Chip). is_idle z.operation) k.is

-- the answer of the probe after the end of protection
pub probe-told : (e : ProbeError) (c n : Chip) → RegistersTellProtection → Cleared c n → is_unprotected n ≡ true → length n.memory ≡ length c.memory
    → (e ≡ refusals.Cut) ⊎ (probe_answer (told n) ≡ Err e) → AnswersAsTold (Err e) (told c)
probe-told refusals.Cut c n law k free size h = tt
probe-told refusals.Slow c n law k free size h = tt
probe-told refusals.WrongId c n law k free size h = elim h as (λ _. format_answer (told c) ≡ Err refusals.WrongId) [ inl z ↦ absurd (cc z) | inr a ↦ told-answer c n (Err refusals.WrongId) law k free size a ]
probe-told (refusals.Sfdp e) c n law k free size h = elim h as (λ _. format_answer (told c) ≡ Err (refusals.Sfdp e)) [ inl z ↦ absurd (cc z) | inr a ↦ told-answer c n (Err (refusals.Sfdp e)) law k free size a ]
probe-told refusals.Protected c n law k free size h = elim h as (λ _. format_answer (told c) ≡ Err refusals.Protected) [ inl z ↦ absurd (cc z) | inr a ↦ told-answer c n (Err refusals.Protected) law k free size a ]

pub found-told : (p : Params) (c n : Chip) → RegistersTellProtection → Cleared c n → is_unprotected n ≡ true → length n.memory ≡ length c.memory → probe_answer (told n) ≡ Ok p → AnswersAsTold (Ok tt) (told c)
found-told p c n law k free size a = (p, told-answer c n (Ok p) law k free size a)

not-front : (b : Bool) → not b ≡ false → b ≡ true
not-front true e = refl
not-front false e = absurd (cc e)

-- the answer where protection can't be ended
pub unprotect-told : (e : ProbeError) (c n : Chip) (cuts slows cuts' slows' : ℕ) → Unprotects (Err e) c cuts slows n cuts' slows' → AnswersAsTold (Err e) (told c)
unprotect-told refusals.Cut c n cuts slows cuts' slows' u = tt
unprotect-told refusals.Slow c n cuts slows cuts' slows' u = tt
unprotect-told refusals.WrongId c n cuts slows cuts' slows' u = absurd u
unprotect-told (refusals.Sfdp e) c n cuts slows cuts' slows' u = absurd u
unprotect-told refusals.Protected c n cuts slows cuts' slows' u = ap (λ b. cond b (Err refusals.Protected) (identity (told c))) (not-front (is_locked (told c)) (sym (open-locked c n u.0) ∙ u.1))

pub unprotect-fails : (e : ProbeError) (c n : Chip) (cuts slows cuts' slows' : ℕ) → Unprotects (Err e) c cuts slows n cuts' slows' → FormatFails e cuts slows cuts' slows'
unprotect-fails refusals.Cut c n cuts slows cuts' slows' u = let x = u.1 in (omega (arith, x), u.2)
unprotect-fails refusals.Slow c n cuts slows cuts' slows' u = let x = u.2 in (u.1, omega (arith, x))
unprotect-fails refusals.WrongId c n cuts slows cuts' slows' u = absurd u
unprotect-fails (refusals.Sfdp e) c n cuts slows cuts' slows' u = absurd u
unprotect-fails refusals.Protected c n cuts slows cuts' slows' u = (u.2, u.3)
