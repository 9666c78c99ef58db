-- Whether there is a committed copy of a block, block by block.
use Rattle.std.proofs.Common.{◌≡◌, ℕ, ◌+◌, Bool, true, false, refl, sym, ap, ◌∙◌, arith, add-one}
use Rattle.std.proofs.lemmas.Bool.{ne_eqb}
use Rattle.std.specs.Prelude.{◌==◌, ◌||◌, not, if◌then◌else◌}
use Rattle.nor_layout.specs.declared.kind.Kind.{Kind}
use Rattle.erase_journal.proofs.Counts.{how_many-zero, how_many-suc}
use Rattle.sector_slots.specs.Slots.{copies, is_copy_of}

or-false : (b : Bool) → (b || false) ≡ b
or-false true = refl
or-false false = refl

or-true : (b : Bool) → (b || true) ≡ true
or-true true = refl
or-true false = refl

counted-more : (p : Bool) (n : ℕ) → not (((if p then 1 else 0) + n) == 0) ≡ (not (n == 0) || p)
counted-more true n =
    let some : ((1 + n) == 0) ≡ false = ne_eqb (1 + n) 0 (λ e. omega (arith, e)) in
    ap not some ∙ sym (or-true (not (n == 0)))
counted-more false n =
    let same : 0 + n ≡ n = omega arith in
    ap (λ k. not (k == 0)) same ∙ sym (or-false (not (n == 0)))

pub copied-none : (kind : ℕ → Kind) (c : ℕ) → not (copies kind 0 c == 0) ≡ false
unfolding copies
copied-none kind c = ap (λ n. not (n == 0)) (how_many-zero (λ d. is_copy_of (c + 4) (kind d)))

pub copied-more : (kind : ℕ → Kind) (b c : ℕ) → not (copies kind (b + 1) c == 0) ≡ (not (copies kind b c == 0) || is_copy_of (c + 4) (kind b))
unfolding copies
copied-more kind b c =
    ap (λ n. not (copies kind n c == 0)) (add-one b)
    ∙ (ap (λ n. not (n == 0)) (how_many-suc (λ d. is_copy_of (c + 4) (kind d)) b) ∙ counted-more (is_copy_of (c + 4) (kind b)) (copies kind b c))
