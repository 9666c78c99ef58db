-- Maintenance never uses up the votes.
use Rattle.std.proofs.Common.{◌≡◌, ℕ, ◌+◌, ◌-◌, ◌*◌, ◌<◌, refl, ap, ◌∙◌, subst, arith}
use Rattle.nor_layout.specs.declared.journal.JournalId.{JournalId}
use Rattle.nor_layout.specs.declared.journal.JournalId.TheVariants.{J0, J1, J2}
use Rattle.erase_journal.specs.declared.unused.Unused.{Unused}
use Rattle.erase_journal.specs.Votes.{IsRested, IsLowestTired, Last, once_erased}
use Rattle.erase_journal.specs.Steps.{SameNumbers}

-- Numbers that are the same.
abbrev seven : ℕ → ℕ → ℕ → ℕ → ℕ → ℕ → ℕ → Unused
seven a b c d e f g = record { j0_for_1 = a; j0_for_2 = b; j1_for_0 = c; j1_for_2 = d; j2_for_0 = e; j2_for_1 = f; free = g }

pub same-unused : (u v : Unused) → SameNumbers u v → v ≡ u
same-unused u v n =
    ap (λ x. seven x v.j0_for_2 v.j1_for_0 v.j1_for_2 v.j2_for_0 v.j2_for_1 v.free) n.n01
    ∙ (ap (λ x. seven u.j0_for_1 x v.j1_for_0 v.j1_for_2 v.j2_for_0 v.j2_for_1 v.free) n.n02
    ∙ (ap (λ x. seven u.j0_for_1 u.j0_for_2 x v.j1_for_2 v.j2_for_0 v.j2_for_1 v.free) n.n10
    ∙ (ap (λ x. seven u.j0_for_1 u.j0_for_2 u.j1_for_0 x v.j2_for_0 v.j2_for_1 v.free) n.n12
    ∙ (ap (λ x. seven u.j0_for_1 u.j0_for_2 u.j1_for_0 u.j1_for_2 x v.j2_for_1 v.free) n.n20
    ∙ (ap (λ x. seven u.j0_for_1 u.j0_for_2 u.j1_for_0 u.j1_for_2 u.j2_for_0 x v.free) n.n21
    ∙ ap (λ x. seven u.j0_for_1 u.j0_for_2 u.j1_for_0 u.j1_for_2 u.j2_for_0 u.j2_for_1 x) n.free)))))

pub same-refl : (u : Unused) → SameNumbers u u
same-refl u = record { n01 = refl; n02 = refl; n10 = refl; n12 = refl; n20 = refl; n21 = refl; free = refl }

pub same-on : (u v w : Unused) → SameNumbers u v → SameNumbers v w → SameNumbers u w
same-on u v w a b = subst (λ x. SameNumbers x w) (same-unused u v a) b

-- Maintenance keeps what lasts.
pub Last-erased : (x : JournalId) (u : Unused) → Last u → IsLowestTired x u → Last (once_erased x u)
Last-erased J0 u h tired = grind arith
Last-erased J1 u h tired = grind arith
Last-erased J2 u h tired = grind arith

-- Where no journal is tired, each can be erased.
pub Last-renewed : (x : JournalId) (u : Unused) → IsRested J0 u → IsRested J1 u → IsRested J2 u → Last (once_erased x u)
Last-renewed J0 u r0 r1 r2 = grind arith
Last-renewed J1 u r0 r1 r2 = grind arith
Last-renewed J2 u r0 r1 r2 = grind arith

-- Where no journal is tired, an entry can be taken.
pub Last-rested : (u v : Unused) → IsRested J0 u → IsRested J1 u → IsRested J2 u → v.j0_for_1 ≡ u.j0_for_1 → v.j0_for_2 ≡ u.j0_for_2
    → v.j1_for_0 ≡ u.j1_for_0 → v.j1_for_2 ≡ u.j1_for_2 → v.j2_for_0 ≡ u.j2_for_0 → v.j2_for_1 ≡ u.j2_for_1 → Last v
Last-rested u v r0 r1 r2 e01 e02 e10 e12 e20 e21 = grind arith

-- how far the journals are from rest: falls with each erase of maintenance
abbrev pub wear : Unused → ℕ
wear u = (8 - u.j0_for_1) + (8 - u.j0_for_2) + (8 - u.j1_for_0) + (8 - u.j1_for_2) + (8 - u.j2_for_0) + (8 - u.j2_for_1) + 5 * (1 - u.free)

pub wear-falls : (x : JournalId) (u : Unused) → Last u → IsLowestTired x u → wear (once_erased x u) < wear u
wear-falls J0 u h tired = grind arith
wear-falls J1 u h tired = grind arith
wear-falls J2 u h tired = grind arith

-- `Last` depends on the seven numbers alone.
pub Last-moved : (u v : Unused) → SameNumbers u v → Last u → Last v
Last-moved u v n l = grind arith
