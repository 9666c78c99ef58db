-- One more sector of two disks.
use Rattle.std.proofs.Common.{◌≡◌, ◌⊎◌, ℕ, suc, ◌+◌, List, [], ◌∷◌, ◌++◌, inl, inr, subst, arith}
use Rattle.std.specs.Prelude.{◌≢◌}
use Rattle.block_device.specs.Contents.{sector}
use Rattle.norbd_transfer.specs.Differing.{Differing}

is_next : (n : ℕ) → suc n ≡ n + 1
is_next n = omega arith

pub differing_same : (these those : List ℕ) (n : ℕ) (lower numbers : List ℕ) → Differing these those n lower → sector these n ≡ sector those n → numbers ≡ lower → Differing these those (n + 1) numbers
differing_same these those n lower numbers h e is = subst (λ m. Differing these those m numbers) (is_next n) (lower, h, inl (e, is))

pub differing_other : (these those : List ℕ) (n : ℕ) (lower numbers : List ℕ) → Differing these those n lower → sector these n ≢ sector those n → numbers ≡ lower ++ (n ∷ []) → Differing these those (n + 1) numbers
differing_other these those n lower numbers h e is = subst (λ m. Differing these those m numbers) (is_next n) (lower, h, inr (e, is))
