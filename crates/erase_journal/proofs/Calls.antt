-- One call after another that ends settled.
use Rattle.std.proofs.Common.{◌≡◌, ℕ, ◌<◌, refl, arith}
use Rattle.nor_driver.specs.State.{NorState}
use Rattle.nor_driver.specs.declared.error.NorError.{NorError}
use Rattle.erase_journal.specs.Steps.{RefusesFirmly, SucceedsSettled}
use Rattle.erase_journal.proofs.SettledLaws.{settled-after}
use Rattle.erase_journal.proofs.Firmly.{refuses-firmly}

-- After so many calls that answered Ok: none was made, or they leave together what one leaves.
pub data Repeated (n : ℕ) (old new : NorState) : Type 0 where
  not_begun : n ≡ 0 → new ≡ old → Repeated n old new
  begun : SucceedsSettled old new → Repeated n old new

pub repeated-then : (n : ℕ) (a b c : NorState) → Repeated n a b → SucceedsSettled b c → SucceedsSettled a c
repeated-then n a b c (not_begun z e) s = rw e at s
repeated-then n a b c (begun s) t = settled-after a b c s t

pub repeated-refuses : (n : ℕ) (e : NorError) (a b c : NorState) → Repeated n a b → RefusesFirmly e b c → RefusesFirmly e a c
repeated-refuses n e a b c (not_begun z f) r = rw f at r
repeated-refuses n e a b c (begun s) r = refuses-firmly e a b c s r

pub repeated-all : (n : ℕ) (a b : NorState) → 0 < n → Repeated n a b → SucceedsSettled a b
repeated-all n a b some (not_begun z e) = absurd (omega arith)
repeated-all n a b some (begun s) = s

pub repeated-none : (a : NorState) → Repeated 0 a a
repeated-none a = not_begun refl refl

pub repeated-more : (n k : ℕ) (a b c : NorState) → Repeated n a b → SucceedsSettled b c → Repeated k a c
repeated-more n k a b c s t = begun (repeated-then n a b c s t)

pub ruleset repeated_calls = (repeated-none, repeated-more, repeated-then, repeated-refuses, repeated-all)
