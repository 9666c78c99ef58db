-- A keeper goes on by one round.
use Rattle.std.proofs.Common.{◌≡◌, ℕ, ◌+◌, List, [], ◌∷◌, ◌++◌, length, length-append, Bool, Result, Ok, refl, arith, subst, ◌∙◌}
use Rattle.block_device.specs.declared.disk.DiskError.{DiskError}
use Rattle.nbd_share.specs.declared.door.Point.{Point}
use Rattle.nbd_share.specs.declared.door.Point.TheVariants.{Tidy}
use Rattle.nbd_worker.specs.Sweeping.{Sweeps, tidyings}

tidyings-append : (ps qs : List Point) → tidyings (ps ++ qs) ≡ tidyings ps + tidyings qs
tidyings-append [] qs = omega arith
tidyings-append (p ∷ ps) qs = let ih = tidyings-append ps qs in omega (arith, ih)

-- the gate was passed once more
pub tidyings-one : (points : List Point) (n : ℕ) → tidyings points ≡ n → tidyings (points ++ Tidy ∷ []) ≡ n + 1
tidyings-one points n e = tidyings-append points (Tidy ∷ []) ∙ omega (arith, e)

-- one step more
pub sweeps-more : {S : Type 0} (tidies : S → S → Result Bool DiskError → Type 0) (a m b : S) (answers : List Bool) (done : Bool) → Sweeps tidies a answers m → tidies m b (Ok done) → Sweeps tidies a (answers ++ done ∷ []) b
sweeps-more {S = S} tidies a m b [] done s t = let P : S → Type 0 = λ x. tidies x b (Ok done) in (b, subst P s t, refl)
sweeps-more tidies a m b (x ∷ answers) done s t = (s.0, s.1, sweeps-more tidies s.0 m b answers done s.2 t)

pub length-one : (answers : List Bool) (done : Bool) → length (answers ++ done ∷ []) ≡ length answers + 1
length-one answers done = length-append answers (done ∷ [])
