-- What names a programmer. Source: own.
use Rattle.std.specs.Prelude.{◌≡◌, List, ℕ, Option, Some, None, ◌++◌, codes}
use Rattle.serprog_link.specs.declared.place.Way.{Way}
use Rattle.serprog_link.specs.declared.place.Way.TheVariants.{Tcp, Serial}

-- A word names a programmer over TCP where it begins with "tcp:", and one that is a serial device
-- where it begins with "serial:"; its place is what follows.
abbrev pub NamesProgrammer : List ℕ → Option Way → Type 0
NamesProgrammer word (Some (Tcp place)) = word ≡ codes "tcp:" ++ place.now
NamesProgrammer word (Some (Serial path)) = word ≡ codes "serial:" ++ path.now
NamesProgrammer word None = ((place : List ℕ) → word ≡ codes "tcp:" ++ place → ⊥)
    × ((path : List ℕ) → word ≡ codes "serial:" ++ path → ⊥)
