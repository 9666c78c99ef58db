use Rattle.std.specs.Prelude.{false, true}
use Rattle.test_disk.proofs.fresh.first_of_new.Given as goal

abbrev pub ghosts-first : goal.ghosts-first
ghosts-first g a = record { sound = true; slows = 0; firm = false; cuts = 0 }
