use Rattle.std.specs.Prelude.{false}
use Rattle.norbd_script.proofs.running.run_steady.Given as goal

-- nothing is known of the chip but the count of slow operations
abbrev pub ghosts-run_checked : goal.ghosts-run_checked
ghosts-run_checked g a = record { sound = false; slows = g.B.SpiBus.slows a.bus; firm = false; cuts = 0 }
