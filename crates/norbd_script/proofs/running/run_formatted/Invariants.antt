use Rattle.std.specs.Prelude.{false, true}
use Rattle.norbd_script.proofs.running.run_formatted.Given as goal

abbrev pub ghosts-run_new : goal.ghosts-run_new
ghosts-run_new g a = record { sound = true; slows = g.B.SpiBus.slows a.bus; firm = false; cuts = 0 }
