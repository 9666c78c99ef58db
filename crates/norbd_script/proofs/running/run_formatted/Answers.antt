use Rattle.std.proofs.Common.{subst}
use Rattle.std.specs.Prelude.{OnOk}
use Rattle.flash_disk.specs.Formatted.{Formatted}
use Rattle.norbd_script.proofs.running.run_formatted.Goals as goal

pub run_new-requires-clause-formatted : goal.run_new-requires-clause-formatted
run_new-requires-clause-formatted g c = subst (λ r. OnOk r (Formatted (g.B.SpiBus.chip c.format-bus.result.0))) c.in-Ok.is c.format-bus.ensures.formatted
