use Rattle.std.proofs.Common.{codes, inr, refl}
use Rattle.clap.proofs.TakesLemmas.{passed_up}
use Rattle.norbd_line.proofs.line.script_line.Goals as goal

pub returns-in_err-chip_size-clause-fault : goal.returns-in_err-chip_size-clause-fault
returns-in_err-chip_size-clause-fault c =
    passed_up c.from_residual.result c.in_err-chip_size.field-0.0 _ c.from_residual.ensures.1 (c.in_err-chip_size.ensures.fault (codes "script") (inr refl))
