use Rattle.std.proofs.Common.{arith}
use Rattle.chip_model.proofs.FrameLaws.{idle_not_slow}
use Rattle.serprog_chip.proofs.erasing.send.Goals as goal

pub returns-clause-slows : goal.returns-clause-slows
returns-clause-slows g c = omega (arith, c.in_ok-transact.ensures.slows_ok, idle_not_slow _ _ _ _ c.requires c.in_ok-transact.ensures.frame)
