use Rattle.nor_driver.proofs.Survey.{free_open}
use Rattle.nor_driver.proofs.laws.registers_tell_protection.Goals as goal

pub returns : goal.returns
returns c = free_open
