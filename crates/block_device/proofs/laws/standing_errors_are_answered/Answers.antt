use Rattle.block_device.proofs.Standing.{answers_what_stood}
use Rattle.block_device.proofs.laws.standing_errors_are_answered.Goals as goal

pub returns : goal.returns
returns g c = λ old new result latches. answers_what_stood old new result latches
