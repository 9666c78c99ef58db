use Rattle.journal_slots.proofs.Killing.{third-none}
use Rattle.journal_slots.proofs.firm.firm_state.Goals as goal

pub returns-else-state-clause-dead : goal.returns-else-state-clause-dead
returns-else-state-clause-dead c dead other = third-none _
