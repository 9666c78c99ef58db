use Rattle.std.proofs.Common.{◌≡◌, ◌<◌, ℕ}
use Rattle.sector_slots.specs.Blocks.{IsAtRest}
use Rattle.sector_slots.specs.Slots.{kind_at}
use Rattle.sector_survey.proofs.clean.are_at_rest.Given as goal

abbrev pub invariant-loop-block : goal.invariant-loop-block
invariant-loop-block g l = record {
  same : (g.S.SlotCalls.state l.slots).memory ≡ (g.S.SlotCalls.state l.fn.slots).memory;
  rest : (c : ℕ) → c < l.block → IsAtRest (kind_at (g.S.SlotCalls.state l.fn.slots).memory c);
}
