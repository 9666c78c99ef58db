use Rattle.std.proofs.Common.{rules, arith}
use Rattle.journal_slots.proofs.Killing.{firm-step, dead-step, begun-step}
use Rattle.journal_slots.proofs.firm.firm_bytes.Goals as goal

pub loop-place-preserved : goal.loop-place-preserved
loop-place-preserved c = record {
  size = search rules;
  each = firm-step _ c.loop-place.head c.loop-place.place c.firm_state.result (omega arith) (omega arith) c.loop-place.invariant.each c.loop-place.invariant.rest c.firm_state.ensures.programmed;
  dead = dead-step _ c.loop-place.head c.loop-place.place c.firm_state.result (omega arith) (omega arith) c.loop-place.invariant.dead c.loop-place.invariant.rest c.firm_state.ensures.dead;
  begun = begun-step _ c.loop-place.head c.loop-place.place c.firm_state.result (omega arith) (omega arith) c.loop-place.invariant.begun c.loop-place.invariant.rest c.firm_state.ensures.begun;
  rest = search rules;
}
