use Rattle.std.proofs.Common.{◌∙◌, ◌*◌, true, false, sym, arith}
use Rattle.sector_slots.specs.Slots.{slot_at, slot_count, kind_at}
use Rattle.sector_map.proofs.Tables.{tabled-skipped}
use Rattle.sector_map.proofs.Founds.{heads-of, skips-of, kind-counts}
use Rattle.sector_survey.specs.Findings.{IsSlotFaultIn}
use Rattle.sector_survey.proofs.Faults.{some-weaker}
use Rattle.sector_survey.proofs.table.read_block.Goals as goal

pub returns-then-is_counted-clause-entered : goal.returns-then-is_counted-clause-entered
returns-then-is_counted-clause-entered g c none =
    let m = (g.S.SlotCalls.state c.args.slots.now).memory in
    let here = kind-counts c.args.found c.args.block c.in_ok-kind.kind (kind_at m c.args.block) true c.in_ok-kind.ensures.ok (sym c.is_counted.ensures ∙ c.if-is_counted.true) in
    c.enter_seven.ensures.entered none (slot_at m) (heads-of c.args.found m c.args.block c.head.new.into c.requires.found c.requires.number here c.in_ok-kind.ensures.slots) c.requires.tabled

pub returns-then-is_counted-clause-fault : goal.returns-then-is_counted-clause-fault
returns-then-is_counted-clause-fault g c =
    let m = (g.S.SlotCalls.state c.args.slots.now).memory in
    let here = kind-counts c.args.found c.args.block c.in_ok-kind.kind (kind_at m c.args.block) true c.in_ok-kind.ensures.ok (sym c.is_counted.ensures ∙ c.if-is_counted.true) in
    some-weaker c.enter_seven.result _ (λ fault. IsSlotFaultIn fault m) (λ fault h. h (slot_at m) (slot_count m) _
    (heads-of c.args.found m c.args.block c.head.new.into c.requires.found c.requires.number here c.in_ok-kind.ensures.slots) (omega (arith, c.requires.number)) c.requires.tabled c.requires.size) c.enter_seven.ensures.fault

pub returns-else-is_counted-clause-entered : goal.returns-else-is_counted-clause-entered
returns-else-is_counted-clause-entered g c none =
    let m = (g.S.SlotCalls.state c.args.slots.now).memory in
    tabled-skipped c.args.table.now (slot_at m) (7 * c.args.block) 7 (skips-of c.args.found m c.args.block c.requires.found (kind-counts c.args.found c.args.block c.in_ok-kind.kind (kind_at m c.args.block) false c.in_ok-kind.ensures.ok (sym c.is_counted.ensures ∙ c.if-is_counted.false))) c.requires.tabled
