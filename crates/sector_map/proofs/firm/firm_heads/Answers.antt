use Rattle.std.proofs.Common.{◌+◌, ◌<◌, false, arith}
use Rattle.std.proofs.lemmas.Result.{err_from_is_err_and}
use Rattle.erase_journal.proofs.Calls.{repeated-none, repeated-more}
use Rattle.sector_slots.specs.Slots.{data_blocks}
use Rattle.erase_journal.specs.Steps.{RefusesFirmly}
use Rattle.nor_driver.proofs.CallLaws.{fails-as, fails-of}
use Rattle.erase_journal.specs.Steps.{SucceedsSettled}
use Rattle.sector_map.proofs.Retiring.{refuses-perhaps}
use Rattle.sector_map.proofs.Alike.{firm-none, firm-head, later-none, later-head, begun-none, begun-more, begun-all}
use Rattle.sector_map.proofs.Moving.{repeated-perhaps}
use Rattle.sector_map.proofs.Mounting.{perhaps-healthy}
use Rattle.nor_driver.specs.State.{bits_in}
use Rattle.sector_map.proofs.Firmness.{heads-none, heads-more}
use Rattle.sector_map.proofs.firm.firm_heads.Goals as goal

pub loop-block-init : goal.loop-block-init
loop-block-init g c = record { later = later-none (g.S.SlotCalls.state c.args.slots.now).memory; none = begun-none false (g.S.SlotCalls.state c.args.slots.now).memory; firm = firm-none (g.S.SlotCalls.state c.args.slots.now).memory; heads = heads-none false (bits_in (g.S.SlotCalls.state c.args.slots.now)); since = repeated-none (g.S.SlotCalls.state c.args.slots.now) }

pub returns-in_err-here-clause-cut : goal.returns-in_err-here-clause-cut
returns-in_err-here-clause-cut g c is =
    let p = err_from_is_err_and c.from_residual.result c.from_residual.ensures.1 in
    firm-head c.loop-block.block (g.S.SlotCalls.state c.args.slots.now).memory (g.S.SlotCalls.state c.loop-block.slots).memory (g.S.SlotCalls.state c.firm_head.new.self).memory c.loop-block.invariant.firm (c.in_err-here.ensures.cut (cc (p.1, p.2)))

pub returns-in_err-here-clause-healthy : goal.returns-in_err-here-clause-healthy
returns-in_err-here-clause-healthy g c is healthy =
    let p = err_from_is_err_and c.from_residual.result c.from_residual.ensures.1 in
    let a = g.S.SlotCalls.state c.args.slots.now in
    let b = g.S.SlotCalls.state c.loop-block.slots in
    c.in_err-here.ensures.healthy (cc (p.1, p.2)) (perhaps-healthy a b (repeated-perhaps c.loop-block.block a b c.loop-block.invariant.since) healthy)

pub loop-block-preserved : goal.loop-block-preserved
loop-block-preserved g c =
    let a = g.S.SlotCalls.state c.args.slots.now in
    let b = g.S.SlotCalls.state c.loop-block.slots in
    let d = g.S.SlotCalls.state c.firm_head.new.self in
    let inside : c.loop-block.block < data_blocks a.memory = omega (arith, c.loop-block-test.true, c.blocks-count.ensures.count) in
    let later = c.loop-block.invariant.later in
    record {
      later = later-head c.loop-block.block a.memory b.memory d.memory c.loop-block.invariant.firm.chip.same_length later c.in_ok-here.ensures.kept;
      none = begun-more c.loop-block.begun c.in_ok-here.here c.either-begun.result c.loop-block.block a.memory b.memory inside c.either-begun.ensures c.loop-block.invariant.none later (λ e. c.in_ok-here.ensures.not_begun (cc e));
      firm = firm-head c.loop-block.block a.memory b.memory d.memory c.loop-block.invariant.firm c.in_ok-here.ensures.kept;
      heads = heads-more (bits_in b) (bits_in d) c.in_ok-here.ensures.ends.kept.bits c.loop-block.block c.loop-block.begun c.in_ok-here.here c.either-begun.result (let n = c.loop-block.invariant.firm.chip.same_length in rw n inside) c.either-begun.ensures
          c.in_ok-here.ensures.kept c.in_ok-here.ensures.zeros c.in_ok-here.ensures.for_good (λ e. c.in_ok-here.ensures.not_begun (cc e)) c.loop-block.invariant.heads;
      since = repeated-more c.loop-block.block (c.loop-block.block + 1) a b d c.loop-block.invariant.since c.in_ok-here.ensures.ends;
    }

pub returns-clause-done : goal.returns-clause-done
returns-clause-done g c = repeated-perhaps c.loop-block.block (g.S.SlotCalls.state c.args.slots.now) (g.S.SlotCalls.state c.loop-block.slots) c.loop-block.invariant.since

pub returns-clause-none : goal.returns-clause-none
returns-clause-none g c e =
    begun-all c.loop-block.begun c.loop-block.block (g.S.SlotCalls.state c.args.slots.now).memory (omega (arith, c.loop-block-test.false, c.loop-block.auto.block-end, c.blocks-count.ensures.count)) c.loop-block.invariant.none e

pub returns-in_err-here-clause-fails : goal.returns-in_err-here-clause-fails
returns-in_err-here-clause-fails g c =
    let s0 = g.S.SlotCalls.state c.args.slots.now in
    let s1 = g.S.SlotCalls.state c.loop-block.slots in
    let s2 = g.S.SlotCalls.state c.firm_head.new.self in
    fails-of c.from_residual.result (SucceedsSettled s0 s2) (λ e. RefusesFirmly e s0 s2) (fails-as c.from_residual.result _ (λ _. SucceedsSettled s0 s2) (λ e. RefusesFirmly e s0 s2) c.from_residual.ensures.1
    (refuses-perhaps _ s0 s1 s2 (repeated-perhaps c.loop-block.block s0 s1 c.loop-block.invariant.since) c.in_err-here.ensures.ends))

pub returns-clause-heads : goal.returns-clause-heads
returns-clause-heads g c d low =
    let n = c.loop-block.invariant.firm.chip.same_length in
    let inside : d < data_blocks (g.S.SlotCalls.state c.args.slots.now).memory = rw (← n) low in
    c.loop-block.invariant.heads d (omega (arith, inside, c.loop-block-test.false, c.loop-block.auto.block-end, c.blocks-count.ensures.count))
