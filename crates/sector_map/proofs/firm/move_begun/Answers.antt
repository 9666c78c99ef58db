use Rattle.std.proofs.Common.{◌+◌, ◌∙◌, refl}
use Rattle.std.proofs.lemmas.Result.{err_from_is_err_and}
use Rattle.erase_journal.proofs.Calls.{repeated-none, repeated-more}
use Rattle.sector_map.proofs.Mending.{mends-after}
use Rattle.sector_map.proofs.Mounting.{perhaps-healthy}
use Rattle.sector_map.proofs.Moving.{repeated-perhaps, still-repairs, repairs-after, repairs-mended}
use Rattle.erase_journal.specs.Steps.{RefusesFirmly}
use Rattle.nor_driver.proofs.CallLaws.{fails-as, fails-of}
use Rattle.erase_journal.specs.Steps.{SucceedsSettled}
use Rattle.sector_map.proofs.Retiring.{refuses-perhaps}
use Rattle.std.proofs.Common.{arith}
use Rattle.sector_map.proofs.MountFirmly.{moved-none, moved-more, moved-all, none-moved}
use Rattle.sector_map.proofs.firm.move_begun.Goals as goal

pub loop-block-init : goal.loop-block-init
loop-block-init g c =
    let a = g.S.SlotCalls.state c.args.stock.now in
    record { size = refl; repairs = still-repairs c.args.table.now a.memory a.memory c.requires.mended refl; moved = moved-none c.args.begun a; since = repeated-none a }

pub move_if_begun-requires-clause-mended : goal.move_if_begun-requires-clause-mended
move_if_begun-requires-clause-mended g c =
    repairs-mended c.loop-block.table (g.S.SlotCalls.state c.args.stock.now).memory (g.S.SlotCalls.state c.loop-block.stock).memory c.requires.mended.sound c.loop-block.invariant.repairs

pub returns-in_err-move_if_begun-clause-cut : goal.returns-in_err-move_if_begun-clause-cut
returns-in_err-move_if_begun-clause-cut g c is healthy =
    let p = err_from_is_err_and c.from_residual.result c.from_residual.ensures.1 in
    let a = g.S.SlotCalls.state c.args.stock.now in
    let b = g.S.SlotCalls.state c.loop-block.stock in
    let well = perhaps-healthy a b (repeated-perhaps c.loop-block.block a b c.loop-block.invariant.since) healthy in
    mends-after a.memory b.memory (g.S.SlotCalls.state c.move_if_begun.new.stock).memory c.loop-block.invariant.repairs.mends (c.in_err-move_if_begun.ensures.cut (cc (p.1, p.2)) well)

pub returns-in_err-move_if_begun-clause-healthy : goal.returns-in_err-move_if_begun-clause-healthy
returns-in_err-move_if_begun-clause-healthy g c is healthy =
    let p = err_from_is_err_and c.from_residual.result c.from_residual.ensures.1 in
    let a = g.S.SlotCalls.state c.args.stock.now in
    let b = g.S.SlotCalls.state c.loop-block.stock in
    c.in_err-move_if_begun.ensures.healthy (cc (p.1, p.2)) (perhaps-healthy a b (repeated-perhaps c.loop-block.block a b c.loop-block.invariant.since) healthy)

pub loop-block-preserved : goal.loop-block-preserved
loop-block-preserved g c =
    let a = g.S.SlotCalls.state c.args.stock.now in
    let b = g.S.SlotCalls.state c.loop-block.stock in
    let d = g.S.SlotCalls.state c.move_if_begun.new.stock in
    record {
      size = c.move_if_begun.ensures.table ∙ c.loop-block.invariant.size;
      repairs = repairs-after c.loop-block.table c.move_if_begun.new.table a.memory b.memory d.memory c.loop-block.invariant.repairs c.in_ok-move_if_begun.ensures.ok;
      moved = moved-more c.loop-block.block (c.loop-block.block + 1) c.args.begun a b d refl c.move_if_begun.ensures.size c.in_ok-move_if_begun.ensures.moves c.loop-block.invariant.moved;
      since = repeated-more c.loop-block.block (c.loop-block.block + 1) a b d c.loop-block.invariant.since c.in_ok-move_if_begun.ensures.ends;
    }

pub returns-clause-done : goal.returns-clause-done
returns-clause-done g c = repeated-perhaps c.loop-block.block (g.S.SlotCalls.state c.args.stock.now) (g.S.SlotCalls.state c.loop-block.stock) c.loop-block.invariant.since

pub returns-in_err-move_if_begun-clause-fails : goal.returns-in_err-move_if_begun-clause-fails
returns-in_err-move_if_begun-clause-fails g c =
    let s0 = g.S.SlotCalls.state c.args.stock.now in
    let s1 = g.S.SlotCalls.state c.loop-block.stock in
    let s2 = g.S.SlotCalls.state c.move_if_begun.new.stock in
    fails-of c.from_residual.result (SucceedsSettled s0 s2) (λ e. RefusesFirmly e s0 s2) (fails-as c.from_residual.result _ (λ _. SucceedsSettled s0 s2) (λ e. RefusesFirmly e s0 s2) c.from_residual.ensures.1
    (refuses-perhaps _ s0 s1 s2 (repeated-perhaps c.loop-block.block s0 s1 c.loop-block.invariant.since) c.in_err-move_if_begun.ensures.ends))

pub returns-then-not-begun-clause-store : goal.returns-then-not-begun-clause-store
returns-then-not-begun-clause-store g c h = none-moved c.args.begun (g.S.SlotCalls.state c.args.stock.now) c.if-not-begun.true h

pub returns-clause-store : goal.returns-clause-store
returns-clause-store g c h =
    let n = c.loop-block.invariant.repairs.mends.chip.same_length in
    let count = c.blocks-count.ensures.count in
    moved-all c.loop-block.block c.args.begun (g.S.SlotCalls.state c.args.stock.now) (g.S.SlotCalls.state c.loop-block.stock) (rw n (omega (arith, c.loop-block-test.false, count))) c.loop-block.invariant.moved h
