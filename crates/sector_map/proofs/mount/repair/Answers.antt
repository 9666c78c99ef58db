use Rattle.std.proofs.Common.{sym, subst}
use Rattle.std.proofs.lemmas.Result.{err_from_is_err_and}
use Rattle.erase_journal.specs.Journals.{IsHealthy}
use Rattle.sector_map.specs.Table.{Mends, Repairs}
use Rattle.sector_map.proofs.Mounting.{perhaps-healthy, table-room, perhaps-done}
use Rattle.sector_map.proofs.Mending.{mends-after, mends-of}
use Rattle.sector_map.proofs.Moving.{retired-repairs, repairs-after, repairs-mended}
use Rattle.erase_journal.specs.Steps.{RefusesFirmly}
use Rattle.nor_driver.proofs.CallLaws.{fails-as}
use Rattle.erase_journal.specs.Steps.{SucceedsSettled}
use Rattle.sector_map.proofs.Retiring.{refuses-perhaps, succeeds-perhaps}
use Rattle.sector_map.proofs.MountFirmly.{doubted-same}
use Rattle.sector_map.proofs.mount.repair.Goals as goal

pub returns-in_err-retire_older-clause-cut : goal.returns-in_err-retire_older-clause-cut
returns-in_err-retire_older-clause-cut g c is healthy =
    let p = err_from_is_err_and c.from_residual-in_err-retire_older.result c.from_residual-in_err-retire_older.ensures.1 in
    let a = (g.S.SlotCalls.state c.args.stock.now).memory in
    let b = (g.S.SlotCalls.state c.mend_blocks.new.slots).memory in
    let d = (g.S.SlotCalls.state c.retire_older.new.slots).memory in
    mends-after a b d c.in_ok-mend_blocks.ensures.ok.mends (mends-of b d c.retire_older.ensures.chip (c.in_err-retire_older.ensures.cut (cc (p.1, p.2))) (c.in_err-retire_older.ensures.cut_clean (cc (p.1, p.2))))

pub returns-in_err-retire_older-clause-healthy : goal.returns-in_err-retire_older-clause-healthy
returns-in_err-retire_older-clause-healthy g c is healthy =
    let p = err_from_is_err_and c.from_residual-in_err-retire_older.result c.from_residual-in_err-retire_older.ensures.1 in
    c.in_err-retire_older.ensures.healthy (cc (p.1, p.2)) (perhaps-healthy (g.S.SlotCalls.state c.args.stock.now) (g.S.SlotCalls.state c.mend_blocks.new.slots) c.in_ok-mend_blocks.ensures.done healthy)

pub move_begun-requires : goal.move_begun-requires
move_begun-requires g c =
    let a = (g.S.SlotCalls.state c.args.stock.now).memory in
    let b = (g.S.SlotCalls.state c.mend_blocks.new.slots).memory in
    let d = (g.S.SlotCalls.state c.retire_older.new.slots).memory in
    let r = c.in_ok-retire_older.ensures in
    record { mended = repairs-mended c.retire_older.new.table a d c.requires.sound (retired-repairs c.mend_blocks.new.table c.retire_older.new.table a b d c.in_ok-mend_blocks.ensures.ok c.retire_older.ensures.chip r.sectors r.clean r.ok r.blocks) }

pub returns-in_err-move_begun-clause-cut : goal.returns-in_err-move_begun-clause-cut
returns-in_err-move_begun-clause-cut g c is healthy =
    let p = err_from_is_err_and c.from_residual-in_err-move_begun.result c.from_residual-in_err-move_begun.ensures.1 in
    let a = g.S.SlotCalls.state c.args.stock.now in
    let b = g.S.SlotCalls.state c.mend_blocks.new.slots in
    let d = g.S.SlotCalls.state c.retire_older.new.slots in
    let r = c.in_ok-retire_older.ensures in
    let well = perhaps-healthy b d r.done (perhaps-healthy a b c.in_ok-mend_blocks.ensures.done healthy) in
    mends-after a.memory d.memory (g.S.SlotCalls.state c.move_begun.new.stock).memory
    (retired-repairs c.mend_blocks.new.table c.retire_older.new.table a.memory b.memory d.memory c.in_ok-mend_blocks.ensures.ok c.retire_older.ensures.chip r.sectors r.clean r.ok r.blocks).mends (c.in_err-move_begun.ensures.cut (cc (p.1, p.2)) well)

pub returns-in_err-move_begun-clause-healthy : goal.returns-in_err-move_begun-clause-healthy
returns-in_err-move_begun-clause-healthy g c is healthy =
    let p = err_from_is_err_and c.from_residual-in_err-move_begun.result c.from_residual-in_err-move_begun.ensures.1 in
    let a = g.S.SlotCalls.state c.args.stock.now in
    let b = g.S.SlotCalls.state c.mend_blocks.new.slots in
    c.in_err-move_begun.ensures.healthy (cc (p.1, p.2)) (perhaps-healthy b (g.S.SlotCalls.state c.retire_older.new.slots) c.in_ok-retire_older.ensures.done (perhaps-healthy a b c.in_ok-mend_blocks.ensures.done healthy))

pub fill-requires : goal.fill-requires
fill-requires g c =
    let a = (g.S.SlotCalls.state c.args.stock.now).memory in
    let b = (g.S.SlotCalls.state c.mend_blocks.new.slots).memory in
    let d = (g.S.SlotCalls.state c.retire_older.new.slots).memory in
    let e = (g.S.SlotCalls.state c.move_begun.new.stock).memory in
    let r = c.in_ok-retire_older.ensures in
    let h = repairs-mended c.move_begun.new.table a e c.requires.sound (repairs-after c.retire_older.new.table c.move_begun.new.table a d e
    (retired-repairs c.mend_blocks.new.table c.retire_older.new.table a b d c.in_ok-mend_blocks.ensures.ok c.retire_older.ensures.chip r.sectors r.clean r.ok r.blocks) c.in_ok-move_begun.ensures.ok) in
    record { room = λ ready. table-room c.move_begun.new.table e h.tabled h.blocks h.sound.groups.layout }

pub returns-in_err-fill-clause-cut : goal.returns-in_err-fill-clause-cut
returns-in_err-fill-clause-cut g c is healthy =
    let a = (g.S.SlotCalls.state c.args.stock.now).memory in
    let b = (g.S.SlotCalls.state c.mend_blocks.new.slots).memory in
    let d = (g.S.SlotCalls.state c.retire_older.new.slots).memory in
    let r = c.in_ok-retire_older.ensures in
    subst (λ z. Mends a z) (sym c.fill.ensures.same) (mends-after a d (g.S.SlotCalls.state c.move_begun.new.stock).memory
    (retired-repairs c.mend_blocks.new.table c.retire_older.new.table a b d c.in_ok-mend_blocks.ensures.ok c.retire_older.ensures.chip r.sectors r.clean r.ok r.blocks).mends c.in_ok-move_begun.ensures.ok.mends)

pub returns-in_err-fill-clause-healthy : goal.returns-in_err-fill-clause-healthy
returns-in_err-fill-clause-healthy g c is healthy =
    let a = g.S.SlotCalls.state c.args.stock.now in
    let b = g.S.SlotCalls.state c.mend_blocks.new.slots in
    let d = g.S.SlotCalls.state c.retire_older.new.slots in
    subst (λ z. IsHealthy z) (sym c.fill.ensures.same) (perhaps-healthy d (g.S.SlotCalls.state c.move_begun.new.stock) c.in_ok-move_begun.ensures.done
    (perhaps-healthy b d c.in_ok-retire_older.ensures.done (perhaps-healthy a b c.in_ok-mend_blocks.ensures.done healthy)))

pub returns-clause-ok : goal.returns-clause-ok
returns-clause-ok g c =
    let a = (g.S.SlotCalls.state c.args.stock.now).memory in
    let b = (g.S.SlotCalls.state c.mend_blocks.new.slots).memory in
    let d = (g.S.SlotCalls.state c.retire_older.new.slots).memory in
    let r = c.in_ok-retire_older.ensures in
    subst (λ z. Repairs a c.move_begun.new.table z) (sym c.fill.ensures.same) (repairs-after c.retire_older.new.table c.move_begun.new.table a d (g.S.SlotCalls.state c.move_begun.new.stock).memory
    (retired-repairs c.mend_blocks.new.table c.retire_older.new.table a b d c.in_ok-mend_blocks.ensures.ok c.retire_older.ensures.chip r.sectors r.clean r.ok r.blocks) c.in_ok-move_begun.ensures.ok)

pub returns-in_err-retire_older-clause-ends : goal.returns-in_err-retire_older-clause-ends
returns-in_err-retire_older-clause-ends g c =
    let s0 = g.S.SlotCalls.state c.args.stock.now in
    let s1 = g.S.SlotCalls.state c.mend_blocks.new.slots in
    let s2 = g.S.SlotCalls.state c.retire_older.new.slots in
    fails-as c.from_residual-in_err-retire_older.result _ (λ _. SucceedsSettled s0 s2) (λ e. RefusesFirmly e s0 s2) c.from_residual-in_err-retire_older.ensures.1
    (refuses-perhaps _ s0 s1 s2 c.in_ok-mend_blocks.ensures.done c.in_err-retire_older.ensures.fails)

pub returns-in_err-move_begun-clause-ends : goal.returns-in_err-move_begun-clause-ends
returns-in_err-move_begun-clause-ends g c =
    let s0 = g.S.SlotCalls.state c.args.stock.now in
    let s1 = g.S.SlotCalls.state c.mend_blocks.new.slots in
    let s2 = g.S.SlotCalls.state c.retire_older.new.slots in
    let s3 = g.S.SlotCalls.state c.move_begun.new.stock in
    fails-as c.from_residual-in_err-move_begun.result _ (λ _. SucceedsSettled s0 s3) (λ e. RefusesFirmly e s0 s3) c.from_residual-in_err-move_begun.ensures.1
    (refuses-perhaps _ s0 s2 s3 (perhaps-done s0 s1 s2 c.in_ok-mend_blocks.ensures.done c.in_ok-retire_older.ensures.done) c.in_err-move_begun.ensures.fails)

pub returns-in_err-fill-clause-ends : goal.returns-in_err-fill-clause-ends
returns-in_err-fill-clause-ends g c =
    let s0 = g.S.SlotCalls.state c.args.stock.now in
    let s1 = g.S.SlotCalls.state c.mend_blocks.new.slots in
    let s2 = g.S.SlotCalls.state c.retire_older.new.slots in
    let s3 = g.S.SlotCalls.state c.move_begun.new.stock in
    let s4 = g.S.SlotCalls.state c.fill.new.self in
    fails-as c.from_residual-in_err-fill.result _ (λ _. SucceedsSettled s0 s4) (λ e. RefusesFirmly e s0 s4) c.from_residual-in_err-fill.ensures.1
    (refuses-perhaps _ s0 s3 s4 (perhaps-done s0 s2 s3 (perhaps-done s0 s1 s2 c.in_ok-mend_blocks.ensures.done c.in_ok-retire_older.ensures.done) c.in_ok-move_begun.ensures.done) c.in_err-fill.ensures.ends)

pub returns-clause-ends : goal.returns-clause-ends
returns-clause-ends g c =
    let s0 = g.S.SlotCalls.state c.args.stock.now in
    let s1 = g.S.SlotCalls.state c.mend_blocks.new.slots in
    let s2 = g.S.SlotCalls.state c.retire_older.new.slots in
    let s3 = g.S.SlotCalls.state c.move_begun.new.stock in
    let s4 = g.S.SlotCalls.state c.fill.new.self in
    succeeds-perhaps s0 s3 s4 (perhaps-done s0 s2 s3 (perhaps-done s0 s1 s2 c.in_ok-mend_blocks.ensures.done c.in_ok-retire_older.ensures.done) c.in_ok-move_begun.ensures.done) c.in_ok-fill.ensures.ends

pub returns-clause-store : goal.returns-clause-store
returns-clause-store g c h =
    let s4 = g.S.SlotCalls.state c.move_begun.new.stock in
    let s5 = g.S.SlotCalls.state c.fill.new.self in
    doubted-same s4 s5 c.in_ok-fill.ensures.ends.kept.bits c.fill.ensures.same
    (c.in_ok-move_begun.ensures.store (c.in_ok-retire_older.ensures.held c.args.begun (c.in_ok-mend_blocks.ensures.read c.args.begun h)))
