use Rattle.std.proofs.Common.{sym, ◌∙◌}
use Rattle.std.proofs.lemmas.Result.{err_from_is_err_and}
use Rattle.sector_map.proofs.Mounting.{perhaps-healthy, perhaps-done}
use Rattle.sector_map.proofs.MapCalls.{after-ok, after-fails}
use Rattle.sector_map.proofs.Mending.{ended, ended-dead, mends-after, mends-blocks, kept-mends}
use Rattle.erase_journal.specs.Steps.{RefusesFirmly}
use Rattle.nor_driver.proofs.CallLaws.{fails-as, fails-of}
use Rattle.erase_journal.specs.Steps.{SucceedsSettled}
use Rattle.sector_map.proofs.Retiring.{refuses-perhaps}
use Rattle.sector_map.proofs.MountFirmly.{keeps-after}
use Rattle.sector_map.proofs.mount.mend_blocks.Goals as goal

pub retire_groups-requires-clause-tabled : goal.retire_groups-requires-clause-tabled
retire_groups-requires-clause-tabled g c =
    (ended c.args.seen.found c.args.seen.spare c.args.table.now (g.S.SlotCalls.state c.args.slots.now).memory (g.S.SlotCalls.state c.end_copying.new.slots).memory c.in_ok-end_copying.ensures.ok c.requires.found c.requires.room c.requires.sound c.requires.tabled).tabled

pub retire_groups-requires-clause-rest : goal.retire_groups-requires-clause-rest
retire_groups-requires-clause-rest g c =
    (ended c.args.seen.found c.args.seen.spare c.args.table.now (g.S.SlotCalls.state c.args.slots.now).memory (g.S.SlotCalls.state c.end_copying.new.slots).memory c.in_ok-end_copying.ensures.ok c.requires.found c.requires.room c.requires.sound c.requires.tabled).rest

pub retire_groups-requires-clause-sound : goal.retire_groups-requires-clause-sound
retire_groups-requires-clause-sound g c =
    (ended c.args.seen.found c.args.seen.spare c.args.table.now (g.S.SlotCalls.state c.args.slots.now).memory (g.S.SlotCalls.state c.end_copying.new.slots).memory c.in_ok-end_copying.ensures.ok c.requires.found c.requires.room c.requires.sound c.requires.tabled).sound

pub returns-in_err-end_copying-clause-cut : goal.returns-in_err-end_copying-clause-cut
returns-in_err-end_copying-clause-cut g c is healthy =
    let p = err_from_is_err_and c.from_residual.result c.from_residual.ensures.1 in
    kept-mends (g.S.SlotCalls.state c.args.slots.now).memory (g.S.SlotCalls.state c.end_copying.new.slots).memory (c.in_err-end_copying.ensures.cut (cc (p.1, p.2)) healthy)

pub returns-in_err-retire_groups-clause-cut : goal.returns-in_err-retire_groups-clause-cut
returns-in_err-retire_groups-clause-cut g c is healthy =
    let p = err_from_is_err_and c.from_residual-in_err-retire_groups.result c.from_residual-in_err-retire_groups.ensures.1 in
    let a = (g.S.SlotCalls.state c.args.slots.now).memory in
    let b = (g.S.SlotCalls.state c.end_copying.new.slots).memory in
    let h = ended c.args.seen.found c.args.seen.spare c.args.table.now a b c.in_ok-end_copying.ensures.ok c.requires.found c.requires.room c.requires.sound c.requires.tabled in
    mends-after a b (g.S.SlotCalls.state c.retire_groups.new.slots).memory h.mends (c.in_err-retire_groups.ensures.cut (cc (p.1, p.2)))

pub returns-in_err-retire_groups-clause-healthy : goal.returns-in_err-retire_groups-clause-healthy
returns-in_err-retire_groups-clause-healthy g c is healthy =
    let p = err_from_is_err_and c.from_residual-in_err-retire_groups.result c.from_residual-in_err-retire_groups.ensures.1 in
    c.in_err-retire_groups.ensures.healthy (cc (p.1, p.2)) (perhaps-healthy (g.S.SlotCalls.state c.args.slots.now) (g.S.SlotCalls.state c.end_copying.new.slots) c.in_ok-end_copying.ensures.done healthy)

pub make_room-requires-clause-settled : goal.make_room-requires-clause-settled
make_room-requires-clause-settled g c e =
    let h = ended c.args.seen.found c.args.seen.spare c.args.table.now (g.S.SlotCalls.state c.args.slots.now).memory (g.S.SlotCalls.state c.end_copying.new.slots).memory c.in_ok-end_copying.ensures.ok c.requires.found c.requires.room c.requires.sound c.requires.tabled in
    c.in_ok-retire_groups.ensures.ok.settled (h.settled (sym c.has_room.ensures ∙ e))

pub make_room-requires-clause-dead : goal.make_room-requires-clause-dead
make_room-requires-clause-dead g c ne =
    let h = ended c.args.seen.found c.args.seen.spare c.args.table.now (g.S.SlotCalls.state c.args.slots.now).memory (g.S.SlotCalls.state c.end_copying.new.slots).memory c.in_ok-end_copying.ensures.ok c.requires.found c.requires.room c.requires.sound c.requires.tabled in
    c.in_ok-retire_groups.ensures.ok.room (ended-dead c.has_room.result c.args.seen.found c.args.seen.spare c.args.table.now (g.S.SlotCalls.state c.args.slots.now).memory (g.S.SlotCalls.state c.end_copying.new.slots).memory c.has_room.ensures ne h)

pub returns-clause-ok : goal.returns-clause-ok
returns-clause-ok g c =
    let a = (g.S.SlotCalls.state c.args.slots.now).memory in
    let b = (g.S.SlotCalls.state c.end_copying.new.slots).memory in
    let h = ended c.args.seen.found c.args.seen.spare c.args.table.now a b c.in_ok-end_copying.ensures.ok c.requires.found c.requires.room c.requires.sound c.requires.tabled in
    after-ok c.make_room.result _ _ (λ made. mends-blocks c.args.seen.found c.args.seen.spare c.args.table.now c.retire_groups.new.table a b (g.S.SlotCalls.state c.retire_groups.new.slots).memory (g.S.SlotCalls.state c.make_room.new.slots).memory h c.in_ok-retire_groups.ensures.ok made) c.make_room.ensures.ok

pub returns-clause-cut : goal.returns-clause-cut
returns-clause-cut g c is healthy =
    let a = (g.S.SlotCalls.state c.args.slots.now).memory in
    let b = (g.S.SlotCalls.state c.end_copying.new.slots).memory in
    let d = (g.S.SlotCalls.state c.retire_groups.new.slots).memory in
    let h = ended c.args.seen.found c.args.seen.spare c.args.table.now a b c.in_ok-end_copying.ensures.ok c.requires.found c.requires.room c.requires.sound c.requires.tabled in
    let well = perhaps-healthy (g.S.SlotCalls.state c.end_copying.new.slots) (g.S.SlotCalls.state c.retire_groups.new.slots) c.in_ok-retire_groups.ensures.done (perhaps-healthy (g.S.SlotCalls.state c.args.slots.now) (g.S.SlotCalls.state c.end_copying.new.slots) c.in_ok-end_copying.ensures.done healthy) in
    mends-after a d (g.S.SlotCalls.state c.make_room.new.slots).memory (mends-after a b d h.mends c.in_ok-retire_groups.ensures.ok.mends) (c.make_room.ensures.cut is well)

pub returns-clause-healthy : goal.returns-clause-healthy
returns-clause-healthy g c is healthy =
    c.make_room.ensures.healthy is (perhaps-healthy (g.S.SlotCalls.state c.end_copying.new.slots) (g.S.SlotCalls.state c.retire_groups.new.slots) c.in_ok-retire_groups.ensures.done
    (perhaps-healthy (g.S.SlotCalls.state c.args.slots.now) (g.S.SlotCalls.state c.end_copying.new.slots) c.in_ok-end_copying.ensures.done healthy))

pub returns-in_err-retire_groups-clause-fails : goal.returns-in_err-retire_groups-clause-fails
returns-in_err-retire_groups-clause-fails g c =
    let s0 = g.S.SlotCalls.state c.args.slots.now in
    let s1 = g.S.SlotCalls.state c.end_copying.new.slots in
    let s2 = g.S.SlotCalls.state c.retire_groups.new.slots in
    fails-of c.from_residual-in_err-retire_groups.result (SucceedsSettled s0 s2) (λ e. RefusesFirmly e s0 s2) (fails-as c.from_residual-in_err-retire_groups.result _ (λ _. SucceedsSettled s0 s2) (λ e. RefusesFirmly e s0 s2) c.from_residual-in_err-retire_groups.ensures.1
    (refuses-perhaps _ s0 s1 s2 c.in_ok-end_copying.ensures.done c.in_err-retire_groups.ensures.fails))

pub returns-clause-done : goal.returns-clause-done
returns-clause-done g c =
    let s0 = g.S.SlotCalls.state c.args.slots.now in
    let s1 = g.S.SlotCalls.state c.end_copying.new.slots in
    let s2 = g.S.SlotCalls.state c.retire_groups.new.slots in
    let s3 = g.S.SlotCalls.state c.make_room.new.slots in
    after-ok c.make_room.result _ _ (λ h. perhaps-done s0 s2 s3 (perhaps-done s0 s1 s2 c.in_ok-end_copying.ensures.done c.in_ok-retire_groups.ensures.done) h) c.make_room.ensures.done

pub returns-clause-fails : goal.returns-clause-fails
returns-clause-fails g c =
    let s0 = g.S.SlotCalls.state c.args.slots.now in
    let s1 = g.S.SlotCalls.state c.end_copying.new.slots in
    let s2 = g.S.SlotCalls.state c.retire_groups.new.slots in
    let s3 = g.S.SlotCalls.state c.make_room.new.slots in
    after-fails c.make_room.result s0 s2 s3 (perhaps-done s0 s1 s2 c.in_ok-end_copying.ensures.done c.in_ok-retire_groups.ensures.done) c.make_room.ensures.fails

pub returns-clause-read : goal.returns-clause-read
returns-clause-read g c =
    let s0 = g.S.SlotCalls.state c.args.slots.now in
    let s1 = g.S.SlotCalls.state c.end_copying.new.slots in
    let s2 = g.S.SlotCalls.state c.retire_groups.new.slots in
    let s3 = g.S.SlotCalls.state c.make_room.new.slots in
    after-ok c.make_room.result _ _ (λ k. keeps-after s0 s2 s3 (keeps-after s0 s1 s2 c.in_ok-end_copying.ensures.read c.in_ok-retire_groups.ensures.read) k) c.make_room.ensures.read
