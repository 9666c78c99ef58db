use Rattle.std.proofs.Common.{◌≡◌, ◌+◌, ◌<◌, suc, ap, sym, subst, arith}
use Rattle.std.proofs.lemmas.Result.{err_from_is_err_and}
use Rattle.erase_journal.specs.Journals.{IsHealthy}
use Rattle.sector_slots.specs.Slots.{data_blocks}
use Rattle.erase_journal.specs.Steps.{RefusesFirmly}
use Rattle.nor_driver.proofs.CallLaws.{fails-as, fails-of}
use Rattle.erase_journal.specs.Steps.{SucceedsSettled}
use Rattle.erase_journal.proofs.Firmly.{refuses-firmly}
use Rattle.sector_map.proofs.Retiring.{refuses-perhaps, succeeds-perhaps}
use Rattle.sector_map.specs.Mending.{IsOlderGroup}
use Rattle.sector_map.proofs.Mending.{Retiring, retiring-healthy, retiring-number, retiring-quiet, retiring-more, retiring-cut, retired-each}
use Rattle.erase_journal.proofs.SettledLaws.{settled-healthy}
use Rattle.sector_map.proofs.groups.retire_each.Goals as goal
use Rattle.sector_map.proofs.groups.retire_each.Goals.{then-is_older+in_ok-retire_group, else-is_older}

pub returns-in_err-kind-clause-healthy : goal.returns-in_err-kind-clause-healthy
returns-in_err-kind-clause-healthy g c is h =
    subst (λ z. IsHealthy z) (sym c.kind.ensures.same) (retiring-healthy c.args.table.now c.loop-block.block (g.S.SlotCalls.state c.args.slots.now) (g.S.SlotCalls.state c.loop-block.slots) c.loop-block.invariant.retiring h)

pub is_older-requires : goal.is_older-requires
is_older-requires g c =
    let low : c.loop-block.block < data_blocks (g.S.SlotCalls.state c.args.slots.now).memory = omega (arith, c.loop-block-test.true, c.blocks-count.ensures.count) in
    record {
      number = λ tag e. retiring-number c.args.table.now c.loop-block.block (g.S.SlotCalls.state c.args.slots.now) (g.S.SlotCalls.state c.loop-block.slots) c.in_ok-kind.kind tag c.requires.tabled c.requires.rest low c.in_ok-kind.ensures.ok e c.loop-block.invariant.retiring;
    }

pub returns-in_err-retire_group-clause-cut : goal.returns-in_err-retire_group-clause-cut
returns-in_err-retire_group-clause-cut g c is =
    let p = err_from_is_err_and c.from_residual-in_err-retire_group.result c.from_residual-in_err-retire_group.ensures.1 in
    let low : c.loop-block.block < data_blocks (g.S.SlotCalls.state c.args.slots.now).memory = omega (arith, c.loop-block-test.true, c.blocks-count.ensures.count) in
    retiring-cut c.args.table.now c.loop-block.block (g.S.SlotCalls.state c.args.slots.now) (g.S.SlotCalls.state c.loop-block.slots) (g.S.SlotCalls.state c.kind.new.self) (g.S.SlotCalls.state c.retire_group.new.self) c.kind.ensures.same c.in_ok-kind.ensures.ends c.requires.tabled c.requires.rest c.requires.sound low
    (subst (λ z. IsOlderGroup c.args.table.now c.loop-block.block z) c.in_ok-kind.ensures.ok (c.is_older.ensures.older c.if-is_older.true)) (c.in_err-retire_group.ensures.cut (cc (p.1, p.2))) c.retire_group.ensures.only c.loop-block.invariant.retiring

pub loop-block-preserved : goal.loop-block-preserved
loop-block-preserved g c =
    let next : c.loop-block.block + 1 ≡ suc c.loop-block.block = omega arith in
    let low : c.loop-block.block < data_blocks (g.S.SlotCalls.state c.args.slots.now).memory = omega (arith, c.loop-block-test.true, c.blocks-count.ensures.count) in
    record {
      retiring = elim c.if-is_older.branch as (λ _. Retiring c.args.table.now (c.loop-block.block + 1) (g.S.SlotCalls.state c.args.slots.now) (g.S.SlotCalls.state c.if-is_older.slots)) [
        | then-is_older+in_ok-retire_group w ↦ subst (λ z. Retiring c.args.table.now (c.loop-block.block + 1) (g.S.SlotCalls.state c.args.slots.now) z) (sym (ap (λ z. g.S.SlotCalls.state z) w.slots-is))
            (retiring-more c.args.table.now c.loop-block.block (c.loop-block.block + 1) (g.S.SlotCalls.state c.args.slots.now) (g.S.SlotCalls.state c.loop-block.slots) (g.S.SlotCalls.state c.kind.new.self) (g.S.SlotCalls.state w.retire_group.new.self) next c.kind.ensures.same c.in_ok-kind.ensures.ends c.requires.tabled c.requires.rest c.requires.sound low
            (subst (λ z. IsOlderGroup c.args.table.now c.loop-block.block z) c.in_ok-kind.ensures.ok (c.is_older.ensures.older w.if-is_older.true)) w.in_ok-retire_group.ensures.ok w.retire_group.ensures.only w.in_ok-retire_group.ensures.ends c.loop-block.invariant.retiring)
        | else-is_older w ↦ subst (λ z. Retiring c.args.table.now (c.loop-block.block + 1) (g.S.SlotCalls.state c.args.slots.now) z) (sym (ap (λ z. g.S.SlotCalls.state z) w.slots-is))
            (retiring-quiet c.args.table.now c.loop-block.block (c.loop-block.block + 1) (g.S.SlotCalls.state c.args.slots.now) (g.S.SlotCalls.state c.loop-block.slots) (g.S.SlotCalls.state c.kind.new.self) next c.kind.ensures.same c.in_ok-kind.ensures.ends low
            (λ o. c.is_older.ensures.not_older w.if-is_older.false (subst (λ z. IsOlderGroup c.args.table.now c.loop-block.block z) (sym c.in_ok-kind.ensures.ok) o)) c.loop-block.invariant.retiring)
      ];
    }

pub returns-clause-ok : goal.returns-clause-ok
returns-clause-ok g c =
    retired-each c.args.table.now c.loop-block.block (g.S.SlotCalls.state c.args.slots.now) (g.S.SlotCalls.state c.loop-block.slots) (omega (arith, c.loop-block-test.false, c.loop-block.auto.block-end, c.blocks-count.ensures.count)) c.loop-block.invariant.retiring

pub returns-in_err-kind-clause-fails : goal.returns-in_err-kind-clause-fails
returns-in_err-kind-clause-fails g c =
    let s0 = g.S.SlotCalls.state c.args.slots.now in
    let s1 = g.S.SlotCalls.state c.loop-block.slots in
    let s2 = g.S.SlotCalls.state c.kind.new.self in
    fails-of c.from_residual.result (SucceedsSettled s0 s2) (λ e. RefusesFirmly e s0 s2) (fails-as c.from_residual.result _ (λ _. SucceedsSettled s0 s2) (λ e. RefusesFirmly e s0 s2) c.from_residual.ensures.1
    (refuses-perhaps _ s0 s1 s2 c.loop-block.invariant.retiring.since c.in_err-kind.ensures.ends))

pub returns-in_err-retire_group-clause-fails : goal.returns-in_err-retire_group-clause-fails
returns-in_err-retire_group-clause-fails g c =
    let s0 = g.S.SlotCalls.state c.args.slots.now in
    let s1 = g.S.SlotCalls.state c.loop-block.slots in
    let s2 = g.S.SlotCalls.state c.kind.new.self in
    let s3 = g.S.SlotCalls.state c.retire_group.new.self in
    fails-of c.from_residual-in_err-retire_group.result (SucceedsSettled s0 s3) (λ e. RefusesFirmly e s0 s3) (fails-as c.from_residual-in_err-retire_group.result _ (λ _. SucceedsSettled s0 s3) (λ e. RefusesFirmly e s0 s3) c.from_residual-in_err-retire_group.ensures.1
    (refuses-firmly _ s0 s2 s3 (succeeds-perhaps s0 s1 s2 c.loop-block.invariant.retiring.since c.in_ok-kind.ensures.ends) c.in_err-retire_group.ensures.ends))

pub returns-in_err-retire_group-clause-healthy : goal.returns-in_err-retire_group-clause-healthy
returns-in_err-retire_group-clause-healthy g c is h =
    let p = err_from_is_err_and c.from_residual-in_err-retire_group.result c.from_residual-in_err-retire_group.ensures.1 in
    c.in_err-retire_group.ensures.healthy (cc (p.1, p.2)) (settled-healthy (g.S.SlotCalls.state c.kind.new.self).memory c.in_ok-kind.ensures.ends.settled)
