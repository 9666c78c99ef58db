use Rattle.std.proofs.Common.{◌∙◌, true, false, sym, ap, subst}
use Rattle.std.specs.Prelude.{Some}
use Rattle.erase_journal.specs.Steps.{RefusesFirmly}
use Rattle.nor_driver.proofs.CallLaws.{fails-as}
use Rattle.erase_journal.specs.Steps.{SucceedsSettled}
use Rattle.erase_journal.proofs.SettledLaws.{settled-after}
use Rattle.erase_journal.proofs.Firmly.{refuses-firmly}
use Rattle.sector_slots.specs.Slots.{data_blocks, kind_at}
use Rattle.sector_slots.specs.Blocks.{HasGroupRoom, dead_group}
use Rattle.sector_map.specs.Mending.{IsMixedPair, PairsSeen, HasDeadGroup}
use Rattle.sector_map.proofs.Grouping.{pair-room, none-room}
use Rattle.sector_map.proofs.MapCalls.{perhaps-after}
use Rattle.sector_survey.proofs.room.is_full.Goals as goal

pub unreachable-requires : goal.unreachable-requires
unreachable-requires g c =
    let p = c.in_ok-has_pair.ensures.corrupt c.in-None.is in
    c.requires.apart p.0 (subst (λ z. IsMixedPair c.args.table.now z p.0) c.has_spare.ensures.same p.1)

pub returns-in-Some-true-clause-room : goal.returns-in-Some-true-clause-room
returns-in-Some-true-clause-room g c is =
    let m = (g.S.SlotCalls.state c.args.slots.now).memory in
    let p : PairsSeen true c.args.table.now m = subst (λ z. PairsSeen true c.args.table.now z) c.has_spare.ensures.same (c.in_ok-has_pair.ensures.pair true (c.in-Some-true.is ∙ ap (λ z. Some z) (cc c.in-Some-true.field-0-test))) in
    (false, pair-room c.args.table.now m p.0 c.requires.tabled c.requires.apart p.1)

pub returns-in-Some-clause-room : goal.returns-in-Some-clause-room
returns-in-Some-clause-room g c is =
    let m = (g.S.SlotCalls.state c.args.slots.now).memory in
    let same = c.has_pair.ensures.same ∙ c.has_spare.ensures.same in
    let d = c.in_ok-lowest_dead_group.ensures.some c.in-Some.field-0 c.in-Some.is in
    (false, subst (λ z. HasGroupRoom (kind_at z) (data_blocks z)) same (dead_group c.in-Some.field-0 d.0 d.1))

pub returns-in-None-2-clause-none : goal.returns-in-None-2-clause-none
returns-in-None-2-clause-none g c is =
    let m = (g.S.SlotCalls.state c.args.slots.now).memory in
    let same = c.has_pair.ensures.same ∙ c.has_spare.ensures.same in
    let p : PairsSeen false c.args.table.now m = subst (λ z. PairsSeen false c.args.table.now z) c.has_spare.ensures.same (c.in_ok-has_pair.ensures.pair false (c.in-Some-false.is ∙ ap (λ z. Some z) (cc c.in-Some-false.field-0-test))) in
    record {
      rest = c.requires.found.rest;
      none = c.in_ok-has_spare.ensures.none (cc c.if-branch.false);
      groups = λ room.
          let d : HasDeadGroup m = none-room c.args.table.now m c.requires.tabled c.requires.found.rest p room in
          let e : HasDeadGroup (g.S.SlotCalls.state c.has_pair.new.slots).memory = subst (λ z. HasDeadGroup z) (sym same) d in
          c.in_ok-lowest_dead_group.ensures.none c.in-None-2.is e.0 e.1.0 e.1.1;
    }

pub returns-in_err-has_pair-clause-ends : goal.returns-in_err-has_pair-clause-ends
returns-in_err-has_pair-clause-ends g c =
    let s0 = g.S.SlotCalls.state c.args.slots.now in
    let s1 = g.S.SlotCalls.state c.has_spare.new.slots in
    let s2 = g.S.SlotCalls.state c.has_pair.new.slots in
    fails-as c.from_residual-in_err-has_pair.result _ (λ _. SucceedsSettled s0 s2) (λ e. RefusesFirmly e s0 s2) c.from_residual-in_err-has_pair.ensures.1
    (refuses-firmly _ s0 s1 s2 c.in_ok-has_spare.ensures.ends c.in_err-has_pair.ensures.fails)

pub returns-in-Some-true-clause-ends : goal.returns-in-Some-true-clause-ends
returns-in-Some-true-clause-ends g c =
    let s0 = g.S.SlotCalls.state c.args.slots.now in
    let s1 = g.S.SlotCalls.state c.has_spare.new.slots in
    let s2 = g.S.SlotCalls.state c.has_pair.new.slots in
    perhaps-after s0 s1 s2 c.in_ok-has_spare.ensures.ends c.in_ok-has_pair.ensures.done

pub returns-in_err-lowest_dead_group-clause-ends : goal.returns-in_err-lowest_dead_group-clause-ends
returns-in_err-lowest_dead_group-clause-ends g c =
    let s0 = g.S.SlotCalls.state c.args.slots.now in
    let s1 = g.S.SlotCalls.state c.has_spare.new.slots in
    let s2 = g.S.SlotCalls.state c.has_pair.new.slots in
    let s3 = g.S.SlotCalls.state c.lowest_dead_group.new.slots in
    fails-as c.from_residual-in_err-lowest_dead_group.result _ (λ _. SucceedsSettled s0 s3) (λ e. RefusesFirmly e s0 s3) c.from_residual-in_err-lowest_dead_group.ensures.1
    (refuses-firmly _ s0 s2 s3 (perhaps-after s0 s1 s2 c.in_ok-has_spare.ensures.ends c.in_ok-has_pair.ensures.done) c.in_err-lowest_dead_group.ensures.ends)

pub returns-in-Some-clause-ends : goal.returns-in-Some-clause-ends
returns-in-Some-clause-ends g c =
    let s0 = g.S.SlotCalls.state c.args.slots.now in
    let s1 = g.S.SlotCalls.state c.has_spare.new.slots in
    let s2 = g.S.SlotCalls.state c.has_pair.new.slots in
    let s3 = g.S.SlotCalls.state c.lowest_dead_group.new.slots in
    settled-after s0 s2 s3 (perhaps-after s0 s1 s2 c.in_ok-has_spare.ensures.ends c.in_ok-has_pair.ensures.done) c.in_ok-lowest_dead_group.ensures.ends

pub returns-in-None-2-clause-ends : goal.returns-in-None-2-clause-ends
returns-in-None-2-clause-ends g c =
    let s0 = g.S.SlotCalls.state c.args.slots.now in
    let s1 = g.S.SlotCalls.state c.has_spare.new.slots in
    let s2 = g.S.SlotCalls.state c.has_pair.new.slots in
    let s3 = g.S.SlotCalls.state c.lowest_dead_group.new.slots in
    settled-after s0 s2 s3 (perhaps-after s0 s1 s2 c.in_ok-has_spare.ensures.ends c.in_ok-has_pair.ensures.done) c.in_ok-lowest_dead_group.ensures.ends
