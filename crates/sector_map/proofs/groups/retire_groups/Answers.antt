use Rattle.std.proofs.Common.{◌≡◌, sym, subst, ap, ◌∙◌, length, inr}
use Rattle.chip_model.specs.Geometry.{sector_count}
use Rattle.erase_journal.specs.Journals.{IsHealthy}
use Rattle.sector_map.specs.Mending.{PairsSeen, RetiresEach}
use Rattle.sector_map.proofs.Grouping.{mixed-corrupt}
use Rattle.sector_map.proofs.Mounting.{perhaps-healthy, bool-none, perhaps-done}
use Rattle.sector_map.proofs.Mending.{retires-none, retires-older, each-sound}
use Rattle.erase_journal.specs.Steps.{RefusesFirmly}
use Rattle.nor_driver.proofs.CallLaws.{fails-as, fails-of}
use Rattle.erase_journal.specs.Steps.{SucceedsSettled}
use Rattle.sector_map.proofs.Retiring.{refuses-perhaps, succeeds-perhaps}
use Rattle.sector_map.proofs.MountFirmly.{keeps-perhaps, pair-none}
use Rattle.sector_map.proofs.groups.retire_groups.Goals as goal

pub unreachable-requires : goal.unreachable-requires
unreachable-requires g c =
    let p = c.in_ok-pair.ensures.corrupt (bool-none c.in_ok-pair.field-0 c.in_default.not-Some) in
    mixed-corrupt c.args.table.now (g.S.SlotCalls.state c.args.slots.now).memory p.0 c.requires.tabled p.1 c.requires.sound.groups.sectors

pub returns-then-not-pair-clause-ok : goal.returns-then-not-pair-clause-ok
returns-then-not-pair-clause-ok g c =
    retires-none c.args.table.now (g.S.SlotCalls.state c.args.slots.now).memory (g.S.SlotCalls.state c.has_pair.new.slots).memory c.has_pair.ensures.same c.requires.tabled c.requires.rest
    (subst (λ z. PairsSeen z c.args.table.now (g.S.SlotCalls.state c.args.slots.now).memory) c.if-not-pair.true (c.in_ok-pair.ensures.pair c.in-Some.pair c.in-Some.is))

pub returns-in_err-read_table-clause-healthy : goal.returns-in_err-read_table-clause-healthy
returns-in_err-read_table-clause-healthy g c is healthy =
    let a = g.S.SlotCalls.state c.has_pair.new.slots in
    let b = g.S.SlotCalls.state c.retire_each.new.slots in
    subst (λ z. IsHealthy z) (sym c.read_table.ensures.same) (perhaps-healthy a b c.in_ok-retire_each.ensures.done (subst (λ z. IsHealthy z) (sym c.has_pair.ensures.same) healthy))

pub unreachable-requires-in-None : goal.unreachable-requires-in-None
unreachable-requires-in-None g c =
    let a = (g.S.SlotCalls.state c.args.slots.now).memory in
    let b = (g.S.SlotCalls.state c.retire_each.new.slots).memory in
    let ok = subst (λ z. RetiresEach c.args.table.now z b) c.has_pair.ensures.same c.in_ok-retire_each.ensures.ok in
    let sound = each-sound c.args.table.now a b ok c.requires.sound in
    let size : length c.fill.new.self ≡ sector_count (length b) = c.fill.ensures.len ∙ (c.requires.size ∙ ap (λ n. sector_count n) (sym ok.mends.chip.same_length)) in
    c.in_ok-read_table.ensures.corrupt c.in-None.is (sector_count (length b)) size sound.slots

pub returns-clause-ok : goal.returns-clause-ok
returns-clause-ok g c =
    let a = (g.S.SlotCalls.state c.args.slots.now).memory in
    let b = (g.S.SlotCalls.state c.retire_each.new.slots).memory in
    let ok = subst (λ z. RetiresEach c.args.table.now z b) c.has_pair.ensures.same c.in_ok-retire_each.ensures.ok in
    retires-older c.args.table.now c.read_table.new.table a b (g.S.SlotCalls.state c.read_table.new.slots).memory ok c.requires.tabled c.requires.rest c.requires.sound c.read_table.ensures.same
    (c.in_ok-read_table.ensures.tabled c.in-Some-2.field-0 c.in-Some-2.is)

pub returns-in_err-retire_each-clause-fails : goal.returns-in_err-retire_each-clause-fails
returns-in_err-retire_each-clause-fails g c =
    let s0 = g.S.SlotCalls.state c.args.slots.now in
    let s1 = g.S.SlotCalls.state c.has_pair.new.slots in
    let s2 = g.S.SlotCalls.state c.retire_each.new.slots in
    fails-of c.from_residual-in_err-retire_each.result (SucceedsSettled s0 s2) (λ e. RefusesFirmly e s0 s2) (fails-as c.from_residual-in_err-retire_each.result _ (λ _. SucceedsSettled s0 s2) (λ e. RefusesFirmly e s0 s2) c.from_residual-in_err-retire_each.ensures.1
    (refuses-perhaps _ s0 s1 s2 c.in_ok-pair.ensures.done c.in_err-retire_each.ensures.fails))

pub returns-in_err-read_table-clause-fails : goal.returns-in_err-read_table-clause-fails
returns-in_err-read_table-clause-fails g c =
    let s0 = g.S.SlotCalls.state c.args.slots.now in
    let s1 = g.S.SlotCalls.state c.has_pair.new.slots in
    let s2 = g.S.SlotCalls.state c.retire_each.new.slots in
    let s3 = g.S.SlotCalls.state c.read_table.new.slots in
    fails-of c.from_residual-in_err-read_table.result (SucceedsSettled s0 s3) (λ e. RefusesFirmly e s0 s3) (fails-as c.from_residual-in_err-read_table.result _ (λ _. SucceedsSettled s0 s3) (λ e. RefusesFirmly e s0 s3) c.from_residual-in_err-read_table.ensures.1
    (refuses-perhaps _ s0 s2 s3 (perhaps-done s0 s1 s2 c.in_ok-pair.ensures.done c.in_ok-retire_each.ensures.done) c.in_err-read_table.ensures.ends))

pub returns-clause-done : goal.returns-clause-done
returns-clause-done g c =
    let s0 = g.S.SlotCalls.state c.args.slots.now in
    let s1 = g.S.SlotCalls.state c.has_pair.new.slots in
    let s2 = g.S.SlotCalls.state c.retire_each.new.slots in
    let s3 = g.S.SlotCalls.state c.read_table.new.slots in
    inr (succeeds-perhaps s0 s2 s3 (perhaps-done s0 s1 s2 c.in_ok-pair.ensures.done c.in_ok-retire_each.ensures.done) c.in_ok-read_table.ensures.ends)

pub returns-then-not-pair-clause-read : goal.returns-then-not-pair-clause-read
returns-then-not-pair-clause-read g c = keeps-perhaps (g.S.SlotCalls.state c.args.slots.now) (g.S.SlotCalls.state c.has_pair.new.slots) c.in_ok-pair.ensures.done c.has_pair.ensures.same

pub returns-clause-read : goal.returns-clause-read
returns-clause-read g c begun h =
    let a = g.S.SlotCalls.state c.args.slots.now in
    absurd (pair-none a begun c.args.table.now h c.requires.tabled (subst (λ z. PairsSeen z c.args.table.now a.memory) c.if-not-pair.false (c.in_ok-pair.ensures.pair c.in-Some.pair c.in-Some.is)))
