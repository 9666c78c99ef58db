use Rattle.std.proofs.Common.{◌<◌, sym, subst}
use Rattle.erase_journal.specs.Steps.{RefusesFirmly}
use Rattle.nor_driver.proofs.CallLaws.{fails-of}
use Rattle.erase_journal.specs.Steps.{SucceedsSettled}
use Rattle.erase_journal.proofs.Firmly.{firmly-since}
use Rattle.sector_slots.specs.Slots.{data_blocks}
use Rattle.sector_slots.specs.Steps.{IsErasable}
use Rattle.erase_journal.specs.Journals.{IsHealthy}
use Rattle.sector_map.proofs.Mending.{dead-erasable, room-made, room-cut}
use Rattle.sector_map.proofs.MapCalls.{after-ok}
use Rattle.sector_map.proofs.MountFirmly.{dead-none}
use Rattle.std.proofs.Common.{◌∙◌}
use Rattle.std.proofs.lemmas.Bool.{true≢false}
use Rattle.sector_map.proofs.groups.make_room.Goals as goal

pub erase-requires-clause-number : goal.erase-requires-clause-number
erase-requires-clause-number g c = subst (λ z. c.in-Some.block < data_blocks z) (sym c.lowest_dead_group.ensures.same) (c.in_ok-block.ensures.some c.in-Some.block c.in-Some.is).0

pub erase-requires-clause-dead : goal.erase-requires-clause-dead
erase-requires-clause-dead g c ready =
    subst (λ z. IsErasable c.in-Some.block z) (sym c.lowest_dead_group.ensures.same) (dead-erasable (g.S.SlotCalls.state c.args.slots.now).memory c.in-Some.block (c.in_ok-block.ensures.some c.in-Some.block c.in-Some.is).1)

pub returns-clause-ok : goal.returns-clause-ok
returns-clause-ok g c =
    let m0 = (g.S.SlotCalls.state c.args.slots.now).memory in
    after-ok c.erase.result _ _ (λ w. room-made m0 (g.S.SlotCalls.state c.lowest_dead_group.new.slots).memory (g.S.SlotCalls.state c.erase.new.self).memory c.in-Some.block c.lowest_dead_group.ensures.same c.requires.rest (c.in_ok-block.ensures.some c.in-Some.block c.in-Some.is) w) c.erase.ensures.ok

pub returns-clause-cut : goal.returns-clause-cut
returns-clause-cut g c is healthy =
    let m0 = (g.S.SlotCalls.state c.args.slots.now).memory in
    room-cut m0 (g.S.SlotCalls.state c.lowest_dead_group.new.slots).memory (g.S.SlotCalls.state c.erase.new.self).memory c.in-Some.block c.lowest_dead_group.ensures.same c.requires.rest (c.in_ok-block.ensures.some c.in-Some.block c.in-Some.is)
    (c.erase.ensures.cut is (subst (λ z. IsHealthy z) (sym c.lowest_dead_group.ensures.same) healthy))

pub returns-clause-fails : goal.returns-clause-fails
returns-clause-fails g c =
    let s0 = g.S.SlotCalls.state c.args.slots.now in
    let s1 = g.S.SlotCalls.state c.lowest_dead_group.new.slots in
    let s2 = g.S.SlotCalls.state c.erase.new.self in
    fails-of c.erase.result (SucceedsSettled s0 s2) (λ e. RefusesFirmly e s0 s2) (firmly-since c.erase.result s0 s1 s2 c.in_ok-block.ensures.ends c.erase.ensures.ends)

pub returns-clause-healthy : goal.returns-clause-healthy
returns-clause-healthy g c is healthy = c.erase.ensures.healthy is (subst (λ z. IsHealthy z) (sym c.lowest_dead_group.ensures.same) healthy)

pub returns-clause-read : goal.returns-clause-read
returns-clause-read g c =
    after-ok c.erase.result _ _ (λ w. λ begun h. absurd (dead-none (g.S.SlotCalls.state c.args.slots.now) begun h (c.requires.dead (λ e. true≢false (sym e ∙ c.if-has_room.false))))) c.erase.ensures.ok
