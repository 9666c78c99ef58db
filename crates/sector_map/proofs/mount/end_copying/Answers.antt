use Rattle.std.proofs.Common.{sym, subst, inr}
use Rattle.std.specs.Prelude.{OnOk}
use Rattle.sector_stock.proofs.Copying.{after-keeps}
use Rattle.erase_journal.specs.Steps.{RefusesFirmly}
use Rattle.nor_driver.proofs.CallLaws.{done-of, fails-of}
use Rattle.erase_journal.specs.Steps.{SucceedsSettled}
use Rattle.sector_map.specs.Found.{FoundIn}
use Rattle.sector_map.specs.Mending.{EndsFound}
use Rattle.sector_map.proofs.MapCalls.{after-ok, after-ends}
use Rattle.sector_map.proofs.Mounting.{perhaps-healthy}
use Rattle.sector_map.proofs.Voiding.{voids-end, voids-committed, voids-then_copy}
use Rattle.sector_map.proofs.MountFirmly.{keeps-after}
use Rattle.sector_map.proofs.mount.end_copying.Goals as goal

pub end_copy-requires : goal.end_copy-requires
end_copy-requires g c =
    let a = (g.S.SlotCalls.state c.args.slots.now).memory in
    record { committed = voids-committed c.in-Committed.source c.in-Committed.target a (g.S.SlotCalls.state c.end_voids-in-Committed.new.slots).memory (subst (λ z. FoundIn z a) c.in-Committed.is c.requires.found) c.requires.sound c.in_ok-end_voids-in-Committed.ensures.ok }

pub returns-in-Void-clause-ok : goal.returns-in-Void-clause-ok
returns-in-Void-clause-ok g c =
    let a = (g.S.SlotCalls.state c.args.slots.now).memory in
    let b = (g.S.SlotCalls.state c.end_voids.new.slots).memory in
    subst (λ z. OnOk c.end_voids.result (EndsFound z a b)) (sym c.in-Void.is) (after-ok c.end_voids.result _ _ (λ h. voids-end c.in-Void.field-0 a b (subst (λ z. FoundIn z a) c.in-Void.is c.requires.found) h) c.end_voids.ensures.ok)

pub returns-in_ok-end_voids-in-Committed-clause-ok : goal.returns-in_ok-end_voids-in-Committed-clause-ok
returns-in_ok-end_voids-in-Committed-clause-ok g c =
    let a = (g.S.SlotCalls.state c.args.slots.now).memory in
    let b = (g.S.SlotCalls.state c.end_voids-in-Committed.new.slots).memory in
    let d = (g.S.SlotCalls.state c.end_copy.new.slots).memory in
    subst (λ z. OnOk c.end_copy.result (EndsFound z a d)) (sym c.in-Committed.is) (after-ok c.end_copy.result _ _ (λ e. voids-then_copy a b d c.in_ok-end_voids-in-Committed.ensures.ok e) c.end_copy.ensures.ok)

pub returns-in_ok-end_voids-in-Committed-clause-cut : goal.returns-in_ok-end_voids-in-Committed-clause-cut
returns-in_ok-end_voids-in-Committed-clause-cut g c is healthy =
    let a = g.S.SlotCalls.state c.args.slots.now in
    let b = g.S.SlotCalls.state c.end_voids-in-Committed.new.slots in
    after-keeps a.memory b.memory (g.S.SlotCalls.state c.end_copy.new.slots).memory c.in_ok-end_voids-in-Committed.ensures.ok.keeps
    (c.end_copy.ensures.cut is (perhaps-healthy a b c.in_ok-end_voids-in-Committed.ensures.done healthy))

pub returns-in_ok-end_voids-in-Committed-clause-healthy : goal.returns-in_ok-end_voids-in-Committed-clause-healthy
returns-in_ok-end_voids-in-Committed-clause-healthy g c is healthy =
    c.end_copy.ensures.healthy is (perhaps-healthy (g.S.SlotCalls.state c.args.slots.now) (g.S.SlotCalls.state c.end_voids-in-Committed.new.slots) c.in_ok-end_voids-in-Committed.ensures.done healthy)

pub returns-in_ok-end_voids-in-Committed-clause-done : goal.returns-in_ok-end_voids-in-Committed-clause-done
returns-in_ok-end_voids-in-Committed-clause-done g c =
    let s0 = g.S.SlotCalls.state c.args.slots.now in
    let s1 = g.S.SlotCalls.state c.end_voids-in-Committed.new.slots in
    let s2 = g.S.SlotCalls.state c.end_copy.new.slots in
    after-ok c.end_copy.result (SucceedsSettled s0 s2) _ (λ h. inr h) (done-of c.end_copy.result (SucceedsSettled s0 s2) (λ e. RefusesFirmly e s0 s2)
    (after-ends c.end_copy.result s0 s1 s2 c.in_ok-end_voids-in-Committed.ensures.done c.end_copy.ensures.ends))

pub returns-in_ok-end_voids-in-Committed-clause-fails : goal.returns-in_ok-end_voids-in-Committed-clause-fails
returns-in_ok-end_voids-in-Committed-clause-fails g c =
    let s0 = g.S.SlotCalls.state c.args.slots.now in
    let s1 = g.S.SlotCalls.state c.end_voids-in-Committed.new.slots in
    let s2 = g.S.SlotCalls.state c.end_copy.new.slots in
    fails-of c.end_copy.result (SucceedsSettled s0 s2) (λ e. RefusesFirmly e s0 s2) (after-ends c.end_copy.result s0 s1 s2 c.in_ok-end_voids-in-Committed.ensures.done c.end_copy.ensures.ends)

pub returns-in_ok-end_voids-in-Committed-clause-read : goal.returns-in_ok-end_voids-in-Committed-clause-read
returns-in_ok-end_voids-in-Committed-clause-read g c =
    after-ok c.end_copy.result _ _ (λ k. keeps-after (g.S.SlotCalls.state c.args.slots.now) (g.S.SlotCalls.state c.end_voids-in-Committed.new.slots) (g.S.SlotCalls.state c.end_copy.new.slots) c.in_ok-end_voids-in-Committed.ensures.read k) c.end_copy.ensures.read
