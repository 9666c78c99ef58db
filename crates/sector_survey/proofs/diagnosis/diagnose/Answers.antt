use Rattle.std.proofs.Common.{◌≡◌, ◌∙◌, ℕ, false, subst, arith}
use Rattle.erase_journal.specs.Steps.{RefusesFirmly}
use Rattle.nor_driver.proofs.CallLaws.{fails-as}
use Rattle.erase_journal.specs.Steps.{SucceedsSettled}
use Rattle.erase_journal.proofs.SettledLaws.{settled-after}
use Rattle.erase_journal.proofs.Firmly.{refuses-firmly}
use Rattle.sector_slots.specs.Slots.{slot_at, slot_count}
use Rattle.sector_slots.specs.Sectors.{HasSlotsAlone}
use Rattle.sector_map.specs.Found.{FoundIn, RoomSeen}
use Rattle.sector_map.specs.Mending.{IsMixedPair}
use Rattle.sector_map.specs.Table.{IsTabled}
use Rattle.sector_map.proofs.MapCalls.{perhaps-after}
use Rattle.sector_map.proofs.Mounting.{look-sound}
use Rattle.sector_survey.specs.Findings.{Explains}
use Rattle.sector_survey.proofs.Faults.{slot-explains, finding-none}
use Rattle.sector_survey.proofs.diagnosis.diagnose.Goals as goal

pub returns-in-Some-clause-fault : goal.returns-in-Some-clause-fault
returns-in-Some-clause-fault g c =
    let h = rw c.in-Some.is at c.in_ok-fault.ensures.fault in
    subst (λ z. Explains c.in-Some.fault z) (c.read_kinds.ensures.same ∙ c.has_groups.ensures.same) (slot-explains c.in-Some.fault (g.S.SlotCalls.state c.read_kinds.new.slots).memory h)

pub find_mixed-requires-clause-few : goal.find_mixed-requires-clause-few
find_mixed-requires-clause-few g c =
    let n = c.requires.size in
    let a = c.fill.ensures.len in
    let b = c.read_slots.ensures.size in
    let most = c.blocks-blocks.ensures.sized.most in
    omega (arith, n, a, b, most)

pub lacks_room-requires-clause-apart : goal.lacks_room-requires-clause-apart
lacks_room-requires-clause-apart g c h p =
    c.in_ok-fault-2.ensures.apart (finding-none c.in_ok-fault-2.field-0 c.in_default-2.not-Some) h (subst (λ z. IsMixedPair c.read_slots.new.table z h) c.find_mixed.ensures.same p)

pub returns-clause-sound : goal.returns-clause-sound
returns-clause-sound g c none =
    let m = (g.S.SlotCalls.state c.args.slots.now).memory in
    let t = c.read_slots.new.table in
    let one = c.has_groups.ensures.same in
    let two = c.read_kinds.ensures.same ∙ one in
    let three = c.read_slots.ensures.same ∙ two in
    let four = c.find_mixed.ensures.same ∙ three in
    let found : FoundIn c.in-Ok.found m = subst (λ z. FoundIn c.in-Ok.found z) one (rw c.in-Ok.is at c.in_ok-found.ensures.found) in
    let alone : c.in_ok-groups.groups ≡ false → HasSlotsAlone m = subst (λ z. c.in_ok-groups.groups ≡ false → HasSlotsAlone z) one (rw c.in-Ok.is at c.in_ok-found.ensures.alone) in
    let tabled : IsTabled t (slot_at m) (slot_count m) = subst (λ z. IsTabled t (slot_at z) (slot_count z)) two (c.in_ok-fault.ensures.tabled (finding-none c.in_ok-fault.field-0 c.in_default.not-Some)) in
    let apart : (h : ℕ) → IsMixedPair t m h → ⊥ = subst (λ z. (h : ℕ) → IsMixedPair t z h → ⊥) three (c.in_ok-fault-2.ensures.apart (finding-none c.in_ok-fault-2.field-0 c.in_default-2.not-Some)) in
    let room = c.in_ok-lacks_room.ensures.room (cc c.if-branch.false) in
    let seen : RoomSeen c.in-Ok.found room.0 m = subst (λ z. RoomSeen c.in-Ok.found room.0 z) four room.1 in
    look-sound c.in-Ok.found room.0 c.in_ok-groups.groups t m found seen c.in_ok-groups.ensures.groups alone apart tabled (c.read_slots.ensures.size ∙ (c.fill.ensures.len ∙ c.requires.size))

pub returns-in_err-found-clause-ends : goal.returns-in_err-found-clause-ends
returns-in_err-found-clause-ends g c =
    let s0 = g.S.SlotCalls.state c.args.slots.now in
    let s1 = g.S.SlotCalls.state c.has_groups.new.slots in
    let s2 = g.S.SlotCalls.state c.read_kinds.new.slots in
    fails-as c.from_residual-in_err-found.result _ (λ _. SucceedsSettled s0 s2) (λ e. RefusesFirmly e s0 s2) c.from_residual-in_err-found.ensures.1
    (refuses-firmly _ s0 s1 s2 c.in_ok-groups.ensures.ends c.in_err-found.ensures.ends)

pub returns-in-Err-clause-ends : goal.returns-in-Err-clause-ends
returns-in-Err-clause-ends g c =
    let s0 = g.S.SlotCalls.state c.args.slots.now in
    let s1 = g.S.SlotCalls.state c.has_groups.new.slots in
    let s2 = g.S.SlotCalls.state c.read_kinds.new.slots in
    settled-after s0 s1 s2 c.in_ok-groups.ensures.ends c.in_ok-found.ensures.ends

pub returns-in_err-fault-clause-ends : goal.returns-in_err-fault-clause-ends
returns-in_err-fault-clause-ends g c =
    let s0 = g.S.SlotCalls.state c.args.slots.now in
    let s1 = g.S.SlotCalls.state c.has_groups.new.slots in
    let s2 = g.S.SlotCalls.state c.read_kinds.new.slots in
    let s3 = g.S.SlotCalls.state c.read_slots.new.slots in
    fails-as c.from_residual-in_err-fault.result _ (λ _. SucceedsSettled s0 s3) (λ e. RefusesFirmly e s0 s3) c.from_residual-in_err-fault.ensures.1
    (refuses-firmly _ s0 s2 s3 (settled-after s0 s1 s2 c.in_ok-groups.ensures.ends c.in_ok-found.ensures.ends) c.in_err-fault.ensures.ends)

pub returns-in-Some-clause-ends : goal.returns-in-Some-clause-ends
returns-in-Some-clause-ends g c =
    let s0 = g.S.SlotCalls.state c.args.slots.now in
    let s1 = g.S.SlotCalls.state c.has_groups.new.slots in
    let s2 = g.S.SlotCalls.state c.read_kinds.new.slots in
    let s3 = g.S.SlotCalls.state c.read_slots.new.slots in
    settled-after s0 s2 s3 (settled-after s0 s1 s2 c.in_ok-groups.ensures.ends c.in_ok-found.ensures.ends) c.in_ok-fault.ensures.ends

pub returns-in_err-fault-2-clause-ends : goal.returns-in_err-fault-2-clause-ends
returns-in_err-fault-2-clause-ends g c =
    let s0 = g.S.SlotCalls.state c.args.slots.now in
    let s1 = g.S.SlotCalls.state c.has_groups.new.slots in
    let s2 = g.S.SlotCalls.state c.read_kinds.new.slots in
    let s3 = g.S.SlotCalls.state c.read_slots.new.slots in
    let s4 = g.S.SlotCalls.state c.find_mixed.new.slots in
    fails-as c.from_residual-in_err-fault-2.result _ (λ _. SucceedsSettled s0 s4) (λ e. RefusesFirmly e s0 s4) c.from_residual-in_err-fault-2.ensures.1
    (refuses-firmly _ s0 s3 s4 (settled-after s0 s2 s3 (settled-after s0 s1 s2 c.in_ok-groups.ensures.ends c.in_ok-found.ensures.ends) c.in_ok-fault.ensures.ends) c.in_err-fault-2.ensures.fails)

pub returns-in-Some-2-clause-ends : goal.returns-in-Some-2-clause-ends
returns-in-Some-2-clause-ends g c =
    let s0 = g.S.SlotCalls.state c.args.slots.now in
    let s1 = g.S.SlotCalls.state c.has_groups.new.slots in
    let s2 = g.S.SlotCalls.state c.read_kinds.new.slots in
    let s3 = g.S.SlotCalls.state c.read_slots.new.slots in
    let s4 = g.S.SlotCalls.state c.find_mixed.new.slots in
    perhaps-after s0 s3 s4 (settled-after s0 s2 s3 (settled-after s0 s1 s2 c.in_ok-groups.ensures.ends c.in_ok-found.ensures.ends) c.in_ok-fault.ensures.ends) c.in_ok-fault-2.ensures.done

pub returns-in_err-lacks_room-clause-ends : goal.returns-in_err-lacks_room-clause-ends
returns-in_err-lacks_room-clause-ends g c =
    let s0 = g.S.SlotCalls.state c.args.slots.now in
    let s1 = g.S.SlotCalls.state c.has_groups.new.slots in
    let s2 = g.S.SlotCalls.state c.read_kinds.new.slots in
    let s3 = g.S.SlotCalls.state c.read_slots.new.slots in
    let s4 = g.S.SlotCalls.state c.find_mixed.new.slots in
    let s5 = g.S.SlotCalls.state c.lacks_room.new.slots in
    fails-as c.from_residual-in_err-lacks_room.result _ (λ _. SucceedsSettled s0 s5) (λ e. RefusesFirmly e s0 s5) c.from_residual-in_err-lacks_room.ensures.1
    (refuses-firmly _ s0 s4 s5 (perhaps-after s0 s3 s4 (settled-after s0 s2 s3 (settled-after s0 s1 s2 c.in_ok-groups.ensures.ends c.in_ok-found.ensures.ends) c.in_ok-fault.ensures.ends) c.in_ok-fault-2.ensures.done) c.in_err-lacks_room.ensures.fails)

pub returns-then-branch-clause-ends : goal.returns-then-branch-clause-ends
returns-then-branch-clause-ends g c =
    let s0 = g.S.SlotCalls.state c.args.slots.now in
    let s1 = g.S.SlotCalls.state c.has_groups.new.slots in
    let s2 = g.S.SlotCalls.state c.read_kinds.new.slots in
    let s3 = g.S.SlotCalls.state c.read_slots.new.slots in
    let s4 = g.S.SlotCalls.state c.find_mixed.new.slots in
    let s5 = g.S.SlotCalls.state c.lacks_room.new.slots in
    perhaps-after s0 s4 s5 (perhaps-after s0 s3 s4 (settled-after s0 s2 s3 (settled-after s0 s1 s2 c.in_ok-groups.ensures.ends c.in_ok-found.ensures.ends) c.in_ok-fault.ensures.ends) c.in_ok-fault-2.ensures.done) c.in_ok-lacks_room.ensures.done

pub returns-clause-ends : goal.returns-clause-ends
returns-clause-ends g c =
    let s0 = g.S.SlotCalls.state c.args.slots.now in
    let s1 = g.S.SlotCalls.state c.has_groups.new.slots in
    let s2 = g.S.SlotCalls.state c.read_kinds.new.slots in
    let s3 = g.S.SlotCalls.state c.read_slots.new.slots in
    let s4 = g.S.SlotCalls.state c.find_mixed.new.slots in
    let s5 = g.S.SlotCalls.state c.lacks_room.new.slots in
    perhaps-after s0 s4 s5 (perhaps-after s0 s3 s4 (settled-after s0 s2 s3 (settled-after s0 s1 s2 c.in_ok-groups.ensures.ends c.in_ok-found.ensures.ends) c.in_ok-fault.ensures.ends) c.in_ok-fault-2.ensures.done) c.in_ok-lacks_room.ensures.done
