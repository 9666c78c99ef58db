use Rattle.std.proofs.Common.{◌≡◌, ◌+◌, ◌<◌, length, suc, ap, sym, subst, arith}
use Rattle.std.specs.Prelude.{IfErr}
use Rattle.erase_journal.specs.Steps.{RefusesFirmly}
use Rattle.std.proofs.lemmas.Result.{err_from_is_err_and}
use Rattle.sector_map.proofs.Retiring.{Retired, retired-quiet, one-absent, one-held, retired-more, retired-cut, retired-healthy, older-retirable, retired-two, refuses-perhaps}
use Rattle.sector_slots.specs.Slots.{slot_at}
use Rattle.sector_map.specs.Table.{TwoHold}
use Rattle.sector_map.specs.Firm.{KeepsRead}
use Rattle.sector_map.proofs.MountFirmly.{keeps-after, retire-keeps, place-rest, sized_slots, table-held}
use Rattle.sector_map.proofs.mount.retire_older.Goals as goal
use Rattle.sector_map.proofs.mount.retire_older.Goals.{in-Absent, in-One, in-Two+in_ok-retire-in-Two}

pub returns-in_err-retire-in-Two-clause-cut : goal.returns-in_err-retire-in-Two-clause-cut
returns-in_err-retire-in-Two-clause-cut g c is =
    let p = err_from_is_err_and c.from_residual.result c.from_residual.ensures.1 in
    retired-cut c.args.table.now c.loop-sector.table c.loop-sector.sector (g.S.SlotCalls.state c.args.slots.now) (g.S.SlotCalls.state c.loop-sector.slots) (g.S.SlotCalls.state c.retire.new.self) c.in-Two.newer c.in-Two.older (omega (arith, c.loop-sector-test.true, c.loop-sector.invariant.retired.size)) c.in-Two.is
    (c.in_err-retire-in-Two.ensures.cut_only (cc (p.1, p.2))) (c.in_err-retire-in-Two.ensures.cut (cc (p.1, p.2))) c.loop-sector.invariant.retired

pub returns-in_err-retire-in-Two-clause-healthy : goal.returns-in_err-retire-in-Two-clause-healthy
returns-in_err-retire-in-Two-clause-healthy g c is h =
    let p = err_from_is_err_and c.from_residual.result c.from_residual.ensures.1 in
    c.in_err-retire-in-Two.ensures.healthy (cc (p.1, p.2)) (retired-healthy c.args.table.now c.loop-sector.table c.loop-sector.sector (g.S.SlotCalls.state c.args.slots.now) (g.S.SlotCalls.state c.loop-sector.slots) c.loop-sector.invariant.retired h)

pub loop-sector-preserved : goal.loop-sector-preserved
loop-sector-preserved g c =
    let next : c.loop-sector.sector + 1 ≡ suc c.loop-sector.sector = omega arith in
    record {
      retired = elim c.match-table-sector.branch as (λ _. Retired c.args.table.now c.match-table-sector.table (c.loop-sector.sector + 1) (g.S.SlotCalls.state c.args.slots.now) (g.S.SlotCalls.state c.match-table-sector.slots)) [
        | in-Absent w ↦ retired-quiet c.args.table.now c.loop-sector.table c.match-table-sector.table c.loop-sector.sector (c.loop-sector.sector + 1) (g.S.SlotCalls.state c.args.slots.now) (g.S.SlotCalls.state c.loop-sector.slots) (g.S.SlotCalls.state c.match-table-sector.slots) next
            w.table-is (ap (λ z. g.S.SlotCalls.state z) w.slots-is) (one-absent _ w.in-Absent.is) c.loop-sector.invariant.retired
        | in-One w ↦ retired-quiet c.args.table.now c.loop-sector.table c.match-table-sector.table c.loop-sector.sector (c.loop-sector.sector + 1) (g.S.SlotCalls.state c.args.slots.now) (g.S.SlotCalls.state c.loop-sector.slots) (g.S.SlotCalls.state c.match-table-sector.slots) next
            w.table-is (ap (λ z. g.S.SlotCalls.state z) w.slots-is) (one-held _ _ w.in-One.is) c.loop-sector.invariant.retired
        | in-Two+in_ok-retire-in-Two w ↦ retired-more c.args.table.now c.loop-sector.table w.keep_one.new.table c.match-table-sector.table c.loop-sector.sector (c.loop-sector.sector + 1) (g.S.SlotCalls.state c.args.slots.now) (g.S.SlotCalls.state c.loop-sector.slots)
            (g.S.SlotCalls.state w.retire.new.self) (g.S.SlotCalls.state c.match-table-sector.slots) w.in-Two.newer w.in-Two.older next w.table-is (ap (λ z. g.S.SlotCalls.state z) w.slots-is) (omega (arith, c.loop-sector-test.true, c.loop-sector.invariant.retired.size)) w.in-Two.is w.in_ok-retire-in-Two.ensures.only
            w.in_ok-retire-in-Two.ensures.ok w.in_ok-retire-in-Two.ensures.clean w.in_ok-retire-in-Two.ensures.ends w.keep_one.ensures c.loop-sector.invariant.retired
      ];
      read = elim c.match-table-sector.branch as (λ _. KeepsRead (g.S.SlotCalls.state c.args.slots.now) (g.S.SlotCalls.state c.match-table-sector.slots)) [
        | in-Absent w ↦ subst (λ z. KeepsRead (g.S.SlotCalls.state c.args.slots.now) z) (sym (ap (λ z. g.S.SlotCalls.state z) w.slots-is)) c.loop-sector.invariant.read
        | in-One w ↦ subst (λ z. KeepsRead (g.S.SlotCalls.state c.args.slots.now) z) (sym (ap (λ z. g.S.SlotCalls.state z) w.slots-is)) c.loop-sector.invariant.read
        | in-Two+in_ok-retire-in-Two w ↦
            let a = g.S.SlotCalls.state c.args.slots.now in
            let b = g.S.SlotCalls.state c.loop-sector.slots in
            let d = g.S.SlotCalls.state w.retire.new.self in
            let e = w.in_ok-retire-in-Two.ensures in
            let inside : c.loop-sector.sector < length c.loop-sector.table = omega (arith, c.loop-sector-test.true, c.loop-sector.invariant.retired.size) in
            let two = retired-two c.args.table.now c.loop-sector.table c.loop-sector.sector a b w.in-Two.newer w.in-Two.older inside w.in-Two.is c.loop-sector.invariant.retired in
            let able = older-retirable c.args.table.now c.loop-sector.table c.loop-sector.sector a b w.in-Two.newer w.in-Two.older inside w.in-Two.is c.loop-sector.invariant.retired in
            let n = c.loop-sector.invariant.retired.chip.same_length in
            let rest = c.loop-sector.invariant.retired.blocks.rest in
            subst (λ z. KeepsRead a z) (sym (ap (λ z. g.S.SlotCalls.state z) w.slots-is))
            (keeps-after a b d c.loop-sector.invariant.read
            (retire-keeps b d e.ends.kept.bits w.in-Two.newer w.in-Two.older c.loop-sector.sector e.only (subst (λ k. TwoHold w.in-Two.newer w.in-Two.older (slot_at b.memory) k c.loop-sector.sector) (ap sized_slots (sym n)) two) rest (e.ok able)
            (place-rest w.in-Two.older.slot b.memory d.memory e.only rest) e.for_good e.states))
      ];
    }

pub returns-in_err-retire-in-Two-clause-cut_clean : goal.returns-in_err-retire-in-Two-clause-cut_clean
returns-in_err-retire-in-Two-clause-cut_clean g c is clean =
    let p = err_from_is_err_and c.from_residual.result c.from_residual.ensures.1 in
    c.in_err-retire-in-Two.ensures.cut_clean (cc (p.1, p.2))
    (older-retirable c.args.table.now c.loop-sector.table c.loop-sector.sector (g.S.SlotCalls.state c.args.slots.now) (g.S.SlotCalls.state c.loop-sector.slots) c.in-Two.newer c.in-Two.older (omega (arith, c.loop-sector-test.true, c.loop-sector.invariant.retired.size)) c.in-Two.is c.loop-sector.invariant.retired)
    (c.loop-sector.invariant.retired.clean clean)

pub returns-in_err-retire-in-Two-clause-fails : goal.returns-in_err-retire-in-Two-clause-fails
returns-in_err-retire-in-Two-clause-fails g c =
    let p = err_from_is_err_and c.from_residual.result c.from_residual.ensures.1 in
    subst (λ z. IfErr z (λ e. RefusesFirmly e (g.S.SlotCalls.state c.args.slots.now) (g.S.SlotCalls.state c.retire.new.self))) (sym p.1)
    (refuses-perhaps p.0 (g.S.SlotCalls.state c.args.slots.now) (g.S.SlotCalls.state c.loop-sector.slots) (g.S.SlotCalls.state c.retire.new.self) c.loop-sector.invariant.retired.since (subst (λ e. RefusesFirmly e (g.S.SlotCalls.state c.loop-sector.slots) (g.S.SlotCalls.state c.retire.new.self)) (sym p.2) c.in_err-retire-in-Two.ensures.ends))

pub returns-clause-held : goal.returns-clause-held
returns-clause-held g c = table-held c.args.table.now c.loop-sector.table (g.S.SlotCalls.state c.args.slots.now) (g.S.SlotCalls.state c.loop-sector.slots) c.loop-sector.sector c.requires.size (omega (arith, c.loop-sector-test.false, c.loop-sector.invariant.retired.size)) c.loop-sector.invariant.read c.loop-sector.invariant.retired
