use Rattle.std.proofs.Common.{◌≡◌, ◌+◌, ◌<◌, ◌∙◌, suc, ap, sym, subst, arith}
use Rattle.std.proofs.lemmas.Result.{err_from_is_err_and}
use Rattle.erase_journal.specs.Journals.{IsHealthy}
use Rattle.sector_slots.specs.Slots.{data_blocks}
use Rattle.erase_journal.specs.Steps.{RefusesFirmly}
use Rattle.nor_driver.proofs.CallLaws.{fails-as, fails-of}
use Rattle.erase_journal.specs.Steps.{SucceedsSettled}
use Rattle.erase_journal.proofs.Firmly.{refuses-firmly}
use Rattle.sector_map.proofs.Retiring.{refuses-perhaps, succeeds-perhaps}
use Rattle.sector_map.proofs.Voiding.{Voiding, voiding-healthy, voiding-quiet, voiding-void, voiding-sound, voiding-more, voiding-cut, voiding-done}
use Rattle.sector_map.specs.Firm.{KeepsRead}
use Rattle.sector_map.proofs.MountFirmly.{keeps-after, keeps-same, void-keeps}
use Rattle.sector_map.proofs.mount.end_voids.Goals as goal
use Rattle.sector_map.proofs.mount.end_voids.Goals.{then-is_void+in_ok-end_void, else-is_void}

pub loop-block-preserved : goal.loop-block-preserved
loop-block-preserved g c =
    let next : c.loop-block.block + 1 ≡ suc c.loop-block.block = omega arith in
    let a = g.S.SlotCalls.state c.args.slots.now in
    let b = g.S.SlotCalls.state c.loop-block.slots in
    let k = g.S.SlotCalls.state c.kind.new.self in
    let low : c.loop-block.block < data_blocks a.memory = omega (arith, c.loop-block-test.true, c.blocks-count.ensures.count) in
    record {
      voiding = elim c.if-is_void.branch as (λ _. Voiding (c.loop-block.block + 1) a (g.S.SlotCalls.state c.if-is_void.slots)) [
        | then-is_void+in_ok-end_void w ↦
            let v = voiding-void c.loop-block.block a b k c.in_ok-kind.kind c.kind.ensures.same low c.in_ok-kind.ensures.ok (sym c.is_void.ensures ∙ w.if-is_void.true) c.loop-block.invariant.voiding in
            subst (λ z. Voiding (c.loop-block.block + 1) a z) (sym (ap (λ z. g.S.SlotCalls.state z) w.slots-is))
            (voiding-more c.loop-block.block (c.loop-block.block + 1) a b k (g.S.SlotCalls.state w.end_void.new.slots) next c.kind.ensures.same c.in_ok-kind.ensures.ends low v
            (w.in_ok-end_void.ensures.ok v (voiding-sound c.loop-block.block a b k c.kind.ensures.same c.requires.sound c.loop-block.invariant.voiding)) w.in_ok-end_void.ensures.ends c.loop-block.invariant.voiding)
        | else-is_void w ↦ subst (λ z. Voiding (c.loop-block.block + 1) a z) (sym (ap (λ z. g.S.SlotCalls.state z) w.slots-is))
            (voiding-quiet c.loop-block.block (c.loop-block.block + 1) a b k c.in_ok-kind.kind next c.kind.ensures.same c.in_ok-kind.ensures.ends low c.in_ok-kind.ensures.ok (sym c.is_void.ensures ∙ w.if-is_void.false) c.loop-block.invariant.voiding)
      ];
      read = elim c.if-is_void.branch as (λ _. KeepsRead a (g.S.SlotCalls.state c.if-is_void.slots)) [
        | then-is_void+in_ok-end_void w ↦
            let v = voiding-void c.loop-block.block a b k c.in_ok-kind.kind c.kind.ensures.same low c.in_ok-kind.ensures.ok (sym c.is_void.ensures ∙ w.if-is_void.true) c.loop-block.invariant.voiding in
            let d = g.S.SlotCalls.state w.end_void.new.slots in
            subst (λ z. KeepsRead a z) (sym (ap (λ z. g.S.SlotCalls.state z) w.slots-is))
            (keeps-after a b d c.loop-block.invariant.read (keeps-after b k d (keeps-same b k c.in_ok-kind.ensures.ends.kept.bits c.kind.ensures.same)
            (void-keeps k d c.loop-block.block w.in_ok-end_void.ensures.ends.kept.bits (w.in_ok-end_void.ensures.ok v (voiding-sound c.loop-block.block a b k c.kind.ensures.same c.requires.sound c.loop-block.invariant.voiding)) w.in_ok-end_void.ensures.firm v.number)))
        | else-is_void w ↦ subst (λ z. KeepsRead a z) (sym (ap (λ z. g.S.SlotCalls.state z) w.slots-is)) (keeps-after a b k c.loop-block.invariant.read (keeps-same b k c.in_ok-kind.ensures.ends.kept.bits c.kind.ensures.same))
      ];
    }

pub returns-in_err-kind-clause-healthy : goal.returns-in_err-kind-clause-healthy
returns-in_err-kind-clause-healthy g c is h = subst (λ z. IsHealthy z) (sym c.kind.ensures.same) (voiding-healthy c.loop-block.block (g.S.SlotCalls.state c.args.slots.now) (g.S.SlotCalls.state c.loop-block.slots) c.loop-block.invariant.voiding h)

pub returns-in_err-end_void-clause-cut : goal.returns-in_err-end_void-clause-cut
returns-in_err-end_void-clause-cut g c is h =
    let p = err_from_is_err_and c.from_residual-in_err-end_void.result c.from_residual-in_err-end_void.ensures.1 in
    let a = g.S.SlotCalls.state c.args.slots.now in
    let b = g.S.SlotCalls.state c.loop-block.slots in
    let k = g.S.SlotCalls.state c.kind.new.self in
    let low : c.loop-block.block < data_blocks a.memory = omega (arith, c.loop-block-test.true, c.blocks-count.ensures.count) in
    let v = voiding-void c.loop-block.block a b k c.in_ok-kind.kind c.kind.ensures.same low c.in_ok-kind.ensures.ok (sym c.is_void.ensures ∙ c.if-is_void.true) c.loop-block.invariant.voiding in
    voiding-cut c.loop-block.block a b k (g.S.SlotCalls.state c.end_void.new.slots) c.kind.ensures.same
    (c.in_err-end_void.ensures.cut (cc (p.1, p.2)) (subst (λ z. IsHealthy z) (sym c.kind.ensures.same) (voiding-healthy c.loop-block.block a b c.loop-block.invariant.voiding h)) v) c.loop-block.invariant.voiding

pub returns-in_err-end_void-clause-healthy : goal.returns-in_err-end_void-clause-healthy
returns-in_err-end_void-clause-healthy g c is h =
    let p = err_from_is_err_and c.from_residual-in_err-end_void.result c.from_residual-in_err-end_void.ensures.1 in
    c.in_err-end_void.ensures.healthy (cc (p.1, p.2)) (subst (λ z. IsHealthy z) (sym c.kind.ensures.same) (voiding-healthy c.loop-block.block (g.S.SlotCalls.state c.args.slots.now) (g.S.SlotCalls.state c.loop-block.slots) c.loop-block.invariant.voiding h))

pub end_void-requires : goal.end_void-requires
end_void-requires g c =
    let a = g.S.SlotCalls.state c.args.slots.now in
    let low : c.loop-block.block < data_blocks a.memory = omega (arith, c.loop-block-test.true, c.blocks-count.ensures.count) in
    let v = voiding-void c.loop-block.block a (g.S.SlotCalls.state c.loop-block.slots) (g.S.SlotCalls.state c.kind.new.self) c.in_ok-kind.kind c.kind.ensures.same low c.in_ok-kind.ensures.ok (sym c.is_void.ensures ∙ c.if-is_void.true) c.loop-block.invariant.voiding in
    record { target = v.number; void = λ ready. v }

pub returns-clause-ok : goal.returns-clause-ok
returns-clause-ok g c = voiding-done c.loop-block.block (g.S.SlotCalls.state c.args.slots.now) (g.S.SlotCalls.state c.loop-block.slots) (omega (arith, c.loop-block-test.false, c.loop-block.auto.block-end, c.blocks-count.ensures.count)) c.loop-block.invariant.voiding

pub returns-in_err-kind-clause-fails : goal.returns-in_err-kind-clause-fails
returns-in_err-kind-clause-fails g c =
    let s0 = g.S.SlotCalls.state c.args.slots.now in
    let s1 = g.S.SlotCalls.state c.loop-block.slots in
    let s2 = g.S.SlotCalls.state c.kind.new.self in
    fails-of c.from_residual.result (SucceedsSettled s0 s2) (λ e. RefusesFirmly e s0 s2) (fails-as c.from_residual.result _ (λ _. SucceedsSettled s0 s2) (λ e. RefusesFirmly e s0 s2) c.from_residual.ensures.1
    (refuses-perhaps _ s0 s1 s2 c.loop-block.invariant.voiding.since c.in_err-kind.ensures.ends))

pub returns-in_err-end_void-clause-fails : goal.returns-in_err-end_void-clause-fails
returns-in_err-end_void-clause-fails g c =
    let s0 = g.S.SlotCalls.state c.args.slots.now in
    let s1 = g.S.SlotCalls.state c.loop-block.slots in
    let s2 = g.S.SlotCalls.state c.kind.new.self in
    let s3 = g.S.SlotCalls.state c.end_void.new.slots in
    fails-of c.from_residual-in_err-end_void.result (SucceedsSettled s0 s3) (λ e. RefusesFirmly e s0 s3) (fails-as c.from_residual-in_err-end_void.result _ (λ _. SucceedsSettled s0 s3) (λ e. RefusesFirmly e s0 s3) c.from_residual-in_err-end_void.ensures.1
    (refuses-firmly _ s0 s2 s3 (succeeds-perhaps s0 s1 s2 c.loop-block.invariant.voiding.since c.in_ok-kind.ensures.ends) c.in_err-end_void.ensures.ends))
