use Rattle.std.proofs.Common.{◌∙◌, ◌≡◌, ◌-◌, sym, subst, ap, refl, inr}
use Rattle.std.specs.Prelude.{Err}
use Rattle.chip_model.specs.Geometry.{block_count}
use Rattle.sector_slots.specs.Slots.{data_blocks}
use Rattle.sector_stock.specs.Index.{AreWithin, erases_of}
use Rattle.sector_stock.proofs.Even.{even-more}
use Rattle.std.proofs.lemmas.Result.{err_from_is_err_and}
use Rattle.erase_journal.specs.Steps.{RefusesFirmly}
use Rattle.nor_driver.proofs.CallLaws.{fails-as}
use Rattle.erase_journal.specs.Steps.{SucceedsSettled}
use Rattle.erase_journal.proofs.Firmly.{refuses-firmly}
use Rattle.sector_map.proofs.MapCalls.{served-room, stays-keeps, served-steps, served-moves, same-moved-keeps, steps-target, stepped, perhaps-after}
use Rattle.sector_stock.specs.Takes.{MakesFirm, CountsErase}
use Rattle.sector_stock.specs.Room.{HasNoneDead}
use Rattle.sector_stock.proofs.Firming.{firm-none}
use Rattle.sector_map.proofs.Evening.{firm-kept}
use Rattle.sector_map.proofs.KeepLosses.{stock-fails, read-fails, read-stays}
use Rattle.sector_map.proofs.steps.move_if_due.Goals as goal

pub level-requires-clause-room : goal.level-requires-clause-room
level-requires-clause-room g c = served-room c.args.table.now (g.S.SlotCalls.state c.args.stock.now) (g.S.SlotCalls.indexed c.args.stock.now) c.requires.served

pub returns-in_err-moved-clause-cut : goal.returns-in_err-moved-clause-cut
returns-in_err-moved-clause-cut g c is =
    let p = err_from_is_err_and c.from_residual.result c.from_residual.ensures.1 in
    let s = c.requires.served in
    stays-keeps (g.S.SlotCalls.state c.args.stock.now).memory (g.S.SlotCalls.state c.level.new.self).memory (c.in_err-moved.ensures.cut (cc (p.1, p.2))) (c.in_err-moved.ensures.healthy (cc (p.1, p.2))) s.store.slots

pub follow_copied-requires-clause-number : goal.follow_copied-requires-clause-number
follow_copied-requires-clause-number g c = steps-target c.in-Some.moved (g.S.SlotCalls.state c.args.stock.now).memory (g.S.SlotCalls.state c.level.new.self).memory (served-moves c.in-Some.moved (g.S.SlotCalls.state c.args.stock.now) (g.S.SlotCalls.indexed c.args.stock.now) (g.S.SlotCalls.state c.level.new.self).memory c.args.table.now c.requires.served (c.in_ok-moved.ensures.moved c.in-Some.moved c.in-Some.is))

pub follow_copied-requires-clause-sound : goal.follow_copied-requires-clause-sound
follow_copied-requires-clause-sound g c = (served-steps c.in-Some.moved (g.S.SlotCalls.state c.args.stock.now) (g.S.SlotCalls.indexed c.args.stock.now) (g.S.SlotCalls.state c.level.new.self).memory c.args.table.now c.requires.served (served-moves c.in-Some.moved (g.S.SlotCalls.state c.args.stock.now) (g.S.SlotCalls.indexed c.args.stock.now) (g.S.SlotCalls.state c.level.new.self).memory c.args.table.now c.requires.served (c.in_ok-moved.ensures.moved c.in-Some.moved c.in-Some.is))).sound

pub follow_copied-requires-clause-single : goal.follow_copied-requires-clause-single
follow_copied-requires-clause-single g c = (served-steps c.in-Some.moved (g.S.SlotCalls.state c.args.stock.now) (g.S.SlotCalls.indexed c.args.stock.now) (g.S.SlotCalls.state c.level.new.self).memory c.args.table.now c.requires.served (served-moves c.in-Some.moved (g.S.SlotCalls.state c.args.stock.now) (g.S.SlotCalls.indexed c.args.stock.now) (g.S.SlotCalls.state c.level.new.self).memory c.args.table.now c.requires.served (c.in_ok-moved.ensures.moved c.in-Some.moved c.in-Some.is))).single

pub follow_copied-requires-clause-blocks : goal.follow_copied-requires-clause-blocks
follow_copied-requires-clause-blocks g c = (served-steps c.in-Some.moved (g.S.SlotCalls.state c.args.stock.now) (g.S.SlotCalls.indexed c.args.stock.now) (g.S.SlotCalls.state c.level.new.self).memory c.args.table.now c.requires.served (served-moves c.in-Some.moved (g.S.SlotCalls.state c.args.stock.now) (g.S.SlotCalls.indexed c.args.stock.now) (g.S.SlotCalls.state c.level.new.self).memory c.args.table.now c.requires.served (c.in_ok-moved.ensures.moved c.in-Some.moved c.in-Some.is))).blocks

pub returns-in_err-follow_copied-in-Some-clause-cut : goal.returns-in_err-follow_copied-in-Some-clause-cut
returns-in_err-follow_copied-in-Some-clause-cut g c is =
    same-moved-keeps (g.S.SlotCalls.state c.args.stock.now) (g.S.SlotCalls.state c.level.new.self).memory (g.S.SlotCalls.state c.follow_copied.new.slots).memory (served-steps c.in-Some.moved (g.S.SlotCalls.state c.args.stock.now) (g.S.SlotCalls.indexed c.args.stock.now) (g.S.SlotCalls.state c.level.new.self).memory c.args.table.now c.requires.served (served-moves c.in-Some.moved (g.S.SlotCalls.state c.args.stock.now) (g.S.SlotCalls.indexed c.args.stock.now) (g.S.SlotCalls.state c.level.new.self).memory c.args.table.now c.requires.served (c.in_ok-moved.ensures.moved c.in-Some.moved c.in-Some.is))) c.follow_copied.ensures.same c.in_ok-moved.ensures.ends.settled c.requires.served.store.slots

pub returns-in_ok-follow_copied-in-Some-clause-ok : goal.returns-in_ok-follow_copied-in-Some-clause-ok
returns-in_ok-follow_copied-in-Some-clause-ok g c =
    stepped c.in-Some.moved (g.S.SlotCalls.state c.args.stock.now) (g.S.SlotCalls.state c.level.new.self) (g.S.SlotCalls.state c.follow_copied.new.slots) c.args.table.now c.follow_copied.new.table (g.S.SlotCalls.indexed c.args.stock.now) c.requires.served (served-moves c.in-Some.moved (g.S.SlotCalls.state c.args.stock.now) (g.S.SlotCalls.indexed c.args.stock.now) (g.S.SlotCalls.state c.level.new.self).memory c.args.table.now c.requires.served (c.in_ok-moved.ensures.moved c.in-Some.moved c.in-Some.is)) c.follow_copied.ensures.same c.in_ok-follow_copied-in-Some.ensures.ok
    (perhaps-after (g.S.SlotCalls.state c.args.stock.now) (g.S.SlotCalls.state c.level.new.self) (g.S.SlotCalls.state c.follow_copied.new.slots) c.in_ok-moved.ensures.ends c.in_ok-follow_copied-in-Some.ensures.done) (g.S.SlotCalls.indexed c.follow_copied.new.slots) (c.follow_copied.ensures.index ∙ c.in_ok-moved.ensures.indexed)

pub returns-in_err-follow_copied-in-Some-clause-ends : goal.returns-in_err-follow_copied-in-Some-clause-ends
returns-in_err-follow_copied-in-Some-clause-ends g c =
    let s0 = g.S.SlotCalls.state c.args.stock.now in
    let s1 = g.S.SlotCalls.state c.level.new.self in
    let s2 = g.S.SlotCalls.state c.follow_copied.new.slots in
    fails-as c.from_residual-in_err-follow_copied-in-Some.result _ (λ _. SucceedsSettled s0 s2) (λ e. RefusesFirmly e s0 s2) c.from_residual-in_err-follow_copied-in-Some.ensures.1
    (refuses-firmly _ s0 s1 s2 c.in_ok-moved.ensures.ends c.in_err-follow_copied-in-Some.ensures.fails)

pub returns-in_ok-follow_copied-in-Some-clause-ends : goal.returns-in_ok-follow_copied-in-Some-clause-ends
returns-in_ok-follow_copied-in-Some-clause-ends g c =
    let s0 = g.S.SlotCalls.state c.args.stock.now in
    let s1 = g.S.SlotCalls.state c.level.new.self in
    let s2 = g.S.SlotCalls.state c.follow_copied.new.slots in
    perhaps-after s0 s1 s2 c.in_ok-moved.ensures.ends c.in_ok-follow_copied-in-Some.ensures.done

pub returns-in-None-clause-ok : goal.returns-in-None-clause-ok
returns-in-None-clause-ok g c =
    let a = g.S.SlotCalls.state c.args.stock.now in
    firm-kept a (g.S.SlotCalls.state c.level.new.self) c.args.table.now (g.S.SlotCalls.indexed c.args.stock.now) (g.S.SlotCalls.indexed c.level.new.self) c.requires.served
    (subst (λ z. MakesFirm a.memory z) (sym (c.in_ok-moved.ensures.none c.in-None.is)) (firm-none a.memory c.requires.served.blocks)) c.in_ok-moved.ensures.ends c.in_ok-moved.ensures.indexed

pub returns-in_ok-follow_copied-in-Some-clause-even : goal.returns-in_ok-follow_copied-in-Some-clause-even
returns-in_ok-follow_copied-in-Some-clause-even g c by =
    let m = (g.S.SlotCalls.state c.args.stock.now).memory in
    let m1 = (g.S.SlotCalls.state c.follow_copied.new.slots).memory in
    let n : data_blocks m1 ≡ data_blocks m = ap (λ a. data_blocks a) c.follow_copied.ensures.same ∙ ap (λ k. block_count k - 4) c.in_ok-moved.ensures.size in
    let inside = (c.in_ok-moved.ensures.moved c.in-Some.moved c.in-Some.is).source in
    let old = c.requires.even (sym (c.follow_copied.ensures.policy ∙ c.in_ok-moved.ensures.policy) ∙ by) in
    subst (λ k. AreWithin 30 k (erases_of (g.S.Reclaim.counts c.follow_copied.new.slots))) (sym n)
    (subst (λ b. AreWithin 30 (data_blocks m) (erases_of b)) (sym c.follow_copied.ensures.counted)
    (even-more 29 c.in-Some.moved.source (data_blocks m) (erases_of (g.S.Reclaim.counts c.args.stock.now)) (erases_of (g.S.Reclaim.counts c.level.new.self)) inside old (subst (λ o. CountsErase (data_blocks m) o (erases_of (g.S.Reclaim.counts c.args.stock.now)) (erases_of (g.S.Reclaim.counts c.level.new.self))) c.in-Some.is c.in_ok-moved.ensures.counted)))

pub returns-in_err-moved-clause-firmly : goal.returns-in_err-moved-clause-firmly
returns-in_err-moved-clause-firmly g c = stock-fails c.from_residual.result _ (g.S.SlotCalls.state c.args.stock.now) (g.S.SlotCalls.state c.level.new.self) (g.S.Reclaim.counts c.args.stock.now) (g.S.Reclaim.counts c.level.new.self) c.from_residual.ensures.1 c.requires.served.store.slots (λ is disk. c.in_err-moved.ensures.cut_bits (ap Err is) disk)

pub returns-in_err-follow_copied-in-Some-clause-firmly : goal.returns-in_err-follow_copied-in-Some-clause-firmly
returns-in_err-follow_copied-in-Some-clause-firmly g c =
    let s = c.requires.served in
    let moved = served-steps c.in-Some.moved (g.S.SlotCalls.state c.args.stock.now) (g.S.SlotCalls.indexed c.args.stock.now) (g.S.SlotCalls.state c.level.new.self).memory c.args.table.now s (served-moves c.in-Some.moved (g.S.SlotCalls.state c.args.stock.now) (g.S.SlotCalls.indexed c.args.stock.now) (g.S.SlotCalls.state c.level.new.self).memory c.args.table.now s (c.in_ok-moved.ensures.moved c.in-Some.moved c.in-Some.is)) in
    let keeps = same-moved-keeps (g.S.SlotCalls.state c.args.stock.now) (g.S.SlotCalls.state c.level.new.self).memory (g.S.SlotCalls.state c.level.new.self).memory moved refl c.in_ok-moved.ensures.ends.settled s.store.slots in
    read-fails c.from_residual-in_err-follow_copied-in-Some.result (g.S.SlotCalls.state c.args.stock.now) (g.S.SlotCalls.state c.level.new.self) (g.S.SlotCalls.state c.follow_copied.new.slots) (g.S.Reclaim.counts c.args.stock.now) (g.S.Reclaim.counts c.level.new.self) (g.S.Reclaim.counts c.follow_copied.new.slots) _ c.from_residual-in_err-follow_copied-in-Some.ensures.1
    (λ h. c.in_ok-moved.ensures.disk h) moved.blocks keeps c.follow_copied.ensures.same c.follow_copied.ensures.weak

pub returns-in_ok-follow_copied-in-Some-clause-firmly : goal.returns-in_ok-follow_copied-in-Some-clause-firmly
returns-in_ok-follow_copied-in-Some-clause-firmly g c h = read-stays (g.S.SlotCalls.state c.level.new.self) (g.S.SlotCalls.state c.follow_copied.new.slots) (g.S.Reclaim.counts c.level.new.self) (g.S.Reclaim.counts c.follow_copied.new.slots) c.follow_copied.ensures.same c.follow_copied.ensures.weak c.follow_copied.ensures.counted (c.in_ok-moved.ensures.disk h)

pub returns-in_ok-follow_copied-in-Some-clause-left : goal.returns-in_ok-follow_copied-in-Some-clause-left
returns-in_ok-follow_copied-in-Some-clause-left g c = inr (subst (λ z. HasNoneDead z → ⊥) (sym c.follow_copied.ensures.same) (c.in_ok-moved.ensures.left c.in-Some.moved c.in-Some.is))
