use Rattle.std.proofs.Common.{◌∙◌, sym, subst, ap, refl}
use Rattle.std.specs.Prelude.{Err}
use Rattle.std.proofs.lemmas.Result.{err_from_is_err_and}
use Rattle.erase_journal.specs.Steps.{RefusesFirmly}
use Rattle.nor_driver.proofs.CallLaws.{fails-as}
use Rattle.erase_journal.specs.Steps.{SucceedsSettled}
use Rattle.erase_journal.proofs.Firmly.{refuses-firmly}
use Rattle.sector_map.proofs.MapCalls.{served-room, stays-keeps, served-steps, same-moved-keeps, steps-target, stepped, perhaps-after}
use Rattle.sector_slots.specs.Slots.{IsSpareIn}
use Rattle.sector_map.proofs.Renewal.{renews-erased}
use Rattle.sector_map.proofs.Evening.{renews-steps, renews-spare, spare-kept}
use Rattle.sector_map.proofs.KeepLosses.{stock-fails, read-fails, read-stays}
use Rattle.sector_map.proofs.steps.renew_one.Goals as goal

pub renew-requires-clause-room : goal.renew-requires-clause-room
renew-requires-clause-room g c = served-room c.args.table.now (g.S.SlotCalls.state c.args.stock.now) (g.S.SlotCalls.indexed c.args.stock.now) c.requires.served

pub returns-in_err-copied-clause-cut : goal.returns-in_err-copied-clause-cut
returns-in_err-copied-clause-cut g c is =
    let p = err_from_is_err_and c.from_residual.result c.from_residual.ensures.1 in
    let s = c.requires.served in
    stays-keeps (g.S.SlotCalls.state c.args.stock.now).memory (g.S.SlotCalls.state c.renew.new.self).memory (c.in_err-copied.ensures.cut (cc (p.1, p.2))) (c.in_err-copied.ensures.healthy (cc (p.1, p.2))) s.store.slots

pub follow_copied-requires-clause-number : goal.follow_copied-requires-clause-number
follow_copied-requires-clause-number g c =
    let s = c.requires.served in
    steps-target c.in-Some.copied (g.S.SlotCalls.state c.args.stock.now).memory (g.S.SlotCalls.state c.renew.new.self).memory (renews-steps c.args.block c.in-Some.copied _ (g.S.SlotCalls.state c.args.stock.now).memory (g.S.SlotCalls.state c.renew.new.self).memory c.in-Some.is c.in_ok-copied.ensures.ok s.blocks s.store.slots)

pub follow_copied-requires-clause-sound : goal.follow_copied-requires-clause-sound
follow_copied-requires-clause-sound g c =
    let s = c.requires.served in
    (served-steps c.in-Some.copied (g.S.SlotCalls.state c.args.stock.now) (g.S.SlotCalls.indexed c.args.stock.now) (g.S.SlotCalls.state c.renew.new.self).memory c.args.table.now s (renews-steps c.args.block c.in-Some.copied _ (g.S.SlotCalls.state c.args.stock.now).memory (g.S.SlotCalls.state c.renew.new.self).memory c.in-Some.is c.in_ok-copied.ensures.ok s.blocks s.store.slots)).sound

pub follow_copied-requires-clause-single : goal.follow_copied-requires-clause-single
follow_copied-requires-clause-single g c =
    let s = c.requires.served in
    (served-steps c.in-Some.copied (g.S.SlotCalls.state c.args.stock.now) (g.S.SlotCalls.indexed c.args.stock.now) (g.S.SlotCalls.state c.renew.new.self).memory c.args.table.now s (renews-steps c.args.block c.in-Some.copied _ (g.S.SlotCalls.state c.args.stock.now).memory (g.S.SlotCalls.state c.renew.new.self).memory c.in-Some.is c.in_ok-copied.ensures.ok s.blocks s.store.slots)).single

pub follow_copied-requires-clause-blocks : goal.follow_copied-requires-clause-blocks
follow_copied-requires-clause-blocks g c =
    let s = c.requires.served in
    (served-steps c.in-Some.copied (g.S.SlotCalls.state c.args.stock.now) (g.S.SlotCalls.indexed c.args.stock.now) (g.S.SlotCalls.state c.renew.new.self).memory c.args.table.now s (renews-steps c.args.block c.in-Some.copied _ (g.S.SlotCalls.state c.args.stock.now).memory (g.S.SlotCalls.state c.renew.new.self).memory c.in-Some.is c.in_ok-copied.ensures.ok s.blocks s.store.slots)).blocks

pub returns-in_err-follow_copied-in-Some-clause-cut : goal.returns-in_err-follow_copied-in-Some-clause-cut
returns-in_err-follow_copied-in-Some-clause-cut g c is =
    let s = c.requires.served in
    same-moved-keeps (g.S.SlotCalls.state c.args.stock.now) (g.S.SlotCalls.state c.renew.new.self).memory (g.S.SlotCalls.state c.follow_copied.new.slots).memory (served-steps c.in-Some.copied (g.S.SlotCalls.state c.args.stock.now) (g.S.SlotCalls.indexed c.args.stock.now) (g.S.SlotCalls.state c.renew.new.self).memory c.args.table.now s (renews-steps c.args.block c.in-Some.copied _ (g.S.SlotCalls.state c.args.stock.now).memory (g.S.SlotCalls.state c.renew.new.self).memory c.in-Some.is c.in_ok-copied.ensures.ok s.blocks s.store.slots)) c.follow_copied.ensures.same c.in_ok-copied.ensures.ends.settled s.store.slots

pub returns-in_ok-follow_copied-in-Some-clause-ok : goal.returns-in_ok-follow_copied-in-Some-clause-ok
returns-in_ok-follow_copied-in-Some-clause-ok g c =
    let s = c.requires.served in
    stepped c.in-Some.copied (g.S.SlotCalls.state c.args.stock.now) (g.S.SlotCalls.state c.renew.new.self) (g.S.SlotCalls.state c.follow_copied.new.slots) c.args.table.now c.follow_copied.new.table (g.S.SlotCalls.indexed c.args.stock.now) s
    (renews-steps c.args.block c.in-Some.copied _ (g.S.SlotCalls.state c.args.stock.now).memory (g.S.SlotCalls.state c.renew.new.self).memory c.in-Some.is c.in_ok-copied.ensures.ok s.blocks s.store.slots) c.follow_copied.ensures.same c.in_ok-follow_copied-in-Some.ensures.ok
    (perhaps-after (g.S.SlotCalls.state c.args.stock.now) (g.S.SlotCalls.state c.renew.new.self) (g.S.SlotCalls.state c.follow_copied.new.slots) c.in_ok-copied.ensures.ends c.in_ok-follow_copied-in-Some.ensures.done) (g.S.SlotCalls.indexed c.follow_copied.new.slots) (c.follow_copied.ensures.index ∙ c.in_ok-copied.ensures.indexed)

pub returns-in_ok-follow_copied-in-Some-clause-ends : goal.returns-in_ok-follow_copied-in-Some-clause-ends
returns-in_ok-follow_copied-in-Some-clause-ends g c = perhaps-after (g.S.SlotCalls.state c.args.stock.now) (g.S.SlotCalls.state c.renew.new.self) (g.S.SlotCalls.state c.follow_copied.new.slots) c.in_ok-copied.ensures.ends c.in_ok-follow_copied-in-Some.ensures.done

pub returns-in-None-clause-ok : goal.returns-in-None-clause-ok
returns-in-None-clause-ok g c =
    spare-kept c.args.block (g.S.SlotCalls.state c.args.stock.now) (g.S.SlotCalls.state c.renew.new.self) c.args.table.now (g.S.SlotCalls.indexed c.args.stock.now) (g.S.SlotCalls.indexed c.renew.new.self) c.requires.served
    (renews-spare c.args.block _ (g.S.SlotCalls.state c.args.stock.now).memory (g.S.SlotCalls.state c.renew.new.self).memory c.in-None.is c.in_ok-copied.ensures.ok) c.in_ok-copied.ensures.ends c.in_ok-copied.ensures.indexed

pub returns-in_ok-follow_copied-in-Some-clause-erased : goal.returns-in_ok-follow_copied-in-Some-clause-erased
returns-in_ok-follow_copied-in-Some-clause-erased g c =
    subst (λ z. IsSpareIn z c.args.block) (sym c.follow_copied.ensures.same) (renews-erased c.args.block _ (g.S.SlotCalls.state c.args.stock.now).memory (g.S.SlotCalls.state c.renew.new.self).memory c.in_ok-copied.ensures.ok)

pub returns-in-None-clause-erased : goal.returns-in-None-clause-erased
returns-in-None-clause-erased g c = renews-erased c.args.block _ (g.S.SlotCalls.state c.args.stock.now).memory (g.S.SlotCalls.state c.renew.new.self).memory c.in_ok-copied.ensures.ok

pub returns-in_err-follow_copied-in-Some-clause-ends : goal.returns-in_err-follow_copied-in-Some-clause-ends
returns-in_err-follow_copied-in-Some-clause-ends g c =
    let s0 = g.S.SlotCalls.state c.args.stock.now in
    let s1 = g.S.SlotCalls.state c.renew.new.self in
    let s2 = g.S.SlotCalls.state c.follow_copied.new.slots in
    fails-as c.from_residual-in_err-follow_copied-in-Some.result _ (λ _. SucceedsSettled s0 s2) (λ e. RefusesFirmly e s0 s2) c.from_residual-in_err-follow_copied-in-Some.ensures.1
    (refuses-firmly _ s0 s1 s2 c.in_ok-copied.ensures.ends c.in_err-follow_copied-in-Some.ensures.fails)

pub returns-in_err-copied-clause-firmly : goal.returns-in_err-copied-clause-firmly
returns-in_err-copied-clause-firmly g c = stock-fails c.from_residual.result _ (g.S.SlotCalls.state c.args.stock.now) (g.S.SlotCalls.state c.renew.new.self) (g.S.Reclaim.counts c.args.stock.now) (g.S.Reclaim.counts c.renew.new.self) c.from_residual.ensures.1 c.requires.served.store.slots (λ is disk. c.in_err-copied.ensures.cut_bits (ap Err is) disk)

pub returns-in_err-follow_copied-in-Some-clause-firmly : goal.returns-in_err-follow_copied-in-Some-clause-firmly
returns-in_err-follow_copied-in-Some-clause-firmly g c =
    let s = c.requires.served in
    let moved = served-steps c.in-Some.copied (g.S.SlotCalls.state c.args.stock.now) (g.S.SlotCalls.indexed c.args.stock.now) (g.S.SlotCalls.state c.renew.new.self).memory c.args.table.now s (renews-steps c.args.block c.in-Some.copied _ (g.S.SlotCalls.state c.args.stock.now).memory (g.S.SlotCalls.state c.renew.new.self).memory c.in-Some.is c.in_ok-copied.ensures.ok s.blocks s.store.slots) in
    let keeps = same-moved-keeps (g.S.SlotCalls.state c.args.stock.now) (g.S.SlotCalls.state c.renew.new.self).memory (g.S.SlotCalls.state c.renew.new.self).memory moved refl c.in_ok-copied.ensures.ends.settled s.store.slots in
    read-fails c.from_residual-in_err-follow_copied-in-Some.result (g.S.SlotCalls.state c.args.stock.now) (g.S.SlotCalls.state c.renew.new.self) (g.S.SlotCalls.state c.follow_copied.new.slots) (g.S.Reclaim.counts c.args.stock.now) (g.S.Reclaim.counts c.renew.new.self) (g.S.Reclaim.counts c.follow_copied.new.slots) _ c.from_residual-in_err-follow_copied-in-Some.ensures.1
    (λ h. c.in_ok-copied.ensures.disk h) moved.blocks keeps c.follow_copied.ensures.same c.follow_copied.ensures.weak

pub returns-in_ok-follow_copied-in-Some-clause-firmly : goal.returns-in_ok-follow_copied-in-Some-clause-firmly
returns-in_ok-follow_copied-in-Some-clause-firmly g c h = read-stays (g.S.SlotCalls.state c.renew.new.self) (g.S.SlotCalls.state c.follow_copied.new.slots) (g.S.Reclaim.counts c.renew.new.self) (g.S.Reclaim.counts c.follow_copied.new.slots) c.follow_copied.ensures.same c.follow_copied.ensures.weak c.follow_copied.ensures.counted (c.in_ok-copied.ensures.disk h)
