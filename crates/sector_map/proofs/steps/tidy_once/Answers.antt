use Rattle.std.proofs.Common.{◌∙◌, sym, subst, ap, refl}
use Rattle.std.specs.Prelude.{Err}
use Rattle.std.proofs.lemmas.Result.{err_from_is_err_and}
use Rattle.erase_journal.specs.Steps.{RefusesFirmly}
use Rattle.nor_driver.proofs.CallLaws.{fails-as}
use Rattle.erase_journal.specs.Steps.{SucceedsSettled}
use Rattle.erase_journal.proofs.Firmly.{refuses-firmly}
use Rattle.sector_map.proofs.MapCalls.{served-room, stays-keeps, served-steps, served-tidies, same-moved-keeps, steps-target, stepped, perhaps-after, no-work}
use Rattle.sector_stock.specs.Takes.{MakesFirm}
use Rattle.sector_stock.proofs.Firming.{firm-none}
use Rattle.sector_map.proofs.Evening.{firm-kept}
use Rattle.sector_map.proofs.KeepLosses.{stock-fails, read-fails, read-stays}
use Rattle.sector_map.proofs.steps.tidy_once.Goals as goal

pub tidy-requires-clause-room : goal.tidy-requires-clause-room
tidy-requires-clause-room g c = served-room c.args.table.now (g.S.SlotCalls.state c.args.stock.now) (g.S.SlotCalls.indexed c.args.stock.now) c.requires.served

pub returns-in_err-copied-clause-cut : goal.returns-in_err-copied-clause-cut
returns-in_err-copied-clause-cut g c is =
    let p = err_from_is_err_and c.from_residual.result c.from_residual.ensures.1 in
    let s = c.requires.served in
    stays-keeps (g.S.SlotCalls.state c.args.stock.now).memory (g.S.SlotCalls.state c.tidy.new.self).memory (c.in_err-copied.ensures.cut (cc (p.1, p.2))) (c.in_err-copied.ensures.healthy (cc (p.1, p.2))) s.store.slots

pub follow_copied-requires-clause-number : goal.follow_copied-requires-clause-number
follow_copied-requires-clause-number g c = steps-target c.in-Some.copied (g.S.SlotCalls.state c.args.stock.now).memory (g.S.SlotCalls.state c.tidy.new.self).memory (served-tidies c.in-Some.copied (g.S.SlotCalls.state c.args.stock.now) (g.S.SlotCalls.indexed c.args.stock.now) (g.S.SlotCalls.state c.tidy.new.self).memory c.args.table.now c.requires.served (c.in_ok-copied.ensures.copied c.in-Some.copied c.in-Some.is))

pub follow_copied-requires-clause-sound : goal.follow_copied-requires-clause-sound
follow_copied-requires-clause-sound g c = (served-steps c.in-Some.copied (g.S.SlotCalls.state c.args.stock.now) (g.S.SlotCalls.indexed c.args.stock.now) (g.S.SlotCalls.state c.tidy.new.self).memory c.args.table.now c.requires.served (served-tidies c.in-Some.copied (g.S.SlotCalls.state c.args.stock.now) (g.S.SlotCalls.indexed c.args.stock.now) (g.S.SlotCalls.state c.tidy.new.self).memory c.args.table.now c.requires.served (c.in_ok-copied.ensures.copied c.in-Some.copied c.in-Some.is))).sound

pub follow_copied-requires-clause-single : goal.follow_copied-requires-clause-single
follow_copied-requires-clause-single g c = (served-steps c.in-Some.copied (g.S.SlotCalls.state c.args.stock.now) (g.S.SlotCalls.indexed c.args.stock.now) (g.S.SlotCalls.state c.tidy.new.self).memory c.args.table.now c.requires.served (served-tidies c.in-Some.copied (g.S.SlotCalls.state c.args.stock.now) (g.S.SlotCalls.indexed c.args.stock.now) (g.S.SlotCalls.state c.tidy.new.self).memory c.args.table.now c.requires.served (c.in_ok-copied.ensures.copied c.in-Some.copied c.in-Some.is))).single

pub follow_copied-requires-clause-blocks : goal.follow_copied-requires-clause-blocks
follow_copied-requires-clause-blocks g c = (served-steps c.in-Some.copied (g.S.SlotCalls.state c.args.stock.now) (g.S.SlotCalls.indexed c.args.stock.now) (g.S.SlotCalls.state c.tidy.new.self).memory c.args.table.now c.requires.served (served-tidies c.in-Some.copied (g.S.SlotCalls.state c.args.stock.now) (g.S.SlotCalls.indexed c.args.stock.now) (g.S.SlotCalls.state c.tidy.new.self).memory c.args.table.now c.requires.served (c.in_ok-copied.ensures.copied c.in-Some.copied c.in-Some.is))).blocks

pub returns-in_err-follow_copied-in-Some-clause-cut : goal.returns-in_err-follow_copied-in-Some-clause-cut
returns-in_err-follow_copied-in-Some-clause-cut g c is =
    same-moved-keeps (g.S.SlotCalls.state c.args.stock.now) (g.S.SlotCalls.state c.tidy.new.self).memory (g.S.SlotCalls.state c.follow_copied.new.slots).memory (served-steps c.in-Some.copied (g.S.SlotCalls.state c.args.stock.now) (g.S.SlotCalls.indexed c.args.stock.now) (g.S.SlotCalls.state c.tidy.new.self).memory c.args.table.now c.requires.served (served-tidies c.in-Some.copied (g.S.SlotCalls.state c.args.stock.now) (g.S.SlotCalls.indexed c.args.stock.now) (g.S.SlotCalls.state c.tidy.new.self).memory c.args.table.now c.requires.served (c.in_ok-copied.ensures.copied c.in-Some.copied c.in-Some.is))) c.follow_copied.ensures.same c.in_ok-copied.ensures.ends.settled c.requires.served.store.slots

pub returns-in_ok-follow_copied-in-Some-clause-ok : goal.returns-in_ok-follow_copied-in-Some-clause-ok
returns-in_ok-follow_copied-in-Some-clause-ok g c =
    stepped c.in-Some.copied (g.S.SlotCalls.state c.args.stock.now) (g.S.SlotCalls.state c.tidy.new.self) (g.S.SlotCalls.state c.follow_copied.new.slots) c.args.table.now c.follow_copied.new.table (g.S.SlotCalls.indexed c.args.stock.now) c.requires.served (served-tidies c.in-Some.copied (g.S.SlotCalls.state c.args.stock.now) (g.S.SlotCalls.indexed c.args.stock.now) (g.S.SlotCalls.state c.tidy.new.self).memory c.args.table.now c.requires.served (c.in_ok-copied.ensures.copied c.in-Some.copied c.in-Some.is)) c.follow_copied.ensures.same c.in_ok-follow_copied-in-Some.ensures.ok
    (perhaps-after (g.S.SlotCalls.state c.args.stock.now) (g.S.SlotCalls.state c.tidy.new.self) (g.S.SlotCalls.state c.follow_copied.new.slots) c.in_ok-copied.ensures.ends c.in_ok-follow_copied-in-Some.ensures.done) (g.S.SlotCalls.indexed c.follow_copied.new.slots) (c.follow_copied.ensures.index ∙ c.in_ok-copied.ensures.indexed)

pub returns-in-None-clause-none : goal.returns-in-None-clause-none
returns-in-None-clause-none g c is = no-work (g.S.SlotCalls.state c.args.stock.now).memory (c.in_ok-copied.ensures.none c.in-None.is).0 (c.in_ok-copied.ensures.none c.in-None.is).1

pub returns-in-None-clause-unchanged : goal.returns-in-None-clause-unchanged
returns-in-None-clause-unchanged g c is = (c.in_ok-copied.ensures.none c.in-None.is).2

pub returns-in_err-follow_copied-in-Some-clause-ends : goal.returns-in_err-follow_copied-in-Some-clause-ends
returns-in_err-follow_copied-in-Some-clause-ends g c =
    let s0 = g.S.SlotCalls.state c.args.stock.now in
    let s1 = g.S.SlotCalls.state c.tidy.new.self in
    let s2 = g.S.SlotCalls.state c.follow_copied.new.slots in
    fails-as c.from_residual-in_err-follow_copied-in-Some.result _ (λ _. SucceedsSettled s0 s2) (λ e. RefusesFirmly e s0 s2) c.from_residual-in_err-follow_copied-in-Some.ensures.1
    (refuses-firmly _ s0 s1 s2 c.in_ok-copied.ensures.ends c.in_err-follow_copied-in-Some.ensures.fails)

pub returns-in_ok-follow_copied-in-Some-clause-ends : goal.returns-in_ok-follow_copied-in-Some-clause-ends
returns-in_ok-follow_copied-in-Some-clause-ends g c =
    let s0 = g.S.SlotCalls.state c.args.stock.now in
    let s1 = g.S.SlotCalls.state c.tidy.new.self in
    let s2 = g.S.SlotCalls.state c.follow_copied.new.slots in
    perhaps-after s0 s1 s2 c.in_ok-copied.ensures.ends c.in_ok-follow_copied-in-Some.ensures.done

pub returns-in-None-clause-ok : goal.returns-in-None-clause-ok
returns-in-None-clause-ok g c =
    let a = g.S.SlotCalls.state c.args.stock.now in
    firm-kept a (g.S.SlotCalls.state c.tidy.new.self) c.args.table.now (g.S.SlotCalls.indexed c.args.stock.now) (g.S.SlotCalls.indexed c.tidy.new.self) c.requires.served
    (subst (λ z. MakesFirm a.memory z) (sym ((c.in_ok-copied.ensures.none c.in-None.is).2)) (firm-none a.memory c.requires.served.blocks)) c.in_ok-copied.ensures.ends c.in_ok-copied.ensures.indexed

pub returns-in_err-copied-clause-firmly : goal.returns-in_err-copied-clause-firmly
returns-in_err-copied-clause-firmly g c = stock-fails c.from_residual.result _ (g.S.SlotCalls.state c.args.stock.now) (g.S.SlotCalls.state c.tidy.new.self) (g.S.Reclaim.counts c.args.stock.now) (g.S.Reclaim.counts c.tidy.new.self) c.from_residual.ensures.1 c.requires.served.store.slots (λ is disk. c.in_err-copied.ensures.cut_bits (ap Err is) disk)

pub returns-in_err-follow_copied-in-Some-clause-firmly : goal.returns-in_err-follow_copied-in-Some-clause-firmly
returns-in_err-follow_copied-in-Some-clause-firmly g c =
    let s = c.requires.served in
    let moved = served-steps c.in-Some.copied (g.S.SlotCalls.state c.args.stock.now) (g.S.SlotCalls.indexed c.args.stock.now) (g.S.SlotCalls.state c.tidy.new.self).memory c.args.table.now s (served-tidies c.in-Some.copied (g.S.SlotCalls.state c.args.stock.now) (g.S.SlotCalls.indexed c.args.stock.now) (g.S.SlotCalls.state c.tidy.new.self).memory c.args.table.now s (c.in_ok-copied.ensures.copied c.in-Some.copied c.in-Some.is)) in
    let keeps = same-moved-keeps (g.S.SlotCalls.state c.args.stock.now) (g.S.SlotCalls.state c.tidy.new.self).memory (g.S.SlotCalls.state c.tidy.new.self).memory moved refl c.in_ok-copied.ensures.ends.settled s.store.slots in
    read-fails c.from_residual-in_err-follow_copied-in-Some.result (g.S.SlotCalls.state c.args.stock.now) (g.S.SlotCalls.state c.tidy.new.self) (g.S.SlotCalls.state c.follow_copied.new.slots) (g.S.Reclaim.counts c.args.stock.now) (g.S.Reclaim.counts c.tidy.new.self) (g.S.Reclaim.counts c.follow_copied.new.slots) _ c.from_residual-in_err-follow_copied-in-Some.ensures.1
    (λ h. c.in_ok-copied.ensures.disk h) moved.blocks keeps c.follow_copied.ensures.same c.follow_copied.ensures.weak

pub returns-in_ok-follow_copied-in-Some-clause-firmly : goal.returns-in_ok-follow_copied-in-Some-clause-firmly
returns-in_ok-follow_copied-in-Some-clause-firmly g c h = read-stays (g.S.SlotCalls.state c.tidy.new.self) (g.S.SlotCalls.state c.follow_copied.new.slots) (g.S.Reclaim.counts c.tidy.new.self) (g.S.Reclaim.counts c.follow_copied.new.slots) c.follow_copied.ensures.same c.follow_copied.ensures.weak c.follow_copied.ensures.counted (c.in_ok-copied.ensures.disk h)
