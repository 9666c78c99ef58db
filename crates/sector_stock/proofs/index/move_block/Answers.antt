use Rattle.std.proofs.Common.{◌∙◌, ◌<◌, ap, subst, sym, length}
use Rattle.sector_stock.specs.Index.{BlocksMoved, AreBounds, AreWorn}
use Rattle.sector_stock.specs.IndexSteps.{Widened}
use Rattle.sector_stock.proofs.Moving.{looking-both, looking-one, ahead-moved, ahead-bound, bounds-moved, worn-moved}
use Rattle.sector_stock.proofs.index.move_block.Goals as goal

pub returns-then-at-source-clause-ahead : goal.returns-then-at-source-clause-ahead
returns-then-at-source-clause-ahead c =
    let s = c.args.source in
    let n = c.move_counts.ensures.moved.size in
    let low = c.bound_moved.ensures in
    let at = c.bound_moved.new.at in
    let same = ap (λ a. a.reserve) low.rest in
    let ahead = ahead-bound s c.args.blocks.now c.move_counts.new.blocks c.args.at.now at c.requires.ahead low in
    let moved : BlocksMoved s at.reserve c.args.blocks.now c.move_counts.new.blocks = subst (λ r. BlocksMoved s r c.args.blocks.now c.move_counts.new.blocks) (sym same) c.move_counts.ensures.moved in
    let next = c.next_reserve.ensures.next in
    let one = c.widen.ensures in
    let two = c.widen-then-at-source.ensures in
    let one2 = subst (λ t. Widened t c.next_reserve.new.at c.widen.new.at) (sym same) one in
    let look = looking-both s at.reserve c.move_counts.new.blocks at c.next_reserve.new.at c.widen.new.at c.widen-then-at-source.new.at (rw n c.requires.source) (subst (λ r. r < length c.move_counts.new.blocks) (sym same) (rw n c.requires.reserve)) (rw n ahead.within.0) next one2 two in
    ahead-moved s c.args.blocks.now c.move_counts.new.blocks at c.next_reserve.new.at c.widen-then-at-source.new.at ahead moved next look
    (two.reserve ∙ one.reserve) (two.spares ∙ one.spares) (two.most ∙ (one.most ∙ next.most)) (two.from ∙ (one.from ∙ next.from))
    (subst (λ k. AreBounds c.move_counts.new.blocks k) (sym (two.bounds ∙ (one.bounds ∙ next.bounds))) (bounds-moved s c.args.blocks.now c.move_counts.new.blocks c.args.at.now at c.requires.ahead c.move_counts.ensures.fits c.requires.source c.requires.reserve c.move_counts.ensures.moved low))
    (subst (λ k. AreWorn k c.widen-then-at-source.new.at.most_erases c.move_counts.new.blocks) (sym (two.least ∙ (one.least ∙ next.least))) (subst (λ k. AreWorn at.least_erases k c.move_counts.new.blocks) (sym (two.worn ∙ (one.worn ∙ next.worn))) (worn-moved s c.args.blocks.now c.move_counts.new.blocks c.args.at.now at c.requires.ahead c.move_counts.ensures.fits c.requires.source c.requires.reserve c.move_counts.ensures.moved low)))

pub returns-else-at-source-clause-ahead : goal.returns-else-at-source-clause-ahead
returns-else-at-source-clause-ahead c =
    let s = c.args.source in
    let n = c.move_counts.ensures.moved.size in
    let low = c.bound_moved.ensures in
    let at = c.bound_moved.new.at in
    let same = ap (λ a. a.reserve) low.rest in
    let ahead = ahead-bound s c.args.blocks.now c.move_counts.new.blocks c.args.at.now at c.requires.ahead low in
    let moved : BlocksMoved s at.reserve c.args.blocks.now c.move_counts.new.blocks = subst (λ r. BlocksMoved s r c.args.blocks.now c.move_counts.new.blocks) (sym same) c.move_counts.ensures.moved in
    let next = c.next_reserve.ensures.next in
    let one = c.widen.ensures in
    let one2 = subst (λ t. Widened t c.next_reserve.new.at c.widen.new.at) (sym same) one in
    let look = looking-one s at.reserve c.move_counts.new.blocks at c.next_reserve.new.at c.widen.new.at (subst (λ r. r < length c.move_counts.new.blocks) (sym same) (rw n c.requires.reserve)) (rw n ahead.within.0) next one2 c.if-at-source.false in
    ahead-moved s c.args.blocks.now c.move_counts.new.blocks at c.next_reserve.new.at c.widen.new.at ahead moved next look
    one.reserve one.spares (one.most ∙ next.most) (one.from ∙ next.from)
    (subst (λ k. AreBounds c.move_counts.new.blocks k) (sym (one.bounds ∙ next.bounds)) (bounds-moved s c.args.blocks.now c.move_counts.new.blocks c.args.at.now at c.requires.ahead c.move_counts.ensures.fits c.requires.source c.requires.reserve c.move_counts.ensures.moved low))
    (subst (λ k. AreWorn k c.widen.new.at.most_erases c.move_counts.new.blocks) (sym (one.least ∙ next.least)) (subst (λ k. AreWorn at.least_erases k c.move_counts.new.blocks) (sym (one.worn ∙ next.worn)) (worn-moved s c.args.blocks.now c.move_counts.new.blocks c.args.at.now at c.requires.ahead c.move_counts.ensures.fits c.requires.source c.requires.reserve c.move_counts.ensures.moved low)))
