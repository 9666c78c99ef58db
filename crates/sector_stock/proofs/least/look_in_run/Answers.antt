use Rattle.std.proofs.Common.{refl, subst, sym, MatchOption, ◌≤◌, slice_index_or, slice_set}
use Rattle.sector_stock.specs.Index.{in_block, AreBounds}
use Rattle.sector_stock.proofs.Searching.{improves-bounded, bounds-set}
use Rattle.sector_stock.proofs.least.look_in_run.Goals as goal

pub returns-then-not-may_improve-clause-best : goal.returns-then-not-may_improve-clause-best
returns-then-not-may_improve-clause-best c = improves-bounded c.args.wanted c.args.but c.args.blocks.now c.args.bounds.now c.args.from c.args.end c.args.best c.requires.row c.requires.bounds c.requires.from c.requires.end c.requires.run c.requires.best
    (subst (λ k. MatchOption c.args.best ⊥ (λ b. (in_block c.args.blocks.now b).erases ≤ slice_index_or c.args.bounds.now k 0)) c.place_of-place.ensures.place (c.if-not-may_improve.ensures refl))

pub returns-then-is_run-clause-bounds : goal.returns-then-is_run-clause-bounds
returns-then-is_run-clause-bounds c =
    subst (λ k. AreBounds c.args.blocks.now (slice_set c.args.bounds.now k c.look-seen.result.least)) (sym c.place_of-place.ensures.place)
    (bounds-set c.args.wanted c.args.blocks.now c.args.bounds.now c.args.from c.args.end c.look-seen.result.least c.requires.row c.requires.size c.requires.bounds_size c.requires.bounds c.requires.from c.requires.end c.requires.run
    (c.if-is_run.ensures.start refl) (c.if-is_run.ensures.end refl) c.look-seen.ensures.least)
