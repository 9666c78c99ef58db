use Rattle.std.proofs.Common.{arith, sym}
use Rattle.sector_stock.proofs.Counting.{below-none, below-more}
use Rattle.sector_stock.proofs.room.count_free_slots.Goals as goal

pub loop-block-init : goal.loop-block-init
loop-block-init c = record { counted = sym (below-none c.args.blocks.now); most = omega arith }

pub loop-block-preserved : goal.loop-block-preserved
loop-block-preserved c =
    let so-far = c.loop-block.invariant.counted in
    let most = c.loop-block.invariant.most in
    let more = below-more c.args.blocks.now c.loop-block.block in
    let fits = c.loop-block-test.element_fits.fits in
    record { counted = omega (arith, so-far, more); most = omega (arith, most, fits) }
