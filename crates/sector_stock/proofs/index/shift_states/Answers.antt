use Rattle.sector_stock.proofs.Shifting.{shifted-more}
use Rattle.sector_stock.proofs.index.shift_states.Goals as goal

pub loop-place-preserved : goal.loop-place-preserved
loop-place-preserved c = record {
  shifted = shifted-more c.loop-place.place c.args.source c.args.target c.args.slots.now c.loop-place.slots c.copy_of.result c.loop-place-test.true c.requires.other c.requires.source c.requires.target c.copy_of.ensures c.loop-place.invariant.shifted;
}
