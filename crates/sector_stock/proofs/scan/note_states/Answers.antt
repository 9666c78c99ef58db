use Rattle.sector_stock.proofs.Filling.{noted-more}
use Rattle.sector_stock.proofs.scan.note_states.Goals as goal

pub loop-place-preserved : goal.loop-place-preserved
loop-place-preserved c = record {
  noted = noted-more c.loop-place.place c.args.block c.args.heads.now c.args.states.now c.loop-place.states c.state_in.result c.loop-place-test.true c.requires.states c.state_in.ensures c.loop-place.invariant.noted;
}
