use Rattle.std.proofs.Common.{inr, refl}
use Rattle.norbd_run.proofs.serve_chip.serve_steady.Goals as goal

pub serve_lives-requires-clause-served : goal.serve_lives-requires-clause-served
serve_lives-requires-clause-served g c κs within = λ is life b. refl
