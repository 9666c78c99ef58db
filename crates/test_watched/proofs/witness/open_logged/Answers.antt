use Rattle.std.proofs.lemmas.Result.{IfOk-weaker}
use Rattle.chip_watch.specs.Watched.{watched_chip}
use Rattle.test_watched.specs.Logged.{frames_behind, frames_of}
use Rattle.test_watched.proofs.LoggedLaws.{opened}
use Rattle.test_watched.proofs.witness.open_logged.Goals as goal

pub returns-clause-read : goal.returns-clause-read
returns-clause-read g c = IfOk-weaker c.open.result _ _ (λ bus o. opened (watched_chip bus) (frames_of c.new.result) (frames_behind bus) c.new.ensures o) c.open.ensures.read
