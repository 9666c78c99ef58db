use Rattle.chip_watch.specs.Changes.{change_of}
use Rattle.chip_watch.specs.Watched.{watched_chip, watched_pending}
use Rattle.test_watched.specs.Logged.{frames_behind}
use Rattle.test_watched.proofs.LoggedLaws.{resumed, steadied}
use Rattle.test_watched.proofs.witness.start_logged.Goals as goal

pub returns-clause-resumed : goal.returns-clause-resumed
returns-clause-resumed g c = λ off on few.
    resumed (watched_chip c.power_on.new.self) (watched_pending c.args.bus.now) (frames_behind c.args.bus.now) (frames_behind c.power_on.new.self) (c.power_on.ensures.recovers off on few)

pub returns-clause-steadied : goal.returns-clause-steadied
returns-clause-steadied g c = λ was on few.
    steadied (watched_chip c.power_on.new.self) (change_of (watched_chip c.args.bus.now).operation) (frames_behind c.args.bus.now) (frames_behind c.power_on.new.self) (c.power_on.ensures.steadies was on few)
