use Rattle.std.proofs.lemmas.Result.{on_ok_weaker}
use Rattle.chip_watch.specs.Watched.{watched_ahead, watched_chip, watched_fresh, watched_trusts}
use Rattle.test_watched.specs.Logged.{frames_behind, frames_of}
use Rattle.test_watched.proofs.LoggedLaws.{asked_for, none_ahead, unasked}
use Rattle.test_watched.proofs.witness.send_logged.Goals as goal

pub returns-clause-heard : goal.returns-clause-heard
returns-clause-heard g c = on_ok_weaker c.transact.result
    (λ heard few asked. asked_for (watched_trusts c.args.bus.now) (watched_fresh c.args.bus.now) (watched_chip c.args.bus.now) (watched_chip c.transact.new.self) c.args.send.now c.transact.new.recv
    (frames_behind c.args.bus.now) (frames_behind c.transact.new.self) (heard few) asked)
    c.transact.ensures.heard

pub returns-clause-silent : goal.returns-clause-silent
returns-clause-silent g c = on_ok_weaker c.transact.result
    (λ heard few asked. unasked (watched_trusts c.args.bus.now) (watched_fresh c.args.bus.now) (watched_chip c.args.bus.now) (watched_chip c.transact.new.self) c.args.send.now c.transact.new.recv
    (frames_behind c.args.bus.now) (frames_behind c.transact.new.self) (heard few) asked)
    c.transact.ensures.heard

pub returns-clause-sent : goal.returns-clause-sent
returns-clause-sent g c = on_ok_weaker c.transact.result
    (λ sent few asked some. none_ahead (frames_of c.transact.new.self.wire.programmer) (watched_ahead c.transact.new.self) (sent few asked some))
    c.transact.ensures.sent
