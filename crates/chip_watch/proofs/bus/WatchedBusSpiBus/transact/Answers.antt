use Rattle.std.proofs.Common.{◌≡◌, ◌∙◌, ℕ, ◌+◌, true, false, ap, sym}
use Rattle.chip_model.specs.Frames.{Command, command_of}
use Rattle.chip_watch.specs.Asking.{is_put_to_chip}
use Rattle.chip_watch.specs.Told.{frames_told}
use Rattle.chip_watch.proofs.BusLaws.{asked_for, unasked}
use Rattle.chip_model.specs.Cut.{falls, after_it}
use Rattle.chip_watch.specs.Watched.{shadow_chip, watched_chip}
use Rattle.chip_watch.proofs.SimulatorLaws.{interrupted_by}
use Rattle.chip_watch.specs.Told.{frames_told}
use Rattle.chip_watch.proofs.bus.WatchedBusSpiBus.transact.Goals as goal

pub returns-clause-lost : goal.returns-clause-lost
returns-clause-lost g c =
    let e = c.exchange.ensures in
    falls c.if-not-self.false (after_it (watched_chip c.exchange.new.self) c.exchange.new.recv e.frame c.turn_off.ensures.cut) (ap (λ (n : ℕ). n + 1) e.cuts)

pub returns-clause-pending : goal.returns-clause-pending
returns-clause-pending g c = λ on.
    interrupted_by (watched_chip c.args.self.now) (watched_chip c.exchange.new.self) c.args.send.now c.exchange.new.recv c.args.self.now.shadow.change c.interrupted-self.result
    c.args.self.now.shadow.goes c.exchange.ensures.frame c.interrupted-self.ensures.before c.interrupted-self.ensures.after

pub returns-in-Ok-clause-heard : goal.returns-in-Ok-clause-heard
returns-in-Ok-clause-heard g c = λ few.
    let log = g.P.Programmer.exchanged in
    let s = c.args.self.now in
    let asked : is_put_to_chip s.fresh (watched_chip s) (command_of c.args.send.now) ≡ true =
    ap (λ (k : Command). is_put_to_chip s.fresh (watched_chip s) k) (sym c.decode-instruction.ensures.command) ∙ (sym c.asks-asks.ensures ∙ c.if-not-asks.false) in
    asked_for s.trusts s.fresh (watched_chip s) (watched_chip c.exchange.new.self) c.args.send.now c.exchange.new.recv (frames_told log s.wire) (frames_told log c.exchange.new.self.wire) asked c.in-Ok.ensures.heard

pub returns-then-not-asks-clause-heard : goal.returns-then-not-asks-clause-heard
returns-then-not-asks-clause-heard g c = λ few.
    let log = g.P.Programmer.exchanged in
    let s = c.args.self.now in
    let silent : is_put_to_chip s.fresh (watched_chip s) (command_of c.args.send.now) ≡ false =
    ap (λ (k : Command). is_put_to_chip s.fresh (watched_chip s) k) (sym c.decode-instruction.ensures.command) ∙ (sym c.asks-asks.ensures ∙ c.if-not-asks.true) in
    unasked s.trusts s.fresh (watched_chip s) (shadow_chip c.follow.new.self) c.args.send.now c.follow.new.recv (frames_told log s.wire) silent
