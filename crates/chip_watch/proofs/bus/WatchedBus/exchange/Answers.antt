use Rattle.std.proofs.Common.{◌≡◌, ◌∙◌, ap, sym, length, ℕ, arith}
use Rattle.chip_model.specs.Exchanges.{turned}
use Rattle.chip_model.specs.Frames.{Command, command_of}
use Rattle.chip_watch.specs.Asking.{asked_of}
use Rattle.chip_watch.specs.Told.{frames_told}
use Rattle.spi_frames.specs.Instruction.{instructed}
use Rattle.chip_watch.specs.Watched.{watched_chip, shadow_chip}
use Rattle.chip_watch.proofs.BusLaws.{heard_frame}
use Rattle.chip_watch.proofs.bus.WatchedBus.exchange.Goals as goal

pub returns-clause-heard : goal.returns-clause-heard
returns-clause-heard g c =
    let log = g.P.Programmer.exchanged in
    let s = c.args.self.now in
    let kept : length c.args.recv.now ≡ length c.follow.new.recv = sym c.follow.auto.recv in
    heard_frame c.along-along.result s.trusts (watched_chip s) (shadow_chip c.follow.new.self)
    (frames_told log s.wire) (frames_told log c.hear_along-answered.new.self) (frames_told log c.has_written.new.self)
    c.args.send.now c.follow.new.recv c.hear_along-answered.new.self.heard.items c.hear_along-answered.new.self.page.items c.memory.result.now
    c.read_back-before.result c.ended-ended.result c.asked-count.result (instructed c.args.instruction.now)
    c.read_back-before.ensures
    (c.asked-count.ensures ∙ ap (λ (n : ℕ). asked_of (instructed c.args.instruction.now) n) kept)
    c.requires.decoded c.in_ok-judge.ensures c.memory.ensures c.ended-ended.ensures c.follow.ensures.frame c.along-along.ensures
    (c.hear_along-answered.ensures.grows c.if-not-answered.false) c.in_ok-has_written.ensures.shown c.in_ok-has_written.ensures.along

pub returns-clause-sent : goal.returns-clause-sent
returns-clause-sent g c = λ some.
    let kept : length c.args.recv.now ≡ length c.follow.new.recv = sym c.follow.auto.recv in
    let n : c.asked-count.result ≡ asked_of (command_of c.args.send.now) (length c.follow.new.recv) =
    c.asked-count.ensures ∙ (ap (λ (k : ℕ). asked_of (instructed c.args.instruction.now) k) kept ∙ ap (λ (k : Command). asked_of k (length c.follow.new.recv)) c.requires.decoded) in
    ap turned (c.in_ok-has_written.ensures.sent (c.hear_along-answered.ensures.sent c.if-not-answered.false (omega (arith, some, n))))
