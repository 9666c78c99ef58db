use Rattle.std.proofs.Common.{take}
use Rattle.nbd_handshake.specs.Negotiating.{IsNegotiation}
use Rattle.nbd_handshake.proofs.Steps.{answers_from_step, stands_from_step}
use Rattle.nbd_handshake.proofs.handshake.Handshake.take.Goals as goal

pub returns-clause-answer : goal.returns-clause-answer
returns-clause-answer c start text negotiation represents =
    answers_from_step start c.args.self.now c.advance.new.self text (take c.advance.result.used c.args.bytes.now) c.advance.result.next (take c.advance.result.reply c.advance.new.reply) c.advance.result.unknown negotiation represents c.advance.ensures.step

pub returns-clause-represents : goal.returns-clause-represents
returns-clause-represents c start text represents =
    let inside : IsNegotiation c.self.inside.phase = c.in-Some.ensures.1 in
    let negotiation : IsNegotiation c.args.self.now.phase = rw (← c.self.view_is) inside in
    stands_from_step start c.args.self.now c.advance.new.self text (take c.advance.result.used c.args.bytes.now) c.advance.result.next (take c.advance.result.reply c.advance.new.reply) c.advance.result.unknown negotiation represents c.advance.ensures.step
