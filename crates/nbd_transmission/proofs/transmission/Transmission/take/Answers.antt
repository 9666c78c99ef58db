use Rattle.std.proofs.Common.{◌≡◌, take, cond, ap, sym, ◌∙◌, refl}
use Rattle.nbd_wire.specs.declared.phase.Phase.TheVariants.{Transmitting, Closed}
use Rattle.nbd_wire.specs.Parser.{ParserState}
use Rattle.nbd_transmission.proofs.Steps.{answers_from_step, stands_from_step, payload_fits}
use Rattle.nbd_transmission.proofs.transmission.Transmission.take.Goals as goal

pub returns-clause-answer : goal.returns-clause-answer
returns-clause-answer c start text is_open represents =
    answers_from_step start c.args.self.now c.advance.new.self text (take c.advance.result.used c.args.bytes.now) c.advance.result.next is_open represents c.advance.ensures.step

pub returns-clause-room : goal.returns-clause-room
returns-clause-room c rest is_open keeps =
    payload_fits c.args.self.now c.advance.new.self _ c.advance.result.next is_open (c.advance.ensures.step rest keeps)

pub returns-clause-represents : goal.returns-clause-represents
returns-clause-represents c start text represents =
    let open_inside : cond c.self.inside.is_closed Closed Transmitting ≡ Transmitting = rw c.if-self.false refl in
    let is_open : c.args.self.now.phase ≡ Transmitting = ap (λ (h : ParserState). h.phase) (sym c.self.view_is) ∙ open_inside in
    stands_from_step start c.args.self.now c.advance.new.self text (take c.advance.result.used c.args.bytes.now) c.advance.result.next is_open represents c.advance.ensures.step
