use Rattle.std.proofs.Common.{[], refl, sym, ap, arith}
use Rattle.nbd_wire.specs.Parser.{ParserState}
use Rattle.nbd_wire.proofs.UnitLaws.{partial_nil}
use Rattle.nbd_transmission.proofs.Steps.{payload_short}
use Rattle.nbd_session.proofs.session.Session.requesting.Goals as goal

pub returns : goal.returns
returns c = record {
  export_is = refl;
  is_open = refl;
  reply = refl;
  represents = record {
    parser = record { units = []; rest = []; split = (sym (ap (λ (x : ParserState). x.phase) c.new-transmission.ensures.exact), refl, partial_nil c.new-transmission.result.phase); keeps = λ _. c.new-transmission.ensures.keeps };
    payload = sym (payload_short c.args.export [] (omega arith));
  };
}
