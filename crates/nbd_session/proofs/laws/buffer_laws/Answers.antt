use Rattle.std.proofs.Common.{ap, sym, ◌∙◌, Option}
use Rattle.nbd_wire.specs.declared.command.Command.{Command}
use Rattle.nbd_session.specs.Lent.{lent_now}
use Rattle.nbd_session.proofs.Lends.{given_nothing, room_given, stands_given}
use Rattle.nbd_session.proofs.laws.buffer_laws.Goals as goal

pub returns-clause-running : goal.returns-clause-running
returns-clause-running c export command line bytes runs = record {
  room = room_given line bytes (runs.room ∙ sym (ap (λ (o : Option Command). lent_now o) runs.running));
  represents = λ start text h. stands_given start line text bytes runs.filled h;
}

pub returns-clause-idle : goal.returns-clause-idle
returns-clause-idle c = given_nothing
