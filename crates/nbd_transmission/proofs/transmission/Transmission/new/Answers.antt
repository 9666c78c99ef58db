use Rattle.std.proofs.Common.{[], refl}
use Rattle.nbd_transmission.proofs.transmission.Transmission.new.Goals as goal

pub returns-clause-represents : goal.returns-clause-represents
returns-clause-represents c start text units split = record { units = units; rest = []; split = split; keeps = λ _. record { kept = refl; count = refl } }
