use Rattle.std.proofs.Common.{None, refl}
use Rattle.nbd_session.specs.contracts.session.Session.{the_view}
use Rattle.nbd_session.proofs.Lends.{stands_beside}
use Rattle.nbd_session.proofs.session.Session.take.Goals as goal

pub returns-in-Requesting-clause-says : goal.returns-in-Requesting-clause-says
returns-in-Requesting-clause-says c start text is_open h =
    let old = the_view c.self.inside in
    let stood = rw (← c.self.view_is) at h in
    rw (← c.self.view_is) (c.transmit.ensures.says start text (stands_beside start old text old.bytes None 0 refl stood))
