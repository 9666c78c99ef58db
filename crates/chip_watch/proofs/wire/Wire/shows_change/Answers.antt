use Rattle.chip_watch.proofs.wire.Wire.shows_change.Goals as goal

pub returns-in-Page-clause-shown : goal.returns-in-Page-clause-shown
returns-in-Page-clause-shown g c = rw c.in-Page.is c.shows.ensures.shown
