-- Whether a chip whose departures are noted is believed its changes. Source: own.
use Rattle.std.specs.Prelude.{Bool}
use Rattle.chip_watch.specs.Watched.{watched_trusts}
use Rattle.norbd_chip.specs.declared.noting.Noting.{Noting}

abbrev pub noting_trusts : {P : Type 0} → Noting P → Bool
noting_trusts n = watched_trusts n.bus
