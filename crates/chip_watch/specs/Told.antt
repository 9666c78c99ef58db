-- The frames that a chip was told: those that were exchanged, and then those that were accepted and
-- not sent yet. Source: own.
use Rattle.std.specs.Prelude.{List, ◌++◌, Option, None, Some}
use Rattle.chip_model.specs.Exchanges.{Exchange, turned}
use Rattle.chip_watch.specs.declared.wire.Wire.{Wire}

-- where it is known which frames were exchanged, these and then some more
abbrev pub and_then : Option (List Exchange) → List Exchange → Option (List Exchange)
and_then None more = None
and_then (Some log) more = Some (log ++ more)

-- a frame that is ahead counts as one that received nothing
abbrev pub frames_told : {P : Type 0} → (P → Option (List Exchange)) → Wire P
    → Option (List Exchange)
frames_told exchanged w = and_then (exchanged w.programmer) (turned w.ahead.items)
