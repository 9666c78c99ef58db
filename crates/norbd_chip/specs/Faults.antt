-- Which fault of a chip behind a programmer comes of the line alone. Source: own.
use Rattle.std.specs.Prelude.{Bool, false, true}
use Rattle.norbd_chip.specs.declared.fault.ChipFault.{ChipFault}
use Rattle.norbd_chip.specs.declared.fault.ChipFault.TheVariants.{Failed}
use Rattle.norbd_line.specs.declared.cause.ChipCause.TheVariants.{Unsure, UnsureUnprotect}

-- the chip would be erased, or its protection ended, and that it may be wasn't said
abbrev pub is_unsure : ChipFault → Bool
is_unsure (Failed Unsure) = true
is_unsure (Failed UnsureUnprotect) = true
is_unsure _ = false
