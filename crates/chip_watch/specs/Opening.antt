-- What is exchanged with a chip before it is watched. Source: own.
use Rattle.std.specs.Prelude.{◌≡◌, ◌/◌, ◌%◌, List, [], ◌∷◌, length, Option}
use Rattle.chip_model.specs.Chip.{Chip}
use Rattle.chip_model.specs.Exchanges.{Exchange, Exchanged}
use Rattle.chip_watch.specs.Reading.{piece_reads}
use Rattle.chip_watch.specs.Settling.{Rests, register_reads, table_read}
use Rattle.chip_watch.specs.declared.departure.OpenError.{OpenError}
use Rattle.chip_watch.specs.declared.departure.OpenError.TheVariants as refuses

-- in this order: the end of what is in progress was waited for, and the status registers, the SFDP
-- bytes and the whole memory were read, and are the chip's
pub record Opens (c : Chip) (old new : Option (List Exchange)) : Type 0 where
  pub rested : Option (List Exchange)
  pub registered : Option (List Exchange)
  pub tabled : Option (List Exchange)
  pub rests : Rests old rested
  pub registers : Exchanged rested registered (register_reads c)
  pub table : Exchanged registered tabled (table_read c ∷ [])
  pub memory : Exchanged tabled new (piece_reads c.memory 0 (length c.memory / 4096))

-- a chip is refused as restless only where BUSY or WEL is set, and for its scheme of protection
-- only where CMP or WPS is
abbrev pub RefusesAsRead : OpenError → Type 0
RefusesAsRead (refuses.Restless first) = first % 4 ≡ 0 → ⊥
RefusesAsRead (refuses.Scheme second third) = second / 64 % 2 ≡ 0 → third / 4 % 2 ≡ 0 → ⊥
RefusesAsRead _ = Unit {0}
