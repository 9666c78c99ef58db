-- What was written into a sector is read from it later. Source: own.
use Rattle.std.specs.Prelude.{◌≡◌, ◌≢◌, ◌⊎◌, ℕ, ◌+◌, ◌<◌, ◌≤◌, true, List, [], ◌∷◌, ◌++◌}
use Rattle.block_device.specs.declared.disk.DiskError.TheVariants.{Cut, Slow}
use Rattle.block_device.specs.Facts.{Facts}
use Rattle.flash_host.specs.declared.request.Request.{Request}
use Rattle.flash_host.specs.declared.request.Request.TheVariants.{Sectors, Read, Write, Zero}
use Rattle.flash_host.specs.declared.request.Request.TheVariants.{Flush, Tidy, Restore}
use Rattle.flash_host.specs.declared.request.Answer.{Answer}
use Rattle.flash_host.specs.declared.request.Answer.TheVariants.{Counted, Done, Idle, Refused}
use Rattle.flash_host.specs.declared.request.Answer.TheVariants.{Failed}
use Rattle.flash_host.specs.Exchanges.{HostExchange, AnswersEach}

-- a request that writes no byte of this sector
abbrev pub SparesSector : ℕ → Request → Type 0
SparesSector s Sectors = Unit {0}
SparesSector s (Read t) = Unit {0}
SparesSector s (Write t) = t ≢ s
SparesSector s (Zero first count) = (s < first) ⊎ (first + count ≤ s)
SparesSector s Flush = Unit {0}
SparesSector s Tidy = Unit {0}
SparesSector s Restore = Unit {0}

-- an answer but that an operation of the chip didn't end
abbrev pub IsNotSlow : Answer → Type 0
IsNotSlow (Counted n) = Unit {0}
IsNotSlow Done = Unit {0}
IsNotSlow Idle = Unit {0}
IsNotSlow Refused = Unit {0}
IsNotSlow (Failed Cut) = Unit {0}
IsNotSlow (Failed Slow) = ⊥

-- None of these writes a byte of this sector, and no operation was slow. The power may have been
-- lost in any of them.
abbrev pub SparesEach : ℕ → List HostExchange → Type 0
SparesEach s [] = Unit {0}
SparesEach s (one ∷ more) =
    SparesSector s one.request × IsNotSlow one.answer × SparesEach s more

-- A Read that is done gives what a Write that was done before was given.
abbrev pub IsReadBack : Type 0
IsReadBack = (old new : Facts) (s : ℕ) (written read : HostExchange) (between : List HostExchange)
    → old.sound ≡ true → written.request ≡ Write s → written.answer ≡ Done
    → read.request ≡ Read s → read.answer ≡ Done → SparesEach s between
    → AnswersEach old (written ∷ between ++ read ∷ []) new → read.bytes ≡ written.given
