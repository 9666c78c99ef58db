-- The frames that a programmer has kept, and what opening a watched chip, a frame to it and turning
-- its power on add to them. Source: own, over the definitions of `chip_watch`, of which these say
-- what `Opens`, `Heard`, `Steadies` and `Resumes` say, as equations of lists.
use Rattle.std.specs.Prelude.{◌≡◌, ℕ, zero, suc, ◌*◌, ◌/◌, true, List, [], ◌∷◌, ◌++◌, length, map}
use Rattle.chip_model.specs.Chip.{Chip}
use Rattle.chip_model.specs.Exchanges.{Exchange}
use Rattle.chip_watch.specs.Changes.{with_place}
use Rattle.chip_watch.specs.Reading.{Agrees, change_reads, piece_reads}
use Rattle.chip_watch.specs.Settling.{are_waits, frame_of, register_reads, sent_alone, table_read}
use Rattle.chip_watch.specs.Watched.{watched_ahead}
use Rattle.chip_watch.specs.declared.bus.WatchedBus.{WatchedBus}
use Rattle.chip_watch.specs.declared.change.Change.{Change}
use Rattle.chip_watch.specs.declared.change.Change.TheVariants as makes
use Rattle.test_watched.specs.declared.logged.LoggedFrame.{LoggedFrame}
use Rattle.test_watched.specs.declared.logged.LoggedProgrammer.{LoggedProgrammer}

abbrev pub exchange_of : LoggedFrame → Exchange
exchange_of f = record { sent = f.sent.items; received = f.received.items }

-- the frames that a programmer has kept, the oldest first
abbrev pub frames_of : {P : Type 0} → LoggedProgrammer P → List Exchange
frames_of p = map exchange_of p.frames.items

-- these, and then those that a watched chip was told and the programmer wasn't given yet
abbrev pub frames_behind : {P : Type 0} → WatchedBus (LoggedProgrammer P) → List Exchange
frames_behind b = frames_of b.wire.programmer ++ watched_ahead b

-- these are all frames: only the end of what was in progress was waited for, and then the
-- registers, the SFDP bytes and the whole memory were read and are this chip's
pub record AreOpening (c : Chip) (frames : List Exchange) : Type 0 where
  pub waits : List Exchange
  pub rests : are_waits waits ≡ true
  pub read : frames ≡ waits ++ (register_reads c
      ++ (table_read c ∷ piece_reads c.memory 0 (length c.memory / 4096)))

-- these frames more: only the end of what was in progress was waited for, and then what the change
-- wrote and the registers were read and are this chip's
pub record Steadied (c : Chip) (change : Change) (old new : List Exchange) : Type 0 where
  pub waits : List Exchange
  pub rests : are_waits waits ≡ true
  pub read : new ≡ old ++ (waits ++ (change_reads change c.memory ++ register_reads c))

-- READs of the first n pieces of 4 KiB, each answered by this memory, but for the places that a
-- change writes
abbrev pub AreCompared : List ℕ → Change → ℕ → List Exchange → Type 0
AreCompared m change zero reads = reads ≡ []
AreCompared m change (suc n) reads = (before : List Exchange) × (received : List ℕ)
    × AreCompared m change n before
    × (reads ≡ before ++ (record { sent = with_place 3 (4096 * n); received = received } ∷ []))
    × (length received ≡ 4096) × Agrees m change (4096 * n) received

-- a change was made by these frames: write enable, its own frame, and waits for its end
abbrev pub AreMaking : Change → List ℕ → List Exchange → Type 0
AreMaking makes.None m frames = frames ≡ []
AreMaking change m frames = (waits : List Exchange) × (are_waits waits ≡ true)
    × (frames ≡ sent_alone (6 ∷ []) ∷ sent_alone (frame_of change m) ∷ waits)

-- these frames more: the end of what was in progress was waited for, the SFDP bytes and the whole
-- memory were read and are this chip's but for the places of the change, that was made again, and
-- what it wrote and the registers were read and are this chip's
pub record Resumed (c : Chip) (change : Change) (old new : List Exchange) : Type 0 where
  pub waits : List Exchange
  pub compared : List Exchange
  pub made : List Exchange
  pub rests : are_waits waits ≡ true
  pub memory : AreCompared c.memory change (length c.memory / 4096) compared
  pub again : AreMaking change c.memory made
  pub all : new ≡ old ++ (waits ++ (table_read c ∷ (compared ++ (made
      ++ (change_reads change c.memory ++ register_reads c)))))
