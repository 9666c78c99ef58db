-- What is exchanged with a chip before its power counts as on. Source: own; the frames are those of
-- the datasheet of the W25Q128JV.
use Rattle.std.specs.Prelude.{◌≡◌, ℕ, ◌/◌, Bool, false, true, ◌&&◌, List, [], ◌∷◌, ◌++◌, length}
use Rattle.std.specs.Prelude.{take, drop, Option, if◌then◌else◌, ◌==◌}
use Rattle.chip_model.specs.Chip.{Chip}
use Rattle.chip_model.specs.Frames.{Command, Disable, Status1, command_of, status_1}
use Rattle.chip_model.specs.Exchanges.{Exchange, Exchanged}
use Rattle.chip_watch.specs.Changes.{with_place}
use Rattle.chip_watch.specs.Reading.{Compared, change_reads}
use Rattle.chip_watch.specs.declared.change.Change.{Change}
use Rattle.chip_watch.specs.declared.change.Change.TheVariants as makes

-- the frame changes nothing but WEL, and reads no memory
abbrev pub is_wait : Command → Bool
is_wait Status1 = true
is_wait Disable = true
is_wait _ = false

abbrev pub are_waits : List Exchange → Bool
are_waits [] = true
are_waits (e ∷ es) = is_wait (command_of e.sent) && are_waits es

-- only the end of an operation is waited for
abbrev pub Rests : Option (List Exchange) → Option (List Exchange) → Type 0
Rests old new = (waits : List Exchange) × (are_waits waits ≡ true) × Exchanged old new waits

-- nothing was received
abbrev pub sent_alone : List ℕ → Exchange
sent_alone sent = record { sent = sent; received = [] }

-- the frame that makes a change whose outcome is in this memory
abbrev pub frame_of : Change → List ℕ → List ℕ
frame_of makes.None m = []
frame_of (makes.Page at) m = with_place 2 at ++ take 256 (drop at m)
frame_of (makes.Unit at size) m = with_place (if size == 4096 then 32 else 216) at
frame_of (makes.Status value) m = 1 ∷ value ∷ []

-- the change is made on the chip: write enable, its frame, and then its end is waited for
abbrev pub Makes : Change → List ℕ → Option (List Exchange) → Option (List Exchange) → Type 0
Makes makes.None m old new = new ≡ old
Makes change m old new = (mid : Option (List Exchange))
    × Exchanged old mid (sent_alone (6 ∷ []) ∷ sent_alone (frame_of change m) ∷ []) × Rests mid new

-- the three status registers were read and are this chip's
abbrev pub register_reads : Chip → List Exchange
register_reads c =
    record { sent = 5 ∷ []; received = status_1 c ∷ [] }
    ∷ record { sent = 53 ∷ []; received = c.status2 ∷ [] }
    ∷ record { sent = 21 ∷ []; received = c.status3 ∷ [] } ∷ []

-- the SFDP bytes were read and are this chip's
abbrev pub table_read : Chip → Exchange
table_read c = record { sent = with_place 90 0 ++ (0 ∷ []); received = c.sfdp }

-- After a loss, in this order: the end of what is in progress was waited for; the SFDP bytes and
-- each place of the memory were read and are the chip's, but for the places of the change that the
-- loss interrupted; that change was made again; its places were read and are the chip's, and so are
-- the registers.
pub record Resumes (c : Chip) (change : Change) (old new : Option (List Exchange)) : Type 0 where
  pub rested : Option (List Exchange)
  pub tabled : Option (List Exchange)
  pub compared : Option (List Exchange)
  pub made : Option (List Exchange)
  pub shown : Option (List Exchange)
  pub rests : Rests old rested
  pub table : Exchanged rested tabled (table_read c ∷ [])
  pub memory : Compared c.memory change (length c.memory / 4096) tabled compared
  pub again : Makes change c.memory compared made
  pub shows : Exchanged made shown (change_reads change c.memory)
  pub registers : Exchanged shown new (register_reads c)

-- Without a loss, in this order: the end of what is in progress was waited for; the places that it
-- changes were read and are the chip's, and so are the registers.
pub record Steadies (c : Chip) (change : Change) (old new : Option (List Exchange)) : Type 0 where
  pub rested : Option (List Exchange)
  pub shown : Option (List Exchange)
  pub rests : Rests old rested
  pub shows : Exchanged rested shown (change_reads change c.memory)
  pub registers : Exchanged shown new (register_reads c)
