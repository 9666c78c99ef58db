-- READs of a chip, and what they show. Source: own; the frame is that of the datasheet of the
-- W25Q128JV, "Read Data (03h)".
use Rattle.std.specs.Prelude.{◌≡◌, ℕ, zero, suc, ◌+◌, ◌*◌, ◌/◌, ◌<◌, false, List, [], ◌∷◌, ◌++◌}
use Rattle.std.specs.Prelude.{length, take, drop, Option, None, Some}
use Rattle.chip_model.specs.Memory.{byte}
use Rattle.chip_model.specs.Exchanges.{Exchange, Exchanged}
use Rattle.chip_model.specs.declared.programmer.Turn.{Turn}
use Rattle.chip_watch.specs.Changes.{with_place, is_changing}
use Rattle.chip_watch.specs.declared.change.Change.{Change}
use Rattle.chip_watch.specs.declared.change.Change.TheVariants as makes

-- a READ of so many bytes from a place on, answered by this memory
abbrev pub read_of : List ℕ → ℕ → ℕ → Exchange
read_of m at size = record { sent = with_place 3 at; received = take size (drop at m) }

-- READs of n pieces of 4 KiB that follow one another, answered by this memory
abbrev pub piece_reads : List ℕ → ℕ → ℕ → List Exchange
piece_reads m at zero = []
piece_reads m at (suc n) = piece_reads m at n ++ (read_of m (at + 4096 * n) 4096 ∷ [])

-- these turns are READs of pieces of 4 KiB that follow one another, from the n-th on
abbrev pub ArePieces : ℕ → List Turn → Type 0
ArePieces n [] = Unit {0}
ArePieces n (t ∷ ts) = (t.send.items ≡ with_place 3 (4096 * n)) × (length t.recv.items ≡ 4096)
    × ArePieces (suc n) ts

-- all bytes that turns received
abbrev pub received_of : List Turn → List ℕ
received_of [] = []
received_of (t ∷ ts) = t.recv.items ++ received_of ts

-- READs of all places that a change writes, answered by this memory
abbrev pub change_reads : Change → List ℕ → List Exchange
change_reads makes.None m = []
change_reads (makes.Page at) m = read_of m at 256 ∷ []
change_reads (makes.Unit at size) m = piece_reads m at (size / 4096)
change_reads (makes.Status value) m = []

-- the READ of a page that goes along with a frame, if one does, and these bytes are its answer
abbrev pub reads_along : Option ℕ → List ℕ → List Exchange
reads_along None bytes = []
reads_along (Some at) bytes = record { sent = with_place 3 at; received = bytes } ∷ []

-- what was received from a place on is what this memory has there, but for the places that a change
-- writes
abbrev pub Agrees : List ℕ → Change → ℕ → List ℕ → Type 0
Agrees m change at received = (k : ℕ) → k < length received → is_changing change (at + k) ≡ false
    → byte received k ≡ byte m (at + k)

-- the first n pieces of 4 KiB were each read, and what was received agrees so
abbrev pub Compared : List ℕ → Change → ℕ → Option (List Exchange) → Option (List Exchange) → Type 0
Compared m change zero old new = new ≡ old
Compared m change (suc n) old new = (mid : Option (List Exchange)) × (received : List ℕ)
    × Compared m change n old mid
    × Exchanged mid new (record { sent = with_place 3 (4096 * n); received = received } ∷ [])
    × (length received ≡ 4096) × Agrees m change (4096 * n) received
