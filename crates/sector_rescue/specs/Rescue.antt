-- The sectors that the slots of a chip tell, whatever a mount says of it: of each sector what the
-- newest whole slot holds that isn't retired. Bytes count as they are: neither the superblock nor
-- the journals are looked at. Source: own, layouts 1 and 2 (docs/LAYOUT.md).
use Rattle.std.specs.Prelude.{ℕ, zero, suc, ◌+◌, ◌*◌, ◌/◌, ◌%◌, ◌==◌, ◌&&◌, Bool}
use Rattle.std.specs.Prelude.{if◌then◌else◌, nat_lt, is_some, is_none, List, [], ◌∷◌, ◌++◌}
use Rattle.std.specs.Prelude.{length, slice_range, Option, Some, None}
use Rattle.chip_model.specs.Memory.{byte}
use Rattle.chip_model.specs.Geometry.{sector_count}
use Rattle.nor_layout.specs.declared.header.Generation.{Generation}
use Rattle.nor_layout.specs.declared.header.Generation.TheVariants as generations
use Rattle.nor_layout.specs.declared.header.Header.{Header}
use Rattle.nor_layout.specs.declared.header.Header.TheVariants as headers
use Rattle.nor_layout.specs.declared.kind.Kind.{Kind}
use Rattle.nor_layout.specs.declared.layout.Layout.{Layout}
use Rattle.nor_layout.specs.declared.layout.Layout.TheVariants.{Groups, Sectors, Mixed}
use Rattle.nor_layout.specs.Headers.{header_of}
use Rattle.nor_layout.specs.Kinds.{kind_of, is_group}
use Rattle.nor_layout.specs.Superblock.{layout_in, mixed_in}
use Rattle.sector_slots.specs.Sectors.{zeros}
use Rattle.sector_slots.specs.Slots.{data_blocks, slot_count, header_in, is_counted}
use Rattle.sector_slots.specs.Weak.{block_place}
use Rattle.flash_disk.specs.Contents.{joined}
use Rattle.sector_rescue.specs.declared.slot.Said.{Said}
use Rattle.sector_rescue.specs.declared.slot.Said.TheVariants.{Nothing, Doubtful, Holds}
use Rattle.sector_rescue.specs.declared.table.Holders.{Holders}

-- the descriptor of slot s, and its 512 bytes
abbrev pub slot_place : ℕ → ℕ
slot_place s = block_place (s / 7) + 16 + 4 * (s % 7)

abbrev pub payload_place : ℕ → ℕ
payload_place s = block_place (s / 7) + 512 * (s % 7 + 1)

abbrev pub payload : List ℕ → ℕ → List ℕ
payload m s = slice_range m (payload_place s) (payload_place s + 512)

abbrev pub four : List ℕ → ℕ → List ℕ
four m at = byte m at ∷ byte m (at + 1) ∷ byte m (at + 2) ∷ byte m (at + 3) ∷ []

abbrev pub four_erased : List ℕ
four_erased = 255 ∷ 255 ∷ 255 ∷ 255 ∷ []

-- What says the kind of the block that begins at a place: of layout 2 its header isn't looked at,
-- of layout 1 its mark isn't, nor a descriptor.
abbrev pub kind_bytes : Layout → List ℕ → ℕ → List ℕ
kind_bytes Sectors m at = four_erased ++ four m (at + 4)
kind_bytes Groups m at = four m at ++ four_erased
kind_bytes Mixed m at = four m at ++ four m (at + 4)

abbrev pub descriptor_bytes : Layout → List ℕ → ℕ → List ℕ
descriptor_bytes Sectors m at = four m at
descriptor_bytes Groups m at = four_erased
descriptor_bytes Mixed m at = four m at

abbrev pub kind_by : Layout → List ℕ → ℕ → Kind
kind_by layout m c = kind_of (kind_bytes layout m (block_place c))

-- the four bytes that say a slot's state: those of its descriptor, or of its group's header
abbrev pub state_bytes : Layout → List ℕ → ℕ → List ℕ
state_bytes layout m s = if is_group (kind_by layout m (s / 7)) then four m (block_place (s / 7))
    else descriptor_bytes layout m (slot_place s)

abbrev pub header_by : Layout → List ℕ → ℕ → Header
header_by layout m s = header_in (kind_by layout m (s / 7))
    (header_of (descriptor_bytes layout m (slot_place s))) (s % 7)

-- What a slot with this header says, whose state is this byte, on a chip of so many sectors. What
-- is neither free nor retired, and no whole slot of one of them, is doubtful: it can't be read, or
-- its write was begun and not committed.
abbrev pub said_of : Header → ℕ → ℕ → Said
said_of headers.Free state count = Nothing
said_of (headers.Live tag) state count = if nat_lt tag.number count then Holds tag else Doubtful
said_of headers.NoGeneration state count = Doubtful
said_of headers.Dead state count = if state == 248 then Nothing else Doubtful

-- what slot s says, where its block counts
unfoldable pub said_at : Layout → List ℕ → ℕ → Said
said_at layout m s = if is_counted (kind_by layout m) (data_blocks m) (s / 7)
    then said_of (header_by layout m s) (byte (state_bytes layout m s) 0) (sector_count (length m))
    else Nothing

-- Of a sector the first whole slot of each generation.
abbrev pub none_held : Holders
none_held = record { zero = None; one = None; two = None; three = None }

abbrev pub first_held : Option ℕ → ℕ → Option ℕ
first_held None s = Some s
first_held (Some t) s = Some t

abbrev pub with_holder : Generation → ℕ → Holders → Holders
with_holder generations.Zero s h = record h { zero = first_held h.zero s }
with_holder generations.One s h = record h { one = first_held h.one s }
with_holder generations.Two s h = record h { two = first_held h.two s }
with_holder generations.Three s h = record h { three = first_held h.three s }

abbrev pub with_said : Said → ℕ → ℕ → Holders → Holders
with_said Nothing s g h = h
with_said Doubtful s g h = h
with_said (Holds tag) s g h = if tag.number == g then with_holder tag.generation s h else h

-- those of sector g among the slots below n, which say this
unfoldable pub holders : (ℕ → Said) → ℕ → ℕ → Holders
holders said zero g = none_held
holders said (suc s) g = with_said (said s) s g (holders said s g)

-- The newest is the one of which no slot has the next generation; where all four are there, nothing
-- tells which it is.
abbrev pub is_last : Option ℕ → Option ℕ → Bool
is_last held next = is_some held && is_none next

abbrev pub newest_of : Holders → Option ℕ
newest_of h =
    if is_last h.zero h.one then h.zero else
    if is_last h.one h.two then h.one else
    if is_last h.two h.three then h.two else
    if is_last h.three h.zero then h.three else
    h.zero

abbrev pub given_slot : Layout → List ℕ → ℕ → Option ℕ
given_slot layout m g = newest_of (holders (said_at layout m) (slot_count m) g)

-- what is given of sector g: that slot's bytes, or zeros where there is none
abbrev pub payload_or : List ℕ → Option ℕ → List ℕ
payload_or m None = zeros
payload_or m (Some s) = payload m s

abbrev pub rescued_at : Layout → List ℕ → ℕ → List ℕ
rescued_at layout m g = payload_or m (given_slot layout m g)

-- The layout by which a chip's blocks are read: byte 8 says layout 1, and byte 15 that it is mixed,
-- also where it is damaged; else it is 2.
abbrev pub layout_told : List ℕ → Layout
layout_told m = if layout_in m == 1 then (if mixed_in m == 255 then Groups else Mixed) else Sectors

-- all sectors, one after the other
abbrev pub rescued : List ℕ → List ℕ
rescued m = joined (rescued_at (layout_told m) m) (sector_count (length m))
