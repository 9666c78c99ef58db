-- What the kinds of the blocks say of a copying, as they are read one by one. Source: own.
use Rattle.std.specs.Prelude.{◌≡◌, ◌≢◌, ℕ, ◌+◌, ◌-◌, ◌<◌, ◌==◌, ◌&&◌, Bool, true, false, not, List}
use Rattle.std.specs.Prelude.{Option, Some, None, if◌then◌else◌, nat_le}
use Rattle.nor_layout.specs.declared.kind.Kind.{Kind}
use Rattle.nor_layout.specs.declared.kind.Kind.TheVariants as kinds
use Rattle.sector_slots.specs.Slots.{is_group, is_void, data_blocks, kind_at}
use Rattle.sector_slots.specs.Blocks.{IsAtRest, IsUncommitted, AreSettled}
use Rattle.sector_slots.specs.Blocks.{HasGroupRoom}
use Rattle.sector_map.specs.declared.found.Found.{Found}
use Rattle.sector_map.specs.declared.found.Found.TheVariants.{AtRest, Void, Committed}

-- of n data blocks the first k: no copying goes on in them; or some were cut before their commit,
-- the first of them into block t; or one is committed, and others may be void
pub record RestBelow (kind : ℕ → Kind) (k : ℕ) : Type 0 where
  pub rest : (d : ℕ) → d < k → IsAtRest (kind d)

pub record VoidBelow (t : ℕ) (kind : ℕ → Kind) (k : ℕ) : Type 0 where
  pub number : t < k
  pub void : kind t ≡ kinds.Void
  pub others : (d : ℕ) → d < k → IsUncommitted (kind d)

pub record CommittedBelow (s t : ℕ) (kind : ℕ → Kind) (k n : ℕ) : Type 0 where
  pub number : t < k
  pub committed : kind t ≡ kinds.Committed (s + 4)
  pub source : s < n
  pub other : s ≢ t
  pub others : (d : ℕ) → d < k → d ≢ t → IsUncommitted (kind d)

abbrev pub FoundBelow : Found → (ℕ → Kind) → ℕ → ℕ → Type 0
FoundBelow AtRest kind k n = RestBelow kind k
FoundBelow (Void t) kind k n = VoidBelow t kind k
FoundBelow (Committed s t) kind k n = CommittedBelow s t kind k n

-- What is found once one more block is void.
abbrev pub noted_void : Found → ℕ → Found
noted_void AtRest block = Void block
noted_void (Void t) block = Void t
noted_void (Committed s t) block = Committed s t

-- And once one more is committed, whose mark names block b of the chip; None where one was before,
-- or b is no other data block.
abbrev pub noted_source : ℕ → ℕ → ℕ → Option Found
noted_source block b n = if nat_le 4 b && nat_le b (n + 3) && not (b == block + 4)
    then Some (Committed (b - 4) block) else None

abbrev pub noted_copy : Found → ℕ → ℕ → ℕ → Option Found
noted_copy AtRest block b n = noted_source block b n
noted_copy (Void t) block b n = noted_source block b n
noted_copy (Committed s t) block b n = None

-- What is found once one more block is read; None where the blocks are corrupt. A block of a group
-- is at rest.
abbrev pub noted_kind : Found → ℕ → Kind → ℕ → Option Found
noted_kind found block kinds.Plain n = Some found
noted_kind found block kinds.Void n = Some (noted_void found block)
noted_kind found block (kinds.Committed b) n = noted_copy found block b n
noted_kind found block kinds.Settled n = Some found
noted_kind found block (kinds.Group group) n = Some found
noted_kind found block kinds.DeadGroup n = Some found
noted_kind found block kinds.SpoiltGroup n = Some found
noted_kind found block kinds.Unknown n = None

-- the same where blocks of groups may be, or may not
abbrev pub noted_where : Bool → Found → ℕ → Kind → ℕ → Option Found
noted_where groups found block kind n =
    if is_group kind && not groups then None else noted_kind found block kind n

-- the blocks of a memory
abbrev pub FoundIn : Found → List ℕ → Type 0
FoundIn found m = FoundBelow found (kind_at m) (data_blocks m) (data_blocks m)

-- whether the slots of a block of this kind count
abbrev pub block_counts : Found → Kind → ℕ → Bool
block_counts AtRest kind block = not (is_void kind)
block_counts (Void t) kind block = not (is_void kind)
block_counts (Committed s t) kind block = not (is_void kind) && not (block == s)

-- whether a block is wholly free once a copying that was found is ended
abbrev pub leaves_room : Found → Bool → Bool
leaves_room AtRest spare = spare
leaves_room (Void t) spare = true
leaves_room (Committed s t) spare = true

-- What is known of room: where none goes on, a block is wholly free, or can be made so.
abbrev pub RoomSeen : Found → Bool → List ℕ → Type 0
RoomSeen AtRest true m = AreSettled m
RoomSeen AtRest false m = HasGroupRoom (kind_at m) (data_blocks m)
RoomSeen (Void t) spare m = Unit {0}
RoomSeen (Committed s t) spare m = Unit {0}
