-- The headline from a chip of layout 1, in the words of that layout alone: its blocks, each free,
-- dead, or live with a group of seven sectors. Source: own, layout 1.
use Rattle.std.specs.Prelude.{◌≡◌, ◌≢◌, ℕ, ◌+◌, ◌*◌, ◌<◌, true, List, length, Err}
use Rattle.chip_model.specs.Chip.{Chip, IsChip, is_idle}
use Rattle.chip_model.specs.Geometry.{group_count}
use Rattle.nor_driver.specs.Probe.{IsAcceptedChip}
use Rattle.nor_layout.specs.Headers.{next_generation}
use Rattle.nor_layout.specs.declared.header.Tag.{Tag}
use Rattle.sector_slots.specs.Slots.{content_bytes, data_block}
use Rattle.sector_slots.specs.Sectors.{zeros}
use Rattle.sector_slots.specs.Groups.{IsLiveWith}
use Rattle.sector_map.specs.Laws.{IsGroupChip}
use Rattle.block_device.specs.Contents.{sector}
use Rattle.flash_disk.specs.Contents.{contents_of}
use Rattle.norbd_script.specs.declared.error.RunFault.TheVariants.{NotClean}
use Rattle.norbd_script.specs.Lives.{OnBus, Stay, RunsMounted, StaySays, StaysHealthy, as_seen}
use Rattle.norbd_script.specs.Lives.{seen_with, MountedRun, AllRunMounted, Lives}

-- A healthy and clean chip of layout 1: nothing is in progress, it passes the checks of a probe,
-- and its memory is that of a chip of layout 1.
pub record IsHealthyGroupChip (c : Chip) : Type 0 where
  pub idle : is_idle c.operation ≡ true
  pub accepted : IsAcceptedChip c
  pub groups : IsGroupChip c.memory

-- What sector i of group g is: zeros where no block is live with the group, else what its newest
-- live block has there, the one whose generation is the next of every other one's.
pub data GroupSectorIs (m : List ℕ) (g i : ℕ) (x : List ℕ) : Type 0 where
  in_none : ((c : ℕ) (tag : Tag) → IsLiveWith m c tag → tag.number ≢ g) → x ≡ zeros
      → GroupSectorIs m g i x
  in_newest : (c : ℕ) (tag : Tag) → IsLiveWith m c tag → tag.number ≡ g
      → ((d : ℕ) (other : Tag) → IsLiveWith m d other → other.number ≡ g → d ≢ c
      → tag.generation ≡ next_generation other.generation)
      → x ≡ content_bytes (data_block m c) i → GroupSectorIs m g i x

-- The array that its groups are: sector 7g + i is sector i of group g.
pub record IsArrayOfGroups (m array : List ℕ) : Type 0 where
  pub size : length array ≡ 512 * (7 * group_count (length m))
  pub each : (g i : ℕ) → g < group_count (length m) → i < 7
      → GroupSectorIs m g i (sector array (7 * g + i))

-- Such a chip holds this array, the one that its groups are, and no other. What a call of
-- `run_steady` wrote is a transcript from it, and none is refused as unclean; a life begins from
-- it.
pub record IsServedFrom (c : Chip) (array : List ℕ) : Type 0 where
  pub groups : IsArrayOfGroups c.memory array
  pub only : (other : List ℕ) → IsArrayOfGroups c.memory other → other ≡ array
  pub says : (old new : OnBus) (stay : Stay) → old.chip ≡ c → RunsMounted old stay new
      → StaySays (seen_with (7 * group_count (length c.memory)) array old) stay (as_seen new)
  pub clean : (old new : OnBus) (stay : Stay) → old.chip ≡ c → RunsMounted old stay new
      → stay.answer ≢ Err NotClean
  pub lives : (c' : Chip) (runs : List MountedRun) → AllRunMounted c runs c'
      → Lives (7 * group_count (length c.memory)) array runs (contents_of c'.memory)
      × StaysHealthy c c'

-- THE HEADLINE, FROM LAYOUT 1.
abbrev pub GroupChipsAreServed : Type 0
GroupChipsAreServed = (c : Chip) → IsChip c → IsHealthyGroupChip c
    → (array : List ℕ) × IsServedFrom c array
