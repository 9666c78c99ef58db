-- What each data block says. Source: own, layouts 1 and 2.
use Rattle.std.specs.Prelude.{◌≡◌, ℕ, ◌<◌, Bool, true, false, List, length, slice_index_or}
use Rattle.nor_layout.specs.declared.header.Header.{Header}
use Rattle.nor_layout.specs.declared.header.Header.TheVariants as headers
use Rattle.nor_layout.specs.declared.kind.Kind.TheVariants as kinds
use Rattle.erase_journal.specs.Places.{how_many}
use Rattle.sector_slots.specs.Slots.{data_block, data_blocks, descriptor_in, kind_at}
use Rattle.sector_slots.specs.Slots.{read_header}
use Rattle.sector_survey.specs.declared.summary.BlockSummary.{BlockSummary}

abbrev pub is_free_head : Header → Bool
is_free_head headers.Free = true
is_free_head (headers.Live tag) = false
is_free_head headers.NoGeneration = false
is_free_head headers.Dead = false

abbrev pub is_live_head : Header → Bool
is_live_head headers.Free = false
is_live_head (headers.Live tag) = true
is_live_head headers.NoGeneration = false
is_live_head headers.Dead = false

-- of the first n of some descriptors, how many are free and live
unfoldable pub free_heads : List Header → ℕ → ℕ
free_heads heads n = how_many (λ i. is_free_head (read_header heads i)) n

unfoldable pub live_heads : List Header → ℕ → ℕ
live_heads heads n = how_many (λ i. is_live_head (read_header heads i)) n

-- data block c of a memory is of this kind, and so many of its seven slots are free and live by
-- their descriptors
pub record IsSummaryOf (s : BlockSummary) (m : List ℕ) (c : ℕ) : Type 0 where
  pub kind : s.kind ≡ kind_at m c
  pub free : s.free ≡ how_many (λ i. is_free_head (descriptor_in (data_block m c) i)) 7
  pub live : s.live ≡ how_many (λ i. is_live_head (descriptor_in (data_block m c) i)) 7

-- what stands for the summary of a block that isn't there
abbrev pub no_summary : BlockSummary
no_summary = record { kind = kinds.Plain; free = 0; live = 0 }

-- the summaries of all data blocks, in their order
pub record AreSummaries (all : List BlockSummary) (m : List ℕ) : Type 0 where
  pub size : length all ≡ data_blocks m
  pub each : (c : ℕ) → c < data_blocks m → IsSummaryOf (slice_index_or all c no_summary) m c
