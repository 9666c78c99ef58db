-- What the functions of the journal leave. Source: own.
use Rattle.std.specs.Prelude.{◌≡◌, ◌≢◌, ℕ, ◌+◌, ◌<◌, true, false, List, [], ◌∷◌, Result}
use Rattle.std.specs.Prelude.{MatchResult}
use Rattle.chip_model.specs.Memory.{byte}
use Rattle.chip_model.specs.Parts.{part}
use Rattle.chip_model.specs.Wavering.{Bits}
use Rattle.nor_layout.specs.declared.journal.JournalId.{JournalId}
use Rattle.nor_layout.specs.declared.journal.JournalId.TheVariants.{J0, J1, J2}
use Rattle.nor_layout.specs.Journals.{block_len, region_len}
use Rattle.nor_layout.specs.Entries.{entry_count, entry_at}
use Rattle.nor_driver.specs.State.{NorState, IsNorReady, OnlyMemoryChanges, Refuses, NorFails}
use Rattle.nor_driver.specs.State.{IsFirst, bits_in, Leaves, TornProgramBits, program_bits}
use Rattle.nor_driver.specs.declared.error.NorError.{NorError}
use Rattle.nor_driver.specs.declared.error.NorError.TheVariants.{Cut}
use Rattle.erase_journal.specs.declared.phase.ErasePhase.{ErasePhase}
use Rattle.erase_journal.specs.declared.phase.ErasePhase.TheVariants.{Idle}
use Rattle.erase_journal.specs.declared.unused.Unused.{Unused}
use Rattle.erase_journal.specs.Places.{Changed, Spoiled}
use Rattle.erase_journal.specs.Votes.{IsRested, Last, once_erased}
use Rattle.erase_journal.specs.Journals.{AreJournalsSound, IsHealthy, IsSettled, unused, settled}
use Rattle.erase_journal.specs.Journals.{is_open_entry, entry_block, entry_byte, entries_for}
use Rattle.erase_journal.specs.Blocks.{SameBlocks, WithErased, blank}
use Rattle.erase_journal.specs.Weak.{AreFirmJournals, AreInterruptedAtEachDraw}

-- m' is healthy and represents the blocks of m: what a loss of power leaves of a change of the
-- journals
pub record KeepsBlocks (m m' : List ℕ) : Type 0 where
  pub healthy : IsHealthy m'
  pub blocks : SameBlocks m m'

-- an erase of block c that was cut: m' is healthy, and its blocks are those of m, or these with
-- block c erased
pub data EraseInterrupted (c : ℕ) (m m' : List ℕ) : Type 0 where
  as_it_was : KeepsBlocks m m' → EraseInterrupted c m m'
  block_erased : IsHealthy m' → WithErased c m m' → EraseInterrupted c m m'

-- a call that answered Ok, as `Succeeds` says it, and after which no erase goes on
pub record SucceedsSettled (old new : NorState) : Type 0 where
  pub ready : IsNorReady old
  pub kept : OnlyMemoryChanges old new
  pub settled : IsSettled new.memory

-- how a call ends: Ok, as `SucceedsSettled` says it, or with an error, as `Refuses` says it
abbrev pub EndsSettled : {A : Type 0} → Result A NorError → NorState → NorState → Type 0
EndsSettled result old new =
    MatchResult result (λ _. SucceedsSettled old new) (λ e. Refuses e old new)

-- What a loss of power leaves of a call that began with firm journals while no erase went on.
abbrev pub LosesFirmly : NorState → NorState → Type 0
LosesFirmly old new = IsSettled old.memory → AreFirmJournals (bits_in old)
    → AreInterruptedAtEachDraw (bits_in new)

-- a call that failed, as `Refuses` says it, and if the power was lost, as `LosesFirmly` says it
pub record RefusesFirmly (e : NorError) (old new : NorState) : Type 0 where
  pub fails : NorFails e old new
  pub first : IsFirst e old new
  pub journals : e ≡ Cut → LosesFirmly old new

-- how a call ends: Ok, as `SucceedsSettled` says it, or with an error, as `RefusesFirmly` says it
abbrev pub EndsFirmly : {A : Type 0} → Result A NorError → NorState → NorState → Type 0
EndsFirmly result old new =
    MatchResult result (λ _. SucceedsSettled old new) (λ e. RefusesFirmly e old new)

-- the lowest byte with the old value has changed in a region
pub record OneChanged (place old new : ℕ) (m m' : List ℕ) : Type 0 where
  pub at : ℕ
  pub within : at < region_len
  pub lowest : (k : ℕ) → k < at → byte m (place + k) ≢ old
  pub change : Changed (place + at) old new m m'

-- nothing has, or one byte
pub data PerhapsChanged (place old new : ℕ) (m m' : List ℕ) : Type 0 where
  not_begun : m' ≡ m → PerhapsChanged place old new m m'
  done : OneChanged place old new m m' → PerhapsChanged place old new m m'

-- What a loss of power leaves of the bits: none was changed, or the program of the lowest byte with
-- the old value was interrupted, or done.
pub data VoteInterrupted (place old value : ℕ) (a b : Bits) : Type 0 where
  not_begun : b ≡ a → VoteInterrupted place old value a b
  in_it : (at : ℕ) → at < region_len → byte a.shown (place + at) ≡ old
      → ((k : ℕ) → k < at → byte a.shown (place + k) ≢ old)
      → Leaves a (TornProgramBits a (place + at) (value ∷ []))
      (program_bits a (place + at) (value ∷ [])) b
      → VoteInterrupted place old value a b

-- journal x may be erased: no other erase goes on, and the votes last when it is done
pub record MayErase (x : JournalId) (m : List ℕ) : Type 0 where
  pub settled : IsSettled m
  pub lasts : Last (once_erased x (unused m))

-- the seven numbers are the same
pub record SameNumbers (u v : Unused) : Type 0 where
  pub n01 : v.j0_for_1 ≡ u.j0_for_1
  pub n02 : v.j0_for_2 ≡ u.j0_for_2
  pub n10 : v.j1_for_0 ≡ u.j1_for_0
  pub n12 : v.j1_for_2 ≡ u.j1_for_2
  pub n20 : v.j2_for_0 ≡ u.j2_for_0
  pub n21 : v.j2_for_1 ≡ u.j2_for_1
  pub free : v.free ≡ u.free

-- a memory that is sound in this phase and whose numbers, once settled, are these
pub record IsStep (u : Unused) (p : ErasePhase) (m : List ℕ) : Type 0 where
  pub sound : AreJournalsSound p m
  pub numbers : SameNumbers u (settled p (unused m))

-- the next step of an erase of a journal: the settled numbers stay
abbrev pub IsNext : ErasePhase → List ℕ → ErasePhase → List ℕ → Type 0
IsNext p m p' m' = IsStep (settled p (unused m)) p' m'

-- no erase goes on, and no journal is tired
pub record IsRestful (m : List ℕ) : Type 0 where
  pub settled : IsSettled m
  pub j0 : IsRested J0 (unused m)
  pub j1 : IsRested J1 (unused m)
  pub j2 : IsRested J2 (unused m)

-- entry i alone is open, for block c, which so reads as erased
pub record IsOpened (i c : ℕ) (m : List ℕ) : Type 0 where
  pub sound : AreJournalsSound Idle m
  pub within : i < entry_count
  pub opened : is_open_entry m i ≡ true
  pub names : entry_block m i ≡ c
  pub alone : (k : ℕ) → k < entry_count → k ≢ i → is_open_entry m k ≡ false

-- each block that has an open entry is erased
abbrev pub AreErased : List ℕ → Type 0
AreErased m = (i : ℕ) → i < entry_count → is_open_entry m i ≡ true
    → part block_len m (entry_block m i) ≡ blank

-- a block that has an open entry in m has one in m' too
abbrev pub StayNamed : List ℕ → List ℕ → Type 0
StayNamed m m' = (b : ℕ) → 0 < entries_for m b → 0 < entries_for m' b

-- what taking a free entry for block c leaves
pub record IsTaken (i c : ℕ) (m m' : List ℕ) : Type 0 where
  pub spoiled : Spoiled (entry_at i) 4 m m'
  pub state : entry_byte m' i 0 ≡ 254
  pub last : entry_byte m' i 3 ≡ 255
  pub names : entry_block m' i ≡ c
