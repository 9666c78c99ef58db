-- What an erase and a recovery make of the journals' numbers: the votes and entries that are left.
-- Source: own.
use Rattle.std.specs.Prelude.{◌≡◌, ◌≢◌, ◌⊎◌, ℕ, ◌-◌, ◌<◌, ◌≤◌, false, List}
use Rattle.nor_layout.specs.declared.journal.JournalId.{JournalId}
use Rattle.nor_layout.specs.declared.journal.JournalId.TheVariants.{J0, J1, J2}
use Rattle.nor_layout.specs.Entries.{entry_count}
use Rattle.erase_journal.specs.declared.firmness.Firmness.{Firmness}
use Rattle.erase_journal.specs.declared.firmness.Firmness.TheVariants.{Firm}
use Rattle.erase_journal.specs.declared.phase.ErasePhase.{ErasePhase}
use Rattle.erase_journal.specs.declared.phase.ErasePhase.TheVariants.{Idle, Asked, Doomed, Closing}
use Rattle.erase_journal.specs.declared.unused.Unused.{Unused}
use Rattle.erase_journal.specs.Votes.{IsLowestTired, IsRested, Last, first_spent, once_erased}
use Rattle.erase_journal.specs.Votes.{second_spent}
use Rattle.erase_journal.specs.Journals.{AreJournalsSound, settled, unused, is_free_entry}
use Rattle.erase_journal.specs.Journals.{open_blocks}
use Rattle.erase_journal.specs.Steps.{SameNumbers}

-- the numbers once an entry is taken
abbrev pub once_used : Unused → Unused
once_used u = record u { free = u.free - 1 }

-- Maintenance comes from these numbers to those at rest: it erases the lowest-numbered tired
-- journal while there is one, and no other.
pub data Maintains (rest : Unused) : Unused → Type 0 where
  at_rest : (u : Unused) → IsRested J0 u → IsRested J1 u → IsRested J2 u → SameNumbers u rest
      → Maintains rest u
  erases : (u : Unused) (x : JournalId) → IsLowestTired x u → Maintains rest (once_erased x u)
      → Maintains rest u

-- The erase of a data block: maintenance, and then one entry.
pub record Spends (u v : Unused) : Type 0 where
  pub rest : Unused
  pub maintains : Maintains rest u
  pub entry : SameNumbers (once_used rest) v

-- A vote is given up, which leaves the numbers `spent`, if the votes last then.
pub data GivesUp (spent u v : Unused) : Type 0 where
  given : Last spent → SameNumbers spent v → GivesUp spent u v
  kept : (Last spent → ⊥) → SameNumbers u v → GivesUp spent u v

-- and so one in each region, the first votes before the second ones
pub record GivesUpEach (u v : Unused) : Type 0 where
  pub first0 : Unused
  pub first1 : Unused
  pub first2 : Unused
  pub second0 : Unused
  pub second1 : Unused
  pub gives_first0 : GivesUp (first_spent J0 u) u first0
  pub gives_first1 : GivesUp (first_spent J1 first0) first0 first1
  pub gives_first2 : GivesUp (first_spent J2 first1) first1 first2
  pub gives_second0 : GivesUp (second_spent J0 first2) first2 second0
  pub gives_second1 : GivesUp (second_spent J1 second0) second0 second1
  pub gives_second2 : GivesUp (second_spent J2 second1) second1 v

-- how many entries, and votes of each region, are to be left when the erases of a session begin,
-- where torn bits may waver: a recovery that is cut may spend one, and the rest of its mount one
-- more
abbrev pub spare_count : ℕ
spare_count = 32

-- a journal has so many
abbrev pub HasSpare : JournalId → Unused → Type 0
HasSpare J0 u = (spare_count ≤ u.free) × (spare_count ≤ u.j0_for_1) × (spare_count ≤ u.j0_for_2)
HasSpare J1 u = (spare_count ≤ u.j1_for_2) × (spare_count ≤ u.j1_for_0)
HasSpare J2 u = (spare_count ≤ u.j2_for_0) × (spare_count ≤ u.j2_for_1)

-- and there are so many votes for the erase of a journal
abbrev pub HasVotesToSpare : JournalId → Unused → Type 0
HasVotesToSpare J0 u = (spare_count ≤ u.j1_for_0) × (spare_count ≤ u.j2_for_0)
HasVotesToSpare J1 u = (spare_count ≤ u.j2_for_1) × (spare_count ≤ u.j0_for_1)
HasVotesToSpare J2 u = (spare_count ≤ u.j0_for_2) × (spare_count ≤ u.j1_for_2)

-- Where x has few to spare it is erased, but only where there are votes to spare for that.
pub data Refills (x : JournalId) (v u : Unused) : Type 0 where
  full : HasSpare x u → SameNumbers u v → Refills x v u
  without_votes : (HasVotesToSpare x u → ⊥) → SameNumbers u v → Refills x v u
  refilled : (HasSpare x u → ⊥) → HasVotesToSpare x u → SameNumbers (once_erased x u) v
      → Refills x v u

-- and so the three of them, one after another
pub record RefillsAll (v u : Unused) : Type 0 where
  pub after0 : Unused
  pub after1 : Unused
  pub j0 : Refills J0 after0 u
  pub j1 : Refills J1 after1 after0
  pub j2 : Refills J2 v after1

-- Where no journal is tired, x has enough to spare, or it is erased, and then maintenance comes.
pub data Spares (x : JournalId) (v u : Unused) : Type 0 where
  enough : HasSpare x u → SameNumbers u v → Spares x v u
  few : (HasSpare x u → ⊥) → Maintains v (once_erased x u) → Spares x v u

-- and so the three of them, one after another
pub record SparesAll (v u : Unused) : Type 0 where
  pub after0 : Unused
  pub after1 : Unused
  pub j0 : Spares J0 after0 u
  pub j1 : Spares J1 after1 after0
  pub j2 : Spares J2 v after1

-- What is made firm in the journals: a vote of each region, the journals that are nearly used up
-- while there are votes to spare for their erase, maintenance, enough to spare in each journal, and
-- then one entry.
pub record SpendsFirmly (u v : Unused) : Type 0 where
  pub given : Unused
  pub full : Unused
  pub rest : Unused
  pub spared : Unused
  pub gives : GivesUpEach u given
  pub refills : RefillsAll full given
  pub maintains : Maintains rest full
  pub spares : SparesAll spared rest
  pub entry : SameNumbers (once_used spared) v

-- What a recovery spends of its own in a phase: nothing; a firm one perhaps another entry where a
-- block has an open one, or another first vote while a journal is being erased.
pub data SpendsOne (firmness : Firmness) (phase : ErasePhase) (m : List ℕ) (u : Unused)
    : Type 0 where
  nothing : u ≡ unused m → SpendsOne firmness phase m u
  an_entry : firmness ≡ Firm → phase ≡ Idle → 1 ≤ open_blocks m → u ≡ once_used (unused m)
      → SpendsOne firmness phase m u
  a_vote : (x : JournalId) → firmness ≡ Firm
      → (phase ≡ Asked x) ⊎ (phase ≡ Doomed x) ⊎ (phase ≡ Closing x)
      → u ≡ first_spent x (unused m) → SpendsOne firmness phase m u

-- A recovery: the erase of a journal that went on in m is ended in m', and nothing else is spent
-- but what a firm one spends of its own.
pub record Continues (firmness : Firmness) (m m' : List ℕ) : Type 0 where
  pub phase : ErasePhase
  pub sound : AreJournalsSound phase m
  pub left : Unused
  pub spends : SpendsOne firmness phase m left
  pub numbers : SameNumbers (settled phase left) (unused m')

-- no erase of a journal goes on, and the votes last also where one entry more is used
pub record MayTake (m : List ℕ) : Type 0 where
  pub sound : AreJournalsSound Idle m
  pub lasts : Last (once_used (unused m))

-- entry i was free and is used now; the votes and the other entries are as they were
pub record IsUsed (i : ℕ) (m m' : List ℕ) : Type 0 where
  pub numbers : SameNumbers (once_used (unused m)) (unused m')
  pub here : is_free_entry m' i ≡ false
  pub others : (k : ℕ) → k < entry_count → k ≢ i → is_free_entry m' k ≡ is_free_entry m k

-- no vote and no entry is used
pub record KeepsUse (m m' : List ℕ) : Type 0 where
  pub numbers : SameNumbers (unused m) (unused m')
  pub entries : (k : ℕ) → k < entry_count → is_free_entry m' k ≡ is_free_entry m k
