-- The cases of corrupt journals one by one, for a reader: healthy journals are those that have none
-- of them. Source: own.
use Rattle.std.specs.Prelude.{◌≡◌, ◌⊎◌, ◌↔◌, ◌≤◌}
use Rattle.nor_layout.specs.declared.journal.JournalId.{JournalId}
use Rattle.nor_layout.specs.declared.journal.JournalId.TheVariants.{J0}
use Rattle.nor_layout.specs.Journals.{next}
use Rattle.erase_journal.specs.declared.phase.ErasePhase.{ErasePhase}
use Rattle.erase_journal.specs.declared.tally.JournalTally.{JournalTally}
use Rattle.erase_journal.specs.Votes.{Last}
use Rattle.erase_journal.specs.Journals.{first, second, unused_of, settled, IsInPhase}
use Rattle.erase_journal.specs.Journals.{IsSoundTally}

-- both other journals hold an open vote for the erase of x
abbrev pub IsDoomed : JournalTally → JournalId → Type 0
IsDoomed s x = (1 ≤ (first s x).opened) × (1 ≤ (second s x).opened)

-- a journal is believed unless it is doomed
abbrev pub IsBelieved : JournalTally → JournalId → Type 0
IsBelieved s x = IsDoomed s x → ⊥

-- the journal after the next
abbrev pub after_next : JournalId → JournalId
after_next x = next (next x)

-- a believed journal holds an open vote for the erase of x
abbrev pub HasVote : JournalTally → JournalId → Type 0
HasVote s x = (IsBelieved s (next x) × (1 ≤ (first s x).opened))
    ⊎ (IsBelieved s (after_next x) × (1 ≤ (second s x).opened))

pub record TallyHasNoFault (s : JournalTally) : Type 0 where
  -- no two journals are doomed
  pub one_doomed : (x : JournalId) → IsDoomed s x → IsDoomed s (next x) → ⊥
  -- in the regions of believed journals each byte is a vote, and one at most is open, but for the
  -- first votes for the erase of a doomed one
  pub first_votes : (x : JournalId) → IsBelieved s (next x)
      → ((first s x).wrong ≡ 0) × (IsBelieved s x → (first s x).opened ≤ 1)
  pub second_votes : (x : JournalId) → IsBelieved s (after_next x)
      → ((second s x).wrong ≡ 0) × ((second s x).opened ≤ 1)
  -- their open votes name one journal
  pub one_named : (x : JournalId) → HasVote s x → HasVote s (next x) → ⊥
  -- the open entries of a believed J0 name one block, and there is none beside an open vote
  pub one_entry : IsBelieved s J0 → s.opened ≤ 1
  pub entry_alone : (x : JournalId) → IsBelieved s J0 → 1 ≤ s.opened → HasVote s x → ⊥
  -- the votes last, once the erase that goes on is done
  pub lasts : (p : ErasePhase) → IsInPhase p s → Last (settled p (unused_of s))

-- the journals are sound in one of the phases exactly where they have no fault
abbrev pub SoundTallyHasNoFault : Type 0
SoundTallyHasNoFault =
    (s : JournalTally) → ((p : ErasePhase) × IsSoundTally p s) ↔ TallyHasNoFault s
