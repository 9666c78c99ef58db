-- Why journals are corrupt: the cases of `erase_journal`'s `TallyHasNoFault`, one by one. Source:
-- own.
use Rattle.std.specs.Prelude.{◌≡◌, ◌≤◌, true, false}
use Rattle.nor_layout.specs.Journals.{next}
use Rattle.nor_layout.specs.declared.journal.JournalId.{JournalId}
use Rattle.nor_layout.specs.declared.journal.JournalId.TheVariants.{J0}
use Rattle.erase_journal.specs.declared.phase.ErasePhase.{ErasePhase}
use Rattle.erase_journal.specs.declared.tally.JournalTally.{JournalTally}
use Rattle.erase_journal.specs.Faults.{HasVote, IsBelieved, IsDoomed, after_next}
use Rattle.erase_journal.specs.Journals.{IsInPhase, first, second, settled, unused_of}
use Rattle.erase_journal.specs.Votes.{Last}
use Rattle.sector_survey.specs.declared.journals.JournalFault.{JournalFault}
use Rattle.sector_survey.specs.declared.journals.JournalFault.TheVariants.{TwoDoomed, WrongVotes}
use Rattle.sector_survey.specs.declared.journals.JournalFault.TheVariants.{ManyVotes, TwoNamed}
use Rattle.sector_survey.specs.declared.journals.JournalFault.TheVariants.{ManyEntries}
use Rattle.sector_survey.specs.declared.journals.JournalFault.TheVariants.{EntryBesideVote}
use Rattle.sector_survey.specs.declared.journals.JournalFault.TheVariants.{NoVotesLeft}

-- what a fault says of the counts
abbrev pub IsJournalFault : JournalFault → JournalTally → Type 0
IsJournalFault (TwoDoomed x) s = IsDoomed s x × IsDoomed s (next x)
IsJournalFault (WrongVotes x true) s = IsBelieved s (next x) × (1 ≤ (first s x).wrong)
IsJournalFault (WrongVotes x false) s = IsBelieved s (after_next x) × (1 ≤ (second s x).wrong)
IsJournalFault (ManyVotes x true) s =
    IsBelieved s (next x) × IsBelieved s x × (2 ≤ (first s x).opened)
IsJournalFault (ManyVotes x false) s = IsBelieved s (after_next x) × (2 ≤ (second s x).opened)
IsJournalFault (TwoNamed x) s = HasVote s x × HasVote s (next x)
IsJournalFault ManyEntries s = IsBelieved s J0 × (2 ≤ s.opened)
IsJournalFault (EntryBesideVote x) s = IsBelieved s J0 × (1 ≤ s.opened) × HasVote s x
IsJournalFault NoVotesLeft s =
    ((p : ErasePhase) → IsInPhase p s → Last (settled p (unused_of s))) → ⊥

-- the votes for the erase of one journal have none of these faults
pub record HasNoRegionFault (s : JournalTally) (x : JournalId) : Type 0 where
  pub first_votes : IsBelieved s (next x)
      → ((first s x).wrong ≡ 0) × (IsBelieved s x → (first s x).opened ≤ 1)
  pub second_votes : IsBelieved s (after_next x)
      → ((second s x).wrong ≡ 0) × ((second s x).opened ≤ 1)

pub record HasNoVoteFault (s : JournalTally) (x : JournalId) : Type 0 where
  pub one_doomed : IsDoomed s x → IsDoomed s (next x) → ⊥
  pub regions : HasNoRegionFault s x
  pub one_named : HasVote s x → HasVote s (next x) → ⊥
  pub one_entry : IsBelieved s J0 → s.opened ≤ 1
  pub entry_alone : IsBelieved s J0 → 1 ≤ s.opened → HasVote s x → ⊥
