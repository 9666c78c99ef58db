-- Each fault of journals is one of the cases in which they are corrupt, and these are all.
use Rattle.std.proofs.Common.{◌≡◌, true, false, refl, arith}
use Rattle.std.specs.Prelude.{Option, Some, None}
use Rattle.nor_layout.specs.declared.journal.JournalId.{JournalId}
use Rattle.nor_layout.specs.declared.journal.JournalId.TheVariants.{J0, J1, J2}
use Rattle.erase_journal.specs.declared.phase.ErasePhase.{ErasePhase}
use Rattle.erase_journal.specs.declared.tally.JournalTally.{JournalTally}
use Rattle.erase_journal.specs.Faults.{TallyHasNoFault}
use Rattle.erase_journal.specs.Journals.{IsInPhase, IsSoundTally, settled, unused_of}
use Rattle.erase_journal.specs.Votes.{Last}
use Rattle.erase_journal.proofs.Faulty.{sound_has_no_fault}
use Rattle.sector_survey.specs.Journals.{IsJournalFault, HasNoVoteFault}
use Rattle.sector_survey.specs.declared.journals.JournalFault.{JournalFault}
use Rattle.sector_survey.specs.declared.journals.JournalFault.TheVariants as faults

pub journal-refused : (fault : JournalFault) (s : JournalTally) → IsJournalFault fault s → TallyHasNoFault s → ⊥
journal-refused (faults.TwoDoomed x) s h n = n.one_doomed x h.0 h.1
journal-refused (faults.WrongVotes x true) s h n = (let a = (n.first_votes x h.0).0 in let b = h.1 in omega (arith, a, b))
journal-refused (faults.WrongVotes x false) s h n = (let a = (n.second_votes x h.0).0 in let b = h.1 in omega (arith, a, b))
journal-refused (faults.ManyVotes x true) s h n = (let a = (n.first_votes x h.0).1 h.1 in let b = h.2 in omega (arith, a, b))
journal-refused (faults.ManyVotes x false) s h n = (let a = (n.second_votes x h.0).1 in let b = h.1 in omega (arith, a, b))
journal-refused (faults.TwoNamed x) s h n = n.one_named x h.0 h.1
journal-refused faults.ManyEntries s h n = (let a = n.one_entry h.0 in let b = h.1 in omega (arith, a, b))
journal-refused (faults.EntryBesideVote x) s h n = n.entry_alone x h.0 h.1 h.2
journal-refused faults.NoVotesLeft s h n = h n.lasts

-- no fault of the votes for each journal
each : (s : JournalTally) → HasNoVoteFault s J0 → HasNoVoteFault s J1 → HasNoVoteFault s J2 → (x : JournalId) → HasNoVoteFault s x
each s a b c J0 = a
each s a b c J1 = b
each s a b c J2 = c

faultless : (s : JournalTally) → ((x : JournalId) → HasNoVoteFault s x) → ((p : ErasePhase) → IsInPhase p s → Last (settled p (unused_of s))) → TallyHasNoFault s
faultless s h lasts = record {
  one_doomed = λ x. (h x).one_doomed;
  first_votes = λ x. (h x).regions.first_votes;
  second_votes = λ x. (h x).regions.second_votes;
  one_named = λ x. (h x).one_named;
  one_entry = (h J0).one_entry;
  entry_alone = λ x. (h x).entry_alone;
  lasts = lasts;
}

-- so where journals are corrupt without any, the votes don't last
pub none-last : (s : JournalTally) → ((p : ErasePhase) → IsSoundTally p s → ⊥) → HasNoVoteFault s J0 → HasNoVoteFault s J1 → HasNoVoteFault s J2 → IsJournalFault faults.NoVotesLeft s
none-last s corrupt a b c lasts =
    let sound = (sound_has_no_fault s).1 (faultless s (each s a b c) lasts) in
    corrupt sound.0 sound.1

-- what an answer that isn't Some is
pub fault-none : (o : Option JournalFault) → ((x : JournalFault) → o ≡ Some x → ⊥) → o ≡ None
fault-none None h = refl
fault-none (Some x) h = absurd (h x refl)
