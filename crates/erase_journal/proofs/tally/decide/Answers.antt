use Rattle.std.proofs.Common.{Option, Some, None}
use Rattle.std.specs.Prelude.{MatchOption}
use Rattle.nor_layout.specs.declared.journal.JournalId.{JournalId}
use Rattle.nor_layout.specs.declared.journal.JournalId.TheVariants.{J0, J1, J2}
use Rattle.erase_journal.specs.declared.phase.ErasePhase.{ErasePhase}
use Rattle.erase_journal.specs.declared.phase.ErasePhase.TheVariants.{Idle, Asked, Doomed, Closing}
use Rattle.erase_journal.specs.declared.tally.JournalTally.{JournalTally}
use Rattle.erase_journal.specs.Journals.{IsSoundTally}
use Rattle.erase_journal.proofs.tally.decide.Goals as goal

abbrev NoneFor : JournalTally → JournalId → Type 0
NoneFor s x = (IsSoundTally (Asked x) s → ⊥) × (IsSoundTally (Doomed x) s → ⊥) × (IsSoundTally (Closing x) s → ⊥)

none-for : (s : JournalTally) → NoneFor s J0 → NoneFor s J1 → NoneFor s J2 → (x : JournalId) → NoneFor s x
none-for s n0 n1 n2 J0 = n0
none-for s n0 n1 n2 J1 = n1
none-for s n0 n1 n2 J2 = n2

no-phase : (s : JournalTally) → (IsSoundTally Idle s → ⊥) → ((x : JournalId) → NoneFor s x) → (phase : ErasePhase) → IsSoundTally phase s → ⊥
no-phase s i n Idle h = i h
no-phase s i n (Asked x) h = (n x).0 h
no-phase s i n (Doomed x) h = (n x).1 h
no-phase s i n (Closing x) h = (n x).2 h

decided : (s : JournalTally) (r : Option ErasePhase) → (IsSoundTally Idle s → ⊥) → NoneFor s J0 → NoneFor s J1
    → MatchOption r (NoneFor s J2) (λ phase. IsSoundTally phase s) → MatchOption r ((phase : ErasePhase) → IsSoundTally phase s → ⊥) (λ phase. IsSoundTally phase s)
decided s None i n0 n1 n2 = no-phase s i (none-for s n0 n1 n2)
decided s (Some phase) i n0 n1 h = h

pub returns : goal.returns
returns c =
    let no_idle : IsSoundTally Idle c.args.tally → ⊥ = λ h. let t = c.fits.ensures.1 h in let f = c.if-fits.false in cc in
    decided c.args.tally c.fitting-3.result no_idle c.in_default.ensures c.in_default-fitting.ensures c.fitting-3.ensures
