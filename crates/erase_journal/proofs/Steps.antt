-- Each step of an erase of a journal leaves the journals sound.
use Rattle.std.proofs.Common.{◌≡◌, ℕ, ◌+◌, ◌-◌, ◌<◌, ◌≤◌, List, refl, sym, subst, ap, ◌∙◌, arith}
use Rattle.erase_journal.specs.Places.{Spoiled, Changed}
use Rattle.nor_layout.specs.declared.journal.JournalId.{JournalId}
use Rattle.nor_layout.specs.declared.journal.JournalId.TheVariants.{J0, J1, J2}
use Rattle.nor_layout.specs.Journals.{next, journal_at, first_at, second_at}
use Rattle.erase_journal.specs.declared.scan.VoteCounts.{VoteCounts}
use Rattle.erase_journal.specs.declared.tally.JournalTally.{JournalTally}
use Rattle.erase_journal.specs.declared.unused.Unused.{Unused}
use Rattle.erase_journal.specs.declared.phase.ErasePhase.{ErasePhase}
use Rattle.erase_journal.specs.declared.phase.ErasePhase.TheVariants.{Idle, Asked, Doomed, Closing}
use Rattle.erase_journal.specs.Votes.{Last, first_spent, second_spent, once_erased, renewed}
use Rattle.erase_journal.specs.Journals.{tally_of, first, second, unused, free_entries, open_blocks, HoldsVotes, IsInPhase, settled, AreJournalsSound}
use Rattle.erase_journal.specs.Steps.{SameNumbers, IsStep, IsNext, MayErase}
use Rattle.erase_journal.proofs.Regions.{vote-opened, vote-closed, vote-given-up, changed-spoiled, votes-below, votes-above, entries-below, entries-above}
use Rattle.erase_journal.proofs.Lasting.{Last-moved, same-refl, same-unused}

-- journal x holds no vote, and J0 no entry
pub record IsBlank (x : JournalId) (m : List ℕ) : Type 0 where
  -- x's votes for x + 1, and for x + 2
  pub second : ((second (tally_of m) (next x)).unused ≡ 1024) × HoldsVotes (second (tally_of m) (next x)) 0
  pub first : ((first (tally_of m) (next (next x))).unused ≡ 1024) × HoldsVotes (first (tally_of m) (next (next x))) 0
  pub free : x ≡ J0 → free_entries m ≡ 512
  pub none : x ≡ J0 → open_blocks m ≡ 0

pub steps-on : (u : Unused) (p p' : ErasePhase) (m m' : List ℕ) → IsStep u p m → IsNext p m p' m' → IsStep u p' m'
steps-on u p p' m m' a b = record {
  sound = b.sound;
  numbers = record {
    n01 = b.numbers.n01 ∙ a.numbers.n01;
    n02 = b.numbers.n02 ∙ a.numbers.n02;
    n10 = b.numbers.n10 ∙ a.numbers.n10;
    n12 = b.numbers.n12 ∙ a.numbers.n12;
    n20 = b.numbers.n20 ∙ a.numbers.n20;
    n21 = b.numbers.n21 ∙ a.numbers.n21;
    free = b.numbers.free ∙ a.numbers.free;
  };
}

unused-same : {v w : VoteCounts} → v ≡ w → v.unused ≡ w.unused
unused-same e = ap (λ v. v.unused) e

pub ask0 : (i : ℕ) (m m' : List ℕ) → MayErase J0 m → i < 1024 → Changed (9216 + i) 255 254 m m' → IsStep (once_erased J0 (unused m)) (Asked J0) m'
ask0 i m m' h low change =
    let s = changed-spoiled (9216 + i) 255 254 m m' change in
    let v = vote-opened 9216 i m m' low change in
    let s0 = votes-above 12288 (9216 + i) 1 m m' s (omega arith) in
    let f1 = votes-above 13312 (9216 + i) 1 m m' s (omega arith) in
    let s1 = votes-below 4096 (9216 + i) 1 m m' s (omega arith) in
    let f2 = votes-below 5120 (9216 + i) 1 m m' s (omega arith) in
    let s2 = votes-below 8192 (9216 + i) 1 m m' s (omega arith) in
    let e = entries-below (9216 + i) 1 m m' s (omega arith) in
    let l = h.lasts in
    let p = h.settled.sound.phase in
    let numbers : SameNumbers (once_erased J0 (unused m)) (settled (Asked J0) (unused m')) = record { n01 = refl; n02 = refl; n10 = (omega arith); n12 = (unused-same s2); n20 = (ap (λ n. n - 1) (unused-same s0)); n21 = (unused-same f1); free = refl } in
    record { sound = record { phase = simp (s0, f1, s1, f2, s2) ((omega arith, omega arith), p.0.1, p.1, p.2, omega arith); lasts = Last-moved (once_erased J0 (unused m)) (settled (Asked J0) (unused m')) numbers l }; numbers = numbers }

pub doom0 : (i : ℕ) (m m' : List ℕ) → AreJournalsSound (Asked J0) m → i < 1024 → Changed (12288 + i) 255 254 m m' → IsNext (Asked J0) m (Doomed J0) m'
doom0 i m m' h low change =
    let s = changed-spoiled (12288 + i) 255 254 m m' change in
    let v = vote-opened 12288 i m m' low change in
    let f0 = votes-below 9216 (12288 + i) 1 m m' s (omega arith) in
    let f1 = votes-above 13312 (12288 + i) 1 m m' s (omega arith) in
    let s1 = votes-below 4096 (12288 + i) 1 m m' s (omega arith) in
    let f2 = votes-below 5120 (12288 + i) 1 m m' s (omega arith) in
    let s2 = votes-below 8192 (12288 + i) 1 m m' s (omega arith) in
    let e = entries-below (12288 + i) 1 m m' s (omega arith) in
    let p = h.phase in
    let numbers : SameNumbers (settled (Asked J0) (unused m)) (settled (Doomed J0) (unused m')) = record { n01 = refl; n02 = refl; n10 = (unused-same f0); n12 = (unused-same s2); n20 = (omega arith); n21 = (unused-same f1); free = refl } in
    record { sound = record { phase = simp (f0, f1, s1, f2, s2) ((omega arith, p.0.1), (omega arith, omega arith), p.2.0, p.3.1); lasts = Last-moved (settled (Asked J0) (unused m)) (settled (Doomed J0) (unused m')) numbers h.lasts }; numbers = numbers }

pub spoil0 : (m m' : List ℕ) → AreJournalsSound (Doomed J0) m → Spoiled 4096 4096 m m' → IsNext (Doomed J0) m (Doomed J0) m'
spoil0 m m' h s =
    let f0 = votes-above 9216 4096 4096 m m' s (omega arith) in
    let s0 = votes-above 12288 4096 4096 m m' s (omega arith) in
    let f1 = votes-above 13312 4096 4096 m m' s (omega arith) in
    let s2 = votes-above 8192 4096 4096 m m' s (omega arith) in
    let p = h.phase in
    let numbers : SameNumbers (settled (Doomed J0) (unused m)) (settled (Doomed J0) (unused m')) = record { n01 = refl; n02 = refl; n10 = (unused-same f0); n12 = (unused-same s2); n20 = (unused-same s0); n21 = (unused-same f1); free = refl } in
    record { sound = record { phase = simp (f0, s0, f1, s2) (p.0, p.1, p.2, p.3); lasts = Last-moved (settled (Doomed J0) (unused m)) (settled (Doomed J0) (unused m')) numbers h.lasts }; numbers = numbers }

pub close_first0 : (i : ℕ) (m m' : List ℕ) → AreJournalsSound (Doomed J0) m → (first (tally_of m) J0).opened ≡ 1 → IsBlank J0 m → i < 1024 → Changed (9216 + i) 254 252 m m' → IsNext (Doomed J0) m (Closing J0) m'
close_first0 i m m' h one blank low change =
    let s = changed-spoiled (9216 + i) 254 252 m m' change in
    let v = vote-closed 9216 i m m' low change in
    let s0 = votes-above 12288 (9216 + i) 1 m m' s (omega arith) in
    let f1 = votes-above 13312 (9216 + i) 1 m m' s (omega arith) in
    let s1 = votes-below 4096 (9216 + i) 1 m m' s (omega arith) in
    let f2 = votes-below 5120 (9216 + i) 1 m m' s (omega arith) in
    let s2 = votes-below 8192 (9216 + i) 1 m m' s (omega arith) in
    let e = entries-below (9216 + i) 1 m m' s (omega arith) in
    let p = h.phase in
    let numbers : SameNumbers (settled (Doomed J0) (unused m)) (settled (Closing J0) (unused m')) = record { n01 = (unused-same s1 ∙ blank.second.0); n02 = (unused-same f2 ∙ blank.first.0); n10 = (omega arith); n12 = (unused-same s2); n20 = (unused-same s0); n21 = (unused-same f1); free = (e.free ∙ blank.free refl) } in
    record { sound = record { phase = simp (s0, f1, s1, f2, s2) ((omega arith, omega arith), p.1, (p.2, blank.second.1), (blank.first.1, p.3), e.opened ∙ blank.none refl); lasts = Last-moved (settled (Doomed J0) (unused m)) (settled (Closing J0) (unused m')) numbers h.lasts }; numbers = numbers }

pub close_second0 : (i : ℕ) (m m' : List ℕ) → AreJournalsSound (Closing J0) m → i < 1024 → Changed (12288 + i) 254 252 m m' → IsNext (Closing J0) m Idle m'
close_second0 i m m' h low change =
    let s = changed-spoiled (12288 + i) 254 252 m m' change in
    let v = vote-closed 12288 i m m' low change in
    let f0 = votes-below 9216 (12288 + i) 1 m m' s (omega arith) in
    let f1 = votes-above 13312 (12288 + i) 1 m m' s (omega arith) in
    let s1 = votes-below 4096 (12288 + i) 1 m m' s (omega arith) in
    let f2 = votes-below 5120 (12288 + i) 1 m m' s (omega arith) in
    let s2 = votes-below 8192 (12288 + i) 1 m m' s (omega arith) in
    let e = entries-below (12288 + i) 1 m m' s (omega arith) in
    let p = h.phase in
    let numbers : SameNumbers (settled (Closing J0) (unused m)) (settled Idle (unused m')) = record { n01 = (unused-same s1); n02 = (unused-same f2); n10 = (unused-same f0); n12 = (unused-same s2); n20 = (omega arith); n21 = (unused-same f1); free = e.free } in
    record { sound = record { phase = simp (f0, f1, s1, f2, s2) ((p.0, (omega arith, omega arith)), p.2, p.3, omega arith); lasts = Last-moved (settled (Closing J0) (unused m)) (settled Idle (unused m')) numbers h.lasts }; numbers = numbers }

pub ask1 : (i : ℕ) (m m' : List ℕ) → MayErase J1 m → i < 1024 → Changed (13312 + i) 255 254 m m' → IsStep (once_erased J1 (unused m)) (Asked J1) m'
ask1 i m m' h low change =
    let s = changed-spoiled (13312 + i) 255 254 m m' change in
    let v = vote-opened 13312 i m m' low change in
    let f0 = votes-below 9216 (13312 + i) 1 m m' s (omega arith) in
    let s0 = votes-below 12288 (13312 + i) 1 m m' s (omega arith) in
    let s1 = votes-below 4096 (13312 + i) 1 m m' s (omega arith) in
    let f2 = votes-below 5120 (13312 + i) 1 m m' s (omega arith) in
    let s2 = votes-below 8192 (13312 + i) 1 m m' s (omega arith) in
    let e = entries-below (13312 + i) 1 m m' s (omega arith) in
    let l = h.lasts in
    let p = h.settled.sound.phase in
    let numbers : SameNumbers (once_erased J1 (unused m)) (settled (Asked J1) (unused m')) = record { n01 = (ap (λ n. n - 1) (unused-same s1)); n02 = (unused-same f2); n10 = refl; n12 = refl; n20 = (unused-same s0); n21 = (omega arith); free = e.free } in
    record { sound = record { phase = simp (f0, s0, s1, f2, s2) ((omega arith, omega arith), p.1.1, p.2, p.0, omega arith); lasts = Last-moved (once_erased J1 (unused m)) (settled (Asked J1) (unused m')) numbers l }; numbers = numbers }

pub doom1 : (i : ℕ) (m m' : List ℕ) → AreJournalsSound (Asked J1) m → i < 1024 → Changed (4096 + i) 255 254 m m' → IsNext (Asked J1) m (Doomed J1) m'
doom1 i m m' h low change =
    let s = changed-spoiled (4096 + i) 255 254 m m' change in
    let v = vote-opened 4096 i m m' low change in
    let f0 = votes-above 9216 (4096 + i) 1 m m' s (omega arith) in
    let s0 = votes-above 12288 (4096 + i) 1 m m' s (omega arith) in
    let f1 = votes-above 13312 (4096 + i) 1 m m' s (omega arith) in
    let f2 = votes-above 5120 (4096 + i) 1 m m' s (omega arith) in
    let s2 = votes-above 8192 (4096 + i) 1 m m' s (omega arith) in
    let e = entries-above (4096 + i) 1 m m' s (omega arith) in
    let p = h.phase in
    let numbers : SameNumbers (settled (Asked J1) (unused m)) (settled (Doomed J1) (unused m')) = record { n01 = (omega arith); n02 = (unused-same f2); n10 = refl; n12 = refl; n20 = (unused-same s0); n21 = (unused-same f1); free = e.free } in
    record { sound = record { phase = simp (f0, s0, f1, f2, s2) ((omega arith, p.0.1), (omega arith, omega arith), p.2.0, p.3.1, omega arith); lasts = Last-moved (settled (Asked J1) (unused m)) (settled (Doomed J1) (unused m')) numbers h.lasts }; numbers = numbers }

pub spoil1 : (m m' : List ℕ) → AreJournalsSound (Doomed J1) m → Spoiled 8192 4096 m m' → IsNext (Doomed J1) m (Doomed J1) m'
spoil1 m m' h s =
    let s0 = votes-above 12288 8192 4096 m m' s (omega arith) in
    let f1 = votes-above 13312 8192 4096 m m' s (omega arith) in
    let s1 = votes-below 4096 8192 4096 m m' s (omega arith) in
    let f2 = votes-below 5120 8192 4096 m m' s (omega arith) in
    let e = entries-below 8192 4096 m m' s (omega arith) in
    let p = h.phase in
    let numbers : SameNumbers (settled (Doomed J1) (unused m)) (settled (Doomed J1) (unused m')) = record { n01 = (unused-same s1); n02 = (unused-same f2); n10 = refl; n12 = refl; n20 = (unused-same s0); n21 = (unused-same f1); free = e.free } in
    record { sound = record { phase = simp (s0, f1, s1, f2) (p.0, p.1, p.2, p.3, omega arith); lasts = Last-moved (settled (Doomed J1) (unused m)) (settled (Doomed J1) (unused m')) numbers h.lasts }; numbers = numbers }

pub close_first1 : (i : ℕ) (m m' : List ℕ) → AreJournalsSound (Doomed J1) m → (first (tally_of m) J1).opened ≡ 1 → IsBlank J1 m → i < 1024 → Changed (13312 + i) 254 252 m m' → IsNext (Doomed J1) m (Closing J1) m'
close_first1 i m m' h one blank low change =
    let s = changed-spoiled (13312 + i) 254 252 m m' change in
    let v = vote-closed 13312 i m m' low change in
    let f0 = votes-below 9216 (13312 + i) 1 m m' s (omega arith) in
    let s0 = votes-below 12288 (13312 + i) 1 m m' s (omega arith) in
    let s1 = votes-below 4096 (13312 + i) 1 m m' s (omega arith) in
    let f2 = votes-below 5120 (13312 + i) 1 m m' s (omega arith) in
    let s2 = votes-below 8192 (13312 + i) 1 m m' s (omega arith) in
    let e = entries-below (13312 + i) 1 m m' s (omega arith) in
    let p = h.phase in
    let numbers : SameNumbers (settled (Doomed J1) (unused m)) (settled (Closing J1) (unused m')) = record { n01 = (unused-same s1); n02 = (unused-same f2); n10 = (unused-same f0 ∙ blank.first.0); n12 = (unused-same s2 ∙ blank.second.0); n20 = (unused-same s0); n21 = (omega arith); free = e.free } in
    record { sound = record { phase = simp (f0, s0, s1, f2, s2) ((omega arith, omega arith), p.1, (p.2, blank.second.1), (blank.first.1, p.3), omega arith); lasts = Last-moved (settled (Doomed J1) (unused m)) (settled (Closing J1) (unused m')) numbers h.lasts }; numbers = numbers }

pub close_second1 : (i : ℕ) (m m' : List ℕ) → AreJournalsSound (Closing J1) m → i < 1024 → Changed (4096 + i) 254 252 m m' → IsNext (Closing J1) m Idle m'
close_second1 i m m' h low change =
    let s = changed-spoiled (4096 + i) 254 252 m m' change in
    let v = vote-closed 4096 i m m' low change in
    let f0 = votes-above 9216 (4096 + i) 1 m m' s (omega arith) in
    let s0 = votes-above 12288 (4096 + i) 1 m m' s (omega arith) in
    let f1 = votes-above 13312 (4096 + i) 1 m m' s (omega arith) in
    let f2 = votes-above 5120 (4096 + i) 1 m m' s (omega arith) in
    let s2 = votes-above 8192 (4096 + i) 1 m m' s (omega arith) in
    let e = entries-above (4096 + i) 1 m m' s (omega arith) in
    let p = h.phase in
    let numbers : SameNumbers (settled (Closing J1) (unused m)) (settled Idle (unused m')) = record { n01 = (omega arith); n02 = (unused-same f2); n10 = (unused-same f0); n12 = (unused-same s2); n20 = (unused-same s0); n21 = (unused-same f1); free = e.free } in
    record { sound = record { phase = simp (f0, s0, f1, f2, s2) (p.3, (p.0, (omega arith, omega arith)), p.2, omega arith); lasts = Last-moved (settled (Closing J1) (unused m)) (settled Idle (unused m')) numbers h.lasts }; numbers = numbers }

pub ask2 : (i : ℕ) (m m' : List ℕ) → MayErase J2 m → i < 1024 → Changed (5120 + i) 255 254 m m' → IsStep (once_erased J2 (unused m)) (Asked J2) m'
ask2 i m m' h low change =
    let s = changed-spoiled (5120 + i) 255 254 m m' change in
    let v = vote-opened 5120 i m m' low change in
    let f0 = votes-above 9216 (5120 + i) 1 m m' s (omega arith) in
    let s0 = votes-above 12288 (5120 + i) 1 m m' s (omega arith) in
    let f1 = votes-above 13312 (5120 + i) 1 m m' s (omega arith) in
    let s1 = votes-below 4096 (5120 + i) 1 m m' s (omega arith) in
    let s2 = votes-above 8192 (5120 + i) 1 m m' s (omega arith) in
    let e = entries-above (5120 + i) 1 m m' s (omega arith) in
    let l = h.lasts in
    let p = h.settled.sound.phase in
    let numbers : SameNumbers (once_erased J2 (unused m)) (settled (Asked J2) (unused m')) = record { n01 = (unused-same s1); n02 = (omega arith); n10 = (unused-same f0); n12 = (ap (λ n. n - 1) (unused-same s2)); n20 = refl; n21 = refl; free = e.free } in
    record { sound = record { phase = simp (f0, s0, f1, s1, s2) ((omega arith, omega arith), p.2.1, p.0, p.1, omega arith); lasts = Last-moved (once_erased J2 (unused m)) (settled (Asked J2) (unused m')) numbers l }; numbers = numbers }

pub doom2 : (i : ℕ) (m m' : List ℕ) → AreJournalsSound (Asked J2) m → i < 1024 → Changed (8192 + i) 255 254 m m' → IsNext (Asked J2) m (Doomed J2) m'
doom2 i m m' h low change =
    let s = changed-spoiled (8192 + i) 255 254 m m' change in
    let v = vote-opened 8192 i m m' low change in
    let f0 = votes-above 9216 (8192 + i) 1 m m' s (omega arith) in
    let s0 = votes-above 12288 (8192 + i) 1 m m' s (omega arith) in
    let f1 = votes-above 13312 (8192 + i) 1 m m' s (omega arith) in
    let s1 = votes-below 4096 (8192 + i) 1 m m' s (omega arith) in
    let f2 = votes-below 5120 (8192 + i) 1 m m' s (omega arith) in
    let e = entries-below (8192 + i) 1 m m' s (omega arith) in
    let p = h.phase in
    let numbers : SameNumbers (settled (Asked J2) (unused m)) (settled (Doomed J2) (unused m')) = record { n01 = (unused-same s1); n02 = (unused-same f2); n10 = (unused-same f0); n12 = (omega arith); n20 = refl; n21 = refl; free = e.free } in
    record { sound = record { phase = simp (f0, s0, f1, s1, f2) ((omega arith, p.0.1), (omega arith, omega arith), p.2.0, p.3.1, omega arith); lasts = Last-moved (settled (Asked J2) (unused m)) (settled (Doomed J2) (unused m')) numbers h.lasts }; numbers = numbers }

pub spoil2 : (m m' : List ℕ) → AreJournalsSound (Doomed J2) m → Spoiled 12288 4096 m m' → IsNext (Doomed J2) m (Doomed J2) m'
spoil2 m m' h s =
    let f0 = votes-below 9216 12288 4096 m m' s (omega arith) in
    let s1 = votes-below 4096 12288 4096 m m' s (omega arith) in
    let f2 = votes-below 5120 12288 4096 m m' s (omega arith) in
    let s2 = votes-below 8192 12288 4096 m m' s (omega arith) in
    let e = entries-below 12288 4096 m m' s (omega arith) in
    let p = h.phase in
    let numbers : SameNumbers (settled (Doomed J2) (unused m)) (settled (Doomed J2) (unused m')) = record { n01 = (unused-same s1); n02 = (unused-same f2); n10 = (unused-same f0); n12 = (unused-same s2); n20 = refl; n21 = refl; free = e.free } in
    record { sound = record { phase = simp (f0, s1, f2, s2) (p.0, p.1, p.2, p.3, omega arith); lasts = Last-moved (settled (Doomed J2) (unused m)) (settled (Doomed J2) (unused m')) numbers h.lasts }; numbers = numbers }

pub close_first2 : (i : ℕ) (m m' : List ℕ) → AreJournalsSound (Doomed J2) m → (first (tally_of m) J2).opened ≡ 1 → IsBlank J2 m → i < 1024 → Changed (5120 + i) 254 252 m m' → IsNext (Doomed J2) m (Closing J2) m'
close_first2 i m m' h one blank low change =
    let s = changed-spoiled (5120 + i) 254 252 m m' change in
    let v = vote-closed 5120 i m m' low change in
    let f0 = votes-above 9216 (5120 + i) 1 m m' s (omega arith) in
    let s0 = votes-above 12288 (5120 + i) 1 m m' s (omega arith) in
    let f1 = votes-above 13312 (5120 + i) 1 m m' s (omega arith) in
    let s1 = votes-below 4096 (5120 + i) 1 m m' s (omega arith) in
    let s2 = votes-above 8192 (5120 + i) 1 m m' s (omega arith) in
    let e = entries-above (5120 + i) 1 m m' s (omega arith) in
    let p = h.phase in
    let numbers : SameNumbers (settled (Doomed J2) (unused m)) (settled (Closing J2) (unused m')) = record { n01 = (unused-same s1); n02 = (omega arith); n10 = (unused-same f0); n12 = (unused-same s2); n20 = (unused-same s0 ∙ blank.second.0); n21 = (unused-same f1 ∙ blank.first.0); free = e.free } in
    record { sound = record { phase = simp (f0, s0, f1, s1, s2) ((omega arith, omega arith), p.1, (p.2, blank.second.1), (blank.first.1, p.3), omega arith); lasts = Last-moved (settled (Doomed J2) (unused m)) (settled (Closing J2) (unused m')) numbers h.lasts }; numbers = numbers }

pub close_second2 : (i : ℕ) (m m' : List ℕ) → AreJournalsSound (Closing J2) m → i < 1024 → Changed (8192 + i) 254 252 m m' → IsNext (Closing J2) m Idle m'
close_second2 i m m' h low change =
    let s = changed-spoiled (8192 + i) 254 252 m m' change in
    let v = vote-closed 8192 i m m' low change in
    let f0 = votes-above 9216 (8192 + i) 1 m m' s (omega arith) in
    let s0 = votes-above 12288 (8192 + i) 1 m m' s (omega arith) in
    let f1 = votes-above 13312 (8192 + i) 1 m m' s (omega arith) in
    let s1 = votes-below 4096 (8192 + i) 1 m m' s (omega arith) in
    let f2 = votes-below 5120 (8192 + i) 1 m m' s (omega arith) in
    let e = entries-below (8192 + i) 1 m m' s (omega arith) in
    let p = h.phase in
    let numbers : SameNumbers (settled (Closing J2) (unused m)) (settled Idle (unused m')) = record { n01 = (unused-same s1); n02 = (unused-same f2); n10 = (unused-same f0); n12 = (omega arith); n20 = (unused-same s0); n21 = (unused-same f1); free = e.free } in
    record { sound = record { phase = simp (f0, s0, f1, s1, f2) (p.2, p.3, (p.0, (omega arith, omega arith)), omega arith); lasts = Last-moved (settled (Closing J2) (unused m)) (settled Idle (unused m')) numbers h.lasts }; numbers = numbers }

-- The erase of a journal leaves the first votes for it.
pub spoil-first : (x : JournalId) (m m' : List ℕ) → Spoiled (journal_at x) 4096 m m' → first (tally_of m') x ≡ first (tally_of m) x
spoil-first J0 m m' s = votes-above 9216 4096 4096 m m' s (omega arith)
spoil-first J1 m m' s = votes-above 13312 8192 4096 m m' s (omega arith)
spoil-first J2 m m' s = votes-below 5120 12288 4096 m m' s (omega arith)

-- A second vote that opens leaves the first ones.
pub second-first : (x : JournalId) (i : ℕ) (m m' : List ℕ) → i < 1024 → Changed (second_at x + i) 255 254 m m' → first (tally_of m') x ≡ first (tally_of m) x
second-first J0 i m m' low change = votes-below 9216 (12288 + i) 1 m m' (changed-spoiled (12288 + i) 255 254 m m' change) (omega arith)
second-first J1 i m m' low change = votes-above 13312 (4096 + i) 1 m m' (changed-spoiled (4096 + i) 255 254 m m' change) (omega arith)
second-first J2 i m m' low change = votes-below 5120 (8192 + i) 1 m m' (changed-spoiled (8192 + i) 255 254 m m' change) (omega arith)

pub asked-one : (x : JournalId) (m : List ℕ) → AreJournalsSound (Asked x) m → (first (tally_of m) x).opened ≡ 1
asked-one J0 m h = let p = h.phase in p.0.0
asked-one J1 m h = let p = h.phase in p.0.0
asked-one J2 m h = let p = h.phase in p.0.0

-- While x is doomed: another vote of the next journal is opened, and an older one is closed.
pub fresh0 : (i : ℕ) (m m' : List ℕ) → AreJournalsSound (Doomed J0) m → Last (renewed J0 (first_spent J0 (unused m))) → i < 1024 → Changed (9216 + i) 255 254 m m'
    → IsStep (renewed J0 (first_spent J0 (unused m))) (Doomed J0) m' × ((first (tally_of m') J0).opened ≡ (first (tally_of m) J0).opened + 1)
fresh0 i m m' h l low change =
    let s = changed-spoiled (9216 + i) 255 254 m m' change in
    let v = vote-opened 9216 i m m' low change in
    let s0 = votes-above 12288 (9216 + i) 1 m m' s (omega arith) in
    let f1 = votes-above 13312 (9216 + i) 1 m m' s (omega arith) in
    let s1 = votes-below 4096 (9216 + i) 1 m m' s (omega arith) in
    let f2 = votes-below 5120 (9216 + i) 1 m m' s (omega arith) in
    let s2 = votes-below 8192 (9216 + i) 1 m m' s (omega arith) in
    let e = entries-below (9216 + i) 1 m m' s (omega arith) in
    let p = h.phase in
    let numbers : SameNumbers (renewed J0 (first_spent J0 (unused m))) (settled (Doomed J0) (unused m')) = record { n01 = refl; n02 = refl; n10 = (omega arith); n12 = (unused-same s2); n20 = (unused-same s0); n21 = (unused-same f1); free = refl } in (
      record { sound = record { phase = simp (s0, f1, s2) ((omega arith, omega arith), p.1, p.2, p.3); lasts = Last-moved (renewed J0 (first_spent J0 (unused m))) (settled (Doomed J0) (unused m')) numbers l }; numbers = numbers },
      v.opened,
    )

pub older0 : (i : ℕ) (m m' : List ℕ) → AreJournalsSound (Doomed J0) m → 2 ≤ (first (tally_of m) J0).opened → i < 1024 → Changed (9216 + i) 254 252 m m'
    → IsNext (Doomed J0) m (Doomed J0) m' × ((first (tally_of m') J0).opened + 1 ≡ (first (tally_of m) J0).opened)
older0 i m m' h more low change =
    let s = changed-spoiled (9216 + i) 254 252 m m' change in
    let v = vote-closed 9216 i m m' low change in
    let s0 = votes-above 12288 (9216 + i) 1 m m' s (omega arith) in
    let f1 = votes-above 13312 (9216 + i) 1 m m' s (omega arith) in
    let s1 = votes-below 4096 (9216 + i) 1 m m' s (omega arith) in
    let f2 = votes-below 5120 (9216 + i) 1 m m' s (omega arith) in
    let s2 = votes-below 8192 (9216 + i) 1 m m' s (omega arith) in
    let e = entries-below (9216 + i) 1 m m' s (omega arith) in
    let p = h.phase in
    let numbers : SameNumbers (settled (Doomed J0) (unused m)) (settled (Doomed J0) (unused m')) = record { n01 = refl; n02 = refl; n10 = (omega arith); n12 = (unused-same s2); n20 = (unused-same s0); n21 = (unused-same f1); free = refl } in (
      record { sound = record { phase = simp (s0, f1, s2) ((omega arith, omega arith), p.1, p.2, p.3); lasts = Last-moved (settled (Doomed J0) (unused m)) (settled (Doomed J0) (unused m')) numbers h.lasts }; numbers = numbers },
      v.opened,
    )

pub fresh1 : (i : ℕ) (m m' : List ℕ) → AreJournalsSound (Doomed J1) m → Last (renewed J1 (first_spent J1 (unused m))) → i < 1024 → Changed (13312 + i) 255 254 m m'
    → IsStep (renewed J1 (first_spent J1 (unused m))) (Doomed J1) m' × ((first (tally_of m') J1).opened ≡ (first (tally_of m) J1).opened + 1)
fresh1 i m m' h l low change =
    let s = changed-spoiled (13312 + i) 255 254 m m' change in
    let v = vote-opened 13312 i m m' low change in
    let f0 = votes-below 9216 (13312 + i) 1 m m' s (omega arith) in
    let s0 = votes-below 12288 (13312 + i) 1 m m' s (omega arith) in
    let s1 = votes-below 4096 (13312 + i) 1 m m' s (omega arith) in
    let f2 = votes-below 5120 (13312 + i) 1 m m' s (omega arith) in
    let s2 = votes-below 8192 (13312 + i) 1 m m' s (omega arith) in
    let e = entries-below (13312 + i) 1 m m' s (omega arith) in
    let p = h.phase in
    let numbers : SameNumbers (renewed J1 (first_spent J1 (unused m))) (settled (Doomed J1) (unused m')) = record { n01 = (unused-same s1); n02 = (unused-same f2); n10 = refl; n12 = refl; n20 = (unused-same s0); n21 = (omega arith); free = e.free } in (
      record { sound = record { phase = simp (s1, f2, s0) ((omega arith, omega arith), p.1, p.2, p.3, omega arith); lasts = Last-moved (renewed J1 (first_spent J1 (unused m))) (settled (Doomed J1) (unused m')) numbers l }; numbers = numbers },
      v.opened,
    )

pub older1 : (i : ℕ) (m m' : List ℕ) → AreJournalsSound (Doomed J1) m → 2 ≤ (first (tally_of m) J1).opened → i < 1024 → Changed (13312 + i) 254 252 m m'
    → IsNext (Doomed J1) m (Doomed J1) m' × ((first (tally_of m') J1).opened + 1 ≡ (first (tally_of m) J1).opened)
older1 i m m' h more low change =
    let s = changed-spoiled (13312 + i) 254 252 m m' change in
    let v = vote-closed 13312 i m m' low change in
    let f0 = votes-below 9216 (13312 + i) 1 m m' s (omega arith) in
    let s0 = votes-below 12288 (13312 + i) 1 m m' s (omega arith) in
    let s1 = votes-below 4096 (13312 + i) 1 m m' s (omega arith) in
    let f2 = votes-below 5120 (13312 + i) 1 m m' s (omega arith) in
    let s2 = votes-below 8192 (13312 + i) 1 m m' s (omega arith) in
    let e = entries-below (13312 + i) 1 m m' s (omega arith) in
    let p = h.phase in
    let numbers : SameNumbers (settled (Doomed J1) (unused m)) (settled (Doomed J1) (unused m')) = record { n01 = (unused-same s1); n02 = (unused-same f2); n10 = refl; n12 = refl; n20 = (unused-same s0); n21 = (omega arith); free = e.free } in (
      record { sound = record { phase = simp (s1, f2, s0) ((omega arith, omega arith), p.1, p.2, p.3, omega arith); lasts = Last-moved (settled (Doomed J1) (unused m)) (settled (Doomed J1) (unused m')) numbers h.lasts }; numbers = numbers },
      v.opened,
    )

pub fresh2 : (i : ℕ) (m m' : List ℕ) → AreJournalsSound (Doomed J2) m → Last (renewed J2 (first_spent J2 (unused m))) → i < 1024 → Changed (5120 + i) 255 254 m m'
    → IsStep (renewed J2 (first_spent J2 (unused m))) (Doomed J2) m' × ((first (tally_of m') J2).opened ≡ (first (tally_of m) J2).opened + 1)
fresh2 i m m' h l low change =
    let s = changed-spoiled (5120 + i) 255 254 m m' change in
    let v = vote-opened 5120 i m m' low change in
    let f0 = votes-above 9216 (5120 + i) 1 m m' s (omega arith) in
    let s0 = votes-above 12288 (5120 + i) 1 m m' s (omega arith) in
    let f1 = votes-above 13312 (5120 + i) 1 m m' s (omega arith) in
    let s1 = votes-below 4096 (5120 + i) 1 m m' s (omega arith) in
    let s2 = votes-above 8192 (5120 + i) 1 m m' s (omega arith) in
    let e = entries-above (5120 + i) 1 m m' s (omega arith) in
    let p = h.phase in
    let numbers : SameNumbers (renewed J2 (first_spent J2 (unused m))) (settled (Doomed J2) (unused m')) = record { n01 = (unused-same s1); n02 = (omega arith); n10 = (unused-same f0); n12 = (unused-same s2); n20 = refl; n21 = refl; free = e.free } in (
      record { sound = record { phase = simp (s2, f0, s1) ((omega arith, omega arith), p.1, p.2, p.3, omega arith); lasts = Last-moved (renewed J2 (first_spent J2 (unused m))) (settled (Doomed J2) (unused m')) numbers l }; numbers = numbers },
      v.opened,
    )

pub older2 : (i : ℕ) (m m' : List ℕ) → AreJournalsSound (Doomed J2) m → 2 ≤ (first (tally_of m) J2).opened → i < 1024 → Changed (5120 + i) 254 252 m m'
    → IsNext (Doomed J2) m (Doomed J2) m' × ((first (tally_of m') J2).opened + 1 ≡ (first (tally_of m) J2).opened)
older2 i m m' h more low change =
    let s = changed-spoiled (5120 + i) 254 252 m m' change in
    let v = vote-closed 5120 i m m' low change in
    let f0 = votes-above 9216 (5120 + i) 1 m m' s (omega arith) in
    let s0 = votes-above 12288 (5120 + i) 1 m m' s (omega arith) in
    let f1 = votes-above 13312 (5120 + i) 1 m m' s (omega arith) in
    let s1 = votes-below 4096 (5120 + i) 1 m m' s (omega arith) in
    let s2 = votes-above 8192 (5120 + i) 1 m m' s (omega arith) in
    let e = entries-above (5120 + i) 1 m m' s (omega arith) in
    let p = h.phase in
    let numbers : SameNumbers (settled (Doomed J2) (unused m)) (settled (Doomed J2) (unused m')) = record { n01 = (unused-same s1); n02 = (omega arith); n10 = (unused-same f0); n12 = (unused-same s2); n20 = refl; n21 = refl; free = e.free } in (
      record { sound = record { phase = simp (s2, f0, s1) ((omega arith, omega arith), p.1, p.2, p.3, omega arith); lasts = Last-moved (settled (Doomed J2) (unused m)) (settled (Doomed J2) (unused m')) numbers h.lasts }; numbers = numbers },
      v.opened,
    )

settled-same : (p : ErasePhase) (u v : Unused) → SameNumbers u v → SameNumbers (settled p u) (settled p v)
settled-same p u v n = subst (λ w. SameNumbers (settled p u) (settled p w)) (sym (same-unused u v n)) (same-refl (settled p u))

-- A vote is given up: no vote is open that wasn't.
record SameOpen (s s' : JournalTally) : Type 0 where
  o01 : s'.j0_for_1.opened ≡ s.j0_for_1.opened
  w01 : s'.j0_for_1.wrong ≡ s.j0_for_1.wrong
  o02 : s'.j0_for_2.opened ≡ s.j0_for_2.opened
  w02 : s'.j0_for_2.wrong ≡ s.j0_for_2.wrong
  o12 : s'.j1_for_2.opened ≡ s.j1_for_2.opened
  w12 : s'.j1_for_2.wrong ≡ s.j1_for_2.wrong
  o10 : s'.j1_for_0.opened ≡ s.j1_for_0.opened
  w10 : s'.j1_for_0.wrong ≡ s.j1_for_0.wrong
  o20 : s'.j2_for_0.opened ≡ s.j2_for_0.opened
  w20 : s'.j2_for_0.wrong ≡ s.j2_for_0.wrong
  o21 : s'.j2_for_1.opened ≡ s.j2_for_1.opened
  w21 : s'.j2_for_1.wrong ≡ s.j2_for_1.wrong
  opened : s'.opened ≡ s.opened

phase-kept : (p : ErasePhase) (s s' : JournalTally) → SameOpen s s' → IsInPhase p s → IsInPhase p s'
phase-kept Idle s s' e h = rw (e.o01, e.w01, e.o02, e.w02, e.o12, e.w12, e.o10, e.w10, e.o20, e.w20, e.o21, e.w21, e.opened) h
phase-kept (Asked J0) s s' e h = rw (e.o01, e.w01, e.o02, e.w02, e.o12, e.w12, e.o10, e.w10, e.o20, e.w20, e.o21, e.w21, e.opened) h
phase-kept (Asked J1) s s' e h = rw (e.o01, e.w01, e.o02, e.w02, e.o12, e.w12, e.o10, e.w10, e.o20, e.w20, e.o21, e.w21, e.opened) h
phase-kept (Asked J2) s s' e h = rw (e.o01, e.w01, e.o02, e.w02, e.o12, e.w12, e.o10, e.w10, e.o20, e.w20, e.o21, e.w21, e.opened) h
phase-kept (Doomed J0) s s' e h = rw (e.o10, e.w10, e.o20, e.w20, e.o21, e.w21, e.o12, e.w12) h
phase-kept (Doomed J1) s s' e h = rw (e.o21, e.w21, e.o01, e.w01, e.o02, e.w02, e.o20, e.w20, e.opened) h
phase-kept (Doomed J2) s s' e h = rw (e.o02, e.w02, e.o12, e.w12, e.o10, e.w10, e.o01, e.w01, e.opened) h
phase-kept (Closing J0) s s' e h = rw (e.o01, e.w01, e.o02, e.w02, e.o12, e.w12, e.o10, e.w10, e.o20, e.w20, e.o21, e.w21, e.opened) h
phase-kept (Closing J1) s s' e h = rw (e.o01, e.w01, e.o02, e.w02, e.o12, e.w12, e.o10, e.w10, e.o20, e.w20, e.o21, e.w21, e.opened) h
phase-kept (Closing J2) s s' e h = rw (e.o01, e.w01, e.o02, e.w02, e.o12, e.w12, e.o10, e.w10, e.o20, e.w20, e.o21, e.w21, e.opened) h

given_first0 : (p : ErasePhase) (i : ℕ) (m m' : List ℕ) → AreJournalsSound p m → Last (settled p (first_spent J0 (unused m))) → i < 1024 → Changed (9216 + i) 255 253 m m'
    → IsStep (settled p (first_spent J0 (unused m))) p m' × (open_blocks m' ≡ open_blocks m)
given_first0 p i m m' h l low change =
    let s = changed-spoiled (9216 + i) 255 253 m m' change in
    let v = vote-given-up 9216 i m m' low change in
    let r01 = votes-below 4096 (9216 + i) 1 m m' s (omega arith) in
    let r02 = votes-below 5120 (9216 + i) 1 m m' s (omega arith) in
    let r12 = votes-below 8192 (9216 + i) 1 m m' s (omega arith) in
    let r20 = votes-above 12288 (9216 + i) 1 m m' s (omega arith) in
    let r21 = votes-above 13312 (9216 + i) 1 m m' s (omega arith) in
    let e = entries-below (9216 + i) 1 m m' s (omega arith) in
    let same : SameOpen (tally_of m) (tally_of m') = record { o01 = ap (λ v. v.opened) r01; w01 = ap (λ v. v.wrong) r01; o02 = ap (λ v. v.opened) r02; w02 = ap (λ v. v.wrong) r02; o12 = ap (λ v. v.opened) r12; w12 = ap (λ v. v.wrong) r12; o10 = v.opened; w10 = v.wrong; o20 = ap (λ v. v.opened) r20; w20 = ap (λ v. v.wrong) r20; o21 = ap (λ v. v.opened) r21; w21 = ap (λ v. v.wrong) r21; opened = e.opened } in
    let numbers : SameNumbers (first_spent J0 (unused m)) (unused m') = record { n01 = unused-same r01; n02 = unused-same r02; n10 = omega arith; n12 = unused-same r12; n20 = unused-same r20; n21 = unused-same r21; free = e.free } in
    let is = settled-same p (first_spent J0 (unused m)) (unused m') numbers in
    (record { sound = record { phase = phase-kept p (tally_of m) (tally_of m') same h.phase; lasts = Last-moved (settled p (first_spent J0 (unused m))) (settled p (unused m')) is l }; numbers = is }, e.opened)

given_first1 : (p : ErasePhase) (i : ℕ) (m m' : List ℕ) → AreJournalsSound p m → Last (settled p (first_spent J1 (unused m))) → i < 1024 → Changed (13312 + i) 255 253 m m'
    → IsStep (settled p (first_spent J1 (unused m))) p m' × (open_blocks m' ≡ open_blocks m)
given_first1 p i m m' h l low change =
    let s = changed-spoiled (13312 + i) 255 253 m m' change in
    let v = vote-given-up 13312 i m m' low change in
    let r01 = votes-below 4096 (13312 + i) 1 m m' s (omega arith) in
    let r02 = votes-below 5120 (13312 + i) 1 m m' s (omega arith) in
    let r12 = votes-below 8192 (13312 + i) 1 m m' s (omega arith) in
    let r10 = votes-below 9216 (13312 + i) 1 m m' s (omega arith) in
    let r20 = votes-below 12288 (13312 + i) 1 m m' s (omega arith) in
    let e = entries-below (13312 + i) 1 m m' s (omega arith) in
    let same : SameOpen (tally_of m) (tally_of m') = record { o01 = ap (λ v. v.opened) r01; w01 = ap (λ v. v.wrong) r01; o02 = ap (λ v. v.opened) r02; w02 = ap (λ v. v.wrong) r02; o12 = ap (λ v. v.opened) r12; w12 = ap (λ v. v.wrong) r12; o10 = ap (λ v. v.opened) r10; w10 = ap (λ v. v.wrong) r10; o20 = ap (λ v. v.opened) r20; w20 = ap (λ v. v.wrong) r20; o21 = v.opened; w21 = v.wrong; opened = e.opened } in
    let numbers : SameNumbers (first_spent J1 (unused m)) (unused m') = record { n01 = unused-same r01; n02 = unused-same r02; n10 = unused-same r10; n12 = unused-same r12; n20 = unused-same r20; n21 = omega arith; free = e.free } in
    let is = settled-same p (first_spent J1 (unused m)) (unused m') numbers in
    (record { sound = record { phase = phase-kept p (tally_of m) (tally_of m') same h.phase; lasts = Last-moved (settled p (first_spent J1 (unused m))) (settled p (unused m')) is l }; numbers = is }, e.opened)

given_first2 : (p : ErasePhase) (i : ℕ) (m m' : List ℕ) → AreJournalsSound p m → Last (settled p (first_spent J2 (unused m))) → i < 1024 → Changed (5120 + i) 255 253 m m'
    → IsStep (settled p (first_spent J2 (unused m))) p m' × (open_blocks m' ≡ open_blocks m)
given_first2 p i m m' h l low change =
    let s = changed-spoiled (5120 + i) 255 253 m m' change in
    let v = vote-given-up 5120 i m m' low change in
    let r01 = votes-below 4096 (5120 + i) 1 m m' s (omega arith) in
    let r12 = votes-above 8192 (5120 + i) 1 m m' s (omega arith) in
    let r10 = votes-above 9216 (5120 + i) 1 m m' s (omega arith) in
    let r20 = votes-above 12288 (5120 + i) 1 m m' s (omega arith) in
    let r21 = votes-above 13312 (5120 + i) 1 m m' s (omega arith) in
    let e = entries-above (5120 + i) 1 m m' s (omega arith) in
    let same : SameOpen (tally_of m) (tally_of m') = record { o01 = ap (λ v. v.opened) r01; w01 = ap (λ v. v.wrong) r01; o02 = v.opened; w02 = v.wrong; o12 = ap (λ v. v.opened) r12; w12 = ap (λ v. v.wrong) r12; o10 = ap (λ v. v.opened) r10; w10 = ap (λ v. v.wrong) r10; o20 = ap (λ v. v.opened) r20; w20 = ap (λ v. v.wrong) r20; o21 = ap (λ v. v.opened) r21; w21 = ap (λ v. v.wrong) r21; opened = e.opened } in
    let numbers : SameNumbers (first_spent J2 (unused m)) (unused m') = record { n01 = unused-same r01; n02 = omega arith; n10 = unused-same r10; n12 = unused-same r12; n20 = unused-same r20; n21 = unused-same r21; free = e.free } in
    let is = settled-same p (first_spent J2 (unused m)) (unused m') numbers in
    (record { sound = record { phase = phase-kept p (tally_of m) (tally_of m') same h.phase; lasts = Last-moved (settled p (first_spent J2 (unused m))) (settled p (unused m')) is l }; numbers = is }, e.opened)

given_second0 : (p : ErasePhase) (i : ℕ) (m m' : List ℕ) → AreJournalsSound p m → Last (settled p (second_spent J0 (unused m))) → i < 1024 → Changed (12288 + i) 255 253 m m'
    → IsStep (settled p (second_spent J0 (unused m))) p m' × (open_blocks m' ≡ open_blocks m)
given_second0 p i m m' h l low change =
    let s = changed-spoiled (12288 + i) 255 253 m m' change in
    let v = vote-given-up 12288 i m m' low change in
    let r01 = votes-below 4096 (12288 + i) 1 m m' s (omega arith) in
    let r02 = votes-below 5120 (12288 + i) 1 m m' s (omega arith) in
    let r12 = votes-below 8192 (12288 + i) 1 m m' s (omega arith) in
    let r10 = votes-below 9216 (12288 + i) 1 m m' s (omega arith) in
    let r21 = votes-above 13312 (12288 + i) 1 m m' s (omega arith) in
    let e = entries-below (12288 + i) 1 m m' s (omega arith) in
    let same : SameOpen (tally_of m) (tally_of m') = record { o01 = ap (λ v. v.opened) r01; w01 = ap (λ v. v.wrong) r01; o02 = ap (λ v. v.opened) r02; w02 = ap (λ v. v.wrong) r02; o12 = ap (λ v. v.opened) r12; w12 = ap (λ v. v.wrong) r12; o10 = ap (λ v. v.opened) r10; w10 = ap (λ v. v.wrong) r10; o20 = v.opened; w20 = v.wrong; o21 = ap (λ v. v.opened) r21; w21 = ap (λ v. v.wrong) r21; opened = e.opened } in
    let numbers : SameNumbers (second_spent J0 (unused m)) (unused m') = record { n01 = unused-same r01; n02 = unused-same r02; n10 = unused-same r10; n12 = unused-same r12; n20 = omega arith; n21 = unused-same r21; free = e.free } in
    let is = settled-same p (second_spent J0 (unused m)) (unused m') numbers in
    (record { sound = record { phase = phase-kept p (tally_of m) (tally_of m') same h.phase; lasts = Last-moved (settled p (second_spent J0 (unused m))) (settled p (unused m')) is l }; numbers = is }, e.opened)

given_second1 : (p : ErasePhase) (i : ℕ) (m m' : List ℕ) → AreJournalsSound p m → Last (settled p (second_spent J1 (unused m))) → i < 1024 → Changed (4096 + i) 255 253 m m'
    → IsStep (settled p (second_spent J1 (unused m))) p m' × (open_blocks m' ≡ open_blocks m)
given_second1 p i m m' h l low change =
    let s = changed-spoiled (4096 + i) 255 253 m m' change in
    let v = vote-given-up 4096 i m m' low change in
    let r02 = votes-above 5120 (4096 + i) 1 m m' s (omega arith) in
    let r12 = votes-above 8192 (4096 + i) 1 m m' s (omega arith) in
    let r10 = votes-above 9216 (4096 + i) 1 m m' s (omega arith) in
    let r20 = votes-above 12288 (4096 + i) 1 m m' s (omega arith) in
    let r21 = votes-above 13312 (4096 + i) 1 m m' s (omega arith) in
    let e = entries-above (4096 + i) 1 m m' s (omega arith) in
    let same : SameOpen (tally_of m) (tally_of m') = record { o01 = v.opened; w01 = v.wrong; o02 = ap (λ v. v.opened) r02; w02 = ap (λ v. v.wrong) r02; o12 = ap (λ v. v.opened) r12; w12 = ap (λ v. v.wrong) r12; o10 = ap (λ v. v.opened) r10; w10 = ap (λ v. v.wrong) r10; o20 = ap (λ v. v.opened) r20; w20 = ap (λ v. v.wrong) r20; o21 = ap (λ v. v.opened) r21; w21 = ap (λ v. v.wrong) r21; opened = e.opened } in
    let numbers : SameNumbers (second_spent J1 (unused m)) (unused m') = record { n01 = omega arith; n02 = unused-same r02; n10 = unused-same r10; n12 = unused-same r12; n20 = unused-same r20; n21 = unused-same r21; free = e.free } in
    let is = settled-same p (second_spent J1 (unused m)) (unused m') numbers in
    (record { sound = record { phase = phase-kept p (tally_of m) (tally_of m') same h.phase; lasts = Last-moved (settled p (second_spent J1 (unused m))) (settled p (unused m')) is l }; numbers = is }, e.opened)

given_second2 : (p : ErasePhase) (i : ℕ) (m m' : List ℕ) → AreJournalsSound p m → Last (settled p (second_spent J2 (unused m))) → i < 1024 → Changed (8192 + i) 255 253 m m'
    → IsStep (settled p (second_spent J2 (unused m))) p m' × (open_blocks m' ≡ open_blocks m)
given_second2 p i m m' h l low change =
    let s = changed-spoiled (8192 + i) 255 253 m m' change in
    let v = vote-given-up 8192 i m m' low change in
    let r01 = votes-below 4096 (8192 + i) 1 m m' s (omega arith) in
    let r02 = votes-below 5120 (8192 + i) 1 m m' s (omega arith) in
    let r10 = votes-above 9216 (8192 + i) 1 m m' s (omega arith) in
    let r20 = votes-above 12288 (8192 + i) 1 m m' s (omega arith) in
    let r21 = votes-above 13312 (8192 + i) 1 m m' s (omega arith) in
    let e = entries-below (8192 + i) 1 m m' s (omega arith) in
    let same : SameOpen (tally_of m) (tally_of m') = record { o01 = ap (λ v. v.opened) r01; w01 = ap (λ v. v.wrong) r01; o02 = ap (λ v. v.opened) r02; w02 = ap (λ v. v.wrong) r02; o12 = v.opened; w12 = v.wrong; o10 = ap (λ v. v.opened) r10; w10 = ap (λ v. v.wrong) r10; o20 = ap (λ v. v.opened) r20; w20 = ap (λ v. v.wrong) r20; o21 = ap (λ v. v.opened) r21; w21 = ap (λ v. v.wrong) r21; opened = e.opened } in
    let numbers : SameNumbers (second_spent J2 (unused m)) (unused m') = record { n01 = unused-same r01; n02 = unused-same r02; n10 = unused-same r10; n12 = omega arith; n20 = unused-same r20; n21 = unused-same r21; free = e.free } in
    let is = settled-same p (second_spent J2 (unused m)) (unused m') numbers in
    (record { sound = record { phase = phase-kept p (tally_of m) (tally_of m') same h.phase; lasts = Last-moved (settled p (second_spent J2 (unused m))) (settled p (unused m')) is l }; numbers = is }, e.opened)

-- The steps, for any journal.
pub asks : (x : JournalId) (i : ℕ) (m m' : List ℕ) → MayErase x m → i < 1024 → Changed (first_at x + i) 255 254 m m' → IsStep (once_erased x (unused m)) (Asked x) m'
asks J0 i m m' h low change = ask0 i m m' h low change
asks J1 i m m' h low change = ask1 i m m' h low change
asks J2 i m m' h low change = ask2 i m m' h low change

pub dooms : (x : JournalId) (i : ℕ) (m m' : List ℕ) → AreJournalsSound (Asked x) m → i < 1024 → Changed (second_at x + i) 255 254 m m' → IsNext (Asked x) m (Doomed x) m'
dooms J0 i m m' h low change = doom0 i m m' h low change
dooms J1 i m m' h low change = doom1 i m m' h low change
dooms J2 i m m' h low change = doom2 i m m' h low change

pub spoils : (x : JournalId) (m m' : List ℕ) → AreJournalsSound (Doomed x) m → Spoiled (journal_at x) 4096 m m' → IsNext (Doomed x) m (Doomed x) m'
spoils J0 m m' h s = spoil0 m m' h s
spoils J1 m m' h s = spoil1 m m' h s
spoils J2 m m' h s = spoil2 m m' h s

pub closes_first : (x : JournalId) (i : ℕ) (m m' : List ℕ) → AreJournalsSound (Doomed x) m → (first (tally_of m) x).opened ≡ 1 → IsBlank x m → i < 1024 → Changed (first_at x + i) 254 252 m m' → IsNext (Doomed x) m (Closing x) m'
closes_first J0 i m m' h o b low change = close_first0 i m m' h o b low change
closes_first J1 i m m' h o b low change = close_first1 i m m' h o b low change
closes_first J2 i m m' h o b low change = close_first2 i m m' h o b low change

pub closes_second : (x : JournalId) (i : ℕ) (m m' : List ℕ) → AreJournalsSound (Closing x) m → i < 1024 → Changed (second_at x + i) 254 252 m m' → IsNext (Closing x) m Idle m'
closes_second J0 i m m' h low change = close_second0 i m m' h low change
closes_second J1 i m m' h low change = close_second1 i m m' h low change
closes_second J2 i m m' h low change = close_second2 i m m' h low change

pub freshens : (x : JournalId) (i : ℕ) (m m' : List ℕ) → AreJournalsSound (Doomed x) m → Last (renewed x (first_spent x (unused m))) → i < 1024 → Changed (first_at x + i) 255 254 m m'
    → IsStep (renewed x (first_spent x (unused m))) (Doomed x) m' × ((first (tally_of m') x).opened ≡ (first (tally_of m) x).opened + 1)
freshens J0 i m m' h l low change = fresh0 i m m' h l low change
freshens J1 i m m' h l low change = fresh1 i m m' h l low change
freshens J2 i m m' h l low change = fresh2 i m m' h l low change

pub closes_older : (x : JournalId) (i : ℕ) (m m' : List ℕ) → AreJournalsSound (Doomed x) m → 2 ≤ (first (tally_of m) x).opened → i < 1024 → Changed (first_at x + i) 254 252 m m'
    → IsNext (Doomed x) m (Doomed x) m' × ((first (tally_of m') x).opened + 1 ≡ (first (tally_of m) x).opened)
closes_older J0 i m m' h more low change = older0 i m m' h more low change
closes_older J1 i m m' h more low change = older1 i m m' h more low change
closes_older J2 i m m' h more low change = older2 i m m' h more low change

pub gives_first : (x : JournalId) (p : ErasePhase) (i : ℕ) (m m' : List ℕ) → AreJournalsSound p m → Last (settled p (first_spent x (unused m))) → i < 1024 → Changed (first_at x + i) 255 253 m m'
    → IsStep (settled p (first_spent x (unused m))) p m' × (open_blocks m' ≡ open_blocks m)
gives_first J0 p i m m' h l low change = given_first0 p i m m' h l low change
gives_first J1 p i m m' h l low change = given_first1 p i m m' h l low change
gives_first J2 p i m m' h l low change = given_first2 p i m m' h l low change

pub gives_second : (x : JournalId) (p : ErasePhase) (i : ℕ) (m m' : List ℕ) → AreJournalsSound p m → Last (settled p (second_spent x (unused m))) → i < 1024 → Changed (second_at x + i) 255 253 m m'
    → IsStep (settled p (second_spent x (unused m))) p m' × (open_blocks m' ≡ open_blocks m)
gives_second J0 p i m m' h l low change = given_second0 p i m m' h l low change
gives_second J1 p i m m' h l low change = given_second1 p i m m' h l low change
gives_second J2 p i m m' h l low change = given_second2 p i m m' h l low change
