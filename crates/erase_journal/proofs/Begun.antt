-- A journal for whose erase both others vote is the one that is being erased.
use Rattle.std.proofs.Common.{◌≡◌, ◌+◌, ◌≤◌, ◌⊎◌, refl, arith, inl, inr}
use Rattle.nor_layout.specs.declared.journal.JournalId.{JournalId}
use Rattle.nor_layout.specs.declared.journal.JournalId.TheVariants.{J0, J1, J2}
use Rattle.nor_layout.specs.Journals.{journal_at}
use Rattle.erase_journal.specs.declared.phase.ErasePhase.{ErasePhase}
use Rattle.erase_journal.specs.declared.phase.ErasePhase.TheVariants.{Idle, Asked, Doomed, Closing}
use Rattle.erase_journal.specs.declared.tally.JournalTally.{JournalTally}
use Rattle.erase_journal.specs.Journals.{IsInPhase, begun, first, second}

pub doomed-only : (x : JournalId) (p : ErasePhase) (s : JournalTally) → IsInPhase p s → 1 ≤ (first s x).opened → (second s x).opened ≡ 1 → begun p ≡ Doomed x
doomed-only J0 Idle s h f g = absurd (let e = h.0.0.0 in omega (arith, e, f))
doomed-only J0 (Asked J0) s h f g = refl
doomed-only J0 (Asked J1) s h f g = absurd (let e = h.3.0.0 in omega (arith, e, f))
doomed-only J0 (Asked J2) s h f g = absurd (let e = h.2.0.0 in omega (arith, e, f))
doomed-only J0 (Doomed J0) s h f g = refl
doomed-only J0 (Doomed J1) s h f g = absurd (let e = h.3.0 in omega (arith, e, g))
doomed-only J0 (Doomed J2) s h f g = absurd (let e = h.2.0 in omega (arith, e, f))
doomed-only J0 (Closing J0) s h f g = absurd (let e = h.0.0 in omega (arith, e, f))
doomed-only J0 (Closing J1) s h f g = absurd (let e = h.3.0.0 in omega (arith, e, f))
doomed-only J0 (Closing J2) s h f g = absurd (let e = h.2.0.0 in omega (arith, e, f))
doomed-only J1 Idle s h f g = absurd (let e = h.1.0.0 in omega (arith, e, f))
doomed-only J1 (Asked J0) s h f g = absurd (let e = h.2.0.0 in omega (arith, e, f))
doomed-only J1 (Asked J1) s h f g = refl
doomed-only J1 (Asked J2) s h f g = absurd (let e = h.3.0.0 in omega (arith, e, f))
doomed-only J1 (Doomed J0) s h f g = absurd (let e = h.2.0 in omega (arith, e, f))
doomed-only J1 (Doomed J1) s h f g = refl
doomed-only J1 (Doomed J2) s h f g = absurd (let e = h.3.0 in omega (arith, e, g))
doomed-only J1 (Closing J0) s h f g = absurd (let e = h.2.0.0 in omega (arith, e, f))
doomed-only J1 (Closing J1) s h f g = absurd (let e = h.0.0 in omega (arith, e, f))
doomed-only J1 (Closing J2) s h f g = absurd (let e = h.3.0.0 in omega (arith, e, f))
doomed-only J2 Idle s h f g = absurd (let e = h.2.0.0 in omega (arith, e, f))
doomed-only J2 (Asked J0) s h f g = absurd (let e = h.3.0.0 in omega (arith, e, f))
doomed-only J2 (Asked J1) s h f g = absurd (let e = h.2.0.0 in omega (arith, e, f))
doomed-only J2 (Asked J2) s h f g = refl
doomed-only J2 (Doomed J0) s h f g = absurd (let e = h.3.0 in omega (arith, e, g))
doomed-only J2 (Doomed J1) s h f g = absurd (let e = h.2.0 in omega (arith, e, f))
doomed-only J2 (Doomed J2) s h f g = refl
doomed-only J2 (Closing J0) s h f g = absurd (let e = h.3.0.0 in omega (arith, e, f))
doomed-only J2 (Closing J1) s h f g = absurd (let e = h.2.0.0 in omega (arith, e, f))
doomed-only J2 (Closing J2) s h f g = absurd (let e = h.0.0 in omega (arith, e, f))

-- the votes for a doomed journal
pub doomed-votes : (x : JournalId) (s : JournalTally) → IsInPhase (Doomed x) s → (1 ≤ (first s x).opened) × ((second s x).opened ≡ 1)
doomed-votes J0 s h = (h.0.0, h.1.0)
doomed-votes J1 s h = (h.0.0, h.1.0)
doomed-votes J2 s h = (h.0.0, h.1.0)

-- another journal's votes, and the entries, lie apart
pub apart : (x j : JournalId) → (j ≡ x) ⊎ ((journal_at j + 2048 ≤ journal_at x) ⊎ (journal_at x + 4096 ≤ journal_at j))
apart J0 J0 = inl refl
apart J0 J1 = inr (inr (omega arith))
apart J0 J2 = inr (inr (omega arith))
apart J1 J0 = inr (inl (omega arith))
apart J1 J1 = inl refl
apart J1 J2 = inr (inr (omega arith))
apart J2 J0 = inr (inl (omega arith))
apart J2 J1 = inr (inl (omega arith))
apart J2 J2 = inl refl

pub entries-apart : (x : JournalId) → (x ≡ J0) ⊎ (8192 ≤ journal_at x)
entries-apart J0 = inl refl
entries-apart J1 = inr (omega arith)
entries-apart J2 = inr (omega arith)

pub from-journals : (x : JournalId) → 4096 ≤ journal_at x
from-journals J0 = omega arith
from-journals J1 = omega arith
from-journals J2 = omega arith
