-- An erase of a journal, step by step: what it leaves, also where it is cut.
use Rattle.std.proofs.Common.{◌≡◌, ℕ, ◌+◌, ◌-◌, ◌*◌, ◌<◌, ◌≤◌, not, ◌||◌, List, length, refl, ap, ◌∙◌, arith, lit<, lit≤, add_assoc}
use Rattle.std.specs.Prelude.{◌==◌}
use Rattle.chip_model.specs.Memory.{byte, erased, TornErase}
use Rattle.nor_driver.specs.State.{Leaves}
use Rattle.nor_layout.specs.declared.journal.JournalId.{JournalId}
use Rattle.nor_layout.specs.declared.journal.JournalId.TheVariants.{J0, J1, J2}
use Rattle.nor_layout.specs.Journals.{journal_at, first_at, second_at}
use Rattle.erase_journal.specs.declared.phase.ErasePhase.{ErasePhase}
use Rattle.erase_journal.specs.declared.phase.ErasePhase.TheVariants.{Idle, Asked, Doomed, Closing}
use Rattle.erase_journal.specs.declared.unused.Unused.{Unused}
use Rattle.erase_journal.specs.Places.{Spoiled, Changed}
use Rattle.erase_journal.specs.Votes.{Last, first_spent, second_spent, once_erased, renewed}
use Rattle.erase_journal.specs.Journals.{votes_at, first, tally_of, unused, free_entries, open_blocks, is_free_entry, entry_byte, settled, AreJournalsSound, IsHealthy}
use Rattle.erase_journal.specs.Blocks.{SameChip, SameBlocks}
use Rattle.erase_journal.specs.Steps.{OneChanged, PerhapsChanged, not_begun, done, KeepsBlocks, SameNumbers, IsStep, IsNext, MayErase}
use Rattle.erase_journal.proofs.Counts.{how_many-all, how_many-each_fails}
use Rattle.erase_journal.proofs.Opened.{none-blocks}
use Rattle.erase_journal.proofs.Regions.{changed-spoiled, entries-below, entries-above}
use Rattle.erase_journal.proofs.Steps.{IsBlank, asks, dooms, second-first, asked-one, spoils, spoil-first, closes_first, closes_second, freshens, closes_older, gives_first, gives_second}
use Rattle.erase_journal.proofs.Blocks.{IsPlain, plain-none, plain-kept, asked-plain, doomed-plain, closing-plain}
use Rattle.erase_journal.proofs.Effects.{erase-leaves, erased-spoiled, erased-bytes}

pub same-chip-on : (m m1 m2 : List ℕ) → SameChip m m1 → SameChip m1 m2 → SameChip m m2
same-chip-on m m1 m2 a b = record { same_length = b.same_length ∙ a.same_length; superblock = λ k low. b.superblock k low ∙ a.superblock k low }

pub same-blocks-refl : (m : List ℕ) → SameBlocks m m
same-blocks-refl m = record { chip = record { same_length = refl; superblock = λ k low. refl }; each = λ b from to. refl }

pub same-blocks-on : (m m1 m2 : List ℕ) → SameBlocks m m1 → SameBlocks m1 m2 → SameBlocks m m2
same-blocks-on m m1 m2 a b = record {
  chip = same-chip-on m m1 m2 a.chip b.chip;
  each = λ n from to. b.each n from (rw a.chip.same_length to) ∙ a.each n from to;
}

pub stands-as : (p : ErasePhase) (m m' : List ℕ) → AreJournalsSound p m' → SameBlocks m m' → KeepsBlocks m m'
stands-as p m m' h s = record { healthy = (p, h); blocks = s }

pub stands-refl : (m : List ℕ) → IsHealthy m → KeepsBlocks m m
stands-refl m h = record { healthy = h; blocks = same-blocks-refl m }

pub stands-on : (m m1 m2 : List ℕ) → SameBlocks m m1 → KeepsBlocks m1 m2 → KeepsBlocks m m2
stands-on m m1 m2 a s = record { healthy = s.healthy; blocks = same-blocks-on m m1 m2 a s.blocks }

-- a journal's erase reaches no data block
first-low : (x : JournalId) (i : ℕ) → i < 1024 → first_at x + i + 1 ≤ 16384
first-low J0 i low = omega arith
first-low J1 i low = omega arith
first-low J2 i low = omega arith

second-low : (x : JournalId) (i : ℕ) → i < 1024 → second_at x + i + 1 ≤ 16384
second-low J0 i low = omega arith
second-low J1 i low = omega arith
second-low J2 i low = omega arith

first-high : (x : JournalId) (i : ℕ) → 4096 ≤ first_at x + i
first-high J0 i = omega arith
first-high J1 i = omega arith
first-high J2 i = omega arith

second-high : (x : JournalId) (i : ℕ) → 4096 ≤ second_at x + i
second-high J0 i = omega arith
second-high J1 i = omega arith
second-high J2 i = omega arith

journal-high : (x : JournalId) → 4096 ≤ journal_at x
journal-high J0 = lit≤ tt
journal-high J1 = lit≤ tt
journal-high J2 = lit≤ tt

journal-low : (x : JournalId) → journal_at x + 4096 ≤ 16384
journal-low J0 = lit≤ tt
journal-low J1 = lit≤ tt
journal-low J2 = lit≤ tt

vote-blocks : (at old new : ℕ) (m m' : List ℕ) → Changed at old new m m' → 4096 ≤ at → at + 1 ≤ 16384 → IsPlain m → IsPlain m' → SameBlocks m m'
vote-blocks at old new m m' change high low p p' = plain-kept at 1 m m' p p' (changed-spoiled at old new m m' change) high low

-- The first vote.
pub first-opened : (x : JournalId) (m m' : List ℕ) → MayErase x m → OneChanged (first_at x) 255 254 m m'
    → IsStep (once_erased x (unused m)) (Asked x) m' × SameBlocks m m'
first-opened x m m' h c =
    let s = asks x c.at m m' h c.within c.change in
    (s, vote-blocks (first_at x + c.at) 255 254 m m' c.change (first-high x c.at) (first-low x c.at c.within) (plain-none m h.settled.none) (asked-plain x m' s.sound))

pub first-cut : (x : JournalId) (m m' : List ℕ) → MayErase x m → PerhapsChanged (first_at x) 255 254 m m' → KeepsBlocks m m'
first-cut x m m' h (not_begun e) = rw e (record { healthy = (Idle, h.settled.sound); blocks = same-blocks-refl m })
first-cut x m m' h (done c) = let s = first-opened x m m' h c in record { healthy = (Asked x, s.0.sound); blocks = s.1 }

-- The second.
pub second-opened : (x : JournalId) (m m' : List ℕ) → AreJournalsSound (Asked x) m → OneChanged (second_at x) 255 254 m m'
    → IsNext (Asked x) m (Doomed x) m' × SameBlocks m m' × ((first (tally_of m') x).opened ≡ 1)
second-opened x m m' h c =
    let s = dooms x c.at m m' h c.within c.change in
    (s, vote-blocks (second_at x + c.at) 255 254 m m' c.change (second-high x c.at) (second-low x c.at c.within) (asked-plain x m h) (doomed-plain x m' s.sound), ap (λ v. v.opened) (second-first x c.at m m' c.within c.change) ∙ asked-one x m h)

pub second-cut : (x : JournalId) (m m' : List ℕ) → AreJournalsSound (Asked x) m → PerhapsChanged (second_at x) 255 254 m m' → KeepsBlocks m m'
second-cut x m m' h (not_begun e) = rw e (record { healthy = (Asked x, h); blocks = same-blocks-refl m })
second-cut x m m' h (done c) = let s = second-opened x m m' h c in record { healthy = (Doomed x, s.0.sound); blocks = s.1 }

-- The erase, whole or torn.
pub journal-spoiled : (x : JournalId) (m m' : List ℕ) → AreJournalsSound (Doomed x) m → Spoiled (journal_at x) 4096 m m'
    → IsNext (Doomed x) m (Doomed x) m' × SameBlocks m m'
journal-spoiled x m m' h s =
    let n = spoils x m m' h s in
    (n, plain-kept (journal_at x) 4096 m m' (doomed-plain x m h) (doomed-plain x m' n.sound) s (journal-high x) (journal-low x))

pub erase-cut : (x : JournalId) (m m' : List ℕ) → AreJournalsSound (Doomed x) m → Leaves m (TornErase m (journal_at x) 4096) (erased m (journal_at x) 4096) m' → KeepsBlocks m m'
erase-cut x m m' h l =
    let s = journal-spoiled x m m' h (erase-leaves m (journal_at x) 4096 m' l) in
    record { healthy = (Doomed x, s.0.sound); blocks = s.1 }

-- An erased region.
blank-votes : (m : List ℕ) (at : ℕ) → ((k : ℕ) → k < 1024 → byte m (at + k) ≡ 255)
    → ((votes_at m at).unused ≡ 1024) × (((votes_at m at).opened ≡ 0) × ((votes_at m at).wrong ≡ 0))
unfolding votes_at
blank-votes m at h = (
  how_many-all (λ k. byte m (at + k) == 255) 1024 (λ k low. rw (h k low) refl),
  (
    how_many-each_fails (λ k. byte m (at + k) == 254) 1024 (λ k low. rw (h k low) refl),
    how_many-each_fails (λ k. not (byte m (at + k) == 255 || byte m (at + k) == 254 || byte m (at + k) == 252 || byte m (at + k) == 253)) 1024 (λ k low. rw (h k low) refl),
  ),
)

blank-entry : (m : List ℕ) → ((k : ℕ) → k < 4096 → byte m (4096 + k) ≡ 255) → (i j : ℕ) → i < 512 → j < 4 → entry_byte m i j ≡ 255
blank-entry m h i j low small = let e : 6144 + 4 * i + j ≡ 4096 + (2048 + 4 * i + j) = omega arith in rw e (h (2048 + 4 * i + j) (omega arith))

blank-free : (m : List ℕ) → ((k : ℕ) → k < 4096 → byte m (4096 + k) ≡ 255) → free_entries m ≡ 512
unfolding free_entries
blank-free m h = how_many-all (is_free_entry m) 512 (λ i low. rw (blank-entry m h i 0 low (lit< tt), blank-entry m h i 1 low (lit< tt), blank-entry m h i 2 low (lit< tt), blank-entry m h i 3 low (lit< tt)) refl)

blank-open : (m : List ℕ) → ((k : ℕ) → k < 4096 → byte m (4096 + k) ≡ 255) → open_blocks m ≡ 0
blank-open m h = none-blocks m (λ i low. rw (blank-entry m h i 0 low (lit< tt)) refl)

apart-places : (a b k : ℕ) (m : List ℕ) → byte m (a + (b + k)) ≡ 255 → byte m (a + b + k) ≡ 255
apart-places a b k m h = rw (add_assoc a b k) h

pub blank : (x : JournalId) (m : List ℕ) → ((k : ℕ) → k < 4096 → byte m (journal_at x + k) ≡ 255) → IsBlank x m
blank J0 m h = record {
  second = blank-votes m 4096 (λ k low. h k (omega arith));
  first = blank-votes m 5120 (λ k low. apart-places 4096 1024 k m (h (1024 + k) (omega arith)));
  free = λ e. blank-free m h;
  none = λ e. blank-open m h;
}
blank J1 m h = record {
  second = blank-votes m 8192 (λ k low. h k (omega arith));
  first = blank-votes m 9216 (λ k low. apart-places 8192 1024 k m (h (1024 + k) (omega arith)));
  free = λ e. absurd (cc);
  none = λ e. absurd (cc);
}
blank J2 m h = record {
  second = blank-votes m 12288 (λ k low. h k (omega arith));
  first = blank-votes m 13312 (λ k low. apart-places 12288 1024 k m (h (1024 + k) (omega arith)));
  free = λ e. absurd (cc);
  none = λ e. absurd (cc);
}

pub journal-erased : (x : JournalId) (m : List ℕ) → 16384 ≤ length m → AreJournalsSound (Doomed x) m
    → IsNext (Doomed x) m (Doomed x) (erased m (journal_at x) 4096) × SameBlocks m (erased m (journal_at x) 4096) × IsBlank x (erased m (journal_at x) 4096)
journal-erased x m long h =
    let s = journal-spoiled x m (erased m (journal_at x) 4096) h (erased-spoiled m (journal_at x) 4096) in
    (s.0, s.1, blank x (erased m (journal_at x) 4096) (erased-bytes m (journal_at x) 4096 (let l = journal-low x in omega arith)))

-- The first vote is closed.
pub first-closed : (x : JournalId) (m m' : List ℕ) → AreJournalsSound (Doomed x) m → (first (tally_of m) x).opened ≡ 1 → IsBlank x m → OneChanged (first_at x) 254 252 m m'
    → IsNext (Doomed x) m (Closing x) m' × SameBlocks m m'
first-closed x m m' h o b c =
    let s = closes_first x c.at m m' h o b c.within c.change in
    (s, vote-blocks (first_at x + c.at) 254 252 m m' c.change (first-high x c.at) (first-low x c.at c.within) (doomed-plain x m h) (closing-plain x m' s.sound))

pub first-close-cut : (x : JournalId) (m m' : List ℕ) → AreJournalsSound (Doomed x) m → (first (tally_of m) x).opened ≡ 1 → IsBlank x m → PerhapsChanged (first_at x) 254 252 m m' → KeepsBlocks m m'
first-close-cut x m m' h o b (not_begun e) = rw e (record { healthy = (Doomed x, h); blocks = same-blocks-refl m })
first-close-cut x m m' h o b (done c) = let s = first-closed x m m' h o b c in record { healthy = (Closing x, s.0.sound); blocks = s.1 }

-- Another first vote, while x is doomed.
pub fresh-opened : (x : JournalId) (m m' : List ℕ) → AreJournalsSound (Doomed x) m → Last (renewed x (first_spent x (unused m))) → OneChanged (first_at x) 255 254 m m'
    → IsStep (renewed x (first_spent x (unused m))) (Doomed x) m' × SameBlocks m m' × ((first (tally_of m') x).opened ≡ (first (tally_of m) x).opened + 1)
fresh-opened x m m' h l c =
    let s = freshens x c.at m m' h l c.within c.change in
    (s.0, vote-blocks (first_at x + c.at) 255 254 m m' c.change (first-high x c.at) (first-low x c.at c.within) (doomed-plain x m h) (doomed-plain x m' s.0.sound), s.1)

pub fresh-cut : (x : JournalId) (m m' : List ℕ) → AreJournalsSound (Doomed x) m → Last (renewed x (first_spent x (unused m))) → PerhapsChanged (first_at x) 255 254 m m' → KeepsBlocks m m'
fresh-cut x m m' h l (not_begun e) = rw e (record { healthy = (Doomed x, h); blocks = same-blocks-refl m })
fresh-cut x m m' h l (done c) = let s = fresh-opened x m m' h l c in record { healthy = (Doomed x, s.0.sound); blocks = s.1 }

-- An older one is closed.
pub older-closed : (x : JournalId) (m m' : List ℕ) → AreJournalsSound (Doomed x) m → 2 ≤ (first (tally_of m) x).opened → OneChanged (first_at x) 254 252 m m'
    → IsNext (Doomed x) m (Doomed x) m' × SameBlocks m m' × ((first (tally_of m') x).opened + 1 ≡ (first (tally_of m) x).opened)
older-closed x m m' h more c =
    let s = closes_older x c.at m m' h more c.within c.change in
    (s.0, vote-blocks (first_at x + c.at) 254 252 m m' c.change (first-high x c.at) (first-low x c.at c.within) (doomed-plain x m h) (doomed-plain x m' s.0.sound), s.1)

pub older-cut : (x : JournalId) (m m' : List ℕ) → AreJournalsSound (Doomed x) m → 2 ≤ (first (tally_of m) x).opened → PerhapsChanged (first_at x) 254 252 m m' → KeepsBlocks m m'
older-cut x m m' h more (not_begun e) = rw e (record { healthy = (Doomed x, h); blocks = same-blocks-refl m })
older-cut x m m' h more (done c) = let s = older-closed x m m' h more c in record { healthy = (Doomed x, s.0.sound); blocks = s.1 }

-- A vote that is given up.
pub first-given-up : (x : JournalId) (p : ErasePhase) (m m' : List ℕ) → AreJournalsSound p m → open_blocks m ≡ 0 → Last (settled p (first_spent x (unused m))) → OneChanged (first_at x) 255 253 m m'
    → IsStep (settled p (first_spent x (unused m))) p m' × SameBlocks m m' × (open_blocks m' ≡ 0)
first-given-up x p m m' h none l c =
    let s = gives_first x p c.at m m' h l c.within c.change in
    let none' = s.1 ∙ none in
    (s.0, vote-blocks (first_at x + c.at) 255 253 m m' c.change (first-high x c.at) (first-low x c.at c.within) (plain-none m none) (plain-none m' none'), none')

pub first-given-cut : (x : JournalId) (p : ErasePhase) (m m' : List ℕ) → AreJournalsSound p m → open_blocks m ≡ 0 → Last (settled p (first_spent x (unused m))) → PerhapsChanged (first_at x) 255 253 m m' → KeepsBlocks m m'
first-given-cut x p m m' h none l (not_begun e) = rw e (record { healthy = (p, h); blocks = same-blocks-refl m })
first-given-cut x p m m' h none l (done c) = let s = first-given-up x p m m' h none l c in record { healthy = (p, s.0.sound); blocks = s.1 }

pub some-first-given : (x : JournalId) (m : List ℕ) → Last (first_spent x (unused m)) → 0 < (votes_at m (first_at x)).unused
some-first-given J0 m l = let s = l.some in omega arith
some-first-given J1 m l = let s = l.some in omega arith
some-first-given J2 m l = let s = l.some in omega arith

pub second-given-up : (x : JournalId) (p : ErasePhase) (m m' : List ℕ) → AreJournalsSound p m → open_blocks m ≡ 0 → Last (settled p (second_spent x (unused m))) → OneChanged (second_at x) 255 253 m m'
    → IsStep (settled p (second_spent x (unused m))) p m' × SameBlocks m m' × (open_blocks m' ≡ 0)
second-given-up x p m m' h none l c =
    let s = gives_second x p c.at m m' h l c.within c.change in
    let none' = s.1 ∙ none in
    (s.0, vote-blocks (second_at x + c.at) 255 253 m m' c.change (second-high x c.at) (second-low x c.at c.within) (plain-none m none) (plain-none m' none'), none')

pub second-given-cut : (x : JournalId) (p : ErasePhase) (m m' : List ℕ) → AreJournalsSound p m → open_blocks m ≡ 0 → Last (settled p (second_spent x (unused m))) → PerhapsChanged (second_at x) 255 253 m m' → KeepsBlocks m m'
second-given-cut x p m m' h none l (not_begun e) = rw e (record { healthy = (p, h); blocks = same-blocks-refl m })
second-given-cut x p m m' h none l (done c) = let s = second-given-up x p m m' h none l c in record { healthy = (p, s.0.sound); blocks = s.1 }

pub some-second-given : (x : JournalId) (m : List ℕ) → Last (second_spent x (unused m)) → 0 < (votes_at m (second_at x)).unused
some-second-given J0 m l = let s = l.some in omega arith
some-second-given J1 m l = let s = l.some in omega arith
some-second-given J2 m l = let s = l.some in omega arith

pub closing-none : (x : JournalId) (m : List ℕ) → AreJournalsSound (Closing x) m → open_blocks m ≡ 0
closing-none J0 m h = h.phase.4
closing-none J1 m h = h.phase.4
closing-none J2 m h = h.phase.4

-- A journal that is asked for is doomed now: a vote that was spent before is spent after.
pub asked-spent : (x : JournalId) (u v : Unused) → SameNumbers (settled (Asked x) u) (settled (Doomed x) v) → SameNumbers (settled (Asked x) (first_spent x u)) (settled (Doomed x) (first_spent x v))
asked-spent J0 u v n = record { n01 = refl; n02 = refl; n10 = ap (λ k. k - 1) n.n10; n12 = n.n12; n20 = n.n20; n21 = n.n21; free = refl }
asked-spent J1 u v n = record { n01 = n.n01; n02 = n.n02; n10 = refl; n12 = refl; n20 = n.n20; n21 = ap (λ k. k - 1) n.n21; free = n.free }
asked-spent J2 u v n = record { n01 = n.n01; n02 = ap (λ k. k - 1) n.n02; n10 = n.n10; n12 = n.n12; n20 = refl; n21 = refl; free = n.free }

-- A first vote is left to be opened.
pub some-fresh : (x : JournalId) (m : List ℕ) → Last (renewed x (first_spent x (unused m))) → 0 < (votes_at m (first_at x)).unused
some-fresh J0 m l = let s = l.some in omega arith
some-fresh J1 m l = let s = l.some in omega arith
some-fresh J2 m l = let s = l.some in omega arith

pub first-opened-votes : (x : JournalId) (m : List ℕ) → (votes_at m (first_at x)).opened ≡ (first (tally_of m) x).opened
first-opened-votes J0 m = refl
first-opened-votes J1 m = refl
first-opened-votes J2 m = refl

-- The second.
closed-none : (x : JournalId) (i : ℕ) (m m' : List ℕ) → AreJournalsSound (Closing x) m → i < 1024 → Changed (second_at x + i) 254 252 m m' → open_blocks m' ≡ 0
closed-none J0 i m m' h low change = let p = h.phase in let e = entries-below (12288 + i) 1 m m' (changed-spoiled (12288 + i) 254 252 m m' change) (omega arith) in omega arith
closed-none J1 i m m' h low change = let p = h.phase in let e = entries-above (4096 + i) 1 m m' (changed-spoiled (4096 + i) 254 252 m m' change) (omega arith) in omega arith
closed-none J2 i m m' h low change = let p = h.phase in let e = entries-below (8192 + i) 1 m m' (changed-spoiled (8192 + i) 254 252 m m' change) (omega arith) in omega arith

pub second-closed : (x : JournalId) (m m' : List ℕ) → AreJournalsSound (Closing x) m → OneChanged (second_at x) 254 252 m m'
    → IsNext (Closing x) m Idle m' × SameBlocks m m' × (open_blocks m' ≡ 0)
second-closed x m m' h c =
    let s = closes_second x c.at m m' h c.within c.change in
    let none = closed-none x c.at m m' h c.within c.change in
    (s, vote-blocks (second_at x + c.at) 254 252 m m' c.change (second-high x c.at) (second-low x c.at c.within) (closing-plain x m h) (plain-none m' none), none)

pub second-close-cut : (x : JournalId) (m m' : List ℕ) → AreJournalsSound (Closing x) m → PerhapsChanged (second_at x) 254 252 m m' → KeepsBlocks m m'
second-close-cut x m m' h (not_begun e) = rw e (record { healthy = (Closing x, h); blocks = same-blocks-refl m })
second-close-cut x m m' h (done c) = let s = second-closed x m m' h c in record { healthy = (Idle, s.0.sound); blocks = s.1 }

-- The counts that the calls ask for.
pub some-first : (x : JournalId) (m : List ℕ) → AreJournalsSound Idle m → 0 < (votes_at m (first_at x)).unused
some-first J0 m h = let l = h.lasts.some in omega arith
some-first J1 m h = let l = h.lasts.some in omega arith
some-first J2 m h = let l = h.lasts.some in omega arith

-- Once only x + 1 votes for x, x + 2 has two votes left: one to be opened now, and one that stays.
pub some-second : (x : JournalId) (m : List ℕ) → AreJournalsSound (Asked x) m → 0 < (votes_at m (second_at x)).unused
some-second J0 m h = let l = h.lasts.some in omega arith
some-second J1 m h = let l = h.lasts.some in omega arith
some-second J2 m h = let l = h.lasts.some in omega arith

pub open-first : (x : JournalId) (m : List ℕ) → AreJournalsSound (Doomed x) m → 0 < (votes_at m (first_at x)).opened
open-first J0 m h = let p = h.phase in omega arith
open-first J1 m h = let p = h.phase in omega arith
open-first J2 m h = let p = h.phase in omega arith

pub open-second : (x : JournalId) (m : List ℕ) → AreJournalsSound (Closing x) m → 0 < (votes_at m (second_at x)).opened
open-second J0 m h = let p = h.phase in omega arith
open-second J1 m h = let p = h.phase in omega arith
open-second J2 m h = let p = h.phase in omega arith

pub record JournalErased (x : JournalId) (m m' : List ℕ) : Type 0 where
  pub step : IsNext (Doomed x) m (Doomed x) m'
  pub blocks : SameBlocks m m'
  pub blank : IsBlank x m'
  pub votes : (first (tally_of m') x).opened ≡ (first (tally_of m) x).opened

pub erased-as : (x : JournalId) (m m' : List ℕ) → 16384 ≤ length m → AreJournalsSound (Doomed x) m → m' ≡ erased m (journal_at x) 4096 → JournalErased x m m'
erased-as x m m' long h e = let s = journal-erased x m long h in rw e (record { step = s.0; blocks = s.1; blank = s.2; votes = ap (λ v. v.opened) (spoil-first x m (erased m (journal_at x) 4096) (erased-spoiled m (journal_at x) 4096)) })
