-- What a loss of power leaves of firm journals, whatever is read at the next power-on.
use Rattle.std.proofs.Common.{◌≡◌, ◌≢◌, ℕ, ◌+◌, ◌<◌, ◌≤◌, ◌⊎◌, List, [], ◌∷◌, length, sym, ap, ◌∙◌, subst, arith, inl, inr}
use Rattle.chip_model.specs.Memory.{byte, and_at, TornAnd}
use Rattle.chip_model.specs.Wavering.{Bits, Drawn}
use Rattle.nor_driver.specs.State.{Leaves, as_before, torn_in_it, changed_whole, TornProgramBits, program_bits, TornEraseBits, erase_bits}
use Rattle.nor_layout.specs.declared.journal.JournalId.{JournalId}
use Rattle.nor_layout.specs.Journals.{next, journal_at}
use Rattle.erase_journal.specs.declared.phase.ErasePhase.{ErasePhase}
use Rattle.erase_journal.specs.declared.phase.ErasePhase.TheVariants.{Idle, Doomed}
use Rattle.erase_journal.specs.Places.{Spoiled, Changed}
use Rattle.erase_journal.specs.Votes.{Last, once_erased}
use Rattle.erase_journal.specs.Journals.{AreJournalsSound, HoldsVotes, IsHealthy, IsSoundTally, first, second, tally_of, unused_of, open_blocks}
use Rattle.erase_journal.specs.Spending.{MayTake, once_used}
use Rattle.erase_journal.specs.Steps.{MayErase, PerhapsChanged, not_begun, done}
use Rattle.erase_journal.specs.Weak.{AreFirmJournals, AreFirmVotes, AreHalfEntries, AreHalfVotes, AreInterruptedAtEachDraw, AreInterruptedJournals, IsFirmVote}
use Rattle.erase_journal.proofs.Steps.{IsBlank}
use Rattle.erase_journal.proofs.Effects.{bit-open, bit-close, program-leaves}
use Rattle.erase_journal.proofs.Renewal.{journal-spoiled}
use Rattle.erase_journal.proofs.Drawing.{read_as, bits_as, bits_drawn, read_drawn, length-read, program-drawn, erase-drawn, erase-weak-beside}
use Rattle.erase_journal.proofs.Draws.{vote-drawn, tally-drawn, firm-drawn}
use Rattle.erase_journal.proofs.FirmJournals.{OfJournal, of-each}
use Rattle.erase_journal.proofs.Begun.{apart, doomed-only, doomed-votes, entries-apart, from-journals}
use Rattle.erase_journal.proofs.Losses.{IsRegion, opening-interrupted, closing-interrupted, firm-interrupted, region-votes, vote-beside, half-of-firm, half-entries, entries-beside}

-- of the bytes that a program leaves
pub program-shown : (a b : Bits) (at : ℕ) (bytes : List ℕ) → Leaves a (TornProgramBits a at bytes) (program_bits a at bytes) b → Leaves a.shown (TornAnd a.shown at bytes) (and_at a.shown at bytes) b.shown
program-shown a b at bytes (as_before e) = as_before (ap (λ (x : Bits). x.shown) e)
program-shown a b at bytes (torn_in_it t) = torn_in_it t.0
program-shown a b at bytes (changed_whole e) = changed_whole (ap (λ (x : Bits). x.shown) e)

-- Firm journals, as a power-on may read them.
module _ (a : Bits) (h : AreFirmJournals a) (v : List ℕ) where
  abbrev pub r : List ℕ
  r = read_as v a.weak a.shown

  pub firm-as : AreFirmJournals (bits_as v a)
  firm-as = firm-drawn a r (read_drawn v a.weak a.shown) h

  pub tally-as : tally_of r ≡ tally_of a.shown
  tally-as = tally-drawn a r (read_drawn v a.weak a.shown) h

  pub sound-as : (p : ErasePhase) → AreJournalsSound p a.shown → AreJournalsSound p r
  sound-as p s = subst (λ t. IsSoundTally p t) (sym tally-as) s

  pub healthy-as : IsHealthy a.shown → IsHealthy r
  healthy-as s = (s.0, sound-as s.0 s.1)

  pub none-as : open_blocks a.shown ≡ 0 → open_blocks r ≡ 0
  none-as e = ap (λ t. t.opened) tally-as ∙ e

  pub may-as : (x : JournalId) → MayErase x a.shown → MayErase x r
  may-as x m = record {
    settled = record { sound = sound-as Idle m.settled.sound; none = none-as m.settled.none };
    lasts = subst (λ t. Last (once_erased x (unused_of t))) (sym tally-as) m.lasts;
  }

  pub take-as : MayTake a.shown → MayTake r
  take-as m = record { sound = sound-as Idle m.sound; lasts = subst (λ t. Last (once_used (unused_of t))) (sym tally-as) m.lasts }

  pub one-as : (x : JournalId) → (first (tally_of a.shown) x).opened ≡ 1 → (first (tally_of r) x).opened ≡ 1
  one-as x e = ap (λ t. (first t x).opened) tally-as ∙ e

  pub blank-as : (x : JournalId) → IsBlank x a.shown → IsBlank x r
  blank-as x b = record {
    second = subst (λ t. ((second t (next x)).unused ≡ 1024) × HoldsVotes (second t (next x)) 0) (sym tally-as) b.second;
    first = subst (λ t. ((first t (next (next x))).unused ≡ 1024) × HoldsVotes (first t (next (next x))) 0) (sym tally-as) b.first;
    free = λ e. ap (λ t. t.free) tally-as ∙ b.free e;
    none = λ e. none-as (b.none e);
  }

  -- a vote that is unused or open reads so still, and one that isn't unused doesn't come to be
  pub same-vote : (at value : ℕ) → IsFirmVote a.shown a.weak at → 254 ≤ value → byte a.shown at ≡ value → byte r at ≡ value
  same-vote at value f more was = elim (vote-drawn a.shown a.weak r at (read_drawn v a.weak a.shown) f) [
    | inl e ↦ e ∙ was
    | inr q ↦ absurd (let to = q.0.1 in omega (arith, to, more, was))
  ]

  pub used-vote : (at : ℕ) → IsFirmVote a.shown a.weak at → byte a.shown at ≢ 255 → byte r at ≢ 255
  used-vote at f used = elim (vote-drawn a.shown a.weak r at (read_drawn v a.weak a.shown) f) [
    | inl e ↦ λ u. used (sym e ∙ u)
    | inr q ↦ λ u. (let to = q.1.1 in omega (arith, to, u))
  ]

-- Nothing was changed.
pub same-cut : (a : Bits) → AreFirmJournals a → IsHealthy a.shown → AreInterruptedAtEachDraw a
same-cut a h s v w =
    let t = tally-drawn a v w h in
    ((s.0, subst (λ t. IsSoundTally s.0 t) (sym t) s.1), firm-interrupted (bits_drawn v a) (firm-drawn a v w h))

-- A vote is opened.
module _ (a b : Bits) (h : AreFirmJournals a) (place k : ℕ) (region : IsRegion place) (low : k < 1024) (long : place + 1024 ≤ length a.shown) (was : byte a.shown (place + k) ≡ 255) (lowest : (j : ℕ) → j < k → byte a.shown (place + j) ≢ 255)
    (l : Leaves a (TornProgramBits a (place + k) (254 ∷ [])) (program_bits a (place + k) (254 ∷ [])) b) (v : List ℕ) (w : Drawn b.weak b.shown v) where
  votes : AreFirmVotes a place
  votes = region-votes a place region h.votes

  was-as : byte (read_as v a.weak a.shown) (place + k) ≡ 255
  was-as = same-vote a h v (place + k) 255 (votes k low) (omega arith) was

  lowest-as : (j : ℕ) → j < k → byte (read_as v a.weak a.shown) (place + j) ≢ 255
  lowest-as j under = used-vote a h v (place + j) (votes j (omega (arith, under, low))) (lowest j under)

  opening : Leaves (bits_as v a) (TornProgramBits (bits_as v a) (place + k) (254 ∷ [])) (program_bits (bits_as v a) (place + k) (254 ∷ [])) (bits_drawn v b)
  opening = program-drawn a b (place + k) (254 ∷ []) v l w

  pub opening-reads : PerhapsChanged place 255 254 (read_as v a.weak a.shown) v
  opening-reads = elim (program-leaves 0 (read_as v a.weak a.shown) (place + k) 255 254 v (let n = length-read v a.weak a.shown in omega (arith, n, low, long)) was-as bit-open (program-shown (bits_as v a) (bits_drawn v b) (place + k) (254 ∷ []) opening)) [
    | inl e ↦ not_begun e
    | inr c ↦ done (record { at = k; within = low; lowest = lowest-as; change = c })
  ]

  pub opening-leaves : AreInterruptedJournals (bits_drawn v b)
  opening-leaves = opening-interrupted (bits_as v a) (bits_drawn v b) place k region low was-as lowest-as opening (firm-as a h v)

-- A vote is closed.
module _ (a b : Bits) (h : AreFirmJournals a) (place k : ℕ) (region : IsRegion place) (low : k < 1024) (long : place + 1024 ≤ length a.shown) (was : byte a.shown (place + k) ≡ 254) (lowest : (j : ℕ) → j < k → byte a.shown (place + j) ≢ 254)
    (l : Leaves a (TornProgramBits a (place + k) (252 ∷ [])) (program_bits a (place + k) (252 ∷ [])) b) (v : List ℕ) (w : Drawn b.weak b.shown v) where
  closed-votes : AreFirmVotes a place
  closed-votes = region-votes a place region h.votes

  open-as : byte (read_as v a.weak a.shown) (place + k) ≡ 254
  open-as = same-vote a h v (place + k) 254 (closed-votes k low) (omega arith) was

  not-open-as : (j : ℕ) → j < k → byte (read_as v a.weak a.shown) (place + j) ≢ 254
  not-open-as j under = elim (vote-drawn a.shown a.weak (read_as v a.weak a.shown) (place + j) (read_drawn v a.weak a.shown) (closed-votes j (omega (arith, under, low)))) [
    | inl e ↦ λ u. lowest j under (sym e ∙ u)
    | inr q ↦ λ u. (let to = q.1.1 in omega (arith, to, u))
  ]

  closing : Leaves (bits_as v a) (TornProgramBits (bits_as v a) (place + k) (252 ∷ [])) (program_bits (bits_as v a) (place + k) (252 ∷ [])) (bits_drawn v b)
  closing = program-drawn a b (place + k) (252 ∷ []) v l w

  closing-changes : (v ≡ read_as v a.weak a.shown) ⊎ Changed (place + k) 254 252 (read_as v a.weak a.shown) v
  closing-changes = program-leaves 1 (read_as v a.weak a.shown) (place + k) 254 252 v (let n = length-read v a.weak a.shown in omega (arith, n, low, long)) open-as bit-close (program-shown (bits_as v a) (bits_drawn v b) (place + k) (252 ∷ []) closing)

  pub closing-reads : PerhapsChanged place 254 252 (read_as v a.weak a.shown) v
  closing-reads = elim closing-changes [
    | inl e ↦ not_begun e
    | inr c ↦ done (record { at = k; within = low; lowest = not-open-as; change = c })
  ]

  still-used : byte v (place + k) ≢ 255
  still-used = elim closing-changes [
    | inl e ↦ λ u. (let g = ap (λ (m : List ℕ). byte m (place + k)) e in omega (arith, g, open-as, u))
    | inr c ↦ λ u. (let g = c.is in omega (arith, g, u))
  ]

  pub closing-leaves : AreInterruptedJournals (bits_drawn v b)
  closing-leaves = closing-interrupted (bits_as v a) (bits_drawn v b) place k region low open-as still-used closing (firm-as a h v)

-- A journal is erased, for which both others vote.
module _ (a b : Bits) (h : AreFirmJournals a) (x : JournalId) (doomed : AreJournalsSound (Doomed x) a.shown) (l : Leaves a (TornEraseBits a (journal_at x) 4096) (erase_bits a (journal_at x) 4096) b) (v : List ℕ) (w : Drawn b.weak b.shown v) where
  spoiled : Spoiled (journal_at x) 4096 (read_as v a.weak a.shown) v
  spoiled = erase-drawn a b (journal_at x) 4096 v l w

  pub still-doomed : AreJournalsSound (Doomed x) v
  still-doomed = (journal-spoiled x (read_as v a.weak a.shown) v (sound-as a h v (Doomed x) doomed) spoiled).0.sound

  same-beside : (i : ℕ) → (i < journal_at x) ⊎ (journal_at x + 4096 ≤ i) → (byte v i ≡ byte (read_as v a.weak a.shown) i) × (byte b.weak i ≡ byte a.weak i)
  same-beside i out = (elim out [ inl low ↦ spoiled.below i low | inr high ↦ spoiled.above i high ], erase-weak-beside a b (journal_at x) 4096 l i out)

  beside-votes : (place : ℕ) → (place + 1024 ≤ journal_at x) ⊎ (journal_at x + 4096 ≤ place) → AreFirmVotes (bits_as v a) place → AreHalfVotes (bits_drawn v b) place
  beside-votes place out f k low = half-of-firm (bits_drawn v b) place k (vote-beside (bits_as v a) (bits_drawn v b) (place + k) (same-beside (place + k) (elim out [ inl under ↦ inl (omega (arith, under, low)) | inr above ↦ inr (omega (arith, above)) ])) (f k low))

  beside-journal : (j : JournalId) → (journal_at j + 2048 ≤ journal_at x) ⊎ (journal_at x + 4096 ≤ journal_at j) → AreHalfVotes (bits_drawn v b) (journal_at j) × AreHalfVotes (bits_drawn v b) (journal_at j + 1024)
  unfolding OfJournal
  beside-journal j out =
      let f = of-each (AreFirmVotes (bits_as v a)) (firm-as a h v).votes j in (
        beside-votes (journal_at j) (elim out [ inl under ↦ inl (omega (arith, under)) | inr above ↦ inr above ]) f.0,
        beside-votes (journal_at j + 1024) (elim out [ inl under ↦ inl (omega (arith, under)) | inr above ↦ inr (omega (arith, above)) ]) f.1,
      )

  beside-entries : 8192 ≤ journal_at x → AreHalfEntries (bits_drawn v b)
  beside-entries high = half-entries (bits_drawn v b) (entries-beside (bits_as v a) (bits_drawn v b) (λ i from to. same-beside i (inl (omega (arith, to, high)))) (firm-as a h v).entries)

  erasing-leaves : AreInterruptedJournals (bits_drawn v b)
  erasing-leaves = record {
    superblock = λ i small. (same-beside (0 + i) (inl (let from = from-journals x in omega (arith, from, small)))).1 ∙ h.superblock i small;
    half = λ p sound.
        let votes_for = doomed-votes x (tally_of v) still-doomed.phase in
        let only = doomed-only x p (tally_of v) sound.phase votes_for.0 votes_for.1 in
        record {
          votes = λ j not. elim (apart x j) [
            | inl e ↦ absurd (not (only ∙ ap (λ z. Doomed z) (sym e)))
            | inr out ↦ beside-journal j out
          ];
          entries = λ not. elim (entries-apart x) [
            | inl e ↦ absurd (not (only ∙ ap (λ z. Doomed z) e))
            | inr high ↦ beside-entries high
          ];
        };
  }

pub journal-cut : (a b : Bits) (x : JournalId) → AreFirmJournals a → AreJournalsSound (Doomed x) a.shown → Leaves a (TornEraseBits a (journal_at x) 4096) (erase_bits a (journal_at x) 4096) b → AreInterruptedAtEachDraw b
journal-cut a b x h doomed l v w = ((Doomed x, still-doomed a b h x doomed l v w), erasing-leaves a b h x doomed l v w)
