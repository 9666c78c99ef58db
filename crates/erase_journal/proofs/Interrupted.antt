-- A firm recovery of journals of which one operation was interrupted.
use Rattle.std.proofs.Common.{◌≡◌, ◌≢◌, ℕ, zero, suc, ◌+◌, ◌*◌, ◌/◌, ◌%◌, ◌<◌, ◌≤◌, ◌⊎◌, true, false, List, refl, sym, ap, ◌∙◌, subst, arith, inl, inr, lit<}
use Rattle.std.specs.Int.{bit_at}
use Rattle.std.proofs.lemmas.Bool.{cases_eq}
use Rattle.std.proofs.lemmas.Bool.Decides.{nat_tests}
use Rattle.std.proofs.lemmas.Nat.Bits.{bit_at_above}
use Rattle.chip_model.specs.Memory.{byte}
use Rattle.chip_model.specs.Wavering.{Bits}
use Rattle.nor_driver.specs.State.{IsFirmer}
use Rattle.nor_layout.specs.declared.journal.JournalId.{JournalId}
use Rattle.nor_layout.specs.declared.journal.JournalId.TheVariants.{J0, J1, J2}
use Rattle.nor_layout.specs.Journals.{journal_at}
use Rattle.nor_layout.specs.Entries.{entry_at}
use Rattle.erase_journal.specs.declared.phase.ErasePhase.{ErasePhase}
use Rattle.erase_journal.specs.declared.phase.ErasePhase.TheVariants.{Idle, Asked, Doomed, Closing}
use Rattle.erase_journal.specs.Journals.{AreJournalsSound, IsSettled, votes_at, entry_byte, is_free_entry}
use Rattle.erase_journal.specs.Journals.{begun}
use Rattle.erase_journal.specs.Weak.{AreFirm, firm, AreHalfEntries, AreHalfVotes, AreHalfFirm, IsHalfVote, IsLowestFreeEntry, IsLowestUnused, is_firm, AreRecoveredVotes, SettlesFirmly, AreInterruptedJournals, AreRecoveredJournals}
use Rattle.erase_journal.proofs.FirmJournals.{OfJournal, of-all, firm-or-weak, not-firm, settled-first, settled-second, test-cases, zero-bit}
use Rattle.erase_journal.proofs.RecoveredVotes.{IsSettledByte, below-four, not-unused, recovered, votes-are}
use Rattle.erase_journal.proofs.WeakLaws.{are-firm-stays, firm-byte-stays, firm-stays}

-- whether a journal is being erased in a phase
doomed-cases : (p : ErasePhase) (j : JournalId) → (begun p ≡ Doomed j) ⊎ (begun p ≡ Doomed j → ⊥)
doomed-cases Idle j = inr (λ e. absurd (cc e))
doomed-cases (Asked J0) J0 = inl refl
doomed-cases (Asked J0) J1 = inr (λ e. absurd (cc e))
doomed-cases (Asked J0) J2 = inr (λ e. absurd (cc e))
doomed-cases (Asked J1) J0 = inr (λ e. absurd (cc e))
doomed-cases (Asked J1) J1 = inl refl
doomed-cases (Asked J1) J2 = inr (λ e. absurd (cc e))
doomed-cases (Asked J2) J0 = inr (λ e. absurd (cc e))
doomed-cases (Asked J2) J1 = inr (λ e. absurd (cc e))
doomed-cases (Asked J2) J2 = inl refl
doomed-cases (Doomed J0) J0 = inl refl
doomed-cases (Doomed J0) J1 = inr (λ e. absurd (cc e))
doomed-cases (Doomed J0) J2 = inr (λ e. absurd (cc e))
doomed-cases (Doomed J1) J0 = inr (λ e. absurd (cc e))
doomed-cases (Doomed J1) J1 = inl refl
doomed-cases (Doomed J1) J2 = inr (λ e. absurd (cc e))
doomed-cases (Doomed J2) J0 = inr (λ e. absurd (cc e))
doomed-cases (Doomed J2) J1 = inr (λ e. absurd (cc e))
doomed-cases (Doomed J2) J2 = inl refl
doomed-cases (Closing x) j = inr (λ e. absurd (cc e))

-- no vote of a journal that isn't being erased is wrong
pub right-votes : (p : ErasePhase) (m : List ℕ) (j : JournalId) → AreJournalsSound p m → (begun p ≡ Doomed j → ⊥) → ((votes_at m (journal_at j)).wrong ≡ 0) × ((votes_at m (journal_at j + 1024)).wrong ≡ 0)
right-votes Idle m J0 s not = (s.phase.1.1.1, s.phase.2.0.1)
right-votes Idle m J1 s not = (s.phase.2.1.1, s.phase.0.0.1)
right-votes Idle m J2 s not = (s.phase.0.1.1, s.phase.1.0.1)
right-votes (Asked J0) m J0 s not = absurd (not refl)
right-votes (Asked J0) m J1 s not = (s.phase.3.1.1, s.phase.0.1)
right-votes (Asked J0) m J2 s not = (s.phase.1.1, s.phase.2.0.1)
right-votes (Asked J1) m J0 s not = (s.phase.1.1, s.phase.2.0.1)
right-votes (Asked J1) m J1 s not = absurd (not refl)
right-votes (Asked J1) m J2 s not = (s.phase.3.1.1, s.phase.0.1)
right-votes (Asked J2) m J0 s not = (s.phase.3.1.1, s.phase.0.1)
right-votes (Asked J2) m J1 s not = (s.phase.1.1, s.phase.2.0.1)
right-votes (Asked J2) m J2 s not = absurd (not refl)
right-votes (Doomed J0) m J0 s not = absurd (not refl)
right-votes (Doomed J0) m J1 s not = (s.phase.3.1, s.phase.0.1)
right-votes (Doomed J0) m J2 s not = (s.phase.1.1, s.phase.2.1)
right-votes (Doomed J1) m J0 s not = (s.phase.1.1, s.phase.2.1)
right-votes (Doomed J1) m J1 s not = absurd (not refl)
right-votes (Doomed J1) m J2 s not = (s.phase.3.1, s.phase.0.1)
right-votes (Doomed J2) m J0 s not = (s.phase.3.1, s.phase.0.1)
right-votes (Doomed J2) m J1 s not = (s.phase.1.1, s.phase.2.1)
right-votes (Doomed J2) m J2 s not = absurd (not refl)
right-votes (Closing J0) m J0 s not = (s.phase.2.1.1, s.phase.3.0.1)
right-votes (Closing J0) m J1 s not = (s.phase.3.1.1, s.phase.0.1)
right-votes (Closing J0) m J2 s not = (s.phase.1.1, s.phase.2.0.1)
right-votes (Closing J1) m J0 s not = (s.phase.1.1, s.phase.2.0.1)
right-votes (Closing J1) m J1 s not = (s.phase.2.1.1, s.phase.3.0.1)
right-votes (Closing J1) m J2 s not = (s.phase.3.1.1, s.phase.0.1)
right-votes (Closing J2) m J0 s not = (s.phase.3.1.1, s.phase.0.1)
right-votes (Closing J2) m J1 s not = (s.phase.1.1, s.phase.2.0.1)
right-votes (Closing J2) m J2 s not = (s.phase.2.1.1, s.phase.3.0.1)

-- what a settled memory has in the regions of a journal
settled-of : (m : List ℕ) → IsSettled m → (j : JournalId) → OfJournal j (λ place. (i : ℕ) → i < 1024 → IsSettledByte (byte m (place + i)))
unfolding OfJournal
settled-of m h J0 = (settled-second m h J1, settled-first m h J2)
settled-of m h J1 = (settled-second m h J2, settled-first m h J0)
settled-of m h J2 = (settled-second m h J0, settled-first m h J1)

aligned : (j : JournalId) → journal_at j % 1024 ≡ 0
aligned J0 = refl
aligned J1 = refl
aligned J2 = refl

aligned-next : (j : JournalId) → (journal_at j + 1024) % 1024 ≡ 0
aligned-next J0 = refl
aligned-next J1 = refl
aligned-next J2 = refl

byte-used : (m : List ℕ) (i q : ℕ) → q < 4 → entry_byte m i q ≢ 255 → is_free_entry m i ≡ false
byte-used m i zero low other = grind (arith, nat_tests)
byte-used m i (suc zero) low other = grind (arith, nat_tests)
byte-used m i (suc (suc zero)) low other = grind (arith, nat_tests)
byte-used m i (suc (suc (suc zero))) low other = grind (arith, nat_tests)
byte-used m i (suc (suc (suc (suc q)))) low other = absurd (omega (arith, low))

module _ (a b : Bits) (f : IsFirmer a b) (after : IsSettled b.shown) (s : SettlesFirmly a b) (h : AreHalfFirm s.phase a) where
  -- the votes of a region of a journal that isn't being erased
  region-recovered : (j : JournalId) (place : ℕ) → place % 1024 ≡ 0 → journal_at j ≤ place → place + 1024 ≤ journal_at j + 2048 → AreHalfVotes a place → (votes_at a.shown place).wrong ≡ 0
      → ((i : ℕ) → i < 1024 → IsSettledByte (byte b.shown (place + i))) → AreRecoveredVotes b place
  region-recovered j place aligned from to half right settled k low =
      recovered a b place k aligned low f (half k low).bits (half k low).unused
      (λ l small none. s.zeros j (place + k) l (omega (arith, from)) (omega (arith, to, low)) small none)
      (λ i inside. votes-are a.shown place right i inside) (settled k low)

  journal-recovered : (j : JournalId) → OfJournal j (AreRecoveredVotes b)
  unfolding OfJournal
  journal-recovered j = elim (doomed-cases s.phase j) [
    | inl doomed ↦ (let f = s.erased j doomed in (
      λ k low. is_firm (firm (f k (omega (arith, low)))),
      λ k low. is_firm (firm (ap (λ i. byte b.weak i) (let e : journal_at j + 1024 + k ≡ journal_at j + (1024 + k) = omega arith in e) ∙ f (1024 + k) (omega (arith, low)))),
    ))
    | inr not ↦
        let half = h.votes j not in
        let right = right-votes s.phase a.shown j s.sound not in
        let settled = settled-of b.shown after j in
        (region-recovered j (journal_at j) (aligned j) (omega arith) (omega arith) half.0 right.0 settled.0, region-recovered j (journal_at j + 1024) (aligned-next j) (omega arith) (omega arith) half.1 right.1 settled.1)
  ]

  -- a byte that isn't FFh isn't, while a bit of an entry is weak
  byte-stays : (e j l i q : ℕ) → e < 512 → j < 4 → bit_at (byte b.weak (entry_at e + j)) l ≡ 1 → i < 512 → q < 4 → entry_byte a.shown i q < 256 → entry_byte a.shown i q ≢ 255 → entry_byte b.shown i q ≢ 255
  byte-stays e j l i q low inside weak under small byte other =
      let bit = zero-bit (entry_byte a.shown i q) byte other in
      let here : (entry_at i + q) / 4096 ≡ (entry_at e + j) / 4096 = omega (arith, low, inside, under, small) in
      not-unused (entry_byte b.shown i q) bit.0 bit.1 (f.zeros (entry_at e + j) l (entry_at i + q) bit.0 weak here bit.2)

  used-stays : (e j l i : ℕ) → e < 512 → j < 4 → bit_at (byte b.weak (entry_at e + j)) l ≡ 1 → i < 512 → is_free_entry a.shown i ≡ false → is_free_entry b.shown i ≡ false
  used-stays e j l i low inside weak under used =
      let stays = λ (q : ℕ) (small : q < 4). byte-stays e j l i q low inside weak under small (s.bytes i q under small) in
      elim (cases_eq (entry_byte a.shown i 0) 255) [
        | inr other ↦ byte-used b.shown i 0 (lit< tt) (stays 0 (lit< tt) other)
        | inl e0 ↦ elim (cases_eq (entry_byte a.shown i 1) 255) [
          | inr other ↦ byte-used b.shown i 1 (lit< tt) (stays 1 (lit< tt) other)
          | inl e1 ↦ elim (cases_eq (entry_byte a.shown i 2) 255) [
            | inr other ↦ byte-used b.shown i 2 (lit< tt) (stays 2 (lit< tt) other)
            | inl e2 ↦ elim (cases_eq (entry_byte a.shown i 3) 255) [
              | inr other ↦ byte-used b.shown i 3 (lit< tt) (stays 3 (lit< tt) other)
              | inl e3 ↦ absurd (let all : is_free_entry a.shown i ≡ true = rw (e0, e1, e2, e3) refl in cc (all, used))
            ]
          ]
        ]
      ]

  entry-recovered : AreHalfEntries a → (i : ℕ) → i < 512 → is_free_entry b.shown i ≡ true → AreFirm b.weak (entry_at i) 4 ⊎ IsLowestFreeEntry b.shown i
  entry-recovered half i low free = elim (firm-or-weak b.weak i) [
    | inl firmly ↦ inl firmly
    | inr some ↦ elim (test-cases (is_free_entry a.shown i)) [
      | inr used ↦ absurd (let u = used-stays i some.0 some.2.0 i low some.1 some.2.1 low used in cc (u, free))
      | inl was ↦ elim (half i low was) [
        | inl firmly ↦ absurd (not-firm a.weak i some.0 some.2.0 firmly some.1 (f.weak (entry_at i + some.0) some.2.0 some.2.1))
        | inr first ↦ inr (record {
          within = low;
          free = free;
          below = λ k under. used-stays i some.0 some.2.0 k low some.1 some.2.1 (omega (arith, under, low)) (first.below k under);
        })
      ]
    ]
  ]

  entries-recovered : (i : ℕ) → i < 512 → is_free_entry b.shown i ≡ true → AreFirm b.weak (entry_at i) 4 ⊎ IsLowestFreeEntry b.shown i
  entries-recovered i low free = elim (doomed-cases s.phase J0) [
    | inl doomed ↦ inl (λ j small. ap (λ (k : ℕ). byte b.weak k) (let e : entry_at i + j ≡ 4096 + (2048 + 4 * i + j) = omega arith in e) ∙ s.erased J0 doomed (2048 + 4 * i + j) (omega (arith, low, small)))
    | inr not ↦ entry-recovered (h.entries not) i low free
  ]

pub journals-recovered : (a b : Bits) → IsFirmer a b → IsSettled b.shown → SettlesFirmly a b → AreInterruptedJournals a → AreRecoveredJournals b
journals-recovered a b f after s h =
    let half = h.half s.phase s.sound in
    record {
      superblock = are-firm-stays a b 0 16 f h.superblock;
      votes = of-all (AreRecoveredVotes b) (journal-recovered a b f after s half J0) (journal-recovered a b f after s half J1) (journal-recovered a b f after s half J2);
      entries = entries-recovered a b f after s half;
    }

-- while no byte changes, what an interrupted operation left stays
half-vote-same : (a b : Bits) (place k : ℕ) → IsFirmer a b → b.shown ≡ a.shown → IsHalfVote a place k → IsHalfVote b place k
half-vote-same a b place k f same h = record {
  bits = below-four (byte b.weak (place + k)) (λ l high. firm-stays a b (place + k) l f (bit_at_above (byte a.weak (place + k)) 2 l h.bits high));
  unused = λ e. elim (h.unused (ap (λ (m : List ℕ). byte m (place + k)) (sym same) ∙ e)) [
    | inl firmly ↦ inl (firm-byte-stays a b (place + k) f firmly)
    | inr first ↦ inr (subst (λ (m : List ℕ). IsLowestUnused m place k) (sym same) first)
  ];
}

half-firm-same : (p : ErasePhase) (a b : Bits) → IsFirmer a b → b.shown ≡ a.shown → AreHalfFirm p a → AreHalfFirm p b
half-firm-same p a b f same h = record {
  votes = λ j not. (λ k low. half-vote-same a b (journal_at j) k f same ((h.votes j not).0 k low), λ k low. half-vote-same a b (journal_at j + 1024) k f same ((h.votes j not).1 k low));
  entries = λ not i low free. elim (h.entries not i low (ap (λ (m : List ℕ). is_free_entry m i) (sym same) ∙ free)) [
    | inl firmly ↦ inl (are-firm-stays a b (entry_at i) 4 f firmly)
    | inr first ↦ inr (subst (λ (m : List ℕ). IsLowestFreeEntry m i) (sym same) first)
  ];
}

pub interrupted-same : (a b : Bits) → IsFirmer a b → b.shown ≡ a.shown → AreInterruptedJournals a → AreInterruptedJournals b
interrupted-same a b f same h = record {
  superblock = are-firm-stays a b 0 16 f h.superblock;
  half = λ p sound. half-firm-same p a b f same (h.half p (subst (λ (m : List ℕ). AreJournalsSound p m) same sound));
}
