-- What calls that answered Ok leave of firm votes and entries, and of those of a recovery.
use Rattle.std.proofs.Common.{◌≡◌, ◌≢◌, ℕ, zero, suc, ◌+◌, ◌-◌, ◌*◌, ◌/◌, ◌%◌, ◌<◌, ◌≤◌, ◌⊎◌, Bool, true, false, List, length, refl, sym, ap, ◌∙◌, subst, arith, inl, inr, lit<}
use Rattle.std.specs.Int.{bit_at, trailing_ones, w8}
use Rattle.std.proofs.lemmas.Bool.{cases_lt, cases_eq, eqb-true, eq-eqb}
use Rattle.std.proofs.lemmas.Bool.Decides.{nat_tests}
use Rattle.std.proofs.lemmas.Nat.Bits.{bit_at-lt, bit_at-zero, bit_at-suc, bit_at-trailing_ones, bit_at_above, bit_at_and, bit_at_lowest, bit_at_ones, same_from_bits}
use Rattle.std.specs.Prelude.{bit_and, slice_range}
use Rattle.std.proofs.lemmas.List.{get_or_past}
use Rattle.chip_model.specs.Memory.{byte, and_at}
use Rattle.chip_model.proofs.MemoryLaws.{length-placed, placed-inside}
use Rattle.erase_journal.proofs.Effects.{and-spoiled}
use Rattle.chip_model.specs.Wavering.{Bits}
use Rattle.std.specs.Prelude.{◌==◌, Result, Ok, Err, OnOk}
use Rattle.nor_driver.specs.State.{NorState, bits_in, IsFirmer, OnlyMemoryChanges, program_bits}
use Rattle.nor_driver.specs.declared.error.NorError.{NorError}
use Rattle.nor_layout.specs.declared.journal.JournalId.{JournalId}
use Rattle.nor_layout.specs.declared.journal.JournalId.TheVariants.{J0, J1, J2}
use Rattle.nor_layout.specs.Journals.{journal_at, first_at, second_at}
use Rattle.nor_layout.specs.Entries.{entry_at}
use Rattle.erase_journal.specs.Journals.{IsSettled, votes_at, entry_byte, is_free_entry, free_entries, unused}
use Rattle.erase_journal.specs.Places.{how_many}
use Rattle.erase_journal.specs.Scans.{is_free_in}
use Rattle.erase_journal.specs.Steps.{EndsSettled, IsRestful, OneChanged, SucceedsSettled}
use Rattle.erase_journal.proofs.Data.{slice-byte}
use Rattle.erase_journal.specs.Spending.{HasSpare}
use Rattle.erase_journal.specs.Weak.{AreFirm, AreZerosFirm, IsFirmJournal, IsFirmVote, firm, given_up, IsLowestUnused, IsRecoveredVote, is_firm, lowest, AreRecoveredVotes, AreFirmVotes, AreFirmOrFew, are_firm, few, InEachRegion, IsUsedForGood, IsLowestFreeEntry, GivesUpLowest, AreUsedForGood, AreRecoveredJournals, AreFirmJournals}
use Rattle.erase_journal.proofs.Counts.{how_many-below, how_many-none, how_many-suc, how_many-zero}
use Rattle.erase_journal.proofs.RecoveredVotes.{IsSettledByte, IsVoteByte, below-four, not-unused, recovered, still-used, votes-are}
use Rattle.erase_journal.proofs.WeakLaws.{are-firm-stays, firm-byte-stays, firm-stays}

-- bits that read 0, firmly, do so still
pub zeros-stay : (a b : Bits) (at n : ℕ) → IsFirmer a b → AreZerosFirm a at n → AreZerosFirm b at n
zeros-stay a b at n f zeros i k from to low none = elim (cases_eq (bit_at (byte b.weak i) k) 0) [
  | inl still ↦ still
  | inr weak ↦
      let two = bit_at-lt (byte b.weak i) k in
      let is : bit_at (byte b.weak i) k ≡ 1 = omega (arith, weak, two) in
      let was = f.weak i k is in
      let bit = bit_at-lt (byte a.shown i) k in
      elim (cases_eq (bit_at (byte a.shown i) k) 0) [
        | inl read ↦ (let z = zeros i k from to low read in absurd (omega (arith, z, was)))
        | inr one ↦ (let r = f.reads i k 1 is (omega (arith, one, bit)) in absurd (omega (arith, r, none)))
      ]
]

-- a number that isn't 0 has a bit that isn't
some-bit-under : (n x : ℕ) → x < n → x ≢ 0 → (k : ℕ) × (bit_at x k ≡ 1)
some-bit-under zero x low some = absurd (omega (arith, low))
some-bit-under (suc n) x low some =
    let first = bit_at_lowest x in
    elim (cases_eq (x % 2) 1) [
      | inl odd ↦ (0, first ∙ odd)
      | inr even ↦
          let below : x / 2 < n = omega (arith, low, some, even) in
          let more : x / 2 ≢ 0 = λ none. omega (arith, none, some, even) in
          let rest = some-bit-under n (x / 2) below more in
          (suc rest.0, bit_at-suc x rest.0 ∙ rest.1)
    ]

pub some-bit : (x : ℕ) → x ≢ 0 → (k : ℕ) × (bit_at x k ≡ 1)
some-bit x = some-bit-under (suc x) x (omega arith)

-- the votes of a settled memory: unused, closed or given up
settled-byte : (x : ℕ) → IsVoteByte x → (x == 254) ≡ false → IsSettledByte x
settled-byte x v not_open = elim v [
  | inl e ↦ inl e
  | inr more ↦ elim more [
    | inl e ↦ absurd (let h : (x == 254) ≡ true = rw e refl in cc (h, not_open))
    | inr used ↦ inr used
  ]
]

pub settled-votes : (m : List ℕ) (place k : ℕ) → (votes_at m place).opened ≡ 0 → (votes_at m place).wrong ≡ 0 → k < 1024 → IsSettledByte (byte m (place + k))
unfolding votes_at
settled-votes m place k opened wrong low =
    settled-byte (byte m (place + k)) (votes-are m place wrong k low) (how_many-none (λ i. byte m (place + i) == 254) 1024 opened k low)

-- a number below 2 whose bits are among those of one below 2
pub below-two : (a b : Bits) (i : ℕ) → IsFirmer a b → byte a.weak i ≤ 1 → byte b.weak i ≤ 1
below-two a b i f low =
    let none : byte b.weak i / 2 ≡ 0 = same_from_bits (byte b.weak i / 2) 0 (λ k.
    sym (bit_at-suc (byte b.weak i) k)
    ∙ (firm-stays a b i (suc k) f (bit_at_above (byte a.weak i) 1 (suc k) (omega (arith, low)) (omega arith)) ∙ sym (bit_at-zero k))) in
    omega (arith, none)

-- a vote that is closed or given up has bit 1 0, and no other one has
closed-bit : (x : ℕ) → 252 ≤ x → x ≤ 253 → bit_at x 1 ≡ 0
closed-bit x from to = elim (cases_eq x 252) [
  | inl e ↦ ap (λ y. bit_at y 1) e
  | inr n ↦ (let e : x ≡ 253 = omega (arith, from, to, n) in ap (λ y. bit_at y 1) e)
]

bit-closed : (x : ℕ) → IsSettledByte x → bit_at x 1 ≡ 0 → (252 ≤ x) × (x ≤ 253)
bit-closed x s none = elim s [
  | inl e ↦ (let h = ap (λ y. bit_at y 1) e in absurd (omega (arith, h, none)))
  | inr used ↦ elim used [ inl e ↦ (omega (arith, e), omega (arith, e)) | inr e ↦ (omega (arith, e), omega (arith, e)) ]
]

-- a firm vote stays one
pub firm-vote-stays : (a b : Bits) (at : ℕ) → IsFirmer a b → IsSettledByte (byte b.shown at) → IsFirmVote a.shown a.weak at → IsFirmVote b.shown b.weak at
firm-vote-stays a b at f settled (firm e) = firm (firm-byte-stays a b at f e)
firm-vote-stays a b at f settled (given_up low from to) = elim (cases_eq (byte b.weak at) 0) [
  | inl none ↦ firm none
  | inr some ↦
      let bit = some-bit (byte b.weak at) some in
      let zero = f.zeros at bit.0 at 1 bit.1 refl (closed-bit (byte a.shown at) from to) in
      let used = bit-closed (byte b.shown at) settled zero in
      given_up (below-two a b at f low) used.0 used.1
]

-- two lowest unused votes are one
lowest-two : (m : List ℕ) (place k i : ℕ) → IsLowestUnused m place k → byte m (place + i) ≡ 255 → ((j : ℕ) → j < i → byte m (place + j) ≢ 255) → k ≢ i → ⊥
lowest-two m place k i first unused below other = elim (cases_lt k i) [
  | inl low ↦ below k low first.unused
  | inr high ↦ first.below i (omega (arith, high, other)) unused
]

-- of a vote that was unused and is given up bit 1 is firm
one-bit : (a b : Bits) (place k : ℕ) → IsFirmer a b → byte a.weak (place + k) < 4 → byte a.shown (place + k) ≡ 255 → byte b.shown (place + k) ≡ 253 → byte b.weak (place + k) ≤ 1
one-bit a b place k f bits was is =
    let high : (l : ℕ) → 1 ≤ l → bit_at (byte b.weak (place + k)) l ≡ 0 = λ l from. elim (cases_eq l 1) [
      | inr other ↦ firm-stays a b (place + k) l f (bit_at_above (byte a.weak (place + k)) 2 l bits (omega (arith, from, other)))
      | inl e ↦ elim (cases_eq (bit_at (byte b.weak (place + k)) l) 0) [
        | inl none ↦ none
        | inr some ↦
            let two = bit_at-lt (byte b.weak (place + k)) l in
            let read : bit_at (byte a.shown (place + k)) l ≡ 1 = rw (was, e) refl in
            let reads = f.reads (place + k) l 1 (omega (arith, some, two)) read in
            let zero : bit_at (byte b.shown (place + k)) l ≡ 0 = rw (is, e) refl in
            absurd (omega (arith, reads, zero))
      ]
    ] in
    let none : byte b.weak (place + k) / 2 ≡ 0 = same_from_bits (byte b.weak (place + k) / 2) 0 (λ l. sym (bit_at-suc (byte b.weak (place + k)) l) ∙ (high (suc l) (omega arith) ∙ sym (bit_at-zero l))) in
    omega (arith, none)

module _ (a b : Bits) (place : ℕ) (aligned : place % 1024 ≡ 0) (f : IsFirmer a b)
    (votes : (i : ℕ) → i < 1024 → IsVoteByte (byte a.shown (place + i)))
    (settled : (i : ℕ) → i < 1024 → IsSettledByte (byte b.shown (place + i))) where
  pub votes-stay : AreFirmVotes a place → AreFirmVotes b place
  votes-stay h k low = firm-vote-stays a b (place + k) f (settled k low) (h k low)

  -- the votes of a recovery stay such
  recovered-stays : (k : ℕ) → k < 1024 → IsRecoveredVote a place k → IsRecoveredVote b place k
  recovered-stays k low (is_firm v) = is_firm (firm-vote-stays a b (place + k) f (settled k low) v)
  recovered-stays k low (lowest bits first) =
      recovered a b place k aligned low f bits (λ is. inr first)
      (λ l small none. (let one = bit_at_ones 8 l small in let e = ap (λ x. bit_at x l) first.unused in absurd (omega (arith, one, e, none))))
      votes (settled k low)

  pub recovered-stay : AreRecoveredVotes a place → AreRecoveredVotes b place
  recovered-stay h k low = recovered-stays k low (h k low)

  -- while a bit of the region is weak, no more votes are unused than were
  no-more : (k l : ℕ) → k < 1024 → bit_at (byte b.weak (place + k)) l ≡ 1 → (votes_at b.shown place).unused ≤ (votes_at a.shown place).unused
  unfolding votes_at
  no-more k l low weak = how_many-below (λ i. byte a.shown (place + i) == 255) (λ i. byte b.shown (place + i) == 255) 1024
      (λ i inside unused. elim (cases_eq (byte a.shown (place + i)) 255) [
        | inl was ↦ eq-eqb (byte a.shown (place + i)) 255 was
        | inr used ↦ absurd (still-used a b place i k l aligned f inside low weak (votes i inside) used (eqb-true (byte b.shown (place + i)) 255 unused))
      ])

  -- so where more are, it was erased, and all of it is firm
  grown-firm : (votes_at a.shown place).unused < (votes_at b.shown place).unused → AreFirmVotes b place
  grown-firm more k low = elim (cases_eq (byte b.weak (place + k)) 0) [
    | inl none ↦ firm none
    | inr some ↦ (let bit = some-bit (byte b.weak (place + k)) some in let h = no-more k bit.0 low bit.1 in absurd (omega (arith, h, more)))
  ]

  pub firm-or-few-stays : AreFirmOrFew a place → AreFirmOrFew b place
  firm-or-few-stays (are_firm h) = are_firm (votes-stay h)
  firm-or-few-stays (few low h) = elim (cases_lt 5 (votes_at b.shown place).unused) [
    | inl more ↦ are_firm (grown-firm (omega (arith, low, more)))
    | inr still ↦ few still (recovered-stay h)
  ]

  -- a vote was given up: it was the lowest one
  given-one : (k : ℕ) → k < 1024 → (one : OneChanged place 255 253 a.shown b.shown) → IsRecoveredVote a place k → (k ≡ one.at) ⊎ (k ≢ one.at) → IsFirmVote b.shown b.weak (place + k)
  given-one k low one (is_firm v) here = firm-vote-stays a b (place + k) f (settled k low) v
  given-one k low one (lowest bits first) (inr other) = absurd (lowest-two a.shown place k one.at first one.change.was one.lowest other)
  given-one k low one (lowest bits first) (inl e) =
      let is : byte b.shown (place + k) ≡ 253 = ap (λ i. byte b.shown (place + i)) e ∙ one.change.is in
      given_up (one-bit a b place k f bits first.unused is) (omega (arith, is)) (omega (arith, is))

  pub given-firm : AreRecoveredVotes a place → OneChanged place 255 253 a.shown b.shown → AreFirmVotes b place
  given-firm h one k low = given-one k low one (h k low) (cases_eq k one.at)

-- what a settled memory has in each region
pub settled-first : (m : List ℕ) → IsSettled m → (x : JournalId) → (i : ℕ) → i < 1024 → IsSettledByte (byte m (first_at x + i))
settled-first m h J0 i low = (let v = h.sound.phase.0.0 in settled-votes m (first_at J0) i v.0 v.1 low)
settled-first m h J1 i low = (let v = h.sound.phase.1.0 in settled-votes m (first_at J1) i v.0 v.1 low)
settled-first m h J2 i low = (let v = h.sound.phase.2.0 in settled-votes m (first_at J2) i v.0 v.1 low)

pub settled-second : (m : List ℕ) → IsSettled m → (x : JournalId) → (i : ℕ) → i < 1024 → IsSettledByte (byte m (second_at x + i))
settled-second m h J0 i low = (let v = h.sound.phase.0.1 in settled-votes m (second_at J0) i v.0 v.1 low)
settled-second m h J1 i low = (let v = h.sound.phase.1.1 in settled-votes m (second_at J1) i v.0 v.1 low)
settled-second m h J2 i low = (let v = h.sound.phase.2.1 in settled-votes m (second_at J2) i v.0 v.1 low)

vote-settled : (x : ℕ) → IsSettledByte x → IsVoteByte x
vote-settled x s = elim s [ inl e ↦ inl e | inr used ↦ inr (inr used) ]

pub aligned-first : (x : JournalId) → first_at x % 1024 ≡ 0
aligned-first J0 = refl
aligned-first J1 = refl
aligned-first J2 = refl

pub aligned-second : (x : JournalId) → second_at x % 1024 ≡ 0
aligned-second J0 = refl
aligned-second J1 = refl
aligned-second J2 = refl

-- calls that answered Ok, from a settled memory to a settled one
module _ (a b : Bits) (f : IsFirmer a b) (before : IsSettled a.shown) (after : IsSettled b.shown) where
  pub first-stays : (x : JournalId) → AreFirmOrFew a (first_at x) → AreFirmOrFew b (first_at x)
  first-stays x = firm-or-few-stays a b (first_at x) (aligned-first x) f (λ i low. vote-settled _ (settled-first a.shown before x i low)) (settled-first b.shown after x)

  pub second-stays : (x : JournalId) → AreFirmOrFew a (second_at x) → AreFirmOrFew b (second_at x)
  second-stays x = firm-or-few-stays a b (second_at x) (aligned-second x) f (λ i low. vote-settled _ (settled-second a.shown before x i low)) (settled-second b.shown after x)

  pub first-given : (x : JournalId) → (6 ≤ (votes_at a.shown (first_at x)).unused → OneChanged (first_at x) 255 253 a.shown b.shown) → AreRecoveredVotes a (first_at x) → AreFirmOrFew b (first_at x)
  first-given x given h = elim (cases_lt (votes_at a.shown (first_at x)).unused 6) [
    | inl low ↦ first-stays x (few (omega (arith, low)) h)
    | inr more ↦ are_firm (given-firm a b (first_at x) (aligned-first x) f (λ i low. vote-settled _ (settled-first a.shown before x i low)) (settled-first b.shown after x) h (given more))
  ]

  pub second-given : (x : JournalId) → (6 ≤ (votes_at a.shown (second_at x)).unused → OneChanged (second_at x) 255 253 a.shown b.shown) → AreRecoveredVotes a (second_at x) → AreFirmOrFew b (second_at x)
  second-given x given h = elim (cases_lt (votes_at a.shown (second_at x)).unused 6) [
    | inl low ↦ second-stays x (few (omega (arith, low)) h)
    | inr more ↦ are_firm (given-firm a b (second_at x) (aligned-second x) f (λ i low. vote-settled _ (settled-second a.shown before x i low)) (settled-second b.shown after x) h (given more))
  ]

  pub each-few-stays : InEachRegion (AreFirmOrFew a) → InEachRegion (AreFirmOrFew b)
  each-few-stays h x = (first-stays x (h x).0, second-stays x (h x).1)

  pub each-recovered-stays : InEachRegion (AreRecoveredVotes a) → InEachRegion (AreRecoveredVotes b)
  each-recovered-stays h x = (
    recovered-stay a b (first_at x) (aligned-first x) f (λ i low. vote-settled _ (settled-first a.shown before x i low)) (settled-first b.shown after x) (h x).0,
    recovered-stay a b (second_at x) (aligned-second x) f (λ i low. vote-settled _ (settled-second a.shown before x i low)) (settled-second b.shown after x) (h x).1,
  )

  pub each-firm-stays : InEachRegion (AreFirmVotes a) → InEachRegion (AreFirmVotes b)
  each-firm-stays h x = (
    votes-stay a b (first_at x) (aligned-first x) f (λ i low. vote-settled _ (settled-first a.shown before x i low)) (settled-first b.shown after x) (h x).0,
    votes-stay a b (second_at x) (aligned-second x) f (λ i low. vote-settled _ (settled-second a.shown before x i low)) (settled-second b.shown after x) (h x).1,
  )

-- the two regions of a journal
unfoldable pub OfJournal : JournalId → (ℕ → Type 0) → Type 0
OfJournal x P = P (journal_at x) × P (journal_at x + 1024)

pub of-all : (P : ℕ → Type 0) → OfJournal J0 P → OfJournal J1 P → OfJournal J2 P → InEachRegion P
unfolding OfJournal
of-all P a b c J0 = (b.1, c.0)
of-all P a b c J1 = (c.1, a.0)
of-all P a b c J2 = (a.1, b.0)

pub of-each : (P : ℕ → Type 0) → InEachRegion P → (x : JournalId) → OfJournal x P
unfolding OfJournal
of-each P h J0 = ((h J1).1, (h J2).0)
of-each P h J1 = ((h J2).1, (h J0).0)
of-each P h J2 = ((h J0).1, (h J1).0)

-- a region with more votes than few is firm
enough-firm : (b : Bits) (place : ℕ) → AreFirmOrFew b place → 32 ≤ (votes_at b.shown place).unused → AreFirmVotes b place
enough-firm b place (are_firm h) more = h
enough-firm b place (few low h) more = absurd (omega (arith, low, more))

spare-regions : (b : Bits) (x : JournalId) → HasSpare x (unused b.shown) → OfJournal x (AreFirmOrFew b) → OfJournal x (AreFirmVotes b)
unfolding OfJournal
spare-regions b J0 s h = (enough-firm b (journal_at J0) h.0 s.1, enough-firm b (journal_at J0 + 1024) h.1 s.2)
spare-regions b J1 s h = (enough-firm b (journal_at J1) h.0 s.0, enough-firm b (journal_at J1 + 1024) h.1 s.1)
spare-regions b J2 s h = (enough-firm b (journal_at J2) h.0 s.0, enough-firm b (journal_at J2 + 1024) h.1 s.1)

firm-regions : (b : Bits) (x : JournalId) → IsFirmJournal b.weak x → OfJournal x (AreFirmVotes b)
unfolding OfJournal
firm-regions b x f = (
  λ k low. firm (f k (omega (arith, low))),
  λ k low. firm (ap (λ i. byte b.weak i) (let e : journal_at x + 1024 + k ≡ journal_at x + (1024 + k) = omega arith in e) ∙ f (1024 + k) (omega (arith, low))),
)

pub of-stays : (a b : Bits) (f : IsFirmer a b) → IsSettled a.shown → IsSettled b.shown → (x : JournalId) → OfJournal x (AreFirmVotes a) → OfJournal x (AreFirmVotes b)
unfolding OfJournal
of-stays a b f before after J0 h = (
  votes-stay a b (second_at J1) refl f (λ i low. vote-settled _ (settled-second a.shown before J1 i low)) (settled-second b.shown after J1) h.0,
  votes-stay a b (first_at J2) refl f (λ i low. vote-settled _ (settled-first a.shown before J2 i low)) (settled-first b.shown after J2) h.1,
)
of-stays a b f before after J1 h = (
  votes-stay a b (second_at J2) refl f (λ i low. vote-settled _ (settled-second a.shown before J2 i low)) (settled-second b.shown after J2) h.0,
  votes-stay a b (first_at J0) refl f (λ i low. vote-settled _ (settled-first a.shown before J0 i low)) (settled-first b.shown after J0) h.1,
)
of-stays a b f before after J2 h = (
  votes-stay a b (second_at J0) refl f (λ i low. vote-settled _ (settled-second a.shown before J0 i low)) (settled-second b.shown after J0) h.0,
  votes-stay a b (first_at J1) refl f (λ i low. vote-settled _ (settled-first a.shown before J1 i low)) (settled-first b.shown after J1) h.1,
)

-- a journal that had enough to spare, or was erased
pub spared-firm : (a b : Bits) → IsFirmer a b → IsSettled a.shown → IsSettled b.shown → (x : JournalId) → HasSpare x (unused a.shown) ⊎ IsFirmJournal b.weak x → InEachRegion (AreFirmOrFew a) → OfJournal x (AreFirmVotes b)
spared-firm a b f before after x (inl spare) h = of-stays a b f before after x (spare-regions a x spare (of-each (AreFirmOrFew a) h x))
spared-firm a b f before after x (inr erased) h = firm-regions b x erased

pub test-cases : (t : Bool) → (t ≡ true) ⊎ (t ≡ false)
test-cases true = inl refl
test-cases false = inr refl

last-used : (m : List ℕ) (i : ℕ) → entry_byte m i 3 ≢ 255 → is_free_entry m i ≡ false
last-used m i other = grind (arith, nat_tests)

-- what passes the test p passes q, and as many pass: the same do
how_many-less : (p q : ℕ → Bool) (n k : ℕ) → ((i : ℕ) → i < n → p i ≡ true → q i ≡ true) → k < n → q k ≡ true → p k ≡ false → how_many p n < how_many q n
how_many-less p q zero k sub low passes fails = absurd (omega (arith, low))
how_many-less p q (suc n) k sub low passes fails =
    let a = how_many-suc p n in
    let b = how_many-suc q n in
    elim (cases_eq k n) [
      | inl e ↦
          let rest = how_many-below q p n (λ i under. sub i (omega (arith, under))) in
          let here : q n ≡ true = ap q (sym e) ∙ passes in
          let none : p n ≡ false = ap p (sym e) ∙ fails in
          grind (arith, a, b, rest, here, none)
      | inr ne ↦
          let rest = how_many-less p q n k (λ i under. sub i (omega (arith, under))) (omega (arith, ne, low)) passes fails in
          let top = sub n (omega arith) in
          grind (arith, a, b, rest, top)
    ]

same-set : (p q : ℕ → Bool) (n : ℕ) → ((i : ℕ) → i < n → p i ≡ true → q i ≡ true) → how_many q n ≤ how_many p n → (k : ℕ) → k < n → q k ≡ true → p k ≡ true
same-set p q n sub as_many k low passes = elim (test-cases (p k)) [
  | inl is ↦ is
  | inr fails ↦ (let less = how_many-less p q n k sub low passes fails in absurd (omega (arith, less, as_many)))
]

-- an entry whose last byte has a 0 is used
pub zero-used : (m : List ℕ) (i k : ℕ) → k < 8 → bit_at (entry_byte m i 3) k ≡ 0 → is_free_entry m i ≡ false
zero-used m i k low reads = last-used m i (not-unused (entry_byte m i 3) k low reads)

-- the entries while one has a weak bit: nothing was erased among them
module _ (a b : Bits) (f : IsFirmer a b) (e j l : ℕ) (low : e < 512) (inside : j < 4) (weak : bit_at (byte b.weak (entry_at e + j)) l ≡ 1) where
  zero-stays : (i k : ℕ) → i < 512 → bit_at (entry_byte a.shown i 3) k ≡ 0 → bit_at (entry_byte b.shown i 3) k ≡ 0
  zero-stays i k under reads = (let here : (entry_at i + 3) / 4096 ≡ (entry_at e + j) / 4096 = omega (arith, low, inside, under) in f.zeros (entry_at e + j) l (entry_at i + 3) k weak here reads)

  pub good-stays : (i : ℕ) → i < 512 → IsUsedForGood a i → IsUsedForGood b i
  good-stays i under u = record { bit = u.bit; inside = u.inside; reads = zero-stays i u.bit under u.reads; firm = firm-stays a b (entry_at i + 3) u.bit f u.firm }

  still-free : AreUsedForGood a → (i : ℕ) → i < 512 → is_free_entry b.shown i ≡ true → is_free_entry a.shown i ≡ true
  still-free good i under free = elim (test-cases (is_free_entry a.shown i)) [
    | inl is ↦ is
    | inr used ↦ (let u = good-stays i under (good i under used) in absurd (cc (free, zero-used b.shown i u.bit u.inside u.reads)))
  ]

  -- where no fewer are free, the same are
  same-free : AreUsedForGood a → free_entries a.shown ≤ free_entries b.shown → (i : ℕ) → i < 512 → is_free_entry a.shown i ≡ true → is_free_entry b.shown i ≡ true
  unfolding free_entries
  same-free good as_many = same-set (is_free_entry b.shown) (is_free_entry a.shown) 512 (still-free good) as_many

  pub still-lowest-free : AreUsedForGood a → free_entries a.shown ≤ free_entries b.shown → (i : ℕ) → IsLowestFreeEntry a.shown i → IsLowestFreeEntry b.shown i
  still-lowest-free good as_many i first = record {
    within = first.within;
    free = same-free good as_many i first.within first.free;
    below = λ k under.
        let used = first.below k under in
        let u = good-stays k (omega (arith, under, first.within)) (good k (omega (arith, under, first.within)) used) in
        zero-used b.shown k u.bit u.inside u.reads;
  }

four-firm : (w : List ℕ) (i : ℕ) → byte w (entry_at i + 0) ≡ 0 → byte w (entry_at i + 1) ≡ 0 → byte w (entry_at i + 2) ≡ 0 → byte w (entry_at i + 3) ≡ 0 → AreFirm w (entry_at i) 4
four-firm w i a b c d k low = elim (cases_eq k 0) [
  | inl e ↦ ap (λ (j : ℕ). byte w (entry_at i + j)) e ∙ a
  | inr n0 ↦ elim (cases_eq k 1) [
    | inl e ↦ ap (λ (j : ℕ). byte w (entry_at i + j)) e ∙ b
    | inr n1 ↦ elim (cases_eq k 2) [
      | inl e ↦ ap (λ (j : ℕ). byte w (entry_at i + j)) e ∙ c
      | inr n2 ↦ (let e : k ≡ 3 = omega (arith, n0, n1, n2, low) in ap (λ (j : ℕ). byte w (entry_at i + j)) e ∙ d)
    ]
  ]
]

-- an entry whose four bytes are firm, or one with a weak bit
pub firm-or-weak : (w : List ℕ) (i : ℕ) → AreFirm w (entry_at i) 4 ⊎ ((j : ℕ) × (j < 4) × ((l : ℕ) × (bit_at (byte w (entry_at i + j)) l ≡ 1)))
firm-or-weak w i = elim (cases_eq (byte w (entry_at i + 0)) 0) [
  | inr some ↦ inr (0, omega arith, some-bit _ some)
  | inl a ↦ elim (cases_eq (byte w (entry_at i + 1)) 0) [
    | inr some ↦ inr (1, omega arith, some-bit _ some)
    | inl b ↦ elim (cases_eq (byte w (entry_at i + 2)) 0) [
      | inr some ↦ inr (2, omega arith, some-bit _ some)
      | inl c ↦ elim (cases_eq (byte w (entry_at i + 3)) 0) [
        | inr some ↦ inr (3, omega arith, some-bit _ some)
        | inl d ↦ inl (four-firm w i a b c d)
      ]
    ]
  ]
]

-- entries that are firm, or used for good, stay such
pub entries-stay : (a b : Bits) → IsFirmer a b → ((i : ℕ) → i < 512 → AreFirm a.weak (entry_at i) 4 ⊎ IsUsedForGood a i) → (i : ℕ) → i < 512 → AreFirm b.weak (entry_at i) 4 ⊎ IsUsedForGood b i
entries-stay a b f h i low = elim (firm-or-weak b.weak i) [
  | inl firmly ↦ inl firmly
  | inr some ↦ elim (h i low) [
    | inl was ↦ inl (are-firm-stays a b (entry_at i) 4 f was)
    | inr used ↦ inr (good-stays a b f i some.0 some.2.0 low some.1 some.2.1 i low used)
  ]
]

-- two lowest free entries are one
lowest-one : (m : List ℕ) (i k : ℕ) → IsLowestFreeEntry m i → IsLowestFreeEntry m k → i ≡ k
lowest-one m i k p q = elim (cases_lt i k) [
  | inl under ↦ (let used = q.below i under in absurd (cc (used, p.free)))
  | inr high ↦ elim (cases_lt k i) [
    | inl under ↦ (let used = p.below k under in absurd (cc (used, q.free)))
    | inr low ↦ omega (arith, high, low)
  ]
]

weak-before : (a b : Bits) (i l : ℕ) → IsFirmer a b → bit_at (byte b.weak i) l ≡ 1 → bit_at (byte a.weak i) l ≡ 1
weak-before a b i l f weak = f.weak i l weak

pub not-firm : (w : List ℕ) (i j l : ℕ) → AreFirm w (entry_at i) 4 → j < 4 → bit_at (byte w (entry_at i + j)) l ≡ 1 → ⊥
not-firm w i j l firmly inside weak =
    let e = ap (λ x. bit_at x l) (firmly j inside) in
    let z = bit_at-zero l in
    omega (arith, e, z, weak)

-- all used entries were used for good, no free one was used since, and then the lowest one was given up
pub entries-given : (a b d : Bits) → IsFirmer a b → IsFirmer b d → AreUsedForGood a → ((i : ℕ) → i < 512 → is_free_entry a.shown i ≡ true → AreFirm a.weak (entry_at i) 4 ⊎ IsLowestFreeEntry a.shown i)
    → free_entries a.shown ≤ free_entries b.shown → GivesUpLowest b d → (i : ℕ) → i < 512 → AreFirm d.weak (entry_at i) 4 ⊎ IsUsedForGood d i
entries-given a b d f g good free as_many gives i low = elim (firm-or-weak d.weak i) [
  | inl firmly ↦ inl firmly
  | inr some ↦
      let weak = weak-before b d (entry_at i + some.0) some.2.0 g some.2.1 in
      elim (test-cases (is_free_entry a.shown i)) [
        | inr used ↦
            let u = good-stays a b f i some.0 some.2.0 low some.1 weak i low (good i low used) in
            inr (good-stays b d g i some.0 some.2.0 low some.1 some.2.1 i low u)
        | inl is ↦ elim (free i low is) [
          | inl firmly ↦ absurd (not-firm a.weak i some.0 some.2.0 firmly some.1 (weak-before a b (entry_at i + some.0) some.2.0 f weak))
          | inr first ↦
              let now = still-lowest-free a b f i some.0 some.2.0 low some.1 weak good as_many i first in
              inr (subst (λ (k : ℕ). IsUsedForGood d k) (lowest-one b.shown gives.at i gives.lowest now) gives.used)
        ]
      ]
]

-- a byte that isn't FFh has a bit that is 0
pub zero-bit : (x : ℕ) → x < 256 → x ≢ 255 → (k : ℕ) × (k < 8) × (bit_at x k ≡ 0)
zero-bit x low other =
    let h = bit_at-trailing_ones w8 x (omega (arith, low, other)) in
    (trailing_ones w8 x, h.0, h.1)

each-second : (b : Bits) → AreFirmOrFew b (second_at J0) → AreFirmOrFew b (second_at J1) → AreFirmOrFew b (second_at J2) → (x : JournalId) → AreFirmOrFew b (second_at x)
each-second b p q r J0 = p
each-second b p q r J1 = q
each-second b p q r J2 = r

pub each-first : (b : Bits) → AreFirmOrFew b (first_at J0) → AreFirmOrFew b (first_at J1) → AreFirmOrFew b (first_at J2) → (x : JournalId) → AreFirmOrFew b (first_at x)
each-first b p q r J0 = p
each-first b p q r J1 = q
each-first b p q r J2 = r

-- The last of six calls, each of which gives up a vote of a region.
pub last-given : {T : Type 0} (r : Result T NorError) (a b : NorState) → IsSettled a.memory → OnOk r (IsSettled b.memory) → OnOk r (OnlyMemoryChanges a b)
    → OnOk r (6 ≤ (votes_at a.memory (second_at J2)).unused → OneChanged (second_at J2) 255 253 a.memory b.memory)
    → ((x : JournalId) → AreFirmOrFew (bits_in a) (first_at x)) → AreFirmOrFew (bits_in a) (second_at J0) → AreFirmOrFew (bits_in a) (second_at J1) → AreRecoveredVotes (bits_in a) (second_at J2)
    → OnOk r (InEachRegion (AreFirmOrFew (bits_in b)))
last-given (Err e) a b before after k given firsts second0 second1 second2 = tt
last-given (Ok v) a b before after k given firsts second0 second1 second2 = λ x. (
  first-stays (bits_in a) (bits_in b) k.bits before after x (firsts x),
  each-second (bits_in b) (second-stays (bits_in a) (bits_in b) k.bits before after J0 second0) (second-stays (bits_in a) (bits_in b) k.bits before after J1 second1)
      (second-given (bits_in a) (bits_in b) k.bits before after J2 given second2) x,
)

-- Three calls, one for each journal, after which it has no weak vote.
pub last-spared : {T : Type 0} (r : Result T NorError) (a b : NorState) → IsSettled a.memory → OnOk r (IsRestful b.memory) → OnOk r (OnlyMemoryChanges a b)
    → OnOk r (HasSpare J2 (unused a.memory) ⊎ IsFirmJournal b.weak J2) → OfJournal J0 (AreFirmVotes (bits_in a)) → OfJournal J1 (AreFirmVotes (bits_in a)) → InEachRegion (AreFirmOrFew (bits_in a))
    → OnOk r (InEachRegion (AreFirmVotes (bits_in b)))
last-spared (Err e) a b before after k spares p q h = tt
last-spared (Ok v) a b before after k spares p q h =
    of-all (AreFirmVotes (bits_in b)) (of-stays (bits_in a) (bits_in b) k.bits before after.settled J0 p) (of-stays (bits_in a) (bits_in b) k.bits before after.settled J1 q)
    (spared-firm (bits_in a) (bits_in b) k.bits before after.settled J2 spares h)

-- a byte of a program
byte-and : (m bytes : List ℕ) (at q k : ℕ) → q < length bytes → bit_at (byte bytes q) k ≡ 0 → bit_at (byte (and_at m at bytes) (at + q)) k ≡ 0
byte-and m bytes at q k inside none = elim (cases_lt (at + q) (length m)) [
  | inr past ↦ ap (λ x. bit_at x k) (get_or_past (and_at m at bytes) (at + q) 0 (let l = length-placed bit_and m at bytes in omega (arith, l, past))) ∙ bit_at-zero k
  | inl low ↦
      let e = ap (λ x. bit_at x k) (placed-inside bit_and m at bytes q inside low) in
      let b = bit_at_and (byte m (at + q)) (byte bytes q) k in
      omega (arith, e, b, none)
]

-- A program turns no 0 into a 1.
pub program-clears : (m : List ℕ) (at : ℕ) (bytes : List ℕ) (i k : ℕ) → bit_at (byte m i) k ≡ 0 → bit_at (byte (and_at m at bytes) i) k ≡ 0
program-clears m at bytes i k reads =
    let s = and-spoiled m at bytes in
    elim (cases_lt i at) [
      | inl low ↦ ap (λ x. bit_at x k) (s.below i low) ∙ reads
      | inr from ↦ elim (cases_lt i (at + length bytes)) [
        | inr past ↦ ap (λ x. bit_at x k) (s.above i past) ∙ reads
        | inl inside ↦ elim (cases_lt i (length m)) [
          | inr past ↦ ap (λ x. bit_at x k) (get_or_past (and_at m at bytes) i 0 (let l = length-placed bit_and m at bytes in omega (arith, l, past))) ∙ bit_at-zero k
          | inl low ↦
              let is : at + (i - at) ≡ i = omega arith in
              let e = ap (λ x. bit_at x k) (rw is at (placed-inside bit_and m at bytes (i - at) (omega (arith, inside, from)) (omega (arith, low, from)))) in
              let b = bit_at_and (byte m i) (byte bytes (i - at)) k in
              omega (arith, e, b, reads)
        ]
      ]
    ]

-- An entry whose last byte is programmed with a 0 is used for good.
pub programmed-good : (b d : Bits) (at : ℕ) (bytes : List ℕ) (i q : ℕ) → d ≡ program_bits b at bytes → entry_at i + 3 ≡ at + q → q < length bytes → byte bytes q < 256 → byte bytes q ≢ 255 → IsUsedForGood d i
programmed-good b d at bytes i q is place inside low other =
    let bit = zero-bit (byte bytes q) low other in
    record {
      bit = bit.0;
      inside = bit.1;
      reads = ap (λ (x : Bits). bit_at (byte x.shown (entry_at i + 3)) bit.0) is ∙ (ap (λ j. bit_at (byte (and_at b.shown at bytes) j) bit.0) place ∙ byte-and b.shown bytes at q bit.0 inside bit.2);
      firm = ap (λ (x : Bits). bit_at (byte x.weak (entry_at i + 3)) bit.0) is ∙ (ap (λ j. bit_at (byte (and_at b.weak at bytes) j) bit.0) place ∙ byte-and b.weak bytes at q bit.0 inside bit.2);
    }

-- One more page, whose used entries are used for good.
pub page-good : (a b : Bits) (p : ℕ) → IsFirmer a b → ((i k : ℕ) → bit_at (byte a.shown i) k ≡ 0 → bit_at (byte b.shown i) k ≡ 0) → ((k : ℕ) → k < 512 → is_free_entry b.shown k ≡ is_free_entry a.shown k)
    → ((i : ℕ) → i < 64 → is_free_entry b.shown (64 * p + i) ≡ false → IsUsedForGood b (64 * p + i)) → p < 8
    → ((i : ℕ) → i < 64 * p → is_free_entry a.shown i ≡ false → IsUsedForGood a i) → (i : ℕ) → i < 64 * (p + 1) → is_free_entry b.shown i ≡ false → IsUsedForGood b i
page-good a b p f clears same here page before i low used = elim (cases_lt i (64 * p)) [
  | inl under ↦
      let u = before i under (sym (same i (omega (arith, under, page))) ∙ used) in
      record { bit = u.bit; inside = u.inside; reads = clears (entry_at i + 3) u.bit u.reads; firm = firm-stays a b (entry_at i + 3) u.bit f u.firm }
  | inr from ↦ (let is : 64 * p + (i - 64 * p) ≡ i = omega arith in rw is at (here (i - 64 * p) (omega (arith, low, from)) (rw (sym is) at used)))
]

-- entry i of a page as it is read
pub free-read : (m b : List ℕ) (at p i : ℕ) → at ≡ 6144 + 4 * (64 * p) → b ≡ slice_range m at (at + 256) → i < 64 → is_free_entry m (64 * p + i) ≡ is_free_in b i
free-read m b at p i place read low =
    let was : (j : ℕ) → j < 4 → entry_byte m (64 * p + i) j ≡ byte b (4 * i + j) =
    λ j small. ap (λ x. byte m x) (let e : 6144 + 4 * (64 * p + i) + j ≡ at + (4 * i + j) = omega (arith, place) in e) ∙ sym (ap (λ x. byte x (4 * i + j)) read ∙ slice-byte m at 256 (4 * i + j) (omega (arith, low, small))) in
    let none : 4 * i + 0 ≡ 4 * i = omega arith in
    rw (was 0 (lit< tt), was 1 (lit< tt), was 2 (lit< tt), was 3 (lit< tt), none) refl

-- where no entry was used since, the free ones are firm as they were, or the lowest
pub free-firm-stays : (a b : Bits) → IsFirmer a b → ((k : ℕ) → k < 512 → is_free_entry b.shown k ≡ is_free_entry a.shown k)
    → ((i : ℕ) → i < 512 → is_free_entry a.shown i ≡ true → AreFirm a.weak (entry_at i) 4 ⊎ IsLowestFreeEntry a.shown i) → (i : ℕ) → i < 512 → is_free_entry b.shown i ≡ true → AreFirm b.weak (entry_at i) 4 ⊎ IsLowestFreeEntry b.shown i
free-firm-stays a b f same h i low free = elim (h i low (sym (same i low) ∙ free)) [
  | inl firmly ↦ inl (are-firm-stays a b (entry_at i) 4 f firmly)
  | inr first ↦ inr (record { within = low; free = free; below = λ k under. same k (omega (arith, under, low)) ∙ first.below k under })
]

how_many-most : (p : ℕ → Bool) (n : ℕ) → how_many p n ≤ n
how_many-most p zero = (let e = how_many-zero p in omega (arith, e))
how_many-most p (suc n) = grind (arith, how_many-suc p n, how_many-most p n)

pub free-most : (m : List ℕ) → free_entries m ≤ 512
unfolding free_entries
free-most m = how_many-most (is_free_entry m) 512

-- The last step of a firm mount of journals.
pub last-firm : {T : Type 0} (r : Result T NorError) (old : Bits) (a b : NorState) → EndsSettled r a b → OnOk r (GivesUpLowest (bits_in a) (bits_in b)) → IsSettled a.memory → AreFirm a.weak 0 16
    → InEachRegion (AreFirmVotes (bits_in a)) → IsFirmer old (bits_in a) → AreUsedForGood old → ((i : ℕ) → i < 512 → is_free_entry old.shown i ≡ true → AreFirm old.weak (entry_at i) 4 ⊎ IsLowestFreeEntry old.shown i)
    → free_entries old.shown ≤ free_entries a.memory → OnOk r (AreFirmJournals (bits_in b))
last-firm (Err e) old a b ends gives before first votes f good free as_many = tt
last-firm (Ok v) old a b ends gives before first votes f good free as_many = record {
  superblock = are-firm-stays (bits_in a) (bits_in b) 0 16 ends.kept.bits first;
  votes = each-firm-stays (bits_in a) (bits_in b) ends.kept.bits before ends.settled votes;
  entries = entries-given old (bits_in a) (bits_in b) f ends.kept.bits good free as_many gives;
}

-- A call that answered Ok, with no erase going on before and after it, leaves firm journals firm.
pub firm-journals-stay : (a b : Bits) → IsFirmer a b → IsSettled a.shown → IsSettled b.shown → AreFirmJournals a → AreFirmJournals b
firm-journals-stay a b f before after h = record {
  superblock = are-firm-stays a b 0 16 f h.superblock;
  votes = each-firm-stays a b f before after h.votes;
  entries = entries-stay a b f h.entries;
}

-- What a recovery left stays while no byte of the journals changes.
vote-same : (a b : Bits) (place k : ℕ) → IsFirmer a b → ((i : ℕ) → i ≤ k → byte b.shown (place + i) ≡ byte a.shown (place + i)) → IsRecoveredVote a place k → IsRecoveredVote b place k
vote-same a b place k f same (is_firm (firm none)) = is_firm (firm (firm-byte-stays a b (place + k) f none))
vote-same a b place k f same (is_firm (given_up low from to)) =
    let e = same k (omega arith) in
    is_firm (given_up (below-two a b (place + k) f low) (omega (arith, e, from)) (omega (arith, e, to)))
vote-same a b place k f same (lowest bits first) =
    lowest (below-four (byte b.weak (place + k)) (λ l high. firm-stays a b (place + k) l f (bit_at_above (byte a.weak (place + k)) 2 l bits high)))
    (record { unused = same k (omega arith) ∙ first.unused; below = λ i under e. first.below i under (sym (same i (omega (arith, under))) ∙ e) })

votes-same : (a b : Bits) (place : ℕ) → IsFirmer a b → ((i : ℕ) → 4096 ≤ i → i < 16384 → byte b.shown i ≡ byte a.shown i) → 4096 ≤ place → place + 1024 ≤ 16384 → AreRecoveredVotes a place → AreRecoveredVotes b place
votes-same a b place f same from to h k low = vote-same a b place k f (λ i under. same (place + i) (omega (arith, from)) (omega (arith, to, low, under))) (h k low)

entry-same : (m m' : List ℕ) (i : ℕ) → ((k : ℕ) → 4096 ≤ k → k < 16384 → byte m' k ≡ byte m k) → i < 512 → is_free_entry m' i ≡ is_free_entry m i
entry-same m m' i same low =
    let at = λ (j : ℕ) (small : j < 4). same (entry_at i + j) (omega arith) (omega (arith, low, small)) in
    rw (at 0 (lit< tt), at 1 (lit< tt), at 2 (lit< tt), at 3 (lit< tt)) refl

pub first-from : (x : JournalId) → 4096 ≤ first_at x
first-from J0 = omega arith
first-from J1 = omega arith
first-from J2 = omega arith

first-to : (x : JournalId) → first_at x + 1024 ≤ 16384
first-to J0 = omega arith
first-to J1 = omega arith
first-to J2 = omega arith

pub second-from : (x : JournalId) → 4096 ≤ second_at x
second-from J0 = omega arith
second-from J1 = omega arith
second-from J2 = omega arith

second-to : (x : JournalId) → second_at x + 1024 ≤ 16384
second-to J0 = omega arith
second-to J1 = omega arith
second-to J2 = omega arith

pub recovered-same : (a b : Bits) → IsFirmer a b → ((i : ℕ) → 4096 ≤ i → i < 16384 → byte b.shown i ≡ byte a.shown i) → AreRecoveredJournals a → AreRecoveredJournals b
recovered-same a b f same h = record {
  superblock = are-firm-stays a b 0 16 f h.superblock;
  votes = λ x. (
    votes-same a b (first_at x) f same (first-from x) (first-to x) (h.votes x).0,
    votes-same a b (second_at x) f same (second-from x) (second-to x) (h.votes x).1,
  );
  entries = free-firm-stays a b f (λ k low. entry-same a.shown b.shown k same low) h.entries;
}

-- a call that did nothing, or answered Ok
pub firm-journals-perhaps : (a b : NorState) → (b ≡ a) ⊎ SucceedsSettled a b → IsSettled a.memory → AreFirmJournals (bits_in a) → AreFirmJournals (bits_in b)
firm-journals-perhaps a b (inl e) before h = subst (λ (s : NorState). AreFirmJournals (bits_in s)) (sym e) h
firm-journals-perhaps a b (inr s) before h = firm-journals-stay (bits_in a) (bits_in b) s.kept.bits before s.settled h

pub settled-perhaps : (a b : NorState) → (b ≡ a) ⊎ SucceedsSettled a b → IsSettled a.memory → IsSettled b.memory
settled-perhaps a b (inl e) h = subst (λ (s : NorState). IsSettled s.memory) (sym e) h
settled-perhaps a b (inr s) h = s.settled
