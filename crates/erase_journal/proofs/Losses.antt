-- What a program that was interrupted leaves of firm journals.
use Rattle.std.proofs.Common.{◌≡◌, ◌≢◌, ℕ, ◌+◌, ◌%◌, ◌<◌, ◌≤◌, ◌⊎◌, List, [], ◌∷◌, length, refl, sym, ap, ◌∙◌, subst, arith, inl, inr, lit<}
use Rattle.std.specs.Prelude.{bit_and, bit_or, bit_xor}
use Rattle.std.specs.Int.{bit_at}
use Rattle.std.proofs.lemmas.Bool.{cases_lt, cases_eq}
use Rattle.std.proofs.lemmas.List.{get_or_past}
use Rattle.std.proofs.lemmas.Nat.Bits.{bit_at_and, bit_at_or, bit_at_xor, bit_at-lt, bit_at-zero, same_from_bits}
use Rattle.chip_model.specs.Memory.{byte, and_at, with_differences}
use Rattle.chip_model.specs.Wavering.{Bits}
use Rattle.chip_model.proofs.MemoryLaws.{get-changed, length-changed_from, length-placed, placed-inside, placed-outside}
use Rattle.nor_driver.specs.State.{Leaves, as_before, torn_in_it, changed_whole, TornProgramBits, program_bits, IsFirmer}
use Rattle.nor_layout.specs.declared.journal.JournalId.{JournalId}
use Rattle.nor_layout.specs.Entries.{entry_at}
use Rattle.nor_layout.specs.declared.journal.JournalId.TheVariants.{J0, J1, J2}
use Rattle.nor_layout.specs.Journals.{journal_at, first_at, second_at}
use Rattle.erase_journal.specs.Weak.{AreFirm, AreFirmJournals, AreFirmVotes, AreHalfEntries, AreHalfVotes, AreInterruptedJournals, IsFirmVote, firm, given_up, InEachRegion, IsHalfVote, IsLowestUnused, IsUsedForGood}
use Rattle.erase_journal.proofs.WeakLaws.{are-firm-stays, firm-byte-stays}
use Rattle.erase_journal.proofs.Effects.{and-leaves}
use Rattle.erase_journal.proofs.FirmJournals.{OfJournal, aligned-first, aligned-second, below-two, entries-stay, first-from, of-each, second-from, zero-used}

-- where two memories are the same, no bit becomes weak
pub differs-not : (m m' w : List ℕ) (i : ℕ) → byte m' i ≡ byte m i → byte (with_differences m m' w) i ≡ byte w i
differs-not m m' w i same = elim (cases_lt i (length w)) [
  | inr past ↦ get_or_past (with_differences m m' w) i 0 (let l = length-changed_from (λ j x. bit_or x (bit_xor (byte m j) (byte m' j))) 0 w in omega (arith, l, past)) ∙ sym (get_or_past w i 0 past)
  | inl low ↦
      let e = get-changed (λ j x. bit_or x (bit_xor (byte m j) (byte m' j))) w i 0 low in
      e ∙ same_from_bits (bit_or (byte w i) (bit_xor (byte m i) (byte m' i))) (byte w i) (λ k.
      let o = bit_at_or (byte w i) (bit_xor (byte m i) (byte m' i)) k in
      let x = bit_at_xor (byte m i) (byte m' i) k in
      let s = ap (λ y. bit_at y k) same in
      let b = bit_at-lt (byte m i) k in
      omega (arith, o, x, s, b))
]

-- bytes and weak bits beside those of a program
pub program-beside : (a b : Bits) (at : ℕ) (bytes : List ℕ) → Leaves a (TornProgramBits a at bytes) (program_bits a at bytes) b → (i : ℕ) → (i < at) ⊎ (at + length bytes ≤ i)
    → (byte b.shown i ≡ byte a.shown i) × (byte b.weak i ≡ byte a.weak i)
program-beside a b at bytes (as_before e) i out = (ap (λ (x : Bits). byte x.shown i) e, ap (λ (x : Bits). byte x.weak i) e)
program-beside a b at bytes (changed_whole e) i out = (
  ap (λ (x : Bits). byte x.shown i) e ∙ placed-outside bit_and a.shown at bytes i out,
  ap (λ (x : Bits). byte x.weak i) e ∙ placed-outside bit_and a.weak at bytes i out,
)
program-beside a b at bytes (torn_in_it t) i out =
    let s = and-leaves a.shown at bytes b.shown (torn_in_it t.0) in
    let shown : byte b.shown i ≡ byte a.shown i = elim out [ inl low ↦ s.below i low | inr past ↦ s.above i past ] in
    (shown, ap (λ w. byte w i) t.1 ∙ differs-not a.shown (and_at a.shown at bytes) a.weak i (placed-outside bit_and a.shown at bytes i out))

zero-and : (x : ℕ) → bit_and 0 x ≡ 0
zero-and x = same_from_bits (bit_and 0 x) 0 (λ k. (let e = bit_at_and 0 x k in let z = bit_at-zero k in omega (arith, e, z)))

-- a byte that isn't 0 and is programmed
byte-anded : (m : List ℕ) (at old new : ℕ) → byte m at ≡ old → byte (and_at m at (new ∷ [])) at ≡ bit_and old new
byte-anded m at old new was = elim (cases_lt (at + 0) (length m)) [
  | inl low ↦ ap (λ i. byte (and_at m at (new ∷ [])) i) (let z : at ≡ at + 0 = omega arith in z) ∙ (placed-inside bit_and m at (new ∷ []) 0 (lit< tt) low ∙ ap (λ x. bit_and x new) (ap (λ i. byte m i) (let z : at + 0 ≡ at = omega arith in z) ∙ was))
  | inr past ↦
      let here = get_or_past (and_at m at (new ∷ [])) at 0 (let l = length-placed bit_and m at (new ∷ []) in omega (arith, l, past)) in
      let none = get_or_past m at 0 (omega (arith, past)) in
      let zero : old ≡ 0 = sym was ∙ none in
      here ∙ (sym (zero-and new) ∙ ap (λ x. bit_and x new) (sym zero))
]

-- a firm vote whose one step, of bit 0 or of bit 1, was interrupted
step-bits : (a b : Bits) (at old new most : ℕ) → byte a.shown at ≡ old → byte a.weak at ≡ 0 → bit_or 0 (bit_xor old (bit_and old new)) ≤ most → bit_and 0 new ≡ 0
    → Leaves a (TornProgramBits a at (new ∷ [])) (program_bits a at (new ∷ [])) b → byte b.weak at ≤ most
step-bits a b at old new most was none few and (as_before e) = (let w = ap (λ (x : Bits). byte x.weak at) e in omega (arith, w, none))
step-bits a b at old new most was none few and (changed_whole e) =
    let w = ap (λ (x : Bits). byte x.weak at) e in
    elim (cases_lt (at + 0) (length a.weak)) [
      | inl low ↦
          let here : byte (and_at a.weak at (new ∷ [])) at ≡ 0 = ap (λ i. byte (and_at a.weak at (new ∷ [])) i) (let z : at ≡ at + 0 = omega arith in z)
          ∙ (placed-inside bit_and a.weak at (new ∷ []) 0 (lit< tt) low ∙ (ap (λ x. bit_and x new) (ap (λ i. byte a.weak i) (let z : at + 0 ≡ at = omega arith in z) ∙ none) ∙ and)) in
          omega (arith, w, here)
      | inr past ↦
          let here = get_or_past (and_at a.weak at (new ∷ [])) at 0 (let l = length-placed bit_and a.weak at (new ∷ []) in omega (arith, l, past)) in
          omega (arith, w, here)
    ]
step-bits a b at old new most was none few and (torn_in_it t) =
    let w = ap (λ x. byte x at) t.1 in
    elim (cases_lt at (length a.weak)) [
      | inr past ↦
          let here = get_or_past (with_differences a.shown (and_at a.shown at (new ∷ [])) a.weak) at 0 (let l = length-changed_from (λ j x. bit_or x (bit_xor (byte a.shown j) (byte (and_at a.shown at (new ∷ [])) j))) 0 a.weak in omega (arith, l, past)) in
          omega (arith, w, here)
      | inl low ↦
          let e = get-changed (λ j x. bit_or x (bit_xor (byte a.shown j) (byte (and_at a.shown at (new ∷ [])) j))) a.weak at 0 low in
          let now : byte (and_at a.shown at (new ∷ [])) at ≡ bit_and old new = byte-anded a.shown at old new was in
          let here : byte (with_differences a.shown (and_at a.shown at (new ∷ [])) a.weak) at ≡ bit_or 0 (bit_xor old (bit_and old new)) = e ∙ rw (none, was, now) refl in
          omega (arith, w, here, few)
    ]

-- a step of a vote: it is opened, or closed
pub opened-bits : (a b : Bits) (at : ℕ) → byte a.shown at ≡ 255 → byte a.weak at ≡ 0 → Leaves a (TornProgramBits a at (254 ∷ [])) (program_bits a at (254 ∷ [])) b → byte b.weak at < 4
opened-bits a b at was none l = (let h = step-bits a b at 255 254 1 was none (omega arith) refl l in omega (arith, h))

pub closed-bits : (a b : Bits) (at : ℕ) → byte a.shown at ≡ 254 → byte a.weak at ≡ 0 → Leaves a (TornProgramBits a at (252 ∷ [])) (program_bits a at (252 ∷ [])) b → byte b.weak at < 4
closed-bits a b at was none l = (let h = step-bits a b at 254 252 2 was none (omega arith) refl l in omega (arith, h))

-- firm votes and entries are none but such as an interrupted operation leaves
pub half-of-firm : (b : Bits) (place k : ℕ) → IsFirmVote b.shown b.weak (place + k) → IsHalfVote b place k
half-of-firm b place k (firm none) = record { bits = omega (arith, none); unused = λ e. inl none }
half-of-firm b place k (given_up low from to) = record { bits = omega (arith, low); unused = λ e. absurd (omega (arith, e, to)) }

pub half-entries : (b : Bits) → ((i : ℕ) → i < 512 → AreFirm b.weak (entry_at i) 4 ⊎ IsUsedForGood b i) → AreHalfEntries b
half-entries b h i low free = elim (h i low) [
  | inl firmly ↦ inl firmly
  | inr u ↦ absurd (cc (free, zero-used b.shown i u.bit u.inside u.reads))
]

pub half-votes : (b : Bits) (place : ℕ) → AreFirmVotes b place → AreHalfVotes b place
half-votes b place h k low = half-of-firm b place k (h k low)

pub firm-interrupted : (b : Bits) → AreFirmJournals b → AreInterruptedJournals b
unfolding OfJournal
firm-interrupted b h = record {
  superblock = h.superblock;
  half = λ p sound. record {
    votes = λ j not. (half-votes b (journal_at j) (of-each (AreFirmVotes b) h.votes j).0, half-votes b (journal_at j + 1024) (of-each (AreFirmVotes b) h.votes j).1);
    entries = λ not. half-entries b h.entries;
  };
}

-- entries of which no byte changed
pub entries-beside : (a b : Bits) → ((i : ℕ) → 6144 ≤ i → i < 8192 → (byte b.shown i ≡ byte a.shown i) × (byte b.weak i ≡ byte a.weak i)) → ((i : ℕ) → i < 512 → AreFirm a.weak (entry_at i) 4 ⊎ IsUsedForGood a i)
    → (i : ℕ) → i < 512 → AreFirm b.weak (entry_at i) 4 ⊎ IsUsedForGood b i
entries-beside a b same h i low = elim (h i low) [
  | inl firmly ↦ inl (λ j small. (same (entry_at i + j) (omega arith) (omega (arith, low, small))).1 ∙ firmly j small)
  | inr u ↦
      let e = same (entry_at i + 3) (omega arith) (omega (arith, low)) in
      inr (record { bit = u.bit; inside = u.inside; reads = ap (λ x. bit_at x u.bit) e.0 ∙ u.reads; firm = ap (λ x. bit_at x u.bit) e.1 ∙ u.firm })
]

pub vote-beside : (a b : Bits) (at : ℕ) → (byte b.shown at ≡ byte a.shown at) × (byte b.weak at ≡ byte a.weak at) → IsFirmVote a.shown a.weak at → IsFirmVote b.shown b.weak at
vote-beside a b at e (firm none) = firm (e.1 ∙ none)
vote-beside a b at e (given_up low from to) = given_up (let w = e.1 in omega (arith, w, low)) (let m = e.0 in omega (arith, m, from)) (let m = e.0 in omega (arith, m, to))

pub aligned-journal : (j : JournalId) → journal_at j % 1024 ≡ 0
aligned-journal J0 = refl
aligned-journal J1 = refl
aligned-journal J2 = refl

pub aligned-next : (j : JournalId) → (journal_at j + 1024) % 1024 ≡ 0
aligned-next J0 = refl
aligned-next J1 = refl
aligned-next J2 = refl

-- A step of one vote was interrupted: of an unused one that is the lowest, or of another.
module _ (a b : Bits) (place k : ℕ) (aligned : place % 1024 ≡ 0) (low : k < 1024) (from : 4096 ≤ place) (apart : (place + 1024 ≤ 6144) ⊎ (8192 ≤ place))
    (beside : (i : ℕ) → i ≢ place + k → (byte b.shown i ≡ byte a.shown i) × (byte b.weak i ≡ byte a.weak i)) (bits : byte b.weak (place + k) < 4)
    (first : byte b.shown (place + k) ≡ 255 → IsLowestUnused b.shown place k) (h : AreFirmJournals a) where
  step-vote : (q i : ℕ) → q % 1024 ≡ 0 → i < 1024 → IsFirmVote a.shown a.weak (q + i) → IsHalfVote b q i
  step-vote q i other small v = elim (cases_eq (q + i) (place + k)) [
    | inr ne ↦ half-of-firm b q i (vote-beside a b (q + i) (beside (q + i) ne) v)
    | inl e ↦
        let here : q ≡ place = omega (arith, aligned, other, low, small, e) in
        let one : i ≡ k = omega (arith, here, e) in
        subst (λ z. IsHalfVote b z i) (sym here) (subst (λ j. IsHalfVote b place j) (sym one) (record { bits = bits; unused = λ u. inr (first u) }))
  ]

  pub step-interrupted : AreInterruptedJournals b
  unfolding OfJournal
  step-interrupted = record {
    superblock = λ i small. (beside (0 + i) (λ e. omega (arith, e, from, small))).1 ∙ h.superblock i small;
    half = λ p sound. record {
      votes = λ j not. (λ i small. step-vote (journal_at j) i (aligned-journal j) small ((of-each (AreFirmVotes a) h.votes j).0 i small), λ i small. step-vote (journal_at j + 1024) i (aligned-next j) small ((of-each (AreFirmVotes a) h.votes j).1 i small));
      entries = λ not. half-entries b (entries-beside a b (λ i least most. beside i (λ e. elim apart [ inl below ↦ omega (arith, e, below, low, least) | inr above ↦ omega (arith, e, above, most) ])) h.entries);
    };
  }

-- firm journals of which no byte changed
firm-vote-same : (a b : Bits) (at : ℕ) → IsFirmer a b → byte b.shown at ≡ byte a.shown at → IsFirmVote a.shown a.weak at → IsFirmVote b.shown b.weak at
firm-vote-same a b at f same (firm none) = firm (firm-byte-stays a b at f none)
firm-vote-same a b at f same (given_up low from to) = given_up (below-two a b at f low) (omega (arith, same, from)) (omega (arith, same, to))

pub firm-same : (a b : Bits) → IsFirmer a b → b.shown ≡ a.shown → AreFirmJournals a → AreFirmJournals b
firm-same a b f same h = record {
  superblock = are-firm-stays a b 0 16 f h.superblock;
  votes = λ x. (
    λ k low. firm-vote-same a b (first_at x + k) f (ap (λ (m : List ℕ). byte m (first_at x + k)) same) ((h.votes x).0 k low),
    λ k low. firm-vote-same a b (second_at x + k) f (ap (λ (m : List ℕ). byte m (second_at x + k)) same) ((h.votes x).1 k low),
  );
  entries = entries-stay a b f h.entries;
}

-- the region of the votes of one journal for the erase of another
unfoldable pub IsRegion : ℕ → Type 0
IsRegion place = (x : JournalId) × ((place ≡ first_at x) ⊎ (place ≡ second_at x))

pub region-aligned : (place : ℕ) → IsRegion place → place % 1024 ≡ 0
unfolding IsRegion
region-aligned place (x, inl e) = subst (λ z. z % 1024 ≡ 0) (sym e) (aligned-first x)
region-aligned place (x, inr e) = subst (λ z. z % 1024 ≡ 0) (sym e) (aligned-second x)

apart-first : (x : JournalId) → (first_at x + 1024 ≤ 6144) ⊎ (8192 ≤ first_at x)
apart-first J0 = inr (omega arith)
apart-first J1 = inr (omega arith)
apart-first J2 = inl (omega arith)

apart-second : (x : JournalId) → (second_at x + 1024 ≤ 6144) ⊎ (8192 ≤ second_at x)
apart-second J0 = inr (omega arith)
apart-second J1 = inl (omega arith)
apart-second J2 = inr (omega arith)

pub region-apart : (place : ℕ) → IsRegion place → (place + 1024 ≤ 6144) ⊎ (8192 ≤ place)
unfolding IsRegion
region-apart place (x, inl e) = subst (λ z. (z + 1024 ≤ 6144) ⊎ (8192 ≤ z)) (sym e) (apart-first x)
region-apart place (x, inr e) = subst (λ z. (z + 1024 ≤ 6144) ⊎ (8192 ≤ z)) (sym e) (apart-second x)

pub region-from : (place : ℕ) → IsRegion place → 4096 ≤ place
unfolding IsRegion
region-from place (x, inl e) = subst (λ z. 4096 ≤ z) (sym e) (first-from x)
region-from place (x, inr e) = subst (λ z. 4096 ≤ z) (sym e) (second-from x)

pub region-votes : (b : Bits) (place : ℕ) → IsRegion place → InEachRegion (AreFirmVotes b) → AreFirmVotes b place
unfolding IsRegion
region-votes b place (x, inl e) h = subst (λ z. AreFirmVotes b z) (sym e) (h x).0
region-votes b place (x, inr e) h = subst (λ z. AreFirmVotes b z) (sym e) (h x).1

-- a vote that is unused or open, and firm, has no weak bit
pub plain-vote : (b : Bits) (at : ℕ) → IsFirmVote b.shown b.weak at → 254 ≤ byte b.shown at → byte b.weak at ≡ 0
plain-vote b at (firm none) more = none
plain-vote b at (given_up low from to) more = absurd (omega (arith, to, more))

pub beside-one : (a b : Bits) (at new : ℕ) → Leaves a (TornProgramBits a at (new ∷ [])) (program_bits a at (new ∷ [])) b → (i : ℕ) → i ≢ at → (byte b.shown i ≡ byte a.shown i) × (byte b.weak i ≡ byte a.weak i)
beside-one a b at new l i other = program-beside a b at (new ∷ []) l i (elim (cases_lt i at) [ inl low ↦ inl low | inr from ↦ inr (let one : length (new ∷ []) ≡ 1 = refl in omega (arith, other, from, one)) ])

pub opening-interrupted : (a b : Bits) (place k : ℕ) → IsRegion place → k < 1024 → byte a.shown (place + k) ≡ 255 → ((j : ℕ) → j < k → byte a.shown (place + j) ≢ 255)
    → Leaves a (TornProgramBits a (place + k) (254 ∷ [])) (program_bits a (place + k) (254 ∷ [])) b → AreFirmJournals a → AreInterruptedJournals b
opening-interrupted a b place k region low was below l h =
    let none = plain-vote a (place + k) (region-votes a place region h.votes k low) (omega (arith, was)) in
    let beside = beside-one a b (place + k) 254 l in
    step-interrupted a b place k (region-aligned place region) low (region-from place region) (region-apart place region) beside (opened-bits a b (place + k) was none l)
    (λ e. record { unused = e; below = λ j under u. below j under (sym (beside (place + j) (λ q. omega (arith, q, under))).0 ∙ u) }) h

pub closing-interrupted : (a b : Bits) (place k : ℕ) → IsRegion place → k < 1024 → byte a.shown (place + k) ≡ 254 → byte b.shown (place + k) ≢ 255
    → Leaves a (TornProgramBits a (place + k) (252 ∷ [])) (program_bits a (place + k) (252 ∷ [])) b → AreFirmJournals a → AreInterruptedJournals b
closing-interrupted a b place k region low was is l h =
    let none = plain-vote a (place + k) (region-votes a place region h.votes k low) (omega (arith, was)) in
    step-interrupted a b place k (region-aligned place region) low (region-from place region) (region-apart place region) (beside-one a b (place + k) 252 l) (closed-bits a b (place + k) was none l)
    (λ e. absurd (is e)) h
