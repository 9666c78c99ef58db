-- Firm journals stay firm in each step of an erase, and a loss of power leaves of them what a firm recovery wants.
use Rattle.std.proofs.Common.{◌≡◌, ℕ, ◌+◌, ◌-◌, ◌*◌, ◌<◌, ◌≤◌, ◌⊎◌, List, length, refl, sym, subst, arith, inl, inr}
use Rattle.std.proofs.lemmas.Bool.{cases_lt, cases_eq}
use Rattle.chip_model.specs.Memory.{byte, erased}
use Rattle.chip_model.specs.Wavering.{Bits}
use Rattle.nor_driver.specs.State.{NorState, bits_in, IsFirmer, erase_bits}
use Rattle.nor_layout.specs.declared.journal.JournalId.{JournalId}
use Rattle.nor_layout.specs.declared.journal.JournalId.TheVariants.{J0, J1, J2}
use Rattle.nor_layout.specs.Journals.{journal_at, first_at, second_at}
use Rattle.erase_journal.specs.declared.phase.ErasePhase.TheVariants.{Idle, Asked, Doomed, Closing}
use Rattle.erase_journal.specs.Places.{Spoiled}
use Rattle.erase_journal.specs.Journals.{AreJournalsSound, IsSettled, first, tally_of}
use Rattle.erase_journal.specs.Steps.{MayErase, OneChanged, LosesFirmly, VoteInterrupted, not_begun, in_it}
use Rattle.erase_journal.specs.Weak.{AreFirmJournals, AreFirmVotes, AreInterruptedAtEachDraw, IsFirmJournal, IsFirmVote, firm, given_up}
use Rattle.erase_journal.proofs.Steps.{IsBlank}
use Rattle.erase_journal.proofs.FirmJournals.{below-two, entries-stay, firm-journals-stay}
use Rattle.erase_journal.proofs.Renewal.{first-cut, second-cut, first-close-cut, second-close-cut}
use Rattle.erase_journal.proofs.WeakLaws.{are-firm-stays, erase-firm, firm-byte-stays}
use Rattle.erase_journal.proofs.Effects.{erased-spoiled}
use Rattle.erase_journal.proofs.SettledLaws.{settled-healthy}
use Rattle.erase_journal.proofs.Losses.{IsRegion, plain-vote, region-votes}
use Rattle.erase_journal.proofs.Drawing.{read_as, same-bits}
use Rattle.erase_journal.proofs.Cuts.{blank-as, closing-leaves, closing-reads, may-as, one-as, opening-leaves, opening-reads, same-cut, sound-as}

-- where a vote may lie, or anything but an entry
abbrev IsBesideEntries : ℕ → Type 0
IsBesideEntries i = (i < 6144) ⊎ (8192 ≤ i)

-- Votes whose bytes read the same, or are firm.
module _ (a b : Bits) (f : IsFirmer a b) (same : (i : ℕ) → 4096 ≤ i → i < 16384 → IsBesideEntries i → (byte b.shown i ≡ byte a.shown i) ⊎ (byte b.weak i ≡ 0)) (h : AreFirmJournals a) where
  vote-on : (at : ℕ) → 4096 ≤ at → at < 16384 → IsBesideEntries at → IsFirmVote a.shown a.weak at → IsFirmVote b.shown b.weak at
  vote-on at from low out (firm none) = firm (firm-byte-stays a b at f none)
  vote-on at from low out (given_up few least most) = elim (same at from low out) [
    | inl e ↦ given_up (below-two a b at f few) (omega (arith, e, least)) (omega (arith, e, most))
    | inr none ↦ firm none
  ]

  votes-on : (place : ℕ) → 4096 ≤ place → place + 1024 ≤ 16384 → (place + 1024 ≤ 6144) ⊎ (8192 ≤ place) → AreFirmVotes a place → AreFirmVotes b place
  votes-on place from to out v k low = vote-on (place + k) (omega (arith, from)) (omega (arith, to, low)) (elim out [ inl under ↦ inl (omega (arith, under, low)) | inr above ↦ inr (omega (arith, above)) ]) (v k low)

  regions-on : (x : JournalId) → AreFirmVotes b (first_at x) × AreFirmVotes b (second_at x)
  regions-on J0 = (votes-on (first_at J0) (omega arith) (omega arith) (inr (omega arith)) (h.votes J0).0, votes-on (second_at J0) (omega arith) (omega arith) (inr (omega arith)) (h.votes J0).1)
  regions-on J1 = (votes-on (first_at J1) (omega arith) (omega arith) (inr (omega arith)) (h.votes J1).0, votes-on (second_at J1) (omega arith) (omega arith) (inl (omega arith)) (h.votes J1).1)
  regions-on J2 = (votes-on (first_at J2) (omega arith) (omega arith) (inl (omega arith)) (h.votes J2).0, votes-on (second_at J2) (omega arith) (omega arith) (inr (omega arith)) (h.votes J2).1)

  pub firm-on : AreFirmJournals b
  firm-on = record {
    superblock = are-firm-stays a b 0 16 f h.superblock;
    votes = regions-on;
    entries = entries-stay a b f h.entries;
  }

-- A firm vote that is unused or open has no weak bit, before and after it is programmed.
region-vote : (a : Bits) (place k : ℕ) → AreFirmVotes a place → k < 1024 → 254 ≤ byte a.shown (place + k) → byte a.weak (place + k) ≡ 0
region-vote a place k v low more = plain-vote a (place + k) (v k low) more

pub vote-firm : (a b : Bits) (place old new : ℕ) → IsRegion place → 254 ≤ old → IsFirmer a b → OneChanged place old new a.shown b.shown → AreFirmJournals a → AreFirmJournals b
vote-firm a b place old new region more f c h = firm-on a b f (λ i from low out. elim (cases_eq i (place + c.at)) [
  | inr other ↦ inl (c.change.rest i other)
  | inl here ↦ inr (subst (λ z. byte b.weak z ≡ 0) (sym here) (firm-byte-stays a b (place + c.at) f (region-vote a place c.at (region-votes a place region h.votes) c.within (let was = c.change.was in omega (arith, was, more)))))
]) h

-- entries are changed
pub entry-firm : (a b : Bits) (at n : ℕ) → 6144 ≤ at → at + n ≤ 8192 → IsFirmer a b → Spoiled at n a.shown b.shown → AreFirmJournals a → AreFirmJournals b
entry-firm a b at n from to f s h = firm-on a b f (λ i least most out. inl (elim out [
  | inl under ↦ s.below i (omega (arith, under, from))
  | inr above ↦ s.above i (omega (arith, above, to))
])) h

-- a data block is changed
pub data-firm : (a b : Bits) (at n : ℕ) → 16384 ≤ at → IsFirmer a b → Spoiled at n a.shown b.shown → AreFirmJournals a → AreFirmJournals b
data-firm a b at n from f s h = firm-on a b f (λ i least most out. inl (s.below i (omega (arith, most, from)))) h

-- a journal is erased
pub journal-firm : (a b : Bits) (x : JournalId) → IsFirmer a b → Spoiled (journal_at x) 4096 a.shown b.shown → IsFirmJournal b.weak x → AreFirmJournals a → AreFirmJournals b
journal-firm a b x f s firmly h = firm-on a b f (λ i least most out. elim (cases_lt i (journal_at x)) [
  | inl under ↦ inl (s.below i under)
  | inr from ↦ elim (cases_lt i (journal_at x + 4096)) [
    | inr above ↦ inl (s.above i above)
    | inl inside ↦ inr (let e : journal_at x + (i - journal_at x) ≡ i = omega (arith, from) in rw e at (firmly (i - journal_at x) (omega (arith, from, inside))))
  ]
]) h

-- regions
pub first-region : (x : JournalId) → IsRegion (first_at x)
unfolding IsRegion
first-region x = (x, inl refl)

pub second-region : (x : JournalId) → IsRegion (second_at x)
unfolding IsRegion
second-region x = (x, inr refl)

pub first-end : (x : JournalId) → first_at x + 1024 ≤ 16384
first-end J0 = omega arith
first-end J1 = omega arith
first-end J2 = omega arith

pub second-end : (x : JournalId) → second_at x + 1024 ≤ 16384
second-end J0 = omega arith
second-end J1 = omega arith
second-end J2 = omega arith

-- A loss of power in each step of an erase of a journal.
pub first-loses : (x : JournalId) (a b : Bits) → 16384 ≤ length a.shown → MayErase x a.shown → AreFirmJournals a → VoteInterrupted (first_at x) 255 254 a b → AreInterruptedAtEachDraw b
first-loses x a b long may h (not_begun e) = subst (λ (z : Bits). AreInterruptedAtEachDraw z) (sym e) (same-cut a h (Idle, may.settled.sound))
first-loses x a b long may h (in_it k low was lowest l) =
    let end = first-end x in
    let size : first_at x + 1024 ≤ length a.shown = omega (arith, end, long) in λ v w. (
      (first-cut x (read_as v a.weak a.shown) v (may-as a h v x may) (opening-reads a b h (first_at x) k (first-region x) low size was lowest l v w)).healthy,
      opening-leaves a b h (first_at x) k (first-region x) low size was lowest l v w,
    )

pub second-loses : (x : JournalId) (a b : Bits) → 16384 ≤ length a.shown → AreJournalsSound (Asked x) a.shown → AreFirmJournals a → VoteInterrupted (second_at x) 255 254 a b → AreInterruptedAtEachDraw b
second-loses x a b long sound h (not_begun e) = subst (λ (z : Bits). AreInterruptedAtEachDraw z) (sym e) (same-cut a h (Asked x, sound))
second-loses x a b long sound h (in_it k low was lowest l) =
    let end = second-end x in
    let size : second_at x + 1024 ≤ length a.shown = omega (arith, end, long) in λ v w. (
      (second-cut x (read_as v a.weak a.shown) v (sound-as a h v (Asked x) sound) (opening-reads a b h (second_at x) k (second-region x) low size was lowest l v w)).healthy,
      opening-leaves a b h (second_at x) k (second-region x) low size was lowest l v w,
    )

pub first-close-loses : (x : JournalId) (a b : Bits) → 16384 ≤ length a.shown → AreJournalsSound (Doomed x) a.shown → (first (tally_of a.shown) x).opened ≡ 1 → IsBlank x a.shown → AreFirmJournals a → VoteInterrupted (first_at x) 254 252 a b → AreInterruptedAtEachDraw b
first-close-loses x a b long sound one blank h (not_begun e) = subst (λ (z : Bits). AreInterruptedAtEachDraw z) (sym e) (same-cut a h (Doomed x, sound))
first-close-loses x a b long sound one blank h (in_it k low was lowest l) =
    let end = first-end x in
    let size : first_at x + 1024 ≤ length a.shown = omega (arith, end, long) in λ v w. (
      (first-close-cut x (read_as v a.weak a.shown) v (sound-as a h v (Doomed x) sound) (one-as a h v x one) (blank-as a h v x blank) (closing-reads a b h (first_at x) k (first-region x) low size was lowest l v w)).healthy,
      closing-leaves a b h (first_at x) k (first-region x) low size was lowest l v w,
    )

pub second-close-loses : (x : JournalId) (a b : Bits) → 16384 ≤ length a.shown → AreJournalsSound (Closing x) a.shown → AreFirmJournals a → VoteInterrupted (second_at x) 254 252 a b → AreInterruptedAtEachDraw b
second-close-loses x a b long sound h (not_begun e) = subst (λ (z : Bits). AreInterruptedAtEachDraw z) (sym e) (same-cut a h (Closing x, sound))
second-close-loses x a b long sound h (in_it k low was lowest l) =
    let end = second-end x in
    let size : second_at x + 1024 ≤ length a.shown = omega (arith, end, long) in λ v w. (
      (second-close-cut x (read_as v a.weak a.shown) v (sound-as a h v (Closing x) sound) (closing-reads a b h (second_at x) k (second-region x) low size was lowest l v w)).healthy,
      closing-leaves a b h (second_at x) k (second-region x) low size was lowest l v w,
    )

-- after calls that answered Ok
pub loses-after : (a b c : NorState) → IsFirmer (bits_in a) (bits_in b) → IsSettled b.memory → LosesFirmly b c → LosesFirmly a c
loses-after a b c f settled l before h = l settled (firm-journals-stay (bits_in a) (bits_in b) f before settled h)

-- a call that changed nothing
pub same-loses : (a b : NorState) → b.memory ≡ a.memory → b.weak ≡ a.weak → LosesFirmly a b
same-loses a b same weak settled h = subst (λ (z : Bits). AreInterruptedAtEachDraw z) (same-bits a.memory b.memory a.weak b.weak (sym same) (sym weak)) (same-cut (bits_in a) h (settled-healthy a.memory settled))

pub firm-as-before : (a b : NorState) → b.memory ≡ a.memory → b.weak ≡ a.weak → AreFirmJournals (bits_in a) → AreFirmJournals (bits_in b)
firm-as-before a b same weak h = subst (λ (z : Bits). AreFirmJournals z) (same-bits a.memory b.memory a.weak b.weak (sym same) (sym weak)) h

-- the erase of a journal
pub erased-firm : (x : JournalId) (a b : Bits) → IsFirmer a b → b ≡ erase_bits a (journal_at x) 4096 → AreFirmJournals a → AreFirmJournals b
erased-firm x a b f e h =
    journal-firm a b x f (subst (λ (z : Bits). Spoiled (journal_at x) 4096 a.shown z.shown) (sym e) (erased-spoiled a.shown (journal_at x) 4096))
    (subst (λ (z : Bits). IsFirmJournal z.weak x) (sym e) (erase-firm a.weak (journal_at x) 4096)) h

-- the erase of a data block
pub block-firm : (c : ℕ) (a b : NorState) → 4 ≤ c → IsFirmer (bits_in a) (bits_in b) → b.memory ≡ erased a.memory (4096 * c) 4096 → AreFirmJournals (bits_in a) → AreFirmJournals (bits_in b)
block-firm c a b least f e h = data-firm (bits_in a) (bits_in b) (4096 * c) 4096 (omega (arith, least)) f (subst (λ (m : List ℕ). Spoiled (4096 * c) 4096 a.memory m) (sym e) (erased-spoiled a.memory (4096 * c) 4096)) h
