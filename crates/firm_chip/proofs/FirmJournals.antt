-- Firm journals are those of a firm chip.
use Rattle.std.proofs.Common.{◌≡◌, ℕ, ◌+◌, ◌-◌, ◌<◌, ◌⊎◌, arith, inl, inr}
use Rattle.std.proofs.lemmas.Bool.{cases_lt}
use Rattle.std.proofs.lemmas.Nat.Bits.{bit_at_ones}
use Rattle.chip_model.specs.Wavering.{Bits}
use Rattle.nor_layout.specs.declared.journal.JournalId.{JournalId}
use Rattle.nor_layout.specs.declared.journal.JournalId.TheVariants.{J0, J1, J2}
use Rattle.nor_layout.specs.Journals.{journal_at}
use Rattle.nor_layout.specs.Entries.{entry_at}
use Rattle.erase_journal.specs.Weak.{AreFirm, AreFirmVotes, InEachRegion, IsUsedForGood, AreFirmJournals}
use Rattle.firm_chip.specs.FirmChips.{AreVotesFirm, IsFirmEntry, firm, ended}

journal-votes : (b : Bits) (base : ℕ) → AreFirmVotes b base → AreFirmVotes b (base + 1024) → AreVotesFirm b.shown b.weak base
journal-votes b base p q k low = elim (cases_lt k 1024) [
  | inl here ↦ p k here
  | inr past ↦ (let e : base + 1024 + (k - 1024) ≡ base + k = omega (arith, past) in rw e at (q (k - 1024) (omega (arith, low, past))))
]

each-journal : (b : Bits) → InEachRegion (AreFirmVotes b) → (j : JournalId) → AreVotesFirm b.shown b.weak (journal_at j)
each-journal b h J0 = journal-votes b (journal_at J0) (h J1).1 (h J2).0
each-journal b h J1 = journal-votes b (journal_at J1) (h J2).1 (h J0).0
each-journal b h J2 = journal-votes b (journal_at J2) (h J0).1 (h J1).0

entry-firm : (b : Bits) (i : ℕ) → AreFirm b.weak (entry_at i) 4 ⊎ IsUsedForGood b i → IsFirmEntry b.shown b.weak i
entry-firm b i (inl f) = firm f
entry-firm b i (inr u) = ended (record { bit = u.bit; firm = u.firm; differs = λ e. (let one = bit_at_ones 8 u.bit u.inside in let none = u.reads in omega (arith, e, one, none)) })

pub of-firm-chips : (b : Bits) → AreFirmJournals b → AreFirm b.weak 0 16 × ((j : JournalId) → AreVotesFirm b.shown b.weak (journal_at j)) × ((i : ℕ) → i < 512 → IsFirmEntry b.shown b.weak i)
of-firm-chips b h = (h.superblock, each-journal b h.votes, λ i low. entry-firm b i (h.entries i low))
