-- A program in the data blocks was interrupted while no erase goes on: nor does one at a later power-on.
use Rattle.std.proofs.Common.{◌≡◌, ℕ, ◌+◌, ◌<◌, ◌≤◌, Bool, true, false, List, length, refl, sym, ap, ◌∙◌, arith, inl}
use Rattle.std.specs.Prelude.{◌&&◌, nat_lt}
use Rattle.std.proofs.lemmas.List.{get_or_past}
use Rattle.chip_model.specs.Memory.{and_at, TornAnd}
use Rattle.chip_model.specs.Wavering.{Bits, Drawn}
use Rattle.erase_journal.specs.Blocks.{is_opened, is_believed0}
use Rattle.nor_driver.specs.State.{Leaves, as_before, torn_in_it, changed_whole}
use Rattle.nor_layout.specs.declared.journal.JournalId.{JournalId}
use Rattle.nor_layout.specs.declared.journal.JournalId.TheVariants.{J0, J1, J2}
use Rattle.nor_layout.specs.Journals.{first_at, second_at}
use Rattle.erase_journal.specs.Journals.{IsSettled, entries_for}
use Rattle.erase_journal.proofs.Entries.{data-spoiled}
use Rattle.erase_journal.proofs.Draws.{entries-drawn}
use Rattle.erase_journal.proofs.Effects.{and-leaves}
use Rattle.erase_journal.proofs.Opened.{none-named}
use Rattle.erase_journal.specs.Weak.{AreFirmJournals}
use Rattle.erase_journal.proofs.Losses.{program-beside, vote-beside, entries-beside}
use Rattle.erase_journal.specs.Torn.{SameAt, ProgramInterrupted}
use Rattle.sector_slots.specs.Slots.{data_blocks}
use Rattle.sector_slots.specs.Steps.{IsErasable}

-- At the next power-on an erase goes on only of blocks that may be erased.
abbrev pub AreOpenedErasable : List ℕ → List ℕ → Type 0
AreOpenedErasable m v = (e : ℕ) → e < data_blocks m → is_opened v (e + 4) ≡ true → IsErasable e m

-- A program in the data blocks of a chip with firm journals was interrupted: at no draw a block has an open entry.
pub journals-beside : (a b : Bits) → ((i : ℕ) → i < 16384 → SameAt a b i) → AreFirmJournals a → AreFirmJournals b
journals-beside a b same h = record {
  superblock = λ k low. (same (0 + k) (omega (arith, low))).1 ∙ h.superblock k low;
  votes = λ x. (
    λ k low. vote-beside a b (first_at x + k) (same (first_at x + k) (omega (arith, low, first-below x))) ((h.votes x).0 k low),
    λ k low. vote-beside a b (second_at x + k) (same (second_at x + k) (omega (arith, low, second-below x))) ((h.votes x).1 k low),
  );
  entries = entries-beside a b (λ i least most. same i (omega (arith, most))) h.entries;
} where
  first-below : (x : JournalId) → first_at x ≤ 13312
  first-below J0 = omega arith
  first-below J1 = omega arith
  first-below J2 = omega arith

  second-below : (x : JournalId) → second_at x ≤ 12288
  second-below J0 = omega arith
  second-below J1 = omega arith
  second-below J2 = omega arith

pub shown-leaves : (a new : Bits) (at : ℕ) (bytes : List ℕ) → ProgramInterrupted at bytes a new → Leaves a.shown (TornAnd a.shown at bytes) (and_at a.shown at bytes) new.shown
shown-leaves a new at bytes (as_before e) = as_before (ap (λ (x : Bits). x.shown) e)
shown-leaves a new at bytes (torn_in_it t) = torn_in_it t.0
shown-leaves a new at bytes (changed_whole e) = changed_whole (ap (λ (x : Bits). x.shown) e)

none-opened : (t : Bool) (n : ℕ) → n ≡ 0 → (t && nat_lt 0 n) ≡ false
none-opened true n e = rw e refl
none-opened false n e = refl

pub program-unopened : (a new : Bits) (at : ℕ) (bytes : List ℕ) → 16384 ≤ at → IsSettled a.shown → AreFirmJournals a → ProgramInterrupted at bytes a new → (v : List ℕ) → Drawn new.weak new.shown v → (e : ℕ) → is_opened v e ≡ false
program-unopened a new at bytes from settled journals l v d e =
    let still = data-spoiled at (length bytes) a.shown new.shown settled.sound from (and-leaves a.shown at bytes new.shown (shown-leaves a new at bytes l)) in
    let firm = journals-beside a new (λ i low. program-beside a new at bytes l i (inl (omega (arith, low, from)))) journals in
    none-opened (is_believed0 v) (entries_for v e) (entries-drawn new v d firm e ∙ none-named new.shown e (still.1.opened ∙ settled.none))

-- The same where the journals are as they were, whatever changed in the data blocks.
pub journals-unopened : (a new : Bits) → length new.shown ≡ length a.shown → ((i : ℕ) → i < 16384 → SameAt a new i) → IsSettled a.shown → AreFirmJournals a → (v : List ℕ) → Drawn new.weak new.shown v → (e : ℕ) → is_opened v e ≡ false
journals-unopened a new size same settled journals v d e =
    let still = data-spoiled 16384 (length a.shown) a.shown new.shown settled.sound (omega arith) (record {
      same_length = size;
      below = λ i low. (same i low).0;
      above = λ i past. get_or_past new.shown i 0 (omega (arith, size, past)) ∙ sym (get_or_past a.shown i 0 (omega (arith, past)));
    }) in
    let firm = journals-beside a new same journals in
    none-opened (is_believed0 v) (entries_for v e) (entries-drawn new v d firm e ∙ none-named new.shown e (still.1.opened ∙ settled.none))
