-- What the steps leave of the blocks.
use Rattle.std.proofs.Common.{◌≡◌, ℕ, zero, suc, ◌+◌, ◌-◌, ◌*◌, ◌/◌, ◌<◌, ◌≤◌, true, List, length, refl, sym, ap, ◌∙◌, arith, inl, inr}
use Rattle.std.proofs.lemmas.Bool.Decides.{nat_tests}
use Rattle.std.proofs.lemmas.Bool.{cases_lt, cases_eq}
use Rattle.chip_model.specs.Parts.{part}
use Rattle.chip_model.proofs.PartLaws.{part-same}
use Rattle.erase_journal.specs.Places.{Spoiled, Changed}
use Rattle.nor_layout.specs.declared.journal.JournalId.{JournalId}
use Rattle.nor_layout.specs.declared.journal.JournalId.TheVariants.{J0, J1, J2}
use Rattle.erase_journal.specs.declared.phase.ErasePhase.{ErasePhase}
use Rattle.erase_journal.specs.declared.phase.ErasePhase.TheVariants.{Idle, Asked, Doomed, Closing}
use Rattle.erase_journal.specs.Journals.{tally_of, first, second, open_blocks, entries_for, is_open_entry, entry_block, AreJournalsSound}
use Rattle.erase_journal.specs.Blocks.{blank, block, blocks_of, is_opened, listed, SameChip, SameBlocks, WithErased}
use Rattle.erase_journal.proofs.Opened.{none-named, named-some}
use Rattle.erase_journal.proofs.Entries.{named-change, state-changed, state-was, state-is, not-open}
use Rattle.erase_journal.proofs.Regions.{BytesKept, spoiled-below, spoiled-above, SameEntries}

-- A block that a change does not reach is as it was.
pub own-kept : (b : ℕ) (m m' : List ℕ) → BytesKept (4096 * b) 4096 m m' → length m' ≡ length m → part 4096 m' b ≡ part 4096 m b
own-kept b m m' h same = part-same 4096 m m' b same (λ i low. h.bytes i low)

-- A change past the superblock leaves it.
pub chip-kept : (at n : ℕ) (m m' : List ℕ) → Spoiled at n m m' → 4096 ≤ at → SameChip m m'
chip-kept at n m m' s low = record { same_length = s.same_length; superblock = λ k small. s.below k (omega arith) }

listed-same : (f g : ℕ → List ℕ) (from n : ℕ) → ((b : ℕ) → from ≤ b → b < from + n → f b ≡ g b) → listed f from n ≡ listed g from n
unfolding listed
listed-same f g from zero h = refl
listed-same f g from (suc n) h = rw (h from (omega arith) (omega arith), listed-same f g (suc from) n (λ b low high. h b (omega arith) (omega arith))) refl

pub blocks-same : (m m' : List ℕ) → SameBlocks m m' → blocks_of m' ≡ blocks_of m
unfolding blocks_of
blocks-same m m' h = rw h.chip.same_length (listed-same (block m') (block m) 4 (length m / 4096 - 4) (λ b low high. h.each b low (omega arith)))

-- each block represents its own bytes
pub record IsPlain (m : List ℕ) : Type 0 where
  pub own : (b : ℕ) → block m b ≡ part 4096 m b

pub plain-none : (m : List ℕ) → open_blocks m ≡ 0 → IsPlain m
unfolding block
plain-none m none = record { own = λ b. let z = none-named m b none in grind (arith, nat_tests) }

pub plain-doomed : (m : List ℕ) → 1 ≤ (first (tally_of m) J0).opened → (second (tally_of m) J0).opened ≡ 1 → IsPlain m
unfolding block
plain-doomed m one two = record { own = λ b. grind (arith, nat_tests) }

-- Between two plain memories only the journals differ.
pub plain-kept : (at n : ℕ) (m m' : List ℕ) → IsPlain m → IsPlain m' → Spoiled at n m m' → 4096 ≤ at → at + n ≤ 16384 → SameBlocks m m'
plain-kept at n m m' p p' s high low = record {
  chip = chip-kept at n m m' s high;
  each = λ b from to. p'.own b ∙ own-kept b m m' (spoiled-above at n (4096 * b) 4096 m m' s (omega arith)) s.same_length ∙ sym (p.own b);
}

-- Opening an entry for block c erases it.
pub opened-erases : (i c : ℕ) (m m' : List ℕ) → AreJournalsSound Idle m → open_blocks m ≡ 0 → i < 512 → Changed (6144 + 4 * i) 254 252 m m'
    → is_open_entry m' i ≡ true → entry_block m' i ≡ c → AreJournalsSound Idle m' → WithErased c m m'
unfolding block
opened-erases i c m m' h none low change opened names h' =
    let s = state-changed i 254 252 m m' change in
    let p = h.phase in
    let p' = h'.phase in
    record {
      erased = let e = rw (opened, names) at (named-change i c m m' low s) in let l = none-named m c none in grind (arith, nat_tests);
      only = record {
        chip = chip-kept (6144 + 4 * i) 4 m m' s (omega arith);
        others = λ b from to other.
            let e = rw (opened, names) at (named-change i b m m' low s) in
            let l = none-named m b none in
            let k = own-kept b m m' (spoiled-above (6144 + 4 * i) 4 (4096 * b) 4096 m m' s (omega arith)) change.same_length in
            grind (arith, nat_tests);
      };
    }

block-named : (m : List ℕ) (b : ℕ) → AreJournalsSound Idle m → 0 < entries_for m b → block m b ≡ blank
unfolding block
block-named m b h named = let p = h.phase in grind (arith, nat_tests)

block-unnamed : (m : List ℕ) (b : ℕ) → entries_for m b ≡ 0 → block m b ≡ part 4096 m b
unfolding block
block-unnamed m b none = grind (arith, nat_tests)

-- While an entry is open for block c, block c may hold anything.
spoiled-each : (c : ℕ) (m m' : List ℕ) → AreJournalsSound Idle m → 0 < entries_for m c → Spoiled (4096 * c) 4096 m m' → SameEntries m m' → AreJournalsSound Idle m'
    → (b : ℕ) → part 4096 m' b ≡ part 4096 m b → block m' b ≡ block m b
spoiled-each c m m' h named s e h' b own =
    let n = e.named b in
    elim (cases_lt 0 (entries_for m b)) [
      | inl some ↦ block-named m' b h' (omega arith) ∙ sym (block-named m b h some)
      | inr none ↦ block-unnamed m' b (omega arith) ∙ own ∙ sym (block-unnamed m b (omega arith))
    ]

pub spoiled-same : (c : ℕ) (m m' : List ℕ) → 4 ≤ c → AreJournalsSound Idle m → 0 < entries_for m c → Spoiled (4096 * c) 4096 m m' → SameEntries m m' → AreJournalsSound Idle m' → SameBlocks m m'
spoiled-same c m m' least h named s e h' =
    record {
      chip = chip-kept (4096 * c) 4096 m m' s (omega arith);
      each = λ b from to. elim (cases_lt b c) [
        | inl low ↦ spoiled-each c m m' h named s e h' b (own-kept b m m' (spoiled-below (4096 * c) 4096 (4096 * b) 4096 m m' s (omega arith)) s.same_length)
        | inr high ↦ elim (cases_lt c b) [
          | inl above ↦ spoiled-each c m m' h named s e h' b (own-kept b m m' (spoiled-above (4096 * c) 4096 (4096 * b) 4096 m m' s (omega arith)) s.same_length)
          | inr same ↦ let is : b ≡ c = omega arith in let n = e.named c in
              rw is (block-named m' c h' (omega arith) ∙ sym (block-named m c h named))
        ]
      ];
    }

-- Entries that are open for the same blocks represent the same ones.
same-each : (m m' : List ℕ) (b : ℕ) → AreJournalsSound Idle m → AreJournalsSound Idle m' → entries_for m' b ≡ entries_for m b → part 4096 m' b ≡ part 4096 m b → block m' b ≡ block m b
same-each m m' b h h' named own = elim (cases_lt 0 (entries_for m b)) [
  | inl some ↦ block-named m' b h' (omega arith) ∙ sym (block-named m b h some)
  | inr none ↦ block-unnamed m' b (omega arith) ∙ own ∙ sym (block-unnamed m b (omega arith))
]

pub named-same : (at n : ℕ) (m m' : List ℕ) → AreJournalsSound Idle m → AreJournalsSound Idle m' → ((b : ℕ) → entries_for m' b ≡ entries_for m b) → Spoiled at n m m' → 4096 ≤ at → at + n ≤ 16384
    → SameBlocks m m'
named-same at n m m' h h' named s high low = record {
  chip = chip-kept at n m m' s high;
  each = λ b from to. same-each m m' b h h' (named b) (own-kept b m m' (spoiled-above at n (4096 * b) 4096 m m' s (omega arith)) s.same_length);
}

-- Closing an entry once its block c is erased, and opening one more for it.
closed-each : (i c : ℕ) (m m' : List ℕ) → AreJournalsSound Idle m → AreJournalsSound Idle m' → i < 512 → Changed (6144 + 4 * i) 252 248 m m'
    → is_open_entry m i ≡ true → entry_block m i ≡ c → part 4096 m c ≡ blank
    → (b : ℕ) → part 4096 m' b ≡ part 4096 m b → block m' b ≡ block m b
closed-each i c m m' h h' low change opened names is_erased b own =
    let s = state-changed i 252 248 m m' change in
    let is = state-is i 252 248 m m' change in
    elim (cases_eq b c) [
      | inl same ↦
          let named = block-named m b h (named-some i b m low opened (names ∙ sym same)) in
          let blank_in = own ∙ ap (λ x. part 4096 m x) same ∙ is_erased in
          elim (cases_lt 0 (entries_for m' b)) [
            | inl some ↦ block-named m' b h' some ∙ sym named
            | inr none ↦ block-unnamed m' b (omega arith) ∙ blank_in ∙ sym named
          ]
      | inr other ↦ let e = rw (opened, names, not-open m' i (λ e. omega arith)) at (named-change i b m m' low s) in same-each m m' b h h' (grind (arith, nat_tests)) own
    ]

pub closed-same : (i c : ℕ) (m m' : List ℕ) → AreJournalsSound Idle m → AreJournalsSound Idle m' → i < 512 → Changed (6144 + 4 * i) 252 248 m m'
    → is_open_entry m i ≡ true → entry_block m i ≡ c → part 4096 m c ≡ blank → SameBlocks m m'
closed-same i c m m' h h' low change opened names is_erased = record {
  chip = chip-kept (6144 + 4 * i) 4 m m' (state-changed i 252 248 m m' change) (omega arith);
  each = λ b from to.
      let s = state-changed i 252 248 m m' change in
      closed-each i c m m' h h' low change opened names is_erased b (own-kept b m m' (spoiled-above (6144 + 4 * i) 4 (4096 * b) 4096 m m' s (omega arith)) change.same_length);
}

joined-each : (i c : ℕ) (m m' : List ℕ) → AreJournalsSound Idle m → AreJournalsSound Idle m' → i < 512 → Changed (6144 + 4 * i) 254 252 m m'
    → is_open_entry m' i ≡ true → entry_block m' i ≡ c → 0 < entries_for m c
    → (b : ℕ) → part 4096 m' b ≡ part 4096 m b → block m' b ≡ block m b
joined-each i c m m' h h' low change opened names named b own =
    let s = state-changed i 254 252 m m' change in
    let was = state-was i 254 252 m m' change in
    let e = rw (opened, names, not-open m i (λ e. omega arith)) at (named-change i b m m' low s) in
    elim (cases_eq b c) [
      | inl same ↦ (let some = rw (sym same) at named in block-named m' b h' (grind (arith, nat_tests)) ∙ sym (block-named m b h some))
      | inr other ↦ same-each m m' b h h' (grind (arith, nat_tests)) own
    ]

pub joined-same : (i c : ℕ) (m m' : List ℕ) → AreJournalsSound Idle m → AreJournalsSound Idle m' → i < 512 → Changed (6144 + 4 * i) 254 252 m m'
    → is_open_entry m' i ≡ true → entry_block m' i ≡ c → 0 < entries_for m c → SameBlocks m m'
joined-same i c m m' h h' low change opened names named = record {
  chip = chip-kept (6144 + 4 * i) 4 m m' (state-changed i 254 252 m m' change) (omega arith);
  each = λ b from to.
      let s = state-changed i 254 252 m m' change in
      joined-each i c m m' h h' low change opened names named b (own-kept b m m' (spoiled-above (6144 + 4 * i) 4 (4096 * b) 4096 m m' s (omega arith)) change.same_length);
}

-- The phases of a journal's erase are plain.
pub asked-plain : (x : JournalId) (m : List ℕ) → AreJournalsSound (Asked x) m → IsPlain m
asked-plain x m h = plain-none m h.phase.4

pub closing-plain : (x : JournalId) (m : List ℕ) → AreJournalsSound (Closing x) m → IsPlain m
closing-plain x m h = plain-none m h.phase.4

pub doomed-plain : (x : JournalId) (m : List ℕ) → AreJournalsSound (Doomed x) m → IsPlain m
doomed-plain J0 m h = let p = h.phase in plain-doomed m p.0.0 p.1.0
doomed-plain J1 m h = let p = h.phase in plain-none m p.4
doomed-plain J2 m h = let p = h.phase in plain-none m p.4

pub opened-some : (m : List ℕ) (b : ℕ) → is_opened m b ≡ true → 0 < entries_for m b
opened-some m b is = grind (arith, nat_tests)

none-opened : (m : List ℕ) (b : ℕ) → open_blocks m ≡ 0 → is_opened m b ≡ true → ⊥
none-opened m b none is = let z = none-named m b none in let some = opened-some m b is in omega arith

doomed-opened : (m : List ℕ) (b : ℕ) → 1 ≤ (first (tally_of m) J0).opened → (second (tally_of m) J0).opened ≡ 1 → is_opened m b ≡ true → ⊥
doomed-opened m b one two is = grind (arith, nat_tests)

-- In phase Idle alone a believed J0 holds an open entry.
pub opened-idle : (p : ErasePhase) (m : List ℕ) (b : ℕ) → AreJournalsSound p m → is_opened m b ≡ true → (p ≡ Idle) × (0 < entries_for m b)
opened-idle Idle m b h is = (refl, opened-some m b is)
opened-idle (Asked x) m b h is = absurd (none-opened m b h.phase.4 is)
opened-idle (Doomed J0) m b h is = let p = h.phase in absurd (doomed-opened m b p.0.0 p.1.0 is)
opened-idle (Doomed J1) m b h is = let p = h.phase in absurd (none-opened m b p.4 is)
opened-idle (Doomed J2) m b h is = let p = h.phase in absurd (none-opened m b p.4 is)
opened-idle (Closing x) m b h is = absurd (none-opened m b h.phase.4 is)
