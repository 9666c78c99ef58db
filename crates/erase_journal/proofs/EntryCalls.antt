-- An entry is taken, opened and closed.
use Rattle.std.proofs.Common.{◌≡◌, ◌≢◌, ℕ, ◌+◌, ◌*◌, ◌/◌, ◌<◌, ◌≤◌, true, List, [], ◌∷◌, length, get_or, refl, ap, subst, ◌∙◌, arith, inl, inr, add-zero, lit<, lit≤}
use Rattle.std.specs.Prelude.{bit_and}
use Rattle.std.proofs.lemmas.Nat.{and_mask, and_comm}
use Rattle.std.proofs.lemmas.Bool.{cases_eq}
use Rattle.std.proofs.lemmas.Grind.{same_number_lists}
use Rattle.std.proofs.lemmas.Bool.Decides.{nat_tests}
use Rattle.chip_model.specs.Memory.{byte, and_at, erased, TornAnd, TornErase}
use Rattle.chip_model.proofs.MemoryLaws.{placed-inside, not-within-above}
use Rattle.chip_model.proofs.BitLaws.{mixed_one}
use Rattle.chip_model.specs.Parts.{part}
use Rattle.chip_model.proofs.PartLaws.{part-erased}
use Rattle.nor_driver.specs.State.{Leaves, as_before, torn_in_it, changed_whole}
use Rattle.erase_journal.specs.declared.phase.ErasePhase.TheVariants.{Idle}
use Rattle.erase_journal.specs.Places.{Spoiled, Changed}
use Rattle.erase_journal.specs.Journals.{entry_byte, entry_block, is_free_entry, is_open_entry, unused, AreJournalsSound, IsSettled, entries_for}
use Rattle.erase_journal.specs.Blocks.{blank, SameBlocks, WithErased}
use Rattle.erase_journal.specs.Steps.{KeepsBlocks, EraseInterrupted, as_it_was, block_erased, IsRestful, IsOpened, IsTaken}
use Rattle.erase_journal.proofs.Effects.{spoiled-refl, and-spoiled, and-outside, torn-spoiled, program-leaves, program-changes, bit-open, bit-close, bit-done, erase-leaves, erased-spoiled}
use Rattle.erase_journal.specs.Spending.{MayTake, once_used}
use Rattle.erase_journal.proofs.Lasting.{Last-rested}
use Rattle.erase_journal.proofs.Opened.{none-open, named-some}
use Rattle.erase_journal.proofs.Entries.{entry-taken, entry-begun, entry-opened, entry-closed, none-beside, open-elsewhere, open-below, data-spoiled, state-changed, state-is}
use Rattle.erase_journal.proofs.Blocks.{plain-none, plain-kept, opened-erases, spoiled-same, closed-same, named-same}
use Rattle.erase_journal.proofs.Renewal.{same-chip-on, same-blocks-refl, stands-on}

and-255 : (x : ℕ) → x < 256 → bit_and 255 x ≡ x
and-255 x low = and_comm 255 x ∙ and_mask x 8 ∙ (omega arith)

pub free-bytes : (m : List ℕ) (i : ℕ) → is_free_entry m i ≡ true → (entry_byte m i 0 ≡ 255) × (entry_byte m i 1 ≡ 255) × (entry_byte m i 2 ≡ 255) × (entry_byte m i 3 ≡ 255)
free-bytes m i free = (grind (arith, nat_tests), grind (arith, nat_tests), grind (arith, nat_tests), grind (arith, nat_tests))

-- three bytes of an entry are bytes of the entry
wider : (at : ℕ) (m m' : List ℕ) → Spoiled at 3 m m' → Spoiled at 4 m m'
wider at m m' s = record { same_length = s.same_length; below = s.below; above = λ k past. s.above k (omega arith) }

module _ (m : List ℕ) (i low high : ℕ) (long : 16384 ≤ length m) (small : i < 512) (free : is_free_entry m i ≡ true) (l : low < 256) (h : high < 256) where
  taken-spoiled : Spoiled (6144 + 4 * i) 4 m (and_at m (6144 + 4 * i) (254 ∷ low ∷ high ∷ []))
  taken-spoiled = wider (6144 + 4 * i) m (and_at m (6144 + 4 * i) (254 ∷ low ∷ high ∷ [])) (and-spoiled m (6144 + 4 * i) (254 ∷ low ∷ high ∷ []))

  taken-byte : (j : ℕ) → j < 3 → entry_byte (and_at m (6144 + 4 * i) (254 ∷ low ∷ high ∷ [])) i j ≡ bit_and 255 (get_or (254 ∷ low ∷ high ∷ []) j 0)
  taken-byte j s =
      let f = free-bytes m i free in
      let x : byte m (6144 + 4 * i + j) ≡ 255 = elim (cases_eq j 0) [ inl z ↦ rw z f.0 | inr nz ↦ elim (cases_eq j 1) [ inl o ↦ rw o f.1 | inr rest ↦ let t : j ≡ 2 = omega arith in rw t f.2 ] ] in
      placed-inside bit_and m (6144 + 4 * i) (254 ∷ low ∷ high ∷ []) j s (omega arith) ∙ ap (λ b. bit_and b (get_or (254 ∷ low ∷ high ∷ []) j 0)) x

  pub taken : IsTaken i (low + 256 * high) m (and_at m (6144 + 4 * i) (254 ∷ low ∷ high ∷ []))
  taken =
      let b0 = taken-byte 0 (lit< tt) in let b1 = taken-byte 1 (lit< tt) in let b2 = taken-byte 2 (lit< tt) in
      let f = free-bytes m i free in
      record {
        spoiled = taken-spoiled;
        state = b0;
        last = and-outside m (6144 + 4 * i) (254 ∷ low ∷ high ∷ []) (6144 + 4 * i + 3) (not-within-above (6144 + 4 * i) 3 (6144 + 4 * i + 3) (omega arith)) ∙ f.3;
        names = rw (b1, b2, and-255 low l, and-255 high h) (omega arith);
      }

  torn-wider : (torn : List ℕ) → TornAnd m (6144 + 4 * i) (254 ∷ low ∷ high ∷ []) torn → Spoiled (6144 + 4 * i) 4 m torn
  torn-wider torn t = wider (6144 + 4 * i) m torn (torn-spoiled m (6144 + 4 * i) (254 ∷ low ∷ high ∷ []) torn t)

  torn-state : (torn : List ℕ) → TornAnd m (6144 + 4 * i) (254 ∷ low ∷ high ∷ []) torn → entry_byte torn i 0 ≢ 252
  torn-state torn t is =
      let f = free-bytes m i free in
      let mixed = rw (taken-byte 0 (lit< tt), f.0) at (t.each (6144 + 4 * i + 0) (omega arith)) in
      elim (mixed_one 0 255 254 (entry_byte torn i 0) bit-open.others mixed) [ inl e ↦ omega arith | inr e ↦ omega arith ]

  -- also torn: the entry isn't open
  pub take-leaves : (new : List ℕ) → Leaves m (TornAnd m (6144 + 4 * i) (254 ∷ low ∷ high ∷ [])) (and_at m (6144 + 4 * i) (254 ∷ low ∷ high ∷ [])) new
      → Spoiled (6144 + 4 * i) 4 m new × (entry_byte new i 0 ≢ 252)
  take-leaves new (as_before e) = let f = free-bytes m i free in (rw e (spoiled-refl (6144 + 4 * i) 4 m), rw e (λ is. omega arith))
  take-leaves new (torn_in_it t) = (torn-wider new t, torn-state new t)
  take-leaves new (changed_whole e) = (rw e taken.spoiled, rw e (λ is. let s = taken.state in omega arith))

-- An entry that is taken leaves all as it was.
pub taken-settled : (i : ℕ) (m m' : List ℕ) → IsRestful m → i < 512 → Spoiled (6144 + 4 * i) 4 m m' → entry_byte m' i 0 ≢ 252 → IsSettled m' × SameBlocks m m'
taken-settled i m m' r low s state =
    let t = entry-taken i m m' r.settled.sound r.settled.none low s state r.j0 r.j1 r.j2 in
    (record { sound = t.0; none = t.1 }, plain-kept (6144 + 4 * i) 4 m m' (plain-none m r.settled.none) (plain-none m' t.1) s (omega arith) (omega arith))

-- A free entry is taken beside open ones.
pub restful-may : (m : List ℕ) → IsRestful m → MayTake m
restful-may m r = record { sound = r.settled.sound; lasts = Last-rested (unused m) (once_used (unused m)) r.j0 r.j1 r.j2 refl refl refl refl refl refl }

pub begun-same : (i : ℕ) (m m' : List ℕ) → MayTake m → i < 512 → is_free_entry m i ≡ true → Spoiled (6144 + 4 * i) 4 m m' → entry_byte m' i 0 ≢ 252 → AreJournalsSound Idle m' × SameBlocks m m'
begun-same i m m' h low free s state =
    let t = entry-begun i m m' h.sound h.lasts low free s state in
    (t.0, named-same (6144 + 4 * i) 4 m m' h.sound t.0 t.1 s (omega arith) (omega arith))

pub take-cut : (i : ℕ) (m m' : List ℕ) → IsRestful m → i < 512 → Spoiled (6144 + 4 * i) 4 m m' → entry_byte m' i 0 ≢ 252 → KeepsBlocks m m'
take-cut i m m' r low s state = let t = taken-settled i m m' r low s state in record { healthy = (Idle, t.0.sound); blocks = t.1 }

pub now-open : (m : List ℕ) (c i : ℕ) → entry_byte m i 0 ≡ 252 → entry_byte m i 3 ≡ 255 → entry_block m i ≡ c → 4 ≤ c → c < length m / 4096 → is_open_entry m i ≡ true
now-open m c i state last names least most = grind (arith, nat_tests)

pub erased-after : (c : ℕ) (m m' m2 : List ℕ) → SameBlocks m m' → WithErased c m' m2 → WithErased c m m2
erased-after c m m' m2 s e = record {
  only = record {
    chip = same-chip-on m m' m2 s.chip e.only.chip;
    others = λ b from to other. e.only.others b from (rw s.chip.same_length to) other ∙ s.each b from to;
  };
  erased = e.erased;
}

-- Opening it erases the block.
pub opens : (i c : ℕ) (m m' m2 : List ℕ) → IsRestful m → i < 512 → IsTaken i c m m' → Changed (6144 + 4 * i) 254 252 m' m2 → 4 ≤ c → c < length m / 4096
    → IsOpened i c m2 × WithErased c m m2
opens i c m m' m2 r low t change least most =
    let is : entry_byte m2 i 0 ≡ 252 = state-is i 254 252 m' m2 change in
    let settled = taken-settled i m m' r low t.spoiled (λ e. let st = t.state in omega arith) in
    let keeps : (j : ℕ) → 1 ≤ j → entry_byte m2 i j ≡ entry_byte m' i j = λ j from. change.rest (6144 + 4 * i + j) (λ same. omega arith) in
    let names : entry_block m2 i ≡ c = rw (keeps 1 (lit≤ tt), keeps 2 (lit≤ tt)) t.names in
    let last : entry_byte m2 i 3 ≡ 255 = keeps 3 (lit≤ tt) ∙ t.last in
    let opened : is_open_entry m2 i ≡ true = now-open m2 c i is last names least (rw (change.same_length, t.spoiled.same_length) most) in
    let sound = entry-opened i m' m2 settled.0.sound (λ k small other. absurd (let no = none-open m' settled.0.none k small in cc)) low change in
    let s = state-changed i 254 252 m' m2 change in
    let erases = opened-erases i c m' m2 settled.0.sound settled.0.none low change opened names sound in
    (record { sound = sound; within = low; opened = opened; names = names; alone = λ k small other. open-elsewhere i m' m2 s k other ∙ none-open m' settled.0.none k small }, erased-after c m m' m2 settled.1 erases)

-- Once it is open: the block is erased, also torn, and the entry closed.
pub opened-named : (i c : ℕ) (m : List ℕ) → IsOpened i c m → 0 < entries_for m c
opened-named i c m o = named-some i c m o.within o.opened o.names

pub block-spoiled : (i c : ℕ) (m m' : List ℕ) → IsOpened i c m → 4 ≤ c → Spoiled (4096 * c) 4096 m m' → IsOpened i c m' × SameBlocks m m'
block-spoiled i c m m' o least s =
    let d = data-spoiled (4096 * c) 4096 m m' o.sound (omega arith) s in
    let e : (j : ℕ) → j < 4 → entry_byte m' i j ≡ entry_byte m i j = λ j small. let w = o.within in s.below (6144 + 4 * i + j) (omega arith) in (
      record {
        alone = λ k small other. open-below (4096 * c) 4096 m m' s (omega arith) k small ∙ o.alone k small other;
        sound = d.0;
        within = o.within;
        opened = rw (e 0 (lit< tt), e 1 (lit< tt), e 2 (lit< tt), e 3 (lit< tt), s.same_length) o.opened;
        names = rw (e 1 (lit< tt), e 2 (lit< tt)) o.names;
      },
      spoiled-same c m m' least o.sound (opened-named i c m o) s d.1 d.0,
    )

pub entry-done : (i c : ℕ) (m m' : List ℕ) → IsOpened i c m → part 4096 m c ≡ blank → Changed (6144 + 4 * i) 252 248 m m' → IsSettled m' × SameBlocks m m'
entry-done i c m m' o is_erased change =
    let t = entry-closed i m m' o.sound o.opened o.within change in
    let none = none-beside i m m' (state-changed i 252 248 m m' change) o.alone t.1 in
    (record { sound = t.0; none = none }, closed-same i c m m' o.sound t.0 o.within change o.opened o.names is_erased)

pub state-open : (m : List ℕ) (i : ℕ) → is_open_entry m i ≡ true → entry_byte m i 0 ≡ 252
state-open m i opened = grind (arith, nat_tests)

-- The calls of an erase.
pub open-cut : (i c : ℕ) (m m' m2 : List ℕ) → 16384 ≤ length m → IsRestful m → i < 512 → IsTaken i c m m' → 4 ≤ c → c < length m / 4096
    → Leaves m' (TornAnd m' (6144 + 4 * i) (252 ∷ [])) (and_at m' (6144 + 4 * i) (252 ∷ [])) m2 → EraseInterrupted c m m2
open-cut i c m m' m2 long r low t least most l =
    let settled = taken-settled i m m' r low t.spoiled (λ e. let st = t.state in omega arith) in
    let state : byte m' (6144 + 4 * i) ≡ 254 = rw add-zero at t.state in
    let size = t.spoiled.same_length in
    elim (program-leaves 1 m' (6144 + 4 * i) 254 252 m2 (omega arith) state bit-close l) [
      | inl e ↦ as_it_was (rw e (record { healthy = (Idle, settled.0.sound); blocks = settled.1 }))
      | inr c' ↦ let o = opens i c m m' m2 r low t c' least most in block_erased (Idle, o.0.sound) o.1
    ]

pub open-ok : (i c : ℕ) (m m' m2 : List ℕ) → 16384 ≤ length m → IsRestful m → i < 512 → IsTaken i c m m' → 4 ≤ c → c < length m / 4096
    → m2 ≡ and_at m' (6144 + 4 * i) (252 ∷ []) → IsOpened i c m2 × WithErased c m m2
open-ok i c m m' m2 long r low t least most e =
    let state : byte m' (6144 + 4 * i) ≡ 254 = rw add-zero at t.state in
    let size = t.spoiled.same_length in
    opens i c m m' m2 r low t (rw e (program-changes m' (6144 + 4 * i) 254 252 (omega arith) state)) least most

-- The erase of the block, whole or torn.
pub part-blank : (m : List ℕ) (c : ℕ) → 4096 * c + 4096 ≤ length m → part 4096 (erased m (4096 * c) 4096) c ≡ blank
unfolding blank
part-blank m c fits = part-erased 4096 m c fits

pub block-cut : (i c : ℕ) (m m' : List ℕ) → IsOpened i c m → 4 ≤ c → Leaves m (TornErase m (4096 * c) 4096) (erased m (4096 * c) 4096) m' → KeepsBlocks m m'
block-cut i c m m' o least l = let s = block-spoiled i c m m' o least (erase-leaves m (4096 * c) 4096 m' l) in record { healthy = (Idle, s.0.sound); blocks = s.1 }

pub record BlockErased (i c : ℕ) (m m' : List ℕ) : Type 0 where
  pub still : IsOpened i c m'
  pub blocks : SameBlocks m m'
  pub bytes : part 4096 m' c ≡ blank

pub block-ok : (i c : ℕ) (m m' : List ℕ) → IsOpened i c m → 4 ≤ c → 4096 * c + 4096 ≤ length m → m' ≡ erased m (4096 * c) 4096 → BlockErased i c m m'
block-ok i c m m' o least fits e =
    let s = block-spoiled i c m (erased m (4096 * c) 4096) o least (erased-spoiled m (4096 * c) 4096) in
    rw e (record {
      still = s.0;
      blocks = s.1;
      bytes = part-blank m c fits;
    })

open-state : (i c : ℕ) (m : List ℕ) → IsOpened i c m → byte m (6144 + 4 * i) ≡ 252
open-state i c m o = rw add-zero at (state-open m i o.opened)

pub done-ok : (i c : ℕ) (m m' : List ℕ) → 16384 ≤ length m → IsOpened i c m → part 4096 m c ≡ blank → m' ≡ and_at m (6144 + 4 * i) (248 ∷ []) → IsSettled m' × SameBlocks m m'
done-ok i c m m' long o bytes e = let w = o.within in entry-done i c m m' o bytes (rw e (program-changes m (6144 + 4 * i) 252 248 (omega arith) (open-state i c m o)))

pub done-cut : (i c : ℕ) (m m' : List ℕ) → 16384 ≤ length m → IsOpened i c m → part 4096 m c ≡ blank
    → Leaves m (TornAnd m (6144 + 4 * i) (248 ∷ [])) (and_at m (6144 + 4 * i) (248 ∷ [])) m' → KeepsBlocks m m'
done-cut i c m m' long o bytes l =
    let w = o.within in
    elim (program-leaves 2 m (6144 + 4 * i) 252 248 m' (omega arith) (open-state i c m o) bit-done l) [
      | inl e ↦ rw e (record { healthy = (Idle, o.sound); blocks = same-blocks-refl m })
      | inr change ↦ let t = entry-done i c m m' o bytes change in record { healthy = (Idle, t.0.sound); blocks = t.1 }
    ]

-- The bytes of an entry that is taken: begun, and the block's number.
pub record Names (block : ℕ) (bytes : List ℕ) : Type 0 where
  pub long : length bytes ≡ 3
  pub begun : byte bytes 0 ≡ 254
  pub number : byte bytes 1 + 256 * byte bytes 2 ≡ block
  pub low : byte bytes 1 < 256
  pub high : byte bytes 2 < 256

three : (bytes : List ℕ) → length bytes ≡ 3 → bytes ≡ byte bytes 0 ∷ byte bytes 1 ∷ byte bytes 2 ∷ []
three bytes long = same_number_lists bytes (byte bytes 0 ∷ byte bytes 1 ∷ byte bytes 2 ∷ []) long (λ k small.
    elim (cases_eq k 0) [
      | inl z ↦ rw z refl
      | inr nz ↦ elim (cases_eq k 1) [
        | inl o ↦ rw o refl
        | inr rest ↦ let t : k ≡ 2 = omega arith in rw t refl
      ]
    ])

spelled : (block : ℕ) (bytes : List ℕ) → Names block bytes → bytes ≡ 254 ∷ byte bytes 1 ∷ byte bytes 2 ∷ []
spelled block bytes n = three bytes n.long ∙ ap (λ b. b ∷ byte bytes 1 ∷ byte bytes 2 ∷ []) n.begun

pub take-ok : (m new : List ℕ) (i block : ℕ) (bytes : List ℕ) → 16384 ≤ length m → i < 512 → is_free_entry m i ≡ true → Names block bytes
    → new ≡ and_at m (6144 + 4 * i) bytes → IsTaken i block m new
take-ok m new i block bytes long small free n e =
    let t = taken m i (byte bytes 1) (byte bytes 2) long small free n.low n.high in
    rw (e ∙ ap (λ b. and_at m (6144 + 4 * i) b) (spelled block bytes n)) (record { spoiled = t.spoiled; state = t.state; last = t.last; names = t.names ∙ n.number })

pub take-stands : (m new : List ℕ) (i block : ℕ) (bytes : List ℕ) → 16384 ≤ length m → i < 512 → is_free_entry m i ≡ true → Names block bytes → MayTake m
    → Leaves m (TornAnd m (6144 + 4 * i) bytes) (and_at m (6144 + 4 * i) bytes) new → KeepsBlocks m new
take-stands m new i block bytes long small free n r l =
    let t = take-leaves m i (byte bytes 1) (byte bytes 2) long small free n.low n.high new
    (subst (λ b. Leaves m (TornAnd m (6144 + 4 * i) b) (and_at m (6144 + 4 * i) b) new) (spelled block bytes n) l) in
    let b = begun-same i m new r small free t.0 t.1 in
    record { healthy = (Idle, b.0); blocks = b.1 }

-- what is open stays open, also where it is cut
pub take-named : (m new : List ℕ) (i block : ℕ) (bytes : List ℕ) → 16384 ≤ length m → i < 512 → is_free_entry m i ≡ true → Names block bytes → MayTake m
    → Leaves m (TornAnd m (6144 + 4 * i) bytes) (and_at m (6144 + 4 * i) bytes) new → (b : ℕ) → entries_for new b ≡ entries_for m b
take-named m new i block bytes long small free n r l =
    let t = take-leaves m i (byte bytes 1) (byte bytes 2) long small free n.low n.high new
    (subst (λ b. Leaves m (TornAnd m (6144 + 4 * i) b) (and_at m (6144 + 4 * i) b) new) (spelled block bytes n) l) in
    (entry-begun i m new r.sound r.lasts small free t.0 t.1).1

pub erased-then : (c : ℕ) (m m1 m2 : List ℕ) → WithErased c m m1 → SameBlocks m1 m2 → 4 ≤ c → c < length m / 4096 → WithErased c m m2
erased-then c m m1 m2 e s least most = record {
  only = record {
    chip = same-chip-on m m1 m2 e.only.chip s.chip;
    others = λ b from to other. s.each b from (rw e.only.chip.same_length to) ∙ e.only.others b from to other;
  };
  erased = s.each c least (rw e.only.chip.same_length most) ∙ e.erased;
}

pub interrupted-after : (c : ℕ) (m m1 m2 : List ℕ) → WithErased c m m1 → KeepsBlocks m1 m2 → 4 ≤ c → c < length m / 4096 → EraseInterrupted c m m2
interrupted-after c m m1 m2 e s least most = block_erased s.healthy (erased-then c m m1 m2 e s.blocks least most)

pub interrupted-behind : (c : ℕ) (m m1 m2 : List ℕ) → SameBlocks m m1 → EraseInterrupted c m1 m2 → EraseInterrupted c m m2
interrupted-behind c m m1 m2 s (as_it_was h) = as_it_was (stands-on m m1 m2 s h)
interrupted-behind c m m1 m2 s (block_erased h e) = block_erased h (erased-after c m m1 m2 s e)
