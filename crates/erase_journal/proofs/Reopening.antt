-- Open entries of one block: one more is opened, the block is erased, and they are closed.
use Rattle.std.proofs.Common.{◌≡◌, ◌≢◌, ℕ, ◌+◌, ◌*◌, ◌/◌, ◌<◌, ◌≤◌, ◌⊎◌, true, false, List, [], ◌∷◌, length, refl, sym, ap, subst, ◌∙◌, arith, inl, inr, add-zero, lit≤}
use Rattle.std.specs.Prelude.{Result, Ok, Err, OnOk}
use Rattle.std.proofs.lemmas.Bool.{cases_eq}
use Rattle.std.proofs.lemmas.Bool.Decides.{nat_tests}
use Rattle.chip_model.specs.Memory.{byte, and_at, erased, TornAnd, TornErase}
use Rattle.chip_model.specs.Parts.{part}
use Rattle.chip_model.specs.Wavering.{Bits}
use Rattle.nor_driver.specs.State.{NorState, Leaves, bits_in, erase_bits}
use Rattle.nor_driver.specs.declared.error.NorError.{NorError}
use Rattle.erase_journal.specs.declared.phase.ErasePhase.TheVariants.{Idle}
use Rattle.erase_journal.specs.Places.{Spoiled, Changed}
use Rattle.erase_journal.specs.Journals.{entry_byte, entry_block, is_free_entry, is_open_entry, unused, AreJournalsSound, IsSettled}
use Rattle.erase_journal.specs.Blocks.{blank, SameBlocks}
use Rattle.erase_journal.specs.Steps.{KeepsBlocks, IsTaken, AreErased, EndsSettled, StayNamed}
use Rattle.erase_journal.specs.Weak.{AreFirm, AreNamedFirm}
use Rattle.erase_journal.specs.Spending.{MayTake, KeepsUse}
use Rattle.erase_journal.proofs.Effects.{program-leaves, program-changes, bit-close, erase-leaves, erased-spoiled}
use Rattle.erase_journal.proofs.Regions.{spoiled-above}
use Rattle.erase_journal.proofs.Entries.{entry-opened, entry-closed, open-elsewhere, block-elsewhere, open-below, block-below, data-spoiled, state-changed, state-was, state-is}
use Rattle.erase_journal.proofs.Opened.{none-blocks, named-some, same-block, some-open, within-chip}
use Rattle.erase_journal.proofs.WeakLaws.{are-firm-stays, erase-firm}
use Rattle.erase_journal.proofs.Blocks.{own-kept, spoiled-same, closed-same, joined-same}
use Rattle.erase_journal.proofs.EntryCalls.{begun-same, now-open, part-blank, free-bytes, state-open}
use Rattle.erase_journal.proofs.Renewal.{same-blocks-refl, same-blocks-on}
use Rattle.erase_journal.proofs.Uses.{keeps-on, data-keeps, entry-stays}
use Rattle.erase_journal.proofs.Lasting.{same-refl}

-- an entry is open for block c
pub record IsNamed (k c : ℕ) (m : List ℕ) : Type 0 where
  pub within : k < 512
  pub opened : is_open_entry m k ≡ true
  pub names : entry_block m k ≡ c

least-block : (m : List ℕ) (k : ℕ) → is_open_entry m k ≡ true → 4 ≤ entry_block m k
least-block m k opened = grind (arith, nat_tests)

pub named-range : (k c : ℕ) (m : List ℕ) → IsNamed k c m → (4 ≤ c) × (c < length m / 4096)
named-range k c m n = let l = least-block m k n.opened in let w = within-chip m k n.opened in let e = n.names in (omega arith, omega arith)

-- where an entry may be spared, the votes last once it is used
pub spare-may : (m : List ℕ) → AreJournalsSound Idle m → 2 ≤ (unused m).free → MayTake m
spare-may m h two = record { sound = h; lasts = let l = h.lasts in grind arith }

-- where an entry that was free is written, the others stay open
stays-named : (i : ℕ) (m m1 m2 : List ℕ) → is_free_entry m i ≡ true → Spoiled (6144 + 4 * i) 4 m m1 → Spoiled (6144 + 4 * i) 4 m1 m2 → StayNamed m m2
stays-named i m m1 m2 free s t b some =
    let k = some-open m b some in
    let apart : k.0 ≢ i = λ e. let f = free-bytes m i free in let o = state-open m k.0 k.2 in let same = ap (λ x. entry_byte m x 0) e in omega arith in
    named-some k.0 b m2 k.1 (open-elsewhere i m1 m2 t k.0 apart ∙ (open-elsewhere i m m1 s k.0 apart ∙ k.2)) (block-elsewhere i m1 m2 t k.0 apart ∙ (block-elsewhere i m m1 s k.0 apart ∙ k.3))

-- One more is opened for block c.
module _ (i c k : ℕ) (m m1 m2 : List ℕ) (h : MayTake m) (n : IsNamed k c m) (low : i < 512) (free : is_free_entry m i ≡ true) (t : IsTaken i c m m1) where
  not-252 : entry_byte m1 i 0 ≢ 252
  not-252 e = let s = t.state in omega arith

  taken-same : AreJournalsSound Idle m1 × SameBlocks m m1
  taken-same = begun-same i m m1 h low free t.spoiled not-252

  apart : k ≢ i
  apart e = let f = free-bytes m i free in let o = state-open m k n.opened in let same = ap (λ x. entry_byte m x 0) e in omega arith

  still-named : IsNamed k c m1
  still-named = record {
    within = n.within;
    opened = open-elsewhere i m m1 t.spoiled k apart ∙ n.opened;
    names = block-elsewhere i m m1 t.spoiled k apart ∙ n.names;
  }

  pub joins : Changed (6144 + 4 * i) 254 252 m1 m2 → AreJournalsSound Idle m2 × SameBlocks m m2
  joins change =
      let r = named-range k c m n in
      let is : entry_byte m2 i 0 ≡ 252 = state-is i 254 252 m1 m2 change in
      let keeps : (j : ℕ) → 1 ≤ j → entry_byte m2 i j ≡ entry_byte m1 i j = λ j from. change.rest (6144 + 4 * i + j) (λ same. omega arith) in
      let names : entry_block m2 i ≡ c = rw (keeps 1 (lit≤ tt), keeps 2 (lit≤ tt)) t.names in
      let last : entry_byte m2 i 3 ≡ 255 = keeps 3 (lit≤ tt) ∙ t.last in
      let opened : is_open_entry m2 i ≡ true = now-open m2 c i is last names r.0 (rw (change.same_length, t.spoiled.same_length) r.1) in
      let p = taken-same.0.phase in
      let others : (j : ℕ) → j < 512 → is_open_entry m1 j ≡ true → entry_block m1 j ≡ entry_block m2 i =
      λ j small also. same-block m1 j k p.3 small n.within also still-named.opened ∙ (still-named.names ∙ sym names) in
      let sound = entry-opened i m1 m2 taken-same.0 others low change in
      (sound, same-blocks-on m m1 m2 taken-same.1 (joined-same i c m1 m2 taken-same.0 sound low change opened names (named-some k c m1 n.within still-named.opened still-named.names)))

  state-at : byte m1 (6144 + 4 * i) ≡ 254
  state-at = rw add-zero at t.state

  pub join-ok : 16384 ≤ length m → m2 ≡ and_at m1 (6144 + 4 * i) (252 ∷ []) → AreJournalsSound Idle m2 × SameBlocks m m2
  join-ok long e = let size = t.spoiled.same_length in joins (rw e (program-changes m1 (6144 + 4 * i) 254 252 (omega arith) state-at))

  pub join-named : 16384 ≤ length m → m2 ≡ and_at m1 (6144 + 4 * i) (252 ∷ []) → StayNamed m m2
  join-named long e =
      let size = t.spoiled.same_length in
      let change : Changed (6144 + 4 * i) 254 252 m1 m2 = rw e (program-changes m1 (6144 + 4 * i) 254 252 (omega arith) state-at) in
      stays-named i m m1 m2 free t.spoiled (state-changed i 254 252 m1 m2 change)

  pub join-cut : 16384 ≤ length m → Leaves m1 (TornAnd m1 (6144 + 4 * i) (252 ∷ [])) (and_at m1 (6144 + 4 * i) (252 ∷ [])) m2 → KeepsBlocks m m2
  join-cut long l =
      let size = t.spoiled.same_length in
      elim (program-leaves 1 m1 (6144 + 4 * i) 254 252 m2 (omega arith) state-at bit-close l) [
        | inl e ↦ rw e (record { healthy = (Idle, taken-same.0); blocks = taken-same.1 })
        | inr change ↦ let j = joins change in record { healthy = (Idle, j.0); blocks = j.1 }
      ]

-- The block of the open entries is erased, whole or torn.
pub named-spoiled : (k c : ℕ) (m m' : List ℕ) → AreJournalsSound Idle m → IsNamed k c m → Spoiled (4096 * c) 4096 m m' → AreJournalsSound Idle m' × SameBlocks m m'
named-spoiled k c m m' h n s =
    let r = named-range k c m n in
    let d = data-spoiled (4096 * c) 4096 m m' h (let l = r.0 in omega arith) s in
    (d.0, spoiled-same c m m' r.0 h (named-some k c m n.within n.opened n.names) s d.1 d.0)

pub named-cut : (k c : ℕ) (m m' : List ℕ) → AreJournalsSound Idle m → IsNamed k c m → Leaves m (TornErase m (4096 * c) 4096) (erased m (4096 * c) 4096) m' → KeepsBlocks m m'
named-cut k c m m' h n l = let s = named-spoiled k c m m' h n (erase-leaves m (4096 * c) 4096 m' l) in record { healthy = (Idle, s.0); blocks = s.1 }

pub record NamedErased (m m' : List ℕ) : Type 0 where
  pub sound : AreJournalsSound Idle m'
  pub blocks : SameBlocks m m'
  pub keeps : KeepsUse m m'
  pub opened : (i : ℕ) → i < 512 → is_open_entry m' i ≡ is_open_entry m i
  pub are_erased : AreErased m'

pub named-erased : (k c : ℕ) (m m' : List ℕ) → AreJournalsSound Idle m → IsNamed k c m → m' ≡ erased m (4096 * c) 4096 → NamedErased m m'
named-erased k c m m' h n e =
    let r = named-range k c m n in
    let s : Spoiled (4096 * c) 4096 m m' = rw e (erased-spoiled m (4096 * c) 4096) in
    let high : 16384 ≤ 4096 * c = let l = r.0 in omega arith in
    let same = open-below (4096 * c) 4096 m m' s (omega arith) in
    let t = named-spoiled k c m m' h n s in
    let p = h.phase in
    let bytes : part 4096 m' c ≡ blank = ap (λ x. part 4096 x c) e ∙ part-blank m c (let l = r.1 in omega arith) in
    record {
      sound = t.0;
      blocks = t.1;
      keeps = data-keeps (4096 * c) 4096 m m' high s;
      opened = same;
      are_erased = λ i low opened.
          let was = sym (same i low) ∙ opened in
          let is : entry_block m' i ≡ c = block-below (4096 * c) 4096 m m' s (omega arith) i low ∙ (same-block m i k p.3 low n.within was n.opened ∙ n.names) in
          ap (λ b. part 4096 m' b) is ∙ bytes;
    }

-- none of its bits is weak then, and in a call that ends well none becomes weak
pub named-firm : (k c : ℕ) (m : List ℕ) (a b d : NorState) (r : Result (Unit {0}) NorError) → AreJournalsSound Idle m → IsNamed k c m → bits_in b ≡ erase_bits (bits_in a) (4096 * c) 4096
    → EndsSettled r b d → OnOk r (AreNamedFirm m d.weak)
named-firm k c m a b d (Ok x) h n e ends = λ j some.
    let o = some-open m j some in
    let p = h.phase in
    let is : j ≡ c = sym o.3 ∙ (same-block m o.0 k p.3 o.1 n.within o.2 n.opened ∙ n.names) in
    subst (λ (z : ℕ). AreFirm d.weak (4096 * z) 4096) (sym is)
    (are-firm-stays (bits_in b) (bits_in d) (4096 * c) 4096 ends.kept.bits (subst (λ (z : Bits). AreFirm z.weak (4096 * c) 4096) (sym e) (erase-firm a.weak (4096 * c) 4096)))
named-firm k c m a b d (Err e) h n is ends = tt

pub open-byte : (m : List ℕ) (i : ℕ) → is_open_entry m i ≡ true → byte m (6144 + 4 * i) ≡ 252
open-byte m i opened = rw add-zero at (state-open m i opened)

-- The open entries of a memory, of which the first n are closed by now.
pub record IsClosing (n : ℕ) (old m : List ℕ) : Type 0 where
  pub sound : AreJournalsSound Idle m
  pub blocks : SameBlocks old m
  pub uses : KeepsUse old m
  pub closed : (k : ℕ) → k < n → is_open_entry m k ≡ false
  pub rest : (k : ℕ) → n ≤ k → k < 512 → is_open_entry m k ≡ is_open_entry old k
  pub are_erased : AreErased m

pub keeps-refl : (m : List ℕ) → KeepsUse m m
keeps-refl m = record { numbers = same-refl (unused m); entries = λ k low. refl }

pub closing-begun : (m : List ℕ) → AreJournalsSound Idle m → AreErased m → IsClosing 0 m m
closing-begun m h e = record { sound = h; blocks = same-blocks-refl m; uses = keeps-refl m; closed = λ k low. absurd (omega arith); rest = λ k from low. refl; are_erased = e }

pub closing-skip : (n : ℕ) (old m : List ℕ) → IsClosing n old m → n < 512 → is_open_entry old n ≡ false → IsClosing (n + 1) old m
closing-skip n old m h low closed = record {
  sound = h.sound;
  blocks = h.blocks;
  uses = h.uses;
  closed = λ k small. elim (cases_eq k n) [ inl same ↦ h.rest k (omega arith) (omega arith) ∙ (rw same closed) | inr other ↦ h.closed k (omega arith) ];
  rest = λ k from small. h.rest k (omega arith) small;
  are_erased = h.are_erased;
}

closed-erased : (n : ℕ) (m m' : List ℕ) → n < 512 → Changed (6144 + 4 * n) 252 248 m m' → is_open_entry m' n ≡ false → AreErased m → AreErased m'
closed-erased n m m' low change closed h i small opened = elim (cases_eq i n) [
  | inl same ↦ absurd (let no = rw same at opened in cc)
  | inr other ↦
      let s = state-changed n 252 248 m m' change in
      let was = sym (open-elsewhere n m m' s i other) ∙ opened in
      let least = least-block m i was in
      let names = block-elsewhere n m m' s i other in
      ap (λ b. part 4096 m' b) names ∙ (own-kept (entry_block m i) m m' (spoiled-above (6144 + 4 * n) 4 (4096 * entry_block m i) 4096 m m' s (omega arith)) change.same_length ∙ h i small was)
]

pub closing-step : (n : ℕ) (old m m' : List ℕ) → IsClosing n old m → n < 512 → is_open_entry old n ≡ true → Changed (6144 + 4 * n) 252 248 m m' → IsClosing (n + 1) old m'
closing-step n old m m' h low opened change =
    let s = state-changed n 252 248 m m' change in
    let was = state-was n 252 248 m m' change in
    let is = state-is n 252 248 m m' change in
    let now = h.rest n (omega arith) low ∙ opened in
    let t = entry-closed n m m' h.sound now low change in
    record {
      sound = t.0;
      blocks = same-blocks-on old m m' h.blocks (closed-same n (entry_block m n) m m' h.sound t.0 low change now refl (h.are_erased n low now));
      uses = keeps-on old m m' h.uses (entry-stays n m m' low s (λ e. omega arith) (λ e. omega arith));
      closed = λ k small. elim (cases_eq k n) [ inl same ↦ rw same t.1 | inr other ↦ open-elsewhere n m m' s k other ∙ h.closed k (omega arith) ];
      rest = λ k from small. open-elsewhere n m m' s k (λ same. omega arith) ∙ h.rest k (omega arith) small;
      are_erased = closed-erased n m m' low change t.1 h.are_erased;
    }

pub closing-cut : (n : ℕ) (old m m' : List ℕ) → IsClosing n old m → n < 512 → is_open_entry old n ≡ true → (m' ≡ m) ⊎ Changed (6144 + 4 * n) 252 248 m m' → KeepsBlocks old m'
closing-cut n old m m' h low opened left = elim left [
  | inl same ↦ rw same (record { healthy = (Idle, h.sound); blocks = h.blocks })
  | inr change ↦ let t = closing-step n old m m' h low opened change in record { healthy = (Idle, t.sound); blocks = t.blocks }
]

pub closing-end : (old m : List ℕ) → IsClosing 512 old m → IsSettled m
closing-end old m h = record { sound = h.sound; none = none-blocks m h.closed }
