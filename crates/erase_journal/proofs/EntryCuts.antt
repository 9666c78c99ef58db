-- What a loss of power in an erase of a data block, or in a program of one, leaves of firm journals, whatever is read at the next power-on.
use Rattle.std.proofs.Common.{◌≡◌, ◌≢◌, ℕ, ◌+◌, ◌*◌, ◌<◌, ◌≤◌, ◌⊎◌, true, false, List, [], ◌∷◌, length, refl, sym, ap, ◌∙◌, subst, arith, inl, inr, lit<, lit≤, add-zero}
use Rattle.std.specs.Int.{bit_at}
use Rattle.std.proofs.lemmas.Bool.{cases_lt, cases_eq}
use Rattle.chip_model.specs.Memory.{byte}
use Rattle.chip_model.specs.Wavering.{Bits, Drawn}
use Rattle.nor_driver.specs.State.{Leaves, TornProgramBits, program_bits, TornEraseBits, erase_bits}
use Rattle.nor_layout.specs.declared.journal.JournalId.{JournalId}
use Rattle.nor_layout.specs.declared.journal.JournalId.TheVariants.{J0, J1, J2}
use Rattle.nor_layout.specs.Journals.{journal_at, first_at, second_at}
use Rattle.nor_layout.specs.Entries.{entry_at}
use Rattle.erase_journal.specs.declared.phase.ErasePhase.TheVariants.{Idle}
use Rattle.erase_journal.specs.Journals.{AreJournalsSound, entry_byte, is_free_entry, open_blocks}
use Rattle.erase_journal.specs.Spending.{MayTake}
use Rattle.erase_journal.specs.Steps.{IsOpened}
use Rattle.erase_journal.specs.Weak.{AreFirm, AreFirmJournals, AreFirmVotes, AreHalfEntries, AreHalfVotes, AreInterruptedAtEachDraw, AreInterruptedJournals, IsLowestFreeEntry, IsUsedForGood}
use Rattle.erase_journal.proofs.Entries.{data-spoiled, entry-closed, entry-opened, not-free}
use Rattle.erase_journal.proofs.EntryCalls.{Names, block-spoiled, state-open, take-stands}
use Rattle.erase_journal.proofs.Effects.{and-leaves, bit-close, bit-done, program-leaves}
use Rattle.erase_journal.proofs.Opened.{none-open}
use Rattle.erase_journal.proofs.RecoveredVotes.{not-unused}
use Rattle.erase_journal.proofs.Drawing.{read_as, bits_as, bits_drawn, read_drawn, length-read, program-drawn, erase-drawn, erase-weak-beside}
use Rattle.erase_journal.proofs.Draws.{firm-byte, entry-drawn}
use Rattle.erase_journal.proofs.FirmJournals.{OfJournal, of-each, zero-used}
use Rattle.erase_journal.proofs.Losses.{firm-interrupted, vote-beside, half-of-firm, program-beside}
use Rattle.erase_journal.proofs.Cuts.{program-shown, firm-as, sound-as, none-as, take-as}

-- bytes and weak bits of a place are the same
abbrev Beside : Bits → Bits → ℕ → Type 0
Beside a b i = (byte b.shown i ≡ byte a.shown i) × (byte b.weak i ≡ byte a.weak i)

entry-beside : (a b : Bits) (e : ℕ) → ((j : ℕ) → j < 4 → Beside a b (entry_at e + j)) → AreFirm a.weak (entry_at e) 4 ⊎ IsUsedForGood a e → AreFirm b.weak (entry_at e) 4 ⊎ IsUsedForGood b e
entry-beside a b e same (inl f) = inl (λ j small. (same j small).1 ∙ f j small)
entry-beside a b e same (inr u) =
    let s = same 3 (lit< tt) in
    inr (record { bit = u.bit; inside = u.inside; reads = ap (λ x. bit_at x u.bit) s.0 ∙ u.reads; firm = ap (λ x. bit_at x u.bit) s.1 ∙ u.firm })

-- Entry i alone changed.
module _ (a b : Bits) (i : ℕ) (low : i < 512) (same : (k : ℕ) → (k < 6144 + 4 * i) ⊎ (6144 + 4 * i + 4 ≤ k) → Beside a b k) (lowest : is_free_entry b.shown i ≡ true → IsLowestFreeEntry b.shown i) (h : AreFirmJournals a) where
  beside-region : (place : ℕ) → (place + 1024 ≤ 6144) ⊎ (8192 ≤ place) → AreFirmVotes a place → AreHalfVotes b place
  beside-region place out f k small = half-of-firm b place k (vote-beside a b (place + k) (same (place + k) (elim out [ inl under ↦ inl (omega (arith, under, small)) | inr above ↦ inr (omega (arith, above, low)) ])) (f k small))

  other-entry : (e : ℕ) → e ≢ i → AreFirm b.weak (entry_at e) 4 ⊎ IsUsedForGood b e → is_free_entry b.shown e ≡ true → AreFirm b.weak (entry_at e) 4
  other-entry e other (inl f) free = f
  other-entry e other (inr u) free = absurd (let used = zero-used b.shown e u.bit u.inside u.reads in cc (used, free))

  entries-half : AreHalfEntries b
  entries-half e small free = elim (cases_eq e i) [
    | inl same_entry ↦ inr (subst (λ z. IsLowestFreeEntry b.shown z) (sym same_entry) (lowest (subst (λ z. is_free_entry b.shown z ≡ true) same_entry free)))
    | inr other ↦ inl (other-entry e other (entry-beside a b e (λ j tiny. same (entry_at e + j) (elim (cases_lt e i) [ inl under ↦ inl (omega (arith, under, tiny)) | inr above ↦ inr (omega (arith, above, other)) ])) (h.entries e small)) free)
  ]

  journal-half : (j : JournalId) → AreHalfVotes b (journal_at j) × AreHalfVotes b (journal_at j + 1024)
  unfolding OfJournal
  journal-half J0 = (let f = of-each (AreFirmVotes a) h.votes J0 in (beside-region 4096 (inl (omega arith)) f.0, beside-region 5120 (inl (omega arith)) f.1))
  journal-half J1 = (let f = of-each (AreFirmVotes a) h.votes J1 in (beside-region 8192 (inr (omega arith)) f.0, beside-region 9216 (inr (omega arith)) f.1))
  journal-half J2 = (let f = of-each (AreFirmVotes a) h.votes J2 in (beside-region 12288 (inr (omega arith)) f.0, beside-region 13312 (inr (omega arith)) f.1))

  pub entry-leaves : AreInterruptedJournals b
  entry-leaves = record {
    superblock = λ k small. (same (0 + k) (inl (omega (arith, small)))).1 ∙ h.superblock k small;
    half = λ p sound. record { votes = λ j not. journal-half j; entries = λ not. entries-half };
  }

-- No byte of the journals and of the superblock's block changed.
module _ (a b : Bits) (same : (k : ℕ) → k < 16384 → Beside a b k) (h : AreFirmJournals a) where
  votes-same : (place : ℕ) → place + 1024 ≤ 16384 → AreFirmVotes a place → AreFirmVotes b place
  votes-same place to f k small = vote-beside a b (place + k) (same (place + k) (omega (arith, to, small))) (f k small)

  journal-same : (x : JournalId) → AreFirmVotes b (first_at x) × AreFirmVotes b (second_at x)
  journal-same J0 = (votes-same (first_at J0) (omega arith) (h.votes J0).0, votes-same (second_at J0) (omega arith) (h.votes J0).1)
  journal-same J1 = (votes-same (first_at J1) (omega arith) (h.votes J1).0, votes-same (second_at J1) (omega arith) (h.votes J1).1)
  journal-same J2 = (votes-same (first_at J2) (omega arith) (h.votes J2).0, votes-same (second_at J2) (omega arith) (h.votes J2).1)

  pub firm-beside : AreFirmJournals b
  firm-beside = record {
    superblock = λ k small. (same (0 + k) (omega (arith, small))).1 ∙ h.superblock k small;
    votes = journal-same;
    entries = λ e small. entry-beside a b e (λ j tiny. same (entry_at e + j) (omega (arith, small, tiny))) (h.entries e small);
  }

-- a program in an entry leaves what is outside of it
entry-out : (a b : Bits) (i : ℕ) (bytes : List ℕ) → length bytes ≤ 4 → Leaves a (TornProgramBits a (6144 + 4 * i) bytes) (program_bits a (6144 + 4 * i) bytes) b → (k : ℕ) → (k < 6144 + 4 * i) ⊎ (6144 + 4 * i + 4 ≤ k) → Beside a b k
entry-out a b i bytes few l k out = program-beside a b (6144 + 4 * i) bytes l k (elim out [ inl low ↦ inl low | inr high ↦ inr (omega (arith, high, few)) ])

-- An entry is taken.
module _ (a b : Bits) (h : AreFirmJournals a) (long : 16384 ≤ length a.shown) (may : MayTake a.shown) (i block : ℕ) (bytes : List ℕ) (low : i < 512) (free : is_free_entry a.shown i ≡ true) (lowest : (k : ℕ) → k < i → is_free_entry a.shown k ≡ false) (names : Names block bytes)
    (l : Leaves a (TornProgramBits a (6144 + 4 * i) bytes) (program_bits a (6144 + 4 * i) bytes) b) (v : List ℕ) (w : Drawn b.weak b.shown v) where
  taking : Leaves (bits_as v a) (TornProgramBits (bits_as v a) (6144 + 4 * i) bytes) (program_bits (bits_as v a) (6144 + 4 * i) bytes) (bits_drawn v b)
  taking = program-drawn a b (6144 + 4 * i) bytes v l w

  taking-out : (k : ℕ) → (k < 6144 + 4 * i) ⊎ (6144 + 4 * i + 4 ≤ k) → Beside (bits_as v a) (bits_drawn v b) k
  taking-out = entry-out (bits_as v a) (bits_drawn v b) i bytes (let n = names.long in omega (arith, n)) taking

  lower-used : (k : ℕ) → k < i → is_free_entry v k ≡ false
  lower-used k under =
      let e = λ (j : ℕ) (small : j < 4). (taking-out (entry_at k + j) (inl (omega (arith, under, small)))).0 in
      let same : is_free_entry v k ≡ is_free_entry (read_as v a.weak a.shown) k = rw (e 0 (lit< tt), e 1 (lit< tt), e 2 (lit< tt), e 3 (lit< tt)) refl in
      same ∙ ((entry-drawn a (read_as v a.weak a.shown) (read_drawn v a.weak a.shown) h k (omega (arith, under, low))).free ∙ lowest k under)

  pub taken-leaves : AreInterruptedJournals (bits_drawn v b)
  taken-leaves = entry-leaves (bits_as v a) (bits_drawn v b) i low taking-out (λ f. record { within = low; free = f; below = lower-used }) (firm-as a h v)

pub take-cut : (a b : Bits) → AreFirmJournals a → 16384 ≤ length a.shown → MayTake a.shown → (i block : ℕ) (bytes : List ℕ) → i < 512 → is_free_entry a.shown i ≡ true → ((k : ℕ) → k < i → is_free_entry a.shown k ≡ false) → Names block bytes
    → Leaves a (TornProgramBits a (6144 + 4 * i) bytes) (program_bits a (6144 + 4 * i) bytes) b → AreInterruptedAtEachDraw b
take-cut a b h long may i block bytes low free lowest names l v w =
    let r = read_as v a.weak a.shown in
    let n = length-read v a.weak a.shown in
    let still = (entry-drawn a r (read_drawn v a.weak a.shown) h i low).free ∙ free in
    let stands = take-stands r v i block bytes (omega (arith, n, long)) low still names (take-as a h v may) (program-shown (bits_as v a) (bits_drawn v b) (6144 + 4 * i) bytes (program-drawn a b (6144 + 4 * i) bytes v l w)) in
    (stands.healthy, taken-leaves a b h long may i block bytes low free lowest names l v w)

-- an entry whose last byte reads FFh isn't used for good
pub firm-entry : (a : Bits) (i : ℕ) → AreFirmJournals a → i < 512 → entry_byte a.shown i 3 ≡ 255 → AreFirm a.weak (entry_at i) 4
firm-entry a i h low last = elim (h.entries i low) [ inl f ↦ f | inr u ↦ absurd (not-unused (entry_byte a.shown i 3) u.bit u.inside u.reads last) ]

-- A taken entry is opened.
pub open-cut : (a b : Bits) → AreFirmJournals a → 16384 ≤ length a.shown → AreJournalsSound Idle a.shown → open_blocks a.shown ≡ 0 → (i : ℕ) → i < 512 → entry_byte a.shown i 0 ≡ 254 → entry_byte a.shown i 3 ≡ 255
    → Leaves a (TornProgramBits a (6144 + 4 * i) (252 ∷ [])) (program_bits a (6144 + 4 * i) (252 ∷ [])) b → AreInterruptedAtEachDraw b
open-cut a b h long sound none i low state last l v w =
    let r = read_as v a.weak a.shown in
    let n = length-read v a.weak a.shown in
    let l' = program-drawn a b (6144 + 4 * i) (252 ∷ []) v l w in
    let f = firm-entry a i h low last in
    let same : byte r (6144 + 4 * i) ≡ 254 = rw add-zero at (firm-byte a.shown a.weak r (entry_at i + 0) (read_drawn v a.weak a.shown) (f 0 (lit< tt)) ∙ state) in
    let s = sound-as a h v Idle sound in
    let leaves = λ (u : entry_byte v i 0 ≢ 255). entry-leaves (bits_as v a) (bits_drawn v b) i low (entry-out (bits_as v a) (bits_drawn v b) i (252 ∷ []) (lit≤ tt) l') (λ free. absurd (let no = not-free v i u in cc (no, free))) (firm-as a h v) in
    elim (program-leaves 1 r (6144 + 4 * i) 254 252 v (omega (arith, n, low, long)) same bit-close (program-shown (bits_as v a) (bits_drawn v b) (6144 + 4 * i) (252 ∷ []) l')) [
      | inl e ↦ (
        (Idle, rw e s),
        leaves (λ u. (let g = ap (λ (m : List ℕ). byte m (6144 + 4 * i)) e in let z : byte v (6144 + 4 * i) ≡ 255 = rw add-zero at u in omega (arith, g, same, z))),
      )
      | inr c ↦ (
        (Idle, entry-opened i r v s (λ k small opened. absurd (let no = none-open r (none-as a h v none) k small in cc (no, opened))) low c),
        leaves (λ u. (let g = c.is in let z : byte v (6144 + 4 * i) ≡ 255 = rw add-zero at u in omega (arith, g, z))),
      )
    ]

-- The open entry of a block, as a power-on may read it.
pub opened-as : (a : Bits) (h : AreFirmJournals a) (v : List ℕ) (i c : ℕ) → IsOpened i c a.shown → IsOpened i c (read_as v a.weak a.shown)
opened-as a h v i c o =
    let r = read_as v a.weak a.shown in
    let e = λ (k : ℕ) (small : k < 512). entry-drawn a r (read_drawn v a.weak a.shown) h k small in
    record {
      sound = sound-as a h v Idle o.sound;
      within = o.within;
      opened = (e i o.within).opened ∙ o.opened;
      names = (e i o.within).named o.opened ∙ o.names;
      alone = λ k small other. (e k small).opened ∙ o.alone k small other;
    }

-- Its block is erased.
pub block-cut : (a b : Bits) → AreFirmJournals a → (i c : ℕ) → IsOpened i c a.shown → 4 ≤ c → Leaves a (TornEraseBits a (4096 * c) 4096) (erase_bits a (4096 * c) 4096) b → AreInterruptedAtEachDraw b
block-cut a b h i c o least l v w =
    let s = erase-drawn a b (4096 * c) 4096 v l w in
    let t = block-spoiled i c (read_as v a.weak a.shown) v (opened-as a h v i c o) least s in (
      (Idle, t.0.sound),
      firm-interrupted (bits_drawn v b) (firm-beside (bits_as v a) (bits_drawn v b) (λ k small. (s.below k (omega (arith, least, small)), erase-weak-beside a b (4096 * c) 4096 l k (inl (omega (arith, least, small))))) (firm-as a h v)),
    )

-- It is closed.
pub close-cut : (a b : Bits) → AreFirmJournals a → 16384 ≤ length a.shown → (i c : ℕ) → IsOpened i c a.shown → Leaves a (TornProgramBits a (6144 + 4 * i) (248 ∷ [])) (program_bits a (6144 + 4 * i) (248 ∷ [])) b → AreInterruptedAtEachDraw b
close-cut a b h long i c o l v w =
    let r = read_as v a.weak a.shown in
    let n = length-read v a.weak a.shown in
    let low = o.within in
    let l' = program-drawn a b (6144 + 4 * i) (248 ∷ []) v l w in
    let p = opened-as a h v i c o in
    let same : byte r (6144 + 4 * i) ≡ 252 = rw add-zero at (state-open r i p.opened) in
    let leaves = λ (u : entry_byte v i 0 ≢ 255). entry-leaves (bits_as v a) (bits_drawn v b) i low (entry-out (bits_as v a) (bits_drawn v b) i (248 ∷ []) (lit≤ tt) l') (λ free. absurd (let no = not-free v i u in cc (no, free))) (firm-as a h v) in
    elim (program-leaves 2 r (6144 + 4 * i) 252 248 v (omega (arith, n, low, long)) same bit-done (program-shown (bits_as v a) (bits_drawn v b) (6144 + 4 * i) (248 ∷ []) l')) [
      | inl e ↦ (
        (Idle, rw e p.sound),
        leaves (λ u. (let g = ap (λ (m : List ℕ). byte m (6144 + 4 * i)) e in let z : byte v (6144 + 4 * i) ≡ 255 = rw add-zero at u in omega (arith, g, same, z))),
      )
      | inr change ↦ (
        (Idle, (entry-closed i r v p.sound p.opened low change).0),
        leaves (λ u. (let g = change.is in let z : byte v (6144 + 4 * i) ≡ 255 = rw add-zero at u in omega (arith, g, z))),
      )
    ]

-- A data block is programmed.
pub data-cut : (a b : Bits) → AreFirmJournals a → AreJournalsSound Idle a.shown → (at : ℕ) (bytes : List ℕ) → 16384 ≤ at → Leaves a (TornProgramBits a at bytes) (program_bits a at bytes) b → AreInterruptedAtEachDraw b
data-cut a b h sound at bytes least l v w =
    let r = read_as v a.weak a.shown in
    let l' = program-drawn a b at bytes v l w in
    let s = and-leaves r at bytes v (program-shown (bits_as v a) (bits_drawn v b) at bytes l') in (
      (Idle, (data-spoiled at (length bytes) r v (sound-as a h v Idle sound) least s).0),
      firm-interrupted (bits_drawn v b) (firm-beside (bits_as v a) (bits_drawn v b) (λ k small. program-beside (bits_as v a) (bits_drawn v b) at bytes l' k (inl (omega (arith, small, least)))) (firm-as a h v)),
    )
