-- What a loss of power leaves of the entries of firm journals, whatever is read at the next power-on: none is open, or one for the block that is being erased alone.
use Rattle.std.proofs.Common.{◌≡◌, ◌≢◌, ℕ, ◌+◌, ◌*◌, ◌<◌, ◌≤◌, Bool, true, false, List, [], ◌∷◌, length, sym, ap, ◌∙◌, subst, arith, inl, inr, lit<, lit≤}
use Rattle.std.proofs.lemmas.Bool.{cases_eq}
use Rattle.chip_model.specs.Wavering.{Bits}
use Rattle.nor_driver.specs.State.{NorState, bits_in, IsFirmer, Leaves, TornProgramBits, program_bits, TornEraseBits, erase_bits}
use Rattle.nor_layout.specs.declared.journal.JournalId.{JournalId}
use Rattle.nor_layout.specs.Journals.{journal_at, first_at, second_at}
use Rattle.nor_layout.specs.Entries.{entry_at}
use Rattle.erase_journal.specs.declared.phase.ErasePhase.{ErasePhase}
use Rattle.erase_journal.specs.declared.phase.ErasePhase.TheVariants.{Idle, Asked, Doomed, Closing}
use Rattle.erase_journal.specs.Places.{Spoiled}
use Rattle.erase_journal.specs.Journals.{AreJournalsSound, IsSettled, IsSoundTally, entries_for, entry_block, entry_byte, first, is_free_entry, is_open_entry, open_blocks, tally_of}
use Rattle.erase_journal.specs.Blocks.{is_opened}
use Rattle.erase_journal.specs.Recovery.{seen}
use Rattle.erase_journal.specs.Spending.{MayTake}
use Rattle.erase_journal.specs.Steps.{IsOpened, MayErase, PerhapsChanged, VoteInterrupted, not_begun, done, in_it}
use Rattle.erase_journal.specs.Torn.{OpensNone, OpensOnly}
use Rattle.erase_journal.specs.Weak.{AreFirmJournals}
use Rattle.erase_journal.proofs.Steps.{IsBlank}
use Rattle.erase_journal.proofs.Opened.{none-named, none-open, some-open, true-or-false}
use Rattle.erase_journal.proofs.Entries.{open-elsewhere}
use Rattle.erase_journal.proofs.Blocks.{opened-idle, opened-some}
use Rattle.erase_journal.proofs.Effects.{and-leaves}
use Rattle.erase_journal.proofs.Renewal.{first-closed, first-opened, second-closed, second-opened}
use Rattle.erase_journal.proofs.EntryCalls.{Names, block-spoiled, take-named}
use Rattle.erase_journal.proofs.FirmJournals.{firm-journals-stay}
use Rattle.erase_journal.proofs.Drawing.{bits_as, bits_drawn, erase-drawn, length-read, program-drawn, read_as, read_drawn, same-bits}
use Rattle.erase_journal.proofs.Draws.{entry-drawn, firm-byte, tally-drawn}
use Rattle.erase_journal.proofs.Cuts.{blank-as, closing-reads, may-as, none-as, one-as, opening-reads, program-shown, sound-as, still-doomed, take-as}
use Rattle.erase_journal.proofs.EntryCuts.{firm-entry, opened-as}
use Rattle.erase_journal.proofs.Standing.{first-end, first-region, second-end, second-region}

-- no entry is open
abbrev IsUnopened : List ℕ → Type 0
IsUnopened m = (e : ℕ) → is_opened m e ≡ false

unnamed : (m : List ℕ) (e : ℕ) → entries_for m e ≡ 0 → is_opened m e ≡ false
unnamed m e none = true-or-false (is_opened m e) (λ is. let some = opened-some m e is in omega (arith, some, none))

none-unopened : (m : List ℕ) → open_blocks m ≡ 0 → IsUnopened m
none-unopened m none e = unnamed m e (none-named m e none)

-- while the erase of a journal goes on
phase-unopened : (p : ErasePhase) (m : List ℕ) → AreJournalsSound p m → p ≢ Idle → IsUnopened m
phase-unopened p m h other e = true-or-false (is_opened m e) (λ is. other (opened-idle p m e h is).0)

-- Firm journals, as a power-on may read them.
none-opens : (a : Bits) → AreFirmJournals a → open_blocks a.shown ≡ 0 → OpensNone a
none-opens a h none v w = none-unopened v (ap (λ t. t.opened) (tally-drawn a v w h) ∙ none)

phase-opens : (a : Bits) → AreFirmJournals a → (p : ErasePhase) → AreJournalsSound p a.shown → p ≢ Idle → OpensNone a
phase-opens a h p sound other v w = phase-unopened p v (subst (λ t. IsSoundTally p t) (sym (tally-drawn a v w h)) sound) other

-- A call changed nothing.
pub same-opens : (a b : NorState) → b.memory ≡ a.memory → b.weak ≡ a.weak → IsSettled a.memory → AreFirmJournals (bits_in a) → OpensNone (bits_in b)
same-opens a b same weak settled h = subst (λ (z : Bits). OpensNone z) (same-bits a.memory b.memory a.weak b.weak (sym same) (sym weak)) (none-opens (bits_in a) h settled.none)

pub none-only : (c : ℕ) (b : Bits) → OpensNone b → OpensOnly c b
none-only c b none v w e is = absurd (let no = none v w e in cc (no, is))

-- It failed after calls that answered Ok.
pub opens-after : (P : Bits → Type 0) (a b c : NorState) → IsFirmer (bits_in a) (bits_in b) → IsSettled b.memory → (IsSettled b.memory → AreFirmJournals (bits_in b) → P (bits_in c)) → IsSettled a.memory → AreFirmJournals (bits_in a) → P (bits_in c)
opens-after P a b c f settled o before h = o settled (firm-journals-stay (bits_in a) (bits_in b) f before settled h)

-- A loss of power in each step of an erase of a journal.
first-none : (x : JournalId) (m m' : List ℕ) → MayErase x m → PerhapsChanged (first_at x) 255 254 m m' → IsUnopened m'
first-none x m m' may (not_begun e) = rw e (none-unopened m may.settled.none)
first-none x m m' may (done c) = phase-unopened (Asked x) m' (first-opened x m m' may c).0.sound (λ e. cc)

second-none : (x : JournalId) (m m' : List ℕ) → AreJournalsSound (Asked x) m → PerhapsChanged (second_at x) 255 254 m m' → IsUnopened m'
second-none x m m' sound (not_begun e) = rw e (phase-unopened (Asked x) m sound (λ e. cc))
second-none x m m' sound (done c) = phase-unopened (Doomed x) m' (second-opened x m m' sound c).0.sound (λ e. cc)

first-close-none : (x : JournalId) (m m' : List ℕ) → AreJournalsSound (Doomed x) m → (first (tally_of m) x).opened ≡ 1 → IsBlank x m → PerhapsChanged (first_at x) 254 252 m m' → IsUnopened m'
first-close-none x m m' sound one blank (not_begun e) = rw e (phase-unopened (Doomed x) m sound (λ e. cc))
first-close-none x m m' sound one blank (done c) = phase-unopened (Closing x) m' (first-closed x m m' sound one blank c).0.sound (λ e. cc)

second-close-none : (x : JournalId) (m m' : List ℕ) → AreJournalsSound (Closing x) m → PerhapsChanged (second_at x) 254 252 m m' → IsUnopened m'
second-close-none x m m' sound (not_begun e) = rw e (phase-unopened (Closing x) m sound (λ e. cc))
second-close-none x m m' sound (done c) = none-unopened m' (second-closed x m m' sound c).2

pub first-opens : (x : JournalId) (a b : Bits) → 16384 ≤ length a.shown → MayErase x a.shown → AreFirmJournals a → VoteInterrupted (first_at x) 255 254 a b → OpensNone b
first-opens x a b long may h (not_begun e) = subst (λ (z : Bits). OpensNone z) (sym e) (none-opens a h may.settled.none)
first-opens x a b long may h (in_it k low was lowest l) =
    let end = first-end x in
    let size : first_at x + 1024 ≤ length a.shown = omega (arith, end, long) in
    λ v w. first-none x (read_as v a.weak a.shown) v (may-as a h v x may) (opening-reads a b h (first_at x) k (first-region x) low size was lowest l v w)

pub second-opens : (x : JournalId) (a b : Bits) → 16384 ≤ length a.shown → AreJournalsSound (Asked x) a.shown → AreFirmJournals a → VoteInterrupted (second_at x) 255 254 a b → OpensNone b
second-opens x a b long sound h (not_begun e) = subst (λ (z : Bits). OpensNone z) (sym e) (phase-opens a h (Asked x) sound (λ e. cc))
second-opens x a b long sound h (in_it k low was lowest l) =
    let end = second-end x in
    let size : second_at x + 1024 ≤ length a.shown = omega (arith, end, long) in
    λ v w. second-none x (read_as v a.weak a.shown) v (sound-as a h v (Asked x) sound) (opening-reads a b h (second_at x) k (second-region x) low size was lowest l v w)

pub erasing-opens : (a b : Bits) (x : JournalId) → AreFirmJournals a → AreJournalsSound (Doomed x) a.shown → Leaves a (TornEraseBits a (journal_at x) 4096) (erase_bits a (journal_at x) 4096) b → OpensNone b
erasing-opens a b x h doomed l v w = phase-unopened (Doomed x) v (still-doomed a b h x doomed l v w) (λ e. cc)

pub first-close-opens : (x : JournalId) (a b : Bits) → 16384 ≤ length a.shown → AreJournalsSound (Doomed x) a.shown → (first (tally_of a.shown) x).opened ≡ 1 → IsBlank x a.shown → AreFirmJournals a → VoteInterrupted (first_at x) 254 252 a b → OpensNone b
first-close-opens x a b long sound one blank h (not_begun e) = subst (λ (z : Bits). OpensNone z) (sym e) (phase-opens a h (Doomed x) sound (λ e. cc))
first-close-opens x a b long sound one blank h (in_it k low was lowest l) =
    let end = first-end x in
    let size : first_at x + 1024 ≤ length a.shown = omega (arith, end, long) in
    λ v w. first-close-none x (read_as v a.weak a.shown) v (sound-as a h v (Doomed x) sound) (one-as a h v x one) (blank-as a h v x blank) (closing-reads a b h (first_at x) k (first-region x) low size was lowest l v w)

pub second-close-opens : (x : JournalId) (a b : Bits) → 16384 ≤ length a.shown → AreJournalsSound (Closing x) a.shown → AreFirmJournals a → VoteInterrupted (second_at x) 254 252 a b → OpensNone b
second-close-opens x a b long sound h (not_begun e) = subst (λ (z : Bits). OpensNone z) (sym e) (phase-opens a h (Closing x) sound (λ e. cc))
second-close-opens x a b long sound h (in_it k low was lowest l) =
    let end = second-end x in
    let size : second_at x + 1024 ≤ length a.shown = omega (arith, end, long) in
    λ v w. second-close-none x (read_as v a.weak a.shown) v (sound-as a h v (Closing x) sound) (closing-reads a b h (second_at x) k (second-region x) low size was lowest l v w)

-- An entry is taken: its state reads as no open one's.
pub take-opens : (a b : Bits) → AreFirmJournals a → 16384 ≤ length a.shown → MayTake a.shown → open_blocks a.shown ≡ 0 → (i block : ℕ) (bytes : List ℕ) → i < 512 → is_free_entry a.shown i ≡ true → Names block bytes
    → Leaves a (TornProgramBits a (6144 + 4 * i) bytes) (program_bits a (6144 + 4 * i) bytes) b → OpensNone b
take-opens a b h long may none i block bytes low free names l v w e =
    let r = read_as v a.weak a.shown in
    let n = length-read v a.weak a.shown in
    let still = (entry-drawn a r (read_drawn v a.weak a.shown) h i low).free ∙ free in
    let named = take-named r v i block bytes (omega (arith, n, long)) low still names (take-as a h v may) (program-shown (bits_as v a) (bits_drawn v b) (6144 + 4 * i) bytes (program-drawn a b (6144 + 4 * i) bytes v l w)) in
    unnamed v e (named e ∙ none-named r e (none-as a h v none))

-- Entry i alone is perhaps open, for block c.
alone-opened : (i c : ℕ) (m : List ℕ) → ((k : ℕ) → k < 512 → k ≢ i → is_open_entry m k ≡ false) → entry_block m i ≡ c → (e : ℕ) → is_opened m e ≡ true → e ≡ c
alone-opened i c m alone names e is =
    let o = some-open m e (opened-some m e is) in
    elim (cases_eq o.0 i) [
      | inl same ↦ sym o.3 ∙ (ap (λ k. entry_block m k) same ∙ names)
      | inr other ↦ absurd (let no = alone o.0 o.1 other in let yes = o.2 in cc (no, yes))
    ]

-- its state alone is programmed
state-only : (i c : ℕ) (m m' : List ℕ) → Spoiled (6144 + 4 * i) 1 m m' → ((k : ℕ) → k < 512 → k ≢ i → is_open_entry m k ≡ false) → entry_block m i ≡ c → (e : ℕ) → is_opened m' e ≡ true → e ≡ c
state-only i c m m' s alone names =
    let wide : Spoiled (6144 + 4 * i) 4 m m' = record { same_length = s.same_length; below = s.below; above = λ k past. s.above k (omega (arith, past)) } in
    let keeps : (j : ℕ) → 1 ≤ j → entry_byte m' i j ≡ entry_byte m i j = λ j from. s.above (6144 + 4 * i + j) (omega (arith, from)) in
    alone-opened i c m' (λ k small other. open-elsewhere i m m' wide k other ∙ alone k small other) (rw (keeps 1 (lit≤ tt), keeps 2 (lit≤ tt)) names)

-- The taken entry is opened.
pub open-opens : (a b : Bits) → AreFirmJournals a → open_blocks a.shown ≡ 0 → (i c : ℕ) → i < 512 → entry_byte a.shown i 3 ≡ 255 → entry_block a.shown i ≡ c
    → Leaves a (TornProgramBits a (6144 + 4 * i) (252 ∷ [])) (program_bits a (6144 + 4 * i) (252 ∷ [])) b → OpensOnly c b
open-opens a b h none i c low last names l v w =
    let r = read_as v a.weak a.shown in
    let f = firm-entry a i h low last in
    let same : (j : ℕ) → j < 4 → entry_byte r i j ≡ entry_byte a.shown i j = λ j small. firm-byte a.shown a.weak r (entry_at i + j) (read_drawn v a.weak a.shown) (f j small) in
    let s = and-leaves r (6144 + 4 * i) (252 ∷ []) v (program-shown (bits_as v a) (bits_drawn v b) (6144 + 4 * i) (252 ∷ []) (program-drawn a b (6144 + 4 * i) (252 ∷ []) v l w)) in
    state-only i c r v s (λ k small other. none-open r (none-as a h v none) k small) (rw (same 1 (lit< tt), same 2 (lit< tt)) names)

-- Its block is erased.
pub block-opens : (a b : Bits) → AreFirmJournals a → (i c : ℕ) → IsOpened i c a.shown → 4 ≤ c → Leaves a (TornEraseBits a (4096 * c) 4096) (erase_bits a (4096 * c) 4096) b → OpensOnly c b
block-opens a b h i c o least l v w =
    let t = (block-spoiled i c (read_as v a.weak a.shown) v (opened-as a h v i c o) least (erase-drawn a b (4096 * c) 4096 v l w)).0 in
    alone-opened i c v t.alone t.names

-- It is closed.
pub close-opens : (a b : Bits) → AreFirmJournals a → (i c : ℕ) → IsOpened i c a.shown → Leaves a (TornProgramBits a (6144 + 4 * i) (248 ∷ [])) (program_bits a (6144 + 4 * i) (248 ∷ [])) b → OpensOnly c b
close-opens a b h i c o l v w =
    let r = read_as v a.weak a.shown in
    let p = opened-as a h v i c o in
    let s = and-leaves r (6144 + 4 * i) (248 ∷ []) v (program-shown (bits_as v a) (bits_drawn v b) (6144 + 4 * i) (248 ∷ []) (program-drawn a b (6144 + 4 * i) (248 ∷ []) v l w)) in
    state-only i c r v s p.alone p.names

-- what a journal shows of a call that was cut
pub seen-opens : (P : Bits → Type 0) (sound : Bool) (a b : NorState) → (IsSettled a.memory → AreFirmJournals (bits_in a) → P (bits_in b)) → IsSettled (seen sound a).memory → AreFirmJournals (bits_in (seen sound a)) → P (bits_in (seen sound b))
seen-opens P true a b h = h
seen-opens P false a b h = h
