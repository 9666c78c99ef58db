-- A loss of power in a change that keeps the sectors keeps them also at the next power-on, change by change.
use Rattle.std.proofs.Common.{◌≡◌, ◌≢◌, ℕ, ◌+◌, ◌-◌, ◌*◌, ◌<◌, Bool, false, List, [], ◌∷◌, length, refl, sym, ap, ◌∙◌, subst, arith, inl, inr, if◌then◌else◌}
use Rattle.std.specs.Prelude.{◌/◌, ◌==◌}
use Rattle.std.specs.Int.{bit_at}
use Rattle.std.proofs.lemmas.Bool.{cases_eq, eq-eqb, ne_eqb, true≢false}
use Rattle.chip_model.specs.Geometry.{block_count, sector_count}
use Rattle.chip_model.specs.Wavering.{Bits, Drawn}
use Rattle.nor_layout.specs.declared.header.Generation.{Generation}
use Rattle.nor_layout.specs.declared.header.Tag.{Tag}
use Rattle.nor_layout.specs.declared.kind.Kind.{Kind}
use Rattle.nor_layout.specs.declared.kind.Kind.TheVariants as kinds
use Rattle.erase_journal.specs.Blocks.{is_opened}
use Rattle.erase_journal.specs.Torn.{BlockInterrupted, SameBlock, as_it_was, is_erased, opened}
use Rattle.sector_slots.specs.Half.{HasMark}
use Rattle.sector_slots.specs.Slots.{Slot, Free, Live, NoGeneration, Dead, Outside, counted, data_block, data_blocks, is_void, kind_at, raw_slot, slot_at, IsSpareIn}
use Rattle.sector_slots.specs.Sectors.{HoldsSectors, IsSingle, LiveAt, SlotsRepresent}
use Rattle.sector_slots.specs.Blocks.{AreAtRest, IsAtRest, IsCopying, IsTarget, IsUncommitted}
use Rattle.sector_slots.specs.Copying.{Commits, HoldsNothing, IsCopy, MovesSlots, OnlyData, SameLive, Settles, copy_slot, shifted, source_slot, to_copy}
use Rattle.sector_slots.specs.Losses.{IsFirmDisk, IsHalfChipAtEachDraw, IsLowestFreePlace}
use Rattle.sector_slots.specs.Steps.{IsBegun, IsErasable}
use Rattle.sector_slots.specs.Torn.{BeginInterrupted, StateInterrupted}
use Rattle.sector_slots.specs.Weak.{IsSureBlock, descriptor_place, mark_place}
use Rattle.sector_slots.proofs.ChipBlocks.{disk-known, rest-sources, source-whole}
use Rattle.sector_slots.proofs.ChipKept.{HasOneCopy, opened-reads, reads-hold, rest-one, rest-uncommitted, sound-one, untouched-reads}
use Rattle.sector_slots.proofs.ChipRooms.{begun-beside, begun-either, begun-left, begun-read, committed-either, either-opened, settled-either, state-left, state-read}
use Rattle.sector_slots.proofs.ChipSectors.{IsNewerFirm, as_before, blank-reads, dead-quiet, quiet, slot-read, slot-reads, spare-idle, void-reads}
use Rattle.sector_slots.proofs.CommitLaws.{commit-moves}
use Rattle.sector_slots.proofs.CopyLaws.{copied-from, copy-exact, counted-void, free-quiet, settle-live, shifted-else}
use Rattle.sector_slots.proofs.FadeLaws.{BlockReads, IsSpent, SlotReads, alike, gone, same_slot}
use Rattle.sector_slots.proofs.HalfBlocks.{drawn-kind, is-there, retiring-is, unlive-is}
use Rattle.sector_slots.proofs.HeadLaws.{committed-plain, committed-state, committed-void, live-state, void-plain}
use Rattle.sector_slots.proofs.FirmLaws.{here, slot_number}
use Rattle.sector_slots.proofs.LeftLaws.{Beside, beside-descriptor, left-mark, left-read, left-rest, left-sector, mark-slot, not-free-live, other-slot, own-rest, program-apart, program-left, taken-mark, with_loss}
use Rattle.sector_slots.proofs.MoveLaws.{live-stands, moves-single, moves-stands, same-back, same-whole}
use Rattle.sector_slots.proofs.TornBits.{commit-step, others-left, retire-step, state-kept}
use Rattle.sector_slots.proofs.TornBlocks.{IsSureLive, free-first, free-firm, sure-live}
use Rattle.sector_slots.proofs.TornLaws.{erased-is}
use Rattle.sector_slots.proofs.UnopenedLaws.{AreOpenedErasable}

-- a slot that is neither live nor without a generation holds nothing
pub slot-idle : (s : Slot) → ((tag : Tag) (x : List ℕ) → s ≢ Live tag x) → s ≢ NoGeneration → HoldsNothing s
slot-idle Free live whole = tt
slot-idle (Live tag x) live whole = absurd (live tag x refl)
slot-idle NoGeneration live whole = absurd (whole refl)
slot-idle Dead live whole = tt
slot-idle Outside live whole = tt

pub plain-idle : (a : Bits) (suspect : ℕ → Bool) (e : ℕ) → IsFirmDisk a suspect → e < data_blocks a.shown → IsErasable e a.shown → (i : ℕ) → i < 7 → HoldsNothing (slot_at a.shown (7 * e + i))
plain-idle a suspect e disk low erasable i li = slot-idle (slot_at a.shown (7 * e + i)) (λ tag x. erasable.dead (7 * e + i) tag x (omega (arith, low, li)) (omega (arith, li))) (disk.sound.slots.whole (7 * e + i) (omega (arith, low, li)))

pub void-idle : (m : List ℕ) (t i : ℕ) → i < 7 → kind_at m t ≡ kinds.Void → HoldsNothing (slot_at m (7 * t + i))
void-idle m t i li is =
    let at : (7 * t + i) / 7 ≡ t = omega (arith, li) in
    subst (λ s. HoldsNothing s) (sym (counted-void (kind_at m) (raw_slot m) (data_blocks m) (7 * t + i) (ap (λ q. is_void (kind_at m q)) at ∙ ap is_void is))) tt

-- what each block reads as, beside the slots of before
abbrev pub PlainReads : Bits → List ℕ → ℕ → Type 0
PlainReads a v e = BlockReads (kind_at a.shown) (kind_at v) (raw_slot a.shown) (raw_slot v) (data_blocks a.shown) e

module _ (a new : Bits) (suspect : ℕ → Bool) (disk : IsFirmDisk a suspect) (size : length new.shown ≡ length a.shown) (half : IsHalfChipAtEachDraw new) (sectors : ℕ → List ℕ) (holds : HoldsSectors sectors a.shown) (v : List ℕ) (d : Drawn new.weak new.shown v) (erasable : AreOpenedErasable a.shown v) where
  abbrev n : ℕ
  n = data_blocks a.shown

  abbrev K : ℕ → Kind
  K = kind_at a.shown

  abbrev S : ℕ → ℕ → Slot
  S = raw_slot a.shown

  abbrev f : ℕ → Slot
  f = counted K S n

  pub plain-hold : ((e : ℕ) → e < n → PlainReads a v e) → HoldsSectors sectors v
  plain-hold each = reads-hold v new.weak (length a.shown) K S sectors (d.same_length ∙ size) (half v d) each (sound-one a.shown disk.sound.blocks) holds.slots

  pub plain-left : (e : ℕ) → e < n → SameBlock (e + 4) a new → PlainReads a v e
  plain-left e low same = untouched-reads a new suspect disk size v d erasable K S disk.newer e low same refl (λ i li. refl) (λ er. plain-idle a suspect e disk low er)

  pub plain-opened : (e : ℕ) → e < n → (is_opened v (e + 4) ≡ false → PlainReads a v e) → PlainReads a v e
  plain-opened e low shut = opened-reads a new suspect disk size v d erasable K S disk.newer e low refl (λ er. plain-idle a suspect e disk low er) shut

  -- one block was changed
  pub one-hold : (c : ℕ) → ((e : ℕ) → e ≢ c → SameBlock (e + 4) a new) → PlainReads a v c → HoldsSectors sectors v
  one-hold c same reads = plain-hold (λ e low. elim (cases_eq e c) as (λ _. PlainReads a v e) [ inl is ↦ subst (λ q. PlainReads a v q) (sym is) reads | inr other ↦ plain-left e low (same e other) ])

  -- a live slot was retired
  pub retire-reads : (c p : ℕ) (tag : Tag) (x : List ℕ) → c < n → p < 7 → AreAtRest K n → raw_slot a.shown c p ≡ Live tag x → ((g : ℕ) (k : Generation) (y : List ℕ) → LiveAt f (7 * n) (7 * c + p) g k y → IsSpent f (7 * n) (7 * c + p) g k y)
      → StateInterrupted (descriptor_place c p) 248 a new → PlainReads a v c
  retire-reads c p tag x low within rest live spent l = plain-opened c low (λ shut.
      let P = Beside (16 + 4 * p) 1 in
      let b = with_loss a new in
      let sure : IsSureBlock a (suspect c) c = disk.store c low in
      let left = program-left a new c (16 + 4 * p) (248 ∷ []) l in
      let r = left-read P a new c left v (beside-descriptor p 1 within (omega arith)) disk.settled (disk.alone c low) sure.edges d shut in
      let mark = taken-mark a (suspect c) c (λ is. not-free-live (raw_slot a.shown c p) tag x live (is.free p within)) sure in
      let was = sym (here a.shown c (16 + 4 * p) disk.settled (omega (arith, within))) ∙ live-state (data_block a.shown c) p tag x (disk.alone c low) live in
      let known = disk-known a suspect disk (rest-sources a.shown rest) c low in
      let s : IsSureLive a c p = elim (sure.slots p within) [ inl s ↦ sure-live a c p tag x within known live s | inr q ↦ absurd (not-free-live (raw_slot a.shown c p) tag x live q.1.free) ] in
      let bits = λ (k : ℕ) (other : k ≢ 2). ap (λ y. bit_at y k) (is-there P b v c r (16 + 4 * p) (omega (arith, within))) ∙ (state-kept a new (descriptor_place c p) (248 ∷ []) 252 k l (omega arith) was (others-left 2 252 248 k retire-step.others other) (s.state k other)).reads v d in
      let reads = retiring-is P b v c r p tag x within (own-rest p within) live bits (left-rest P a new c left p within (own-rest p within) s.rest) (left-sector P a new c left p within (own-rest p within) s.sector) in
      alike (drawn-kind P b v c r (λ k small. inl (omega (arith, small))) (left-mark P a new c left (λ k small. inl (omega (arith, small))) mark))
      (λ i li. elim (cases_eq i p) as (λ _. SlotReads (S c i) (raw_slot v c i) f (7 * n) (7 * c + i)) [
        | inr other ↦ slot-reads a v K S disk.newer c i li refl (slot-read P a new c left v r i li (other-slot p 1 i within (omega arith) other) (suspect c) sure)
        | inl is ↦ subst (λ q. SlotReads (S c q) (raw_slot v c q) f (7 * n) (7 * c + q)) (sym is) (elim reads as (λ _. SlotReads (S c p) (raw_slot v c p) f (7 * n) (7 * c + p)) [
          | inl still ↦ same_slot (still ∙ sym live)
          | inr dead ↦ gone (dead-quiet (raw_slot v c p) dead) spent
        ])
      ]))

  -- the lowest free slot was killed
  pub kill-reads : (c p : ℕ) → AreAtRest K n → IsLowestFreePlace c p a.shown → (IsSpareIn a.shown c → ⊥) → StateInterrupted (descriptor_place c p) 251 a new → PlainReads a v c
  kill-reads c p rest free part l = plain-opened c free.number (λ shut.
      let P = Beside (16 + 4 * p) 1 in
      let b = with_loss a new in
      let low = free.number in
      let within = free.within in
      let sure : IsSureBlock a (suspect c) c = disk.store c low in
      let left = program-left a new c (16 + 4 * p) (251 ∷ []) l in
      let r = left-read P a new c left v (beside-descriptor p 1 within (omega arith)) disk.settled (disk.alone c low) sure.edges d shut in
      let mark = taken-mark a (suspect c) c part sure in
      let known = disk-known a suspect disk (rest-sources a.shown rest) c low in
      let weak = (free-firm a (suspect c) c p within known free.free sure).0 in
      let kept = state-kept a new (descriptor_place c p) (251 ∷ []) 255 1 l (omega arith) (free-first a c p within known free.free) refl weak in
      let one = ap (λ y. bit_at y 1) (is-there P b v c r (16 + 4 * p) (omega (arith, within))) ∙ kept.reads v d in
      alike (drawn-kind P b v c r (λ k small. inl (omega (arith, small))) (left-mark P a new c left (λ k small. inl (omega (arith, small))) mark))
      (λ i li. elim (cases_eq i p) as (λ _. SlotReads (S c i) (raw_slot v c i) f (7 * n) (7 * c + i)) [
        | inr other ↦ slot-reads a v K S disk.newer c i li refl (slot-read P a new c left v r i li (other-slot p 1 i within (omega arith) other) (suspect c) sure)
        | inl is ↦ subst (λ q. SlotReads (S c q) (raw_slot v c q) f (7 * n) (7 * c + q)) (sym is) (slot-reads a v K S disk.newer c p within refl (elim (unlive-is P b v c r p one) [
          | inl still ↦ as_before (still ∙ sym free.free)
          | inr dead ↦ quiet (free-quiet (raw_slot a.shown c p) free.free) (dead-quiet (raw_slot v c p) dead)
        ]))
      ]))

  -- a copying was begun
  pub begin-reads : (t : ℕ) → t < n → IsSpareIn a.shown t → suspect t ≡ false → BeginInterrupted t a new → PlainReads a v t
  begin-reads t low is trusted call = plain-opened t low (λ shut. elim (begun-either a new suspect disk size v d t low is trusted call shut) as (λ _. PlainReads a v t) [
    | inl plain ↦ alike (plain ∙ sym is.plain) (λ i li. slot-reads a v K S disk.newer t i li refl (slot-read (Beside 4 (length call.mark)) a new t (begun-left a new suspect disk size v d t low is trusted call shut) v
        (begun-read a new suspect disk size v d t low is trusted call shut) i li (begun-beside a new suspect disk size v d t low is trusted call shut i) (suspect t) (disk.store t low)))
    | inr torn ↦ void-reads a v K S disk.newer t (λ source c. committed-plain (K t) source c is.plain) (λ i li. spare-idle a v K S disk.newer t i li is.free) torn
  ])

  -- a block that was void is
  pub still-void : (t : ℕ) → kind_at a.shown t ≡ kinds.Void → kind_at v t ≡ kinds.Void → PlainReads a v t
  still-void t was is = void-reads a v K S disk.newer t (λ source c. committed-void (K t) source c was) (λ i li. void-idle a.shown t i li was) is

  -- a block was erased
  pub erase-reads : (c : ℕ) → c < n → IsErasable c a.shown → BlockInterrupted (c + 4) a new → PlainReads a v c
  erase-reads c low er (as_it_was same) = plain-left c low same
  erase-reads c low er (opened is) = plain-opened c low (λ shut. absurd (true≢false (sym (is v d) ∙ shut)))
  erase-reads c low er (is_erased bytes firm) = plain-opened c low (λ shut.
      let same : data_blocks new.shown ≡ data_blocks a.shown = ap (λ k. block_count k - 4) size in
      blank-reads a v K S disk.newer c low refl (erased-is new c (subst (λ q. c < q) (sym same) low) bytes firm v d shut) er (plain-idle a suspect c disk low er))

-- The kind of one block is another.
abbrev with_kind : (ℕ → Kind) → ℕ → Kind → ℕ → Kind
with_kind kind t k d = if d == t then k else kind d

with-here : (kind : ℕ → Kind) (t : ℕ) (k : Kind) → with_kind kind t k t ≡ k
with-here kind t k = rw (eq-eqb t t refl) refl

with-other : (kind : ℕ → Kind) (t d : ℕ) (k : Kind) → d ≢ t → with_kind kind t k d ≡ kind d
with-other kind t d k other = rw (ne_eqb d t other) refl

abbrev pub number_in : Slot → ℕ
number_in Free = 0
number_in (Live tag x) = tag.number
number_in NoGeneration = 0
number_in Dead = 0
number_in Outside = 0

-- what is to be copied of a slot with a generation has one
to-copy-whole : (kind : Kind) (s : Slot) → s ≢ NoGeneration → to_copy kind s ≢ NoGeneration
to-copy-whole kind Free whole e = whole e
to-copy-whole kind (Live tag x) whole e = let q : 1 ≡ 2 = ap slot_number e in omega (arith, q)
to-copy-whole kind NoGeneration whole e = whole refl
to-copy-whole kind Dead whole e = whole e
to-copy-whole kind Outside whole e = whole e

module _ (a new : Bits) (suspect : ℕ → Bool) (disk : IsFirmDisk a suspect) (size : length new.shown ≡ length a.shown) (half : IsHalfChipAtEachDraw new) (sectors : ℕ → List ℕ) (holds : HoldsSectors sectors a.shown) (v : List ℕ) (d : Drawn new.weak new.shown v) (erasable : AreOpenedErasable a.shown v) where
  -- the slots that count after a step that changed the kind of block t alone
  module _ (t : ℕ) (inside : t < data_blocks a.shown) (k : Kind) (others : (e : ℕ) → e ≢ t → SameBlock (e + 4) a new) where
    abbrev N : ℕ
    N = data_blocks a.shown

    abbrev K1 : ℕ → Kind
    K1 = with_kind (kind_at a.shown) t k

    abbrev f1 : ℕ → Slot
    f1 = counted K1 (raw_slot a.shown) N

    pub only-kind : OnlyData t N (kind_at a.shown) K1 (raw_slot a.shown) (raw_slot a.shown)
    only-kind = record { same_kind = λ e low other. with-other (kind_at a.shown) t e k other; same_slots = λ e i low other. refl }

    -- live slots of it beside block t were live; none is without a generation
    module _ (newer : IsNewerFirm a f1 (7 * N)) (back : (w g : ℕ) (j : Generation) (x : List ℕ) → w / 7 ≢ t → LiveAt f1 (7 * N) w g j x → (i : Generation) × LiveAt (slot_at a.shown) (7 * N) w g i x) (whole : (w : ℕ) → w < 7 * N → f1 w ≢ NoGeneration) where
      step-left : (e : ℕ) → e < N → e ≢ t → BlockReads K1 (kind_at v) (raw_slot a.shown) (raw_slot v) N e
      step-left e low other = untouched-reads a new suspect disk size v d erasable K1 (raw_slot a.shown) newer e low (others e other) (with-other (kind_at a.shown) t e k other) (λ i li. refl) (λ er i li.
          let at : (7 * e + i) / 7 ≡ e = omega (arith, li) in
          let bound : 7 * e + i < 7 * N = omega (arith, low, li) in
          slot-idle (f1 (7 * e + i)) (λ tag x live.
          let b = back (7 * e + i) tag.number tag.generation x (λ q. other (sym at ∙ q)) (record { number = bound; is = live }) in
          er.dead (7 * e + i) (record { number = tag.number; generation = b.0 }) x bound at b.1.is)
          (whole (7 * e + i) bound))

      pub step-hold : kind_at v t ≡ k → ((i : ℕ) → i < 7 → SlotReads (raw_slot a.shown t i) (raw_slot v t i) f1 (7 * N) (7 * t + i)) → HasOneCopy K1 N → SlotsRepresent f1 (7 * N) (sector_count (length a.shown)) sectors → HoldsSectors sectors v
      step-hold now slots one stands = reads-hold v new.weak (length a.shown) K1 (raw_slot a.shown) sectors (d.same_length ∙ size) (half v d)
          (λ e low. elim (cases_eq e t) as (λ _. BlockReads K1 (kind_at v) (raw_slot a.shown) (raw_slot v) N e) [
            | inl is ↦ subst (λ q. BlockReads K1 (kind_at v) (raw_slot a.shown) (raw_slot v) N q) (sym is) (alike (now ∙ sym (with-here (kind_at a.shown) t k)) slots)
            | inr other ↦ step-left e low other
          ]) one stands

  -- a copy was committed
  pub commit-hold : IsSingle a.shown → (s t : ℕ) → s < data_blocks a.shown → s ≢ t → IsTarget t (data_blocks a.shown) (kind_at a.shown) → IsBegun t s a.shown → ((i : ℕ) → i < 7 → raw_slot a.shown t i ≡ copy_slot (source_slot a.shown s i)) → StateInterrupted (mark_place t) 252 a new → HoldsSectors sectors v
  commit-hold single s t low other target start copies l =
      let n = data_blocks a.shown in
      let K = kind_at a.shown in
      let S = raw_slot a.shown in
      let f = slot_at a.shown in
      let inside = target.number in
      let same = λ (e : ℕ) (away : e ≢ t). program-apart a new t 4 e (252 ∷ []) (omega arith) away l in
      let plainly = λ (reads : PlainReads a v t). one-hold a new suspect disk size half sectors holds v d erasable t same reads in
      elim (either-opened (is_opened v (t + 4))) as (λ _. HoldsSectors sectors v) [
        | inl is ↦ plainly (plain-opened a new suspect disk size half sectors holds v d erasable t inside (λ shut. absurd (true≢false (sym is ∙ shut))))
        | inr shut ↦ elim (committed-either a new suspect disk size v d s t inside start l shut) as (λ _. HoldsSectors sectors v) [
          | inl still ↦ plainly (still-void a new suspect disk size half sectors holds v d erasable t start.void still)
          | inr done ↦
              let k = kinds.Committed (s + 4) in
              let k1 = with_kind K t k in
              let g = counted k1 S n in
              let whole = source-whole a suspect s t disk target start.void low other in
              let commits : Commits s t n K k1 S S = record {
                target = target;
                was = start.void;
                number = low;
                other = other;
                copies = λ i li. subst (λ q. IsCopy (S s i) q) (sym (copies i li)) (copied-from (K s) (S s i) (copy_slot (source_slot a.shown s i)) (whole i li) (copy-exact (source_slot a.shown s i) (to-copy-whole (K s) (S s i) (whole i li))));
                only = only-kind t inside k same;
                now = with-here K t k;
              } in
              let moves : MovesSlots f g (7 * n) (shifted s t) (shifted t s) = commit-moves s t n K k1 S S commits holds.slots.sound.whole in
              let single1 = moves-single f g (7 * n) (shifted s t) (shifted t s) moves single in
              let newer : IsNewerFirm a g (7 * n) = λ x y h i j p q lx ly away. absurd (away (single1.one x y h i j p q lx ly)) in
              let marked : HasMark (K t) = subst (λ q. HasMark q) (sym start.void) tt in
              let part = λ (is : IsSpareIn a.shown t). void-plain (K t) start.void is.plain in
              let left = state-left a new suspect disk size v d t inside 1 254 252 commit-step marked part start.state l shut in
              let r = state-read a new suspect disk size v d t inside 1 254 252 commit-step marked part start.state l shut in
              step-hold t inside k same newer
              (λ w h j x away live. let b = moves.back w h j x live in (b.0, subst (λ q. LiveAt f (7 * n) q h b.0 x) (shifted-else t s w away) b.1))
              moves.whole done
              (λ i li. slot-reads a v k1 S newer t i li refl (slot-read (Beside 4 1) a new t left v r i li (mark-slot 1 i (omega arith)) (suspect t) (disk.store t inside)))
              (inr (
                t,
                record {
                  number = inside;
                  copying = subst (λ q. IsCopying q t n) (sym (with-here K t k)) (s, (refl, (low, other)));
                  others = λ e le away. subst (λ q. IsUncommitted q) (sym (with-other K t e k away)) (rest-uncommitted (K e) (target.others e le away));
                },
              ))
              (moves-stands f g (7 * n) (sector_count (length a.shown)) sectors (shifted s t) (shifted t s) moves single holds.slots)
        ]
      ]

  -- and one was settled
  pub settle-hold : (s t : ℕ) → s < data_blocks a.shown → IsTarget t (data_blocks a.shown) (kind_at a.shown) → kind_at a.shown t ≡ kinds.Committed (s + 4) → IsSpareIn a.shown s → StateInterrupted (mark_place t) 248 a new → HoldsSectors sectors v
  settle-hold s t low target is free l =
      let n = data_blocks a.shown in
      let K = kind_at a.shown in
      let S = raw_slot a.shown in
      let f = slot_at a.shown in
      let inside = target.number in
      let same = λ (e : ℕ) (away : e ≢ t). program-apart a new t 4 e (248 ∷ []) (omega arith) away l in
      let marked : HasMark (K t) = subst (λ q. HasMark q) (sym is) tt in
      let part = λ (h : IsSpareIn a.shown t). committed-plain (K t) (s + 4) is h.plain in
      let was = committed-state (data_block a.shown t) (s + 4) is in
      elim (either-opened (is_opened v (t + 4))) as (λ _. HoldsSectors sectors v) [
        | inl going ↦ (let er = erasable t inside going in absurd (er.copy (s + 4) is))
        | inr shut ↦
            let left = state-left a new suspect disk size v d t inside 2 252 248 retire-step marked part was l shut in
            let r = state-read a new suspect disk size v d t inside 2 252 248 retire-step marked part was l shut in
            let read = λ (i : ℕ) (li : i < 7). slot-read (Beside 4 1) a new t left v r i li (mark-slot 1 i (omega arith)) (suspect t) (disk.store t inside) in
            elim (settled-either a new suspect disk size v d (s + 4) t inside is l shut) as (λ _. HoldsSectors sectors v) [
              | inl still ↦ one-hold a new suspect disk size half sectors holds v d erasable t same (alike still (λ i li. slot-reads a v K S disk.newer t i li refl (read i li)))
              | inr done ↦
                  let k = kinds.Settled in
                  let k1 = with_kind K t k in
                  let g = counted k1 S n in
                  let settles : Settles s t n K k1 S S = record {
                    target = target;
                    was = is;
                    source = free;
                    only = only-kind t inside k same;
                    same = λ i li. refl;
                    now = with-here K t k;
                  } in
                  let live : SameLive f g (7 * n) = settle-live s t n K k1 S S settles in
                  let newer : IsNewerFirm a g (7 * n) = λ x y h i j p q lx ly away. disk.newer x y h i j p q (same-back f g (7 * n) live x h i p lx) (same-back f g (7 * n) live y h j q ly) away in
                  step-hold t inside k same newer
                  (λ w h j x away l1. (j, same-back f g (7 * n) live w h j x l1))
                  (same-whole f g (7 * n) live holds.slots.sound.whole) done
                  (λ i li. slot-reads a v k1 S newer t i li refl (read i li))
                  (rest-one k1 n (λ e le. elim (cases_eq e t) as (λ _. IsAtRest (k1 e)) [
                    | inl at ↦ subst (λ q. IsAtRest (k1 q)) (sym at) (subst (λ q. IsAtRest q) (sym (with-here K t k)) tt)
                    | inr away ↦ subst (λ q. IsAtRest q) (sym (with-other K t e k away)) (target.others e le away)
                  ]))
                  (live-stands f g (7 * n) (sector_count (length a.shown)) sectors live holds.slots)
            ]
      ]
