-- A loss of power in a change that keeps the sectors keeps them also at the next power-on, however the weak bits read.
use Rattle.std.proofs.Common.{◌≡◌, ◌≢◌, ℕ, ◌+◌, ◌*◌, ◌<◌, ◌≤◌, ◌⊎◌, Bool, List, [], ◌∷◌, sym, ap, ◌∙◌, subst, arith, inl, inr}
use Rattle.std.specs.Prelude.{◌/◌, ◌%◌}
use Rattle.std.proofs.lemmas.Bool.{true≢false}
use Rattle.chip_model.specs.Wavering.{Bits, Drawn}
use Rattle.nor_layout.specs.declared.header.Generation.{Generation}
use Rattle.nor_layout.specs.declared.header.Tag.{Tag}
use Rattle.nor_layout.specs.Headers.{next_generation}
use Rattle.erase_journal.specs.Torn.{ProgramInterrupted}
use Rattle.sector_slots.specs.Half.{HasFirmNewer}
use Rattle.sector_slots.specs.Slots.{Live, data_blocks, kind_at, raw_slot, slot_at, slot_count}
use Rattle.sector_slots.specs.Sectors.{HoldsSectors, IsSingle, LiveAt, content_in, generation_in, zeros}
use Rattle.sector_slots.specs.Blocks.{AreAtRest}
use Rattle.sector_slots.specs.Losses.{StepInterrupted, IsFirmDisk, LossesKeepSectors, begun, committed, copied, erased, killed, none, retired, settled}
use Rattle.sector_slots.specs.Steps.{IsErasable}
use Rattle.sector_slots.specs.Torn.{StateInterrupted}
use Rattle.sector_slots.specs.Weak.{block_place, descriptor_place, mark_place}
use Rattle.sector_slots.proofs.ChipBlocks.{beside-same, place-same}
use Rattle.sector_slots.proofs.ChipLosses.{change-half}
use Rattle.sector_slots.proofs.ChipRooms.{copied-kind}
use Rattle.sector_slots.proofs.CopyLaws.{rest-counted}
use Rattle.sector_slots.proofs.FadeLaws.{counted-live, IsSpent}
use Rattle.sector_slots.proofs.LeftLaws.{program-apart}
use Rattle.sector_slots.proofs.SectorLaws.{never-round}
use Rattle.sector_slots.proofs.TornBits.{program-length}
use Rattle.sector_slots.proofs.UnopenedLaws.{AreOpenedErasable, journals-unopened, program-unopened}
use Rattle.sector_slots.proofs.WritesKept.{write-hold}
use Rattle.sector_slots.proofs.SectorLosses.{begin-reads, commit-hold, erase-reads, kill-reads, number_in, one-hold, plain-hold, plain-left, plain-opened, retire-reads, settle-hold, still-void}

-- Why a live slot may be retired: it holds zeros and is the one of its sector, or a newer one is firm.
plain-stored : (a : Bits) (c p g : ℕ) (k : Generation) (y : List ℕ) → p < 7 → LiveAt (slot_at a.shown) (slot_count a.shown) (7 * c + p) g k y → raw_slot a.shown c p ≡ Live (record { number = g; generation = k }) y
plain-stored a c p g k y within live =
    let at : (7 * c + p) / 7 ≡ c = omega (arith, within) in
    let place : (7 * c + p) % 7 ≡ p = omega (arith, within) in
    ap (λ q. raw_slot a.shown c q) (sym place) ∙ (ap (λ q. raw_slot a.shown q ((7 * c + p) % 7)) (sym at) ∙ counted-live (kind_at a.shown) (raw_slot a.shown) (data_blocks a.shown) (7 * c + p) (record { number = g; generation = k }) y live.is)

zeros-spent : (a : Bits) (c p : ℕ) (tag : Tag) (x : List ℕ) → p < 7 → IsSingle a.shown → raw_slot a.shown c p ≡ Live tag x → x ≡ zeros → (g : ℕ) (k : Generation) (y : List ℕ) → LiveAt (slot_at a.shown) (slot_count a.shown) (7 * c + p) g k y
    → IsSpent (slot_at a.shown) (slot_count a.shown) (7 * c + p) g k y
zeros-spent a c p tag x within single live zero g k y at = record {
  older = λ t j z lt other. absurd (other (single.one t (7 * c + p) g j k z y lt at));
  held = inl (ap content_in (sym (plain-stored a c p g k y within at) ∙ live) ∙ zero);
}

module _ (a : Bits) (suspect : ℕ → Bool) (disk : IsFirmDisk a suspect) (rest : AreAtRest (kind_at a.shown) (data_blocks a.shown)) (c p : ℕ) (tag : Tag) (x : List ℕ) (within : p < 7) (live : raw_slot a.shown c p ≡ Live tag x) (h : HasFirmNewer a tag) where
  abbrev newer-place : ℕ
  newer-place = 7 * h.block + h.place

  module _ (g : ℕ) (k : Generation) (y : List ℕ) (at : LiveAt (slot_at a.shown) (slot_count a.shown) (7 * c + p) g k y) where
    same-tag : Live tag x ≡ Live (record { number = g; generation = k }) y
    same-tag = sym live ∙ plain-stored a c p g k y within at

    newer-live : LiveAt (slot_at a.shown) (slot_count a.shown) newer-place g (next_generation k) h.content
    newer-live =
        let m = a.shown in
        let small = h.within in
        let low = h.number in
        let block : newer-place / 7 ≡ h.block = omega (arith, small) in
        let place : newer-place % 7 ≡ h.place = omega (arith, small) in
        let number : tag.number ≡ g = ap number_in same-tag in
        let next : next_generation tag.generation ≡ next_generation k = ap (λ s. next_generation (generation_in s)) same-tag in
        record {
          number = omega (arith, low, small);
          is =
              rest-counted (kind_at m) (raw_slot m) (data_blocks m) newer-place rest (omega (arith, low, small))
              ∙ (ap (λ q. raw_slot m q (newer-place % 7)) block
              ∙ (ap (λ i. raw_slot m h.block i) place
              ∙ (h.live
              ∙ (ap (λ q. Live (record { number = q; generation = next_generation tag.generation }) h.content) number ∙ ap (λ q. Live (record { number = g; generation = q }) h.content) next))));
        }

    -- it is another slot
    newer-other : newer-place ≢ 7 * c + p
    newer-other e =
        let both : Live (record { number = g; generation = next_generation k }) h.content ≡ Live (record { number = g; generation = k }) y = sym newer-live.is ∙ (ap (λ s. slot_at a.shown s) e ∙ at.is) in
        let q : next_generation k ≡ k = ap generation_in both in
        never-round k k (sym q) (sym q)

    newer-spent : IsSpent (slot_at a.shown) (slot_count a.shown) (7 * c + p) g k y
    newer-spent = record {
      older = λ t j z lt other. elim (disk.sound.slots.two (7 * c + p) newer-place t g k (next_generation k) j y h.content z at newer-live lt) as (λ _. j ≡ next_generation k) [
        | inl e ↦ absurd (newer-other (sym e))
        | inr more ↦ elim more as (λ _. j ≡ next_generation k) [
          | inl e ↦ ap generation_in (sym lt.is ∙ (ap (λ s. slot_at a.shown s) (sym e) ∙ newer-live.is))
          | inr e ↦ absurd (other (sym e))
        ]
      ];
      held = inr (newer-place, next_generation k, h.content, newer-live, newer-other);
    }

-- A live slot was retired.
retire-hold : (a : Bits) (suspect : ℕ → Bool) (new : Bits) (sectors : ℕ → List ℕ) (c p : ℕ) (tag : Tag) (x : List ℕ) → IsFirmDisk a suspect → c < data_blocks a.shown → p < 7 → AreAtRest (kind_at a.shown) (data_blocks a.shown) → raw_slot a.shown c p ≡ Live tag x
    → HasFirmNewer a tag ⊎ ((x ≡ zeros) × IsSingle a.shown) → ((g : ℕ) (k : Generation) (y : List ℕ) → LiveAt (slot_at a.shown) (slot_count a.shown) (7 * c + p) g k y → IsSpent (slot_at a.shown) (slot_count a.shown) (7 * c + p) g k y)
    → StateInterrupted (descriptor_place c p) 248 a new → HoldsSectors sectors a.shown → (v : List ℕ) → Drawn new.weak new.shown v → AreOpenedErasable a.shown v → HoldsSectors sectors v
retire-hold a suspect new sectors c p tag x disk low within rest live why spent l holds v d erasable =
    let size = program-length a new (descriptor_place c p) (248 ∷ []) l in
    let half = change-half a suspect new disk (retired c p tag x low within rest live why l) in
    one-hold a new suspect disk size half sectors holds v d erasable c (λ e other. program-apart a new c (16 + 4 * p) e (248 ∷ []) (omega (arith, within)) other l)
    (retire-reads a new suspect disk size half sectors holds v d erasable c p tag x low within rest live spent l)

change-hold : (a : Bits) (suspect : ℕ → Bool) (new : Bits) (sectors : ℕ → List ℕ) → IsFirmDisk a suspect → (change : StepInterrupted a suspect new) → HoldsSectors sectors a.shown → (v : List ℕ) → Drawn new.weak new.shown v → AreOpenedErasable a.shown v → HoldsSectors sectors v
change-hold a suspect new sectors disk (none sources size same shut) holds v d erasable =
    let half = change-half a suspect new disk (none sources size same shut) in
    plain-hold a new suspect disk size half sectors holds v d erasable
    (λ e low. plain-left a new suspect disk size half sectors holds v d erasable e low (λ k small. same (block_place e + k) (omega arith)))
change-hold a suspect new sectors disk (retired c p tag x low within rest live why l) holds v d erasable = retire-hold a suspect new sectors c p tag x disk low within rest live why
    (λ g k y at. elim why as (λ _. IsSpent (slot_at a.shown) (slot_count a.shown) (7 * c + p) g k y) [
      | inl h ↦ newer-spent a suspect disk rest c p tag x within live h g k y at
      | inr z ↦ zeros-spent a c p tag x within z.1 live z.0 g k y at
    ]) l holds v d erasable
change-hold a suspect new sectors disk (killed c p rest free part l) holds v d erasable =
    let size = program-length a new (descriptor_place c p) (251 ∷ []) l in
    let half = change-half a suspect new disk (killed c p rest free part l) in
    let within = free.within in
    one-hold a new suspect disk size half sectors holds v d erasable c (λ e other. program-apart a new c (16 + 4 * p) e (251 ∷ []) (omega (arith, within)) other l)
    (kill-reads a new suspect disk size half sectors holds v d erasable c p rest free part l)
change-hold a suspect new sectors disk (begun t low rest is trusted call) holds v d erasable =
    let size = program-length a new (mark_place t) call.mark call.program in
    let half = change-half a suspect new disk (begun t low rest is trusted call) in
    let four = call.begun.size in
    one-hold a new suspect disk size half sectors holds v d erasable t (λ e other. program-apart a new t 4 e call.mark (omega (arith, four)) other call.program)
    (begin-reads a new suspect disk size half sectors holds v d erasable t low is trusted call)
change-hold a suspect new sectors disk (copied t p within target is size same) holds v d erasable =
    let half = change-half a suspect new disk (copied t p within target is size same) in
    one-hold a new suspect disk size half sectors holds v d erasable t (place-same a new t p within same)
    (plain-opened a new suspect disk size half sectors holds v d erasable t target.number (λ shut. still-void a new suspect disk size half sectors holds v d erasable t is (copied-kind a new suspect disk size v d t p target.number within is same shut)))
change-hold a suspect new sectors disk (committed s t low other target start copies blank sure single l) holds v d erasable =
    let size = program-length a new (mark_place t) (252 ∷ []) l in
    let half = change-half a suspect new disk (committed s t low other target start copies blank sure single l) in
    commit-hold a new suspect disk size half sectors holds v d erasable single s t low other target start copies l
change-hold a suspect new sectors disk (settled s t low target is free sure l) holds v d erasable =
    let size = program-length a new (mark_place t) (248 ∷ []) l in
    let half = change-half a suspect new disk (settled s t low target is free sure l) in
    settle-hold a new suspect disk size half sectors holds v d erasable s t low target is free l
change-hold a suspect new sectors disk (erased c low er sources size beside cut only) holds v d erasable =
    let half = change-half a suspect new disk (erased c low er sources size beside cut only) in
    one-hold a new suspect disk size half sectors holds v d erasable c (λ e other. beside-same a new c e beside other) (erase-reads a new suspect disk size half sectors holds v d erasable c low er cut)

-- No block has an open entry where a program in the data blocks was interrupted.
program-erasable : (a new : Bits) (suspect : ℕ → Bool) (at : ℕ) (bytes : List ℕ) → IsFirmDisk a suspect → 16384 ≤ at → ProgramInterrupted at bytes a new → (v : List ℕ) → Drawn new.weak new.shown v → AreOpenedErasable a.shown v
program-erasable a new suspect at bytes disk from l v d e low is = absurd (true≢false (sym is ∙ program-unopened a new at bytes from disk.settled disk.journals l v d (e + 4)))

-- No block has an open entry then but one that is erased.
pub change-erasable : (a : Bits) (suspect : ℕ → Bool) (new : Bits) → IsFirmDisk a suspect → StepInterrupted a suspect new → (v : List ℕ) → Drawn new.weak new.shown v → AreOpenedErasable a.shown v
change-erasable a suspect new disk (none sources size same shut) v d = λ e low is_open. absurd (true≢false (sym is_open ∙ shut v d (e + 4)))
change-erasable a suspect new disk (retired c p tag x low within rest live why l) v d = program-erasable a new suspect (descriptor_place c p) (248 ∷ []) disk (omega arith) l v d
change-erasable a suspect new disk (killed c p rest free part l) v d = program-erasable a new suspect (descriptor_place c p) (251 ∷ []) disk (omega arith) l v d
change-erasable a suspect new disk (begun t low rest is trusted call) v d = program-erasable a new suspect (mark_place t) call.mark disk (omega arith) call.program v d
change-erasable a suspect new disk (copied t p within target is size same) v d = λ e low is_open. absurd (true≢false (sym is_open ∙ journals-unopened a new size (λ i below. same i (inl (omega (arith, below))) (inl (omega (arith, below)))) disk.settled disk.journals v d (e + 4)))
change-erasable a suspect new disk (committed s t low other target start copies blank sure single l) v d = program-erasable a new suspect (mark_place t) (252 ∷ []) disk (omega arith) l v d
change-erasable a suspect new disk (settled s t low target is free sure l) v d = program-erasable a new suspect (mark_place t) (248 ∷ []) disk (omega arith) l v d
change-erasable a suspect new disk (erased c low er sources size beside cut only) v d = λ e inside is_open.
    let at : e ≡ c = let q = only v d (e + 4) is_open in omega (arith, q) in
    subst (λ q. IsErasable q a.shown) (sym at) er

pub losses-keep : LossesKeepSectors
losses-keep = record {
  change = λ a suspect b sectors disk change holds v d. change-hold a suspect b sectors disk change holds v d (change-erasable a suspect b disk change v d);
  write = λ a suspect tag content b sectors disk w holds v d. write-hold a b suspect tag content disk w.single w sectors holds v d;
}
