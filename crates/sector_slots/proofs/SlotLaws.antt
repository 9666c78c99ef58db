-- What a copy of one slot leaves, and slots that count beside what their bytes say.
use Rattle.std.proofs.Common.{◌≡◌, ◌≢◌, ℕ, Bool, true, false, cond, List, refl, sym, ap, ◌∙◌, subst, arith}
use Rattle.std.specs.Prelude.{◌/◌, ◌%◌}
use Rattle.nor_layout.specs.declared.header.Tag.{Tag}
use Rattle.sector_slots.specs.Slots.{Slot, Free, Live, NoGeneration, Dead, Outside, slot_in, content_bytes, counted, is_counted, kind_at, data_blocks, raw_slot}
use Rattle.sector_slots.specs.Copying.{IsCopy, copy_slot, same_tag, left_free}
use Rattle.sector_slots.proofs.CopyLaws.{copy-exact}
use Rattle.sector_slots.specs.Steps.{IsErasedSlot, CopyLeaves, live_copied, passed_over}
use Rattle.sector_slots.specs.Laws.{CountedSlotsAreStored, CopiesAreExact, CopiesKeepTags, ReservesAreOne}

-- What a copy leaves into a place where nothing was programmed: exactly the copy of the slot.
copy-other : (old : Slot) → ((tag : Tag) (x : List ℕ) → old ≢ Live tag x) → copy_slot old ≡ Free
copy-other Free n = refl
copy-other (Live tag x) n = absurd (n tag x refl)
copy-other NoGeneration n = refl
copy-other Dead n = refl
copy-other Outside n = refl

copy-live : (old : Slot) (tag : Tag) (x : List ℕ) → old ≡ Live tag x → copy_slot old ≡ Live tag x
copy-live old tag x e = ap copy_slot e

pub copy-is_exact : CopiesAreExact
copy-is_exact old t i m m' (live_copied tag x was holds exact) fresh = exact fresh ∙ sym (copy-live old tag x was)
copy-is_exact old t i m m' (passed_over other same) fresh = ap (λ b. slot_in b i) same ∙ (fresh.free ∙ sym (copy-other old other))

-- and into one that is free, its tag
pub copy-keeps_tag : CopiesKeepTags
copy-keeps_tag old t i m m' (live_copied tag x was (y, now) exact) free = same_tag tag x y was now
copy-keeps_tag old t i m m' (passed_over other same) free = left_free other (ap (λ b. slot_in b i) same ∙ free)

-- What a copy leaves, for the machine: nothing that isn't live comes to represent something, and what reads as free is erased.
abbrev IsFreeSlot : Slot → Type 0
IsFreeSlot Free = Unit {0}
IsFreeSlot (Live tag x) = ⊥
IsFreeSlot NoGeneration = ⊥
IsFreeSlot Dead = ⊥
IsFreeSlot Outside = ⊥

copy-fresh : (old : Slot) (t i : ℕ) (m m' : List ℕ) → CopyLeaves old t i m m' → IsErasedSlot t i m → raw_slot m' t i ≡ Free → IsErasedSlot t i m'
copy-fresh old t i m m' (live_copied tag x was holds exact) fresh free = absurd (subst (λ s. IsFreeSlot s) (sym free ∙ exact fresh) tt)
copy-fresh old t i m m' (passed_over other same) fresh free = record { free = free; blank = ap (λ b. content_bytes b i) same ∙ fresh.blank }

pub copy-is : (old : Slot) (t i : ℕ) (m m' : List ℕ) → CopyLeaves old t i m m' → old ≢ NoGeneration → IsErasedSlot t i m → IsCopy old (raw_slot m' t i) × (raw_slot m' t i ≡ Free → IsErasedSlot t i m')
copy-is old t i m m' leaves whole fresh = (subst (λ s. IsCopy old s) (sym (copy-is_exact old t i m m' leaves fresh)) (copy-exact old whole), copy-fresh old t i m m' leaves fresh)

-- A slot that counts is what its bytes say.
either-raw : (t : Bool) (a x : Slot) → cond t a Outside ≡ x → x ≢ Outside → a ≡ x
either-raw true a x e n = e
either-raw false a x e n = absurd (n (sym e))

pub counted-raw : CountedSlotsAreStored
unfolding counted
counted-raw m w x e n = either-raw (is_counted (kind_at m) (data_blocks m) (w / 7)) (raw_slot m (w / 7) (w % 7)) x e n

-- There is one reserve.
pub one-reserve : ReservesAreOne
one-reserve m r s p q =
    let a = p.highest s q.number q.spare in
    let b = q.highest r p.number p.spare in
    omega (arith, a, b)
