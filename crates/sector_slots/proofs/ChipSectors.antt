-- A loss of power in a change that keeps the sectors keeps them also at the next power-on, however the weak bits read.
use Rattle.std.proofs.Common.{◌≡◌, ◌≢◌, ℕ, ◌+◌, ◌-◌, ◌*◌, ◌<◌, ◌⊎◌, Bool, true, false, List, refl, sym, ap, ◌∙◌, subst, arith, inl, inr}
use Rattle.std.specs.Prelude.{◌/◌, ◌%◌}
use Rattle.std.proofs.lemmas.Bool.{cases_eq}
use Rattle.chip_model.specs.Memory.{byte}
use Rattle.chip_model.specs.Wavering.{Bits}
use Rattle.nor_layout.specs.declared.header.Generation.{Generation}
use Rattle.nor_layout.specs.declared.header.Tag.{Tag}
use Rattle.nor_layout.specs.declared.kind.Kind.{Kind}
use Rattle.nor_layout.specs.declared.kind.Kind.TheVariants as kinds
use Rattle.nor_layout.specs.Headers.{next_generation}
use Rattle.erase_journal.specs.Blocks.{blank, block, is_opened}
use Rattle.erase_journal.specs.Weak.{AreFirm}
use Rattle.sector_slots.specs.Slots.{Slot, Free, Live, Dead, counted, data_block, data_blocks, is_copy_of, is_void, kind_at, raw_slot, IsSpareIn}
use Rattle.sector_slots.specs.Sectors.{LiveAt, content_in, zeros}
use Rattle.sector_slots.specs.Copying.{HoldsNothing}
use Rattle.sector_slots.specs.Steps.{IsErasable}
use Rattle.sector_slots.specs.Weak.{IsDoubtfulSlot, IsSureBlock, IsSureSlot, dead, descriptor_place, fading, firm}
use Rattle.sector_slots.proofs.BlankLaws.{erased-spare}
use Rattle.sector_slots.proofs.CopyLaws.{counted-void, free-quiet, quiet-live}
use Rattle.sector_slots.proofs.FadeLaws.{BlockReads, SlotReads, counted-live, counted-nothing, gone, resting, same_slot}
use Rattle.sector_slots.proofs.HalfBlocks.{IsBesideSlot, IsBlockRead, dead-is, dead-was, doubtful-one, drawn-firm, fading-is, unlive-is}
use Rattle.sector_slots.proofs.LeftLaws.{IsLeft, left-descriptor, left-doubtful, left-sure, with_loss}

-- What a slot reads as at the next power-on, where nothing of it was changed: as before; or it held nothing, and holds nothing; or it held zeros, and wasn't firm.
pub data SlotRead (a : Bits) (v : List ℕ) (e i : ℕ) : Type 0 where
  as_before : raw_slot v e i ≡ raw_slot a.shown e i → SlotRead a v e i
  quiet : HoldsNothing (raw_slot a.shown e i) → HoldsNothing (raw_slot v e i) → SlotRead a v e i
  faded : (tag : Tag) → raw_slot a.shown e i ≡ Live tag zeros → (AreFirm a.weak (descriptor_place e i) 4 → ⊥) → HoldsNothing (raw_slot v e i) → SlotRead a v e i

pub dead-quiet : (s : Slot) → s ≡ Dead → HoldsNothing s
dead-quiet s e = subst (λ a. HoldsNothing a) (sym e) tt

module _ (P : ℕ → Type 0) (a new : Bits) (e : ℕ) (left : IsLeft P a new e) (v : List ℕ) (r : IsBlockRead P (with_loss a new) v e) (i : ℕ) (low : i < 7) (beside : IsBesideSlot P i) where
  sure-read : IsSureSlot (with_loss a new) e i → SlotRead a v e i
  sure-read (firm x y) = as_before (drawn-firm P (with_loss a new) v e r i low beside x y)
  sure-read (dead h) = as_before (dead-is P (with_loss a new) v e r i low beside h ∙ sym (dead-was P (with_loss a new) v e r i low h))
  sure-read (fading h) = elim (fading-is P (with_loss a new) v e r i low beside h) as (λ _. SlotRead a v e i) [
    | inl live ↦ as_before (live ∙ sym h.live)
    | inr none ↦ elim (cases_eq (byte new.weak (descriptor_place e i)) 0) as (λ _. SlotRead a v e i) [
      | inl z ↦ as_before (drawn-firm P (with_loss a new) v e r i low beside (λ k small. elim (cases_eq k 0) as (λ _. byte new.weak (descriptor_place e i + k) ≡ 0) [
        | inl here ↦ (let q : descriptor_place e i ≡ descriptor_place e i + k = omega (arith, here) in ap (λ x. byte new.weak x) (sym q)) ∙ z
        | inr more ↦ (let q : descriptor_place e i + 1 + (k - 1) ≡ descriptor_place e i + k = omega (arith, more) in ap (λ x. byte new.weak x) (sym q)) ∙ h.rest (k - 1) (omega (arith, small, more))
      ]) h.sector)
      | inr weak ↦ faded h.tag h.live (λ f. weak ((let q : descriptor_place e i ≡ descriptor_place e i + 0 = omega arith in ap (λ x. byte new.weak x) q) ∙ left-descriptor P a new e left i low beside f 0 (omega arith))) (dead-quiet (raw_slot v e i) none)
    ]
  ]

  doubtful-read : IsDoubtfulSlot (with_loss a new) e i → SlotRead a v e i
  doubtful-read h = elim (unlive-is P (with_loss a new) v e r i (doubtful-one P (with_loss a new) v e r i low beside h)) as (λ _. SlotRead a v e i) [
    | inl free ↦ as_before (free ∙ sym h.free)
    | inr none ↦ quiet (free-quiet (raw_slot a.shown e i) h.free) (dead-quiet (raw_slot v e i) none)
  ]

  pub slot-read : (suspect : Bool) → IsSureBlock a suspect e → SlotRead a v e i
  slot-read suspect h = elim (h.slots i low) as (λ _. SlotRead a v e i) [
    | inl s ↦ sure-read (left-sure P a new e left i low beside s)
    | inr q ↦ doubtful-read (left-doubtful P a new e left i low beside q.1)
  ]

-- of two live slots of a sector each is firm, or is the older one
abbrev pub IsNewerFirm : Bits → (ℕ → Slot) → ℕ → Type 0
IsNewerFirm a f n = (s t g : ℕ) (j k : Generation) (x y : List ℕ) → LiveAt f n s g j x → LiveAt f n t g k y → s ≢ t → AreFirm a.weak (descriptor_place (s / 7) (s % 7)) 4 ⊎ (k ≡ next_generation j)

pub opened-blank : (m : List ℕ) (b : ℕ) → is_opened m b ≡ true → block m b ≡ blank
unfolding block
opened-blank m b e = rw e refl

not-copy : (b : ℕ) (k : Kind) → ((source : ℕ) → k ≢ kinds.Committed source) → is_copy_of b k ≡ false
not-copy b kinds.Plain h = refl
not-copy b kinds.Void h = refl
not-copy b (kinds.Committed source) h = absurd (h source refl)
not-copy b kinds.Settled h = refl
not-copy b (kinds.Group tag) h = refl
not-copy b kinds.DeadGroup h = refl
not-copy b kinds.SpoiltGroup h = refl
not-copy b kinds.Unknown h = refl

-- The slots that count of kinds and slots, of which the memory's are given.
module _ (a : Bits) (v : List ℕ) (kind : ℕ → Kind) (slots : ℕ → ℕ → Slot) (newer : IsNewerFirm a (counted kind slots (data_blocks a.shown)) (7 * data_blocks a.shown)) where
  abbrev n : ℕ
  n = data_blocks a.shown

  abbrev f : ℕ → Slot
  f = counted kind slots n

  abbrev Reads : ℕ → Type 0
  Reads e = BlockReads kind (kind_at v) slots (raw_slot v) n e

  pub stored : (e i g : ℕ) (k : Generation) (x : List ℕ) → i < 7 → slots e i ≡ raw_slot a.shown e i → LiveAt f (7 * n) (7 * e + i) g k x → raw_slot a.shown e i ≡ Live (record { number = g; generation = k }) x
  stored e i g k x low same live =
      let at : (7 * e + i) / 7 ≡ e = omega (arith, low) in
      let place : (7 * e + i) % 7 ≡ i = omega (arith, low) in
      sym same ∙ (ap (λ q. slots e q) (sym place) ∙ (ap (λ q. slots q ((7 * e + i) % 7)) (sym at) ∙ counted-live kind slots n (7 * e + i) (record { number = g; generation = k }) x live.is))

  pub slot-reads : (e i : ℕ) → i < 7 → slots e i ≡ raw_slot a.shown e i → SlotRead a v e i → SlotReads (slots e i) (raw_slot v e i) f (7 * n) (7 * e + i)
  slot-reads e i low same (as_before z) = same_slot (z ∙ sym same)
  slot-reads e i low same (quiet was is) = gone is (λ g k x live. absurd (quiet-live (raw_slot a.shown e i) g k x was (stored e i g k x low same live)))
  slot-reads e i low same (faded tag was weak is) = gone is (λ g k x live.
      let at : (7 * e + i) / 7 ≡ e = omega (arith, low) in
      let place : (7 * e + i) % 7 ≡ i = omega (arith, low) in
      record {
        older = λ t j y lt other. elim (newer (7 * e + i) t g k j x y live lt (λ q. other (sym q))) as (λ _. j ≡ next_generation k) [
          | inl f ↦ absurd (weak (subst (λ q. AreFirm a.weak (descriptor_place e q) 4) place (subst (λ q. AreFirm a.weak (descriptor_place q ((7 * e + i) % 7)) 4) at f)))
          | inr next ↦ next
        ];
        held = inl (ap content_in (sym (stored e i g k x low same live) ∙ was));
      })

  -- a block that reads as erased, and may be
  pub blank-reads : (e : ℕ) → e < n → kind e ≡ kind_at a.shown e → data_block v e ≡ blank → IsErasable e a.shown → ((i : ℕ) → i < 7 → HoldsNothing (f (7 * e + i))) → Reads e
  blank-reads e low same is erasable idle =
      let free : IsSpareIn v e = erased-spare v e is in
      resting (λ b. not-copy b (kind e) (λ source q. erasable.copy source (sym same ∙ q))) (λ b. ap (λ k. is_copy_of b k) free.plain) idle (λ i li. spare-nothing e i li free) where
        spare-nothing : (e i : ℕ) → i < 7 → IsSpareIn v e → HoldsNothing (counted (kind_at v) (raw_slot v) n (7 * e + i))
        spare-nothing e i li free =
            let at : (7 * e + i) / 7 ≡ e = omega (arith, li) in
            counted-nothing (kind_at v) (raw_slot v) n (7 * e + i) (free-quiet (raw_slot v ((7 * e + i) / 7) ((7 * e + i) % 7)) (ap (λ q. raw_slot v q ((7 * e + i) % 7)) at ∙ free.free ((7 * e + i) % 7) (omega arith)))

  -- one that reads as void, and represented nothing
  pub void-reads : (e : ℕ) → ((source : ℕ) → kind e ≢ kinds.Committed source) → ((i : ℕ) → i < 7 → HoldsNothing (f (7 * e + i))) → kind_at v e ≡ kinds.Void → Reads e
  void-reads e copy was is = resting (λ b. not-copy b (kind e) copy) (λ b. ap (λ k. is_copy_of b k) is) was (λ i li.
      let at : (7 * e + i) / 7 ≡ e = omega (arith, li) in
      subst (λ s. HoldsNothing s) (sym (counted-void (kind_at v) (raw_slot v) n (7 * e + i) (ap (λ q. is_void (kind_at v q)) at ∙ ap is_void is))) tt)

  -- a wholly free one represented nothing
  pub spare-idle : (e i : ℕ) → i < 7 → ((j : ℕ) → j < 7 → slots e j ≡ Free) → HoldsNothing (f (7 * e + i))
  spare-idle e i li free =
      let at : (7 * e + i) / 7 ≡ e = omega (arith, li) in
      counted-nothing kind slots n (7 * e + i) (free-quiet (slots ((7 * e + i) / 7) ((7 * e + i) % 7)) (ap (λ q. slots q ((7 * e + i) % 7)) at ∙ free ((7 * e + i) % 7) (omega arith)))
