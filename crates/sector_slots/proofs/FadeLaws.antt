-- Slots that are given up for a good reason, or read as dead: the sectors are the same.
use Rattle.std.proofs.Common.{◌≡◌, ◌≢◌, ℕ, ◌+◌, ◌*◌, ◌<◌, ◌⊎◌, Bool, true, false, cond, List, refl, sym, ap, ◌∙◌, subst, arith, inl, inr}
use Rattle.std.specs.Prelude.{◌/◌, ◌%◌}
use Rattle.std.proofs.lemmas.Bool.{cases_eq}
use Rattle.nor_layout.specs.declared.header.Generation.{Generation}
use Rattle.nor_layout.specs.declared.header.Tag.{Tag}
use Rattle.nor_layout.specs.declared.kind.Kind.{Kind}
use Rattle.nor_layout.specs.Headers.{next_generation}
use Rattle.sector_slots.specs.Slots.{Slot, Live, NoGeneration, Outside, counted, copies, is_copy_of}
use Rattle.sector_slots.specs.Sectors.{LiveAt, SectorIs, SlotsRepresent, absent, held, zeros}
use Rattle.sector_slots.specs.Copying.{HoldsNothing}
use Rattle.sector_slots.proofs.CopyLaws.{copies-same, outside-live, quiet-live}
use Rattle.sector_slots.proofs.SectorLaws.{never-round, sound-fewer}

-- A live slot may be given up: each other one of its sector is newer, and there is one, or it holds zeros.
pub record IsSpent (f : ℕ → Slot) (n s g : ℕ) (k : Generation) (x : List ℕ) : Type 0 where
  pub older : (t : ℕ) (j : Generation) (y : List ℕ) → LiveAt f n t g j y → t ≢ s → j ≡ next_generation k
  pub held : (x ≡ zeros) ⊎ ((t : ℕ) × (j : Generation) × (y : List ℕ) × LiveAt f n t g j y × (t ≢ s))

-- a slot is as it was, or represents nothing, and was given up
pub data Fades (f f' : ℕ → Slot) (n s : ℕ) : Type 0 where
  stays : f' s ≡ f s → Fades f f' n s
  goes : HoldsNothing (f' s) → ((g : ℕ) (k : Generation) (x : List ℕ) → LiveAt f n s g k x → IsSpent f n s g k x) → Fades f f' n s

fade-one : (f f' : ℕ → Slot) (n s g : ℕ) (k : Generation) (x : List ℕ) → Fades f f' n s → LiveAt f' n s g k x → LiveAt f n s g k x
fade-one f f' n s g k x (stays e) live = record { number = live.number; is = sym e ∙ live.is }
fade-one f f' n s g k x (goes q h) live = absurd (quiet-live (f' s) g k x q live.is)

fade-whole : (f f' : ℕ → Slot) (n s : ℕ) → Fades f f' n s → f s ≢ NoGeneration → f' s ≢ NoGeneration
fade-whole f f' n s (stays e) whole none = whole (sym e ∙ none)
fade-whole f f' n s (goes q h) whole none = subst (λ a. HoldsNothing a) none q

module _ (f f' : ℕ → Slot) (n : ℕ) (each : (s : ℕ) → s < n → Fades f f' n s) where
  back : (s g : ℕ) (k : Generation) (x : List ℕ) → LiveAt f' n s g k x → LiveAt f n s g k x
  back s g k x live = fade-one f f' n s g k x (each s live.number) live

  fade-held : (s g : ℕ) (k : Generation) (x : List ℕ) → LiveAt f n s g k x → ((t : ℕ) (j : Generation) (y : List ℕ) → LiveAt f n t g j y → t ≢ s → k ≡ next_generation j) → Fades f f' n s → SectorIs f' n g x
  fade-held s g k x live newest (stays e) = held s k (record { number = live.number; is = e ∙ live.is }) (λ t j y lt other. newest t j y (back t g j y lt) other)
  fade-held s g k x live newest (goes q h) =
      let spent = h g k x live in
      absent
      (λ t j y lt. elim (cases_eq t s) as (λ _. ⊥) [
        | inl same ↦ quiet-live (f' s) g j y q (ap f' (sym same) ∙ lt.is)
        | inr other ↦ never-round k j (newest t j y (back t g j y lt) other) (spent.older t j y (back t g j y lt) other)
      ])
      (elim spent.held as (λ _. x ≡ zeros) [ inl z ↦ z | inr o ↦ absurd (never-round k o.1 (newest o.0 o.1 o.2 o.3 o.4) (spent.older o.0 o.1 o.2 o.3 o.4)) ])

  fade-sector : (g : ℕ) (x : List ℕ) → SectorIs f n g x → SectorIs f' n g x
  fade-sector g x (absent none zero) = absent (λ s k y live. none s k y (back s g k y live)) zero
  fade-sector g x (held s k live newest) = fade-held s g k x live newest (each s live.number)

  pub fades-stand : (count : ℕ) (sectors : ℕ → List ℕ) → SlotsRepresent f n count sectors → SlotsRepresent f' n count sectors
  fades-stand count sectors h = record {
    sound = sound-fewer f f' n count back (λ s low. fade-whole f f' n s (each s low) (h.sound.whole s low)) h.sound;
    maps = record { each = λ g low. fade-sector g (sectors g) (h.maps.each g low) };
  }

-- what a block's slot reads as
pub data SlotReads (x x' : Slot) (f : ℕ → Slot) (n s : ℕ) : Type 0 where
  same_slot : x' ≡ x → SlotReads x x' f n s
  gone : HoldsNothing x' → ((g : ℕ) (k : Generation) (y : List ℕ) → LiveAt f n s g k y → IsSpent f n s g k y) → SlotReads x x' f n s

-- and a block: its kind is the same, or it represents nothing, and is no copy
pub data BlockReads (kind kind' : ℕ → Kind) (slots slots' : ℕ → ℕ → Slot) (n e : ℕ) : Type 0 where
  alike : kind' e ≡ kind e → ((i : ℕ) → i < 7 → SlotReads (slots e i) (slots' e i) (counted kind slots n) (7 * n) (7 * e + i)) → BlockReads kind kind' slots slots' n e
  resting : ((b : ℕ) → is_copy_of b (kind e) ≡ false) → ((b : ℕ) → is_copy_of b (kind' e) ≡ false) → ((i : ℕ) → i < 7 → HoldsNothing (counted kind slots n (7 * e + i)))
      → ((i : ℕ) → i < 7 → HoldsNothing (counted kind' slots' n (7 * e + i))) → BlockReads kind kind' slots slots' n e

quiet-cond : (t : Bool) (a : Slot) → HoldsNothing a → HoldsNothing (cond t a Outside)
quiet-cond true a q = q
quiet-cond false a q = tt

pub counted-nothing : (kind : ℕ → Kind) (slots : ℕ → ℕ → Slot) (n s : ℕ) → HoldsNothing (slots (s / 7) (s % 7)) → HoldsNothing (counted kind slots n s)
unfolding counted
counted-nothing kind slots n s q = quiet-cond _ (slots (s / 7) (s % 7)) q

cond-live : (t : Bool) (a : Slot) (tag : Tag) (x : List ℕ) → cond t a Outside ≡ Live tag x → a ≡ Live tag x
cond-live true a tag x e = e
cond-live false a tag x e = absurd (outside-live Outside tag.number tag.generation x refl e)

pub counted-live : (kind : ℕ → Kind) (slots : ℕ → ℕ → Slot) (n s : ℕ) (tag : Tag) (x : List ℕ) → counted kind slots n s ≡ Live tag x → slots (s / 7) (s % 7) ≡ Live tag x
unfolding counted
counted-live kind slots n s tag x e = cond-live _ (slots (s / 7) (s % 7)) tag x e

pub counted-alike : (kind kind' : ℕ → Kind) (slots slots' : ℕ → ℕ → Slot) (n s : ℕ) → kind' (s / 7) ≡ kind (s / 7) → slots' (s / 7) (s % 7) ≡ slots (s / 7) (s % 7) → copies kind' n (s / 7) ≡ copies kind n (s / 7) → counted kind' slots' n s ≡ counted kind slots n s
unfolding counted
counted-alike kind kind' slots slots' n s k x z = rw (k, x, z) refl

reads-copies : (kind kind' : ℕ → Kind) (slots slots' : ℕ → ℕ → Slot) (n e b : ℕ) → BlockReads kind kind' slots slots' n e → is_copy_of b (kind' e) ≡ is_copy_of b (kind e)
reads-copies kind kind' slots slots' n e b (alike k each) = ap (λ q. is_copy_of b q) k
reads-copies kind kind' slots slots' n e b (resting was is f g) = is b ∙ sym (was b)

module _ (kind kind' : ℕ → Kind) (slots slots' : ℕ → ℕ → Slot) (n : ℕ) (each : (e : ℕ) → e < n → BlockReads kind kind' slots slots' n e) where
  abbrev f : ℕ → Slot
  f = counted kind slots n

  abbrev f' : ℕ → Slot
  f' = counted kind' slots' n

  slot-fades : (s : ℕ) → kind' (s / 7) ≡ kind (s / 7) → SlotReads (slots (s / 7) (s % 7)) (slots' (s / 7) (s % 7)) f (7 * n) (7 * (s / 7) + s % 7) → Fades f f' (7 * n) s
  slot-fades s k (same_slot e) = stays (counted-alike kind kind' slots slots' n s k e (copies-same kind kind' n (s / 7) (λ d low. reads-copies kind kind' slots slots' n d (s / 7 + 4) (each d low))))
  slot-fades s k (gone q h) =
      let z : 7 * (s / 7) + s % 7 ≡ s = omega arith in
      goes (counted-nothing kind' slots' n s q) (subst (λ w. (g : ℕ) (k : Generation) (y : List ℕ) → LiveAt f (7 * n) w g k y → IsSpent f (7 * n) w g k y) z h)

  block-fades : (s : ℕ) → BlockReads kind kind' slots slots' n (s / 7) → Fades f f' (7 * n) s
  block-fades s (alike k slot) = slot-fades s k (slot (s % 7) (omega arith))
  block-fades s (resting was is q r) =
      let z : 7 * (s / 7) + s % 7 ≡ s = omega arith in
      goes (subst (λ w. HoldsNothing (f' w)) z (r (s % 7) (omega arith))) (λ g k x live. absurd (quiet-live (f s) g k x (subst (λ w. HoldsNothing (f w)) z (q (s % 7) (omega arith))) live.is))

  -- The sectors are the same, where each block reads so.
  pub blocks-stand : (count : ℕ) (sectors : ℕ → List ℕ) → SlotsRepresent f (7 * n) count sectors → SlotsRepresent f' (7 * n) count sectors
  blocks-stand count sectors h = fades-stand f f' (7 * n) (λ s low. block-fades s (each (s / 7) (omega (arith, low)))) count sectors h
