-- A sector whose only slot is retired is zeros again, and its next content begins with the first generation.
use Rattle.std.proofs.Common.{◌≡◌, ℕ, List, refl, sym, ap, ◌∙◌, subst, inl, inr}
use Rattle.std.proofs.lemmas.Bool.{cases_eq, cond-true, cond-false, eq-eqb, ne_eqb}
use Rattle.nor_layout.specs.declared.header.Generation.{Generation}
use Rattle.nor_layout.specs.declared.header.Generation.TheVariants as generations
use Rattle.sector_slots.specs.Slots.{Slot, Dead}
use Rattle.sector_slots.specs.Sectors.{zeros, LiveAt, IsAbsent, SectorIs, absent, Single, SlotsRepresent, NextGeneration, begun, with_sector, OthersKept}
use Rattle.sector_slots.proofs.SectorLaws.{moved-back, sector-kept, dead-without, other-without, sound-fewer, sub-quiet, whole-kept, dead-whole}

pub cleared-absent : (f f' : ℕ → Slot) (n w g : ℕ) (k : Generation) (y : List ℕ) → Single f n → LiveAt f n w g k y → OthersKept n w f f' → f' w ≡ Dead → IsAbsent f' n g
cleared-absent f f' n w g k y single l only dead = λ s j x r. elim (cases_eq s w) [
  | inl e ↦ dead-without f' w g dead j x (ap f' (sym e) ∙ r.is)
  | inr ne ↦ ne (single.one s w g j k x y (moved-back f f' n w s g j x only ne r) l)
]

pub clear-stands : (f f' : ℕ → Slot) (n w g count : ℕ) (k : Generation) (y : List ℕ) (sectors : ℕ → List ℕ) → Single f n → LiveAt f n w g k y → OthersKept n w f f' → f' w ≡ Dead → SlotsRepresent f n count sectors
    → SlotsRepresent f' n count (with_sector sectors g zeros)
clear-stands f f' n w g count k y sectors single l only dead s = record {
  sound = sound-fewer f f' n count (sub-quiet f f' n w only (λ h. dead-without f' w h dead)) (whole-kept f f' n w only (dead-whole (f' w) dead) s.sound.whole) s.sound;
  maps = record {
    each = λ h r. elim (cases_eq h g) [
      | inl same ↦ subst (λ z. SectorIs f' n h z) (sym (cond-true _ _ _ (eq-eqb _ _ same))) (subst (λ z. SectorIs f' n z zeros) (sym same) (absent (cleared-absent f f' n w g k y single l only dead) refl))
      | inr other ↦ subst (λ z. SectorIs f' n h z) (sym (cond-false _ _ _ (ne_eqb _ _ other)))
          (sector-kept f f' n w h (sectors h) only (other-without f w h g k y l.is other) (dead-without f' w h dead) (s.maps.each h r))
    ];
  };
}

pub cleared-generation : (f f' : ℕ → Slot) (n w g : ℕ) (k : Generation) (y : List ℕ) → Single f n → LiveAt f n w g k y → OthersKept n w f f' → f' w ≡ Dead → NextGeneration f' n g generations.Zero
cleared-generation f f' n w g k y single l only dead = begun (cleared-absent f f' n w g k y single l only dead) refl
