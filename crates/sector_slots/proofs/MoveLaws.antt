-- What the map of sectors becomes where live slots stay, or move.
use Rattle.std.proofs.Common.{◌≡◌, ◌≢◌, ℕ, ◌<◌, List, sym, ap, ◌∙◌, subst, inl, inr}
use Rattle.nor_layout.specs.declared.header.Generation.{Generation}
use Rattle.sector_slots.specs.Slots.{Slot, NoGeneration}
use Rattle.sector_slots.specs.Sectors.{LiveAt, SectorIs, absent, held, Single, SlotsRepresent}
use Rattle.sector_slots.proofs.SectorLaws.{sector-fewer, sound-fewer}
use Rattle.sector_slots.specs.Copying.{HoldsNothing, SameLive, MovesSlots}
use Rattle.sector_slots.proofs.CopyLaws.{quiet-live}

pub same-back : (f f' : ℕ → Slot) (n : ℕ) → SameLive f f' n → (s g : ℕ) (k : Generation) (x : List ℕ) → LiveAt f' n s g k x → LiveAt f n s g k x
same-back f f' n same s g k x l = elim (same s l.number) [ inl e ↦ record { number = l.number; is = sym e ∙ l.is } | inr q ↦ absurd (quiet-live (f' s) g k x q.1 l.is) ]

pub same-on : (f f' : ℕ → Slot) (n : ℕ) → SameLive f f' n → (s g : ℕ) (k : Generation) (x : List ℕ) → LiveAt f n s g k x → LiveAt f' n s g k x
same-on f f' n same s g k x l = elim (same s l.number) [ inl e ↦ record { number = l.number; is = e ∙ l.is } | inr q ↦ absurd (quiet-live (f s) g k x q.0 l.is) ]

pub same-whole : (f f' : ℕ → Slot) (n : ℕ) → SameLive f f' n → ((s : ℕ) → s < n → f s ≢ NoGeneration) → (s : ℕ) → s < n → f' s ≢ NoGeneration
same-whole f f' n same whole s low e = elim (same s low) [ inl q ↦ whole s low (sym q ∙ e) | inr q ↦ subst (λ a. HoldsNothing a) e q.1 ]

-- the same live slots: the same sectors, whatever they are
pub live-stands : (f f' : ℕ → Slot) (n count : ℕ) (sectors : ℕ → List ℕ) → SameLive f f' n → SlotsRepresent f n count sectors → SlotsRepresent f' n count sectors
live-stands f f' n count sectors same s = record {
  sound = sound-fewer f f' n count (same-back f f' n same) (same-whole f f' n same s.sound.whole) s.sound;
  maps = record { each = λ g h. sector-fewer f f' n g (sectors g) (λ w k x l. same-back f f' n same w g k x l) (λ w k x l. same-on f f' n same w g k x l) (s.maps.each g h) };
}

pub live-single : (f f' : ℕ → Slot) (n : ℕ) → SameLive f f' n → Single f n → Single f' n
live-single f f' n same single = record { one = λ s t g j k x y a b. single.one s t g j k x y (same-back f f' n same s g j x a) (same-back f f' n same t g k y b) }

-- live slots that move: where no sector has two, the sectors are the same
pub moves-single : (f f' : ℕ → Slot) (n : ℕ) (to from : ℕ → ℕ) → MovesSlots f f' n to from → Single f n → Single f' n
moves-single f f' n to from m single = record {
  one = λ s t g j k x y a b.
      let p = m.back s g j x a in
      let q = m.back t g k y b in
      let e : from s ≡ from t = single.one (from s) (from t) g p.0 q.0 x y p.1 q.1 in
      sym (m.round s g j x a) ∙ (ap to e ∙ m.round t g k y b);
}

moves-sector : (f f' : ℕ → Slot) (n g : ℕ) (x : List ℕ) (to from : ℕ → ℕ) → MovesSlots f f' n to from → Single f n → SectorIs f n g x → SectorIs f' n g x
moves-sector f f' n g x to from m single (absent none z) = absent (λ s k y l. let p = m.back s g k y l in none (from s) p.0 y p.1) z
moves-sector f f' n g x to from m single (held s k l newest) =
    let p = m.on s g k x l in
    let one = moves-single f f' n to from m single in
    held (to s) p.0 p.1 (λ t j y a other. absurd (other (one.one t (to s) g j p.0 y x a p.1)))

pub moves-stands : (f f' : ℕ → Slot) (n count : ℕ) (sectors : ℕ → List ℕ) (to from : ℕ → ℕ) → MovesSlots f f' n to from → Single f n → SlotsRepresent f n count sectors → SlotsRepresent f' n count sectors
moves-stands f f' n count sectors to from m single s =
    let one = moves-single f f' n to from m single in
    record {
      sound = record {
        sector = λ a g k x l. let p = m.back a g k x l in s.sound.sector (from a) g p.0 x p.1;
        neighbours = λ a b g j k x y l r other. absurd (other (one.one a b g j k x y l r));
        two = λ a b c g i j k x y z l r o. inl (one.one a b g i j x y l r);
        whole = m.whole;
      };
      maps = record { each = λ g h. moves-sector f f' n g (sectors g) to from m single (s.maps.each g h) };
    }
