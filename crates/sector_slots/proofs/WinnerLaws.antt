-- The computed content of a sector is the one that the relation says.
use Rattle.std.proofs.Common.{◌≡◌, ◌≢◌, ℕ, zero, suc, ◌<◌, true, false, List, refl, sym, ap, ◌∙◌, subst, arith, inl, inr}
use Rattle.std.proofs.lemmas.Bool.{cases_eq, eq-eqb, ne_eqb}
use Rattle.std.specs.Prelude.{◌==◌, if◌then◌else◌}
use Rattle.nor_layout.specs.declared.header.Generation.{Generation}
use Rattle.nor_layout.specs.declared.header.Generation.TheVariants.{Zero, One, Two, Three}
use Rattle.nor_layout.specs.Headers.{next_generation, generation_byte}
use Rattle.sector_slots.specs.Slots.{Slot, Free, Live, NoGeneration, Dead, Outside}
use Rattle.sector_slots.specs.Sectors.{zeros, LiveAt, IsAbsent, SectorIs, absent, held, SoundSlots, SlotsRepresent, is_of, generation_in, content_in, newer, winner, sector_content}
use Rattle.sector_slots.proofs.SectorLaws.{number_in, kind_in, never-round}

-- a generation is known by its byte
abbrev back : ℕ → Generation
back b = if b == 252 then Zero else if b == 253 then One else if b == 254 then Two else Three

back-is : (k : Generation) → back (generation_byte k) ≡ k
back-is Zero = refl
back-is One = refl
back-is Two = refl
back-is Three = refl

pub byte-one : (j k : Generation) → generation_byte j ≡ generation_byte k → j ≡ k
byte-one j k h = sym (back-is j) ∙ (ap back h ∙ back-is k)

pub data Winner (f : ℕ → Slot) (n g : ℕ) (s : Slot) : Type 0 where
  nobody : is_of g s ≡ false → content_in s ≡ zeros → IsAbsent f n g → Winner f n g s
  wins : (b : ℕ) (k : Generation) (x : List ℕ) → s ≡ Live (record { number = g; generation = k }) x → LiveAt f n b g k x
      → ((t : ℕ) (j : Generation) (y : List ℕ) → LiveAt f n t g j y → t ≢ b → k ≡ next_generation j) → Winner f n g s

more : (f : ℕ → Slot) (n b g : ℕ) (k : Generation) (x : List ℕ) → LiveAt f n b g k x → LiveAt f (suc n) b g k x
more f n b g k x l = record { number = omega (arith, l.number); is = l.is }

less : (f : ℕ → Slot) (n b g : ℕ) (k : Generation) (x : List ℕ) → b ≢ n → LiveAt f (suc n) b g k x → LiveAt f n b g k x
less f n b g k x other l = record { number = omega (arith, l.number, other); is = l.is }

-- the last slot isn't of g
keep : (f : ℕ → Slot) (n g : ℕ) (s t : Slot) → f n ≡ s → is_of g s ≡ false → ((k : Generation) (x : List ℕ) → s ≢ Live (record { number = g; generation = k }) x) → Winner f n g t → Winner f (suc n) g (newer g s t)
keep f n g s t e out none (nobody o z nil) = rw out (nobody o z (λ b k y l. elim (cases_eq b n) [ inl same ↦ absurd (none k y (sym e ∙ (ap f (sym same) ∙ l.is))) | inr other ↦ nil b k y (less f n b g k y other l) ]))
keep f n g s t e out none (wins b k x q l newest) = rw out (wins b k x q (more f n b g k x l) (λ c j y lc cb. elim (cases_eq c n) [ inl same ↦ absurd (none j y (sym e ∙ (ap f (sym same) ∙ lc.is))) | inr other ↦ newest c j y (less f n c g j y other lc) cb ]))

take-it : (f : ℕ → Slot) (n g : ℕ) (j : Generation) (count : ℕ) (y : List ℕ) (t : Slot) → f n ≡ Live (record { number = g; generation = j }) y → SoundSlots f (suc n) count → Winner f n g t
    → Winner f (suc n) g (newer g (Live (record { number = g; generation = j }) y) t)
take-it f n g j count y t e sound (nobody o z nil) =
    let here : LiveAt f (suc n) n g j y = record { number = omega arith; is = e } in
    let self : (g == g) ≡ true = eq-eqb g g refl in
    rw self (rw o (wins n j y refl here (λ c i u lc cb. absurd (nil c i u (less f n c g i u cb lc)))))
take-it f n g j count y t e sound (wins b k x q l newest) =
    let here : LiveAt f (suc n) n g j y = record { number = omega arith; is = e } in
    let self : (g == g) ≡ true = eq-eqb g g refl in
    let apart : n ≢ b = λ h. omega (arith, h, l.number) in
    rw q (rw self (elim (cases_eq (generation_byte j) (generation_byte (next_generation k))) [
      | inl bytes ↦
          let same = byte-one j (next_generation k) bytes in
          rw (eq-eqb (generation_byte j) (generation_byte (next_generation k)) bytes) (wins n j y refl here (λ c i u lc cb. elim (sound.two n b c g j k i y x u here (more f n b g k x l) lc) [
            | inl h ↦ absurd (apart h)
            | inr h ↦ elim h [ inl bc ↦ same ∙ ap next_generation (ap generation_in (sym l.is ∙ (ap f bc ∙ lc.is))) | inr mc ↦ absurd (cb (sym mc)) ]
          ]))
      | inr ne ↦ rw (ne_eqb (generation_byte j) (generation_byte (next_generation k)) ne) (wins b k x refl (more f n b g k x l) (λ c i u lc cb. elim (cases_eq c n) [
        | inl last ↦
            let ij : j ≡ i = ap generation_in (sym e ∙ (ap f (sym last) ∙ lc.is)) in
            elim (sound.neighbours n b g j k y x here (more f n b g k x l) apart) [ inl h ↦ absurd (ne (ap generation_byte h)) | inr h ↦ h ∙ ap next_generation ij ]
        | inr other ↦ newest c i u (less f n c g i u other lc) cb
      ]))
    ]))

shorter : (f : ℕ → Slot) (n count : ℕ) → SoundSlots f (suc n) count → SoundSlots f n count
shorter f n count s = record {
  sector = λ b g k x l. s.sector b g k x (more f n b g k x l);
  neighbours = λ b c g j k x y l o differ. s.neighbours b c g j k x y (more f n b g j x l) (more f n c g k y o) differ;
  two = λ a b c g i j k x y z l o r. s.two a b c g i j k x y z (more f n a g i x l) (more f n b g j y o) (more f n c g k z r);
  whole = λ b low. s.whole b (omega (arith, low));
}

step : (f : ℕ → Slot) (n g count : ℕ) (s t : Slot) → f n ≡ s → SoundSlots f (suc n) count → Winner f n g t → Winner f (suc n) g (newer g s t)
step f n g count Free t e sound w = keep f n g Free t e refl (λ k x q. (let h : 0 ≡ 1 = ap kind_in q in omega (arith, h))) w
step f n g count NoGeneration t e sound w = keep f n g NoGeneration t e refl (λ k x q. (let h : 2 ≡ 1 = ap kind_in q in omega (arith, h))) w
step f n g count Dead t e sound w = keep f n g Dead t e refl (λ k x q. (let h : 3 ≡ 1 = ap kind_in q in omega (arith, h))) w
step f n g count Outside t e sound w = keep f n g Outside t e refl (λ k x q. (let h : 4 ≡ 1 = ap kind_in q in omega (arith, h))) w
step f n g count (Live tag y) t e sound w = elim (cases_eq tag.number g) [
  | inl same ↦ subst (λ z. Winner f (suc n) g (newer g (Live (record { number = z; generation = tag.generation }) y) t)) (sym same)
      (take-it f n g tag.generation count y t (e ∙ ap (λ z. Live (record { number = z; generation = tag.generation }) y) same) sound w)
  | inr other ↦ keep f n g (Live tag y) t e (ne_eqb tag.number g other) (λ k x q. other (ap number_in q)) w
]

pub winner-is : (f : ℕ → Slot) (n g count : ℕ) → SoundSlots f n count → Winner f n g (winner f n g)
unfolding winner
winner-is f zero g count s = nobody refl refl (λ b k y l. omega (arith, l.number))
winner-is f (suc n) g count s = step f n g count (f n) (winner f n g) refl s (winner-is f n g count (shorter f n count s))

to-sector : (f : ℕ → Slot) (n g : ℕ) (s : Slot) → Winner f n g s → SectorIs f n g (content_in s)
to-sector f n g s (nobody o z nil) = absent nil z
to-sector f n g s (wins b k x q l newest) = held b k (subst (λ z. LiveAt f n b g k z) (sym (ap content_in q)) l) newest

-- what is computed is what the relation says
pub sector-content-is : (f : ℕ → Slot) (n g count : ℕ) → SoundSlots f n count → SectorIs f n g (sector_content f n g)
sector-content-is f n g count s = to-sector f n g (winner f n g) (winner-is f n g count s)

-- and there is one such content
pub sector-one : (f : ℕ → Slot) (n g : ℕ) (x y : List ℕ) → SectorIs f n g x → SectorIs f n g y → x ≡ y
sector-one f n g x y (absent none z) (absent none' z') = z ∙ sym z'
sector-one f n g x y (absent none z) (held b k l newest) = absurd (none b k y l)
sector-one f n g x y (held b k l newest) (absent none z) = absurd (none b k x l)
sector-one f n g x y (held b k l newest) (held c j m older) = elim (cases_eq b c) [
  | inl same ↦ ap content_in (sym l.is ∙ (ap f same ∙ m.is))
  | inr differ ↦ absurd (never-round k j (newest c j y m (λ h. differ (sym h))) (older b k x l differ))
]

-- so slots that represent sectors have these by computation
pub stands-computed : (f : ℕ → Slot) (n count : ℕ) (sectors : ℕ → List ℕ) (g : ℕ) → SlotsRepresent f n count sectors → g < count → sector_content f n g ≡ sectors g
stands-computed f n count sectors g s low = sector-one f n g (sector_content f n g) (sectors g) (sector-content-is f n g count s.sound) (s.maps.each g low)

-- and sound slots represent those that are computed
pub sound-stands : (f : ℕ → Slot) (n count : ℕ) → SoundSlots f n count → SlotsRepresent f n count (sector_content f n)
sound-stands f n count s = record { sound = s; maps = record { each = λ g low. sector-content-is f n g count s } }
