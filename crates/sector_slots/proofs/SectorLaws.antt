-- The sectors of slots of which one changes.
use Rattle.std.proofs.Common.{◌≡◌, ◌≢◌, ℕ, ◌<◌, ◌⊎◌, List, sym, ap, ◌∙◌, subst, arith, inl, inr}
use Rattle.std.proofs.lemmas.Bool.{cases_eq, cond-true, cond-false, eq-eqb, ne_eqb}
use Rattle.nor_layout.specs.declared.header.Generation.{Generation}
use Rattle.nor_layout.specs.declared.header.Generation.TheVariants.{Zero, One, Two, Three}
use Rattle.nor_layout.specs.Headers.{next_generation, generation_byte}
use Rattle.sector_slots.specs.Slots.{Slot, Free, Live, NoGeneration, Dead, Outside}
use Rattle.sector_slots.specs.Sectors.{LiveAt, SectorIs, absent, held, Maps, SoundSlots, Single, NextGeneration, begun, after, SlotsRepresent, with_sector, OthersKept, generation_in}

-- the parts of a slot, to tell slots apart
abbrev pub number_in : Slot → ℕ
number_in Free = 0
number_in (Live tag x) = tag.number
number_in NoGeneration = 0
number_in Dead = 0
number_in Outside = 0

abbrev pub kind_in : Slot → ℕ
kind_in Free = 0
kind_in (Live tag x) = 1
kind_in NoGeneration = 2
kind_in Dead = 3
kind_in Outside = 4

-- no generation comes two after itself
pub never_twice : (k : Generation) → k ≢ next_generation (next_generation k)
never_twice Zero h = let e : 252 ≡ 254 = ap generation_byte h in omega (arith, e)
never_twice One h = let e : 253 ≡ 255 = ap generation_byte h in omega (arith, e)
never_twice Two h = let e : 254 ≡ 252 = ap generation_byte h in omega (arith, e)
never_twice Three h = let e : 255 ≡ 253 = ap generation_byte h in omega (arith, e)

pub never-round : (j k : Generation) → j ≡ next_generation k → k ≡ next_generation j → ⊥
never-round j k a b = never_twice j (a ∙ ap next_generation b)

-- every live slot of g was one, and each that was one is one still
pub sector-fewer : (f f' : ℕ → Slot) (n g : ℕ) (x : List ℕ)
    → ((s : ℕ) (k : Generation) (y : List ℕ) → LiveAt f' n s g k y → LiveAt f n s g k y)
    → ((s : ℕ) (k : Generation) (y : List ℕ) → LiveAt f n s g k y → LiveAt f' n s g k y)
    → SectorIs f n g x → SectorIs f' n g x
sector-fewer f f' n g x sub keeps (absent none z) = absent (λ s k y l. none s k y (sub s k y l)) z
sector-fewer f f' n g x sub keeps (held s k l newest) = held s k (keeps s k x l) (λ t j y m other. newest t j y (sub t j y m) other)

-- a live slot other than the one that changed
pub moved : (f f' : ℕ → Slot) (n w s g : ℕ) (k : Generation) (x : List ℕ) → OthersKept n w f f' → s ≢ w → LiveAt f n s g k x → LiveAt f' n s g k x
moved f f' n w s g k x only other l = record { number = l.number; is = only.each s l.number other ∙ l.is }

pub moved-back : (f f' : ℕ → Slot) (n w s g : ℕ) (k : Generation) (x : List ℕ) → OthersKept n w f f' → s ≢ w → LiveAt f' n s g k x → LiveAt f n s g k x
moved-back f f' n w s g k x only other l = record { number = l.number; is = sym (only.each s l.number other) ∙ l.is }

-- slot w isn't live with g
abbrev pub Without : (ℕ → Slot) → ℕ → ℕ → Type 0
Without f w g = (k : Generation) (x : List ℕ) → f w ≢ Live (record { number = g; generation = k }) x

-- a slot that is live with g neither before nor after leaves the sector
pub sector-kept : (f f' : ℕ → Slot) (n w g : ℕ) (x : List ℕ) → OthersKept n w f f' → Without f w g → Without f' w g → SectorIs f n g x → SectorIs f' n g x
sector-kept f f' n w g x only out out' = sector-fewer f f' n g x
    (λ s k y l. elim (cases_eq s w) [ inl same ↦ absurd (out' k y (ap f' (sym same) ∙ l.is)) | inr other ↦ moved-back f f' n w s g k y only other l ])
    (λ s k y l. elim (cases_eq s w) [ inl same ↦ absurd (out k y (ap f (sym same) ∙ l.is)) | inr other ↦ moved f f' n w s g k y only other l ])

pub free-without : (f : ℕ → Slot) (w g : ℕ) → f w ≡ Free → Without f w g
free-without f w g e k x l = let h : 0 ≡ 1 = ap kind_in (sym e ∙ l) in absurd (omega (arith, h))

pub dead-without : (f : ℕ → Slot) (w g : ℕ) → f w ≡ Dead → Without f w g
dead-without f w g e k x l = let h : 3 ≡ 1 = ap kind_in (sym e ∙ l) in absurd (omega (arith, h))

pub other-without : (f : ℕ → Slot) (w g h : ℕ) (j : Generation) (y : List ℕ) → f w ≡ Live (record { number = h; generation = j }) y → g ≢ h → Without f w g
other-without f w g h j y e other k x l = other (ap number_in (sym l ∙ e))

-- what becomes of NoGeneration: nothing, where slot w is none
pub whole-kept : (f f' : ℕ → Slot) (n w : ℕ) → OthersKept n w f f' → f' w ≢ NoGeneration → ((s : ℕ) → s < n → f s ≢ NoGeneration) → (s : ℕ) → s < n → f' s ≢ NoGeneration
whole-kept f f' n w only out h s low e = elim (cases_eq s w) [ inl same ↦ out (ap f' (sym same) ∙ e) | inr other ↦ h s low (sym (only.each s low other) ∙ e) ]

free-whole : (s : Slot) → s ≡ Free → s ≢ NoGeneration
free-whole s a b = let h : 0 ≡ 2 = ap kind_in (sym a ∙ b) in omega (arith, h)

pub dead-whole : (s : Slot) → s ≡ Dead → s ≢ NoGeneration
dead-whole s a b = let h : 3 ≡ 2 = ap kind_in (sym a ∙ b) in omega (arith, h)

live-whole : (s : Slot) (g : ℕ) (k : Generation) (x : List ℕ) → s ≡ Live (record { number = g; generation = k }) x → s ≢ NoGeneration
live-whole s g k x a b = let h : 1 ≡ 2 = ap kind_in (sym a ∙ b) in omega (arith, h)

-- slot w goes from not live to not live: nothing has changed
pub maps-kept : (f f' : ℕ → Slot) (n w count : ℕ) (sectors : ℕ → List ℕ) → OthersKept n w f f' → ((g : ℕ) → Without f w g) → ((g : ℕ) → Without f' w g) → Maps f n count sectors → Maps f' n count sectors
maps-kept f f' n w count sectors only out out' m = record { each = λ g h. sector-kept f f' n w g (sectors g) only (out g) (out' g) (m.each g h) }

pub next-of : (f : ℕ → Slot) (n g : ℕ) (k : Generation) → Single f n → NextGeneration f n g k → (t : ℕ) (j : Generation) (y : List ℕ) → LiveAt f n t g j y → k ≡ next_generation j
next-of f n g k single (begun none z) t j y l = absurd (none t j y l)
next-of f n g k single (after s i z p e) t j y l = e ∙ ap next_generation (ap generation_in (sym p.is ∙ (ap f (single.one s t g i j z y p l) ∙ l.is)))

-- slot w becomes live with the new content
pub maps-added : (f f' : ℕ → Slot) (n w g : ℕ) (k : Generation) (count : ℕ) (x : List ℕ) (sectors : ℕ → List ℕ) → w < n → OthersKept n w f f' → ((h : ℕ) → Without f w h)
    → f' w ≡ Live (record { number = g; generation = k }) x → Single f n → NextGeneration f n g k → Maps f n count sectors → Maps f' n count (with_sector sectors g x)
maps-added f f' n w g k count x sectors high only out new single generation m =
    let newest = next-of f n g k single generation in
    let there : SectorIs f' n g x = held w k (record { number = high; is = new }) (λ t j y l other. newest t j y (moved-back f f' n w t g j y only other l)) in
    record {
      each = λ h r. elim (cases_eq h g) [
        | inl same ↦ subst (λ z. SectorIs f' n h z) (sym (cond-true _ _ _ (eq-eqb _ _ same))) (subst (λ z. SectorIs f' n z x) (sym same) there)
        | inr other ↦ subst (λ z. SectorIs f' n h z) (sym (cond-false _ _ _ (ne_eqb _ _ other))) (sector-kept f f' n w h (sectors h) only (out h) (other-without f' w h g k x new other) (m.each h r))
      ];
    }

sector-retired : (f f' : ℕ → Slot) (n w b g : ℕ) (j k : Generation) (x y z : List ℕ) → OthersKept n b f f' → f b ≡ Live (record { number = g; generation = j }) y → f' b ≡ Dead
    → LiveAt f n w g k x → w ≢ b → k ≡ next_generation j → SectorIs f n g z → SectorIs f' n g z
sector-retired f f' n w b g j k x y z only old dead l other generation (absent none e) = absurd (none w k x l)
sector-retired f f' n w b g j k x y z only old dead l other generation (held v i lv newest) = elim (cases_eq v b) [
  | inl same ↦
      let ij : i ≡ j = ap generation_in (sym lv.is ∙ (ap f same ∙ old)) in
      let wv : w ≢ v = λ e. other (e ∙ same) in
      absurd (never-round j k (sym ij ∙ newest w k x l wv) generation)
  | inr differs ↦ held v i (moved f f' n b v g i z only differs lv) (λ t m u lc cv. elim (cases_eq t b) [
    | inl cb ↦ absurd (dead-without f' b g dead m u (ap f' (sym cb) ∙ lc.is))
    | inr cb ↦ newest t m u (moved-back f f' n b t g m u only cb lc) cv
  ])
]

-- the older of two live slots of g becomes dead
pub maps-retired : (f f' : ℕ → Slot) (n w b g : ℕ) (j k : Generation) (count : ℕ) (x y : List ℕ) (sectors : ℕ → List ℕ) → OthersKept n b f f' → f b ≡ Live (record { number = g; generation = j }) y → f' b ≡ Dead
    → LiveAt f n w g k x → w ≢ b → k ≡ next_generation j → Maps f n count sectors → Maps f' n count sectors
maps-retired f f' n w b g j k count x y sectors only old dead l other generation m = record {
  each = λ h r.
      elim (cases_eq h g) [
        | inr differs ↦ sector-kept f f' n b h (sectors h) only (other-without f b h g j y old differs) (dead-without f' b h dead) (m.each h r)
        | inl same ↦ subst (λ q. SectorIs f' n q (sectors h)) (sym same)
            (sector-retired f f' n w b g j k x y (sectors h) only old dead l other generation (subst (λ q. SectorIs f n q (sectors h)) same (m.each h r)))
      ];
}

-- live slots of f' are live in f: the corrupt cases don't come about
pub sound-fewer : (f f' : ℕ → Slot) (n count : ℕ) → ((s g : ℕ) (k : Generation) (x : List ℕ) → LiveAt f' n s g k x → LiveAt f n s g k x) → ((s : ℕ) → s < n → f' s ≢ NoGeneration)
    → SoundSlots f n count → SoundSlots f' n count
sound-fewer f f' n count sub whole s = record {
  sector = λ a g k x l. s.sector a g k x (sub a g k x l);
  neighbours = λ a b g j k x y l m other. s.neighbours a b g j k x y (sub a g j x l) (sub b g k y m) other;
  two = λ a b c g i j k x y z l m o. s.two a b c g i j k x y z (sub a g i x l) (sub b g j y m) (sub c g k z o);
  whole = whole;
}

-- slot w isn't live any more
pub sub-quiet : (f f' : ℕ → Slot) (n w : ℕ) → OthersKept n w f f' → ((g : ℕ) → Without f' w g) → (s g : ℕ) (k : Generation) (x : List ℕ) → LiveAt f' n s g k x → LiveAt f n s g k x
sub-quiet f f' n w only out s g k x l = elim (cases_eq s w) [ inl same ↦ absurd (out g k x (ap f' (sym same) ∙ l.is)) | inr other ↦ moved-back f f' n w s g k x only other l ]

-- what slot w, now live, is
pub at-new : (f' : ℕ → Slot) (n w s g : ℕ) (k : Generation) (h : ℕ) (j : Generation) (x y : List ℕ) → f' w ≡ Live (record { number = g; generation = k }) x → LiveAt f' n s h j y → s ≡ w → (h ≡ g) × (j ≡ k)
at-new f' n w s g k h j x y new l same =
    let e : Live (record { number = h; generation = j }) y ≡ Live (record { number = g; generation = k }) x = sym l.is ∙ (ap f' same ∙ new) in
    (ap number_in e, ap generation_in e)

pub sound-added : (f f' : ℕ → Slot) (n w g : ℕ) (k : Generation) (count : ℕ) (x : List ℕ) → g < count → OthersKept n w f f' → f' w ≡ Live (record { number = g; generation = k }) x
    → Single f n → NextGeneration f n g k → SoundSlots f n count → SoundSlots f' n count
sound-added f f' n w g k count x within only new single generation s =
    let old = λ (b h : ℕ) (j : Generation) (y : List ℕ) (other : b ≢ w) (l : LiveAt f' n b h j y). moved-back f f' n w b h j y only other l in
    record {
      sector = λ b h j y l. elim (cases_eq b w) [
        | inl same ↦ let p = at-new f' n w b g k h j x y new l same in subst (λ q. q < count) (sym p.0) within
        | inr other ↦ s.sector b h j y (old b h j y other l)
      ];
      neighbours = λ b c h i j y z l m differ. elim (cases_eq b w) [
        | inl same ↦
            let p = at-new f' n w b g k h i x y new l same in
            let cw : c ≢ w = λ e. differ (same ∙ sym e) in
            inl (p.1 ∙ next-of f n g k single generation c j z (subst (λ q. LiveAt f n c q j z) p.0 (old c h j z cw m)))
        | inr bw ↦ elim (cases_eq c w) [
          | inl same ↦
              let p = at-new f' n w c g k h j x z new m same in
              inr (p.1 ∙ next-of f n g k single generation b i y (subst (λ q. LiveAt f n b q i y) p.0 (old b h i y bw l)))
          | inr cw ↦ s.neighbours b c h i j y z (old b h i y bw l) (old c h j z cw m) differ
        ]
      ];
      two = λ a b c h i j l y z u la lb lc. elim (cases_eq a w) [
        | inl aw ↦ elim (cases_eq b w) [
          | inl bw ↦ inl (aw ∙ sym bw)
          | inr bw ↦ elim (cases_eq c w) [ inl cw ↦ inr (inr (aw ∙ sym cw)) | inr cw ↦ inr (inl (single.one b c h j l z u (old b h j z bw lb) (old c h l u cw lc))) ]
        ]
        | inr aw ↦ elim (cases_eq b w) [
          | inl bw ↦ elim (cases_eq c w) [ inl cw ↦ inr (inl (bw ∙ sym cw)) | inr cw ↦ inr (inr (single.one a c h i l y u (old a h i y aw la) (old c h l u cw lc))) ]
          | inr bw ↦ inl (single.one a b h i j y z (old a h i y aw la) (old b h j z bw lb))
        ]
      ];
      whole = whole-kept f f' n w only (live-whole (f' w) g k x new) s.whole;
    }

-- a put that left nothing
quiet-stands : (f f' : ℕ → Slot) (n w count : ℕ) (sectors : ℕ → List ℕ) → OthersKept n w f f' → ((g : ℕ) → Without f w g) → ((g : ℕ) → Without f' w g) → f' w ≢ NoGeneration
    → SlotsRepresent f n count sectors → SlotsRepresent f' n count sectors
quiet-stands f f' n w count sectors only out out' whole s = record {
  sound = sound-fewer f f' n count (sub-quiet f f' n w only out') (whole-kept f f' n w only whole s.sound.whole) s.sound;
  maps = maps-kept f f' n w count sectors only out out' s.maps;
}

-- a free slot that is free or dead afterwards
pub free-stands : (f f' : ℕ → Slot) (n w count : ℕ) (sectors : ℕ → List ℕ) → OthersKept n w f f' → f w ≡ Free → f' w ≡ Free → SlotsRepresent f n count sectors → SlotsRepresent f' n count sectors
free-stands f f' n w count sectors only free e = quiet-stands f f' n w count sectors only (λ h. free-without f w h free) (λ h. free-without f' w h e) (free-whole (f' w) e)

pub dead-stands : (f f' : ℕ → Slot) (n w count : ℕ) (sectors : ℕ → List ℕ) → OthersKept n w f f' → f w ≡ Free → f' w ≡ Dead → SlotsRepresent f n count sectors → SlotsRepresent f' n count sectors
dead-stands f f' n w count sectors only free e = quiet-stands f f' n w count sectors only (λ h. free-without f w h free) (λ h. dead-without f' w h e) (dead-whole (f' w) e)

-- a put that was done
pub put-done : (f f' : ℕ → Slot) (n w g : ℕ) (k : Generation) (count : ℕ) (x : List ℕ) (sectors : ℕ → List ℕ) → w < n → g < count → f w ≡ Free → OthersKept n w f f'
    → f' w ≡ Live (record { number = g; generation = k }) x → Single f n → NextGeneration f n g k → SlotsRepresent f n count sectors → SlotsRepresent f' n count (with_sector sectors g x)
put-done f f' n w g k count x sectors high within free only e single generation s =
    record { sound = sound-added f f' n w g k count x within only e single generation s.sound; maps = maps-added f f' n w g k count x sectors high only (λ h. free-without f w h free) e single generation s.maps }

-- the same slots
pub same-stands : (f f' : ℕ → Slot) (n count : ℕ) (sectors : ℕ → List ℕ) → ((s : ℕ) → s < n → f' s ≡ f s) → SlotsRepresent f n count sectors → SlotsRepresent f' n count sectors
same-stands f f' n count sectors same s =
    let back : (c h : ℕ) (i : Generation) (z : List ℕ) → LiveAt f' n c h i z → LiveAt f n c h i z = λ c h i z m. record { number = m.number; is = sym (same c m.number) ∙ m.is } in
    let on : (c h : ℕ) (i : Generation) (z : List ℕ) → LiveAt f n c h i z → LiveAt f' n c h i z = λ c h i z m. record { number = m.number; is = same c m.number ∙ m.is } in
    record {
      sound = sound-fewer f f' n count back (λ c low e. s.sound.whole c low (sym (same c low) ∙ e)) s.sound;
      maps = record { each = λ h r. sector-fewer f f' n h (sectors h) (λ c i z m. back c h i z m) (λ c i z m. on c h i z m) (s.maps.each h r) };
    }

-- a retirement of the older slot, whole or cut
pub retire-stands : (f f' : ℕ → Slot) (n w b g : ℕ) (j k : Generation) (count : ℕ) (x y : List ℕ) (sectors : ℕ → List ℕ) → OthersKept n b f f' → LiveAt f n b g j y → LiveAt f n w g k x → w ≢ b
    → k ≡ next_generation j → (f' b ≡ f b) ⊎ (f' b ≡ Dead) → SlotsRepresent f n count sectors → SlotsRepresent f' n count sectors
retire-stands f f' n w b g j k count x y sectors only old l other generation (inr e) s = record {
  sound = sound-fewer f f' n count (sub-quiet f f' n b only (λ h. dead-without f' b h e)) (whole-kept f f' n b only (dead-whole (f' b) e) s.sound.whole) s.sound;
  maps = maps-retired f f' n w b g j k count x y sectors only old.is e l other generation s.maps;
}
retire-stands f f' n w b g j k count x y sectors only old l other generation (inl e) s =
    same-stands f f' n count sectors (λ c high. elim (cases_eq c b) as (λ _. f' c ≡ f c) [ inl cb ↦ ap f' cb ∙ (e ∙ ap f (sym cb)) | inr cb ↦ only.each c high cb ]) s

-- dead slots that are made free, perhaps none
pub freed-back : (f f' : ℕ → Slot) (n : ℕ) → ((s : ℕ) → s < n → (f' s ≡ f s) ⊎ ((f s ≡ Dead) × (f' s ≡ Free))) → (s g : ℕ) (k : Generation) (x : List ℕ) → LiveAt f' n s g k x → LiveAt f n s g k x
freed-back f f' n each s g k x l = elim (each s l.number) [ inl same ↦ record { number = l.number; is = sym same ∙ l.is } | inr p ↦ absurd (free-without f' s g p.1 k x l.is) ]

pub freed-on : (f f' : ℕ → Slot) (n : ℕ) → ((s : ℕ) → s < n → (f' s ≡ f s) ⊎ ((f s ≡ Dead) × (f' s ≡ Free))) → (s g : ℕ) (k : Generation) (x : List ℕ) → LiveAt f n s g k x → LiveAt f' n s g k x
freed-on f f' n each s g k x l = elim (each s l.number) [ inl same ↦ record { number = l.number; is = same ∙ l.is } | inr p ↦ absurd (dead-without f s g p.0 k x l.is) ]

freed-whole : (f f' : ℕ → Slot) (n : ℕ) → ((s : ℕ) → s < n → (f' s ≡ f s) ⊎ ((f s ≡ Dead) × (f' s ≡ Free))) → ((s : ℕ) → s < n → f s ≢ NoGeneration) → (s : ℕ) → s < n → f' s ≢ NoGeneration
freed-whole f f' n each whole s low e = elim (each s low) [ inl same ↦ whole s low (sym same ∙ e) | inr p ↦ free-whole (f' s) p.1 e ]

pub freed-stands : (f f' : ℕ → Slot) (n count : ℕ) (sectors : ℕ → List ℕ) → ((s : ℕ) → s < n → (f' s ≡ f s) ⊎ ((f s ≡ Dead) × (f' s ≡ Free))) → SlotsRepresent f n count sectors → SlotsRepresent f' n count sectors
freed-stands f f' n count sectors each s = record {
  sound = sound-fewer f f' n count (freed-back f f' n each) (freed-whole f f' n each s.sound.whole) s.sound;
  maps = record { each = λ h r. sector-fewer f f' n h (sectors h) (λ c i z m. freed-back f f' n each c h i z m) (λ c i z m. freed-on f f' n each c h i z m) (s.maps.each h r) };
}
