-- A mixed chip makes room: the older of two blocks of a group is retired, and a dead one erased.
use Rattle.std.proofs.Common.{◌≡◌, ◌≢◌, ℕ, ◌+◌, ◌*◌, ◌<◌, ◌⊎◌, List, refl, sym, ap, ◌∙◌, subst, arith, inl, inr}
use Rattle.std.specs.Prelude.{◌/◌, ◌%◌}
use Rattle.std.proofs.lemmas.Bool.{cases_eq}
use Rattle.nor_layout.specs.declared.header.Generation.{Generation}
use Rattle.nor_layout.specs.Headers.{next_generation}
use Rattle.nor_layout.specs.declared.header.Tag.{Tag}
use Rattle.nor_layout.specs.declared.kind.Kind.{Kind}
use Rattle.nor_layout.specs.declared.kind.Kind.TheVariants as kinds
use Rattle.sector_slots.specs.Slots.{Slot, Live, NoGeneration, Dead, group_tag, is_copy_of, content_bytes, counted, data_block, kind_at, raw_slot, IsSpare}
use Rattle.sector_slots.specs.Blocks.{IsAtRest, AreAtRest, IsSettledBlocks}
use Rattle.sector_slots.specs.Sectors.{LiveAt, SectorIs, absent, held, Single, SlotsRepresent, generation_in}
use Rattle.sector_slots.specs.Copying.{HoldsNothing, SameLive, RetiresGroup, ErasesGroup}
use Rattle.sector_slots.proofs.SectorLaws.{never-round, sound-fewer, dead-without, dead-whole, number_in}
use Rattle.sector_slots.proofs.CopyLaws.{counted-quiet, counted-other, rest-counted}
use Rattle.sector_slots.proofs.BlockLaws.{rest-of, plain-rest}
use Rattle.sector_slots.proofs.GroupLaws.{group-slot, dead-slot}

pub spare-quiet : (c n : ℕ) (kind : ℕ → Kind) (slots : ℕ → ℕ → Slot) → IsSpare kind slots c → (s : ℕ) → s < 7 * n → s / 7 ≡ c → HoldsNothing (counted kind slots n s)
spare-quiet c n kind slots spare s low e = counted-quiet kind slots n s (ap (λ a. slots a (s % 7)) e ∙ spare.free (s % 7) (omega arith))

-- what the places of blocks with groups are
pub record SeesGroups (kind : ℕ → Kind) (slots : ℕ → ℕ → Slot) : Type 0 where
  pub live : (c i : ℕ) (tag : Tag) → kind c ≡ kinds.Group tag → (x : List ℕ) × (slots c i ≡ Live (group_tag tag i) x)
  pub dead : (c i : ℕ) → kind c ≡ kinds.DeadGroup → slots c i ≡ Dead

pub memory-sees : (m : List ℕ) → SeesGroups (kind_at m) (raw_slot m)
memory-sees m = record { live = λ c i tag e. (content_bytes (data_block m c) i, group-slot (data_block m c) i tag e); dead = λ c i e. dead-slot (data_block m c) i e }

-- Slots that are as they were, or are dead now and had a newer one of their sector: no sector changes.
abbrev pub RetiredEach : (ℕ → Slot) → (ℕ → Slot) → ℕ → Type 0
RetiredEach f f' n = (s : ℕ) → s < n → (f' s ≡ f s)
    ⊎ ((f' s ≡ Dead) × ((g : ℕ) (k : Generation) (x : List ℕ) → LiveAt f n s g k x → (t : ℕ) × (y : List ℕ) × LiveAt f n t g (next_generation k) y × (t ≢ s)))

pub retired-back : (f f' : ℕ → Slot) (n : ℕ) → RetiredEach f f' n → (s g : ℕ) (k : Generation) (x : List ℕ) → LiveAt f' n s g k x → LiveAt f n s g k x
retired-back f f' n each s g k x l = elim (each s l.number) [ inl e ↦ record { number = l.number; is = sym e ∙ l.is } | inr p ↦ absurd (dead-without f' s g p.0 k x l.is) ]

retired-whole : (f f' : ℕ → Slot) (n : ℕ) → RetiredEach f f' n → ((s : ℕ) → s < n → f s ≢ NoGeneration) → (s : ℕ) → s < n → f' s ≢ NoGeneration
retired-whole f f' n each whole s low e = elim (each s low) [ inl q ↦ whole s low (sym q ∙ e) | inr p ↦ dead-whole (f' s) p.0 e ]

retired-sector : (f f' : ℕ → Slot) (n g : ℕ) (z : List ℕ) → RetiredEach f f' n → SectorIs f n g z → SectorIs f' n g z
retired-sector f f' n g z each (absent none e) = absent (λ s k x l. none s k x (retired-back f f' n each s g k x l)) e
retired-sector f f' n g z each (held v i lv newest) = elim (each v lv.number) [
  | inl e ↦ held v i (record { number = lv.number; is = e ∙ lv.is }) (λ t j y l other. newest t j y (retired-back f f' n each t g j y l) other)
  | inr p ↦
      let q = p.1 g i z lv in
      absurd (never-round i (next_generation i) (newest q.0 (next_generation i) q.1 q.2 q.3) refl)
]

pub retired-stands : (f f' : ℕ → Slot) (n count : ℕ) (sectors : ℕ → List ℕ) → RetiredEach f f' n → SlotsRepresent f n count sectors → SlotsRepresent f' n count sectors
retired-stands f f' n count sectors each s = record {
  sound = sound-fewer f f' n count (retired-back f f' n each) (retired-whole f f' n each s.sound.whole) s.sound;
  maps = record { each = λ g h. retired-sector f f' n g (sectors g) each (s.maps.each g h) };
}

pub single-fewer : (f f' : ℕ → Slot) (n : ℕ) → ((s g : ℕ) (k : Generation) (x : List ℕ) → LiveAt f' n s g k x → LiveAt f n s g k x) → Single f n → Single f' n
single-fewer f f' n sub single = record { one = λ s t g j k x y a b. single.one s t g j k x y (sub s g j x a) (sub t g k y b) }

-- the older block of a group
pub retire_group-rest : (c d n : ℕ) (kind kind' : ℕ → Kind) (slots slots' : ℕ → ℕ → Slot) → RetiresGroup c d n kind kind' slots slots' → AreAtRest kind' n
retire_group-rest c d n kind kind' slots slots' h b low = elim (cases_eq b c) as (λ _. IsAtRest (kind' b)) [
  | inl e ↦ subst (λ k. IsAtRest k) (sym (ap kind' e ∙ h.now)) tt
  | inr ne ↦ rest-of (kind b) (kind' b) (h.only.same_kind b low ne) (h.rest b low)
]

newer-live : (c d n w g : ℕ) (k : Generation) (x : List ℕ) (kind kind' : ℕ → Kind) (slots slots' : ℕ → ℕ → Slot) → SeesGroups kind slots → RetiresGroup c d n kind kind' slots slots' → w / 7 ≡ c → LiveAt (counted kind slots n) (7 * n) w g k x
    → (t : ℕ) × (y : List ℕ) × LiveAt (counted kind slots n) (7 * n) t g (next_generation k) y × (t ≢ w)
newer-live c d n w g k x kind kind' slots slots' sees h e l =
    let number : w < 7 * n = l.number in
    let within : d < n = h.newer in
    let i = w % 7 in
    let v = 7 * d + i in
    let block : v / 7 ≡ d = omega arith in
    let place : v % 7 ≡ i = omega arith in
    let low : v < 7 * n = omega (arith, within) in
    let tag : Tag = record { number = h.group; generation = h.generation } in
    let by : Tag = record { number = h.group; generation = next_generation h.generation } in
    let old = sees.live c i tag h.was in
    let new = sees.live d i by h.by in
    let here : Live (group_tag tag i) old.0 ≡ Live (record { number = g; generation = k }) x =
    sym old.1 ∙ (ap (λ a. slots a i) (sym e) ∙ (sym (rest-counted kind slots n w h.rest number) ∙ l.is)) in
    let same_number : 7 * h.group + i ≡ g = ap number_in here in
    let same_generation : h.generation ≡ k = ap generation_in here in
    let there : counted kind slots n v ≡ Live (group_tag by i) new.0 = rest-counted kind slots n v h.rest low ∙ (ap (λ a. slots a (v % 7)) block ∙ (ap (λ a. slots d a) place ∙ new.1)) in (
      v,
      new.0,
      record {
        number = low;
        is = there ∙ (ap (λ a. Live (record { number = a; generation = next_generation h.generation }) new.0) same_number ∙ ap (λ a. Live (record { number = g; generation = next_generation a }) new.0) same_generation);
      },
      λ q. h.other (sym e ∙ (ap (λ a. a / 7) (sym q) ∙ block)),
    )

pub retire_group-each : (c d n : ℕ) (kind kind' : ℕ → Kind) (slots slots' : ℕ → ℕ → Slot) → SeesGroups kind slots → SeesGroups kind' slots' → RetiresGroup c d n kind kind' slots slots' → RetiredEach (counted kind slots n) (counted kind' slots' n) (7 * n)
retire_group-each c d n kind kind' slots slots' sees sees' h w low =
    let after = rest-counted kind' slots' n w (retire_group-rest c d n kind kind' slots slots' h) low in
    elim (cases_eq (w / 7) c) [
      | inl e ↦ inr (after ∙ (ap (λ a. slots' a (w % 7)) e ∙ sees'.dead c (w % 7) h.now), λ g k x l. newer-live c d n w g k x kind kind' slots slots' sees h e l)
      | inr ne ↦ inl (after ∙ (h.only.same_slots (w / 7) (w % 7) (omega (arith, low)) ne ∙ sym (rest-counted kind slots n w h.rest low)))
    ]

pub retire_group-stands : (c d n count : ℕ) (kind kind' : ℕ → Kind) (slots slots' : ℕ → ℕ → Slot) (sectors : ℕ → List ℕ) → SeesGroups kind slots → SeesGroups kind' slots' → RetiresGroup c d n kind kind' slots slots'
    → SlotsRepresent (counted kind slots n) (7 * n) count sectors → SlotsRepresent (counted kind' slots' n) (7 * n) count sectors
retire_group-stands c d n count kind kind' slots slots' sectors sees sees' h s = retired-stands (counted kind slots n) (counted kind' slots' n) (7 * n) count sectors (retire_group-each c d n kind kind' slots slots' sees sees' h) s

abbrev IsPlainKind : Kind → Type 0
IsPlainKind kinds.Plain = Unit {0}
IsPlainKind kinds.Void = ⊥
IsPlainKind (kinds.Committed b) = ⊥
IsPlainKind kinds.Settled = ⊥
IsPlainKind (kinds.Group tag) = ⊥
IsPlainKind kinds.DeadGroup = ⊥
IsPlainKind kinds.SpoiltGroup = ⊥
IsPlainKind kinds.Unknown = ⊥

group-plain : (k : Kind) (tag : Tag) → k ≡ kinds.Group tag → k ≢ kinds.Plain
group-plain k tag a b = subst (λ q. IsPlainKind q) (sym b ∙ a) tt

-- a wholly free block stays one
pub retire_group-settled : (c d n : ℕ) (kind kind' : ℕ → Kind) (slots slots' : ℕ → ℕ → Slot) → RetiresGroup c d n kind kind' slots slots' → IsSettledBlocks kind slots n → IsSettledBlocks kind' slots' n
retire_group-settled c d n kind kind' slots slots' h s =
    let apart : s.reserve ≢ c = λ e. group-plain (kind c) (record { number = h.group; generation = h.generation }) h.was (ap kind (sym e) ∙ s.spare.plain) in
    record {
      rest = retire_group-rest c d n kind kind' slots slots' h;
      reserve = s.reserve;
      number = s.number;
      spare = record { plain = h.only.same_kind s.reserve s.number apart ∙ s.spare.plain; free = λ i low. h.only.same_slots s.reserve i s.number apart ∙ s.spare.free i low };
    }

-- the erase of a dead one
pub erase_group-live : (c n : ℕ) (kind kind' : ℕ → Kind) (slots slots' : ℕ → ℕ → Slot) → SeesGroups kind slots → ErasesGroup c n kind kind' slots slots' → SameLive (counted kind slots n) (counted kind' slots' n) (7 * n)
erase_group-live c n kind kind' slots slots' sees h w low = elim (cases_eq (w / 7) c) [
  | inl e ↦
      let was : counted kind slots n w ≡ Dead = rest-counted kind slots n w h.rest low ∙ (ap (λ a. slots a (w % 7)) e ∙ sees.dead c (w % 7) h.was) in
      inr (subst (λ s. HoldsNothing s) (sym was) tt, spare-quiet c n kind' slots' h.now w low e)
  | inr ne ↦ inl (counted-other kind kind' slots slots' n c w h.only (omega (arith, low)) ne (ap (λ k. is_copy_of (w / 7 + 4) k) h.now.plain ∙ sym (ap (λ k. is_copy_of (w / 7 + 4) k) h.was)))
]

pub erase_group-settled : (c n : ℕ) (kind kind' : ℕ → Kind) (slots slots' : ℕ → ℕ → Slot) → ErasesGroup c n kind kind' slots slots' → IsSettledBlocks kind' slots' n
erase_group-settled c n kind kind' slots slots' h = record {
  rest = λ d low. elim (cases_eq d c) as (λ _. IsAtRest (kind' d)) [
    | inl e ↦ plain-rest (kind' d) (ap kind' e ∙ h.now.plain)
    | inr ne ↦ rest-of (kind d) (kind' d) (h.only.same_kind d low ne) (h.rest d low)
  ];
  reserve = c;
  number = h.number;
  spare = h.now;
}
