-- The table of a map while the slots are read one by one.
use Rattle.std.proofs.Common.{◌≡◌, ◌≢◌, ℕ, zero, suc, ◌+◌, ◌<◌, ◌⊎◌, Bool, true, false, List, length, refl, sym, ap, ◌∙◌, subst, arith, inl, inr}
use Rattle.std.specs.Prelude.{Some, None, slice_index_or}
use Rattle.std.proofs.lemmas.Bool.{cases_eq, cases_lt, eq-eqb, ne_eqb}
use Rattle.nor_layout.specs.declared.header.Generation.{Generation}
use Rattle.nor_layout.specs.declared.header.Tag.{Tag}
use Rattle.nor_layout.specs.declared.header.Header.{Header}
use Rattle.nor_layout.specs.declared.header.Header.TheVariants as headers
use Rattle.nor_layout.specs.Headers.{next_generation, generation_byte}
use Rattle.sector_slots.specs.Slots.{Slot, Free, Live, NoGeneration, Dead, Outside, slot_with}
use Rattle.sector_slots.specs.Sectors.{LiveAt, SoundSlots, generation_in, is_next}
use Rattle.sector_slots.proofs.SectorLaws.{number_in, kind_in, never-round}
use Rattle.sector_slots.proofs.WinnerLaws.{byte-one}
use Rattle.sector_map.specs.Table.{EntryHolds, IsTabled, noted, IsBlankTable, Entered, Enters, Heads}
use Rattle.sector_map.specs.declared.table.Held.{Held}
use Rattle.sector_map.specs.declared.table.LiveSlots.{LiveSlots}
use Rattle.sector_map.specs.declared.table.LiveSlots.TheVariants.{Absent, One, Two}

more : (f : ℕ → Slot) (n b g : ℕ) (k : Generation) (x : List ℕ) → LiveAt f n b g k x → LiveAt f (suc n) b g k x
more f n b g k x l = record { number = omega (arith, l.number); is = l.is }

less : (f : ℕ → Slot) (n b g : ℕ) (k : Generation) (x : List ℕ) → b ≢ n → LiveAt f (suc n) b g k x → LiveAt f n b g k x
less f n b g k x other l = record { number = omega (arith, l.number, other); is = l.is }

-- slot n isn't live with g
abbrev IsOther : (ℕ → Slot) → ℕ → ℕ → Type 0
IsOther f n g = (k : Generation) (x : List ℕ) → f n ≢ Live (record { number = g; generation = k }) x

back : (f : ℕ → Slot) (n b g : ℕ) (k : Generation) (x : List ℕ) → IsOther f n g → LiveAt f (suc n) b g k x → LiveAt f n b g k x
back f n b g k x out l = elim (cases_eq b n) [ inl same ↦ absurd (out k x (ap f (sym same) ∙ l.is)) | inr other ↦ less f n b g k x other l ]

-- it changes nothing of the sector
pub says-on : (e : LiveSlots) (f : ℕ → Slot) (n g : ℕ) → IsOther f n g → EntryHolds e f n g → EntryHolds e f (suc n) g
says-on Absent f n g out none = λ s k x l. none s k x (back f n s g k x out l)
says-on (One h) f n g out o = record {
  live = (o.live.0, more f n h.slot g h.generation o.live.0 o.live.1);
  only = λ s k x l. o.only s k x (back f n s g k x out l);
}
says-on (Two a b) f n g out o = record {
  newer_live = (o.newer_live.0, more f n a.slot g a.generation o.newer_live.0 o.newer_live.1);
  older_live = (o.older_live.0, more f n b.slot g b.generation o.older_live.0 o.older_live.1);
  next = o.next;
  only = λ s k x l. o.only s k x (back f n s g k x out l);
}

never-once : (k : Generation) → k ≢ next_generation k
never-once k e = never-round k k e e

abbrev IsOneOf : Bool → Type 0
IsOneOf t = (t ≡ true) ⊎ (t ≡ false)

bool-cases : (t : Bool) → IsOneOf t
bool-cases true = inl refl
bool-cases false = inr refl

some-one : (a b : LiveSlots) → (Some a ≡ Some b) → a ≡ b
some-one a b e = cc

none-some : (b : LiveSlots) → (None ≡ Some b) → ⊥
none-some b e = cc

is-next : (j k : Generation) → is_next j k ≡ true → j ≡ next_generation k
is-next j k e = elim (cases_eq (generation_byte j) (generation_byte (next_generation k))) [
  | inl same ↦ byte-one j (next_generation k) same
  | inr other ↦ (let h : false ≡ true = sym (ne_eqb _ _ other) ∙ e in cc)
]

-- one more slot of the sector
pub says-noted : (e e' : LiveSlots) (f : ℕ → Slot) (n g : ℕ) (k : Generation) (x : List ℕ) → f n ≡ Live (record { number = g; generation = k }) x → EntryHolds e f n g
    → noted e (record { slot = n; generation = k }) ≡ Some e' → EntryHolds e' f (suc n) g
says-noted Absent e' f n g k x here none e = subst (λ z. EntryHolds z f (suc n) g) (some-one (One (record { slot = n; generation = k })) e' e) (record {
  live = (x, record { number = omega arith; is = here });
  only = λ s j y l. elim (cases_eq s n) [ inl same ↦ same | inr other ↦ absurd (none s j y (less f n s g j y other l)) ];
})
says-noted (One h) e' f n g k x here o e =
    let new : Held = record { slot = n; generation = k } in
    let now : LiveAt f (suc n) n g k x = record { number = omega arith; is = here } in
    let was = more f n h.slot g h.generation o.live.0 o.live.1 in
    let either : (s : ℕ) (j : Generation) (y : List ℕ) → LiveAt f (suc n) s g j y → (s ≡ n) ⊎ (s ≡ h.slot) =
    λ s j y l. elim (cases_eq s n) as (λ _. (s ≡ n) ⊎ (s ≡ h.slot)) [ inl same ↦ inl same | inr other ↦ inr (o.only s j y (less f n s g j y other l)) ] in
    elim (bool-cases (is_next k h.generation)) [
      | inl fits ↦
          let q : Some (Two new h) ≡ Some e' = rw fits at e in
          subst (λ z. EntryHolds z f (suc n) g) (some-one (Two new h) e' q) (record { newer_live = (x, now); older_live = (o.live.0, was); next = is-next k h.generation fits; only = either })
      | inr misses ↦ elim (bool-cases (is_next h.generation k)) [
        | inl fits ↦
            let q : Some (Two h new) ≡ Some e' = rw (misses, fits) at e in
            subst (λ z. EntryHolds z f (suc n) g) (some-one (Two h new) e' q) (record {
              newer_live = (o.live.0, was);
              older_live = (x, now);
              next = is-next h.generation k fits;
              only = λ s j y l. elim (either s j y l) as (λ _. (s ≡ h.slot) ⊎ (s ≡ n)) [ inl a ↦ inr a | inr b ↦ inl b ];
            })
        | inr neither ↦ (let q : None ≡ Some e' = rw (misses, neither) at e in absurd (none-some e' q))
      ]
    ]
says-noted (Two a b) e' f n g k x here o e = absurd (none-some e' e)

next-is : (j k : Generation) → j ≡ next_generation k → is_next j k ≡ true
next-is j k e = eq-eqb (generation_byte j) (generation_byte (next_generation k)) (ap generation_byte e)

-- where it is refused the slots are corrupt
pub noted-none : (e : LiveSlots) (f : ℕ → Slot) (n total g count : ℕ) (k : Generation) (x : List ℕ) → n < total → f n ≡ Live (record { number = g; generation = k }) x → EntryHolds e f n g
    → noted e (record { slot = n; generation = k }) ≡ None → SoundSlots f total count → ⊥
noted-none Absent f n total g count k x low here none e sound = absurd (none-some (One (record { slot = n; generation = k })) (sym e))
noted-none (One h) f n total g count k x low here o e sound =
    let l = o.live.1 in
    let now : LiveAt f total n g k x = record { number = low; is = here } in
    let was : LiveAt f total h.slot g h.generation o.live.0 = record { number = omega (arith, l.number, low); is = l.is } in
    let apart : n ≢ h.slot = λ q. omega (arith, q, l.number) in
    elim (sound.neighbours n h.slot g k h.generation x o.live.0 now was apart) [
      | inl fits ↦ (let q : Some (Two (record { slot = n; generation = k }) h) ≡ None = rw (next-is k h.generation fits) at e in absurd (none-some _ (sym q)))
      | inr fits ↦ elim (bool-cases (is_next k h.generation)) [
        | inl both ↦ absurd (never-round k h.generation (is-next k h.generation both) fits)
        | inr misses ↦ (let q : Some (Two h (record { slot = n; generation = k })) ≡ None = rw (misses, next-is h.generation k fits) at e in absurd (none-some _ (sym q)))
      ]
    ]
noted-none (Two a b) f n total g count k x low here o e sound =
    let la = o.newer_live.1 in
    let lb = o.older_live.1 in
    elim (sound.two n a.slot b.slot g k a.generation b.generation x o.newer_live.0 o.older_live.0 (record { number = low; is = here })
    (record { number = omega (arith, la.number, low); is = la.is }) (record { number = omega (arith, lb.number, low); is = lb.is })) [
      | inl na ↦ omega (arith, na, la.number)
      | inr h ↦ elim h [
        | inl ab ↦
            let same : a.generation ≡ b.generation = ap generation_in (sym la.is ∙ (ap f ab ∙ lb.is)) in
            never-once b.generation (sym same ∙ o.next)
        | inr nb ↦ omega (arith, nb, lb.number)
      ]
    ]

-- Step by step: before any slot is read;
pub tabled-none : (table : List LiveSlots) (f : ℕ → Slot) → IsBlankTable table → IsTabled table f 0
tabled-none table f blank = record {
  each = λ g low. subst (λ e. EntryHolds e f 0 g) (sym (blank g low)) (λ s k x l. omega (arith, l.number));
  within = λ s g k x l. omega (arith, l.number);
  whole = λ s low. omega (arith, low);
}

-- after one that isn't live;
quiet-within : (table : List LiveSlots) (f : ℕ → Slot) (n : ℕ) → ((g : ℕ) → IsOther f n g) → f n ≢ NoGeneration → IsTabled table f n → IsTabled table f (suc n)
quiet-within table f n out whole t = record {
  each = λ g low. says-on (slice_index_or table g Absent) f n g (out g) (t.each g low);
  within = λ s g k x l. t.within s g k x (back f n s g k x (out g) l);
  whole = λ s low e. elim (cases_eq s n) [ inl same ↦ whole (ap f (sym same) ∙ e) | inr other ↦ t.whole s (omega (arith, low, other)) e ];
}

pub tabled-free : (table : List LiveSlots) (f : ℕ → Slot) (n : ℕ) → f n ≡ Free → IsTabled table f n → IsTabled table f (suc n)
tabled-free table f n e t = quiet-within table f n (λ g k x l. (let h : 0 ≡ 1 = ap kind_in (sym e ∙ l) in omega (arith, h)))
    (λ l. (let h : 0 ≡ 2 = ap kind_in (sym e ∙ l) in omega (arith, h))) t

pub tabled-dead : (table : List LiveSlots) (f : ℕ → Slot) (n : ℕ) → f n ≡ Dead → IsTabled table f n → IsTabled table f (suc n)
tabled-dead table f n e t = quiet-within table f n (λ g k x l. (let h : 3 ≡ 1 = ap kind_in (sym e ∙ l) in omega (arith, h)))
    (λ l. (let h : 3 ≡ 2 = ap kind_in (sym e ∙ l) in omega (arith, h))) t

tabled-outside : (table : List LiveSlots) (f : ℕ → Slot) (n : ℕ) → f n ≡ Outside → IsTabled table f n → IsTabled table f (suc n)
tabled-outside table f n e t = quiet-within table f n (λ g k x l. (let h : 4 ≡ 1 = ap kind_in (sym e ∙ l) in omega (arith, h)))
    (λ l. (let h : 4 ≡ 2 = ap kind_in (sym e ∙ l) in omega (arith, h))) t

-- after some that don't count;
pub tabled-skipped : (table : List LiveSlots) (f : ℕ → Slot) (n j : ℕ) → ((i : ℕ) → i < j → f (n + i) ≡ Outside) → IsTabled table f n → IsTabled table f (n + j)
tabled-skipped table f n zero out t = subst (λ k. IsTabled table f k) (let e : n ≡ n + 0 = omega arith in e) t
tabled-skipped table f n (suc j) out t = subst (λ k. IsTabled table f k) (let e : suc (n + j) ≡ n + suc j = omega arith in e) (tabled-outside table f (n + j) (out j (omega arith)) (tabled-skipped table f n j (λ i low. out i (omega (arith, low))) t))

-- after one that is live and was entered;
pub tabled-live : (old new : List LiveSlots) (f : ℕ → Slot) (n : ℕ) (tag : Tag) (y : List ℕ) → f n ≡ Live tag y → Entered old tag.number (record { slot = n; generation = tag.generation }) new
    → IsTabled old f n → IsTabled new f (suc n)
tabled-live old new f n tag y here d t =
    let out : (h : ℕ) → h ≢ tag.number → IsOther f n h = λ h other k x l. other (ap number_in (sym l ∙ here)) in
    record {
      each = λ h low. elim (cases_eq h tag.number) [
        | inl same ↦ subst (λ z. EntryHolds (slice_index_or new z Absent) f (suc n) z) (sym same)
            (says-noted (slice_index_or old tag.number Absent) (slice_index_or new tag.number Absent) f n tag.number tag.generation y here (t.each tag.number d.number) d.entry)
        | inr other ↦
            let was : h < length old = omega (arith, low, d.size) in
            subst (λ z. EntryHolds z f (suc n) h) (sym (d.others h was other)) (says-on (slice_index_or old h Absent) f n h (out h other) (t.each h was))
      ];
      within = λ s h k x l. elim (cases_eq s n) [
        | inl same ↦
            let q : h ≡ tag.number = ap number_in (sym l.is ∙ (ap f same ∙ here)) in
            omega (arith, q, d.number, d.size)
        | inr other ↦ (let w = t.within s h k x (less f n s h k x other l) in omega (arith, w, d.size))
      ];
      whole = λ s low q. elim (cases_eq s n) [
        | inl same ↦ (let h : 1 ≡ 2 = ap kind_in (sym here ∙ (ap f (sym same) ∙ q)) in omega (arith, h))
        | inr other ↦ t.whole s (omega (arith, low, other)) q
      ];
    }

-- and where a slot is refused the slots are corrupt.
pub corrupt-live : (table new : List LiveSlots) (f : ℕ → Slot) (n total count : ℕ) (tag : Tag) (y : List ℕ) → n < total → f n ≡ Live tag y → Enters table tag.number (record { slot = n; generation = tag.generation }) false new
    → IsTabled table f n → length table ≡ count → SoundSlots f total count → ⊥
corrupt-live table new f n total count tag y low here (same, why) t size sound =
    elim why [
      | inl past ↦ (let q = sound.sector n tag.number tag.generation y (record { number = low; is = here }) in omega (arith, q, past, size))
      | inr none ↦ elim (cases_lt tag.number (length table)) [
        | inl small ↦ noted-none (slice_index_or table tag.number Absent) f n total tag.number count tag.generation y low here (t.each tag.number small) none sound
        | inr past ↦ (let q = sound.sector n tag.number tag.generation y (record { number = low; is = here }) in omega (arith, q, past, size))
      ]
    ]

-- One descriptor of a slot that counts.
pub head-entered : (old new : List LiveSlots) (n : ℕ) (header : Header) → Heads old n header true new → (f : ℕ → Slot) (x : List ℕ) → f n ≡ slot_with header x → IsTabled old f n → IsTabled new f (suc n)
head-entered old new n headers.Free h f x e t = subst (λ z. IsTabled z f (suc n)) (sym h) (tabled-free old f n e t)
head-entered old new n (headers.Live tag) h f x e t = tabled-live old new f n tag x e h t
head-entered old new n headers.NoGeneration h f x e t = absurd h
head-entered old new n headers.Dead h f x e t = subst (λ z. IsTabled z f (suc n)) (sym h) (tabled-dead old f n e t)

pub head-corrupt : (old new : List LiveSlots) (n : ℕ) (header : Header) → Heads old n header false new → (f : ℕ → Slot) (x : List ℕ) (total count : ℕ) → n < total → f n ≡ slot_with header x → IsTabled old f n → length old ≡ count → SoundSlots f total count → ⊥
head-corrupt old new n headers.Free h f x total count low e t size sound = h
head-corrupt old new n (headers.Live tag) h f x total count low e t size sound = corrupt-live old new f n total count tag x low e h t size sound
head-corrupt old new n headers.NoGeneration h f x total count low e t size sound = sound.whole n low e
head-corrupt old new n headers.Dead h f x total count low e t size sound = h

pub head-size : (old new : List LiveSlots) (n : ℕ) (header : Header) (t : Bool) → Heads old n header t new → length new ≡ length old
head-size old new n headers.Free true h = ap length h
head-size old new n headers.Free false h = absurd h
head-size old new n (headers.Live tag) true h = h.size
head-size old new n (headers.Live tag) false h = ap length h.0
head-size old new n headers.NoGeneration true h = absurd h
head-size old new n headers.NoGeneration false h = ap length h
head-size old new n headers.Dead true h = ap length h
head-size old new n headers.Dead false h = absurd h
