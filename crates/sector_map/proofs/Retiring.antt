-- The older of two slots is retired, sector by sector.
use Rattle.std.proofs.Common.{◌≡◌, ◌≢◌, ℕ, suc, Bool, true, false, ◌-◌, ◌*◌, ◌/◌, ◌<◌, ◌⊎◌, List, length, refl, sym, ap, ◌∙◌, subst, arith, inl, inr}
use Rattle.std.specs.Prelude.{slice_index_or}
use Rattle.std.proofs.lemmas.Bool.{cases_eq}
use Rattle.chip_model.specs.Geometry.{sector_count, block_count}
use Rattle.nor_layout.specs.declared.header.Generation.{Generation}
use Rattle.nor_layout.specs.declared.header.Tag.{Tag}
use Rattle.nor_layout.specs.Headers.{next_generation}
use Rattle.nor_driver.specs.State.{NorState}
use Rattle.erase_journal.specs.Steps.{RefusesFirmly}
use Rattle.nor_driver.specs.declared.error.NorError.{NorError}
use Rattle.erase_journal.specs.Blocks.{SameChip}
use Rattle.erase_journal.specs.Journals.{IsHealthy}
use Rattle.erase_journal.specs.Steps.{SucceedsSettled}
use Rattle.sector_slots.specs.Slots.{Slot, Dead, is_group, kind_at, slot_at, slot_count, IsClean}
use Rattle.sector_slots.specs.Blocks.{AreSettled}
use Rattle.sector_slots.specs.Steps.{IsRetirable, OnlyPlace}
use Rattle.sector_slots.proofs.PlaceLaws.{place-kinds}
use Rattle.sector_slots.specs.Sectors.{LiveAt, SoundSlots, OthersKept, IsSingle, HoldsSectors, generation_in}
use Rattle.sector_slots.proofs.SectorLaws.{Without, moved, moved-back, dead-without, other-without, kind_in, never-round}
use Rattle.sector_map.specs.Mending.{PairsAreSlots}
use Rattle.sector_map.proofs.Places.{others-kept, slot-only, placed-settled, live-placed, retire-left}
use Rattle.sector_map.specs.Table.{OneHolds, TwoHold, EntryHolds, IsTabled, KeptOne, IsOneAtMost, IsTableOf, holder}
use Rattle.sector_map.specs.Replace.{HeldBy}
use Rattle.sector_map.specs.declared.table.Held.{Held}
use Rattle.sector_map.specs.declared.table.LiveSlots.{LiveSlots}
use Rattle.sector_map.specs.declared.table.LiveSlots.TheVariants.{Absent, One, Two}
use Rattle.erase_journal.proofs.SettledLaws.{settled-healthy, settled-after}
use Rattle.erase_journal.proofs.Firmly.{refuses-firmly}
use Rattle.sector_map.proofs.Replacing.{chip-after, back-through, on-through}

-- an entry of a sector that slot w neither held nor holds
says-kept : (e : LiveSlots) (f f' : ℕ → Slot) (n w g : ℕ) → OthersKept n w f f' → Without f w g → Without f' w g → EntryHolds e f n g → EntryHolds e f' n g
says-kept Absent f f' n w g only out out' none = λ s k x l. none s k x (back-through f f' n w g s k x only out' l)
says-kept (One h) f f' n w g only out out' o = record {
  live = (o.live.0, on-through f f' n w g h.slot h.generation o.live.0 only out o.live.1);
  only = λ s k x l. o.only s k x (back-through f f' n w g s k x only out' l);
}
says-kept (Two a b) f f' n w g only out out' o = record {
  newer_live = (o.newer_live.0, on-through f f' n w g a.slot a.generation o.newer_live.0 only out o.newer_live.1);
  older_live = (o.older_live.0, on-through f f' n w g b.slot b.generation o.older_live.0 only out o.older_live.1);
  next = o.next;
  only = λ s k x l. o.only s k x (back-through f f' n w g s k x only out' l);
}

pub two-apart : (a b : Held) (f : ℕ → Slot) (n g : ℕ) → TwoHold a b f n g → a.slot ≢ b.slot
two-apart a b f n g o e =
    let same : a.generation ≡ b.generation = ap generation_in (sym o.newer_live.1.is ∙ (ap f e ∙ o.older_live.1.is)) in
    never-round b.generation b.generation (sym same ∙ o.next) (sym same ∙ o.next)

says-settled : (a b : Held) (f f' : ℕ → Slot) (n g : ℕ) → OthersKept n b.slot f f' → f' b.slot ≡ Dead → TwoHold a b f n g → OneHolds a f' n g
says-settled a b f f' n g only dead o = record {
  live = (o.newer_live.0, moved f f' n b.slot a.slot g a.generation o.newer_live.0 only (two-apart a b f n g o) o.newer_live.1);
  only = λ s k x l.
      let other : s ≢ b.slot = λ e. dead-without f' b.slot g dead k x (ap f' (sym e) ∙ l.is) in
      elim (o.only s k x (moved-back f f' n b.slot s g k x only other l)) [ inl e ↦ e | inr e ↦ absurd (other e) ];
}

tabled-settled : (a b : Held) (old new : List LiveSlots) (f f' : ℕ → Slot) (n g : ℕ) → g < length old → slice_index_or old g Absent ≡ Two a b → OthersKept n b.slot f f' → f' b.slot ≡ Dead → KeptOne old g a new
    → IsTabled old f n → IsTabled new f' n
tabled-settled a b old new f f' n g low is only dead s t =
    let o : TwoHold a b f n g = subst (λ e. EntryHolds e f n g) is (t.each g low) in
    record {
      each = λ h small. elim (cases_eq h g) [
        | inl same ↦ subst (λ z. EntryHolds (slice_index_or new z Absent) f' n z) (sym same) (subst (λ e. EntryHolds e f' n g) (sym s.entry) (says-settled a b f f' n g only dead o))
        | inr other ↦
            let was : h < length old = omega (arith, small, s.size) in
            subst (λ e. EntryHolds e f' n h) (sym (s.others h was other))
            (says-kept (slice_index_or old h Absent) f f' n b.slot h only (other-without f b.slot h g b.generation o.older_live.0 o.older_live.1.is other) (dead-without f' b.slot h dead) (t.each h was))
      ];
      within = λ r h k x l.
          let w = t.within r h k x (back-through f f' n b.slot h r k x only (dead-without f' b.slot h dead) l) in omega (arith, w, s.size);
      whole = λ r small e. elim (cases_eq r b.slot) [
        | inl same ↦ (let q : 3 ≡ 2 = ap kind_in (sym dead ∙ (ap f' (sym same) ∙ e)) in omega (arith, q))
        | inr other ↦ t.whole r small (sym (only.each r small other) ∙ e)
      ];
    }

-- what the loop keeps
pub record Retired (table0 table : List LiveSlots) (n : ℕ) (a b : NorState) : Type 0 where
  pub chip : SameChip a.memory b.memory
  pub since : (b ≡ a) ⊎ SucceedsSettled a b
  pub size : length table ≡ length table0
  pub tabled : IsTabled table (slot_at b.memory) (slot_count a.memory)
  pub sectors : (sectors : ℕ → List ℕ) → HoldsSectors sectors a.memory → HoldsSectors sectors b.memory
  pub clean : IsClean a.memory → IsClean b.memory
  pub blocks : AreSettled b.memory
  pub pairs : PairsAreSlots table b.memory
  pub single : (g : ℕ) → g < n → IsOneAtMost (slice_index_or table g Absent)

pub retired-none : (table : List LiveSlots) (a : NorState) → IsTabled table (slot_at a.memory) (slot_count a.memory) → AreSettled a.memory → PairsAreSlots table a.memory → Retired table table 0 a a
retired-none table a t blocks pairs = record {
  chip = record { same_length = refl; superblock = λ k low. refl };
  since = inl refl;
  size = refl;
  tabled = t;
  sectors = λ g s. s;
  clean = λ c. c;
  blocks = blocks;
  pairs = pairs;
  single = λ g low. absurd (omega (arith, low));
}

one-more : (table : List LiveSlots) (n : ℕ) → IsOneAtMost (slice_index_or table n Absent) → ((g : ℕ) → g < n → IsOneAtMost (slice_index_or table g Absent)) → (g : ℕ) → g < suc n → IsOneAtMost (slice_index_or table g Absent)
one-more table n here below g low = elim (cases_eq g n) [ inl same ↦ subst (λ z. IsOneAtMost (slice_index_or table z Absent)) (sym same) here | inr other ↦ below g (omega (arith, low, other)) ]

-- a sector with no two slots
pub retired-quiet : (table0 table now : List LiveSlots) (n next : ℕ) (a b c : NorState) → next ≡ suc n → now ≡ table → c ≡ b → IsOneAtMost (slice_index_or table n Absent) → Retired table0 table n a b → Retired table0 now next a c
retired-quiet table0 table now n next a b c e t q here r = subst (λ z. Retired table0 now next a z) (sym q) (subst (λ k. Retired table0 now k a b) (sym e) (subst (λ z. Retired table0 z (suc n) a b) (sym t) (record {
  chip = r.chip;
  since = r.since;
  size = r.size;
  tabled = r.tabled;
  sectors = r.sectors;
  clean = r.clean;
  blocks = r.blocks;
  pairs = r.pairs;
  single = one-more table n here r.single;
})))

pub one-absent : (e : LiveSlots) → e ≡ Absent → IsOneAtMost e
one-absent e q = subst (λ z. IsOneAtMost z) (sym q) tt

pub one-held : (e : LiveSlots) (h : Held) → e ≡ One h → IsOneAtMost e
one-held e h q = subst (λ z. IsOneAtMost z) (sym q) tt

-- the two slots of sector g, before it
pub retired-two : (table0 table : List LiveSlots) (n : ℕ) (a b : NorState) (x y : Held) → n < length table → slice_index_or table n Absent ≡ Two x y → Retired table0 table n a b → TwoHold x y (slot_at b.memory) (slot_count a.memory) n
retired-two table0 table n a b x y low is r = subst (λ e. EntryHolds e (slot_at b.memory) (slot_count a.memory) n) is (r.tabled.each n low)

pub succeeds-perhaps : (a b c : NorState) → (b ≡ a) ⊎ SucceedsSettled a b → SucceedsSettled b c → SucceedsSettled a c
succeeds-perhaps a b c (inl e) s = subst (λ z. SucceedsSettled z c) e s
succeeds-perhaps a b c (inr t) s = settled-after a b c t s

pub refuses-perhaps : (e : NorError) (a b c : NorState) → (b ≡ a) ⊎ SucceedsSettled a b → RefusesFirmly e b c → RefusesFirmly e a c
refuses-perhaps e a b c (inl q) r = subst (λ z. RefusesFirmly e z c) q r
refuses-perhaps e a b c (inr t) r = refuses-firmly e a b c t r

pub older-number : (table0 table : List LiveSlots) (n : ℕ) (a b : NorState) (x y : Held) → n < length table → slice_index_or table n Absent ≡ Two x y → Retired table0 table n a b → y.slot < slot_count b.memory
older-number table0 table n a b x y low is r =
    let o = retired-two table0 table n a b x y low is r in
    subst (λ k. y.slot < 7 * (block_count k - 4)) (sym r.chip.same_length) o.older_live.1.number

one-two : (e : LiveSlots) (x p q : Held) → e ≡ One x → e ≡ Two p q → ⊥
one-two e x p q a b = let h : One x ≡ Two p q = sym a ∙ b in cc

group-not : (b : Bool) → (b ≡ true → ⊥) → b ≡ false
group-not true h = absurd (h refl)
group-not false h = refl

-- a retirement that was cut
pub older-retirable : (table0 table : List LiveSlots) (n : ℕ) (a b : NorState) (x y : Held) → n < length table → slice_index_or table n Absent ≡ Two x y → Retired table0 table n a b → IsRetirable y.slot b.memory
older-retirable table0 table n a b x y low0 is r =
    let o = retired-two table0 table n a b x y low0 is r in
    let tag : Tag = record { number = n; generation = y.generation } in
    ((tag, o.older_live.0, o.older_live.1.is), group-not (is_group (kind_at b.memory (y.slot / 7))) (λ e. r.pairs n (record { number = low0; newer = x; older = y; entry = is; group = e })))

-- the sectors, once the older slot of sector n was retired or its retirement cut
pub retired-sectors : (table0 table : List LiveSlots) (n : ℕ) (a b c : NorState) (x y : Held) → n < length table → slice_index_or table n Absent ≡ Two x y → OnlyPlace y.slot b.memory c.memory
    → (slot_at c.memory y.slot ≡ slot_at b.memory y.slot) ⊎ (slot_at c.memory y.slot ≡ Dead) → Retired table0 table n a b → (sectors : ℕ → List ℕ) → HoldsSectors sectors a.memory → HoldsSectors sectors c.memory
retired-sectors table0 table n a b c x y low is only left r sectors s =
    let o : TwoHold x y (slot_at b.memory) (slot_count b.memory) n = subst (λ k. TwoHold x y (slot_at b.memory) (7 * (block_count k - 4)) n) (sym r.chip.same_length) (retired-two table0 table n a b x y low is r) in
    retire-left x.slot y.slot n y.generation x.generation o.newer_live.0 o.older_live.0 b.memory c.memory sectors only o.older_live.1 o.newer_live.1 (two-apart x y (slot_at b.memory) (slot_count b.memory) n o) o.next left r.blocks (r.sectors sectors s)

pub retired-more : (table0 table new now : List LiveSlots) (n next : ℕ) (a b c d : NorState) (x y : Held) → next ≡ suc n → now ≡ new → d ≡ c → n < length table → slice_index_or table n Absent ≡ Two x y → OnlyPlace y.slot b.memory c.memory
    → (IsRetirable y.slot b.memory → slot_at c.memory y.slot ≡ Dead) → (IsRetirable y.slot b.memory → IsClean b.memory → IsClean c.memory) → SucceedsSettled b c → KeptOne table n x new → Retired table0 table n a b → Retired table0 now next a d
retired-more table0 table new now n next a b c d x y e t q low is only dead' clean' s settled r = let was = older-retirable table0 table n a b x y low is r in let dead = dead' was in let clean = clean' was in subst (λ z. Retired table0 now next a z) (sym q) (subst (λ k. Retired table0 now k a c) (sym e) (subst (λ z. Retired table0 z (suc n) a c) (sym t) (record {
  chip = chip-after a.memory b.memory c.memory r.chip only.only.chip;
  since = inr (succeeds-perhaps a b c r.since s);
  size = settled.size ∙ r.size;
  tabled = tabled-settled x y table new (slot_at b.memory) (slot_at c.memory) (slot_count a.memory) n low is
      (subst (λ k. OthersKept (7 * (block_count k - 4)) y.slot (slot_at b.memory) (slot_at c.memory)) r.chip.same_length (others-kept y.slot b.memory c.memory (slot-only y.slot b.memory c.memory only))) dead settled r.tabled;
  sectors = retired-sectors table0 table n a b c x y low is only (inr dead) r;
  clean = λ h. clean (r.clean h);
  pairs = λ g p. elim (cases_eq g n) [
    | inl e ↦ one-two (slice_index_or new g Absent) x p.newer p.older (ap (λ z. slice_index_or new z Absent) e ∙ settled.entry) p.entry
    | inr ne ↦
        let was : slice_index_or table g Absent ≡ Two p.newer p.older = sym (settled.others g (let l = p.number in omega (arith, l, settled.size)) ne) ∙ p.entry in
        let within : g < length table = (let l = p.number in omega (arith, l, settled.size)) in
        let h : TwoHold p.newer p.older (slot_at b.memory) (slot_count a.memory) g = subst (λ e. EntryHolds e (slot_at b.memory) (slot_count a.memory) g) was (r.tabled.each g within) in
        r.pairs g (record { number = within; newer = p.newer; older = p.older; entry = was; group = sym (ap is_group (place-kinds y.slot b.memory c.memory only (p.older.slot / 7) (let l = h.older_live.1.number in let z = r.chip.same_length in omega (arith, l, z)))) ∙ p.group })
  ];
  blocks =
      let o = retired-two table0 table n a b x y low is r in
      placed-settled y.slot b.memory c.memory r.blocks (live-placed y.slot (record { number = n; generation = y.generation }) o.older_live.0 b.memory r.blocks (older-number table0 table n a b x y low is r) o.older_live.1.is) only;
  single = λ g small. elim (cases_eq g n) [
    | inl same ↦ subst (λ z. IsOneAtMost (slice_index_or new z Absent)) (sym same) (subst (λ z. IsOneAtMost z) (sym settled.entry) tt)
    | inr other ↦ subst (λ z. IsOneAtMost z) (sym (settled.others g (omega (arith, small, other, low)) other)) (r.single g (omega (arith, small, other)))
  ];
})))

pub retired-cut : (table0 table : List LiveSlots) (n : ℕ) (a b c : NorState) (x y : Held) → n < length table → slice_index_or table n Absent ≡ Two x y → OnlyPlace y.slot b.memory c.memory
    → (IsRetirable y.slot b.memory → (slot_at c.memory y.slot ≡ slot_at b.memory y.slot) ⊎ (slot_at c.memory y.slot ≡ Dead))
    → Retired table0 table n a b → (sectors : ℕ → List ℕ) → HoldsSectors sectors a.memory → HoldsSectors sectors c.memory
retired-cut table0 table n a b c x y low is only left r =
    let either = left (older-retirable table0 table n a b x y low is r) in
    retired-sectors table0 table n a b c x y low is only either r

pub retired-healthy : (table0 table : List LiveSlots) (n : ℕ) (a b : NorState) → Retired table0 table n a b → IsHealthy a.memory → IsHealthy b.memory
retired-healthy table0 table n a b r h = elim r.since [ inl e ↦ subst (λ z. IsHealthy z.memory) (sym e) h | inr s ↦ settled-healthy b.memory s.settled ]

pub retired-all : (table0 table : List LiveSlots) (n : ℕ) (a b : NorState) → length table0 ≡ sector_count (length a.memory) → n ≡ length table0 → Retired table0 table n a b → IsTableOf table b.memory
retired-all table0 table n a b size e r = record {
  size = r.size ∙ (size ∙ ap (λ k. sector_count k) (sym r.chip.same_length));
  tabled = subst (λ k. IsTabled table (slot_at b.memory) (7 * (block_count k - 4))) (sym r.chip.same_length) r.tabled;
  single = λ g low. r.single g (omega (arith, low, e, r.size));
}

-- What the table says, of the slots: they are sound, and single where no entry has two.
one-generation : (f : ℕ → Slot) (n s t g : ℕ) (j k : Generation) (x y : List ℕ) → LiveAt f n s g j x → LiveAt f n t g k y → s ≡ t → j ≡ k
one-generation f n s t g j k x y l m e = ap generation_in (sym l.is ∙ (ap f e ∙ m.is))

entry-neighbours : (e : LiveSlots) (f : ℕ → Slot) (n g s t : ℕ) (j k : Generation) (x y : List ℕ) → EntryHolds e f n g → LiveAt f n s g j x → LiveAt f n t g k y → s ≢ t → (j ≡ next_generation k) ⊎ (k ≡ next_generation j)
entry-neighbours Absent f n g s t j k x y none l m differ = absurd (none s j x l)
entry-neighbours (One h) f n g s t j k x y o l m differ = absurd (differ (o.only s j x l ∙ sym (o.only t k y m)))
entry-neighbours (Two a b) f n g s t j k x y o l m differ =
    let newer = λ (r : ℕ) (i : Generation) (z : List ℕ) (q : LiveAt f n r g i z) (e : r ≡ a.slot). one-generation f n r a.slot g i a.generation z o.newer_live.0 q o.newer_live.1 e in
    let older = λ (r : ℕ) (i : Generation) (z : List ℕ) (q : LiveAt f n r g i z) (e : r ≡ b.slot). one-generation f n r b.slot g i b.generation z o.older_live.0 q o.older_live.1 e in
    elim (o.only s j x l) [
      | inl sa ↦ elim (o.only t k y m) [
        | inl ta ↦ absurd (differ (sa ∙ sym ta))
        | inr tb ↦ inl (newer s j x l sa ∙ (o.next ∙ ap next_generation (sym (older t k y m tb))))
      ]
      | inr sb ↦ elim (o.only t k y m) [
        | inl ta ↦ inr (newer t k y m ta ∙ (o.next ∙ ap next_generation (sym (older s j x l sb))))
        | inr tb ↦ absurd (differ (sb ∙ sym tb))
      ]
    ]

entry-two : (e : LiveSlots) (f : ℕ → Slot) (n g r s t : ℕ) (i j k : Generation) (x y z : List ℕ) → EntryHolds e f n g → LiveAt f n r g i x → LiveAt f n s g j y → LiveAt f n t g k z → (r ≡ s) ⊎ ((s ≡ t) ⊎ (r ≡ t))
entry-two Absent f n g r s t i j k x y z none l m o = absurd (none r i x l)
entry-two (One h) f n g r s t i j k x y z q l m o = inl (q.only r i x l ∙ sym (q.only s j y m))
entry-two (Two a b) f n g r s t i j k x y z q l m o = elim (q.only r i x l) [
  | inl ra ↦ elim (q.only s j y m) [
    | inl sa ↦ inl (ra ∙ sym sa)
    | inr sb ↦ elim (q.only t k z o) [ inl ta ↦ inr (inr (ra ∙ sym ta)) | inr tb ↦ inr (inl (sb ∙ sym tb)) ]
  ]
  | inr rb ↦ elim (q.only s j y m) [
    | inl sa ↦ elim (q.only t k z o) [ inl ta ↦ inr (inl (sa ∙ sym ta)) | inr tb ↦ inr (inr (rb ∙ sym tb)) ]
    | inr sb ↦ inl (rb ∙ sym sb)
  ]
]

pub sound-tabled : (table : List LiveSlots) (f : ℕ → Slot) (n : ℕ) → IsTabled table f n → SoundSlots f n (length table)
sound-tabled table f n t = record {
  sector = t.within;
  neighbours = λ s r g j k x y l m differ. entry-neighbours (slice_index_or table g Absent) f n g s r j k x y (t.each g (t.within s g j x l)) l m differ;
  two = λ r s q g i j k x y z l m o. entry-two (slice_index_or table g Absent) f n g r s q i j k x y z (t.each g (t.within r g i x l)) l m o;
  whole = t.whole;
}

entry-one : (e : LiveSlots) (f : ℕ → Slot) (n g s t : ℕ) (j k : Generation) (x y : List ℕ) → IsOneAtMost e → EntryHolds e f n g → LiveAt f n s g j x → LiveAt f n t g k y → s ≡ t
entry-one Absent f n g s t j k x y one none l m = absurd (none s j x l)
entry-one (One h) f n g s t j k x y one o l m = o.only s j x l ∙ sym (o.only t k y m)
entry-one (Two a b) f n g s t j k x y one o l m = absurd one

pub single-tabled : (table : List LiveSlots) (m : List ℕ) → IsTableOf table m → IsSingle m
single-tabled table m t = record {
  one = λ s r g j k x y l o.
      let low = t.tabled.within s g j x l in
      entry-one (slice_index_or table g Absent) (slot_at m) (slot_count m) g s r j k x y (t.single g low) (t.tabled.each g low) l o;
}

-- the slot that an entry names
entry-holder : (e : LiveSlots) (m : List ℕ) (g : ℕ) → IsOneAtMost e → EntryHolds e (slot_at m) (slot_count m) g → HeldBy (holder e) g m
entry-holder Absent m g one none = none
entry-holder (One h) m g one o = o.live
entry-holder (Two a b) m g one o = absurd one

pub table-holder : (table : List LiveSlots) (m : List ℕ) (g : ℕ) → IsTableOf table m → g < length table → HeldBy (holder (slice_index_or table g Absent)) g m
table-holder table m g t low = entry-holder (slice_index_or table g Absent) m g (t.single g low) (t.tabled.each g low)
