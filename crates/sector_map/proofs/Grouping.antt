-- Blocks that are live with a group: two of one group are two slots of each of its sectors, and the older is retired.
use Rattle.std.proofs.Common.{◌≡◌, ◌≢◌, ℕ, suc, ◌+◌, ◌*◌, ◌<◌, ◌⊎◌, Bool, true, false, List, length, refl, sym, ap, ◌∙◌, subst, arith, inl, inr}
use Rattle.std.specs.Prelude.{◌/◌, ◌%◌, ◌||◌, slice_index_or}
use Rattle.std.proofs.lemmas.Bool.{cases_eq}
use Rattle.nor_layout.specs.declared.header.Generation.{Generation}
use Rattle.nor_layout.specs.declared.header.Tag.{Tag}
use Rattle.nor_layout.specs.declared.kind.Kind.{Kind}
use Rattle.nor_layout.specs.declared.kind.Kind.TheVariants as kinds
use Rattle.nor_layout.specs.Headers.{next_generation}
use Rattle.sector_slots.specs.Slots.{Slot, Live, Outside, is_group, content_bytes, data_blocks, data_block, kind_at, raw_slot, slot_at, slot_count}
use Rattle.sector_slots.specs.Blocks.{AreAtRest, HasGroupRoom, dead_group, two_blocks}
use Rattle.sector_slots.specs.Sectors.{LiveAt, GroupsAreApart, generation_in}
use Rattle.sector_slots.proofs.SlotLaws.{counted-raw}
use Rattle.sector_slots.proofs.SectorLaws.{kind_in, number_in}
use Rattle.sector_slots.proofs.CopyLaws.{rest-counted}
use Rattle.sector_slots.proofs.GroupLaws.{group-slot, dead-slot, spoilt-slot}
use Rattle.sector_map.specs.Table.{TwoHold, EntryHolds, IsTabled}
use Rattle.sector_map.specs.Mending.{IsGroupPair, IsMixedPair, PairsSeen, IsOlderGroup, HasDeadGroup}
use Rattle.sector_map.specs.declared.table.Held.{Held}
use Rattle.sector_map.specs.declared.table.LiveSlots.{LiveSlots}
use Rattle.sector_map.specs.declared.table.LiveSlots.TheVariants.{Absent, One, Two}
use Rattle.nor_driver.specs.State.{NorState}
use Rattle.erase_journal.specs.Steps.{SucceedsSettled}
use Rattle.sector_map.proofs.Retiring.{two-apart, succeeds-perhaps}

false-true : false ≡ true → ⊥
false-true e = cc

pub same-group : (a b : Tag) → kinds.Group a ≡ kinds.Group b → a ≡ b
same-group a b e = cc

live-outside : (s : Slot) (tag : Tag) (x : List ℕ) → s ≡ Live tag x → s ≢ Outside
live-outside s tag x l e = let h : 1 ≡ 4 = ap kind_in (sym l ∙ e) in omega (arith, h)

-- the bytes of a slot that counts as live
pub live-stored : (m : List ℕ) (s g : ℕ) (k : Generation) (x : List ℕ) → LiveAt (slot_at m) (slot_count m) s g k x → raw_slot m (s / 7) (s % 7) ≡ Live (record { number = g; generation = k }) x
live-stored m s g k x l = counted-raw m s (slot_at m s) refl (live-outside (slot_at m s) (record { number = g; generation = k }) x l.is) ∙ l.is

-- what a live slot in a block of a group says of it
pub record OfGroup (m : List ℕ) (s g : ℕ) (k : Generation) : Type 0 where
  pub tag : Tag
  pub kind : kind_at m (s / 7) ≡ kinds.Group tag
  pub number : 7 * tag.number + s % 7 ≡ g
  pub generation : tag.generation ≡ k

of-kind : (q : Kind) (m : List ℕ) (s g : ℕ) (k : Generation) (x : List ℕ) → kind_at m (s / 7) ≡ q → is_group q ≡ true → raw_slot m (s / 7) (s % 7) ≡ Live (record { number = g; generation = k }) x → OfGroup m s g k
of-kind kinds.Plain m s g k x e t l = absurd (false-true t)
of-kind kinds.Void m s g k x e t l = absurd (false-true t)
of-kind (kinds.Committed b) m s g k x e t l = absurd (false-true t)
of-kind kinds.Settled m s g k x e t l = absurd (false-true t)
of-kind (kinds.Group tag) m s g k x e t l =
    let here = sym (group-slot (data_block m (s / 7)) (s % 7) tag e) ∙ l in
    record { tag = tag; kind = e; number = ap number_in here; generation = ap generation_in here }
of-kind kinds.DeadGroup m s g k x e t l = (let h : 3 ≡ 1 = ap kind_in (sym (dead-slot (data_block m (s / 7)) (s % 7) e) ∙ l) in absurd (omega (arith, h)))
of-kind kinds.SpoiltGroup m s g k x e t l = (let h : 2 ≡ 1 = ap kind_in (sym (spoilt-slot (data_block m (s / 7)) (s % 7) e) ∙ l) in absurd (omega (arith, h)))
of-kind kinds.Unknown m s g k x e t l = absurd (false-true t)

pub of-group : (m : List ℕ) (s g : ℕ) (k : Generation) (x : List ℕ) → LiveAt (slot_at m) (slot_count m) s g k x → is_group (kind_at m (s / 7)) ≡ true → OfGroup m s g k
of-group m s g k x l t = of-kind (kind_at m (s / 7)) m s g k x refl t (live-stored m s g k x l)

-- the first place of a block of a group, where no copying goes on
pub group-live : (m : List ℕ) (c : ℕ) (tag : Tag) → AreAtRest (kind_at m) (data_blocks m) → c < data_blocks m → kind_at m c ≡ kinds.Group tag → LiveAt (slot_at m) (slot_count m) (7 * c) (7 * tag.number) tag.generation (content_bytes (data_block m c) 0)
group-live m c tag rest low e =
    let block : (7 * c) / 7 ≡ c = omega arith in
    let place : (7 * c) % 7 ≡ 0 = omega arith in
    let zeroth : 7 * tag.number + 0 ≡ 7 * tag.number = omega arith in
    record {
      number = omega (arith, low);
      is = rest-counted (kind_at m) (raw_slot m) (data_blocks m) (7 * c) rest (omega (arith, low))
          ∙ (ap (λ a. raw_slot m a ((7 * c) % 7)) block ∙ (ap (λ i. raw_slot m c i) place ∙ (group-slot (data_block m c) 0 tag e ∙ ap (λ z. Live (record { number = z; generation = tag.generation }) (content_bytes (data_block m c) 0)) zeroth)));
    }

-- of two blocks that are live with one group the table names one as the older
entry-older : (e : LiveSlots) (table : List LiveSlots) (m : List ℕ) (c d : ℕ) (a b : Tag) → slice_index_or table (7 * a.number) Absent ≡ e → EntryHolds e (slot_at m) (slot_count m) (7 * a.number)
    → LiveAt (slot_at m) (slot_count m) (7 * c) (7 * a.number) a.generation (content_bytes (data_block m c) 0) → LiveAt (slot_at m) (slot_count m) (7 * d) (7 * a.number) b.generation (content_bytes (data_block m d) 0)
    → c ≢ d → kind_at m c ≡ kinds.Group a → kind_at m d ≡ kinds.Group b → a.number ≡ b.number → IsOlderGroup table c (kind_at m c) ⊎ IsOlderGroup table d (kind_at m d)
entry-older Absent table m c d a b is none l r ne ea eb same = absurd (none (7 * c) a.generation (content_bytes (data_block m c) 0) l)
entry-older (One h) table m c d a b is o l r ne ea eb same =
    let p = o.only (7 * c) a.generation (content_bytes (data_block m c) 0) l in
    let q = o.only (7 * d) b.generation (content_bytes (data_block m d) 0) r in
    absurd (ne (omega (arith, p, q)))
entry-older (Two x y) table m c d a b is o l r ne ea eb same = elim (o.only (7 * c) a.generation (content_bytes (data_block m c) 0) l) as (λ _. IsOlderGroup table c (kind_at m c) ⊎ IsOlderGroup table d (kind_at m d)) [
  | inl p ↦ elim (o.only (7 * d) b.generation (content_bytes (data_block m d) 0) r) as (λ _. IsOlderGroup table c (kind_at m c) ⊎ IsOlderGroup table d (kind_at m d)) [
    | inl q ↦ absurd (ne (omega (arith, p, q)))
    | inr q ↦ inr (record { tag = b; newer = x; older = y; live = eb; entry = ap (λ n. slice_index_or table (7 * n) Absent) (sym same) ∙ is; block = omega (arith, q) })
  ]
  | inr p ↦ inl (record { tag = a; newer = x; older = y; live = ea; entry = is; block = omega (arith, p) })
]

pub older-of : (table : List LiveSlots) (m : List ℕ) (c d : ℕ) (a b : Tag) → IsTabled table (slot_at m) (slot_count m) → AreAtRest (kind_at m) (data_blocks m) → c < data_blocks m → d < data_blocks m → c ≢ d → kind_at m c ≡ kinds.Group a → kind_at m d ≡ kinds.Group b → a.number ≡ b.number
    → IsOlderGroup table c (kind_at m c) ⊎ IsOlderGroup table d (kind_at m d)
older-of table m c d a b t rest lc ld ne ea eb same =
    let l = group-live m c a rest lc ea in
    let r : LiveAt (slot_at m) (slot_count m) (7 * d) (7 * a.number) b.generation (content_bytes (data_block m d) 0) =
    subst (λ n. LiveAt (slot_at m) (slot_count m) (7 * d) (7 * n) b.generation (content_bytes (data_block m d) 0)) (sym same) (group-live m d b rest ld eb) in
    let within = t.within (7 * c) (7 * a.number) a.generation (content_bytes (data_block m c) 0) l in
    entry-older (slice_index_or table (7 * a.number) Absent) table m c d a b refl (t.each (7 * a.number) within) l r ne ea eb same

-- the two slots of an entry
pub pair-held : (table : List LiveSlots) (m : List ℕ) (g : ℕ) (x y : Held) → IsTabled table (slot_at m) (slot_count m) → g < length table → slice_index_or table g Absent ≡ Two x y → TwoHold x y (slot_at m) (slot_count m) g
pair-held table m g x y t low is = subst (λ e. EntryHolds e (slot_at m) (slot_count m) g) is (t.each g low)

-- An older block is retired by a newer one of its group.
pub record HasNewer (table : List LiveSlots) (m : List ℕ) (c : ℕ) (tag : Tag) : Type 0 where
  pub block : ℕ
  pub number : block < data_blocks m
  pub other : c ≢ block
  pub by : kind_at m block ≡ kinds.Group (record { number = tag.number; generation = next_generation tag.generation })
  pub newest : IsOlderGroup table block (kind_at m block) → ⊥

newer-tag : (a b : Tag) → a.number ≡ b.number → a.generation ≡ next_generation b.generation → kinds.Group a ≡ kinds.Group (record { number = b.number; generation = next_generation b.generation })
newer-tag a b n k = ap (λ z. kinds.Group (record { number = z; generation = a.generation })) n ∙ ap (λ z. kinds.Group (record { number = b.number; generation = z })) k

two-first : (a b c d : Held) → Two a b ≡ Two c d → a ≡ c
two-first a b c d e = cc

pub two-second : (a b c d : Held) → Two a b ≡ Two c d → b ≡ d
two-second a b c d e = cc

pub group-number : (table : List LiveSlots) (m : List ℕ) (c : ℕ) (tag : Tag) → IsTabled table (slot_at m) (slot_count m) → AreAtRest (kind_at m) (data_blocks m) → c < data_blocks m → kind_at m c ≡ kinds.Group tag → 7 * tag.number < length table
group-number table m c tag t rest low e = t.within (7 * c) (7 * tag.number) tag.generation (content_bytes (data_block m c) 0) (group-live m c tag rest low e)

pub has-newer : (table : List LiveSlots) (m : List ℕ) (c : ℕ) → IsTabled table (slot_at m) (slot_count m) → AreAtRest (kind_at m) (data_blocks m) → GroupsAreApart (kind_at m) (slot_at m) (slot_count m) → c < data_blocks m
    → (o : IsOlderGroup table c (kind_at m c)) → HasNewer table m c o.tag
has-newer table m c t rest apart low o =
    let g = 7 * o.tag.number in
    let within = group-number table m c o.tag t rest low o.live in
    let h = pair-held table m g o.newer o.older t within o.entry in
    let here : is_group (kind_at m (o.older.slot / 7)) ≡ true = ap (λ a. is_group (kind_at m a)) o.block ∙ ap is_group o.live in
    let there : is_group (kind_at m (o.newer.slot / 7)) ≡ true = apart.apart o.newer.slot o.older.slot g o.newer.generation o.older.generation h.newer_live.0 h.older_live.0 h.newer_live.1 h.older_live.1 ∙ here in
    let y = of-group m o.older.slot g o.older.generation h.older_live.0 h.older_live.1 here in
    let x = of-group m o.newer.slot g o.newer.generation h.newer_live.0 h.newer_live.1 there in
    let same : y.tag ≡ o.tag = same-group y.tag o.tag (sym y.kind ∙ (ap (λ a. kind_at m a) o.block ∙ o.live)) in
    let ny : 7 * o.tag.number + o.older.slot % 7 ≡ 7 * o.tag.number = subst (λ z. 7 * z.number + o.older.slot % 7 ≡ 7 * o.tag.number) same y.number in
    let nx = x.number in
    let number : x.tag.number ≡ o.tag.number = omega (arith, nx) in
    let generation : x.tag.generation ≡ next_generation o.tag.generation = x.generation ∙ (h.next ∙ ap next_generation (sym y.generation ∙ ap (λ z. z.generation) same)) in
    let other : c ≢ o.newer.slot / 7 = λ e. (let b = o.block in two-apart o.newer o.older (slot_at m) (slot_count m) g h (omega (arith, e, b, ny, nx, number))) in
    let n = h.newer_live.1.number in
    record {
      block = o.newer.slot / 7;
      number = omega (arith, n);
      other = other;
      by = x.kind ∙ newer-tag x.tag o.tag number generation;
      newest = λ p.
          let tags : p.tag ≡ x.tag = same-group p.tag x.tag (sym p.live ∙ x.kind) in
          let entry : Two p.newer p.older ≡ Two o.newer o.older = sym p.entry ∙ (ap (λ z. slice_index_or table (7 * z) Absent) (ap (λ z. z.number) tags ∙ number) ∙ o.entry) in
          other (sym o.block ∙ (ap (λ z. z.slot / 7) (sym (two-second p.newer p.older o.newer o.older entry)) ∙ p.block));
    }

not-mixed : (a b : Bool) → ((a ≢ b) → ⊥) → a ≡ b
not-mixed true true h = refl
not-mixed true false h = absurd (h (λ e. cc))
not-mixed false true h = absurd (h (λ e. cc))
not-mixed false false h = refl

-- What the pairs of the table say of blocks with groups.
pub pair-room : (table : List LiveSlots) (m : List ℕ) (g : ℕ) → IsTabled table (slot_at m) (slot_count m) → ((h : ℕ) → IsMixedPair table m h → ⊥) → IsGroupPair table m g → HasGroupRoom (kind_at m) (data_blocks m)
pair-room table m g t apart p =
    let h = pair-held table m g p.newer p.older t p.number p.entry in
    let there : is_group (kind_at m (p.newer.slot / 7)) ≡ true = not-mixed (is_group (kind_at m (p.newer.slot / 7))) (is_group (kind_at m (p.older.slot / 7))) (λ d. apart g (record { number = p.number; newer = p.newer; older = p.older; entry = p.entry; differ = d })) ∙ p.group in
    let y = of-group m p.older.slot g p.older.generation h.older_live.0 h.older_live.1 p.group in
    let x = of-group m p.newer.slot g p.newer.generation h.newer_live.0 h.newer_live.1 there in
    let nx = x.number in
    let ny = y.number in
    let number : x.tag.number ≡ y.tag.number = omega (arith, nx, ny) in
    let lx = h.newer_live.1.number in
    let ly = h.older_live.1.number in
    two_blocks (p.newer.slot / 7) (p.older.slot / 7) x.tag y.tag (omega (arith, lx)) (omega (arith, ly)) (λ e. two-apart p.newer p.older (slot_at m) (slot_count m) g h (omega (arith, e, nx, ny, number))) x.kind y.kind number

pub older-pair : (table : List LiveSlots) (m : List ℕ) (c : ℕ) → IsTabled table (slot_at m) (slot_count m) → AreAtRest (kind_at m) (data_blocks m) → c < data_blocks m → (o : IsOlderGroup table c (kind_at m c)) → IsGroupPair table m (7 * o.tag.number)
older-pair table m c t rest low o = record {
  number = group-number table m c o.tag t rest low o.live;
  newer = o.newer;
  older = o.older;
  entry = o.entry;
  group = ap (λ a. is_group (kind_at m a)) o.block ∙ ap is_group o.live;
}

-- where the table has no such pair, no two blocks are live with one group
pub none-room : (table : List LiveSlots) (m : List ℕ) → IsTabled table (slot_at m) (slot_count m) → AreAtRest (kind_at m) (data_blocks m) → PairsSeen false table m → HasGroupRoom (kind_at m) (data_blocks m) → HasDeadGroup m
none-room table m t rest none (dead_group c low e) = (c, (low, e))
none-room table m t rest none (two_blocks c d a b lc ld ne ea eb same) = elim (older-of table m c d a b t rest lc ld ne ea eb same) [
  | inl o ↦ absurd (none (7 * o.tag.number) (older-pair table m c t rest lc o))
  | inr o ↦ absurd (none (7 * o.tag.number) (older-pair table m d t rest ld o))
]

-- where the table has no mixed pair, no sector is live both in a block of slots and in one of a group
entry-apart : (e : LiveSlots) (table : List LiveSlots) (m : List ℕ) (g s r : ℕ) (j k : Generation) (x y : List ℕ) → slice_index_or table g Absent ≡ e → EntryHolds e (slot_at m) (slot_count m) g → g < length table → ((h : ℕ) → IsMixedPair table m h → ⊥)
    → LiveAt (slot_at m) (slot_count m) s g j x → LiveAt (slot_at m) (slot_count m) r g k y → is_group (kind_at m (s / 7)) ≡ is_group (kind_at m (r / 7))
entry-apart Absent table m g s r j k x y is none low apart l o = absurd (none s j x l)
entry-apart (One h) table m g s r j k x y is o low apart l q = ap (λ a. is_group (kind_at m (a / 7))) (o.only s j x l ∙ sym (o.only r k y q))
entry-apart (Two a b) table m g s r j k x y is o low apart l q =
    let same : is_group (kind_at m (a.slot / 7)) ≡ is_group (kind_at m (b.slot / 7)) = not-mixed (is_group (kind_at m (a.slot / 7))) (is_group (kind_at m (b.slot / 7))) (λ d. apart g (record { number = low; newer = a; older = b; entry = is; differ = d })) in
    elim (o.only s j x l) as (λ _. is_group (kind_at m (s / 7)) ≡ is_group (kind_at m (r / 7))) [
      | inl sa ↦ elim (o.only r k y q) as (λ _. is_group (kind_at m (s / 7)) ≡ is_group (kind_at m (r / 7))) [
        | inl ra ↦ ap (λ z. is_group (kind_at m (z / 7))) (sa ∙ sym ra)
        | inr rb ↦ ap (λ z. is_group (kind_at m (z / 7))) sa ∙ (same ∙ ap (λ z. is_group (kind_at m (z / 7))) (sym rb))
      ]
      | inr sb ↦ elim (o.only r k y q) as (λ _. is_group (kind_at m (s / 7)) ≡ is_group (kind_at m (r / 7))) [
        | inl ra ↦ ap (λ z. is_group (kind_at m (z / 7))) sb ∙ (sym same ∙ ap (λ z. is_group (kind_at m (z / 7))) (sym ra))
        | inr rb ↦ ap (λ z. is_group (kind_at m (z / 7))) (sb ∙ sym rb)
      ]
    ]

pub tabled-apart : (table : List LiveSlots) (m : List ℕ) → IsTabled table (slot_at m) (slot_count m) → ((h : ℕ) → IsMixedPair table m h → ⊥) → GroupsAreApart (kind_at m) (slot_at m) (slot_count m)
tabled-apart table m t apart = record {
  apart = λ s r g j k x y l q. let low = t.within s g j x l in entry-apart (slice_index_or table g Absent) table m g s r j k x y refl (t.each g low) low apart l q;
}

pub mixed-corrupt : (table : List LiveSlots) (m : List ℕ) (g : ℕ) → IsTabled table (slot_at m) (slot_count m) → IsMixedPair table m g → GroupsAreApart (kind_at m) (slot_at m) (slot_count m) → ⊥
mixed-corrupt table m g t p apart =
    let h = pair-held table m g p.newer p.older t p.number p.entry in
    p.differ (apart.apart p.newer.slot p.older.slot g p.newer.generation p.older.generation h.newer_live.0 h.older_live.0 h.newer_live.1 h.older_live.1)

-- What the loop over the table knows: of the sectors below k none has a mixed pair, and whether one has a pair of groups.
abbrev pub PairsBelow : Bool → List LiveSlots → List ℕ → ℕ → Type 0
PairsBelow true table m k = (g : ℕ) × IsGroupPair table m g
PairsBelow false table m k = (g : ℕ) → g < k → IsGroupPair table m g → ⊥

abbrev pub ApartBelow : List LiveSlots → List ℕ → ℕ → Type 0
ApartBelow table m k = (g : ℕ) → g < k → IsMixedPair table m g → ⊥

pub pairs-none : (table : List LiveSlots) (m : List ℕ) → PairsBelow false table m 0
pairs-none table m g low p = omega (arith, low)

pub apart-none : (table : List LiveSlots) (m : List ℕ) → ApartBelow table m 0
apart-none table m g low p = omega (arith, low)

pub pairs-all : (pair : Bool) (table : List LiveSlots) (m : List ℕ) (k : ℕ) → k ≡ length table → PairsBelow pair table m k → PairsSeen pair table m
pairs-all true table m k e h = h
pairs-all false table m k e h = λ g p. h g (let l = p.number in omega (arith, l, e)) p

-- an entry without two slots
pub absent-two : (e : LiveSlots) → e ≡ Absent → (a b : Held) → e ≢ Two a b
absent-two e q a b r = let h : Absent ≡ Two a b = sym q ∙ r in cc

pub one-two : (e : LiveSlots) (h : Held) → e ≡ One h → (a b : Held) → e ≢ Two a b
one-two e x q a b r = let h : One x ≡ Two a b = sym q ∙ r in cc

pub pairs-quiet : (pair : Bool) (table : List LiveSlots) (m : List ℕ) (k : ℕ) → ((a b : Held) → slice_index_or table k Absent ≢ Two a b) → PairsBelow pair table m k → PairsBelow pair table m (suc k)
pairs-quiet true table m k none h = h
pairs-quiet false table m k none h = λ g low p. elim (cases_eq g k) [ inl e ↦ none p.newer p.older (ap (λ z. slice_index_or table z Absent) (sym e) ∙ p.entry) | inr ne ↦ h g (omega (arith, low, ne)) p ]

pub apart-quiet : (table : List LiveSlots) (m : List ℕ) (k : ℕ) → ((a b : Held) → slice_index_or table k Absent ≢ Two a b) → ApartBelow table m k → ApartBelow table m (suc k)
apart-quiet table m k none h g low p = elim (cases_eq g k) [ inl e ↦ none p.newer p.older (ap (λ z. slice_index_or table z Absent) (sym e) ∙ p.entry) | inr ne ↦ h g (omega (arith, low, ne)) p ]

-- an entry with two
pub apart-two : (table : List LiveSlots) (m : List ℕ) (k : ℕ) (x y : Held) → slice_index_or table k Absent ≡ Two x y → is_group (kind_at m (x.slot / 7)) ≡ is_group (kind_at m (y.slot / 7)) → ApartBelow table m k → ApartBelow table m (suc k)
apart-two table m k x y is same h g low p = elim (cases_eq g k) [
  | inl e ↦
      let entry : Two p.newer p.older ≡ Two x y = sym p.entry ∙ (ap (λ z. slice_index_or table z Absent) e ∙ is) in
      p.differ (ap (λ z. is_group (kind_at m (z.slot / 7))) (two-first p.newer p.older x y entry) ∙ (same ∙ ap (λ z. is_group (kind_at m (z.slot / 7))) (sym (two-second p.newer p.older x y entry))))
  | inr ne ↦ h g (omega (arith, low, ne)) p
]

pairs-here : (here : Bool) (table : List LiveSlots) (m : List ℕ) (k : ℕ) (x y : Held) → k < length table → slice_index_or table k Absent ≡ Two x y → is_group (kind_at m (y.slot / 7)) ≡ here → PairsBelow false table m k → PairsBelow here table m (suc k)
pairs-here true table m k x y low is e h = (k, record { number = low; newer = x; older = y; entry = is; group = e })
pairs-here false table m k x y low is e h = λ g below p. elim (cases_eq g k) [
  | inl q ↦
      let entry : Two p.newer p.older ≡ Two x y = sym p.entry ∙ (ap (λ z. slice_index_or table z Absent) q ∙ is) in
      let f : true ≡ false = sym p.group ∙ (ap (λ z. is_group (kind_at m (z.slot / 7))) (two-second p.newer p.older x y entry) ∙ e) in
      cc
  | inr ne ↦ h g (omega (arith, below, ne)) p
]

pub pairs-two : (pair here : Bool) (table : List LiveSlots) (m : List ℕ) (k : ℕ) (x y : Held) → k < length table → slice_index_or table k Absent ≡ Two x y → is_group (kind_at m (y.slot / 7)) ≡ here → PairsBelow pair table m k → PairsBelow (pair || here) table m (suc k)
pairs-two true here table m k x y low is e h = h
pairs-two false here table m k x y low is e h = pairs-here here table m k x y low is e h

-- all that the loop keeps
pub record Paired (pair : Bool) (table : List LiveSlots) (k : ℕ) (a b : NorState) : Type 0 where
  pub same : b.memory ≡ a.memory
  pub since : (b ≡ a) ⊎ SucceedsSettled a b
  pub pairs : PairsBelow pair table a.memory k
  pub apart : ApartBelow table a.memory k

pub paired-quiet : (pair now : Bool) (table : List LiveSlots) (k next : ℕ) (a b c : NorState) → suc k ≡ next → now ≡ pair → c ≡ b → ((x y : Held) → slice_index_or table k Absent ≢ Two x y) → Paired pair table k a b → Paired now table next a c
paired-quiet pair now table k next a b c e p s none h = subst (λ z. Paired z table next a c) (sym p) (subst (λ z. Paired pair table next a z) (sym s) (subst (λ z. Paired pair table z a b) e (record {
  same = h.same;
  since = h.since;
  pairs = pairs-quiet pair table a.memory k none h.pairs;
  apart = apart-quiet table a.memory k none h.apart;
})))

pub paired-two : (pair here now : Bool) (table : List LiveSlots) (k next : ℕ) (x y : Held) (a b c d : NorState) → suc k ≡ next → now ≡ (pair || here) → d ≡ c → k < length table → slice_index_or table k Absent ≡ Two x y → c.memory ≡ b.memory → SucceedsSettled b c
    → is_group (kind_at b.memory (x.slot / 7)) ≡ is_group (kind_at b.memory (y.slot / 7)) → is_group (kind_at b.memory (y.slot / 7)) ≡ here → Paired pair table k a b → Paired now table next a d
paired-two pair here now table k next x y a b c d e p s low is same done alike both h = subst (λ z. Paired z table next a d) (sym p) (subst (λ z. Paired (pair || here) table next a z) (sym s) (subst (λ z. Paired (pair || here) table z a c) e (record {
  same = same ∙ h.same;
  since = inr (succeeds-perhaps a b c h.since done);
  pairs = pairs-two pair here table a.memory k x y low is (subst (λ z. is_group (kind_at z (y.slot / 7)) ≡ here) h.same both) h.pairs;
  apart = apart-two table a.memory k x y is (subst (λ z. is_group (kind_at z (x.slot / 7)) ≡ is_group (kind_at z (y.slot / 7))) h.same alike) h.apart;
})))
