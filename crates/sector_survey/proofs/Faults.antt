-- Each finding is a case that a mount refuses, and the steps of a diagnosis find it.
use Rattle.std.proofs.Common.{◌≡◌, ◌≢◌, ℕ, suc, ◌+◌, ◌<◌, ◌≤◌, ◌⊎◌, Bool, true, false, List, length, refl, sym, ap, ◌∙◌, subst, arith, inl, inr}
use Rattle.std.specs.Prelude.{Option, IfSome, Some, None, Result, Err, ◌/◌, not, slice_index_or}
use Rattle.std.proofs.lemmas.Bool.{cases_eq, eq-eqb, ne_eqb}
use Rattle.chip_model.specs.Geometry.{sector_count}
use Rattle.nor_layout.specs.declared.layout.Layout.{Layout}
use Rattle.nor_layout.specs.declared.header.Generation.{Generation}
use Rattle.nor_layout.specs.declared.header.Header.{Header}
use Rattle.nor_layout.specs.declared.header.Header.TheVariants as headers
use Rattle.nor_layout.specs.declared.header.Tag.{Tag}
use Rattle.nor_layout.specs.declared.kind.Kind.{Kind}
use Rattle.nor_layout.specs.declared.kind.Kind.TheVariants as kinds
use Rattle.nor_layout.specs.declared.superblock.SuperError.{SuperError}
use Rattle.nor_layout.specs.declared.superblock.SuperError.TheVariants as refusals
use Rattle.nor_layout.specs.Headers.{next_generation, generation_byte}
use Rattle.nor_layout.specs.Layouts.{layout_of}
use Rattle.nor_layout.specs.Superblock.{layout_in}
use Rattle.erase_journal.specs.Journals.{tally_of}
use Rattle.erase_journal.proofs.Faulty.{sound_has_no_fault}
use Rattle.sector_slots.specs.Slots.{Slot, Live, is_group, slot_with, slot_at, slot_count, kind_at, raw_slot, data_blocks}
use Rattle.sector_slots.specs.Blocks.{SoundBlocks, settled, crowded, copying}
use Rattle.sector_slots.specs.Sectors.{LiveAt, SoundSlots, is_next}
use Rattle.sector_slots.proofs.BlockLaws.{sound-no_fault}
use Rattle.sector_slots.proofs.SectorLaws.{never-round}
use Rattle.sector_slots.proofs.WinnerLaws.{byte-one}
use Rattle.sector_map.specs.Found.{FoundBelow}
use Rattle.sector_map.specs.Marking.{may_have_groups}
use Rattle.sector_map.specs.Maps.{IsMountable, is_layout, geometry_of}
use Rattle.sector_map.specs.Table.{IsTabled, EntryHolds, Heads, noted, OneHolds, TwoHold}
use Rattle.sector_map.specs.declared.table.LiveSlots.{LiveSlots}
use Rattle.sector_map.specs.declared.table.LiveSlots.TheVariants as entries
use Rattle.sector_map.specs.declared.found.Found.{Found}
use Rattle.sector_map.specs.declared.found.Found.TheVariants.{AtRest, Void, Committed}
use Rattle.sector_map.specs.declared.table.Held.{Held}
use Rattle.sector_map.proofs.Mounting.{rest-busy}
use Rattle.nor_driver.specs.State.{NorState}
use Rattle.erase_journal.specs.Steps.{SucceedsSettled}
use Rattle.sector_map.proofs.Retiring.{two-apart, succeeds-perhaps}
use Rattle.sector_map.proofs.Grouping.{pair-held, ApartBelow, apart-quiet, apart-two}
use Rattle.sector_survey.specs.Findings.{IsCommitted, IsNoSource, HoldsOne, AreNoNeighbours, AreThree, HasNoRoom, IsSlotFault, IsSlotFaultIn, Explains}
use Rattle.sector_survey.specs.Steps.{IsTargetOf, IsKindFault, IsTagFault, IsHeadFault}
use Rattle.sector_survey.proofs.Voting.{journal-refused}
use Rattle.sector_survey.specs.declared.finding.Finding.{Finding}
use Rattle.sector_survey.specs.declared.finding.Finding.TheVariants as findings

-- a superblock that is refused isn't one
refused-layout : (r : Result Layout SuperError) (e : SuperError) → r ≡ Err e → is_layout r ≡ true → ⊥
refused-layout r e is laid = let h : false ≡ true = sym (ap is_layout is) ∙ laid in cc

committed-of : (k : Kind) → IsCommitted k → (b : ℕ) × (k ≡ kinds.Committed b)
committed-of kinds.Plain c = absurd c
committed-of kinds.Void c = absurd c
committed-of (kinds.Committed source) c = (source, refl)
committed-of kinds.Settled c = absurd c
committed-of (kinds.Group tag) c = absurd c
committed-of kinds.DeadGroup c = absurd c
committed-of kinds.SpoiltGroup c = absurd c
committed-of kinds.Unknown c = absurd c

no-source : (b c n : ℕ) → IsNoSource b c n → 4 ≤ b → b < n + 4 → b ≢ c + 4 → ⊥
no-source b c n (inl low) least most other = omega (arith, low, least)
no-source b c n (inr (inl high)) least most other = omega (arith, high, most)
no-source b c n (inr (inr same)) least most other = other same

room-refused : (m : List ℕ) → HasNoRoom m → SoundBlocks (kind_at m) (raw_slot m) (data_blocks m) → ⊥
room-refused m h (settled s) = h.none s.reserve s.number s.spare
room-refused m h (crowded rest room) = h.groups room
room-refused m h (copying t s) = rest-busy (kind_at m t) t (data_blocks m) (h.rest t s.number) s.copying

slot-refused : (finding : Finding) (f : ℕ → Slot) (n count : ℕ) → IsSlotFault finding f n count → SoundSlots f n count → ⊥
slot-refused findings.OtherLayout f n count h s = h
slot-refused findings.OtherSize f n count h s = h
slot-refused (findings.Journals fault) f n count h s = h
slot-refused (findings.UnknownBlock c) f n count h s = h
slot-refused (findings.GroupOnSlots c) f n count h s = h
slot-refused (findings.TwoCopyings c d) f n count h s = h
slot-refused (findings.WrongSource c b) f n count h s = h
slot-refused findings.NoRoom f n count h s = h
slot-refused (findings.NoGeneration w) f n count h s = s.whole w h.0 h.1
slot-refused (findings.NoSuchSector w g) f n count h s =
    let low = s.sector w g h.0.generation h.0.content h.0.live in
    let high = h.1 in
    omega (arith, low, high)
slot-refused (findings.NotNeighbours w t g) f n count h s =
    elim (s.neighbours w t g h.first.generation h.second.generation h.first.content h.second.content h.first.live h.second.live h.other) [ inl e ↦ h.not_after e | inr e ↦ h.not_before e ]
slot-refused (findings.ThreeSlots r w t g) f n count h s =
    elim (s.two r w t g h.first.generation h.second.generation h.third.generation h.first.content h.second.content h.third.content h.first.live h.second.live h.third.live) [
      | inl e ↦ h.one_two e
      | inr q ↦ elim q [ inl e ↦ h.two_three e | inr e ↦ h.one_three e ]
    ]
slot-refused (findings.TwoLayouts w t g) f n count h s = h

slot-finding : (finding : Finding) (m : List ℕ) → IsSlotFaultIn finding m → IsMountable m → ⊥
slot-finding finding m h is = slot-refused finding (slot_at m) (slot_count m) (sector_count (length m)) h is.store.slots.slots

pub finding-refused : (finding : Finding) (m : List ℕ) → Explains finding m → IsMountable m → ⊥
finding-refused findings.OtherLayout m h is = refused-layout (layout_of m (geometry_of (length m))) refusals.Layout h is.superblock
finding-refused findings.OtherSize m h is = refused-layout (layout_of m (geometry_of (length m))) refusals.Geometry h is.superblock
finding-refused (findings.Journals fault) m h is = journal-refused fault (tally_of m) h ((sound_has_no_fault (tally_of m)).0 is.store.journals)
finding-refused (findings.UnknownBlock c) m h is =
    let n = (sound-no_fault (kind_at m) (raw_slot m) (data_blocks m)).0 is.store.slots.blocks in
    n.known c h.0 h.1
finding-refused (findings.GroupOnSlots c) m h is =
    let e : true ≡ false = sym h.2 ∙ is.store.slots.groups.layout h.0 c h.1 in
    cc
finding-refused (findings.TwoCopyings c d) m h is =
    let n = (sound-no_fault (kind_at m) (raw_slot m) (data_blocks m)).0 is.store.slots.blocks in
    let below = h.0 in
    let low = h.1 in
    let one = committed-of (kind_at m c) h.2 in
    let two = committed-of (kind_at m d) h.3 in
    n.one c d one.0 two.0 (omega (arith, below, low)) low (λ e. omega (arith, e, below)) one.1 two.1
finding-refused (findings.WrongSource c b) m h is =
    let n = (sound-no_fault (kind_at m) (raw_slot m) (data_blocks m)).0 is.store.slots.blocks in
    let p = n.source c b h.0 h.1 in
    no-source b c (data_blocks m) h.2 p.0 p.1 p.2
finding-refused findings.NoRoom m h is = room-refused m h is.store.slots.blocks
finding-refused (findings.NoGeneration s) m h is = slot-finding (findings.NoGeneration s) m h is
finding-refused (findings.NoSuchSector s g) m h is = slot-finding (findings.NoSuchSector s g) m h is
finding-refused (findings.NotNeighbours s t g) m h is = slot-finding (findings.NotNeighbours s t g) m h is
finding-refused (findings.ThreeSlots r s t g) m h is = slot-finding (findings.ThreeSlots r s t g) m h is
finding-refused (findings.TwoLayouts s t g) m h is =
    h.differ (is.store.slots.groups.sectors.apart s t g h.first.generation h.second.generation h.first.content h.second.content h.first.live h.second.live)

-- The kinds, block by block.
groups-two : (m : List ℕ) (groups : Bool) → groups ≡ may_have_groups m → groups ≡ false → layout_in m ≡ 2
groups-two m groups e none = elim (cases_eq (layout_in m) 2) [
  | inl same ↦ same
  | inr other ↦ (let h : false ≡ true = sym none ∙ (e ∙ ap not (ne_eqb (layout_in m) 2 other)) in absurd (let q : false ≡ true = h in cc))
]

target-committed : (found : Found) (kind : ℕ → Kind) (k n c : ℕ) → IsTargetOf found c → FoundBelow found kind k n → (c < k) × IsCommitted (kind c)
target-committed AtRest kind k n c t h = absurd t
target-committed (Void w) kind k n c t h = absurd t
target-committed (Committed s w) kind k n c t h = subst (λ z. (z < k) × IsCommitted (kind z)) (sym t) (h.number, subst (λ z. IsCommitted z) (sym h.committed) tt)

pub kind-explains : (finding : Finding) (groups : Bool) (found : Found) (m : List ℕ) (k : ℕ) → IsKindFault finding groups found k (kind_at m k) (data_blocks m) → k < data_blocks m → FoundBelow found (kind_at m) k (data_blocks m) → groups ≡ may_have_groups m → Explains finding m
kind-explains findings.OtherLayout groups found m k h low f e = absurd h
kind-explains findings.OtherSize groups found m k h low f e = absurd h
kind-explains (findings.Journals fault) groups found m k h low f e = absurd h
kind-explains (findings.UnknownBlock c) groups found m k h low f e = subst (λ z. (z < data_blocks m) × (kind_at m z ≡ kinds.Unknown)) (sym h.0) (low, h.1)
kind-explains (findings.GroupOnSlots c) groups found m k h low f e = subst (λ z. (layout_in m ≡ 2) × (z < data_blocks m) × (is_group (kind_at m z) ≡ true)) (sym h.0) (groups-two m groups e h.2, low, h.1)
kind-explains (findings.TwoCopyings c d) groups found m k h low f e =
    let t = target-committed found (kind_at m) k (data_blocks m) c h.2 f in
    subst (λ z. (c < z) × (z < data_blocks m) × IsCommitted (kind_at m c) × IsCommitted (kind_at m z)) (sym h.0) (t.0, low, t.1, h.1)
kind-explains (findings.WrongSource c b) groups found m k h low f e = subst (λ z. (z < data_blocks m) × (kind_at m z ≡ kinds.Committed b) × IsNoSource b z (data_blocks m)) (sym h.0) (low, h.1, h.2)
kind-explains findings.NoRoom groups found m k h low f e = absurd h
kind-explains (findings.NoGeneration s) groups found m k h low f e = absurd h
kind-explains (findings.NoSuchSector s g) groups found m k h low f e = absurd h
kind-explains (findings.NotNeighbours s t g) groups found m k h low f e = absurd h
kind-explains (findings.ThreeSlots r s t g) groups found m k h low f e = absurd h
kind-explains (findings.TwoLayouts s t g) groups found m k h low f e = absurd h

-- The slots, one by one.
bool-cases : (t : Bool) → (t ≡ true) ⊎ (t ≡ false)
bool-cases true = inl refl
bool-cases false = inr refl

none-some : (b : LiveSlots) → (None ≡ Some b) → ⊥
none-some b e = cc

next-is : (j k : Generation) → j ≡ next_generation k → is_next j k ≡ true
next-is j k e = eq-eqb (generation_byte j) (generation_byte (next_generation k)) (ap generation_byte e)

is-next : (j k : Generation) → is_next j k ≡ true → j ≡ next_generation k
is-next j k e = elim (cases_eq (generation_byte j) (generation_byte (next_generation k))) [
  | inl same ↦ byte-one j (next_generation k) same
  | inr other ↦ (let h : false ≡ true = sym (ne_eqb _ _ other) ∙ e in cc)
]

-- a slot that isn't noted beside another is no neighbour of it
not-next : (held : Held) (n : ℕ) (k : Generation) → noted (entries.One held) (record { slot = n; generation = k }) ≡ None → k ≡ next_generation held.generation → ⊥
not-next held n k e fits = let q : Some (entries.Two (record { slot = n; generation = k }) held) ≡ None = rw (next-is k held.generation fits) at e in none-some _ (sym q)

not-before : (held : Held) (n : ℕ) (k : Generation) → noted (entries.One held) (record { slot = n; generation = k }) ≡ None → held.generation ≡ next_generation k → ⊥
not-before held n k e fits = elim (bool-cases (is_next k held.generation)) [
  | inl both ↦ never-round k held.generation (is-next k held.generation both) fits
  | inr misses ↦ (let q : Some (entries.Two held (record { slot = n; generation = k })) ≡ None = rw (misses, next-is held.generation k fits) at e in none-some _ (sym q))
]

-- a slot that is live with a tag
live-here : (f : ℕ → Slot) (n total : ℕ) (tag : Tag) (x : List ℕ) → n < total → f n ≡ Live tag x → HoldsOne f total n tag.number
live-here f n total tag x low e = record { generation = tag.generation; content = x; live = record { number = low; is = e } }

held-here : (f : ℕ → Slot) (n total s g : ℕ) (k : Generation) (x : List ℕ) → n < total → LiveAt f n s g k x → LiveAt f total s g k x
held-here f n total s g k x low l = (let b = l.number in record { number = omega (arith, b, low); is = l.is })

one-apart : (table : List LiveSlots) (f : ℕ → Slot) (n total g : ℕ) (held : Held) (tag : Tag) (x : List ℕ) → g ≡ tag.number → n < total → f n ≡ Live tag x → OneHolds held f n g → noted (entries.One held) (record { slot = n; generation = tag.generation }) ≡ None → AreNoNeighbours f total held.slot n g
one-apart table f n total g held tag x same low here o none =
    let l = o.live.1 in
    let b = l.number in
    record {
      first = record { generation = held.generation; content = o.live.0; live = held-here f n total held.slot g held.generation o.live.0 low l };
      second = record { generation = tag.generation; content = x; live = subst (λ z. LiveAt f total n z tag.generation x) (sym same) (record { number = low; is = here }) };
      other = λ e. omega (arith, e, b);
      not_after = λ e. not-before held n tag.generation none e;
      not_before = λ e. not-next held n tag.generation none e;
    }

two-three : (f : ℕ → Slot) (n total g : ℕ) (newer older : Held) (tag : Tag) (x : List ℕ) → g ≡ tag.number → n < total → f n ≡ Live tag x → TwoHold newer older f n g → AreThree f total newer.slot older.slot n g
two-three f n total g newer older tag x same low here o =
    let a = o.newer_live.1.number in
    let b = o.older_live.1.number in
    record {
      first = record { generation = newer.generation; content = o.newer_live.0; live = held-here f n total newer.slot g newer.generation o.newer_live.0 low o.newer_live.1 };
      second = record { generation = older.generation; content = o.older_live.0; live = held-here f n total older.slot g older.generation o.older_live.0 low o.older_live.1 };
      third = record { generation = tag.generation; content = x; live = subst (λ z. LiveAt f total n z tag.generation x) (sym same) (record { number = low; is = here }) };
      one_two = two-apart newer older f n g o;
      two_three = λ e. omega (arith, e, b);
      one_three = λ e. omega (arith, e, a);
    }

entry-at : (table : List LiveSlots) (f : ℕ → Slot) (n g : ℕ) (e : LiveSlots) → IsTabled table f n → g < length table → slice_index_or table g entries.Absent ≡ e → EntryHolds e f n g
entry-at table f n g e t low is = subst (λ z. EntryHolds z f n g) is (t.each g low)

tag-fault : (finding : Finding) (table : List LiveSlots) (f : ℕ → Slot) (n total count : ℕ) (tag : Tag) (x : List ℕ) → IsTagFault finding table n tag → n < total → f n ≡ Live tag x → IsTabled table f n → length table ≡ count → IsSlotFault finding f total count
tag-fault findings.OtherLayout table f n total count tag x h low here t size = absurd h
tag-fault findings.OtherSize table f n total count tag x h low here t size = absurd h
tag-fault (findings.Journals fault) table f n total count tag x h low here t size = absurd h
tag-fault (findings.UnknownBlock c) table f n total count tag x h low here t size = absurd h
tag-fault (findings.GroupOnSlots c) table f n total count tag x h low here t size = absurd h
tag-fault (findings.TwoCopyings c d) table f n total count tag x h low here t size = absurd h
tag-fault (findings.WrongSource c b) table f n total count tag x h low here t size = absurd h
tag-fault findings.NoRoom table f n total count tag x h low here t size = absurd h
tag-fault (findings.NoGeneration s) table f n total count tag x h low here t size = absurd h
tag-fault (findings.NoSuchSector s g) table f n total count tag x h low here t size =
    let past = h.2 in
    (subst (λ z. HoldsOne f total z g) (sym h.0) (subst (λ z. HoldsOne f total n z) (sym h.1) (live-here f n total tag x low here)), omega (arith, past, size))
tag-fault (findings.NotNeighbours s w g) table f n total count tag x h low here t size =
    let o = entry-at table f n g (entries.One h.3) t h.2 h.5 in
    subst (λ z. AreNoNeighbours f total z w g) (sym h.4) (subst (λ z. AreNoNeighbours f total h.3.slot z g) (sym h.0) (one-apart table f n total g h.3 tag x h.1 low here o h.6))
tag-fault (findings.ThreeSlots r s w g) table f n total count tag x h low here t size =
    let o = entry-at table f n g (entries.Two h.3 h.4) t h.2 h.7 in
    subst (λ z. AreThree f total z s w g) (sym h.5) (subst (λ z. AreThree f total h.3.slot z w g) (sym h.6) (subst (λ z. AreThree f total h.3.slot h.4.slot z g) (sym h.0) (two-three f n total g h.3 h.4 tag x h.1 low here o)))
tag-fault (findings.TwoLayouts s w g) table f n total count tag x h low here t size = absurd h

pub head-fault : (finding : Finding) (table : List LiveSlots) (f : ℕ → Slot) (n total count : ℕ) (header : Header) (x : List ℕ) → IsHeadFault finding table n header → n < total → f n ≡ slot_with header x → IsTabled table f n → length table ≡ count → IsSlotFault finding f total count
head-fault finding table f n total count headers.Free x h low here t size = absurd h
head-fault finding table f n total count (headers.Live tag) x h low here t size = tag-fault finding table f n total count tag x h low here t size
head-fault finding table f n total count headers.NoGeneration x h low here t size = subst (λ z. IsSlotFault z f total count) (sym h) (low, here)
head-fault finding table f n total count headers.Dead x h low here t size = absurd h

-- a fault of slots explains
pub slot-explains : (finding : Finding) (m : List ℕ) → IsSlotFaultIn finding m → Explains finding m
slot-explains findings.OtherLayout m h = absurd h
slot-explains findings.OtherSize m h = absurd h
slot-explains (findings.Journals fault) m h = absurd h
slot-explains (findings.UnknownBlock c) m h = absurd h
slot-explains (findings.GroupOnSlots c) m h = absurd h
slot-explains (findings.TwoCopyings c d) m h = absurd h
slot-explains (findings.WrongSource c b) m h = absurd h
slot-explains findings.NoRoom m h = absurd h
slot-explains (findings.NoGeneration s) m h = h
slot-explains (findings.NoSuchSector s g) m h = h
slot-explains (findings.NotNeighbours s t g) m h = h
slot-explains (findings.ThreeSlots r s t g) m h = h
slot-explains (findings.TwoLayouts s t g) m h = absurd h

-- a sector of which one of two slots lies in a block of a group
pub mixed-explains : (table : List LiveSlots) (m : List ℕ) (g : ℕ) (newer older : Held) → IsTabled table (slot_at m) (slot_count m) → g < length table → slice_index_or table g entries.Absent ≡ entries.Two newer older → is_group (kind_at m (newer.slot / 7)) ≢ is_group (kind_at m (older.slot / 7)) → Explains (findings.TwoLayouts newer.slot older.slot g) m
mixed-explains table m g newer older t low is differ =
    let h = pair-held table m g newer older t low is in
    record {
      first = record { generation = newer.generation; content = h.newer_live.0; live = h.newer_live.1 };
      second = record { generation = older.generation; content = h.older_live.0; live = h.older_live.1 };
      differ = differ;
    }

-- a slot that can't be entered leaves the table as it was, and can't be entered again
pub heads-same : (old new : List LiveSlots) (n : ℕ) (header : Header) → Heads old n header false new → new ≡ old
heads-same old new n headers.Free h = absurd h
heads-same old new n (headers.Live tag) h = h.0
heads-same old new n headers.NoGeneration h = h
heads-same old new n headers.Dead h = absurd h

pub heads-again : (old new : List LiveSlots) (n : ℕ) (header : Header) → Heads old n header false new → Heads new n header false new
heads-again old new n header h = subst (λ z. Heads z n header false new) (sym (heads-same old new n header h)) h

pub some-weaker : {T : Type 0} (o : Option T) (P Q : T → Type 0) → ((x : T) → P x → Q x) → IfSome o P → IfSome o Q
some-weaker None P Q w h = tt
some-weaker (Some x) P Q w h = w x h

-- What the loop over the table keeps: of the sectors below k none has a mixed pair.
pub record Unmixed (table : List LiveSlots) (k : ℕ) (a b : NorState) : Type 0 where
  pub same : b.memory ≡ a.memory
  pub since : (b ≡ a) ⊎ SucceedsSettled a b
  pub apart : ApartBelow table a.memory k

pub unmixed-quiet : (table : List LiveSlots) (k next : ℕ) (a b c : NorState) → suc k ≡ next → c ≡ b → ((x y : Held) → slice_index_or table k entries.Absent ≢ entries.Two x y) → Unmixed table k a b → Unmixed table next a c
unmixed-quiet table k next a b c e s none h = subst (λ z. Unmixed table next a z) (sym s) (subst (λ z. Unmixed table z a b) e (record { same = h.same; since = h.since; apart = apart-quiet table a.memory k none h.apart }))

pub unmixed-two : (table : List LiveSlots) (k next : ℕ) (x y : Held) (a b c d : NorState) → suc k ≡ next → d ≡ c → slice_index_or table k entries.Absent ≡ entries.Two x y → c.memory ≡ b.memory → SucceedsSettled b c
    → is_group (kind_at b.memory (x.slot / 7)) ≡ is_group (kind_at b.memory (y.slot / 7)) → Unmixed table k a b → Unmixed table next a d
unmixed-two table k next x y a b c d e s is same done alike h = subst (λ z. Unmixed table next a z) (sym s) (subst (λ z. Unmixed table z a c) e (record {
  same = same ∙ h.same;
  since = inr (succeeds-perhaps a b c h.since done);
  apart = apart-two table a.memory k x y is (subst (λ z. is_group (kind_at z (x.slot / 7)) ≡ is_group (kind_at z (y.slot / 7))) h.same alike) h.apart;
}))

-- what an answer that isn't Some is
pub finding-none : (o : Option Finding) → ((x : Finding) → o ≡ Some x → ⊥) → o ≡ None
finding-none None h = refl
finding-none (Some x) h = absurd (h x refl)
