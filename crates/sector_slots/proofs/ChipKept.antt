-- A chip as it reads at the next power-on is sound, and holds the sectors, where each block reads as it did or represents nothing.
use Rattle.std.proofs.Common.{◌≡◌, ◌≢◌, ℕ, zero, suc, ◌+◌, ◌-◌, ◌*◌, ◌<◌, ◌⊎◌, Bool, true, false, List, length, refl, sym, ap, ◌∙◌, subst, arith, inl, inr}
use Rattle.std.proofs.lemmas.Bool.{cases_eq, eq-eqb, true≢false}
use Rattle.chip_model.specs.Geometry.{block_count, sector_count}
use Rattle.chip_model.specs.Wavering.{Bits, Drawn}
use Rattle.nor_layout.specs.declared.kind.Kind.{Kind}
use Rattle.nor_layout.specs.declared.kind.Kind.TheVariants as kinds
use Rattle.nor_layout.specs.Kinds.{kind_of}
use Rattle.erase_journal.specs.Blocks.{is_opened}
use Rattle.erase_journal.specs.Torn.{SameBlock}
use Rattle.sector_slots.specs.Half.{HasMark}
use Rattle.sector_slots.specs.Slots.{Slot, counted, data_blocks, is_copy_of, kind_at, raw_slot, IsSpareIn}
use Rattle.sector_slots.specs.Sectors.{HasSlotsAlone, HoldsSectors, SlotsRepresent}
use Rattle.sector_slots.specs.Blocks.{AreAtRest, AreSound, IsAtRest, IsCopying, IsCutTarget, IsUncommitted, copying, crowded, settled}
use Rattle.sector_slots.specs.Copying.{HoldsNothing}
use Rattle.sector_slots.specs.Losses.{IsFirmDisk}
use Rattle.sector_slots.specs.Steps.{IsErasable}
use Rattle.sector_slots.specs.Weak.{HalfMark, HasChipRoom, HasSureRoom, IsHalfChip, IsSureBlock, committed, found, opened, spare, void}
use Rattle.sector_slots.proofs.AloneLaws.{alone-fit}
use Rattle.sector_slots.proofs.BlankLaws.{blank-kind, erased-spare}
use Rattle.sector_slots.proofs.ChipRooms.{either-opened, firm-kind, still-left, still-read}
use Rattle.sector_slots.proofs.ChipSectors.{IsNewerFirm, blank-reads, opened-blank, slot-read, slot-reads, spare-idle, void-reads}
use Rattle.sector_slots.proofs.FadeLaws.{BlockReads, alike, blocks-stand, resting}
use Rattle.sector_slots.proofs.HalfBlocks.{IsAnyPlace, beside-any, drawn-idle}
use Rattle.sector_slots.proofs.HeadLaws.{committed-plain, marked-slots}
use Rattle.sector_slots.proofs.LeftLaws.{left-idle, with_loss}
use Rattle.sector_slots.proofs.UnopenedLaws.{AreOpenedErasable}

-- a block in which nothing was changed
module _ (a new : Bits) (suspect : ℕ → Bool) (disk : IsFirmDisk a suspect) (size : length new.shown ≡ length a.shown) (v : List ℕ) (d : Drawn new.weak new.shown v) (erasable : AreOpenedErasable a.shown v) (kind : ℕ → Kind) (slots : ℕ → ℕ → Slot) (newer : IsNewerFirm a (counted kind slots (data_blocks a.shown)) (7 * data_blocks a.shown)) where
  -- of which an erase goes on
  pub opened-reads : (e : ℕ) → e < data_blocks a.shown → kind e ≡ kind_at a.shown e → (IsErasable e a.shown → (i : ℕ) → i < 7 → HoldsNothing (counted kind slots (data_blocks a.shown) (7 * e + i))) → (is_opened v (e + 4) ≡ false → BlockReads kind (kind_at v) slots (raw_slot v) (data_blocks a.shown) e)
      → BlockReads kind (kind_at v) slots (raw_slot v) (data_blocks a.shown) e
  opened-reads e low same idle shut = elim (either-opened (is_opened v (e + 4))) as (λ _. BlockReads kind (kind_at v) slots (raw_slot v) (data_blocks a.shown) e) [
    | inl is ↦ blank-reads a v kind slots newer e low same (opened-blank v (e + 4) is) (erasable e low is) (idle (erasable e low is))
    | inr not ↦ shut not
  ]

  pub untouched-reads : (e : ℕ) → e < data_blocks a.shown → SameBlock (e + 4) a new → kind e ≡ kind_at a.shown e → ((i : ℕ) → i < 7 → slots e i ≡ raw_slot a.shown e i) → (IsErasable e a.shown → (i : ℕ) → i < 7 → HoldsNothing (counted kind slots (data_blocks a.shown) (7 * e + i)))
      → BlockReads kind (kind_at v) slots (raw_slot v) (data_blocks a.shown) e
  untouched-reads e low left same slot idle = opened-reads e low same idle (λ shut.
      let sure : IsSureBlock a (suspect e) e = disk.store e low in
      let kept = still-left a new suspect disk size v d e low left shut in
      let r = still-read a new suspect disk size v d e low left shut in
      let each = λ (i : ℕ) (li : i < 7). slot-reads a v kind slots newer e i li (slot i li) (slot-read IsAnyPlace a new e kept v r i li (beside-any i) (suspect e) sure) in
      elim sure.mark as (λ _. BlockReads kind (kind_at v) slots (raw_slot v) (data_blocks a.shown) e) [
        | inl f ↦ alike (firm-kind a new suspect disk size v d e low left shut f ∙ sym same) each
        | inr q ↦ elim (drawn-idle IsAnyPlace (with_loss a new) v e r tt (left-idle IsAnyPlace a new e kept tt (λ i li. beside-any i) q.1)) as (λ _. BlockReads kind (kind_at v) slots (raw_slot v) (data_blocks a.shown) e) [
          | inl plain ↦ alike (plain ∙ sym (same ∙ q.1.spare.plain)) each
          | inr torn ↦ void-reads a v kind slots newer e (λ source c. committed-plain (kind e) source c (same ∙ q.1.spare.plain)) (λ i li. spare-idle a v kind slots newer e i li (λ j lj. slot j lj ∙ q.1.spare.free j lj)) torn
        ]
      ])

-- a block into which nothing is copied, or that is void
pub rest-uncommitted : (k : Kind) → IsAtRest k → IsUncommitted k
rest-uncommitted kinds.Plain h = tt
rest-uncommitted kinds.Void h = tt
rest-uncommitted (kinds.Committed b) h = absurd h
rest-uncommitted kinds.Settled h = tt
rest-uncommitted (kinds.Group tag) h = tt
rest-uncommitted kinds.DeadGroup h = tt
rest-uncommitted kinds.SpoiltGroup h = tt
rest-uncommitted kinds.Unknown h = absurd h

uncommitted-either : (k : Kind) → IsUncommitted k → (k ≡ kinds.Void) ⊎ IsAtRest k
uncommitted-either kinds.Plain h = inr tt
uncommitted-either kinds.Void h = inl refl
uncommitted-either (kinds.Committed b) h = absurd h
uncommitted-either kinds.Settled h = inr tt
uncommitted-either (kinds.Group tag) h = inr tt
uncommitted-either kinds.DeadGroup h = inr tt
uncommitted-either kinds.SpoiltGroup h = inr tt
uncommitted-either kinds.Unknown h = absurd h

self-copy : (b : ℕ) → is_copy_of b (kinds.Committed b) ≡ true
self-copy b = eq-eqb b b refl

marked-uncommitted : (k : Kind) → HasMark k → ((b : ℕ) → is_copy_of b k ≡ false) → IsUncommitted k
marked-uncommitted kinds.Plain m h = tt
marked-uncommitted kinds.Void m h = tt
marked-uncommitted (kinds.Committed b) m h = absurd (true≢false (sym (self-copy b) ∙ h b))
marked-uncommitted kinds.Settled m h = tt
marked-uncommitted (kinds.Group tag) m h = tt
marked-uncommitted kinds.DeadGroup m h = tt
marked-uncommitted kinds.SpoiltGroup m h = tt
marked-uncommitted kinds.Unknown m h = absurd m

search-void : (kind : ℕ → Kind) (n : ℕ) → ((e : ℕ) → e < n → IsUncommitted (kind e)) → ((e : ℕ) × (e < n) × (kind e ≡ kinds.Void)) ⊎ AreAtRest kind n
search-void kind zero each = inr (λ d low. absurd (omega (arith, low)))
search-void kind (suc n) each = elim (uncommitted-either (kind n) (each n (omega arith))) [
  | inl is ↦ inl (n, omega arith, is)
  | inr here ↦ elim (search-void kind n (λ e low. each e (omega (arith, low)))) [
    | inl f ↦ (let low = f.1 in inl (f.0, omega (arith, low), f.2))
    | inr rest ↦ inr (λ d low. elim (cases_eq d n) as (λ _. IsAtRest (kind d)) [ inl same ↦ subst (λ q. IsAtRest (kind q)) (sym same) here | inr other ↦ rest d (omega (arith, low, other)) ])
  ]
]

-- no block is committed, or one
abbrev pub HasOneCopy : (ℕ → Kind) → ℕ → Type 0
HasOneCopy kind n = ((e : ℕ) → e < n → IsUncommitted (kind e)) ⊎ ((t : ℕ) × IsCutTarget t n kind)

pub rest-one : (kind : ℕ → Kind) (n : ℕ) → AreAtRest kind n → HasOneCopy kind n
rest-one kind n rest = inl (λ e low. rest-uncommitted (kind e) (rest e low))

pub sound-one : (m : List ℕ) → AreSound m → HasOneCopy (kind_at m) (data_blocks m)
sound-one m (settled h) = rest-one (kind_at m) (data_blocks m) h.rest
sound-one m (crowded rest room) = rest-one (kind_at m) (data_blocks m) rest
sound-one m (copying t h) = inr (t, h)

-- Room while nothing is copied.
room-spare : (v : List ℕ) (weak : List ℕ) → AreAtRest (kind_at v) (data_blocks v) → HasChipRoom (record { shown = v; weak = weak }) → (c : ℕ) × (c < data_blocks v) × IsSpareIn v c
room-spare v weak rest (opened c low is) = (c, low, erased-spare v c (opened-blank v (c + 4) is))
room-spare v weak rest (found room) = from room where
  from : HasSureRoom (record { shown = v; weak = weak }) → (c : ℕ) × (c < data_blocks v) × IsSpareIn v c
  from (spare c low is sure) = (c, low, is)
  from (void c low is) = absurd (subst (λ k. IsAtRest k) is (rest c low))
  from (committed s t low inside is sure) = absurd (subst (λ k. IsAtRest k) is (rest t inside))

uncommitted-sound : (v weak : List ℕ) → ((e : ℕ) → e < data_blocks v → IsUncommitted (kind_at v e)) → HasChipRoom (record { shown = v; weak = weak }) → AreSound v
uncommitted-sound v weak each room = elim (search-void (kind_at v) (data_blocks v) each) as (λ _. AreSound v) [
  | inl f ↦ copying f.0 (record { number = f.1; copying = subst (λ k. IsCopying k f.0 (data_blocks v)) (sym f.2) tt; others = λ d low other. each d low })
  | inr rest ↦ (let s = room-spare v weak rest room in settled (record { rest = rest; reserve = s.0; number = s.1; spare = s.2 }))
]

-- The blocks are sound, where each is of the kind that it was, or isn't committed.
later-sound : (v weak : List ℕ) (kind : ℕ → Kind) → ((e : ℕ) → e < data_blocks v → (kind_at v e ≡ kind e) ⊎ IsUncommitted (kind_at v e)) → HasOneCopy kind (data_blocks v) → HasChipRoom (record { shown = v; weak = weak }) → AreSound v
later-sound v weak kind each (inl all) room = uncommitted-sound v weak (λ e low. elim (each e low) as (λ _. IsUncommitted (kind_at v e)) [ inl same ↦ subst (λ k. IsUncommitted k) (sym same) (all e low) | inr is ↦ is ]) room
later-sound v weak kind each (inr (t, cut)) room =
    let others : (e : ℕ) → e < data_blocks v → e ≢ t → IsUncommitted (kind_at v e) = λ e low other. elim (each e low) as (λ _. IsUncommitted (kind_at v e)) [
      | inl same ↦ subst (λ k. IsUncommitted k) (sym same) (cut.others e low other)
      | inr is ↦ is
    ] in
    elim (each t cut.number) as (λ _. AreSound v) [
      | inl same ↦ copying t (record { number = cut.number; copying = subst (λ k. IsCopying k t (data_blocks v)) (sym same) cut.copying; others = others })
      | inr is ↦ uncommitted-sound v weak (λ e low. elim (cases_eq e t) as (λ _. IsUncommitted (kind_at v e)) [ inl at ↦ subst (λ q. IsUncommitted (kind_at v q)) (sym at) is | inr other ↦ others e low other ]) room
    ]

-- a block that the next mount can read is of slots, with a known mark
half-marked : (k : Kind) (b : Bits) (c : ℕ) → HalfMark k b c → HasMark k
half-marked kinds.Plain b c h = tt
half-marked kinds.Void b c h = tt
half-marked (kinds.Committed source) b c h = tt
half-marked kinds.Settled b c h = tt
half-marked (kinds.Group tag) b c h = h
half-marked kinds.DeadGroup b c h = h
half-marked kinds.SpoiltGroup b c h = h
half-marked kinds.Unknown b c h = h

chip-marked : (v weak : List ℕ) → IsHalfChip (record { shown = v; weak = weak }) → (e : ℕ) → e < data_blocks v → HasMark (kind_at v e)
chip-marked v weak h e low = elim (either-opened (is_opened v (e + 4))) as (λ _. HasMark (kind_at v e)) [
  | inl is ↦ subst (λ k. HasMark k) (sym (ap kind_of (opened-blank v (e + 4) is) ∙ blank-kind)) tt
  | inr shut ↦ half-marked (kind_at v e) (record { shown = v; weak = weak }) e (h.each e low shut).mark
]

reads-kind : (kind kind' : ℕ → Kind) (slots slots' : ℕ → ℕ → Slot) (n e : ℕ) → HasMark (kind' e) → BlockReads kind kind' slots slots' n e → (kind' e ≡ kind e) ⊎ IsUncommitted (kind' e)
reads-kind kind kind' slots slots' n e marked (alike k each) = inl k
reads-kind kind kind' slots slots' n e marked (resting was is q r) = inr (marked-uncommitted (kind' e) marked is)

-- So it holds the sectors.
pub reads-hold : (v weak : List ℕ) (size : ℕ) (kind : ℕ → Kind) (slots : ℕ → ℕ → Slot) (sectors : ℕ → List ℕ) → length v ≡ size → IsHalfChip (record { shown = v; weak = weak })
    → ((e : ℕ) → e < block_count size - 4 → BlockReads kind (kind_at v) slots (raw_slot v) (block_count size - 4) e) → HasOneCopy kind (block_count size - 4)
    → SlotsRepresent (counted kind slots (block_count size - 4)) (7 * (block_count size - 4)) (sector_count size) sectors → HoldsSectors sectors v
reads-hold v weak size kind slots sectors same half each one stands =
    let n : data_blocks v ≡ block_count size - 4 = ap (λ l. block_count l - 4) same in
    let marked = chip-marked v weak half in
    let alone : HasSlotsAlone v = λ c low. marked-slots (kind_at v c) (marked c low) in
    let after = blocks-stand kind (kind_at v) slots (raw_slot v) (block_count size - 4) each (sector_count size) sectors stands in
    record {
      slots = subst (λ l. SlotsRepresent (counted (kind_at v) (raw_slot v) (block_count l - 4)) (7 * (block_count l - 4)) (sector_count l) sectors) (sym same) after;
      blocks = later-sound v weak kind (λ e low. reads-kind kind (kind_at v) slots (raw_slot v) (block_count size - 4) e (marked e low) (each e (subst (λ k. e < k) n low))) (subst (λ k. HasOneCopy kind k) (sym n) one) half.room;
      groups = alone-fit v alone;
    }
