-- What a loss of power in a copying leaves: before the change that it interrupted the chip was firm.
use Rattle.std.proofs.Common.{◌≡◌, ◌≢◌, ℕ, ◌+◌, ◌-◌, ◌*◌, ◌<◌, Bool, false, List, length, refl, sym, ap, ◌∙◌, subst, arith, inl, inr, if◌then◌else◌}
use Rattle.std.specs.Prelude.{◌/◌, ◌%◌, ◌==◌}
use Rattle.std.proofs.lemmas.Bool.{cases_eq, cond-true, cond-false, eq-eqb, ne_eqb}
use Rattle.chip_model.specs.Geometry.{block_count}
use Rattle.chip_model.specs.Wavering.{Bits}
use Rattle.nor_driver.specs.State.{NorState, IsFirmer, bits_in}
use Rattle.nor_layout.specs.declared.kind.Kind.TheVariants as kinds
use Rattle.erase_journal.specs.Blocks.{OnlyBlock, WithErased}
use Rattle.erase_journal.specs.Steps.{SucceedsSettled, block_erased}
use Rattle.erase_journal.proofs.SettledLaws.{settled-healthy}
use Rattle.erase_journal.proofs.WeakLaws.{are-firm-stays}
use Rattle.sector_slots.specs.Slots.{slot_at, slot_count, data_blocks, kind_at, raw_slot, IsSpareIn}
use Rattle.sector_slots.specs.Steps.{OnlyMark}
use Rattle.sector_slots.specs.Losses.{AreNewerFirm, HasSureSlots, HasWholeSources, IsFirmDisk}
use Rattle.sector_slots.specs.Weak.{mark_place, descriptor_place, IsWhollyFirm, IsSureBlock, IsFirmStore, void, committed}
use Rattle.sector_slots.proofs.BlankLaws.{erased-spare}
use Rattle.sector_slots.proofs.ChipBlocks.{one-source}
use Rattle.sector_slots.proofs.CopyLaws.{erase_source-same}
use Rattle.sector_slots.proofs.DiskLaws.{disk-after, single-newer, wholly-room}
use Rattle.sector_slots.proofs.FirmLaws.{edges-stay, sure-stays, doubtful-stays, block-stays, wholly-slot, wholly-block, sure-doubted}
use Rattle.sector_slots.proofs.MachineLaws.{block-data}
use Rattle.sector_slots.proofs.PlaceLaws.{later-is}
use Rattle.sector_stock.specs.Copy.{KeepsSectors, IsCopyable, IsCommittedIn}
use Rattle.sector_stock.specs.CopySteps.{IsCopiedTo, IsExactTo, CopyProgress}
use Rattle.sector_stock.proofs.Copying.{progress-alone, same-sectors-sound, source-whole, commit-keeps, commit-sound, commit-single, commit-done, committed-found, erases-now, erase-cut}
use Rattle.sector_stock.proofs.FirmCopies.{block-filled}
use Rattle.sector_stock.proofs.Renewing.{spare-done, spare-keeps}

-- Block t alone was changed: another one that is wholly free was,
pub others-spare : (t c : ℕ) (m m' : List ℕ) → OnlyBlock (t + 4) m m' → c < data_blocks m → c ≢ t → IsSpareIn m' c → IsSpareIn m c
others-spare t c m m' only low other h =
    let beside = block-data t m m' only in
    record { plain = sym (beside.same_kind c low other) ∙ h.plain; free = λ i small. sym (beside.same_slots c i low other) ∙ h.free i small }

-- and all others are as the next firm mount needs them
only-store : (t : ℕ) (a b : Bits) (suspect later : ℕ → Bool) → IsFirmer a b → OnlyBlock (t + 4) a.shown b.shown → ((c : ℕ) → c ≢ t → later c ≡ suspect c) → IsSureBlock b (later t) t → IsFirmStore a suspect → IsFirmStore b later
only-store t a b suspect later f only same here h c low =
    let n : data_blocks b.shown ≡ data_blocks a.shown = ap (λ k. block_count k - 4) only.chip.same_length in
    let inside : c < data_blocks a.shown = omega (arith, low, n) in
    let beside = block-data t a.shown b.shown only in
    elim (cases_eq c t) as (λ _. IsSureBlock b (later c) c) [
      | inl e ↦ subst (λ d. IsSureBlock b (later d) d) (sym e) here
      | inr ne ↦ subst (λ q. IsSureBlock b q c) (sym (same c ne)) (block-stays a b f (suspect c) c (beside.same_kind c inside ne) (λ i tiny. beside.same_slots c i inside ne) (h c inside))
    ]

-- A copying goes on, into a block that was wholly free and trusted.
pub progress-keeps : (j s t : ℕ) (m0 m : List ℕ) → CopyProgress j s t m0 m → KeepsSectors m0 m
progress-keeps j s t m0 m p = record { chip = p.only.chip; sectors = p.sectors; alone = progress-alone j s t m0 m p; clean = p.clean }

pub copying-disk : (j s t : ℕ) (a b : NorState) (suspect : ℕ → Bool) → IsFirmDisk (bits_in a) suspect → suspect t ≡ false → IsCopyable s t a.memory → SucceedsSettled a b → CopyProgress j s t a.memory b.memory → IsFirmDisk (bits_in b) suspect
copying-disk j s t a b suspect h trusted may done p =
    let was : IsSureBlock (bits_in a) false t = subst (λ q. IsSureBlock (bits_in a) q t) trusted (h.store t may.target) in
    let here : IsSureBlock (bits_in b) (suspect t) t = sure-doubted (bits_in b) (suspect t) t (block-filled (bits_in a) (bits_in b) done.kept.bits t may.spare was) in
    disk-after a b suspect suspect h done p.only.chip.same_length p.copied.sound (progress-alone j s t a.memory b.memory p h.alone) (p.clean h.clean) (single-newer (bits_in b) p.copied.single)
    (only-store t (bits_in a) (bits_in b) suspect suspect done.kept.bits p.only (λ c ne. refl) here h.store)
    (void t p.copied.target.number p.copied.begun.void)

-- The mark alone was changed of a block that wasn't wholly free.
block-marked : (a b : Bits) → IsFirmer a b → (suspect : Bool) (c : ℕ) → (IsSpareIn a.shown c → ⊥) → ((i : ℕ) → i < 7 → raw_slot b.shown c i ≡ raw_slot a.shown c i) → IsSureBlock a suspect c → IsSureBlock b suspect c
block-marked a b f suspect c part same h = record {
  edges = edges-stay a b f c h.edges;
  mark = elim h.mark [ inl m ↦ inl (are-firm-stays a b (mark_place c) 4 f m) | inr d ↦ absurd (part d.1.spare) ];
  slots = λ i low. elim (h.slots i low) [
    | inl s ↦ inl (sure-stays a b f c i low (same i low) s)
    | inr d ↦ inr (d.0, doubtful-stays a b f c i (λ j below. same j (omega (arith, below, low))) d.1)
  ];
}

void-part : (m : List ℕ) (c : ℕ) → kind_at m c ≡ kinds.Void → IsSpareIn m c → ⊥
void-part m c is spare = let e : kinds.Void ≡ kinds.Plain = sym is ∙ spare.plain in cc

-- The copy was committed.
pub committed-disk : (s t : ℕ) (a b : NorState) (suspect : ℕ → Bool) → IsFirmDisk (bits_in a) suspect → SucceedsSettled a b → IsCopiedTo 7 s t a.memory → IsExactTo 7 s t a.memory → (IsSpareIn a.memory s → ⊥)
    → OnlyMark t a.memory b.memory → kind_at b.memory t ≡ kinds.Committed (s + 4) → IsFirmDisk (bits_in b) suspect
committed-disk s t a b suspect h done c x part mark e =
    let n : data_blocks b.memory ≡ data_blocks a.memory = ap (λ k. block_count k - 4) mark.only.chip.same_length in
    let ls = c.number in
    let lt = c.target.number in
    let kept = commit-keeps s t a.memory b.memory c mark e x in
    let here = block-marked (bits_in a) (bits_in b) done.kept.bits (suspect t) t (void-part a.memory t c.begun.void) mark.slots (h.store t c.target.number) in
    disk-after a b suspect suspect h done mark.only.chip.same_length (commit-sound s t a.memory b.memory c mark e) (kept.alone h.alone) (kept.clean h.clean)
    (single-newer (bits_in b) (commit-single s t a.memory b.memory c mark e x))
    (only-store t (bits_in a) (bits_in b) suspect suspect done.kept.bits mark.only (λ d ne. refl) here h.store)
    (committed s t (omega (arith, ls, n)) (omega (arith, lt, n)) e (λ spare. absurd (part (others-spare t s a.memory b.memory mark.only ls c.other spare))))

-- no slot of its source is without a generation: they all counted before
pub committed-sources : (s t : ℕ) (m m' : List ℕ) → IsCopiedTo 7 s t m → OnlyMark t m m' → kind_at m' t ≡ kinds.Committed (s + 4) → HasWholeSources m'
committed-sources s t m m' c mark e =
    one-source m' s t (commit-done s t m m' c mark e).target e (λ i low none. source-whole 7 s t m i c low (sym ((block-data t m m' mark.only).same_slots s i c.number c.other) ∙ none))

-- the slots that count are what they were
newer-stays : (a b : Bits) → IsFirmer a b → length b.shown ≡ length a.shown → ((w : ℕ) → w < slot_count a.shown → slot_at b.shown w ≡ slot_at a.shown w) → AreNewerFirm a → AreNewerFirm b
newer-stays a b f size same h s t g j k x y p q other =
    let n : slot_count b.shown ≡ slot_count a.shown = ap (λ l. 7 * (block_count l - 4)) size in
    let low = p.number in
    let small = q.number in
    let ls : s < slot_count a.shown = omega (arith, low, n) in
    let lt : t < slot_count a.shown = omega (arith, small, n) in
    elim (h s t g j k x y (record { number = ls; is = sym (same s ls) ∙ p.is }) (record { number = lt; is = sym (same t lt) ∙ q.is }) other) [
      | inl firm ↦ inl (are-firm-stays a b (descriptor_place (s / 7) (s % 7)) 4 f firm)
      | inr older ↦ inr older
    ]

-- A block was erased none of whose slots counted as live.
pub erased-disk : (c : ℕ) (a b : NorState) (suspect later : ℕ → Bool) → IsFirmDisk (bits_in a) suspect → SucceedsSettled a b → c < data_blocks a.memory → WithErased (c + 4) a.memory b.memory → IsWhollyFirm b.weak c → KeepsSectors a.memory b.memory
    → ((w : ℕ) → w < slot_count a.memory → slot_at b.memory w ≡ slot_at a.memory w) → ((d : ℕ) → d ≢ c → later d ≡ suspect d) → IsFirmDisk (bits_in b) later
erased-disk c a b suspect later h done low w firm kept same others =
    let n : data_blocks b.memory ≡ data_blocks a.memory = ap (λ k. block_count k - 4) w.only.chip.same_length in
    disk-after a b suspect later h done w.only.chip.same_length (same-sectors-sound a.memory b.memory kept.sectors h.sound) (kept.alone h.alone) (kept.clean h.clean)
    (newer-stays (bits_in a) (bits_in b) done.kept.bits w.only.chip.same_length same h.newer)
    (only-store c (bits_in a) (bits_in b) suspect later done.kept.bits w.only others (wholly-block (bits_in b) (later c) c firm) h.store)
    (wholly-room (bits_in b) c (omega (arith, low, n)) (erased-spare b.memory c w.erased) firm)

-- the source of a committed copy
pub source-keeps : (s t : ℕ) (a b : NorState) → SucceedsSettled a b → IsCommittedIn s t a.memory → WithErased (s + 4) a.memory b.memory → KeepsSectors a.memory b.memory
source-keeps s t a b done h w = erase-cut s t a.memory a.memory b.memory (committed-found s t a.memory h) (block_erased (settled-healthy b.memory done.settled) w)

pub source-disk : (s t : ℕ) (a b : NorState) (suspect : ℕ → Bool) → IsFirmDisk (bits_in a) suspect → SucceedsSettled a b → s < data_blocks a.memory → IsCommittedIn s t a.memory → WithErased (s + 4) a.memory b.memory → IsWhollyFirm b.weak s → IsFirmDisk (bits_in b) suspect
source-disk s t a b suspect h done low c w firm =
    let now = erases-now s t a.memory a.memory b.memory (committed-found s t a.memory c) w in
    erased-disk s a b suspect suspect h done low w firm (source-keeps s t a b done c w)
    (λ v inside. later-is a.memory b.memory v w.only.chip.same_length ∙ erase_source-same s t (data_blocks a.memory) (kind_at a.memory) (kind_at b.memory) (raw_slot a.memory) (raw_slot b.memory) now v inside)
    (λ d ne. refl)

pub wholly-slots : (b : Bits) (c : ℕ) → IsWhollyFirm b.weak c → HasSureSlots b c
wholly-slots b c firm i low = wholly-slot b c i low firm

-- and the block that is copied into: it is trusted, and all others are as they were
abbrev pub trusting : (ℕ → Bool) → ℕ → ℕ → Bool
trusting suspect t c = if c == t then false else suspect c

pub trusting-it : (suspect : ℕ → Bool) (t : ℕ) → trusting suspect t t ≡ false
trusting-it suspect t = cond-true _ _ _ (eq-eqb t t refl)

pub target-disk : (s t : ℕ) (a b : NorState) (suspect : ℕ → Bool) → IsFirmDisk (bits_in a) suspect → SucceedsSettled a b → IsCopyable s t a.memory → WithErased (t + 4) a.memory b.memory → IsWhollyFirm b.weak t → IsFirmDisk (bits_in b) (trusting suspect t)
target-disk s t a b suspect h done may w firm =
    erased-disk t a b suspect (trusting suspect t) h done may.target w firm (spare-keeps t a.memory b.memory may.target may.spare w)
    (spare-done t a.memory b.memory (record { rest = may.rest; reserve = t; number = may.target; spare = may.spare }) may.target may.spare w).slots
    (λ d ne. cond-false _ _ _ (ne_eqb d t ne))
