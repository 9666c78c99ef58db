-- What the calls of a copying leave, in the words of the machine.
use Rattle.std.proofs.Common.{◌≡◌, ◌≢◌, ℕ, ◌+◌, ◌-◌, ◌*◌, ◌/◌, ◌%◌, ◌<◌, ◌⊎◌, false, List, refl, sym, ap, ◌∙◌, subst, arith, inl, inr}
use Rattle.std.proofs.lemmas.Bool.{cases_eq}
use Rattle.chip_model.specs.Geometry.{block_count}
use Rattle.nor_layout.specs.declared.kind.Kind.{Kind}
use Rattle.nor_layout.specs.declared.kind.Kind.TheVariants as kinds
use Rattle.erase_journal.specs.Blocks.{SameChip, OnlyBlock, SameBlocks, WithErased}
use Rattle.erase_journal.specs.Steps.{EraseInterrupted, as_it_was, block_erased}
use Rattle.sector_slots.specs.Slots.{Free, is_group, is_copy_of, slot_in, content_bytes, data_blocks, data_block, kind_at, raw_slot, IsClean, IsSpareIn, Slot, Live, NoGeneration, Dead, Outside, slot_at, slot_count, is_void, copies as copies_of}
use Rattle.sector_slots.specs.Blocks.{IsTarget, IsAtRest}
use Rattle.sector_slots.proofs.BlockLaws.{begin-target, copy-target, commit-target, erase_source-target}
use Rattle.sector_slots.specs.Copying.{IsCopy, copy_slot, to_copy, source_slot, BeginsCopy, Commits, ErasesSource, Settles, ErasesVoid, HoldsNothing, SameLive}
use Rattle.sector_slots.specs.Sectors.{IsSingle, IsSoundMap, HasSlotsAlone, sector_at}
use Rattle.sector_slots.proofs.AloneLaws.{block-alone, blocks-alone}
use Rattle.sector_slots.specs.Steps.{OnlyPlace, OnlyMark, IsBegun, IsErasedSlot, IsErasable, CopyLeaves, live_copied, passed_over}
use Rattle.sector_slots.specs.Machine.{SlotStep, begins, copies, commits, erases_source, settles, erases_void}
use Rattle.sector_slots.proofs.MachineLaws.{block-data, step-holds, step-single, last-settles}
use Rattle.sector_slots.proofs.SlotLaws.{copy-is, copy-is_exact}
use Rattle.sector_slots.proofs.CopyLaws.{copy-exact, copied-from, counted-in, at-rest-counts, void-copies, committed-source, counted-other, quiet-live, counted-source, source-copies, counted-void, erase_source-same, settle-live, erase_void-live}
use Rattle.sector_slots.proofs.PlaceLaws.{later, later-is}
use Rattle.sector_slots.proofs.StepLaws.{chip-after}
use Rattle.nor_layout.specs.Kinds.{kind_of}
use Rattle.sector_slots.proofs.CleanLaws.{clean-only, clean-blocks, void-clean, commit-clean, erase_source-clean, settle-clean, committed-clean}
use Rattle.sector_slots.proofs.BlankLaws.{blank-content, counted-same, erased-spare, same-holds, unchanged-holds, blocks-holds, sound-holds, holds-sound}
use Rattle.nor_layout.specs.declared.header.Tag.{Tag}
use Rattle.sector_stock.specs.Copy.{IsFresh, bare, SameSectors, KeepsSectors, Stays, IsCopyable, IsFinished, Copies, Reclaimed, EndsCopy, EndsVoid, IsVoidIn, IsCommittedIn}
use Rattle.sector_stock.specs.CopySteps.{IsCopiedTo, IsExactTo, CopyProgress, Finishes, FinishLeaves}
use Rattle.sector_stock.proofs.Tags.{bare-whole, tags-sound, bare-to_copy, to_copy-whole}

-- the same number of blocks
blocks-same : (m m' : List ℕ) → SameChip m m' → data_blocks m' ≡ data_blocks m
blocks-same m m' chip = ap (λ n. block_count n - 4) chip.same_length

target-sized : (t : ℕ) (m m' : List ℕ) → SameChip m m' → IsTarget t (data_blocks m) (kind_at m') → IsTarget t (data_blocks m') (kind_at m')
target-sized t m m' chip h = subst (λ n. IsTarget t n (kind_at m')) (sym (blocks-same m m' chip)) h

keeps : (m m' : List ℕ) → SameChip m m' → SameSectors m m' → (HasSlotsAlone m → HasSlotsAlone m') → (IsClean m → IsClean m') → KeepsSectors m m'
keeps m m' chip sectors alone clean = record { chip = chip; sectors = sectors; alone = alone; clean = clean }

-- a block of this kind isn't of a group
of-kind : (t : ℕ) (m m' : List ℕ) (k : Kind) → OnlyBlock (t + 4) m m' → kind_at m' t ≡ k → is_group k ≡ false → HasSlotsAlone m → HasSlotsAlone m'
of-kind t m m' k only now none = block-alone t m m' only (λ q. ap is_group now ∙ none)

-- begin
begins-now : (s t : ℕ) (m m' : List ℕ) → IsCopyable s t m → OnlyMark t m m' → kind_at m' t ≡ kinds.Void → BeginsCopy t (data_blocks m) (kind_at m) (kind_at m') (raw_slot m) (raw_slot m')
begins-now s t m m' h mark void = record { number = h.target; rest = h.rest; spare = h.spare; only = block-data t m m' mark.only; now = void }

-- a step keeps sectors, soundness and single slots
step-sectors : (s t : ℕ) (m m' : List ℕ) → SlotStep s t m m' → SameSectors m m'
step-sectors s t m m' step sectors h = step-holds s t m m' sectors step h

pub same-sectors-sound : (m m' : List ℕ) → SameSectors m m' → IsSoundMap m → IsSoundMap m'
same-sectors-sound m m' same sound = holds-sound m' (sector_at m) (same (sector_at m) (sound-holds m sound))

step-singles : (s t : ℕ) (m m' : List ℕ) → SlotStep s t m m' → IsSoundMap m → IsSingle m → IsSingle m'
step-singles s t m m' step sound single = step-single s t m m' step sound.slots.whole single

begin-step : (s t : ℕ) (m m' : List ℕ) → IsCopyable s t m → OnlyMark t m m' → kind_at m' t ≡ kinds.Void → SlotStep s t m m'
begin-step s t m m' h mark void = begins mark.only.chip (begins-now s t m m' h mark void)

begin-clean : (s t : ℕ) (m m' : List ℕ) → IsCopyable s t m → OnlyMark t m m' → kind_at m' t ≡ kinds.Void → IsClean m → IsClean m'
begin-clean s t m m' h mark void clean = void-clean t m m' kinds.Plain mark.only h.spare.plain (λ b. refl) void clean

unchanged-clean : (t : ℕ) (m m' : List ℕ) → OnlyBlock (t + 4) m m' → data_block m' t ≡ data_block m t → IsClean m → IsClean m'
unchanged-clean t m m' only same clean =
    let each : (d : ℕ) → d < data_blocks m → data_block m' d ≡ data_block m d = λ d low. elim (cases_eq d t) as (λ _. data_block m' d ≡ data_block m d) [
      | inl e ↦ ap (λ a. data_block m' a) e ∙ (same ∙ ap (λ a. data_block m a) (sym e))
      | inr ne ↦ only.others (d + 4) (omega arith) (omega (arith, low)) (λ e. ne (omega (arith, e)))
    ] in
    clean-blocks m m' only.chip each (λ w low. counted-same (kind_at m) (kind_at m') (raw_slot m) (raw_slot m') (data_blocks m) w (λ d h. ap kind_of (each d h)) (λ d i h small. ap (λ b. slot_in b i) (each d h)) low) clean

pub same-clean : (m m' : List ℕ) → SameBlocks m m' → IsClean m → IsClean m'
same-clean m m' same clean =
    let each : (d : ℕ) → d < data_blocks m → data_block m' d ≡ data_block m d = λ d low. same.each (d + 4) (omega arith) (omega (arith, low)) in
    clean-blocks m m' same.chip each (λ w low. counted-same (kind_at m) (kind_at m') (raw_slot m) (raw_slot m') (data_blocks m) w (λ d h. ap kind_of (each d h)) (λ d i h small. ap (λ b. slot_in b i) (each d h)) low) clean

-- what keeps the sectors leaves slots and blocks that a mount accepts
pub stays-kept : (m m' : List ℕ) → KeepsSectors m m' → Stays m m'
stays-kept m m' k = record { chip = k.chip; sound = λ s. same-sectors-sound m m' k.sectors s; alone = k.alone; exact = λ c. k }

pub begin-keeps : (s t : ℕ) (m m' : List ℕ) → IsCopyable s t m → OnlyMark t m m' → (data_block m' t ≡ data_block m t) ⊎ (kind_at m' t ≡ kinds.Void) → KeepsSectors m m'
begin-keeps s t m m' h mark (inl same) = (keeps m m' mark.only.chip (λ sectors holds. unchanged-holds t m m' sectors mark.only same holds) (block-alone t m m' mark.only (λ q. ap (λ b. is_group (kind_of b)) same ∙ q)) (unchanged-clean t m m' mark.only same))
begin-keeps s t m m' h mark (inr void) = (keeps m m' mark.only.chip (step-sectors s t m m' (begin-step s t m m' h mark void)) (of-kind t m m' kinds.Void mark.only void refl) (begin-clean s t m m' h mark void))

pub begin-cut : (s t : ℕ) (m m' : List ℕ) → IsCopyable s t m → OnlyMark t m m' → (data_block m' t ≡ data_block m t) ⊎ (kind_at m' t ≡ kinds.Void) → Stays m m'
begin-cut s t m m' h mark left = stays-kept m m' (begin-keeps s t m m' h mark left)

-- a wholly free block of a clean memory is fresh
pub clean-fresh : (s t : ℕ) (m : List ℕ) → IsCopyable s t m → IsClean m → IsFresh t m
clean-fresh s t m h clean i low = ap (λ q. content_bytes q i) (clean.spare t h.target h.spare) ∙ blank-content i low

begin-fresh : (s t : ℕ) (m m' : List ℕ) → IsCopyable s t m → IsFresh t m → OnlyMark t m m' → (i : ℕ) → i < 7 → IsErasedSlot t i m'
begin-fresh s t m m' h fresh mark i low = record {
  free = mark.slots i low ∙ h.spare.free i low;
  blank = mark.contents i low ∙ fresh i low;
}

pub begin-progress : (s t : ℕ) (m m' : List ℕ) → IsCopyable s t m → OnlyMark t m m' → IsBegun t s m' → CopyProgress 0 s t m m'
begin-progress s t m m' h mark begun =
    let b = begins-now s t m m' h mark begun.void in
    let step = begin-step s t m m' h mark begun.void in
    let size = blocks-same m m' mark.only.chip in
    let sectors = step-sectors s t m m' step in
    record {
      only = mark.only;
      copied = record {
        number = (let q = h.source in omega (arith, q, size));
        other = h.other;
        target = target-sized t m m' mark.only.chip (begin-target t (data_blocks m) (kind_at m) (kind_at m') (raw_slot m) (raw_slot m') b);
        begun = begun;
        tags = λ i low. absurd (omega (arith, low));
        free = λ i low all. mark.slots i low ∙ h.spare.free i low;
        sound = same-sectors-sound m m' sectors h.sound;
        single = step-singles s t m m' step h.sound h.single;
      };
      sectors = sectors;
      exact = λ fresh. record {
        copied = λ i low. absurd (omega (arith, low));
        fresh = λ i low all. begin-fresh s t m m' h fresh mark i low;
        unwritten = λ i low all. begin-fresh s t m m' h fresh mark i low;
      };
      clean = λ clean. begin-clean s t m m' h mark begun.void clean;
    }

-- two changes of one block
only-twice : (c : ℕ) (a b d : List ℕ) → OnlyBlock c a b → OnlyBlock c b d → OnlyBlock c a d
only-twice c a b d p q = record {
  chip = chip-after a b d p.chip q.chip;
  others = λ e high low ne. let n = p.chip.same_length in q.others e high (subst (λ k. e < block_count k) (sym n) low) ne ∙ p.others e high low ne;
}

-- copy
place-only : (t j : ℕ) (m m' : List ℕ) → j < 7 → OnlyPlace (7 * t + j) m m' → OnlyBlock (t + 4) m m'
place-only t j m m' low h = let q : (7 * t + j) / 7 ≡ t = omega arith in subst (λ c. OnlyBlock (c + 4) m m') q h.only

place-slots : (t j i : ℕ) (m m' : List ℕ) → j < 7 → i < 7 → i ≢ j → OnlyPlace (7 * t + j) m m' → raw_slot m' t i ≡ raw_slot m t i
place-slots t j i m m' low small other h =
    let q : (7 * t + j) / 7 ≡ t = omega arith in
    subst (λ c. raw_slot m' c i ≡ raw_slot m c i) q (h.slots i small (λ e. other (omega (arith, e, q))))

copies-now : (j s t : ℕ) (m m' : List ℕ) → IsCopiedTo j s t m → OnlyBlock (t + 4) m m' → kind_at m' t ≡ kinds.Void → SlotStep s t m m'
copies-now j s t m m' h only void = copies only.chip (record { target = h.target; was = h.begun.void; only = block-data t m m' only; now = void })

copy-clean : (t : ℕ) (m m' : List ℕ) → OnlyBlock (t + 4) m m' → kind_at m t ≡ kinds.Void → kind_at m' t ≡ kinds.Void → IsClean m → IsClean m'
copy-clean t m m' only was now clean = void-clean t m m' kinds.Void only was (λ b. refl) now clean

pub progress-alone : (j s t : ℕ) (m0 m : List ℕ) → CopyProgress j s t m0 m → HasSlotsAlone m0 → HasSlotsAlone m
progress-alone j s t m0 m p = of-kind t m0 m kinds.Void p.only p.copied.begun.void refl

pub copy-keeps : (j s t : ℕ) (m0 m m' : List ℕ) → j < 7 → CopyProgress j s t m0 m → OnlyPlace (7 * t + j) m m' → (kind_at m t ≡ kinds.Void → kind_at m' t ≡ kinds.Void) → KeepsSectors m0 m'
copy-keeps j s t m0 m m' low p place void =
    let only = place-only t j m m' low place in
    let chip = chip-after m0 m m' p.only.chip only.chip in
    let now = void p.copied.begun.void in
    let same : SameSectors m0 m' = λ sectors holds. step-sectors s t m m' (copies-now j s t m m' p.copied only now) sectors (p.sectors sectors holds) in
    (keeps m0 m' chip same (λ a. of-kind t m m' kinds.Void only now refl (progress-alone j s t m0 m p a)) (λ c. copy-clean t m m' only p.copied.begun.void now (p.clean c)))

pub copy-cut : (j s t : ℕ) (m0 m m' : List ℕ) → j < 7 → CopyProgress j s t m0 m → OnlyPlace (7 * t + j) m m' → (kind_at m t ≡ kinds.Void → kind_at m' t ≡ kinds.Void) → Stays m0 m'
copy-cut j s t m0 m m' low p place void = stays-kept m0 m' (copy-keeps j s t m0 m m' low p place void)

source-same : (s t : ℕ) (m m' : List ℕ) (i : ℕ) → s < data_blocks m → s ≢ t → OnlyBlock (t + 4) m m' → source_slot m' s i ≡ source_slot m s i
source-same s t m m' i low other only = ap (λ b. to_copy (kind_of b) (slot_in b i)) (only.others (s + 4) (omega arith) (omega (arith, low)) (λ e. other (omega (arith, e))))

-- each slot of the source counts, so none is without a generation
pub source-whole : (j s t : ℕ) (m : List ℕ) (i : ℕ) → IsCopiedTo j s t m → i < 7 → raw_slot m s i ≢ NoGeneration
source-whole j s t m i h low e =
    let v = 7 * s + i in
    let block : v / 7 ≡ s = omega (arith, low) in
    let place : v % 7 ≡ i = omega (arith, low) in
    let number = h.number in
    let counts : slot_at m v ≡ raw_slot m (v / 7) (v % 7) =
    counted-in (kind_at m) (raw_slot m) (data_blocks m) v
    (ap (λ c. is_void (kind_at m c)) block ∙ at-rest-counts (kind_at m s) (h.target.others s number h.other))
    (void-copies t (data_blocks m) (kind_at m) (v / 7) h.target h.begun.void) in
    h.sound.slots.whole v (omega (arith, number, low)) (counts ∙ (ap (λ c. raw_slot m c (v % 7)) block ∙ (ap (λ a. raw_slot m s a) place ∙ e)))

-- what a copy of one slot leaves: its tag, and on a fresh place its content
other-bare : (x : Slot) → ((tag : Tag) (y : List ℕ) → x ≢ Live tag y) → copy_slot (bare x) ≡ Free
other-bare Free n = refl
other-bare (Live tag y) n = absurd (n tag y refl)
other-bare NoGeneration n = refl
other-bare Dead n = refl
other-bare Outside n = refl

tags-copied : (old : Slot) (t i : ℕ) (m m' : List ℕ) → raw_slot m t i ≡ Free → CopyLeaves old t i m m' → bare (raw_slot m' t i) ≡ copy_slot (bare old)
tags-copied old t i m m' free (live_copied tag x was (y, now) exact) = ap bare now ∙ sym (ap (λ a. copy_slot (bare a)) was)
tags-copied old t i m m' free (passed_over other same) = ap bare (ap (λ b. slot_in b i) same ∙ free) ∙ sym (other-bare old other)

pub copy-progress : (j s t : ℕ) (m0 m m' : List ℕ) → j < 7 → CopyProgress j s t m0 m → OnlyPlace (7 * t + j) m m'
    → IsBegun t s m' × CopyLeaves (source_slot m s j) t j m m'
    → ((i : ℕ) → i < 7 → i ≢ j → IsErasedSlot t i m → IsErasedSlot t i m') → CopyProgress (j + 1) s t m0 m'
copy-progress j s t m0 m m' low p place done fresh =
    let c = p.copied in
    let only = place-only t j m m' low place in
    let step = copies-now j s t m m' c only done.0.void in
    let size = blocks-same m m' only.chip in
    let here = step-sectors s t m m' step in
    let open-place = c.free j low (omega arith) in
    let source : (i : ℕ) → source_slot m' s i ≡ source_slot m s i = λ i. source-same s t m m' i c.number c.other only in
    record {
      only = only-twice (t + 4) m0 m m' p.only only;
      copied = record {
        number = (let q = c.number in omega (arith, q, size));
        other = c.other;
        target = target-sized t m m' only.chip (copy-target t (data_blocks m) (kind_at m) (kind_at m') (raw_slot m) (raw_slot m')
            (record { target = c.target; was = c.begun.void; only = block-data t m m' only; now = done.0.void }));
        begun = done.0;
        tags = λ i below. elim (cases_eq i j) as (λ _. bare (raw_slot m' t i) ≡ copy_slot (bare (source_slot m' s i))) [
          | inl e ↦ subst (λ a. bare (raw_slot m' t a) ≡ copy_slot (bare (source_slot m' s a))) (sym e) (tags-copied (source_slot m s j) t j m m' open-place done.1 ∙ ap (λ a. copy_slot (bare a)) (sym (source j)))
          | inr ne ↦ ap bare (place-slots t j i m m' low (omega (arith, below, low)) ne place) ∙ (c.tags i (omega (arith, below, ne)) ∙ ap (λ a. copy_slot (bare a)) (sym (source i)))
        ];
        free = λ i small above. place-slots t j i m m' low small (λ e. omega (arith, e, above)) place ∙ c.free i small (omega (arith, above));
        sound = same-sectors-sound m m' here c.sound;
        single = step-singles s t m m' step c.sound c.single;
      };
      sectors = λ sectors holds. here sectors (p.sectors sectors holds);
      exact = λ blank.
          let x = p.exact blank in
          let now = x.fresh j low (omega arith) in
          let after = copy-is (source_slot m s j) t j m m' done.1 (to_copy-whole (kind_at m s) (raw_slot m s j) (source-whole j s t m j c low)) now in
          record {
            copied = λ i below. elim (cases_eq i j) as (λ _. raw_slot m' t i ≡ copy_slot (source_slot m' s i)) [
              | inl e ↦ subst (λ a. raw_slot m' t a ≡ copy_slot (source_slot m' s a)) (sym e) (copy-is_exact (source_slot m s j) t j m m' done.1 now ∙ ap copy_slot (sym (source j)))
              | inr ne ↦ place-slots t j i m m' low (omega (arith, below, low)) ne place ∙ (x.copied i (omega (arith, below, ne)) ∙ ap copy_slot (sym (source i)))
            ];
            fresh = λ i small above. fresh i small (λ e. omega (arith, e, above)) (x.fresh i small (omega (arith, above)));
            unwritten = λ i small free. elim (cases_eq i j) as (λ _. IsErasedSlot t i m') [
              | inl e ↦ subst (λ a. IsErasedSlot t a m') (sym e) (after.1 (ap (λ a. raw_slot m' t a) (sym e) ∙ free))
              | inr ne ↦ fresh i small ne (x.unwritten i small (sym (place-slots t j i m m' low small ne place) ∙ free))
            ];
          };
      clean = λ clean. copy-clean t m m' only c.begun.void done.0.void (p.clean clean);
    }

-- commit
-- the tags alone
commits-tags : (s t : ℕ) (m m' : List ℕ) → IsCopiedTo 7 s t m → OnlyMark t m m' → kind_at m' t ≡ kinds.Committed (s + 4) → Commits s t (data_blocks m) (kind_at m) (kind_at m') (λ c i. bare (raw_slot m c i)) (λ c i. bare (raw_slot m' c i))
commits-tags s t m m' h mark e =
    let only = block-data t m m' mark.only in
    record {
      target = h.target;
      was = h.begun.void;
      number = h.number;
      other = h.other;
      copies = λ i low.
          let k = kind_at m s in
          let x = raw_slot m s i in
          let whole = source-whole 7 s t m i h low in
          subst (λ a. IsCopy (bare x) a) (sym (ap bare (mark.slots i low) ∙ h.tags i low)) (copied-from k (bare x) (copy_slot (bare (to_copy k x))) (bare-whole x whole)
          (subst (λ a. IsCopy a (copy_slot (bare (to_copy k x)))) (bare-to_copy k x) (copy-exact (bare (to_copy k x)) (bare-whole (to_copy k x) (to_copy-whole k x whole)))));
      only = record { same_kind = only.same_kind; same_slots = λ d i low ne. ap bare (only.same_slots d i low ne) };
      now = e;
    }

-- and the contents
commits-now : (s t : ℕ) (m m' : List ℕ) → IsCopiedTo 7 s t m → IsExactTo 7 s t m → OnlyMark t m m' → kind_at m' t ≡ kinds.Committed (s + 4) → Commits s t (data_blocks m) (kind_at m) (kind_at m') (raw_slot m) (raw_slot m')
commits-now s t m m' h x mark e = record {
  target = h.target;
  was = h.begun.void;
  number = h.number;
  other = h.other;
  copies = λ i low.
      let k = kind_at m s in
      let old = raw_slot m s i in
      let whole = source-whole 7 s t m i h low in
      subst (λ a. IsCopy old a) (sym (mark.slots i low ∙ x.copied i low)) (copied-from k old (copy_slot (to_copy k old)) whole (copy-exact (to_copy k old) (to_copy-whole k old whole)));
  only = block-data t m m' mark.only;
  now = e;
}

pub commit-keeps : (s t : ℕ) (m m' : List ℕ) → IsCopiedTo 7 s t m → OnlyMark t m m' → kind_at m' t ≡ kinds.Committed (s + 4) → IsExactTo 7 s t m → KeepsSectors m m'
commit-keeps s t m m' h mark e x =
    let now = commits-now s t m m' h x mark e in
    keeps m m' mark.only.chip (step-sectors s t m m' (commits mark.only.chip now h.single)) (of-kind t m m' (kinds.Committed (s + 4)) mark.only e refl) (λ c. commit-clean s t m m' mark now (λ i low free. (x.unwritten i low free).blank) c)

pub commit-single : (s t : ℕ) (m m' : List ℕ) → IsCopiedTo 7 s t m → OnlyMark t m m' → kind_at m' t ≡ kinds.Committed (s + 4) → IsExactTo 7 s t m → IsSingle m'
commit-single s t m m' h mark e x = step-singles s t m m' (commits mark.only.chip (commits-now s t m m' h x mark e) h.single) h.sound h.single

-- what a commit leaves of any memory: slots and blocks without a corrupt case
pub commit-sound : (s t : ℕ) (m m' : List ℕ) → IsCopiedTo 7 s t m → OnlyMark t m m' → kind_at m' t ≡ kinds.Committed (s + 4) → IsSoundMap m'
commit-sound s t m m' h mark e =
    let now = commits-tags s t m m' h mark e in
    tags-sound s t m m' mark.only.chip now h.sound h.single

pub commit-done : (s t : ℕ) (m m' : List ℕ) → IsCopiedTo 7 s t m → OnlyMark t m m' → kind_at m' t ≡ kinds.Committed (s + 4) → IsCommittedIn s t m'
commit-done s t m m' h mark e = record {
  target = target-sized t m m' mark.only.chip (commit-target s t (data_blocks m) (kind_at m) (kind_at m') (λ c i. bare (raw_slot m c i)) (λ c i. bare (raw_slot m' c i)) (commits-tags s t m m' h mark e));
  committed = e;
  sound = commit-sound s t m m' h mark e;
}

pub commit-cut : (s t : ℕ) (m m' : List ℕ) → IsCopiedTo 7 s t m → OnlyMark t m m' → (kind_at m' t ≡ kinds.Void) ⊎ (kind_at m' t ≡ kinds.Committed (s + 4)) → FinishLeaves s t m m'
commit-cut s t m m' h mark (inl e) =
    let same = step-sectors s t m m' (copies-now 7 s t m m' h mark.only e) in
    record {
      chip = mark.only.chip;
      sound = same-sectors-sound m m' same h.sound;
      alone = of-kind t m m' kinds.Void mark.only e refl;
      exact = λ x. keeps m m' mark.only.chip same (of-kind t m m' kinds.Void mark.only e refl) (λ c. copy-clean t m m' mark.only h.begun.void e c);
    }
commit-cut s t m m' h mark (inr e) = record { chip = mark.only.chip; sound = commit-sound s t m m' h mark e; alone = of-kind t m m' (kinds.Committed (s + 4)) mark.only e refl; exact = commit-keeps s t m m' h mark e }

-- block t is the committed copy of s
pub record IsCommittedTo (s t : ℕ) (m0 m : List ℕ) : Type 0 where
  pub target : IsTarget t (data_blocks m) (kind_at m)
  pub committed : kind_at m t ≡ kinds.Committed (s + 4)
  pub sound : IsSoundMap m
  pub single : IsSingle m0 → IsSingle m
  pub alone : HasSlotsAlone m0 → HasSlotsAlone m
  pub clean : IsClean m0 → IsClean m
  pub chip : SameChip m0 m
  pub sectors : SameSectors m0 m

-- erase of the source
pub erases-now : (s t : ℕ) (m0 m m' : List ℕ) → IsCommittedTo s t m0 m → WithErased (s + 4) m m' → ErasesSource s t (data_blocks m) (kind_at m) (kind_at m') (raw_slot m) (raw_slot m')
erases-now s t m0 m m' h w = record { target = h.target; was = h.committed; only = block-data s m m' w.only; now = erased-spare m' s w.erased }

pub erase-cut : (s t : ℕ) (m0 m m' : List ℕ) → IsCommittedTo s t m0 m → EraseInterrupted (s + 4) m m' → KeepsSectors m0 m'
erase-cut s t m0 m m' h (as_it_was w) = keeps m0 m' (chip-after m0 m m' h.chip w.blocks.chip) (λ sectors holds. blocks-holds m m' sectors w.blocks (h.sectors sectors holds)) (λ a. blocks-alone m m' w.blocks (h.alone a)) (λ c. same-clean m m' w.blocks (h.clean c))
erase-cut s t m0 m m' h (block_erased healthy w) = keeps m0 m' (chip-after m0 m m' h.chip w.only.chip)
    (λ sectors holds. step-sectors s t m m' (erases_source w.only.chip (erases-now s t m0 m m' h w)) sectors (h.sectors sectors holds)) (λ a. of-kind s m m' kinds.Plain w.only (erases-now s t m0 m m' h w).now.plain refl (h.alone a)) (λ c. erase_source-clean s t m m' w (erases-now s t m0 m m' h w) (h.clean c))

pub record IsErasedFor (s t : ℕ) (m0 m : List ℕ) : Type 0 where
  pub committed : IsCommittedTo s t m0 m
  pub source : IsSpareIn m s

pub erase-done : (s t : ℕ) (m0 m m' : List ℕ) → IsCommittedTo s t m0 m → WithErased (s + 4) m m' → IsErasedFor s t m0 m'
erase-done s t m0 m m' h w =
    let now = erases-now s t m0 m m' h w in
    let step = erases_source w.only.chip now in
    let same = step-sectors s t m m' step in
    let place = committed-source s t (data_blocks m) (kind_at m) h.target h.committed in
    record {
      committed = record {
        target = target-sized t m m' w.only.chip (erase_source-target s t (data_blocks m) (kind_at m) (kind_at m') (raw_slot m) (raw_slot m') now);
        committed = now.only.same_kind t h.target.number (λ e. place.1 (sym e)) ∙ h.committed;
        sound = same-sectors-sound m m' same h.sound;
        single = λ one. step-singles s t m m' step h.sound (h.single one);
        alone = λ a. of-kind s m m' kinds.Plain w.only now.now.plain refl (h.alone a);
        clean = λ c. erase_source-clean s t m m' w now (h.clean c);
        chip = chip-after m0 m m' h.chip w.only.chip;
        sectors = λ sectors holds. same sectors (h.sectors sectors holds);
      };
      source = now.now;
    }

-- settle
settles-now : (s t : ℕ) (m0 m m' : List ℕ) → IsErasedFor s t m0 m → OnlyMark t m m' → kind_at m' t ≡ kinds.Settled → Settles s t (data_blocks m) (kind_at m) (kind_at m') (raw_slot m) (raw_slot m')
settles-now s t m0 m m' h mark e = record { target = h.committed.target; was = h.committed.committed; source = h.source; only = block-data t m m' mark.only; same = mark.slots; now = e }

mark-same : (t : ℕ) (m m' : List ℕ) (k : Kind) → OnlyMark t m m' → kind_at m t ≡ k → kind_at m' t ≡ k → SameSectors m m'
mark-same t m m' k mark was is sectors holds = same-holds m m' sectors mark.only.chip
    (λ d low. elim (cases_eq d t) as (λ _. kind_at m' d ≡ kind_at m d) [
      | inl e ↦ ap (λ a. kind_at m' a) e ∙ (is ∙ (sym was ∙ ap (λ a. kind_at m a) (sym e)))
      | inr ne ↦ (block-data t m m' mark.only).same_kind d low ne
    ])
    (λ d i low small. elim (cases_eq d t) as (λ _. raw_slot m' d i ≡ raw_slot m d i) [
      | inl e ↦ ap (λ a. raw_slot m' a i) e ∙ (mark.slots i small ∙ ap (λ a. raw_slot m a i) (sym e))
      | inr ne ↦ (block-data t m m' mark.only).same_slots d i low ne
    ]) holds

pub settle-cut : (s t : ℕ) (m0 m m' : List ℕ) → IsErasedFor s t m0 m → OnlyMark t m m' → (kind_at m' t ≡ kinds.Committed (s + 4)) ⊎ (kind_at m' t ≡ kinds.Settled) → KeepsSectors m0 m'
settle-cut s t m0 m m' h mark (inl e) = keeps m0 m' (chip-after m0 m m' h.committed.chip mark.only.chip)
    (λ sectors holds. mark-same t m m' (kinds.Committed (s + 4)) mark h.committed.committed e sectors (h.committed.sectors sectors holds)) (λ a. of-kind t m m' (kinds.Committed (s + 4)) mark.only e refl (h.committed.alone a)) (λ c. committed-clean s t m m' mark h.committed.target h.committed.committed e (h.committed.clean c))
settle-cut s t m0 m m' h mark (inr e) = keeps m0 m' (chip-after m0 m m' h.committed.chip mark.only.chip)
    (λ sectors holds. step-sectors s t m m' (settles mark.only.chip (settles-now s t m0 m m' h mark e)) sectors (h.committed.sectors sectors holds)) (λ a. of-kind t m m' kinds.Settled mark.only e refl (h.committed.alone a)) (λ c. settle-clean s t m m' mark (settles-now s t m0 m m' h mark e) (h.committed.clean c))

pub settle-done : (s t : ℕ) (m0 m m' : List ℕ) → IsErasedFor s t m0 m → OnlyMark t m m' → kind_at m' t ≡ kinds.Settled → Reclaimed m0 m'
settle-done s t m0 m m' h mark e =
    let now = settles-now s t m0 m m' h mark e in
    let step = settles mark.only.chip now in
    record {
      chip = chip-after m0 m m' h.committed.chip mark.only.chip;
      sectors = λ sectors holds. step-sectors s t m m' step sectors (h.committed.sectors sectors holds);
      single = λ one. step-singles s t m m' step h.committed.sound (h.committed.single one);
      blocks = last-settles s t m m' mark.only.chip (inl now);
      alone = λ a. of-kind t m m' kinds.Settled mark.only e refl (h.committed.alone a);
      clean = λ c. settle-clean s t m m' mark now (h.committed.clean c);
    }

-- after the commit
pub after-keeps : (m0 m m' : List ℕ) → KeepsSectors m0 m → KeepsSectors m m' → KeepsSectors m0 m'
after-keeps m0 m m' a b = keeps m0 m' (chip-after m0 m m' a.chip b.chip) (λ sectors holds. b.sectors sectors (a.sectors sectors holds)) (λ q. b.alone (a.alone q)) (λ c. b.clean (a.clean c))

reclaimed-keeps : (m m' : List ℕ) → Reclaimed m m' → KeepsSectors m m'
reclaimed-keeps m m' r = keeps m m' r.chip r.sectors r.alone r.clean

pub finish-cut : (s t : ℕ) (m a m' : List ℕ) → IsCopiedTo 7 s t m → OnlyMark t m a → kind_at a t ≡ kinds.Committed (s + 4) → KeepsSectors a m' → FinishLeaves s t m m'
finish-cut s t m a m' h mark e k = record {
  chip = chip-after m a m' mark.only.chip k.chip;
  sound = same-sectors-sound a m' k.sectors (commit-sound s t m a h mark e);
  alone = λ q. k.alone (of-kind t m a (kinds.Committed (s + 4)) mark.only e refl q);
  exact = λ x. after-keeps m a m' (commit-keeps s t m a h mark e x) k;
}

pub finish-done : (s t : ℕ) (m a m' : List ℕ) → IsCopiedTo 7 s t m → OnlyMark t m a → kind_at a t ≡ kinds.Committed (s + 4) → EndsCopy a m' → IsFinished s t a m' → Finishes s t m m'
finish-done s t m a m' h mark e ends f =
    let n = mark.only.chip.same_length in
    record {
      chip = chip-after m a m' mark.only.chip ends.whole.chip;
      blocks = ends.whole.blocks;
      finished = record {
        same_length = f.same_length ∙ n;
        blocks = λ d low ds dt. f.blocks d (omega (arith, low, n)) ds dt ∙ mark.only.others (d + 4) (omega arith) (omega (arith, low)) (λ q. dt (omega (arith, q)));
        target = λ i low. f.target i low ∙ mark.slots i low;
        settled = f.settled;
        erased = f.erased;
      };
      exact = λ x. after-keeps m a m' (commit-keeps s t m a h mark e x) (reclaimed-keeps a m' ends.whole);
    }

pub ended-whole : (s t : ℕ) (m a m' : List ℕ) → IsCommittedIn s t m → WithErased (s + 4) m a → OnlyMark t a m' → kind_at m' t ≡ kinds.Settled → IsFinished s t m m'
ended-whole s t m a m' h two three e =
    let place = committed-source s t (data_blocks m) (kind_at m) h.target h.committed in
    let ls = place.0 in
    let lt = h.target.number in
    let nb = two.only.chip.same_length in
    let at-s : data_block m' s ≡ data_block a s = three.only.others (s + 4) (omega arith) (omega (arith, ls, nb)) (λ q. place.1 (omega (arith, q))) in
    record {
      same_length = three.only.chip.same_length ∙ nb;
      blocks = λ d low ds dt. three.only.others (d + 4) (omega arith) (omega (arith, low, nb)) (λ q. dt (omega (arith, q))) ∙ two.only.others (d + 4) (omega arith) (omega (arith, low)) (λ q. ds (omega (arith, q)));
      target = λ i low. three.slots i low ∙ ap (λ x. slot_in x i) (two.only.others (t + 4) (omega arith) (omega (arith, lt)) (λ q. place.1 (omega (arith, q))));
      settled = e;
      erased = erased-spare m' s (at-s ∙ two.erased);
    }

-- what comes after the copies of the slots, where these are exact
exact-after : (s t : ℕ) (m0 m m' : List ℕ) → SameChip m0 m' → CopyProgress 7 s t m0 m → KeepsSectors m m' → KeepsSectors m0 m'
exact-after s t m0 m m' chip p k =
    keeps m0 m' chip (λ sectors holds. k.sectors sectors (p.sectors sectors holds)) (λ a. k.alone (progress-alone 7 s t m0 m p a)) (λ c. k.clean (p.clean c))

pub reclaim-done : (s t : ℕ) (m0 m m' : List ℕ) → IsCopyable s t m0 → CopyProgress 7 s t m0 m → Finishes s t m m' → Copies s t m0 m'
reclaim-done s t m0 m m' h p f =
    let chip = chip-after m0 m m' p.only.chip f.chip in
    let whole = f.finished in
    let n = p.only.chip.same_length in
    let size = blocks-same m0 m p.only.chip in
    let number = p.copied.number in
    let source : (i : ℕ) → source_slot m s i ≡ source_slot m0 s i = λ i. source-same s t m0 m i (omega (arith, number, size)) p.copied.other p.only in
    record {
      chip = chip;
      blocks = f.blocks;
      slots = record {
        same_length = whole.same_length ∙ n;
        same_kind = λ d low ds dt. ap kind_of (whole.blocks d (omega (arith, low, size)) ds dt) ∙ (block-data t m0 m p.only).same_kind d low dt;
        same_slots = λ d i low ds dt. ap (λ x. slot_in x i) (whole.blocks d (omega (arith, low, size)) ds dt) ∙ (block-data t m0 m p.only).same_slots d i low dt;
        settled = whole.settled;
        copied = λ i low. ap bare (whole.target i low) ∙ (p.copied.tags i low ∙ ap (λ a. copy_slot (bare a)) (source i));
        erased = whole.erased;
      };
      sectors = λ clean sectors holds. (f.exact (p.exact (clean-fresh s t m0 h clean))).sectors sectors (p.sectors sectors holds);
      clean = λ clean. (f.exact (p.exact (clean-fresh s t m0 h clean))).clean (p.clean clean);
      fresh = λ blank. exact-after s t m0 m m' chip p (f.exact (p.exact blank));
    }

pub reclaim-cut : (s t : ℕ) (m0 m m' : List ℕ) → IsCopyable s t m0 → CopyProgress 7 s t m0 m → FinishLeaves s t m m' → Stays m0 m'
reclaim-cut s t m0 m m' h p k =
    let chip = chip-after m0 m m' p.only.chip k.chip in
    record {
      chip = chip;
      sound = λ s. k.sound;
      alone = λ a. k.alone (progress-alone 7 s t m0 m p a);
      exact = λ clean. exact-after s t m0 m m' chip p (k.exact (p.exact (clean-fresh s t m0 h clean)));
    }

-- and into a fresh block
pub reclaim-cut_fresh : (s t : ℕ) (m0 m m' : List ℕ) → CopyProgress 7 s t m0 m → FinishLeaves s t m m' → IsFresh t m0 → KeepsSectors m0 m'
reclaim-cut_fresh s t m0 m m' p k blank = exact-after s t m0 m m' (chip-after m0 m m' p.only.chip k.chip) p (k.exact (p.exact blank))

-- the slots that count, with the number of blocks of the memory after
live-after : (m m' : List ℕ) → SameChip m m' → SameLive (slot_at m) (later m m') (slot_count m) → SameLive (slot_at m) (slot_at m') (slot_count m)
live-after m m' chip live w low = elim (live w low) as (λ _. (slot_at m' w ≡ slot_at m w) ⊎ (HoldsNothing (slot_at m w) × HoldsNothing (slot_at m' w))) [
  | inl e ↦ inl (later-is m m' w chip.same_length ∙ e)
  | inr q ↦ inr (q.0, subst (λ a. HoldsNothing a) (sym (later-is m m' w chip.same_length)) q.1)
]

-- A mount ends a copying: a void block is erased.
voids-now : (t : ℕ) (m m' : List ℕ) → IsVoidIn t m → WithErased (t + 4) m m' → ErasesVoid t (data_blocks m) (kind_at m) (kind_at m') (raw_slot m) (raw_slot m')
voids-now t m m' h w = record { number = h.number; was = h.void; only = block-data t m m' w.only; now = erased-spare m' t w.erased }

void-keeps : (t : ℕ) (m m' : List ℕ) → IsVoidIn t m → WithErased (t + 4) m m' → IsClean m → IsClean m'
void-keeps t m m' h w clean =
    let now = voids-now t m m' h w in
    clean-only t m m' w.only clean
    (λ v low ne free. inl (sym (counted-other (kind_at m) (kind_at m') (raw_slot m) (raw_slot m') (data_blocks m) t v now.only (omega (arith, low)) ne
    (ap (λ k. is_copy_of (v / 7 + 4) k) now.now.plain ∙ sym (ap (λ k. is_copy_of (v / 7 + 4) k) h.void))) ∙ free))
    (λ v low e free. ap (λ b. content_bytes b (v % 7)) w.erased ∙ blank-content (v % 7) (omega arith))
    (λ p. w.erased)

pub void-cut : (t : ℕ) (m m' : List ℕ) → IsVoidIn t m → EraseInterrupted (t + 4) m m' → KeepsSectors m m'
void-cut t m m' h (as_it_was w) = keeps m m' w.blocks.chip (λ sectors holds. blocks-holds m m' sectors w.blocks holds) (blocks-alone m m' w.blocks) (same-clean m m' w.blocks)
void-cut t m m' h (block_erased healthy w) = keeps m m' w.only.chip (step-sectors t t m m' (erases_void w.only.chip (voids-now t m m' h w))) (of-kind t m m' kinds.Plain w.only (voids-now t m m' h w).now.plain refl) (void-keeps t m m' h w)

pub void-done : (t : ℕ) (m m' : List ℕ) → IsVoidIn t m → WithErased (t + 4) m m' → IsSoundMap m → EndsVoid t m m'
void-done t m m' h w sound =
    let now = voids-now t m m' h w in
    let step = erases_void w.only.chip now in
    record {
      keeps = keeps m m' w.only.chip (step-sectors t t m m' step) (of-kind t m m' kinds.Plain w.only now.now.plain refl) (void-keeps t m m' h w);
      single = λ one. step-singles t t m m' step sound one;
      erased = now.now;
      blocks = λ d low other. w.only.others (d + 4) (omega arith) (omega (arith, low)) (λ e. other (omega (arith, e)));
      live = live-after m m' w.only.chip (erase_void-live t (data_blocks m) (kind_at m) (kind_at m') (raw_slot m) (raw_slot m') now);
    }

-- and a committed one's source
pub committed-found : (s t : ℕ) (m : List ℕ) → IsCommittedIn s t m → IsCommittedTo s t m m
committed-found s t m h = record { target = h.target; committed = h.committed; sound = h.sound; single = λ one. one; alone = λ a. a; clean = λ c. c; chip = record { same_length = refl; superblock = λ k low. refl }; sectors = λ sectors holds. holds }

pub erased-found : (s t : ℕ) (m : List ℕ) → IsCommittedIn s t m → IsSpareIn m s → IsErasedFor s t m m
erased-found s t m h spare = record { committed = committed-found s t m h; source = spare }

-- a mount settles it
settle-lives : (s t : ℕ) (m0 m m' : List ℕ) → IsErasedFor s t m0 m → OnlyMark t m m' → kind_at m' t ≡ kinds.Settled → SameLive (slot_at m) (slot_at m') (slot_count m)
settle-lives s t m0 m m' h mark e = live-after m m' mark.only.chip (settle-live s t (data_blocks m) (kind_at m) (kind_at m') (raw_slot m) (raw_slot m') (settles-now s t m0 m m' h mark e))

pub erased-ends : (s t : ℕ) (m m' : List ℕ) → IsErasedFor s t m m → OnlyMark t m m' → kind_at m' t ≡ kinds.Settled → EndsCopy m m'
erased-ends s t m m' h mark e = record { whole = settle-done s t m m m' h mark e; live = settle-lives s t m m m' h mark e }

pub committed-ends : (s t : ℕ) (m m1 m' : List ℕ) → IsCommittedIn s t m → WithErased (s + 4) m m1 → OnlyMark t m1 m' → kind_at m' t ≡ kinds.Settled → EndsCopy m m'
committed-ends s t m m1 m' h w mark e =
    let found = committed-found s t m h in
    let one = erase-done s t m m m1 found w in
    let same = erase_source-same s t (data_blocks m) (kind_at m) (kind_at m1) (raw_slot m) (raw_slot m1) (erases-now s t m m m1 found w) in
    let then = settle-lives s t m m1 m' one mark e in
    let size = blocks-same m m1 w.only.chip in
    record {
      whole = settle-done s t m m1 m' one mark e;
      live = λ v low.
          let here : slot_at m1 v ≡ slot_at m v = later-is m m1 v w.only.chip.same_length ∙ same v low in
          elim (then v (omega (arith, low, size))) as (λ _. (slot_at m' v ≡ slot_at m v) ⊎ (HoldsNothing (slot_at m v) × HoldsNothing (slot_at m' v))) [
            | inl q ↦ inl (q ∙ here)
            | inr q ↦ inr (subst (λ a. HoldsNothing a) here q.0, q.1)
          ];
    }

-- What is erased doesn't count.
outside-live : (x : Slot) (tag : Tag) (y : List ℕ) → x ≡ Outside → x ≢ Live tag y
outside-live x tag y o e = quiet-live x tag.number tag.generation y (subst (λ a. HoldsNothing a) (sym o) tt) e

rest-copy : (k : Kind) (b : ℕ) → IsAtRest k → k ≢ kinds.Committed b
rest-copy k b h e = subst (λ a. IsAtRest a) e h

abbrev IsVoid : Kind → Type 0
IsVoid kinds.Plain = ⊥
IsVoid kinds.Void = Unit {0}
IsVoid (kinds.Committed b) = ⊥
IsVoid kinds.Settled = ⊥
IsVoid (kinds.Group tag) = ⊥
IsVoid kinds.DeadGroup = ⊥
IsVoid kinds.SpoiltGroup = ⊥
IsVoid kinds.Unknown = ⊥

void-copy : (k : Kind) (b : ℕ) → k ≡ kinds.Void → k ≢ kinds.Committed b
void-copy k b v e = subst (λ a. IsVoid a) (sym v ∙ e) tt

pub source-erasable : (s t : ℕ) (m0 m : List ℕ) → IsCommittedTo s t m0 m → IsErasable s m
source-erasable s t m0 m h =
    let place = committed-source s t (data_blocks m) (kind_at m) h.target h.committed in
    record {
      copy = λ b. rest-copy (kind_at m s) b (h.target.others s place.0 place.1);
      dead = λ w tag x low e. outside-live (slot_at m w) tag x
          (counted-source (kind_at m) (raw_slot m) (data_blocks m) w (λ z. source-copies s t (data_blocks m) (kind_at m) h.target.number h.committed (ap (λ c. copies_of (kind_at m) (data_blocks m) c) (sym e) ∙ z)));
    }

pub void-erasable : (t : ℕ) (m : List ℕ) → IsVoidIn t m → IsErasable t m
void-erasable t m h = record {
  copy = λ b. void-copy (kind_at m t) b h.void;
  dead = λ w tag x low e. outside-live (slot_at m w) tag x (counted-void (kind_at m) (raw_slot m) (data_blocks m) w (ap (λ c. is_void (kind_at m c)) e ∙ ap is_void h.void));
}
