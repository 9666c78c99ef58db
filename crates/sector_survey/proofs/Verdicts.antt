-- What a recovery of the journals, which changes no block, leaves of a verdict.
use Rattle.std.proofs.Common.{◌≡◌, ◌≢◌, ℕ, ◌+◌, ◌-◌, ◌*◌, ◌<◌, ◌≤◌, List, length, refl, sym, ap, ◌∙◌, subst, arith, inl, inr}
use Rattle.std.specs.Prelude.{Result, Ok, Err, IfOk, IfErr, ◌/◌}
use Rattle.chip_model.specs.Geometry.{block_count, sector_count}
use Rattle.chip_model.specs.declared.geometry.Geometry.{Geometry}
use Rattle.nor_driver.specs.State.{NorState, OnlyMemoryChanges}
use Rattle.nor_layout.specs.declared.layout.Layout.{Layout}
use Rattle.nor_layout.specs.declared.superblock.SuperError.{SuperError}
use Rattle.nor_layout.specs.declared.superblock.SuperError.TheVariants as refusals
use Rattle.nor_layout.specs.Kinds.{kind_of}
use Rattle.nor_layout.specs.Layouts.{layout_of}
use Rattle.erase_journal.specs.Blocks.{SameBlocks}
use Rattle.erase_journal.specs.Journals.{IsHealthy, tally_of}
use Rattle.erase_journal.proofs.Faulty.{sound_has_no_fault}
use Rattle.erase_journal.specs.Recovery.{Recovers}
use Rattle.erase_journal.proofs.SettledLaws.{settled-healthy}
use Rattle.sector_slots.specs.Slots.{is_group, slot_in, slot_at, slot_count, kind_at, data_block, data_blocks, IsSpareIn}
use Rattle.sector_slots.specs.Blocks.{IsAtRest, HasGroupRoom, dead_group, two_blocks}
use Rattle.sector_slots.specs.Sectors.{IsSoundMap, sector_at}
use Rattle.sector_slots.proofs.BlankLaws.{same-blocks_slots, blocks-holds, holds-sound, sound-holds}
use Rattle.sector_map.specs.Maps.{IsLaidOut, is_layout, geometry_of}
use Rattle.sector_survey.specs.Findings.{IsCommitted, IsNoSource, HoldsOne, Explains}
use Rattle.sector_survey.specs.Verdicts.{Tells, TellsBehind, IsCorruptFor, ExaminationFails}
use Rattle.sector_survey.specs.declared.finding.Finding.{Finding}
use Rattle.sector_survey.specs.declared.finding.Finding.TheVariants as findings
use Rattle.sector_survey.specs.declared.verdict.Verdict.{Verdict}
use Rattle.sector_survey.specs.declared.verdict.Verdict.TheVariants.{NotFormatted, Corrupt, Mountable}
use Rattle.sector_survey.specs.declared.verdict.Unexamined.{Unexamined}
use Rattle.sector_survey.specs.declared.verdict.Unexamined.TheVariants as reasons
use Rattle.sector_survey.proofs.Voting.{journal-refused}
use Rattle.sector_survey.proofs.Faults.{finding-refused}

layout-same : (m m' : List ℕ) (chip : Geometry) → SameBlocks m m' → layout_of m' chip ≡ layout_of m chip
layout-same m m' chip s = let b = s.chip.superblock in rw (b 0 (omega arith), b 1 (omega arith), b 2 (omega arith), b 3 (omega arith), b 4 (omega arith), b 5 (omega arith), b 6 (omega arith), b 7 (omega arith), b 8 (omega arith), b 9 (omega arith), b 10 (omega arith), b 11 (omega arith), b 12 (omega arith), b 14 (omega arith), b 15 (omega arith)) refl

says-same : (m m' : List ℕ) → SameBlocks m m' → layout_of m' (geometry_of (length m')) ≡ layout_of m (geometry_of (length m))
says-same m m' s = layout-same m m' (geometry_of (length m')) s ∙ ap (λ k. layout_of m (geometry_of k)) s.chip.same_length

pub count-same : (m m' : List ℕ) → SameBlocks m m' → data_blocks m' ≡ data_blocks m
count-same m m' s = ap (λ k. block_count k - 4) s.chip.same_length

below : (m m' : List ℕ) (c : ℕ) → SameBlocks m m' → c < data_blocks m' → c < data_blocks m
below m m' c s low = subst (λ n. c < n) (count-same m m' s) low

pub block-same : (m m' : List ℕ) (c : ℕ) → SameBlocks m m' → c < data_blocks m → data_block m' c ≡ data_block m c
block-same m m' c s low = s.each (c + 4) (omega arith) (omega (arith, low))

pub kind-same : (m m' : List ℕ) (c : ℕ) → SameBlocks m m' → c < data_blocks m → kind_at m' c ≡ kind_at m c
kind-same m m' c s low = ap kind_of (block-same m m' c s low)

spare-on : (m m' : List ℕ) (c : ℕ) → SameBlocks m m' → c < data_blocks m → IsSpareIn m c → IsSpareIn m' c
spare-on m m' c s low h = record {
  plain = kind-same m m' c s low ∙ h.plain;
  free = λ i small. ap (λ b. slot_in b i) (block-same m m' c s low) ∙ h.free i small;
}

above : (m m' : List ℕ) (c : ℕ) → SameBlocks m m' → c < data_blocks m → c < data_blocks m'
above m m' c s low = subst (λ n. c < n) (sym (count-same m m' s)) low

room-on : (m m' : List ℕ) → SameBlocks m m' → HasGroupRoom (kind_at m) (data_blocks m) → HasGroupRoom (kind_at m') (data_blocks m')
room-on m m' s (dead_group c low e) = dead_group c (above m m' c s low) (kind-same m m' c s low ∙ e)
room-on m m' s (two_blocks c d a b lc ld ne ea eb same) = two_blocks c d a b (above m m' c s lc) (above m m' d s ld) ne (kind-same m m' c s lc ∙ ea) (kind-same m m' d s ld ∙ eb) same

slots-same : (m m' : List ℕ) → SameBlocks m m' → slot_count m' ≡ slot_count m
slots-same m m' s = ap (λ k. 7 * k) (count-same m m' s)

live-back : (m m' : List ℕ) (w g : ℕ) → SameBlocks m m' → HoldsOne (slot_at m') (slot_count m') w g → HoldsOne (slot_at m) (slot_count m) w g
live-back m m' w g s h =
    let low : w < slot_count m = subst (λ n. w < n) (slots-same m m' s) h.live.number in
    let all = same-blocks_slots m m' s in
    record { generation = h.generation; content = h.content; live = record { number = low; is = sym (all.each w low) ∙ h.live.is } }

-- a finding behind the superblock and the journals is one of the memory before they were recovered
pub explains-back : (finding : Finding) (m m' : List ℕ) → SameBlocks m m' → IsHealthy m' → Explains finding m' → Explains finding m
unfolding live-back
explains-back findings.OtherLayout m m' s healthy h = sym (says-same m m' s) ∙ h
explains-back findings.OtherSize m m' s healthy h = sym (says-same m m' s) ∙ h
explains-back (findings.Journals fault) m m' s healthy h = absurd (journal-refused fault (tally_of m') h ((sound_has_no_fault (tally_of m')).0 healthy))
explains-back (findings.UnknownBlock c) m m' s healthy h =
    let low = below m m' c s h.0 in
    (low, sym (kind-same m m' c s low) ∙ h.1)
explains-back (findings.GroupOnSlots c) m m' s healthy h =
    let low = below m m' c s h.1 in
    (sym (s.chip.superblock 8 (omega arith)) ∙ h.0, low, sym (ap is_group (kind-same m m' c s low)) ∙ h.2)
explains-back (findings.TwoCopyings c d) m m' s healthy h =
    let low = below m m' d s h.1 in
    let less = h.0 in
    let first : c < data_blocks m = omega (arith, low, less) in
    (less, low, subst (λ z. IsCommitted z) (kind-same m m' c s first) h.2, subst (λ z. IsCommitted z) (kind-same m m' d s low) h.3)
explains-back (findings.WrongSource c b) m m' s healthy h =
    let low = below m m' c s h.0 in
    (low, sym (kind-same m m' c s low) ∙ h.1, subst (λ n. IsNoSource b c n) (count-same m m' s) h.2)
explains-back findings.NoRoom m m' s healthy h = record {
  rest = λ d low. subst (λ z. IsAtRest z) (kind-same m m' d s low) (h.rest d (above m m' d s low));
  none = λ c low spare. h.none c (above m m' c s low) (spare-on m m' c s low spare);
  groups = λ room. h.groups (room-on m m' s room);
}
explains-back (findings.NoGeneration w) m m' s healthy h =
    let low : w < slot_count m = subst (λ n. w < n) (slots-same m m' s) h.0 in
    let all = same-blocks_slots m m' s in
    (low, sym (all.each w low) ∙ h.1)
explains-back (findings.NoSuchSector w g) m m' s healthy h = (live-back m m' w g s h.0, subst (λ n. sector_count n ≤ g) s.chip.same_length h.1)
explains-back (findings.NotNeighbours w t g) m m' s healthy h = record { first = live-back m m' w g s h.first; second = live-back m m' t g s h.second; other = h.other; not_after = h.not_after; not_before = h.not_before }
explains-back (findings.ThreeSlots r w t g) m m' s healthy h = record { first = live-back m m' r g s h.first; second = live-back m m' w g s h.second; third = live-back m m' t g s h.third; one_two = h.one_two; two_three = h.two_three; one_three = h.one_three }
explains-back (findings.TwoLayouts w t g) m m' s healthy h =
    let a : w < 7 * data_blocks m = subst (λ n. w < n) (slots-same m m' s) h.first.live.number in
    let b : t < 7 * data_blocks m = subst (λ n. t < n) (slots-same m m' s) h.second.live.number in
    let x = kind-same m m' (w / 7) s (omega (arith, a)) in
    let y = kind-same m m' (t / 7) s (omega (arith, b)) in
    record { first = live-back m m' w g s h.first; second = live-back m m' t g s h.second; differ = λ e. h.differ (ap is_group x ∙ (e ∙ sym (ap is_group y))) }

-- the same blocks, seen from the other side
blocks-back : (m m' : List ℕ) → SameBlocks m m' → SameBlocks m' m
blocks-back m m' s =
    let n = s.chip.same_length in
    record {
      chip = record { same_length = sym n; superblock = λ k low. sym (s.chip.superblock k low) };
      each = λ b high low. sym (s.each b high (subst (λ k. b < block_count k) n low));
    }

sound-back : (m m' : List ℕ) → SameBlocks m m' → IsSoundMap m' → IsSoundMap m
sound-back m m' s sound = holds-sound m (sector_at m') (blocks-holds m' m (sector_at m') (blocks-back m m' s) (sound-holds m' sound))

laid : (m : List ℕ) (said : Layout) → layout_of m (geometry_of (length m)) ≡ Ok said → IsLaidOut m
laid m said e = ap is_layout e

ok-formatted : (m : List ℕ) (said : Layout) → layout_of m (geometry_of (length m)) ≡ Ok said → layout_of m (geometry_of (length m)) ≢ Err refusals.NotFormatted
ok-formatted m said e bare = let h : Ok said ≡ Err refusals.NotFormatted = sym e ∙ bare in cc

-- a finding that is told of a memory whose superblock is this layout's
pub told-corrupt : (finding : Finding) (m : List ℕ) (said : Layout) → layout_of m (geometry_of (length m)) ≡ Ok said → Explains finding m → IsCorruptFor finding m
told-corrupt finding m said e h = record { refused = λ is. finding-refused finding m h is; formatted = ok-formatted m said e; why = h }

pub told-back : (verdict : Verdict) (said : Layout) (a b : NorState) → layout_of a.memory (geometry_of (length a.memory)) ≡ Ok said → Recovers a b → TellsBehind verdict said b.memory → Tells verdict a.memory
told-back NotFormatted said a b e r h = absurd h
told-back (Corrupt finding) said a b e r h = told-corrupt finding a.memory said e (explains-back finding a.memory b.memory r.blocks (settled-healthy b.memory r.settled) h)
told-back (Mountable other) said a b e r h = record {
  mountable = record { superblock = laid a.memory said e; store = record { journals = r.healthy; slots = sound-back a.memory b.memory r.blocks h.1 } };
  layout = e ∙ ap (λ z. Ok z) (sym h.0);
}

pub told-back-if : (r : Result Verdict Unexamined) (said : Layout) (a b : NorState) → layout_of a.memory (geometry_of (length a.memory)) ≡ Ok said → Recovers a b → IfOk r (λ v. TellsBehind v said b.memory) → IfOk r (λ v. Tells v a.memory)
told-back-if (Ok v) said a b e r h = told-back v said a b e r h
told-back-if (Err x) said a b e r h = tt

-- a superblock that is refused
super-other : (m : List ℕ) (why : SuperError) → why ≢ refusals.NotFormatted → layout_of m (geometry_of (length m)) ≡ Err why → layout_of m (geometry_of (length m)) ≢ Err refusals.NotFormatted
super-other m why other e bare = other (let h : Err why ≡ Err refusals.NotFormatted = sym e ∙ bare in cc)

pub other-layout : (m : List ℕ) → layout_of m (geometry_of (length m)) ≡ Err refusals.Layout → IsCorruptFor findings.OtherLayout m
other-layout m e = record { refused = λ is. finding-refused findings.OtherLayout m e is; formatted = super-other m refusals.Layout (λ q. cc q) e; why = e }

pub other-size : (m : List ℕ) → layout_of m (geometry_of (length m)) ≡ Err refusals.Geometry → IsCorruptFor findings.OtherSize m
other-size m e = record { refused = λ is. finding-refused findings.OtherSize m e is; formatted = super-other m refusals.Geometry (λ q. cc q) e; why = e }

-- A failure after a call that only changed the memory.
pub fails-after : (e : Unexamined) (a b c : NorState) → OnlyMemoryChanges a b → ExaminationFails e b c → ExaminationFails e a c
fails-after reasons.OutOfMemory a b c k h = tt
fails-after reasons.Cut a b c k (inl came) = (let q = k.cuts in inl (omega (arith, came, q)))
fails-after reasons.Cut a b c k (inr off) = inr (sym k.powered ∙ off)
fails-after reasons.Slow a b c k (inl came) = (let q = k.slows in inl (omega (arith, came, q)))
fails-after reasons.Slow a b c k (inr slow) = inr (sym k.is_slow ∙ slow)
fails-after (reasons.Probe e) a b c k h = absurd h

pub fails-after-if : (r : Result Verdict Unexamined) (a b c : NorState) → OnlyMemoryChanges a b → IfErr r (λ e. ExaminationFails e b c) → IfErr r (λ e. ExaminationFails e a c)
fails-after-if (Ok v) a b c k h = tt
fails-after-if (Err e) a b c k h = fails-after e a b c k h
