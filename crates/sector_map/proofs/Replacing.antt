-- A sector that is replaced: put, then retire.
use Rattle.std.proofs.Common.{◌≡◌, ◌≢◌, ℕ, ◌-◌, ◌*◌, ◌/◌, ◌<◌, ◌⊎◌, List, length, refl, sym, ap, ◌∙◌, subst, arith, inl, inr}
use Rattle.std.specs.Prelude.{Option, Some, None, replicate, Result, Ok, Err, IfOk}
use Rattle.nor_driver.specs.declared.error.NorError.{NorError}
use Rattle.std.proofs.lemmas.Bool.{cases_eq}
use Rattle.chip_model.specs.Geometry.{sector_count, block_count}
use Rattle.nor_layout.specs.declared.header.Generation.{Generation}
use Rattle.nor_layout.specs.declared.header.Generation.TheVariants as generations
use Rattle.nor_layout.specs.declared.header.Tag.{Tag}
use Rattle.nor_layout.specs.Headers.{next_generation}
use Rattle.erase_journal.specs.Blocks.{SameChip}
use Rattle.sector_slots.specs.Slots.{Slot, Free, Live, Dead, slot_at, slot_count, data_blocks, is_group, IsClean, OnlySlot, stored_at}
use Rattle.sector_slots.proofs.AloneLaws.{place-alone}
use Rattle.sector_slots.proofs.PlaceLaws.{place-kinds}
use Rattle.sector_slots.proofs.BlankLaws.{sound-holds}
use Rattle.sector_slots.specs.Steps.{IsRetirable, PutLeaves, still_free, half_written, written, HoldsTag, MayHoldTag, IsWritable, OnlyPlace}
use Rattle.sector_slots.specs.Sectors.{zeros, LiveAt, IsAbsent, absent, held, Single, NextGeneration, begun, after, OthersKept, with_sector, sector_at, IsSingle, IsSoundMap, HoldsSectors, content_in}
use Rattle.sector_slots.proofs.SectorLaws.{Without, moved, moved-back, at-new, free-without, dead-without, other-without}
use Rattle.sector_slots.specs.Copying.{HoldsNothing}
use Rattle.sector_slots.proofs.SlotLaws.{counted-raw}
use Rattle.sector_slots.proofs.WinnerLaws.{sector-one, sector-content-is}
use Rattle.sector_map.proofs.Places.{live-not-free, dead-not-live, slot-only, others-kept, placed-settled, live-placed, put-holds, put-left, retire-left}
use Rattle.sector_map.specs.Replace.{HeldBy, generation_after, IsReplaceable, Replaces, ReplaceLeaves, Rewrites, RewriteLeaves}
use Rattle.sector_map.specs.declared.table.Held.{Held}

pub chip-after : (a b c : List ℕ) → SameChip a b → SameChip b c → SameChip a c
chip-after a b c p q = record { same_length = q.same_length ∙ p.same_length; superblock = λ k low. q.superblock k low ∙ p.superblock k low }

pub back-through : (f f' : ℕ → Slot) (n w h s : ℕ) (i : Generation) (z : List ℕ) → OthersKept n w f f' → Without f' w h → LiveAt f' n s h i z → LiveAt f n s h i z
back-through f f' n w h s i z only out l = elim (cases_eq s w) [ inl same ↦ absurd (out i z (ap f' (sym same) ∙ l.is)) | inr other ↦ moved-back f f' n w s h i z only other l ]

pub on-through : (f f' : ℕ → Slot) (n w h s : ℕ) (i : Generation) (z : List ℕ) → OthersKept n w f f' → Without f w h → LiveAt f n s h i z → LiveAt f' n s h i z
on-through f f' n w h s i z only out l = elim (cases_eq s w) [ inl same ↦ absurd (out i z (ap f (sym same) ∙ l.is)) | inr other ↦ moved f f' n w s h i z only other l ]

-- the holder of a sector that slot w neither held nor holds
pub held-step : (m m' : List ℕ) (w h : ℕ) (o : Option Held) → OnlySlot w m m' → Without (slot_at m) w h → Without (slot_at m') w h → HeldBy o h m → HeldBy o h m'
held-step m m' w h None only out out' none = λ s i z l.
    none s i z (back-through (slot_at m) (slot_at m') (slot_count m) w h s i z (others-kept w m m' only) out' (subst (λ n. LiveAt (slot_at m') (7 * (block_count n - 4)) s h i z) only.chip.same_length l))
held-step m m' w h (Some o) only out out' (z, l) =
    (z, subst (λ n. LiveAt (slot_at m') (7 * (block_count n - 4)) o.slot h o.generation z) (sym only.chip.same_length) (on-through (slot_at m) (slot_at m') (slot_count m) w h o.slot o.generation z (others-kept w m m' only) out l))

-- no two slots of a sector, after an absent one was added
single-added : (f f' : ℕ → Slot) (n w g : ℕ) (k : Generation) (x : List ℕ) → OthersKept n w f f' → f' w ≡ Live (record { number = g; generation = k }) x → IsAbsent f n g → Single f n → Single f' n
single-added f f' n w g k x only new none single = record {
  one = λ s t h i j y z l m. elim (cases_eq s w) [
    | inl sw ↦ elim (cases_eq t w) [
      | inl tw ↦ sw ∙ sym tw
      | inr tw ↦
          let p = at-new f' n w s g k h i x y new l sw in
          absurd (none t j z (subst (λ q. LiveAt f n t q j z) p.0 (moved-back f f' n w t h j z only tw m)))
    ]
    | inr sw ↦ elim (cases_eq t w) [
      | inl tw ↦
          let p = at-new f' n w t g k h j x z new m tw in
          absurd (none s i y (subst (λ q. LiveAt f n s q i y) p.0 (moved-back f f' n w s h i y only sw l)))
      | inr tw ↦ single.one s t h i j y z (moved-back f f' n w s h i y only sw l) (moved-back f f' n w t h j z only tw m)
    ]
  ];
}

pub not-dead : (f : ℕ → Slot) (n b s h : ℕ) (i : Generation) (y : List ℕ) → f b ≡ Dead → LiveAt f n s h i y → s ≢ b
not-dead f n b s h i y dead l same = dead-without f b h dead i y (ap f (sym same) ∙ l.is)

not-free : (f : ℕ → Slot) (n b s h : ℕ) (i : Generation) (y : List ℕ) → f b ≡ Free → LiveAt f n s h i y → s ≢ b
not-free f n b s h i y free l same = free-without f b h free i y (ap f (sym same) ∙ l.is)

-- and after the slot that held it was retired
single-replaced : (f f1 f2 : ℕ → Slot) (n w b g : ℕ) (j k : Generation) (x y : List ℕ) → OthersKept n w f f1 → f1 w ≡ Live (record { number = g; generation = k }) x → OthersKept n b f1 f2 → f2 b ≡ Dead
    → LiveAt f n b g j y → Single f n → Single f2 n
single-replaced f f1 f2 n w b g j k x y only new only' dead old single = record {
  one = λ s t h i u p q l m.
      let sb : s ≢ b = not-dead f2 n b s h i p dead l in
      let tb : t ≢ b = not-dead f2 n b t h u q dead m in
      let l1 = moved-back f1 f2 n b s h i p only' sb l in
      let m1 = moved-back f1 f2 n b t h u q only' tb m in
      elim (cases_eq s w) [
        | inl sw ↦ elim (cases_eq t w) [
          | inl tw ↦ sw ∙ sym tw
          | inr tw ↦
              let e = at-new f1 n w s g k h i x p new l1 sw in
              absurd (tb (single.one t b g u j q y (subst (λ r. LiveAt f n t r u q) e.0 (moved-back f f1 n w t h u q only tw m1)) old))
        ]
        | inr sw ↦ elim (cases_eq t w) [
          | inl tw ↦
              let e = at-new f1 n w t g k h u x q new m1 tw in
              absurd (sb (single.one s b g i j p y (subst (λ r. LiveAt f n s r i p) e.0 (moved-back f f1 n w s h i p only sw l1)) old))
          | inr tw ↦ single.one s t h i u p q (moved-back f f1 n w s h i p only sw l1) (moved-back f f1 n w t h u q only tw m1)
        ]
      ];
}

pub single-at : (m m' : List ℕ) → SameChip m m' → Single (slot_at m') (slot_count m) → IsSingle m'
single-at m m' chip s = subst (λ n. Single (slot_at m') (7 * (block_count n - 4))) (sym chip.same_length) s

live-at : (m m' : List ℕ) (s g : ℕ) (k : Generation) (x : List ℕ) → SameChip m m' → LiveAt (slot_at m') (slot_count m) s g k x → LiveAt (slot_at m') (slot_count m') s g k x
live-at m m' s g k x chip l = subst (λ n. LiveAt (slot_at m') (7 * (block_count n - 4)) s g k x) (sym chip.same_length) l

-- the generation of the new content
pub generation-next : (m : List ℕ) (g : ℕ) (o : Option Held) → HeldBy o g m → NextGeneration (slot_at m) (slot_count m) g (generation_after o)
generation-next m g None none = begun none refl
generation-next m g (Some o) (x, l) = after o.slot o.generation x l refl

-- a put, whole
pub added : (w g : ℕ) (x m m' : List ℕ) → w < slot_count m → OnlyPlace w m m' → slot_at m' w ≡ Live (record { number = g; generation = generations.Zero }) x
    → IsReplaceable w g None m → Replaces g x (record { slot = w; generation = generations.Zero }) m m'
added w g x m m' low only new r = record {
  chip = only.only.chip;
  sectors = put-holds w (record { number = g; generation = generations.Zero }) x m m' (sector_at m) low r.sector r.free only new r.blocks r.place r.single (generation-next m g None r.held) r.own (sound-holds m r.sound);
  alone = place-alone w m m' only;
  single = single-at m m' only.only.chip (single-added (slot_at m) (slot_at m') (slot_count m) w g generations.Zero x (others-kept w m m' (slot-only w m m' only)) new r.held r.single);
  blocks = placed-settled w m m' r.blocks r.place only;
  held = (x, live-at m m' w g generations.Zero x only.only.chip (record { number = low; is = new }));
  others = λ h o other hold. held-step m m' w h o (slot-only w m m' only) (free-without (slot_at m) w h r.free) (other-without (slot_at m') w h g generations.Zero x new other) hold;
}

-- a put, cut
pub put-cut : (w g : ℕ) (o : Option Held) (x m m' : List ℕ) → w < slot_count m → OnlyPlace w m m' → PutLeaves (record { number = g; generation = generation_after o }) x (slot_at m' w)
    → IsReplaceable w g o m → ReplaceLeaves g x m m'
put-cut w g o x m m' low only left r = record {
  chip = only.only.chip;
  sectors = put-left w (record { number = g; generation = generation_after o }) x m m' (sector_at m) low r.sector r.free only left r.blocks r.place r.single (generation-next m g o r.held) r.own (sound-holds m r.sound);
  alone = place-alone w m m' only;
}

-- after a whole put: the old slot is as it was
pub old-kept : (w g : ℕ) (o : Held) (m m' : List ℕ) → OnlyPlace w m m' → slot_at m w ≡ Free → HeldBy (Some o) g m → HeldBy (Some o) g m'
old-kept w g o m m' only free (y, l) =
    (y, live-at m m' o.slot g o.generation y only.only.chip (moved (slot_at m) (slot_at m') (slot_count m) w o.slot g o.generation y (others-kept w m m' (slot-only w m m' only)) (not-free (slot_at m) (slot_count m) w o.slot g o.generation y free l) l))

retired-holds : (w g : ℕ) (o : Held) (x m m1 m2 : List ℕ) → w < slot_count m → OnlyPlace w m m1 → slot_at m1 w ≡ Live (record { number = g; generation = next_generation o.generation }) x
    → IsReplaceable w g (Some o) m → OnlyPlace o.slot m1 m2 → (slot_at m2 o.slot ≡ slot_at m1 o.slot) ⊎ (slot_at m2 o.slot ≡ Dead) → HoldsSectors (with_sector (sector_at m) g x) m2
retired-holds w g o x m m1 m2 low only new r only' left =
    let old = old-kept w g o m m1 only r.free r.held in
    let apart : w ≢ o.slot = λ e. not-free (slot_at m) (slot_count m) w o.slot g o.generation r.held.0 r.free r.held.1 (sym e) in
    retire-left w o.slot g o.generation (next_generation o.generation) x old.0 m1 m2 (with_sector (sector_at m) g x) only' old.1
    (live-at m m1 w g (next_generation o.generation) x only.only.chip (record { number = low; is = new })) apart refl left (placed-settled w m m1 r.blocks r.place only)
    (put-holds w (record { number = g; generation = next_generation o.generation }) x m m1 (sector_at m) low r.sector r.free only new r.blocks r.place r.single (generation-next m g (Some o) r.held) r.own (sound-holds m r.sound))

-- a put and a retirement, whole
pub replaced : (w g : ℕ) (o : Held) (x m m1 m2 : List ℕ) → w < slot_count m → OnlyPlace w m m1 → slot_at m1 w ≡ Live (record { number = g; generation = next_generation o.generation }) x
    → OnlyPlace o.slot m1 m2 → slot_at m2 o.slot ≡ Dead → IsReplaceable w g (Some o) m → Replaces g x (record { slot = w; generation = next_generation o.generation }) m m2
replaced w g o x m m1 m2 low only new only' dead r =
    let k = next_generation o.generation in
    let apart : w ≢ o.slot = λ e. not-free (slot_at m) (slot_count m) w o.slot g o.generation r.held.0 r.free r.held.1 (sym e) in
    let chip = chip-after m m1 m2 only.only.chip only'.only.chip in
    let old = old-kept w g o m m1 only r.free r.held in
    let only1 : OthersKept (slot_count m) o.slot (slot_at m1) (slot_at m2) = subst (λ n. OthersKept (7 * (block_count n - 4)) o.slot (slot_at m1) (slot_at m2)) only.only.chip.same_length (others-kept o.slot m1 m2 (slot-only o.slot m1 m2 only')) in
    record {
      chip = chip;
      sectors = retired-holds w g o x m m1 m2 low only new r only' (inr dead);
      alone = λ a. place-alone o.slot m1 m2 only' (place-alone w m m1 only a);
      single = single-at m m2 chip (single-replaced (slot_at m) (slot_at m1) (slot_at m2) (slot_count m) w o.slot g o.generation k x r.held.0 (others-kept w m m1 (slot-only w m m1 only)) new only1 dead r.held.1 r.single);
      blocks =
          let one = placed-settled w m m1 r.blocks r.place only in
          placed-settled o.slot m1 m2 one (live-placed o.slot (record { number = g; generation = o.generation }) old.0 m1 one old.1.number old.1.is) only';
      held = (x, live-at m m2 w g k x chip (record { number = low; is = only1.each w low apart ∙ new }));
      others = λ h q other hold. held-step m1 m2 o.slot h q (slot-only o.slot m1 m2 only') (other-without (slot_at m1) o.slot h g o.generation old.0 old.1.is other) (dead-without (slot_at m2) o.slot h dead)
          (held-step m m1 w h q (slot-only w m m1 only) (free-without (slot_at m) w h r.free) (other-without (slot_at m1) w h g k x new other) hold);
    }

-- and a put, whole, and a retirement that was cut
pub retire-cut : (w g : ℕ) (o : Held) (x m m1 m2 : List ℕ) → w < slot_count m → OnlyPlace w m m1 → slot_at m1 w ≡ Live (record { number = g; generation = next_generation o.generation }) x
    → OnlyPlace o.slot m1 m2 → (slot_at m2 o.slot ≡ slot_at m1 o.slot) ⊎ (slot_at m2 o.slot ≡ Dead) → IsReplaceable w g (Some o) m → ReplaceLeaves g x m m2
retire-cut w g o x m m1 m2 low only new only' left r = record {
  chip = chip-after m m1 m2 only.only.chip only'.only.chip;
  sectors = inr (retired-holds w g o x m m1 m2 low only new r only' left);
  alone = λ a. place-alone o.slot m1 m2 only' (place-alone w m m1 only a);
}

-- what the holder's slot has is the sector's content
pub found : (g : ℕ) (o : Held) (x m : List ℕ) → IsSoundMap m → IsSingle m → HeldBy (Some o) g m → ((y : List ℕ) → slot_at m o.slot ≡ Live (record { number = g; generation = o.generation }) y → x ≡ y) → x ≡ sector_at m g
found g o x m sound single (y, l) is =
    is y l.is ∙ sector-one (slot_at m) (slot_count m) g y (sector_at m g)
    (held o.slot o.generation l (λ t j z lt other. absurd (other (single.one t o.slot g j o.generation z y lt l))))
    (sector-content-is (slot_at m) (slot_count m) g (sector_count (length m)) sound.slots)

-- the holder's slot is still live once the new one is written, and its block isn't of a group
pub old-retirable : (w g : ℕ) (o : Held) (m m1 : List ℕ) → OnlyPlace w m m1 → IsReplaceable w g (Some o) m → IsRetirable o.slot m1
old-retirable w g o m m1 only r =
    let old = old-kept w g o m m1 only r.free r.held in
    let tag : Tag = record { number = g; generation = o.generation } in
    let low = r.held.1.number in
    let inside : o.slot / 7 < data_blocks m = omega (arith, low) in
    ((tag, old.0, old.1.is), ap is_group (place-kinds w m m1 only (o.slot / 7) inside) ∙ r.own o.slot o.generation r.held.0 r.held.1)

-- The same in the words of the calls: the generation was computed, and each clause has its premises.
pub add-done : (w g : ℕ) (x m m' : List ℕ) → w < slot_count m → OnlyPlace w m m' → (slot_at m w ≡ Free → HoldsTag (record { number = g; generation = generations.Zero }) (slot_at m' w))
    → (IsWritable w m → slot_at m' w ≡ Live (record { number = g; generation = generations.Zero }) x) → (IsWritable w m → IsClean m')
    → IsReplaceable w g None m → Rewrites g x (record { slot = w; generation = generations.Zero }) m m'
add-done w g x m m' low only live new clean r =
    let (y, e) = live r.free in
    record {
      content = y;
      replaces = added w g y m m' low only e r;
      exact = λ c. ap content_in (sym e ∙ new (r.free, c));
      clean = λ c. clean (r.free, c);
    }

-- the content that a cut write left
content-left : (tag : Tag) (x y : List ℕ) (slot : Slot) → PutLeaves tag x slot → slot ≡ Live tag y → y ≡ x
content-left tag x y slot (still_free f) e = absurd (live-not-free slot tag y e f)
content-left tag x y slot (half_written d) e = absurd (dead-not-live slot tag y d e)
content-left tag x y slot (written f) e = ap content_in (sym e ∙ f)

pub put-was-cut : (w g : ℕ) (o : Option Held) (k : Generation) (x m m' : List ℕ) → k ≡ generation_after o → w < slot_count m → OnlyPlace w m m'
    → (slot_at m w ≡ Free → MayHoldTag (record { number = g; generation = k }) (slot_at m' w))
    → (IsWritable w m → PutLeaves (record { number = g; generation = k }) x (slot_at m' w))
    → (IsWritable w m → IsClean m') → IsReplaceable w g o m → RewriteLeaves g x m m'
put-was-cut w g o k x m m' e low only live left clean r =
    let tag : Tag = record { number = g; generation = k } in
    let at = λ (y : List ℕ) (p : PutLeaves tag y (slot_at m' w)). put-cut w g o y m m' low only (subst (λ z. PutLeaves (record { number = g; generation = z }) y (slot_at m' w)) e p) r in
    elim (live r.free) as (λ _. RewriteLeaves g x m m') [
      | inl f ↦ record { content = x; leaves = at x (still_free f); exact = λ c. refl; clean = λ c. clean (r.free, c) }
      | inr rest ↦ elim rest as (λ _. RewriteLeaves g x m m') [
        | inl d ↦ record { content = x; leaves = at x (half_written d); exact = λ c. refl; clean = λ c. clean (r.free, c) }
        | inr h ↦ record { content = h.0; leaves = at h.0 (written h.1); exact = λ c. content-left tag x h.0 (slot_at m' w) (left (r.free, c)) h.1; clean = λ c. clean (r.free, c) }
      ]
    ]

pub replace-done : (w g : ℕ) (o : Held) (k : Generation) (x m m1 m2 : List ℕ) → k ≡ next_generation o.generation → w < slot_count m → OnlyPlace w m m1
    → (slot_at m w ≡ Free → HoldsTag (record { number = g; generation = k }) (slot_at m1 w)) → (IsWritable w m → slot_at m1 w ≡ Live (record { number = g; generation = k }) x)
    → (IsWritable w m → IsClean m1) → OnlyPlace o.slot m1 m2 → (IsRetirable o.slot m1 → slot_at m2 o.slot ≡ Dead) → (IsRetirable o.slot m1 → IsClean m1 → IsClean m2) → IsReplaceable w g (Some o) m → Rewrites g x (record { slot = w; generation = k }) m m2
replace-done w g o k x m m1 m2 e low only live new clean only' dead clean' r =
    let (y, f) = live r.free in
    let was = old-retirable w g o m m1 only r in
    record {
      content = y;
      replaces = subst (λ z. Replaces g y (record { slot = w; generation = z }) m m2) (sym e)
          (replaced w g o y m m1 m2 low only (subst (λ z. slot_at m1 w ≡ Live (record { number = g; generation = z }) y) e f) only' (dead was) r);
      exact = λ c. ap content_in (sym f ∙ new (r.free, c));
      clean = λ c. clean' was (clean (r.free, c));
    }

pub retire-was-cut : (w g : ℕ) (o : Held) (k : Generation) (x m m1 m2 : List ℕ) → k ≡ next_generation o.generation → w < slot_count m → OnlyPlace w m m1
    → (slot_at m w ≡ Free → HoldsTag (record { number = g; generation = k }) (slot_at m1 w)) → (IsWritable w m → slot_at m1 w ≡ Live (record { number = g; generation = k }) x)
    → (IsWritable w m → IsClean m1) → OnlyPlace o.slot m1 m2
    → (IsRetirable o.slot m1 → (slot_at m2 o.slot ≡ slot_at m1 o.slot) ⊎ (slot_at m2 o.slot ≡ Dead))
    → (IsRetirable o.slot m1 → IsClean m1 → IsClean m2) → IsReplaceable w g (Some o) m → RewriteLeaves g x m m2
retire-was-cut w g o k x m m1 m2 e low only live new clean only' left clean' r =
    let (y, f) = live r.free in
    let was = old-retirable w g o m m1 only r in
    let either = left was in
    record {
      content = y;
      leaves = retire-cut w g o y m m1 m2 low only (subst (λ z. slot_at m1 w ≡ Live (record { number = g; generation = z }) y) e f) only' either r;
      exact = λ c. ap content_in (sym f ∙ new (r.free, c));
      clean = λ c. clean' was (clean (r.free, c));
    }

-- the content that was read from the holder's slot
pub content-found : (g : ℕ) (holder : Option Held) (o : Held) (x m : List ℕ) → holder ≡ Some o → ((tag : Tag) (content : List ℕ) → stored_at m o.slot ≡ Live tag content → x ≡ content)
    → IsSoundMap m → IsSingle m → HeldBy holder g m → x ≡ sector_at m g
content-found g holder o x m e is sound single hold =
    found g o x m sound single (subst (λ q. HeldBy q g m) e hold) (λ y l. (let tag : Tag = record { number = g; generation = o.generation } in is tag y (counted-raw m o.slot (Live tag y) l (λ e. subst (λ a. HoldsNothing a) (sym e) tt))))

pub absent-found : (g n : ℕ) (holder : Option Held) (x m : List ℕ) → holder ≡ None → x ≡ replicate n 0 → n ≡ 512 → IsSoundMap m → HeldBy holder g m → x ≡ sector_at m g
unfolding zeros
absent-found g n holder x m e filled size sound hold =
    sector-one (slot_at m) (slot_count m) g x (sector_at m g) (absent (subst (λ q. HeldBy q g m) e hold) (filled ∙ ap (λ k. replicate k 0) size))
    (sector-content-is (slot_at m) (slot_count m) g (sector_count (length m)) sound.slots)

-- the same of an answer, whose holder is known
pub ok-holder : (r : Result Held NorError) (o o' : Option Held) (w g : ℕ) (x m m' : List ℕ) → o ≡ o' → IfOk r (λ h. IsReplaceable w g o' m → Rewrites g x h m m') → IfOk r (λ h. IsReplaceable w g o m → Rewrites g x h m m')
ok-holder (Ok h) o o' w g x m m' e done = λ r. done (subst (λ q. IsReplaceable w g q m) e r)
ok-holder (Err f) o o' w g x m m' e done = tt
