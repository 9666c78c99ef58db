-- A sector is written into a free slot, or a slot is retired, on a chip that a firm mount left: what it leaves of it, whole or cut.
use Rattle.std.proofs.Common.{◌≡◌, ◌≢◌, ℕ, ◌+◌, ◌-◌, ◌*◌, ◌<◌, ◌/◌, false, List, length, refl, sym, ap, ◌∙◌, subst, arith, inl, inr}
use Rattle.std.specs.Prelude.{◌%◌, Option, Some, None, Result, Ok, Err}
use Rattle.std.proofs.lemmas.Bool.{cases_eq, true≢false}
use Rattle.chip_model.specs.Geometry.{block_count, sector_count}
use Rattle.chip_model.specs.Memory.{byte}
use Rattle.chip_model.specs.Wavering.{Bits}
use Rattle.nor_layout.specs.declared.header.Generation.{Generation}
use Rattle.nor_layout.specs.declared.header.Tag.{Tag}
use Rattle.nor_layout.specs.Headers.{next_generation}
use Rattle.nor_driver.specs.State.{NorState, IsFirmer, bits_in}
use Rattle.nor_driver.specs.declared.error.NorError.{NorError}
use Rattle.erase_journal.specs.Journals.{IsHealthy, IsSettled}
use Rattle.erase_journal.specs.Steps.{SucceedsSettled}
use Rattle.erase_journal.specs.Weak.{AreFirm}
use Rattle.erase_journal.proofs.WeakLaws.{are-firm-stays}
use Rattle.sector_slots.specs.Slots.{counted, Slot, Free, Live, Dead, slot_at, slot_count, data_blocks, data_block, kind_at, raw_slot, is_group, IsClean, IsSpareIn}
use Rattle.sector_slots.specs.Blocks.{AreAtRest, AreSettled, SoundBlocks, settled}
use Rattle.sector_slots.specs.Copying.{HoldsNothing}
use Rattle.sector_slots.specs.Losses.{AreNewerFirm, HasSureSlots, HasSureSpareBut, WriteInterrupted, retired}
use Rattle.sector_slots.specs.Sectors.{LiveAt, NextGeneration, begun, after, SoundSlots, Single, IsSingle, IsSoundMap, with_sector, sector_at, generation_in, content_in, absent, zeros}
use Rattle.sector_slots.specs.Steps.{OnlyPlace}
use Rattle.sector_slots.specs.Torn.{PutInterrupted, StateInterrupted}
use Rattle.sector_slots.specs.Weak.{descriptor_place, sector_place, HasSureRoom, HasSureSpare, IsSureSlot, firm, dead, fading, spare}
use Rattle.sector_slots.proofs.AloneLaws.{place-alone}
use Rattle.sector_slots.proofs.BlankLaws.{holds-sound, sound-holds}
use Rattle.sector_slots.proofs.DiskLaws.{disk-after, sure-slots-stay}
use Rattle.sector_slots.proofs.FirmLaws.{here, slot_number}
use Rattle.sector_slots.proofs.HeadLaws.{free-state, killed-state}
use Rattle.sector_slots.proofs.MachineLaws.{block-data}
use Rattle.sector_slots.proofs.PlaceLaws.{later, later-is, place-others, place-settled, place-fit, retired-sub}
use Rattle.sector_slots.proofs.SectorLaws.{at-new, moved-back, sound-fewer, whole-kept, dead-whole}
use Rattle.sector_slots.proofs.SlotLaws.{counted-raw}
use Rattle.sector_slots.proofs.WinnerLaws.{sector-one, sector-content-is}
use Rattle.sector_stock.specs.declared.index.BlockState.{BlockState}
use Rattle.sector_stock.specs.Index.{in_block, IsFirmIn}
use Rattle.sector_stock.specs.IndexSteps.{HasNoneFreeBefore}
use Rattle.sector_stock.specs.Losses.{GivesUpSector, IsFirmDiskIn, IsFirmPlace, LosesNothing, TakesSector, suspects_in}
use Rattle.sector_stock.proofs.Losing.{loses-in}
use Rattle.sector_stock.proofs.Moved.{rest-slot}
use Rattle.sector_map.specs.declared.table.Held.{Held}
use Rattle.sector_map.specs.Losses.{KeepsAtLoss, KeepsFirmly, SetsAtLoss, SetsFirmly, after_it, before_it, in_it}
use Rattle.sector_map.specs.Maps.{Sets}
use Rattle.sector_map.specs.Replace.{HeldBy, IsInSlots, IsPlaced, IsReplaceable, generation_after, tag_after}
use Rattle.sector_map.proofs.KeepLosses.{firm-store, loses-keeps, same-bits}
use Rattle.sector_map.proofs.MapCalls.{holds-sets, keeps-none, none-moved}
use Rattle.sector_stock.proofs.FirmLosses.{rest-room}
use Rattle.sector_map.proofs.Places.{others-kept, placed-settled, slot-only, put-holds, spare-apart}
use Rattle.sector_map.proofs.Replacing.{found, generation-next, old-kept}
use Rattle.sector_map.proofs.Zeroing.{sets-keeps}

-- a free slot that is sure is firm
pub free-firm : (b : Bits) (c i : ℕ) → IsSettled b.shown → is_group (kind_at b.shown c) ≡ false → i < 7 → raw_slot b.shown c i ≡ Free → IsSureSlot b c i → AreFirm b.weak (descriptor_place c i) 4 × AreFirm b.weak (sector_place c i) 512
free-firm b c i shut alone low free (firm d s) = (d, s)
free-firm b c i shut alone low free (dead d) =
    let state : byte b.shown (descriptor_place c i) ≡ 255 = sym (here b.shown c (16 + 4 * i) shut (omega (arith, low))) ∙ free-state (data_block b.shown c) i alone free in
    absurd ((killed-state (byte b.shown (descriptor_place c i)) d.bit d.from d.below d.reads).0 state)
free-firm b c i shut alone low free (fading h) = let e : 0 ≡ 1 = ap slot_number (sym free ∙ h.live) in absurd (omega (arith, e))

-- slots and blocks of a memory as long
pub sized : (m m' : List ℕ) (s g : ℕ) (k : Generation) (x : List ℕ) → length m' ≡ length m → LiveAt (slot_at m') (slot_count m') s g k x → LiveAt (slot_at m') (slot_count m) s g k x
sized m m' s g k x e l = subst (λ n. LiveAt (slot_at m') (7 * (block_count n - 4)) s g k x) e l

-- a wholly free block beside the slot that changed
room-kept : (w : ℕ) (a b : NorState) (r : ℕ) → IsFirmer (bits_in a) (bits_in b) → OnlyPlace w a.memory b.memory → r < data_blocks a.memory → r ≢ w / 7 → IsSpareIn a.memory r → HasSureSlots (bits_in a) r → HasSureRoom (bits_in b)
room-kept w a b r f only low apart is slots =
    let blocks = block-data (w / 7) a.memory b.memory only.only in
    let n : data_blocks b.memory ≡ data_blocks a.memory = ap (λ k. block_count k - 4) only.only.chip.same_length in
    let same : (i : ℕ) → i < 7 → raw_slot b.memory r i ≡ raw_slot a.memory r i = λ i tiny. blocks.same_slots r i low apart in
    spare r (omega (arith, low, n)) (record { plain = blocks.same_kind r low apart ∙ is.plain; free = λ i tiny. same i tiny ∙ is.free i tiny })
    (sure-slots-stay (bits_in a) (bits_in b) f r same slots)

-- The sector that is written comes next to the one slot that held it.
next-of : (f : ℕ → Slot) (n g : ℕ) (k : Generation) → Single f n → NextGeneration f n g k → (t : ℕ) (j : Generation) (y : List ℕ) → LiveAt f n t g j y → k ≡ next_generation j
next-of f n g k single (begun none e) t j y l = absurd (none t j y l)
next-of f n g k single (after s i x m e) t j y l =
    let at : s ≡ t = single.one s t g i j x y m l in
    let same : Live (record { number = g; generation = i }) x ≡ Live (record { number = g; generation = j }) y = sym m.is ∙ (ap f at ∙ l.is) in
    e ∙ ap next_generation (ap generation_in same)

-- A sector was written into a free slot of a trusted block.
module _ (w : ℕ) (tag : Tag) (a b : NorState) (blocks : List BlockState) (h : IsFirmDiskIn (bits_in a) blocks) (t : TakesSector w tag blocks (bits_in a)) (done : SucceedsSettled a b) where
  pub written-place : IsFirmPlace w (bits_in b)
  written-place =
      let f = done.kept.bits in
      let c = w / 7 in
      let i = w % 7 in
      let low : i < 7 = omega arith in
      let number = t.free.number in
      let sure = (h.store c number).slots i low in
      let both : AreFirm a.weak (descriptor_place c i) 4 × AreFirm a.weak (sector_place c i) 512 = elim sure [
        | inl s ↦ free-firm (bits_in a) c i h.settled (h.alone c number) low t.free.free s
        | inr d ↦ absurd (true≢false (sym d.0 ∙ t.trusted))
      ] in
      record { descriptor = are-firm-stays (bits_in a) (bits_in b) (descriptor_place c i) 4 f both.0; sector = are-firm-stays (bits_in a) (bits_in b) (sector_place c i) 512 f both.1 }

  module _ (x : List ℕ) (low : w < slot_count a.memory) (free : slot_at a.memory w ≡ Free) (only : OnlyPlace w a.memory b.memory) (new : slot_at b.memory w ≡ Live tag x) where
    written-sound : IsSoundMap b.memory
    written-sound =
        let blocks : AreSettled a.memory = record { rest = t.rest; reserve = t.room.block; number = t.room.number; spare = t.room.spare } in
        let placed : IsPlaced w a.memory = record { reserve = t.room.block; number = t.room.number; spare = t.room.spare; apart = t.room.other } in
        let own : IsInSlots tag.number a.memory = λ s k y l. (let n = l.number in h.alone (s / 7) (omega (arith, n))) in
        holds-sound b.memory (with_sector (sector_at a.memory) tag.number x) (put-holds w tag x a.memory b.memory (sector_at a.memory) low t.sector free only new blocks placed t.single t.next own (sound-holds a.memory h.sound))

    written-newer : AreNewerFirm (bits_in b)
    written-newer s r g j k y z p q other =
        let n = only.only.chip.same_length in
        let kept = others-kept w a.memory b.memory (slot-only w a.memory b.memory only) in
        let p1 = sized a.memory b.memory s g j y n p in
        let q1 = sized a.memory b.memory r g k z n q in
        elim (cases_eq s w) [
          | inl e ↦ inl (subst (λ v. AreFirm b.weak (descriptor_place (v / 7) (v % 7)) 4) (sym e) written-place.descriptor)
          | inr sw ↦ elim (cases_eq r w) [
            | inl rw' ↦
                let at = at-new (slot_at b.memory) (slot_count a.memory) w r tag.number tag.generation g k x z new q1 rw' in
                let was = subst (λ v. LiveAt (slot_at a.memory) (slot_count a.memory) s v j y) at.0 (moved-back (slot_at a.memory) (slot_at b.memory) (slot_count a.memory) w s g j y kept sw p1) in
                inr (at.1 ∙ next-of (slot_at a.memory) (slot_count a.memory) tag.number tag.generation t.single t.next s j y was)
            | inr rw' ↦ absurd (other (t.single.one s r g j k y z (moved-back (slot_at a.memory) (slot_at b.memory) (slot_count a.memory) w s g j y kept sw p1) (moved-back (slot_at a.memory) (slot_at b.memory) (slot_count a.memory) w r g k z kept rw' q1)))
          ]
        ]

    pub written-disk : (later : List BlockState) → IsClean b.memory → IsFirmIn (bits_in b) later → IsFirmDiskIn (bits_in b) later
    written-disk later clean store =
        disk-after a b (suspects_in blocks) (suspects_in later) h done only.only.chip.same_length written-sound (place-alone w a.memory b.memory only h.alone) clean written-newer store
        (room-kept w a b t.room.block done.kept.bits only t.room.number t.room.other t.room.spare t.room.slots)

-- the write was cut
pub put-loses : (w : ℕ) (tag : Tag) (x : List ℕ) (a b : Bits) (blocks : List BlockState) → TakesSector w tag blocks a → length x ≡ 512 → ((k : ℕ) → byte x k < 256) → PutInterrupted (w / 7) (w % 7) tag x a b → WriteInterrupted a (suspects_in blocks) tag x b
put-loses w tag x a b blocks t size bytes put = record { block = w / 7; place = w % 7; free = t.free; rest = t.rest; trusted = t.trusted; room = t.room; sector = t.sector; next = t.next; single = t.single; size = size; bytes = bytes; put = put }

-- A live slot was made dead.
pub raw-live : (m : List ℕ) (w : ℕ) (tag : Tag) (x : List ℕ) → slot_at m w ≡ Live tag x → raw_slot m (w / 7) (w % 7) ≡ Live tag x
raw-live m w tag x e = counted-raw m w (Live tag x) e (λ q. subst (λ s. HoldsNothing s) (sym q) tt)

module _ (w : ℕ) (a b : NorState) (blocks : List BlockState) (h : IsFirmDiskIn (bits_in a) blocks) (t : GivesUpSector w (bits_in a)) (low : w < slot_count a.memory) (only : OnlyPlace w a.memory b.memory) (gone : slot_at b.memory w ≡ Dead) where
  gone-later : later a.memory b.memory w ≡ Dead
  gone-later = sym (later-is a.memory b.memory w only.only.chip.same_length) ∙ gone

  gone-sub : (s g : ℕ) (k : Generation) (x : List ℕ) → LiveAt (later a.memory b.memory) (slot_count a.memory) s g k x → LiveAt (slot_at a.memory) (slot_count a.memory) s g k x
  gone-sub = retired-sub w a.memory b.memory only (inr gone-later)

  gone-spare : HasSureSpare (bits_in a)
  gone-spare = rest-room (bits_in a) t.rest h.room

  gone-apart : gone-spare.block ≢ w / 7
  gone-apart = spare-apart a.memory gone-spare.block w t.tag t.content t.rest gone-spare.spare low t.live

  gone-sound : IsSoundMap b.memory
  gone-sound =
      let chip = only.only.chip in
      let n = chip.same_length in
      let slots : SoundSlots (later a.memory b.memory) (slot_count a.memory) (sector_count (length a.memory)) = sound-fewer (slot_at a.memory) (later a.memory b.memory) (slot_count a.memory) (sector_count (length a.memory)) gone-sub
      (whole-kept (slot_at a.memory) (later a.memory b.memory) (slot_count a.memory) w (place-others w a.memory b.memory only) (dead-whole (later a.memory b.memory w) gone-later) h.sound.slots.whole) h.sound.slots in
      let s = gone-spare in
      let sound : SoundBlocks (kind_at b.memory) (raw_slot b.memory) (data_blocks a.memory) = settled (place-settled w s.block a.memory b.memory s.number s.spare gone-apart t.rest only) in
      record {
        slots = subst (λ k. SoundSlots (counted (kind_at b.memory) (raw_slot b.memory) (block_count k - 4)) (7 * (block_count k - 4)) (sector_count k)) (sym n) slots;
        blocks = subst (λ k. SoundBlocks (kind_at b.memory) (raw_slot b.memory) (block_count k - 4)) (sym n) sound;
        groups = place-fit w a.memory b.memory only gone-sub h.sound.groups;
      }

  gone-newer : IsFirmer (bits_in a) (bits_in b) → AreNewerFirm (bits_in b)
  gone-newer f s r g j k y z p q other =
      let n = only.only.chip.same_length in
      let back = λ (v : ℕ) (i : Generation) (u : List ℕ) (l : LiveAt (slot_at b.memory) (slot_count b.memory) v g i u).
      gone-sub v g i u (subst (λ q. LiveAt (counted (kind_at b.memory) (raw_slot b.memory) (block_count q - 4)) (7 * (block_count q - 4)) v g i u) n l) in
      elim (h.newer s r g j k y z (back s j y p) (back r k z q) other) [
        | inl d ↦ inl (are-firm-stays (bits_in a) (bits_in b) (descriptor_place (s / 7) (s % 7)) 4 f d)
        | inr e ↦ inr e
      ]

  pub gone-disk : SucceedsSettled a b → (later : List BlockState) → IsClean b.memory → IsFirmIn (bits_in b) later → IsFirmDiskIn (bits_in b) later
  gone-disk done later clean store =
      disk-after a b (suspects_in blocks) (suspects_in later) h done only.only.chip.same_length gone-sound (place-alone w a.memory b.memory only h.alone) clean (gone-newer done.kept.bits) store
      (room-kept w a b gone-spare.block done.kept.bits only gone-spare.number gone-apart gone-spare.spare gone-spare.slots)

-- the retirement was cut
pub retire-loses : (w : ℕ) (a b : Bits) (blocks : List BlockState) → IsFirmDiskIn a blocks → GivesUpSector w a → w < slot_count a.shown → StateInterrupted (descriptor_place (w / 7) (w % 7)) 248 a b → LosesNothing a.shown b
retire-loses w a b blocks h t low l = loses-in a (suspects_in blocks) b h (retired (w / 7) (w % 7) t.tag t.content (omega (arith, low)) (omega arith) t.rest (raw-live a.shown w t.tag t.content t.live) t.spent l)

-- A sector is written anew: the slot that is taken, and the one that held it.
rest-before : (m : List ℕ) (w : ℕ) → AreAtRest (kind_at m) (data_blocks m) → w < slot_count m → HasNoneFreeBefore w m → (j : ℕ) → j < w % 7 → raw_slot m (w / 7) j ≢ Free
rest-before m w rest low first j below free = first (7 * (w / 7) + j) (omega (arith, below)) (omega (arith, below)) (rest-slot m (w / 7) j rest (omega (arith, low)) (omega (arith, below)) ∙ free)

pub takes-sector : (w g : ℕ) (o : Option Held) (b : Bits) (blocks : List BlockState) → IsReplaceable w g o b.shown → w < slot_count b.shown → HasNoneFreeBefore w b.shown → (in_block blocks (w / 7)).suspect ≡ false → HasSureSpareBut (w / 7) b
    → TakesSector w (tag_after g o) blocks b
takes-sector w g o b blocks r low first trusted room = record {
  free = record {
    number = omega (arith, low);
    within = omega arith;
    free = counted-raw b.shown w Free r.free (λ e. (let q : 0 ≡ 4 = ap slot_number e in omega (arith, q)));
    lowest = rest-before b.shown w r.blocks.rest low first;
  };
  rest = r.blocks.rest;
  trusted = trusted;
  room = room;
  sector = r.sector;
  next = generation-next b.shown g o r.held;
  single = r.single;
}

-- after a call that only reads
pub takes-later : (w : ℕ) (tag : Tag) (a b : NorState) (p q : List BlockState) → b.memory ≡ a.memory → b.weak ≡ a.weak → q ≡ p → TakesSector w tag p (bits_in a) → TakesSector w tag q (bits_in b)
takes-later w tag a b p q m v e t = subst (λ z. TakesSector w tag z (bits_in b)) (sym e) (subst (λ z. TakesSector w tag p z) (sym (same-bits a b m v)) t)

-- with the generation that was computed
pub takes-as : (w g : ℕ) (o : Option Held) (k : Generation) (blocks : List BlockState) (b : Bits) → k ≡ generation_after o → TakesSector w (tag_after g o) blocks b → TakesSector w (record { number = g; generation = k }) blocks b
takes-as w g o k blocks b e t = subst (λ z. TakesSector w (record { number = g; generation = z }) blocks b) (sym e) t

pub new-as : (m : List ℕ) (w g : ℕ) (o : Option Held) (k : Generation) (x : List ℕ) → k ≡ generation_after o → slot_at m w ≡ Live (record { number = g; generation = k }) x → slot_at m w ≡ Live (tag_after g o) x
new-as m w g o k x e new = subst (λ z. slot_at m w ≡ Live (record { number = g; generation = z }) x) e new

-- once the new slot is written and firm, the old one may go
pub gives-up-old : (w g : ℕ) (o : Held) (x m : List ℕ) (b : Bits) → w < slot_count m → OnlyPlace w m b.shown → slot_at b.shown w ≡ Live (tag_after g (Some o)) x → IsReplaceable w g (Some o) m → IsFirmPlace w b → GivesUpSector o.slot b
gives-up-old w g o x m b low only new r place =
    let old = old-kept w g o m b.shown only r.free r.held in
    let n : data_blocks b.shown ≡ data_blocks m = ap (λ k. block_count k - 4) only.only.chip.same_length in
    record {
      tag = record { number = g; generation = o.generation };
      content = old.0;
      live = old.1.is;
      rest = (placed-settled w m b.shown r.blocks r.place only).rest;
      spent = inl (record {
        block = w / 7;
        place = w % 7;
        content = x;
        number = omega (arith, low, n);
        within = omega arith;
        live = raw-live b.shown w (tag_after g (Some o)) x new;
        descriptor = place.descriptor;
        sector = place.sector;
      });
    }

-- the slot of a sector that is zeros may go
pub gives-up-zeros : (g : ℕ) (o : Held) (b : Bits) → AreAtRest (kind_at b.shown) (data_blocks b.shown) → IsSoundMap b.shown → IsSingle b.shown → HeldBy (Some o) g b.shown → sector_at b.shown g ≡ zeros → GivesUpSector o.slot b
gives-up-zeros g o b rest sound single (x, l) zero = record {
  tag = record { number = g; generation = o.generation };
  content = x;
  live = l.is;
  rest = rest;
  spent = inr (found g o x b.shown sound single (x, l) (λ y e. ap content_in (sym l.is ∙ e)) ∙ zero, single);
}

-- a sector that no slot holds is zeros
pub absent-zeros : (g : ℕ) (m : List ℕ) → IsSoundMap m → HeldBy None g m → sector_at m g ≡ zeros
absent-zeros g m sound none = sym (sector-one (slot_at m) (slot_count m) g zeros (sector_at m g) (absent none refl) (sector-content-is (slot_at m) (slot_count m) g (sector_count (length m)) sound.slots))

-- What is left where the power goes: in the write,
pub write-loses : (g : ℕ) (x : List ℕ) (a b : Bits) (blocks : List BlockState) (k : Generation) → IsFirmDiskIn a blocks → WriteInterrupted a (suspects_in blocks) (record { number = g; generation = k }) x b → SetsAtLoss g x a.shown b
write-loses g x a b blocks k h l = in_it a (suspects_in blocks) (record { number = g; generation = k }) h (keeps-none a.shown (firm-store a (suspects_in blocks) h)) refl l

-- after it,
pub write-sets : (w g : ℕ) (o : Option Held) (x m m' : List ℕ) → IsReplaceable w g o m → w < slot_count m → OnlyPlace w m m' → slot_at m' w ≡ Live (tag_after g o) x → IsHealthy m' → IsClean m' → Sets g x m m'
write-sets w g o x m m' r low only new healthy clean =
    holds-sets g x x m m m' (none-moved m m refl r.sound r.single r.blocks) only.only.chip
    (put-holds w (tag_after g o) x m m' (sector_at m) low r.sector r.free only new r.blocks r.place r.single (generation-next m g o r.held) r.own (sound-holds m r.sound))
    (place-alone w m m' only) healthy (λ c. refl) (λ c. clean) r.sound r.sector

pub at-loss-set : (g : ℕ) (x m m1 : List ℕ) (b : Bits) → g < sector_count (length m) → Sets g x m m1 → KeepsAtLoss m1 b → SetsAtLoss g x m b
at-loss-set g x m m1 b inside s l = after_it l.before l.suspect l.disk (sets-keeps g x m m1 l.before.shown inside s l.keeps) l.change

pub retire-sets : (g : ℕ) (x m m1 : List ℕ) (b : Bits) → g < sector_count (length m) → Sets g x m m1 → LosesNothing m1 b → SetsAtLoss g x m b
retire-sets g x m m1 b inside s l = at-loss-set g x m m1 b inside s (loses-keeps m1 b s.store.slots l)

-- in a call that keeps the sectors as this write would leave them,
pub keeps-sets : {T : Type 0} (g : ℕ) (x : List ℕ) (r : Result T NorError) (a b : NorState) (p q : List BlockState) → KeepsFirmly r a p b q → SetsFirmly g x r a p b q
keeps-sets g x (Ok v) a b p q h = h
keeps-sets g x (Err e) a b p q h = λ disk is. before_it (h disk is)

-- or in one that keeps them after the write.
pub keeps-set : {T : Type 0} (g : ℕ) (x : List ℕ) (r : Result T NorError) (a b c : NorState) (p q s : List BlockState) → g < sector_count (length a.memory) → (IsFirmDiskIn (bits_in a) p → IsFirmDiskIn (bits_in b) q) → Sets g x a.memory b.memory → (IsFirmDiskIn (bits_in a) p → KeepsFirmly r b q c s)
    → SetsFirmly g x r a p c s
keeps-set g x (Ok v) a b c p q s inside first sets h = λ disk. h disk (first disk)
keeps-set g x (Err e) a b c p q s inside first sets h = λ disk is. at-loss-set g x a.memory b.memory (bits_in c) inside sets (h disk (first disk) is)

-- the same of an answer, whose holder is known
pub firmly-holder : {T : Type 0} (r : Result T NorError) (o o' : Option Held) (w g : ℕ) (x : List ℕ) (a b : NorState) (p q : List BlockState) → o ≡ o' → (IsReplaceable w g o' a.memory → TakesSector w (tag_after g o') p (bits_in a) → SetsFirmly g x r a p b q)
    → IsReplaceable w g o a.memory → TakesSector w (tag_after g o) p (bits_in a) → SetsFirmly g x r a p b q
firmly-holder r o o' w g x a b p q e h = λ is takes. h (subst (λ z. IsReplaceable w g z a.memory) e is) (subst (λ z. TakesSector w (tag_after g z) p (bits_in a)) e takes)
