-- A wholly free block that is erased once more: each block is of the kind that it was, and so is each slot.
use Rattle.std.proofs.Common.{◌≡◌, ◌≢◌, ℕ, ◌+◌, ◌-◌, ◌*◌, ◌<◌, ◌≤◌, List, length, refl, sym, ap, ◌∙◌, subst, arith, inl, inr}
use Rattle.std.specs.Prelude.{◌/◌, ◌%◌, min, slice_index_or}
use Rattle.std.proofs.lemmas.Bool.{cases_eq}
use Rattle.chip_model.specs.Geometry.{block_count}
use Rattle.nor_layout.specs.declared.header.Tag.{Tag}
use Rattle.nor_layout.specs.declared.kind.Kind.{Kind}
use Rattle.nor_layout.specs.declared.kind.Kind.TheVariants as kinds
use Rattle.erase_journal.specs.Blocks.{WithErased}
use Rattle.erase_journal.specs.Steps.{EraseInterrupted, as_it_was, block_erased}
use Rattle.sector_slots.specs.Slots.{Slot, Free, Live, slot_at, slot_count, data_blocks, kind_at, raw_slot, is_group, IsSpareIn, IsClean, content_bytes}
use Rattle.erase_journal.specs.Places.{how_many}
use Rattle.sector_slots.specs.Steps.{IsErasable}
use Rattle.sector_slots.specs.Sectors.{HasSlotsAlone}
use Rattle.sector_slots.specs.Blocks.{AreAtRest, AreSettled, IsAtRest, IsReserveOf}
use Rattle.sector_slots.proofs.AloneLaws.{block-alone, blocks-alone}
use Rattle.sector_slots.proofs.BlankLaws.{erased-spare, counted-same, same-holds, blank-content, blocks-holds}
use Rattle.sector_slots.proofs.CleanLaws.{clean-only}
use Rattle.sector_slots.proofs.MachineLaws.{block-data}
use Rattle.sector_slots.proofs.PlaceLaws.{later, later-is}
use Rattle.sector_slots.proofs.CopyLaws.{how_many-same}
use Rattle.sector_stock.specs.Copy.{Stays, SameSectors, KeepsSectors, IsCopyable, IsFresh, Copies, MovesAfresh, bare}
use Rattle.sector_slots.specs.Copying.{copy_slot, source_slot, to_copy}
use Rattle.sector_slots.specs.Sectors.{IsSingle, LiveAt}
use Rattle.nor_layout.specs.Kinds.{kind_of}
use Rattle.nor_layout.specs.declared.header.Generation.{Generation}
use Rattle.sector_slots.specs.Slots.{slot_in}
use Rattle.sector_stock.specs.declared.index.SlotState.{SlotState}
use Rattle.sector_stock.specs.declared.index.BlockState.{BlockState}
use Rattle.sector_stock.specs.declared.index.Cursors.{Cursors}
use Rattle.sector_stock.specs.declared.policy.Wanted.{Wanted}
use Rattle.sector_stock.specs.declared.policy.Wanted.TheVariants as wanteds
use Rattle.sector_stock.specs.Index.{in_block, erases_of, state_of, is_free_slot, is_plain, is_dead, is_live_group, IsListed, IsIndexOf, IsAhead, AreBounds, AreWorn, Counts, bound_row, AreWithin}
use Rattle.sector_stock.specs.IndexSteps.{RecountsErase, Forgets}
use Rattle.sector_stock.specs.declared.policy.Policy.{Policy}
use Rattle.sector_stock.specs.declared.policy.Policy.TheVariants as policies
use Rattle.sector_stock.specs.Room.{IsSpareBlock}
use Rattle.sector_stock.specs.Takes.{ErasesSpare, IsErasedOnce, work_of, dead_slots, live_groups}
use Rattle.sector_stock.proofs.Copying.{stays-kept, same-clean, after-keeps, same-sectors-sound}
use Rattle.sector_stock.proofs.Even.{even-once, may-least}
use Rattle.sector_stock.proofs.Moved.{rest-slot}
use Rattle.sector_stock.proofs.Tallies.{tally-same}

-- It may be erased: none of its slots is live.
free-live : (x : Slot) (tag : Tag) (y : List ℕ) → x ≡ Free → x ≢ Live tag y
free-live x tag y e f = let h : Free ≡ Live tag y = sym e ∙ f in cc

plain-copy : (k : Kind) (b : ℕ) → k ≡ kinds.Plain → k ≢ kinds.Committed b
plain-copy k b e f = let h : kinds.Plain ≡ kinds.Committed b = sym e ∙ f in cc

pub spare-erasable : (c : ℕ) (m : List ℕ) → AreAtRest (kind_at m) (data_blocks m) → c < data_blocks m → IsSpareIn m c → IsErasable c m
spare-erasable c m rest low spare = record {
  copy = λ b. plain-copy (kind_at m c) b spare.plain;
  dead = λ s tag x inside here.
      let i = s % 7 in
      let is : 7 * c + i ≡ s = omega (arith, here) in
      free-live (slot_at m s) tag x (subst (λ v. slot_at m v ≡ Free) is (rest-slot m c i rest low (omega arith) ∙ spare.free i (omega arith)));
}

-- the blocks after it
kinds-same : (c : ℕ) (m m' : List ℕ) → IsSpareIn m c → WithErased (c + 4) m m' → (d : ℕ) → d < data_blocks m → kind_at m' d ≡ kind_at m d
kinds-same c m m' spare w d low = elim (cases_eq d c) as (λ _. kind_at m' d ≡ kind_at m d) [
  | inl e ↦ subst (λ a. kind_at m' a ≡ kind_at m a) (sym e) ((erased-spare m' c w.erased).plain ∙ sym spare.plain)
  | inr ne ↦ (block-data c m m' w.only).same_kind d low ne
]

slots-same : (c : ℕ) (m m' : List ℕ) → IsSpareIn m c → WithErased (c + 4) m m' → (d i : ℕ) → d < data_blocks m → i < 7 → raw_slot m' d i ≡ raw_slot m d i
slots-same c m m' spare w d i low small = elim (cases_eq d c) as (λ _. raw_slot m' d i ≡ raw_slot m d i) [
  | inl e ↦ subst (λ a. raw_slot m' a i ≡ raw_slot m a i) (sym e) ((erased-spare m' c w.erased).free i small ∙ sym (spare.free i small))
  | inr ne ↦ (block-data c m m' w.only).same_slots d i low ne
]

later-same : (c : ℕ) (m m' : List ℕ) → IsSpareIn m c → WithErased (c + 4) m m' → (s : ℕ) → s < slot_count m → later m m' s ≡ slot_at m s
later-same c m m' spare w s low = counted-same (kind_at m) (kind_at m') (raw_slot m) (raw_slot m') (data_blocks m) s (kinds-same c m m' spare w) (slots-same c m m' spare w) low

spare-sectors : (c : ℕ) (m m' : List ℕ) → IsSpareIn m c → WithErased (c + 4) m m' → SameSectors m m'
spare-sectors c m m' spare w sectors h = same-holds m m' sectors w.only.chip (kinds-same c m m' spare w) (slots-same c m m' spare w) h

spare-clean : (c : ℕ) (m m' : List ℕ) → IsSpareIn m c → WithErased (c + 4) m m' → IsClean m → IsClean m'
spare-clean c m m' spare w clean = clean-only c m m' w.only clean
    (λ v low ne free. inl (sym (later-same c m m' spare w v low) ∙ free))
    (λ v low e free. ap (λ b. content_bytes b (v % 7)) w.erased ∙ blank-content (v % 7) (omega arith))
    (λ p. w.erased)

spare-alone : (c : ℕ) (m m' : List ℕ) → IsSpareIn m c → c < data_blocks m → WithErased (c + 4) m m' → HasSlotsAlone m → HasSlotsAlone m'
spare-alone c m m' spare low w = block-alone c m m' w.only (λ q. ap is_group (kinds-same c m m' spare w c low) ∙ q)

spare-settled : (c : ℕ) (m m' : List ℕ) → IsSpareIn m c → WithErased (c + 4) m m' → AreSettled m → AreSettled m'
spare-settled c m m' spare w h =
    let n : data_blocks m' ≡ data_blocks m = ap (λ k. block_count k - 4) w.only.chip.same_length in
    let low = h.number in
    record {
      rest = λ d inside. let l : d < data_blocks m = omega (arith, inside, n) in subst (λ k. IsAtRest k) (sym (kinds-same c m m' spare w d l)) (h.rest d l);
      reserve = h.reserve;
      number = omega (arith, low, n);
      spare = record { plain = kinds-same c m m' spare w h.reserve low ∙ h.spare.plain; free = λ i small. slots-same c m m' spare w h.reserve i low small ∙ h.spare.free i small };
    }

pub spare-done : (c : ℕ) (m m' : List ℕ) → AreSettled m → c < data_blocks m → IsSpareIn m c → WithErased (c + 4) m m' → ErasesSpare c m m'
spare-done c m m' settled low spare w = record {
  spare = record { number = low; spare = spare };
  chip = w.only.chip;
  erased = w.erased;
  kinds = kinds-same c m m' spare w;
  slots = λ s inside. later-is m m' s w.only.chip.same_length ∙ later-same c m m' spare w s inside;
  blocks = spare-settled c m m' spare w settled;
  sectors = spare-sectors c m m' spare w;
  clean = spare-clean c m m' spare w;
}

pub spare-cut : (c : ℕ) (m m' : List ℕ) → c < data_blocks m → IsSpareIn m c → EraseInterrupted (c + 4) m m' → Stays m m'
spare-cut c m m' low spare (as_it_was w) = stays-kept m m' (record { chip = w.blocks.chip; sectors = λ sectors h. blocks-holds m m' sectors w.blocks h; alone = blocks-alone m m' w.blocks; clean = same-clean m m' w.blocks })
spare-cut c m m' low spare (block_erased healthy w) = stays-kept m m' (record { chip = w.only.chip; sectors = spare-sectors c m m' spare w; alone = spare-alone c m m' spare low w; clean = spare-clean c m m' spare w })

-- It is copied into.
pub spare-keeps : (c : ℕ) (m m' : List ℕ) → c < data_blocks m → IsSpareIn m c → WithErased (c + 4) m m' → KeepsSectors m m'
spare-keeps c m m' low spare w = record { chip = w.only.chip; sectors = spare-sectors c m m' spare w; alone = spare-alone c m m' spare low w; clean = spare-clean c m m' spare w }

pub spare-cut_keeps : (c : ℕ) (m m' : List ℕ) → c < data_blocks m → IsSpareIn m c → EraseInterrupted (c + 4) m m' → KeepsSectors m m'
spare-cut_keeps c m m' low spare (as_it_was w) = record { chip = w.blocks.chip; sectors = λ sectors h. blocks-holds m m' sectors w.blocks h; alone = blocks-alone m m' w.blocks; clean = same-clean m m' w.blocks }
spare-cut_keeps c m m' low spare (block_erased healthy w) = spare-keeps c m m' low spare w

spare-single : (c : ℕ) (m m' : List ℕ) → IsSpareIn m c → WithErased (c + 4) m m' → IsSingle m → IsSingle m'
spare-single c m m' spare w h =
    let n : slot_count m' ≡ slot_count m = ap (λ k. 7 * (block_count k - 4)) w.only.chip.same_length in
    let back : (v g : ℕ) (k : Generation) (x : List ℕ) → LiveAt (slot_at m') (slot_count m') v g k x → LiveAt (slot_at m) (slot_count m) v g k x = λ v g k x live.
    let low = live.number in
    let inside : v < slot_count m = omega (arith, low, n) in
    record { number = inside; is = sym (later-is m m' v w.only.chip.same_length ∙ later-same c m m' spare w v inside) ∙ live.is } in
    record { one = λ v u g j k x y a b. h.one v u g j k x y (back v g j x a) (back u g k y b) }

pub spare-copyable : (s t : ℕ) (m m' : List ℕ) → IsCopyable s t m → WithErased (t + 4) m m' → IsCopyable s t m'
spare-copyable s t m m' h w =
    let n : data_blocks m' ≡ data_blocks m = ap (λ k. block_count k - 4) w.only.chip.same_length in
    let ls = h.source in
    let lt = h.target in
    record {
      source = omega (arith, ls, n);
      target = omega (arith, lt, n);
      other = h.other;
      rest = λ d inside. let l : d < data_blocks m = omega (arith, inside, n) in subst (λ k. IsAtRest k) (sym (kinds-same t m m' h.spare w d l)) (h.rest d l);
      spare = erased-spare m' t w.erased;
      sound = same-sectors-sound m m' (spare-sectors t m m' h.spare w) h.sound;
      single = spare-single t m m' h.spare w h.single;
    }

erased-fresh : (t : ℕ) (m m' : List ℕ) → WithErased (t + 4) m m' → IsFresh t m'
erased-fresh t m m' w i low = ap (λ b. content_bytes b i) w.erased ∙ blank-content i low

pub moves-afresh : (s t : ℕ) (m m1 m' : List ℕ) → IsCopyable s t m → WithErased (t + 4) m m1 → Copies s t m1 m' → MovesAfresh s t m m'
moves-afresh s t m m1 m' h w k =
    let n : data_blocks m1 ≡ data_blocks m = ap (λ k. block_count k - 4) w.only.chip.same_length in
    let source : (i : ℕ) → source_slot m1 s i ≡ source_slot m s i = λ i. ap (λ b. to_copy (kind_of b) (slot_in b i)) (w.only.others (s + 4) (omega arith) (let l = h.source in omega (arith, l)) (λ e. h.other (omega (arith, e)))) in
    let slots = k.slots in
    let keeps = after-keeps m m1 m' (spare-keeps t m m1 h.target h.spare w) (k.fresh (erased-fresh t m m1 w)) in
    record {
      copies = record {
        chip = keeps.chip;
        blocks = k.blocks;
        slots = record {
          same_length = slots.same_length ∙ w.only.chip.same_length;
          same_kind = λ d low ds dt. slots.same_kind d (omega (arith, low, n)) ds dt ∙ kinds-same t m m1 h.spare w d low;
          same_slots = λ d i low ds dt. slots.same_slots d i (omega (arith, low, n)) ds dt ∙ (block-data t m m1 w.only).same_slots d i low dt;
          settled = slots.settled;
          copied = λ i low. slots.copied i low ∙ ap (λ a. copy_slot (bare a)) (source i);
          erased = slots.erased;
        };
        sectors = λ clean. keeps.sectors;
        clean = keeps.clean;
        fresh = λ blank. keeps;
      };
      keeps = keeps;
    }

pub afresh-cut : (s t : ℕ) (m m1 m' : List ℕ) → IsCopyable s t m → WithErased (t + 4) m m1 → (IsFresh t m1 → KeepsSectors m1 m') → KeepsSectors m m'
afresh-cut s t m m1 m' h w k = after-keeps m m1 m' (spare-keeps t m m1 h.target h.spare w) (k (erased-fresh t m m1 w))

-- The index after it.
pub erased-once : (s n : ℕ) (blocks blocks' : List BlockState) (at new : Cursors) → length blocks ≡ n → RecountsErase s blocks blocks' at new → IsErasedOnce n s (erases_of blocks) (erases_of blocks')
erased-once s n blocks blocks' at new size h =
    let here : erases_of blocks' s ≡ min ((in_block blocks s).erases + 1) 65535 = ap (λ b. b.erases) h.here in
    let fits = h.fits in
    record {
      here = here;
      rises = omega (arith, here, fits);
      others = λ c low ns. ap (λ b. b.erases) (h.others c (omega (arith, low, size)) ns);
    }

-- what it says of a block beside its erases
pub record SameBut (b b' : BlockState) : Type 0 where
  pub free : b'.free ≡ b.free
  pub dead : b'.dead ≡ b.dead
  pub plain : b'.plain ≡ b.plain
  pub group : b'.group ≡ b.group

abbrev pub AreSameBut : List BlockState → List BlockState → Type 0
AreSameBut blocks blocks' = (c : ℕ) → c < length blocks → SameBut (in_block blocks c) (in_block blocks' c)

same-but : (s : ℕ) (blocks blocks' : List BlockState) (at new : Cursors) → RecountsErase s blocks blocks' at new → AreSameBut blocks blocks'
same-but s blocks blocks' at new h c low = elim (cases_eq c s) as (λ _. SameBut (in_block blocks c) (in_block blocks' c)) [
  | inl e ↦ subst (λ a. SameBut (in_block blocks a) (in_block blocks' a)) (sym e) (record { free = ap (λ b. b.free) h.here; dead = ap (λ b. b.dead) h.here; plain = ap (λ b. b.plain) h.here; group = ap (λ b. b.group) h.here })
  | inr ne ↦ let same = h.others c low ne in record { free = ap (λ b. b.free) same; dead = ap (λ b. b.dead) same; plain = ap (λ b. b.plain) same; group = ap (λ b. b.group) same }
]

erases-rise : (s : ℕ) (blocks blocks' : List BlockState) (at new : Cursors) → RecountsErase s blocks blocks' at new → (c : ℕ) → c < length blocks → erases_of blocks c ≤ erases_of blocks' c
erases-rise s blocks blocks' at new h c low = elim (cases_eq c s) as (λ _. erases_of blocks c ≤ erases_of blocks' c) [
  | inl e ↦
      let fits = h.fits in
      let more : (in_block blocks' s).erases ≡ min ((in_block blocks s).erases + 1) 65535 = ap (λ b. b.erases) h.here in
      subst (λ a. erases_of blocks a ≤ erases_of blocks' a) (sym e) (omega (arith, fits, more))
  | inr ne ↦ let same = ap (λ b. b.erases) (h.others c low ne) in omega (arith, same)
]

counts-but : (wanted : Wanted) (b b' : BlockState) → SameBut b b' → Counts wanted b' → Counts wanted b
counts-but wanteds.Free b b' h counts = let e = h.free in omega (arith, e, counts)
counts-but (wanteds.Dead count) b b' h counts = (counts.0, counts.1, sym h.dead ∙ counts.2)
counts-but wanteds.Resting b b' h counts = tt

-- the list of blocks, and where it looks next, where only erases changed
pub listed-but : (slots : List SlotState) (blocks blocks' : List BlockState) (f : ℕ → Slot) (kind : ℕ → Kind) (n : ℕ) → length blocks' ≡ length blocks → AreSameBut blocks blocks' → IsListed slots blocks f kind n → IsListed slots blocks' f kind n
listed-but slots blocks blocks' f kind n size same h =
    let k = h.block_size in
    record {
      slot_size = h.slot_size;
      block_size = size ∙ k;
      each_slot = h.each_slot;
      each_block = λ c low.
          let t = h.each_block c low in
          let b = same c (omega (arith, low, k)) in
          record { free = b.free ∙ t.free; dead = b.dead ∙ t.dead; plain = b.plain ∙ t.plain; group = b.group ∙ t.group };
    }

pub ahead-but : (blocks blocks' : List BlockState) (at : Cursors) (p : Policy) (bounds : List ℕ) (least most : ℕ) → length blocks' ≡ length blocks → AreSameBut blocks blocks' → AreBounds blocks' bounds → AreWorn least most blocks'
    → IsAhead blocks at → IsAhead blocks' (record at { policy = p; bounds = bounds; least_erases = least; most_erases = most })
ahead-but blocks blocks' at p bounds least most n alike fits worn ahead =
    let same : (c : ℕ) → c < length blocks' → SameBut (in_block blocks c) (in_block blocks' c) = λ c low. alike c (omega (arith, low, n)) in
    record {
      cursor = λ c low below other. (same c low).free ∙ ahead.cursor c (omega (arith, low, n)) below other;
      beyond = λ c low above other. (same c low).free ∙ ahead.beyond c (omega (arith, low, n)) above other;
      spares = λ c low whole other. ahead.spares c (omega (arith, low, n)) (sym (same c low).plain ∙ whole.0, sym (same c low).free ∙ whole.1) other;
      within = (let q = ahead.within.0 in omega (arith, q, n), let q = ahead.within.1 in omega (arith, q, n));
      most = λ c low. let e = (same c low).dead in let q = ahead.most c (omega (arith, low, n)) in omega (arith, e, q);
      from = λ c low below q. ahead.from c (omega (arith, low, n)) below (sym (same c low).dead ∙ q);
      high = ahead.high;
      bounds = fits;
      worn = worn;
    }

ahead-recounted : (s : ℕ) (blocks blocks' : List BlockState) (at new : Cursors) → s < length blocks → RecountsErase s blocks blocks' at new → IsAhead blocks at → IsAhead blocks' new
ahead-recounted s blocks blocks' at new ls h ahead =
    let n = h.size in
    let alike = same-but s blocks blocks' at new h in
    let kept = h.kept in
    let bounds : AreBounds blocks' at.bounds = λ wanted c low counts.
    (let l : c < length blocks = omega (arith, low, n) in
    let p = ahead.bounds wanted c l (counts-but wanted (in_block blocks c) (in_block blocks' c) (alike c l) counts) in
    let q = erases-rise s blocks blocks' at new h c l in
    omega (arith, p, q)) in
    let worn : AreWorn at.least_erases new.most_erases blocks' = λ c low.
    (let l : c < length blocks = omega (arith, low, n) in
    let p = ahead.worn c l in
    let least = p.0 in
    let most = p.1 in
    let more = erases-rise s blocks blocks' at new h c l in (
      omega (arith, least, more),
      elim (cases_eq c s) as (λ _. erases_of blocks' c ≤ new.most_erases) [
        | inl e ↦ let q = h.most in let r = ap (λ b. b.erases) h.here in subst (λ a. erases_of blocks' a ≤ new.most_erases) (sym e) (omega (arith, q, r))
        | inr ne ↦ let r = ap (λ b. b.erases) (h.others c l ne) in omega (arith, r, most, kept)
      ],
    )) in
    subst (λ a. IsAhead blocks' a) (sym h.rest) (ahead-but blocks blocks' at at.policy at.bounds at.least_erases new.most_erases n alike bounds worn ahead)

-- the slots and kinds of the memory are what they were
pub listed-done : (s : ℕ) (m m' : List ℕ) (slots : List SlotState) (blocks : List BlockState) → ErasesSpare s m m' → IsListed slots blocks (slot_at m) (kind_at m) (data_blocks m) → IsListed slots blocks (slot_at m') (kind_at m') (data_blocks m')
listed-done s m m' slots blocks done h =
    let n : data_blocks m' ≡ data_blocks m = ap (λ k. block_count k - 4) done.chip.same_length in
    record {
      slot_size = h.slot_size ∙ ap (λ c. 7 * c) (sym n);
      block_size = h.block_size ∙ sym n;
      each_slot = λ w inside. let l : w < slot_count m = omega (arith, inside, n) in h.each_slot w l ∙ ap state_of (sym (done.slots w l));
      each_block = λ c inside.
          let l : c < data_blocks m = omega (arith, inside, n) in
          let t = h.each_block c l in
          let each : (i : ℕ) → i < 7 → slot_at m' (7 * c + i) ≡ slot_at m (7 * c + i) = λ i small. done.slots (7 * c + i) (omega (arith, l, small)) in
          record {
            free = t.free ∙ sym (tally-same is_free_slot (slot_at m) (slot_at m') c each);
            dead = t.dead ∙ sym (tally-same is_dead (slot_at m) (slot_at m') c each);
            plain = t.plain ∙ sym (ap is_plain (done.kinds c l));
            group = t.group ∙ sym (ap is_live_group (done.kinds c l));
          };
    }

pub index-recounted : (s : ℕ) (m m' : List ℕ) (slots : List SlotState) (blocks blocks' : List BlockState) (at new : Cursors) → ErasesSpare s m m' → s < length blocks → ((c : ℕ) → c < length blocks → erases_of blocks s ≤ erases_of blocks c) → RecountsErase s blocks blocks' at new
    → ((r : ℕ) → IsReserveOf r m → IsReserveOf r m') → IsSpareBlock at.reserve m' → IsIndexOf slots blocks at m → IsIndexOf slots blocks' new m'
index-recounted s m m' slots blocks blocks' at new done low least h reserves spare index =
    let k = h.size in
    let policy : new.policy ≡ at.policy = ap (λ a. a.policy) h.rest in
    let reserve : new.reserve ≡ at.reserve = ap (λ a. a.reserve) h.rest in
    record {
      listed = listed-done s m m' slots blocks' done (listed-but slots blocks blocks' (slot_at m) (kind_at m) (data_blocks m) k (same-but s blocks blocks' at new h) index.listed);
      ahead = ahead-recounted s blocks blocks' at new low h index.ahead;
      reserve = subst (λ r. IsSpareBlock r m') (sym reserve) spare;
      highest = λ by. subst (λ r. IsReserveOf r m') (sym reserve) (reserves at.reserve (index.highest (sym policy ∙ by)));
      even = λ by. subst (λ c. AreWithin 32 c (erases_of blocks')) (sym k)
          (even-once s (length blocks) (erases_of blocks) (erases_of blocks') (index.even (sym policy ∙ by)) (may-least s (length blocks) (erases_of blocks) least) (erased-once s (length blocks) blocks blocks' at new refl h));
    }

-- the reserve is what it was
pub reserve-stays : (c : ℕ) (m m' : List ℕ) → IsSpareIn m c → WithErased (c + 4) m m' → (r : ℕ) → IsReserveOf r m → IsReserveOf r m'
reserve-stays c m m' spare w r h =
    let n : data_blocks m' ≡ data_blocks m = ap (λ k. block_count k - 4) w.only.chip.same_length in
    let low = h.number in
    record {
      number = omega (arith, low, n);
      spare = record { plain = kinds-same c m m' spare w r low ∙ h.spare.plain; free = λ i small. slots-same c m m' spare w r i low small ∙ h.spare.free i small };
      highest = λ d inside s. let l : d < data_blocks m = omega (arith, inside, n) in h.highest d l (record { plain = sym (kinds-same c m m' spare w d l) ∙ s.plain; free = λ i small. sym (slots-same c m m' spare w d i l small) ∙ s.free i small });
    }

pub spare-stays : (c r : ℕ) (m m' : List ℕ) → IsSpareIn m c → WithErased (c + 4) m m' → IsSpareBlock r m → IsSpareBlock r m'
spare-stays c r m m' spare w h =
    let n : data_blocks m' ≡ data_blocks m = ap (λ k. block_count k - 4) w.only.chip.same_length in
    let low = h.number in
    record {
      number = omega (arith, low, n);
      spare = record { plain = kinds-same c m m' spare w r low ∙ h.spare.plain; free = λ i small. slots-same c m m' spare w r i low small ∙ h.spare.free i small };
    }

-- no more is left to be tidied
pub spare-work : (s : ℕ) (m m' : List ℕ) → ErasesSpare s m m' → work_of m' ≡ work_of m
spare-work s m m' done =
    let n : data_blocks m' ≡ data_blocks m = ap (λ k. block_count k - 4) done.chip.same_length in
    let dead : dead_slots m' ≡ dead_slots m = ap (λ c. how_many (λ w. is_dead (slot_at m' w)) (7 * c)) n ∙ how_many-same (λ w. is_dead (slot_at m' w)) (λ w. is_dead (slot_at m w)) (slot_count m) (λ w low. ap is_dead (done.slots w low)) in
    let groups : live_groups m' ≡ live_groups m = ap (λ c. how_many (λ d. is_live_group (kind_at m' d)) c) n ∙ how_many-same (λ d. is_live_group (kind_at m' d)) (λ d. is_live_group (kind_at m d)) (data_blocks m) (λ d low. ap is_live_group (done.kinds d low)) in
    omega (arith, dead, groups)

level-lowest : policies.Level ≡ policies.Lowest → ⊥
level-lowest e = cc

-- Where erases are counted anew: each block was erased as often as any other, 0 times.
forgot-but : (blocks blocks' : List BlockState) → Forgets (length blocks) blocks blocks' → AreSameBut blocks blocks'
forgot-but blocks blocks' h c low = let same = h.each c low low in record { free = ap (λ b. b.free) same; dead = ap (λ b. b.dead) same; plain = ap (λ b. b.plain) same; group = ap (λ b. b.group) same }

pub index-forgot : (slots : List SlotState) (blocks blocks' : List BlockState) (at new : Cursors) (bounds : List ℕ) (m : List ℕ) → Forgets (length blocks) blocks blocks' → ((p : ℕ) → slice_index_or bounds p 0 ≡ 0)
    → new ≡ record at { policy = policies.Level; bounds = bounds; least_erases = 0; most_erases = 0 } → IsIndexOf slots blocks at m → IsIndexOf slots blocks' new m
index-forgot slots blocks blocks' at new bounds m h none is index =
    let n = h.size in
    let alike = forgot-but blocks blocks' h in
    let zero : (c : ℕ) → c < length blocks' → erases_of blocks' c ≡ 0 = λ c low. (let l : c < length blocks = omega (arith, low, n) in ap (λ b. b.erases) (h.each c l l)) in
    subst (λ a. IsIndexOf slots blocks' a m) (sym is) (record {
      listed = listed-but slots blocks blocks' (slot_at m) (kind_at m) (data_blocks m) n alike index.listed;
      ahead = ahead-but blocks blocks' at policies.Level bounds 0 0 n alike (λ wanted c low counts. (let q = none (64 * bound_row wanted + c / 64) in omega (arith, q))) (λ c low. (omega arith, let z = zero c low in omega (arith, z))) index.ahead;
      reserve = index.reserve;
      highest = λ by. absurd (level-lowest by);
      even = λ by c d lc ld. let a = zero c lc in let b = zero d ld in omega (arith, a, b);
    })
