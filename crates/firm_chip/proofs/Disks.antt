-- Each draw of a firm chip is the same disk.
use Rattle.std.proofs.Common.{◌≡◌, ◌≢◌, ℕ, ◌+◌, ◌-◌, ◌*◌, ◌<◌, ◌⊎◌, Bool, true, false, cond, List, length, refl, sym, ap, ◌∙◌, subst, arith, inl, inr, lit<}
use Rattle.std.specs.Prelude.{◌/◌, ◌%◌, drop, Option, Some, None}
use Rattle.byteorder.specs.Endian.{little_from}
use Rattle.std.proofs.lemmas.Bool.{cases_eq}
use Rattle.std.proofs.lemmas.List.{get_or-drop}
use Rattle.chip_model.specs.Memory.{byte}
use Rattle.chip_model.specs.Parts.{part}
use Rattle.chip_model.specs.Geometry.{block_count, sector_count}
use Rattle.chip_model.specs.Wavering.{Drawn}
use Rattle.chip_model.specs.declared.geometry.Geometry.{Geometry}
use Rattle.nor_layout.specs.declared.header.Generation.{Generation}
use Rattle.nor_layout.specs.declared.header.Tag.{Tag}
use Rattle.nor_layout.specs.declared.header.Header.{Header}
use Rattle.nor_layout.specs.declared.header.Header.TheVariants as headers
use Rattle.nor_layout.specs.declared.kind.Kind.{Kind}
use Rattle.nor_layout.specs.declared.kind.Kind.TheVariants as kinds
use Rattle.nor_layout.specs.Headers.{header_of, generation_of, live_of}
use Rattle.nor_layout.specs.Kinds.{kind_of}
use Rattle.nor_layout.specs.Layouts.{layout_of}
use Rattle.erase_journal.specs.Blocks.{blank}
use Rattle.erase_journal.specs.Journals.{IsSoundTally, IsHealthy}
use Rattle.sector_slots.specs.Slots.{Slot, Free, Live, NoGeneration, Dead, Outside, slot_with, slot_in, written_in, content_bytes, is_void, is_copy_of, copies, counted, is_counted, data_block, data_blocks, kind_at, raw_slot, slot_at, slot_count, IsSpareIn, IsClean}
use Rattle.sector_slots.specs.Blocks.{IsAtRest, IsUncommitted, SoundBlocks, BlocksHaveNoFault}
use Rattle.sector_slots.specs.Sectors.{LiveAt, SectorIs, absent, held, SlotsRepresent, IsSoundMap, sector_at}
use Rattle.sector_slots.specs.Copying.{HoldsNothing}
use Rattle.sector_slots.proofs.SectorLaws.{sound-fewer, dead-without, dead-whole}
use Rattle.sector_slots.proofs.WinnerLaws.{sound-stands, stands-computed}
use Rattle.sector_slots.proofs.CopyLaws.{copies-same, counted-void, counted-source, quiet-live}
use Rattle.sector_slots.proofs.SlotLaws.{counted-raw}
use Rattle.sector_slots.proofs.BlockLaws.{sound-no_fault, uncommitted-known, uncommitted-not}
use Rattle.sector_slots.proofs.BlankLaws.{blank-slot, erased-spare}
use Rattle.sector_slots.proofs.AloneLaws.{alone-fit}
use Rattle.firm_chip.specs.FirmChips.{AreFirmly, IsFirmChip, IsFirmBlock, marked, perhaps_begun, void, erasing, IsFading, IsBegunAtMost, IsRoom, free, committed, sector_in, head_place, data_place}
use Rattle.firm_chip.specs.FirmChips as firm
use Rattle.firm_chip.specs.Draws.{EachDrawIsTheSameDisk, IsSameDisk}
use Rattle.firm_chip.proofs.Draws.{AreChipJournals, of-chip, tally-drawn, believed-drawn, named-drawn}
use Rattle.erase_journal.proofs.Draws.{firm-byte}
use Rattle.firm_chip.proofs.Spans.{block-drawn, erasing-blank, byte-there, descriptor-byte, begun-drawn}
use Rattle.firm_chip.proofs.Slots.{SlotDrawn, same, idle, faded, IsThere, firmly-read}
use Rattle.sector_slots.proofs.HeadLaws.{unlive-four, slot-written, idle-kind, void-kind}
use Rattle.firm_chip.proofs.Heads.{BlockDrawn, KindDrawn, kept, never, perhaps, state-there, there, start-was, start-is, chip-block}

-- the slots that count
idle-copy : (k : Kind) (b : ℕ) → (k ≡ kinds.Plain) ⊎ (k ≡ kinds.Void) → is_copy_of b k ≡ false
idle-copy k b (inl e) = ap (λ q. is_copy_of b q) e
idle-copy k b (inr e) = ap (λ q. is_copy_of b q) e

copy-drawn : (m w m' : List ℕ) (d b : ℕ) → KindDrawn m w m' d → is_copy_of b (kind_at m' d) ≡ is_copy_of b (kind_at m d)
copy-drawn m w m' d b (kept e x) = ap (λ k. is_copy_of b k) e
copy-drawn m w m' d b (never v v') = idle-copy (kind_at m' d) b (inr v') ∙ sym (idle-copy (kind_at m d) b (inr v))
copy-drawn m w m' d b (perhaps p q x) = idle-copy (kind_at m' d) b q ∙ sym (idle-copy (kind_at m d) b p)

by-test : (t : Bool) (p : Type 0) (a b : Slot) → SlotDrawn p a b → SlotDrawn p (cond t a Outside) (cond t b Outside)
by-test true p a b h = h
by-test false p a b h = same refl

quiet-test : (t : Bool) (a : Slot) → HoldsNothing a → HoldsNothing (cond t a Outside)
quiet-test true a h = h
quiet-test false a h = tt

counted-drawn : (m w m' : List ℕ) (n s : ℕ) → copies (kind_at m') n (s / 7) ≡ copies (kind_at m) n (s / 7) → KindDrawn m w m' (s / 7)
    → SlotDrawn (IsFading m w s) (counted (kind_at m) (raw_slot m) n s) (counted (kind_at m') (raw_slot m') n s)
unfolding counted
counted-drawn m w m' n s z (kept k x) =
    let e : 7 * (s / 7) + s % 7 ≡ s = omega arith in
    let h = subst (λ q. SlotDrawn (IsFading m w q) (raw_slot m (s / 7) (s % 7)) (raw_slot m' (s / 7) (s % 7))) e (x (s % 7) (omega arith)) in
    let t : is_counted (kind_at m') n (s / 7) ≡ is_counted (kind_at m) n (s / 7) = rw (k, z) refl in
    subst (λ q. SlotDrawn (IsFading m w s) (cond (is_counted (kind_at m) n (s / 7)) (raw_slot m (s / 7) (s % 7)) Outside) (cond q (raw_slot m' (s / 7) (s % 7)) Outside)) (sym t)
    (by-test (is_counted (kind_at m) n (s / 7)) (IsFading m w s) (raw_slot m (s / 7) (s % 7)) (raw_slot m' (s / 7) (s % 7)) h)
counted-drawn m w m' n s z (never v v') = same (counted-void (kind_at m') (raw_slot m') n s (ap is_void v') ∙ sym (counted-void (kind_at m) (raw_slot m) n s (ap is_void v)))
counted-drawn m w m' n s z (perhaps p q x) =
    let h = x (s % 7) (omega arith) in
    idle (quiet-test (is_counted (kind_at m) n (s / 7)) (raw_slot m (s / 7) (s % 7)) h.0) (quiet-test (is_counted (kind_at m') n (s / 7)) (raw_slot m' (s / 7) (s % 7)) h.1)

-- slots that are drawn hold the same sectors
drawn-back : (f f' : ℕ → Slot) (n : ℕ) (p : ℕ → Type 0) → ((s : ℕ) → s < n → SlotDrawn (p s) (f s) (f' s)) → (s g : ℕ) (k : Generation) (x : List ℕ) → LiveAt f' n s g k x → LiveAt f n s g k x
drawn-back f f' n p each s g k x l = elim (each s l.number) as (λ _. LiveAt f n s g k x) [
  | same e ↦ record { number = l.number; is = sym e ∙ l.is }
  | idle a b ↦ absurd (quiet-live (f' s) g k x b l.is)
  | faded q z dead ↦ absurd (dead-without f' s g dead k x l.is)
]

drawn-whole : (f f' : ℕ → Slot) (n : ℕ) (p : ℕ → Type 0) → ((s : ℕ) → s < n → SlotDrawn (p s) (f s) (f' s)) → ((s : ℕ) → s < n → f s ≢ NoGeneration) → (s : ℕ) → s < n → f' s ≢ NoGeneration
drawn-whole f f' n p each whole s low e = elim (each s low) as (λ _. ⊥) [
  | same q ↦ whole s low (sym q ∙ e)
  | idle a b ↦ subst (λ q. HoldsNothing q) e b
  | faded q z dead ↦ dead-whole (f' s) dead e
]

drawn-sector : (f f' : ℕ → Slot) (n g : ℕ) (c : List ℕ) (p : ℕ → Type 0) → ((s : ℕ) → s < n → SlotDrawn (p s) (f s) (f' s))
    → ((s t h : ℕ) (j k : Generation) (x y : List ℕ) → p s → LiveAt f n s h j x → LiveAt f n t h k y → s ≡ t) → SectorIs f n g c → SectorIs f' n g c
drawn-sector f f' n g c p each alone (absent none z) = absent (λ s k y l. none s k y (drawn-back f f' n p each s g k y l)) z
drawn-sector f f' n g c p each alone (held s k l newest) = elim (each s l.number) as (λ _. SectorIs f' n g c) [
  | same e ↦ held s k (record { number = l.number; is = e ∙ l.is }) (λ t j y r other. newest t j y (drawn-back f f' n p each t g j y r) other)
  | idle a b ↦ absurd (quiet-live (f s) g k c a l.is)
  | faded q z dead ↦ absent
      (λ t j y r. let one : s ≡ t = alone s t g k j c y q l (drawn-back f f' n p each t g j y r) in dead-without f' t g (ap f' (sym one) ∙ dead) j y r.is)
      (z (record { number = g; generation = k }) c l.is)
]

drawn-stands : (f f' : ℕ → Slot) (n count : ℕ) (sectors : ℕ → List ℕ) (p : ℕ → Type 0) → ((s : ℕ) → s < n → SlotDrawn (p s) (f s) (f' s))
    → ((s t h : ℕ) (j k : Generation) (x y : List ℕ) → p s → LiveAt f n s h j x → LiveAt f n t h k y → s ≡ t) → SlotsRepresent f n count sectors → SlotsRepresent f' n count sectors
drawn-stands f f' n count sectors p each alone r = record {
  sound = sound-fewer f f' n count (drawn-back f f' n p each) (drawn-whole f f' n p each r.sound.whole) r.sound;
  maps = record { each = λ g low. drawn-sector f f' n g (sectors g) p each alone (r.maps.each g low) };
}

-- a live descriptor
abbrev header_number : Header → ℕ
header_number headers.Free = 0
header_number (headers.Live tag) = 1
header_number headers.NoGeneration = 2
header_number headers.Dead = 3

abbrev number_in : Header → ℕ
number_in headers.Free = 0
number_in (headers.Live tag) = tag.number
number_in headers.NoGeneration = 0
number_in headers.Dead = 0

live-number : (o : Option Generation) (n : ℕ) (tag : Tag) → live_of o n ≡ headers.Live tag → n ≡ tag.number
live-number (Some g) n tag e = ap number_in e
live-number None n tag e = let q : 2 ≡ 1 = ap header_number e in absurd (omega (arith, q))

header-live : (t : List ℕ) (tag : Tag) → header_of t ≡ headers.Live tag → (byte t 0 ≡ 252) × (byte t 2 + 256 * byte t 3 ≡ tag.number)
header-live t tag h = elim (cases_eq (byte t 0) 252) as (λ _. (byte t 0 ≡ 252) × (byte t 2 + 256 * byte t 3 ≡ tag.number)) [
  | inr n ↦ elim (unlive-four t n) as (λ _. (byte t 0 ≡ 252) × (byte t 2 + 256 * byte t 3 ≡ tag.number)) [
    | inl e ↦ (let q : 1 ≡ 0 = ap header_number (sym h ∙ e) in absurd (omega (arith, q)))
    | inr e ↦ (let q : 1 ≡ 3 = ap header_number (sym h ∙ e) in absurd (omega (arith, q)))
  ]
  | inl e ↦ (
      let is : header_of t ≡ live_of (generation_of (byte t 1)) (little_from 2 2 t) = rw e refl in
      let q : little_from 2 2 t ≡ tag.number = live-number (generation_of (byte t 1)) (little_from 2 2 t) tag (sym is ∙ h) in
      let r : byte t 2 + 256 * (byte t 3 + 0) ≡ tag.number = q in
      (e, omega (arith, r))
      )
]

abbrev tag_in : Tag → Slot → Tag
tag_in d Free = d
tag_in d (Live tag x) = tag
tag_in d NoGeneration = d
tag_in d Dead = d
tag_in d Outside = d

abbrev pub slot_number : Slot → ℕ
slot_number Free = 0
slot_number (Live tag x) = 1
slot_number NoGeneration = 2
slot_number Dead = 3
slot_number Outside = 4

written-live : (h : Header) (x : List ℕ) (tag : Tag) (y : List ℕ) → slot_with h x ≡ Live tag y → h ≡ headers.Live tag
written-live headers.Free x tag y e = let q : 0 ≡ 1 = ap slot_number e in absurd (omega (arith, q))
written-live (headers.Live t) x tag y e = ap (λ q. headers.Live q) (ap (λ q. tag_in t q) e)
written-live headers.NoGeneration x tag y e = let q : 2 ≡ 1 = ap slot_number e in absurd (omega (arith, q))
written-live headers.Dead x tag y e = let q : 3 ≡ 1 = ap slot_number e in absurd (omega (arith, q))

-- its bytes are the memory's, or the block is erased
there-was : (m w : List ℕ) (c : ℕ) → c < data_blocks m → data_block m c ≡ part 4096 m (c + 4) → IsFirmBlock m w c → IsThere m c ⊎ (data_block m c ≡ blank)
there-was m w c low e (marked o g x) = inl (there m c low e (start-was m w c e o.start))
there-was m w c low e (perhaps_begun o g x) = inl (there m c low e (start-was m w c e o.start))
there-was m w c low e (void o g v) = inl (there m c low e (start-was m w c e o))
there-was m w c low e (erasing b n) = inr (erasing-blank m c b n)

abbrev pub SaysSector : List ℕ → ℕ → ℕ → Type 0
SaysSector m s g = (byte m (head_place s) ≡ 252) × (sector_in m s ≡ g)

pub live-there : (m : List ℕ) (c i g : ℕ) (k : Generation) (x : List ℕ) → IsThere m c → i < 7 → raw_slot m c i ≡ Live (record { number = g; generation = k }) x → SaysSector m (7 * c + i) g
live-there m c i g k x h low e =
    let tag : Tag = record { number = g; generation = k } in
    let at = head_place (7 * c + i) in
    let t = drop (16 + 4 * i) (data_block m c) in
    let p = header-live t tag (written-live (written_in (data_block m c) i) (content_bytes (data_block m c) i) tag x (sym (slot-written (data_block m c) i h.slots) ∙ e)) in
    let a0 = descriptor-byte m c i 0 h.bytes low (lit< tt) in
    let a2 = descriptor-byte m c i 2 h.bytes low (lit< tt) in
    let a3 = descriptor-byte m c i 3 h.bytes low (lit< tt) in
    let z : at + 0 ≡ at = omega arith in
    let p0 = p.0 in
    let p1 = p.1 in
    (rw z at (sym a0) ∙ p0, omega (arith, a2, a3, p1))

not-blank : (m : List ℕ) (c i g : ℕ) (k : Generation) (x : List ℕ) → data_block m c ≡ blank → i < 7 → raw_slot m c i ≡ Live (record { number = g; generation = k }) x → ⊥
not-blank m c i g k x e low l = let q : 0 ≡ 1 = ap slot_number (sym (ap (λ b. slot_in b i) e ∙ blank-slot i low) ∙ l) in omega (arith, q)

live-at : (m w m' : List ℕ) → IsFirmChip m w → Drawn w m m' → (s g : ℕ) (k : Generation) (x : List ℕ) → LiveAt (slot_at m) (slot_count m) s g k x → SaysSector m s g
live-at m w m' f d s g k x l =
    let raw : raw_slot m (s / 7) (s % 7) ≡ Live (record { number = g; generation = k }) x = counted-raw m s (Live (record { number = g; generation = k }) x) l.is (λ e. let q : 1 ≡ 4 = ap slot_number e in omega (arith, q)) in
    let n = l.number in
    let low : s / 7 < data_blocks m = omega (arith, n) in
    let small : s % 7 < 7 = omega arith in
    let z : 7 * (s / 7) + s % 7 ≡ s = omega arith in
    elim (block-drawn m w m' (s / 7) (of-chip m w f) d) as (λ _. SaysSector m s g) [
      | inl p ↦ absurd (not-blank m (s / 7) (s % 7) g k x p.0 small raw)
      | inr p ↦ elim (there-was m w (s / 7) low p.0 (f.blocks (s / 7) low)) as (λ _. SaysSector m s g) [
        | inl h ↦ subst (λ q. SaysSector m q g) z (live-there m (s / 7) (s % 7) g k x h small raw)
        | inr e ↦ absurd (not-blank m (s / 7) (s % 7) g k x e small raw)
      ]
    ]

chip-alone : (m w m' : List ℕ) → IsFirmChip m w → Drawn w m m' → (s t g : ℕ) (j k : Generation) (x y : List ℕ) → IsFading m w s → LiveAt (slot_at m) (slot_count m) s g j x → LiveAt (slot_at m) (slot_count m) t g k y → s ≡ t
chip-alone m w m' f d s t g j k x y p a b =
    let q = live-at m w m' f d s g j x a in
    let r = live-at m w m' f d t g k y b in
    f.alone s t a.number b.number p (record { live = r.0; sector = r.1 ∙ sym q.1 })

-- What a draw leaves of the parts of a disk: its journals are a firm chip's, each block is drawn, one
-- stays room, and a slot that may fade is its sector's only one.
pub record IsDrawnDisk (m w m' : List ℕ) : Type 0 where
  pub drawn : Drawn w m m'
  pub journals : AreChipJournals m w
  pub blocks : (c : ℕ) → c < data_blocks m → BlockDrawn m w m' c
  pub room : (c : ℕ) × ((c < data_blocks m) × (IsAtRest (kind_at m' c) → IsSpareIn m' c))
  pub alone : (s t g : ℕ) (j k : Generation) (x y : List ℕ) → IsFading m w s → LiveAt (slot_at m) (slot_count m) s g j x
      → LiveAt (slot_at m) (slot_count m) t g k y → s ≡ t

-- the slots of a draw
disk-stands : (m w m' : List ℕ) → IsDrawnDisk m w m' → IsSoundMap m → SlotsRepresent (slot_at m') (slot_count m') (sector_count (length m')) (sector_at m)
disk-stands m w m' f s =
    let n = data_blocks m in
    let each = λ (c : ℕ) (low : c < n). (f.blocks c low).kind in
    let drawn = λ (v : ℕ) (low : v < 7 * n).
    counted-drawn m w m' n v (copies-same (kind_at m) (kind_at m') n (v / 7) (λ c h. copy-drawn m w m' c (v / 7 + 4) (each c h))) (each (v / 7) (omega (arith, low))) in
    let r = drawn-stands (slot_at m) (counted (kind_at m') (raw_slot m') n) (slot_count m) (sector_count (length m)) (sector_at m) (λ v. IsFading m w v) drawn f.alone
    (sound-stands (slot_at m) (slot_count m) (sector_count (length m)) s.slots) in
    subst (λ q. SlotsRepresent (counted (kind_at m') (raw_slot m') (block_count q - 4)) (7 * (block_count q - 4)) (sector_count q) (sector_at m)) (sym f.drawn.same_length) r

-- its blocks
idle-uncommitted : (k : Kind) → (k ≡ kinds.Plain) ⊎ (k ≡ kinds.Void) → IsUncommitted k
idle-uncommitted k (inl e) = subst (λ q. IsUncommitted q) (sym e) tt
idle-uncommitted k (inr e) = subst (λ q. IsUncommitted q) (sym e) tt

known-drawn : (m w m' : List ℕ) (c : ℕ) → KindDrawn m w m' c → kind_at m c ≢ kinds.Unknown → kind_at m' c ≢ kinds.Unknown
known-drawn m w m' c (kept k x) n e = n (sym k ∙ e)
known-drawn m w m' c (never v v') n e = uncommitted-known (kind_at m' c) (idle-uncommitted (kind_at m' c) (inr v')) e
known-drawn m w m' c (perhaps p q x) n e = uncommitted-known (kind_at m' c) (idle-uncommitted (kind_at m' c) q) e

committed-drawn : (m w m' : List ℕ) (c b : ℕ) → KindDrawn m w m' c → kind_at m' c ≡ kinds.Committed b → kind_at m c ≡ kinds.Committed b
committed-drawn m w m' c b (kept k x) e = sym k ∙ e
committed-drawn m w m' c b (never v v') e = absurd (uncommitted-not (kind_at m' c) b (idle-uncommitted (kind_at m' c) (inr v')) e)
committed-drawn m w m' c b (perhaps p q x) e = absurd (uncommitted-not (kind_at m' c) b (idle-uncommitted (kind_at m' c) q) e)

free-slot : (m : List ℕ) (c i : ℕ) → IsThere m c → i < 7 → ((k : ℕ) → k < 28 → byte m ((data_place c + 16) + k) ≡ 255) → raw_slot m c i ≡ Free
free-slot m c i h low each =
    let t = drop (16 + 4 * i) (data_block m c) in
    let e = λ (j : ℕ) (q : j < 4). get_or-drop (16 + 4 * i) (data_block m c) j 0 ∙ (byte-there m c (16 + 4 * i + j) ((data_place c + 16) + (4 * i + j)) h.bytes (omega (arith, low, q)) (omega arith) ∙ each (4 * i + j) (omega (arith, low, q))) in
    let is : header_of t ≡ headers.Free = rw (e 0 (lit< tt), e 1 (lit< tt), e 2 (lit< tt), e 3 (lit< tt)) refl in
    slot-written (data_block m c) i h.slots ∙ ap (λ q. slot_with q (content_bytes (data_block m c) i)) is

committed-kind : (b : List ℕ) → ((k : ℕ) → k < 4 → byte b k ≡ 255) → byte b 4 ≡ 252 → kind_of b ≡ kinds.Committed (little_from 6 2 b)
committed-kind b e f = rw (e 0 (lit< tt), e 1 (lit< tt), e 2 (lit< tt), e 3 (lit< tt), f) refl

pub not-rest-void : (k : Kind) → k ≡ kinds.Void → IsAtRest k → ⊥
not-rest-void k e r = subst (λ q. IsAtRest q) e r

not-rest-copy : (k : Kind) (b : ℕ) → k ≡ kinds.Committed b → IsAtRest k → ⊥
not-rest-copy k b e r = subst (λ q. IsAtRest q) e r

room-stays : (m w m' : List ℕ) (c : ℕ) → IsFirmChip m w → Drawn w m m' → c < data_blocks m → data_block m' c ≡ part 4096 m' (c + 4) → IsRoom m w c → IsAtRest (kind_at m' c) → IsSpareIn m' c
room-stays m w m' c f d low e (free o g x) rest =
    let s = state-there m' c e in
    let start = start-is m w m' c d e o in
    let h = there m' c (let n = d.same_length in omega (arith, low, n)) e start in
    elim (idle-kind (data_block m' c) start (rw s (begun-drawn m w m' c d g))) as (λ _. IsSpareIn m' c) [
      | inl p ↦ record { plain = p; free = λ i l. free-slot m' c i h l (firmly-read m w m' (data_place c + 16) 28 255 d x) }
      | inr v ↦ absurd (not-rest-void (kind_at m' c) v rest)
    ]
room-stays m w m' c f d low e (firm.IsRoom.void o g v) rest =
    let z : (data_place c + 4) + 0 ≡ data_place c + 4 = omega arith in
    let q = firm-byte m w m' ((data_place c + 4) + 0) d (g 0 (lit< tt)) in
    absurd (not-rest-void (kind_at m' c) (void-kind (data_block m' c) (start-is m w m' c d e o) (state-there m' c e ∙ (rw z at q ∙ v))) rest)
room-stays m w m' c f d low e (committed o g v) rest =
    let z : (data_place c + 4) + 0 ≡ data_place c + 4 = omega arith in
    let q = firm-byte m w m' ((data_place c + 4) + 0) d (g 0 (lit< tt)) in
    absurd (not-rest-copy (kind_at m' c) (little_from 6 2 (data_block m' c)) (committed-kind (data_block m' c) (start-is m w m' c d e o) (state-there m' c e ∙ (rw z at q ∙ v))) rest)
room-stays m w m' c f d low e (firm.IsRoom.erasing b n) rest =
    let n' = named-drawn m w m' (of-chip m w f) d (c + 4) in
    erased-spare m' c (erasing-blank m' c (believed-drawn m w m' (of-chip m w f) d ∙ b) (omega (arith, n, n')))

room-spare : (m w m' : List ℕ) (c : ℕ) → IsFirmChip m w → Drawn w m m' → c < data_blocks m → IsRoom m w c → IsAtRest (kind_at m' c) → IsSpareIn m' c
room-spare m w m' c f d low r rest = elim (block-drawn m w m' c (of-chip m w f) d) as (λ _. IsSpareIn m' c) [
  | inl p ↦ erased-spare m' c p.1
  | inr p ↦ room-stays m w m' c f d low p.1 r rest
]

disk-blocks : (m w m' : List ℕ) → IsDrawnDisk m w m' → IsSoundMap m → SoundBlocks (kind_at m') (raw_slot m') (data_blocks m')
disk-blocks m w m' f s =
    let n = data_blocks m in
    let old = (sound-no_fault (kind_at m) (raw_slot m) n).0 s.blocks in
    let each = λ (c : ℕ) (low : c < n). (f.blocks c low).kind in
    let r = f.room in
    let there_is = r.1 in
    let h : BlocksHaveNoFault (kind_at m') (raw_slot m') n = record {
      known = λ c low. known-drawn m w m' c (each c low) (old.known c low);
      one = λ c e a b lc le ne ea eb. old.one c e a b lc le ne (committed-drawn m w m' c a (each c lc) ea) (committed-drawn m w m' e b (each e le) eb);
      source = λ c b low e. old.source c b low (committed-drawn m w m' c b (each c low) e);
      spare = λ rest. inl (r.0, (there_is.0, there_is.1 (rest r.0 there_is.0)));
    } in
    let z : SoundBlocks (kind_at m') (raw_slot m') n = (sound-no_fault (kind_at m') (raw_slot m') n).1 h in
    subst (λ q. SoundBlocks (kind_at m') (raw_slot m') (block_count q - 4)) (sym f.drawn.same_length) z

-- what is free of it
disk-clean : (m w m' : List ℕ) → IsDrawnDisk m w m' → IsClean m'
disk-clean m w m' f =
    let n = f.drawn.same_length in
    record {
      slots = λ s low e.
          let b = f.blocks (s / 7) (omega (arith, low, n)) in
          b.clean
          (λ v. let q : 0 ≡ 4 = ap slot_number (sym e ∙ counted-void (kind_at m') (raw_slot m') (data_blocks m') s (ap is_void v)) in omega (arith, q))
          (elim (cases_eq (copies (kind_at m') (data_blocks m') (s / 7)) 0) as (λ _. copies (kind_at m) (data_blocks m) (s / 7) ≡ 0) [
            | inr some ↦ (let q : 0 ≡ 4 = ap slot_number (sym e ∙ counted-source (kind_at m') (raw_slot m') (data_blocks m') s some) in absurd (omega (arith, q)))
            | inl none ↦
                sym (copies-same (kind_at m) (kind_at m') (data_blocks m) (s / 7) (λ c h. copy-drawn m w m' c (s / 7 + 4) (f.blocks c h).kind))
                ∙ subst (λ q. copies (kind_at m') (block_count q - 4) (s / 7) ≡ 0) n none
          ])
          (s % 7) (omega arith) (counted-raw m' s Free e (λ x. let q : 0 ≡ 4 = ap slot_number x in omega (arith, q)));
      spare = λ c low e. (f.blocks c (omega (arith, low, n))).spare e;
    }

-- its superblock
super-drawn : (m w m' : List ℕ) (chip : Geometry) → AreChipJournals m w → Drawn w m m' → layout_of m' chip ≡ layout_of m chip
super-drawn m w m' chip f d =
    let e = λ (k : ℕ) (low : k < 16). (let z : 0 + k ≡ k = omega arith in let q = f.superblock k low in firm-byte m w m' k d (rw z at q)) in
    rw (e 0 (lit< tt), e 1 (lit< tt), e 2 (lit< tt), e 3 (lit< tt), e 4 (lit< tt), e 5 (lit< tt), e 6 (lit< tt), e 7 (lit< tt), e 8 (lit< tt), e 9 (lit< tt), e 10 (lit< tt), e 11 (lit< tt), e 12 (lit< tt), e 14 (lit< tt), e 15 (lit< tt)) refl

pub drawn-same : (m w m' : List ℕ) → IsDrawnDisk m w m' → IsHealthy m → IsSoundMap m → IsSameDisk m m'
drawn-same m w m' f healthy sound =
    let d = f.drawn in
    let stands = disk-stands m w m' f sound in
    let tally = tally-drawn m w m' f.journals d in
    record {
      same_length = d.same_length;
      superblock = λ chip. super-drawn m w m' chip f.journals d;
      numbers = tally;
      journals = (healthy.0, subst (λ t. IsSoundTally healthy.0 t) (sym tally) healthy.1);
      slots = record {
        slots = stands.sound;
        blocks = disk-blocks m w m' f sound;
        groups = alone-fit m' (λ c low. (f.blocks c (let n = d.same_length in omega (arith, low, n))).slots);
      };
      sectors = λ g low. stands-computed (slot_at m') (slot_count m') (sector_count (length m')) (sector_at m) g stands (let n = d.same_length in subst (λ q. g < sector_count q) (sym n) low);
      clean = disk-clean m w m' f;
    }

chip-drawn : (m w m' : List ℕ) → IsFirmChip m w → Drawn w m m' → IsDrawnDisk m w m'
chip-drawn m w m' f d = record {
  drawn = d;
  journals = of-chip m w f;
  blocks = chip-block m w m' f d;
  room = (let r = f.room in let there_is = r.1 in (r.0, (there_is.0, room-spare m w m' r.0 f d there_is.0 there_is.1)));
  alone = chip-alone m w m' f d;
}

pub each-draw : EachDrawIsTheSameDisk
each-draw m w m' f healthy sound d = drawn-same m w m' (chip-drawn m w m' f d) healthy sound
