-- Contents as sectors one after the other.
use Rattle.std.proofs.Common.{replicate, ◌≡◌, ◌≢◌, ℕ, zero, suc, ◌+◌, ◌-◌, ◌*◌, ◌/◌, ◌%◌, ◌<◌, ◌≤◌, ◌⊎◌, List, ◌++◌, length, take, drop, refl, sym, ap, ◌∙◌, subst, arith, inl, inr, length-append}
use Rattle.std.proofs.Math.Seq.{get_or-append_right, take-add}
use Rattle.std.proofs.Math.ListN.{get_or-append}
use Rattle.std.specs.Prelude.{slice_range}
use Rattle.std.proofs.lemmas.List.{take-replicate, drop-replicate, ext_get_or, get_or-take, get_or-drop, length-take-le, length-drop, take-append-drop, drop-drop, take_all}
use Rattle.std.proofs.lemmas.Slice.{take-put_mid, drop-put_mid}
use borrow.Rule.Slice.PartMut.{put_mid}
use Rattle.std.proofs.lemmas.Bool.{cases_lt, cases_eq}
use Rattle.chip_model.specs.Geometry.{sector_count}
use Rattle.chip_model.specs.Memory.{byte, taken_byte, placed}
use Rattle.chip_model.proofs.MemoryLaws.{length-placed, placed-inside}
use Rattle.chip_model.specs.Parts.{part}
use Rattle.chip_model.proofs.PartLaws.{get-part, part-whole, part-outside, part-placed}
use Rattle.block_device.specs.Contents.{replaced, bytes_at}
use Rattle.sector_slots.specs.Slots.{IsClean}
use Rattle.sector_slots.specs.Sectors.{sector_at, zeros}
use Rattle.sector_slots.proofs.SizeLaws.{length-sector}
use Rattle.sector_map.specs.Maps.{KeepsMap, KeepsEach, Sets, SetLeaves}
use Rattle.flash_disk.specs.Contents.{joined, contents_of}
use Rattle.flash_disk.proofs.Parts.{replaced-placed}

length-joined : (f : ℕ → List ℕ) (n : ℕ) → ((g : ℕ) → length (f g) ≡ 512) → length (joined f n) ≡ 512 * n
unfolding joined
length-joined f zero h = refl
length-joined f (suc n) h =
    let ih : length (joined f n) ≡ 512 * n = length-joined f n h in
    let last : length (f n) ≡ 512 = h n in
    omega (arith, ih, last, length-append (joined f n) (f n))

-- byte i of sector g
byte-joined : (f : ℕ → List ℕ) (n : ℕ) → ((g : ℕ) → length (f g) ≡ 512) → (g i : ℕ) → g < n → i < 512 → byte (joined f n) (512 * g + i) ≡ byte (f g) i
unfolding joined
byte-joined f zero h g i low small = absurd (omega arith)
byte-joined f (suc n) h g i low small =
    let len : length (joined f n) ≡ 512 * n = length-joined f n h in
    elim (cases_eq g n) [
      | inl same ↦
          let e : 512 * g + i - length (joined f n) ≡ i = omega (arith, len, same) in
          get_or-append_right (joined f n) (f n) (512 * g + i) 0 (omega (arith, len, same)) ∙ (ap (λ k. byte (f n) k) e ∙ ap (λ k. byte (f k) i) (sym same))
      | inr other ↦ get_or-append (joined f n) (f n) 0 (512 * g + i) (omega (arith, len, low, other, small)) ∙ byte-joined f n h g i (omega (arith, low, other)) small
    ]

part-joined : (f : ℕ → List ℕ) (n : ℕ) → ((g : ℕ) → length (f g) ≡ 512) → (g : ℕ) → g < n → part 512 (joined f n) g ≡ f g
part-joined f n h g low =
    let len = length-joined f n h in
    let whole : length (part 512 (joined f n) g) ≡ 512 = part-whole 512 (joined f n) g (omega (arith, len, low)) in
    ext_get_or 0 (part 512 (joined f n) g) (f g) (whole ∙ sym (h g)) (λ i q.
    let small : i < 512 = omega (arith, whole, q) in
    get-part 512 (joined f n) g i small ∙ byte-joined f n h g i low small)

-- bytes are known by the sectors that they are
by-sectors : (f : ℕ → List ℕ) (n : ℕ) (d : List ℕ) → ((g : ℕ) → length (f g) ≡ 512) → length d ≡ 512 * n → ((g : ℕ) → g < n → part 512 d g ≡ f g) → joined f n ≡ d
by-sectors f n d h len each = ext_get_or 0 (joined f n) d (length-joined f n h ∙ sym len) (λ i q.
    let all = length-joined f n h in
    let low : i / 512 < n = omega (arith, all, q) in
    let small : i % 512 < 512 = omega arith in
    let at : 512 * (i / 512) + i % 512 ≡ i = omega arith in
    subst (λ k. byte (joined f n) k ≡ byte d k) at
    (byte-joined f n h (i / 512) (i % 512) low small ∙ (ap (λ x. byte x (i % 512)) (sym (each (i / 512) low)) ∙ get-part 512 d (i / 512) (i % 512) small)))

pub length-contents : (m : List ℕ) → length (contents_of m) ≡ 512 * sector_count (length m)
length-contents m = length-joined (sector_at m) (sector_count (length m)) (length-sector m)

pub part-contents : (m : List ℕ) (g : ℕ) → g < sector_count (length m) → part 512 (contents_of m) g ≡ sector_at m g
part-contents m g low = part-joined (sector_at m) (sector_count (length m)) (length-sector m) g low

-- memories of one length
pub same-size : (m m' : List ℕ) → length m' ≡ length m → length (contents_of m') ≡ length (contents_of m)
same-size m m' e = length-contents m' ∙ (ap (λ n. 512 * sector_count n) e ∙ sym (length-contents m))

contents-by : (m m' d : List ℕ) → length m' ≡ length m → length d ≡ length (contents_of m) → ((g : ℕ) → g < sector_count (length m) → part 512 d g ≡ sector_at m' g) → contents_of m' ≡ d
contents-by m m' d e len each =
    by-sectors (sector_at m') (sector_count (length m')) d (length-sector m') (len ∙ (length-contents m ∙ ap (λ n. 512 * sector_count n) (sym e)))
    (λ g low. each g (subst (λ n. g < sector_count n) e low))

-- memories of one length with the same sectors
pub contents-same : (m m' : List ℕ) → length m' ≡ length m → ((g : ℕ) → g < sector_count (length m) → sector_at m' g ≡ sector_at m g) → contents_of m' ≡ contents_of m
contents-same m m' e same = contents-by m m' (contents_of m) e refl (λ g low. part-contents m g low ∙ sym (same g low))

pub contents-kept : (m m' : List ℕ) → KeepsEach m m' → contents_of m' ≡ contents_of m
contents-kept m m' k = contents-same m m' k.disk.same_length k.sectors

pub contents-keeps : (m m' : List ℕ) → KeepsMap m m' → IsClean m → contents_of m' ≡ contents_of m
contents-keeps m m' k clean = contents-same m m' k.chip.same_length (k.sectors clean)

-- one sector is another
placed-sector : (m m' : List ℕ) (g off : ℕ) (x y : List ℕ) → length m' ≡ length m → sector_at m' g ≡ x → ((h : ℕ) → h < sector_count (length m) → h ≢ g → sector_at m' h ≡ sector_at m h) → g < sector_count (length m) → off + length y ≤ 512
    → x ≡ placed taken_byte (sector_at m g) off y → contents_of m' ≡ placed taken_byte (contents_of m) (512 * g + off) y
placed-sector m m' g off x y size there others low fits e =
    let d = contents_of m in
    let a = 512 * g + off in
    let len = length-contents m in
    contents-by m m' (placed taken_byte d a y) size (length-placed taken_byte d a y) (λ h in_range. elim (cases_eq h g) [
      | inl same ↦
          subst (λ k. part 512 (placed taken_byte d a y) k ≡ sector_at m' k) (sym same)
          (part-placed taken_byte 512 d g off y (omega (arith, len, low)) ∙ (ap (λ q. placed taken_byte q off y) (part-contents m g low) ∙ (sym e ∙ sym there)))
      | inr other ↦
          let out : (512 * h + 512 ≤ a) ⊎ (a + length y ≤ 512 * h) = elim (cases_lt h g) [ inl below ↦ inl (omega (arith, below)) | inr above ↦ inr (omega (arith, above, other, fits)) ] in
          part-outside taken_byte 512 d a y h out ∙ (part-contents m h in_range ∙ sym (others h in_range other))
    ])

-- a sector of which some bytes were replaced
contents-written : (m m' : List ℕ) (g off : ℕ) (x y : List ℕ) → length m' ≡ length m → sector_at m' g ≡ x → ((h : ℕ) → h < sector_count (length m) → h ≢ g → sector_at m' h ≡ sector_at m h) → g < sector_count (length m) → off + length y ≤ 512
    → x ≡ replaced (sector_at m g) off y → contents_of m' ≡ replaced (contents_of m) (512 * g + off) y
contents-written m m' g off x y size there others low fits e =
    let len = length-contents m in
    let long = length-sector m g in
    placed-sector m m' g off x y size there others low fits (e ∙ replaced-placed (sector_at m g) off y (omega (arith, long, fits)))
    ∙ sym (replaced-placed (contents_of m) (512 * g + off) y (omega (arith, len, low, fits)))

-- a sector that is replaced whole
pub whole-sector : (x y : List ℕ) (off : ℕ) → off + length y ≤ 512 → length y ≡ 512 → length x ≡ 512 → y ≡ replaced x off y
whole-sector x y off fits n long =
    let zeroth : off ≡ 0 = omega (arith, fits, n) in
    let e : replaced x off y ≡ placed taken_byte x 0 y = replaced-placed x off y (omega (arith, fits, long)) ∙ ap (λ k. placed taken_byte x k y) zeroth in
    sym (e ∙ ext_get_or 0 (placed taken_byte x 0 y) y (length-placed taken_byte x 0 y ∙ (long ∙ sym n)) (λ i h.
    let size = length-placed taken_byte x 0 y in
    let at : 0 + i ≡ i = omega arith in
    ap (λ k. byte (placed taken_byte x 0 y) k) (sym at) ∙ placed-inside taken_byte x 0 y i (omega (arith, h, size, long, n)) (omega (arith, h, size))))

-- memories of one length with the same sectors but one
pub sector-put : (m m' : List ℕ) (g : ℕ) (x : List ℕ) → length m' ≡ length m → g < sector_count (length m) → length x ≡ 512 → sector_at m' g ≡ x → ((h : ℕ) → h < sector_count (length m) → h ≢ g → sector_at m' h ≡ sector_at m h)
    → contents_of m' ≡ replaced (contents_of m) (512 * g) x
sector-put m m' g x same low size there others =
    let z : 512 * g + 0 ≡ 512 * g = omega arith in
    subst (λ a. contents_of m' ≡ replaced (contents_of m) a x) z
    (contents-written m m' g 0 x x same there others low (omega (arith, size)) (whole-sector (sector_at m g) x 0 (omega (arith, size)) size (length-sector m g)))

-- what the writing of a sector leaves, whole and cut
pub sector-written : (m m' : List ℕ) (g : ℕ) (x : List ℕ) → Sets g x m m' → IsClean m → g < sector_count (length m) → length x ≡ 512 → contents_of m' ≡ replaced (contents_of m) (512 * g) x
sector-written m m' g x w clean low size = sector-put m m' g x w.chip.same_length low size (w.there clean) (w.others clean)

pub sector-left : (m m' : List ℕ) (g : ℕ) (x : List ℕ) → SetLeaves g x m m' → IsClean m → g < sector_count (length m) → length x ≡ 512
    → (contents_of m' ≡ contents_of m) ⊎ (contents_of m' ≡ replaced (contents_of m) (512 * g) x)
sector-left m m' g x left clean low size = elim left as (λ _. (contents_of m' ≡ contents_of m) ⊎ (contents_of m' ≡ replaced (contents_of m) (512 * g) x)) [
  | inl k ↦ inl (contents-keeps m m' k clean)
  | inr w ↦ inr (sector-written m m' g x w clean low size)
]

pub left-clean : (m m' : List ℕ) (g : ℕ) (x : List ℕ) → SetLeaves g x m m' → IsClean m → IsClean m'
left-clean m m' g x left clean = elim left as (λ _. IsClean m') [ inl k ↦ k.clean clean | inr w ↦ w.clean clean ]

-- the sector of a place
pub place-sector : (m m' : List ℕ) (first done all : ℕ) → length m' ≡ length m → 512 * first + all ≤ length (contents_of m) → done < all → first + done / 512 < sector_count (length m')
place-sector m m' first done all e fits low =
    let len = length-contents m in
    subst (λ n. first + done / 512 < sector_count n) (sym e) (omega (arith, len, fits, low))

-- Bytes that are zeros.
pub zeros-slice : (k n : ℕ) → n + 512 ≤ k → slice_range (replicate k 0) n (n + 512) ≡ zeros
unfolding zeros
zeros-slice k n fits =
    let size : n + 512 - n ≡ 512 = omega arith in
    ap (λ q. take (n + 512 - n) q) (drop-replicate n k 0)
    ∙ (take-replicate (n + 512 - n) (k - n) 0 (omega (arith, fits)) ∙ ap (λ q. replicate q 0) size)

-- the sector of a place, counted in sectors
pub counted-sector : (m m' : List ℕ) (first done count : ℕ) → length m' ≡ length m → 512 * first + 512 * count ≤ length (contents_of m) → done < count → first + done < sector_count (length m')
counted-sector m m' first done count e fits low =
    let len = length-contents m in
    subst (λ n. first + done < sector_count n) (sym e) (omega (arith, len, fits, low))

-- Bytes that are read.
pub bytes-of-sector : (m : List ℕ) (g off n : ℕ) → g < sector_count (length m) → off + n ≤ 512 → take n (drop off (sector_at m g)) ≡ bytes_at (contents_of m) (512 * g + off) n
bytes-of-sector m g off n low fits =
    let x = sector_at m g in
    let d = contents_of m in
    let a = 512 * g + off in
    let long = length-sector m g in
    let len = length-contents m in
    let dx = length-drop off x in
    let dd = length-drop a d in
    let left : length (take n (drop off x)) ≡ n = length-take-le n (drop off x) (omega (arith, dx, long, fits)) in
    let right : length (take n (drop a d)) ≡ n = length-take-le n (drop a d) (omega (arith, dd, len, low, fits)) in
    ext_get_or 0 (take n (drop off x)) (take n (drop a d)) (left ∙ sym right) (λ i h.
    let small : i < n = omega (arith, left, h) in
    let at : 512 * g + (off + i) ≡ a + i = omega arith in
    get_or-take n (drop off x) i 0 small
    ∙ (get_or-drop off x i 0
    ∙ (ap (λ q. byte q (off + i)) (sym (part-contents m g low))
    ∙ (get-part 512 d g (off + i) (omega (arith, small, fits))
    ∙ (ap (λ k. byte d k) at
    ∙ (sym (get_or-drop a d i 0) ∙ sym (get_or-take n (drop a d) i 0 small)))))))

all-taken : (x : List ℕ) (off n : ℕ) → off ≡ 0 → length x ≤ n → x ≡ take n (drop off x)
all-taken x off n zeroth fits = sym (subst (λ k. take n (drop k x) ≡ x) (sym zeroth) (take_all n x fits))

pub sector-read : (m into : List ℕ) (g : ℕ) → g < sector_count (length m) → into ≡ sector_at m g → into ≡ bytes_at (contents_of m) (512 * g) 512
sector-read m into g low e =
    let z : 512 * g + 0 ≡ 512 * g = omega arith in
    let long = length-sector m g in
    e ∙ (all-taken (sector_at m g) 0 512 refl (omega (arith, long)) ∙ subst (λ a. take 512 (drop 0 (sector_at m g)) ≡ bytes_at (contents_of m) a 512) z (bytes-of-sector m g 0 512 low (omega arith)))

-- reading goes on by one piece
pub more-read : (d into new : List ℕ) (a n m k at long : ℕ) → take n into ≡ bytes_at d a n → n + m ≤ length into → k ≡ m → long ≡ m → at ≡ a + n → new ≡ bytes_at d at long → length new ≡ long
    → take (n + m) (put_mid n k into new) ≡ bytes_at d a (n + m)
more-read d into new a n m k at long before fits size same place read len =
    let here : new ≡ take m (drop n (drop a d)) = read ∙ (ap (λ q. take q (drop at d)) same ∙ (ap (λ q. take m (drop q d)) place ∙ ap (λ q. take m q) (sym (drop-drop n a d)))) in
    take-put_mid n k into new (n + m) (omega (arith, len, same)) (omega (arith, fits))
    ∙ (ap (λ q. q ++ new) before ∙ (ap (λ q. take n (drop a d) ++ q) here ∙ sym (take-add n m (drop a d))))

pub length-mid : (n m k : ℕ) (into new : List ℕ) → n + m ≤ length into → k ≡ m → length new ≡ m → length (put_mid n k into new) ≡ length into
length-mid n m k into new fits size len =
    let p = put_mid n k into new in
    let front = take-put_mid n k into new (n + m) (omega (arith, len)) (omega (arith, fits)) in
    let rest = drop-put_mid n k into new (n + m) (omega (arith, size)) (omega (arith, fits)) (len ∙ sym size) in
    let before = length-take-le n into (omega (arith, fits)) in
    let all = length-append (take n into) new in
    let parts = length-append (take (n + m) p) (drop (n + m) p) in
    let behind = length-drop (n + m) into in
    let lf = ap length front in
    let lr = ap length rest in
    ap length (sym (take-append-drop (n + m) p)) ∙ omega (arith, parts, lf, lr, all, before, behind, len, fits)
