-- There are fewer sectors than slots outside a block, so live slots of different sectors don't fill them.
use Rattle.std.proofs.Common.{◌≡◌, ◌≢◌, ℕ, zero, suc, true, false, ◌+◌, ◌-◌, ◌*◌, ◌<◌, ◌≤◌, ◌⊎◌, refl, sym, ap, ◌∙◌, subst, List, length, arith, if◌then◌else◌, inl, inr, eq-eqb}
use Rattle.std.specs.Prelude.{◌==◌, ◌/◌, ◌%◌, nat_lt}
use Rattle.std.proofs.lemmas.Bool.{cases_eq, cases_lt, ne_eqb}
use Rattle.chip_model.specs.Geometry.{IsChipSize, sector_count}
use Rattle.nor_layout.specs.declared.header.Generation.{Generation}
use Rattle.nor_layout.specs.declared.header.Header.{Header}
use Rattle.nor_layout.specs.declared.header.Header.TheVariants as headers
use Rattle.sector_slots.specs.Slots.{Slot, Free, Live, NoGeneration, Dead, Outside, slot_at, slot_count, data_blocks, data_block, kind_at, raw_slot, slot_in, slot_with, descriptor_in, content_bytes}
use Rattle.sector_slots.specs.Sectors.{LiveAt, IsSoundMap, IsAtRestMap}
use Rattle.sector_slots.proofs.CopyLaws.{at-rest-copies, at-rest-counts, copies-none, counted-in}
use Rattle.sector_slots.proofs.SectorLaws.{number_in}
use Rattle.sector_slots.specs.Blocks.{IsReserveOf}
use Rattle.sector_stock.specs.Room.{HasRoom, HasNoneFree, HasNoneDead, IsSpareBlock}

pub spare-block : (r : ℕ) (m : List ℕ) → IsReserveOf r m → IsSpareBlock r m
spare-block r m h = record { number = h.number; spare = h.spare }

-- numbers below k at the places below n, no two the same
record Apart (n k : ℕ) (g : ℕ → ℕ) : Type 0 where
  below : (s : ℕ) → s < n → g s < k
  single : (s t : ℕ) → s < n → t < n → g s ≡ g t → s ≡ t

-- v in the place of the number k
moved : ℕ → ℕ → (ℕ → ℕ) → ℕ → ℕ
moved k v g s = if g s == k then v else g s

moved-there : (k v : ℕ) (g : ℕ → ℕ) (s : ℕ) → g s ≡ k → moved k v g s ≡ v
unfolding moved
moved-there k v g s e = rw (eq-eqb (g s) k e) refl

moved-else : (k v : ℕ) (g : ℕ → ℕ) (s : ℕ) → (g s ≡ k → ⊥) → moved k v g s ≡ g s
unfolding moved
moved-else k v g s n = rw (ne_eqb (g s) k n) refl

moved-below : (n k : ℕ) (g : ℕ → ℕ) → Apart (suc n) (suc k) g → (s : ℕ) → s < n → moved k (g n) g s < k
moved-below n k g a s low = elim (cases_eq (g s) k) [
  | inl e ↦
      let last = a.below n (omega arith) in
      let other : g n ≡ k → ⊥ = λ f. (let same = a.single s n (omega arith) (omega arith) (e ∙ sym f) in absurd (omega arith)) in
      rw (moved-there k (g n) g s e) (omega arith)
  | inr n-e ↦ let here = a.below s (omega arith) in rw (moved-else k (g n) g s n-e) (omega arith)
]

moved-single : (n k : ℕ) (g : ℕ → ℕ) → Apart (suc n) (suc k) g → (s t : ℕ) → s < n → t < n → moved k (g n) g s ≡ moved k (g n) g t → s ≡ t
moved-single n k g a s t ls lt e = elim (cases_eq (g s) k) [
  | inl p ↦ elim (cases_eq (g t) k) [
    | inl q ↦ a.single s t (omega arith) (omega arith) (p ∙ sym q)
    | inr q ↦
        let f : g n ≡ g t = sym (moved-there k (g n) g s p) ∙ (e ∙ moved-else k (g n) g t q) in
        let same = a.single n t (omega arith) (omega arith) f in absurd (omega arith)
  ]
  | inr p ↦ elim (cases_eq (g t) k) [
    | inl q ↦
        let f : g s ≡ g n = sym (moved-else k (g n) g s p) ∙ (e ∙ moved-there k (g n) g t q) in
        let same = a.single s n (omega arith) (omega arith) f in absurd (omega arith)
    | inr q ↦ a.single s t (omega arith) (omega arith) (sym (moved-else k (g n) g s p) ∙ (e ∙ moved-else k (g n) g t q))
  ]
]

pigeonhole : (n k : ℕ) (g : ℕ → ℕ) → Apart n k g → n ≤ k
pigeonhole zero k g a = omega arith
pigeonhole (suc n) zero g a = let last = a.below n (omega arith) in absurd (omega arith)
pigeonhole (suc n) (suc k) g a =
    let rest = pigeonhole n k (moved k (g n) g) (record { below = moved-below n k g a; single = moved-single n k g a }) in
    omega arith

lt-yes : (a b : ℕ) → a < b → nat_lt a b ≡ true
lt-yes a b h = grind (arith, h)

lt-no : (a b : ℕ) → b ≤ a → nat_lt a b ≡ false
lt-no a b h = grind (arith, h)

abbrev IsInside : Slot → Type 0
IsInside Free = Unit {0}
IsInside (Live tag x) = Unit {0}
IsInside NoGeneration = Unit {0}
IsInside Dead = Unit {0}
IsInside Outside = ⊥

with-inside : (h : Header) (x : List ℕ) → slot_with h x ≢ Outside
with-inside headers.Free x e = subst (λ a. IsInside a) e tt
with-inside (headers.Live tag) x e = subst (λ a. IsInside a) e tt
with-inside headers.NoGeneration x e = subst (λ a. IsInside a) e tt
with-inside headers.Dead x e = subst (λ a. IsInside a) e tt

-- a block's slot isn't outside
raw-inside : (b : List ℕ) (i : ℕ) → slot_in b i ≢ Outside
unfolding slot_in
raw-inside b i e = with-inside (descriptor_in b i) (content_bytes b i) e

-- where no copying goes on each slot counts
pub settled-raw : (m : List ℕ) → HasRoom m → (s : ℕ) → s < slot_count m → slot_at m s ≡ raw_slot m (s / 7) (s % 7)
settled-raw m room s low =
    counted-in (kind_at m) (raw_slot m) (data_blocks m) s (at-rest-counts (kind_at m (s / 7)) (room.blocks.rest (s / 7) (omega arith)))
    (copies-none (kind_at m) (data_blocks m) (s / 7) (λ d h. at-rest-copies (s / 7 + 4) (kind_at m d) (room.blocks.rest d h)))

pub settled-inside : (m : List ℕ) → HasRoom m → (s : ℕ) → s < slot_count m → slot_at m s ≢ Outside
settled-inside m room s low e = raw-inside (data_block m (s / 7)) (s % 7) (sym (settled-raw m room s low) ∙ e)

is-live : (slot : Slot) → slot ≢ Free → slot ≢ NoGeneration → slot ≢ Dead → slot ≢ Outside → (g : ℕ) × ((k : Generation) × ((x : List ℕ) × (slot ≡ Live (record { number = g; generation = k }) x)))
is-live Free f n d o = absurd (f refl)
is-live (Live tag content) f n d o = (tag.number, (tag.generation, (content, refl)))
is-live NoGeneration f n d o = absurd (n refl)
is-live Dead f n d o = absurd (d refl)
is-live Outside f n d o = absurd (o refl)

-- the slots but those of block r, counted through
abbrev past : ℕ → ℕ → ℕ
past r s = if nat_lt s (7 * r) then s else s + 7

record Passed (r n s v : ℕ) : Type 0 where
  low : v < 7 * n
  other : v / 7 ≢ r
  from : (s < 7 * r) × (v ≡ s) ⊎ (7 * r ≤ s) × (v ≡ s + 7)

past-is : (r n s : ℕ) → r < n → s < 7 * n - 7 → Passed r n s (past r s)
past-is r n s within low = elim (cases_lt s (7 * r)) [
  | inl below ↦ rw (lt-yes s (7 * r) below) (record { low = omega arith; other = λ e. omega (arith, e); from = inl (below, refl) })
  | inr above ↦ rw (lt-no s (7 * r) above) (record { low = omega arith; other = λ e. omega (arith, e); from = inr (above, refl) })
]

apart : (r n s t v w : ℕ) → Passed r n s v → Passed r n t w → v ≡ w → s ≡ t
apart r n s t v w a b e = elim a.from [
  | inl p ↦ let q = p.1 in elim b.from as (λ _. s ≡ t) [ inl x ↦ (let y = x.1 in omega (arith, e, q, y)) | inr x ↦ (let y = x.1 in let z = x.0 in let u = p.0 in omega (arith, e, q, y, z, u)) ]
  | inr p ↦ let q = p.1 in elim b.from as (λ _. s ≡ t) [ inl x ↦ (let y = x.1 in let z = x.0 in let u = p.0 in omega (arith, e, q, y, z, u)) | inr x ↦ (let y = x.1 in omega (arith, e, q, y)) ]
]

live-number : (m : List ℕ) (v : ℕ) → HasRoom m → v < slot_count m → slot_at m v ≢ Free → slot_at m v ≢ Dead → (k : Generation) × ((x : List ℕ) × LiveAt (slot_at m) (slot_count m) v (number_in (slot_at m v)) k x)
live-number m v room low free dead =
    let l = is-live (slot_at m v) free (room.whole v low) dead (settled-inside m room v low) in
    let number : l.0 ≡ number_in (slot_at m v) = sym (ap number_in l.1.1.1) in
    (l.1.0, (l.1.1.0, subst (λ g. LiveAt (slot_at m) (slot_count m) v g l.1.0 l.1.1.0) number (record { number = low; is = l.1.1.1 })))

apart-sectors : (r : ℕ) (m : List ℕ) → HasRoom m → IsSpareBlock r m → HasNoneFree r m → HasNoneDead m → Apart (slot_count m - 7) (sector_count (length m)) (λ s. number_in (slot_at m (past r s)))
apart-sectors r m room reserve free dead = record {
  below = λ s low.
      let p = past-is r (data_blocks m) s reserve.number low in
      let l = live-number m (past r s) room p.low (free (past r s) p.low p.other) (dead (past r s) p.low) in
      room.sector (past r s) (number_in (slot_at m (past r s))) l.0 l.1.0 l.1.1;
  single = λ s t ls lt same.
      let p = past-is r (data_blocks m) s reserve.number ls in
      let q = past-is r (data_blocks m) t reserve.number lt in
      let a = live-number m (past r s) room p.low (free (past r s) p.low p.other) (dead (past r s) p.low) in
      let b = live-number m (past r t) room q.low (free (past r t) q.low q.other) (dead (past r t) q.low) in
      let one = room.single.one (past r s) (past r t) (number_in (slot_at m (past r s))) a.0 b.0 a.1.0 b.1.0 a.1.1
      (subst (λ g. LiveAt (slot_at m) (slot_count m) (past r t) g b.0 b.1.0) (sym same) b.1.1) in
      apart r (data_blocks m) s t (past r s) (past r t) p q one;
}

pub outnumber : (m : List ℕ) → IsChipSize (length m) → sector_count (length m) + 7 ≤ slot_count m - 7
outnumber m size = let least = size.least in omega arith

pub never-full : (r : ℕ) (m : List ℕ) → IsChipSize (length m) → HasRoom m → IsSpareBlock r m → HasNoneFree r m → HasNoneDead m → ⊥
never-full r m size room reserve free dead =
    let few = pigeonhole (slot_count m - 7) (sector_count (length m)) (λ s. number_in (slot_at m (past r s))) (apart-sectors r m room reserve free dead) in
    let more = outnumber m size in
    omega (arith, few, more)

pub sound-room : (m : List ℕ) → IsSoundMap m → IsAtRestMap m → HasRoom m
sound-room m sound rest = record { sector = sound.slots.sector; single = rest.single; whole = sound.slots.whole; blocks = rest.blocks; layout = sound.groups.layout }
