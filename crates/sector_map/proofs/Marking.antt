-- The superblock of a chip that is mounted, and the mark of a mixed chip in it.
use Rattle.std.proofs.Common.{◌≡◌, ◌≢◌, ℕ, ◌<◌, ◌⊎◌, Bool, true, false, ◌&&◌, List, length, refl, sym, ap, ◌∙◌, subst, arith, inl, inr, Ok, Err}
use Rattle.std.specs.Prelude.{◌==◌, ◌||◌, not, if◌then◌else◌}
use Rattle.std.proofs.lemmas.Bool.{cases_eq, eq-eqb, ne_eqb}
use Rattle.chip_model.specs.Memory.{byte}
use Rattle.chip_model.specs.declared.geometry.Geometry.{Geometry}
use Rattle.nor_layout.specs.Layouts.{layout_of}
use Rattle.nor_layout.specs.Superblock.{has_name, is_sealed, blocks_in, groups_in, layout_in, mixed_in}
use Rattle.nor_layout.specs.declared.layout.Layout.TheVariants.{Groups, Mixed}
use Rattle.nor_layout.specs.declared.superblock.SuperError.TheVariants as refusals
use Rattle.erase_journal.specs.Blocks.{SameBlocks, SameChip, OnlySuper}
use Rattle.sector_slots.specs.Sectors.{IsSoundMap, sector_at}
use Rattle.sector_slots.specs.Laws.{IsMarked}
use Rattle.sector_slots.proofs.MixLaws.{only-marked, marks-keep}
use Rattle.sector_slots.specs.Sectors.{HoldsSectors}
use Rattle.sector_map.specs.Table.{Mends, Repairs, Mounts, MountCut}
use Rattle.sector_map.specs.declared.table.LiveSlots.{LiveSlots}
use Rattle.sector_map.proofs.Retiring.{single-tabled}
use Rattle.sector_slots.proofs.BlankLaws.{sound-holds, holds-sound}
use Rattle.sector_map.specs.Maps.{IsLaidOut, is_layout, geometry_of}
use Rattle.sector_map.specs.Marking.{SameDisk, IsUnmarked, is_unmarked, mixed_mark, Marks}

-- one after another
pub disk-after : (a b c : List ℕ) → SameDisk a b → SameDisk b c → SameDisk a c
disk-after a b c p q = record {
  same_length = q.same_length ∙ p.same_length;
  superblock = λ k low ne. q.superblock k low ne ∙ p.superblock k low ne;
  mark = elim q.mark as (λ _. (mixed_in c ≡ mixed_in a) ⊎ (IsUnmarked a × (mixed_in c ≡ mixed_mark))) [
    | inl same ↦ elim p.mark as (λ _. (mixed_in c ≡ mixed_in a) ⊎ (IsUnmarked a × (mixed_in c ≡ mixed_mark))) [ inl e ↦ inl (same ∙ e) | inr m ↦ inr (m.0, same ∙ m.1) ]
    | inr now ↦ elim p.mark as (λ _. (mixed_in c ≡ mixed_in a) ⊎ (IsUnmarked a × (mixed_in c ≡ mixed_mark))) [
      | inl e ↦ inr (record { layout = sym (p.superblock 8 (omega arith) (λ z. omega (arith, z))) ∙ now.0.layout; mixed = sym e ∙ now.0.mixed }, now.1)
      | inr m ↦ inr (m.0, now.1)
    ]
  ];
}

pub chip-disk : (a b : List ℕ) → SameChip a b → SameDisk a b
chip-disk a b s = record { same_length = s.same_length; superblock = λ k low ne. s.superblock k low; mark = inl (s.superblock 15 (omega arith)) }

pub same-disk : (a b : List ℕ) → b ≡ a → SameDisk a b
same-disk a b e = subst (λ z. SameDisk a z) (sym e) (record { same_length = refl; superblock = λ k low ne. refl; mark = inl refl })

-- A chip that is laid out still is.
laid-cases : (p q : Bool) → is_layout (if p then Err refusals.NotFormatted else if q then Err refusals.Geometry else Ok Groups) ≡ true → is_layout (if p then Err refusals.NotFormatted else if q then Err refusals.Geometry else Ok Mixed) ≡ true
laid-cases true q e = e
laid-cases false true e = e
laid-cases false false e = refl

marked-laid : (m m' : List ℕ) (chip : Geometry) → ((k : ℕ) → k < 15 → byte m' k ≡ byte m k) → IsUnmarked m → mixed_in m' ≡ mixed_mark → is_layout (layout_of m chip) ≡ true → is_layout (layout_of m' chip) ≡ true
marked-laid m m' chip same un now e =
    let was : is_layout (if not (has_name m) || not (is_sealed m) then Err refusals.NotFormatted else if not (blocks_in m == chip.blocks) || not (groups_in m == chip.groups) then Err refusals.Geometry else Ok Groups) ≡ true = rw (un.layout, un.mixed) at e in
    let h = laid-cases (not (has_name m) || not (is_sealed m)) (not (blocks_in m == chip.blocks) || not (groups_in m == chip.groups)) was in
    rw (same 0 (omega arith), same 1 (omega arith), same 2 (omega arith), same 3 (omega arith), same 4 (omega arith), same 5 (omega arith), same 6 (omega arith), same 7 (omega arith), same 8 (omega arith), same 9 (omega arith), same 10 (omega arith), same 11 (omega arith), same 12 (omega arith), same 14 (omega arith), now, un.layout) h

pub kept-laid : (m m' : List ℕ) (chip : Geometry) → ((k : ℕ) → k < 16 → byte m' k ≡ byte m k) → layout_of m' chip ≡ layout_of m chip
kept-laid m m' chip same = rw (same 0 (omega arith), same 1 (omega arith), same 2 (omega arith), same 3 (omega arith), same 4 (omega arith), same 5 (omega arith), same 6 (omega arith), same 7 (omega arith), same 8 (omega arith), same 9 (omega arith), same 10 (omega arith), same 11 (omega arith), same 12 (omega arith), same 14 (omega arith), same 15 (omega arith)) refl

disk-bytes : (m m' : List ℕ) → SameDisk m m' → mixed_in m' ≡ mixed_in m → (k : ℕ) → k < 16 → byte m' k ≡ byte m k
disk-bytes m m' d e k low = elim (cases_eq k 15) as (λ _. byte m' k ≡ byte m k) [
  | inl q ↦ ap (λ z. byte m' z) q ∙ (e ∙ ap (λ z. byte m z) (sym q))
  | inr ne ↦ d.superblock k (omega (arith, low)) ne
]

pub disk-laid : (m m' : List ℕ) → SameDisk m m' → IsLaidOut m → IsLaidOut m'
disk-laid m m' d laid = subst (λ n. is_layout (layout_of m' (geometry_of n)) ≡ true) (sym d.same_length) (elim d.mark as (λ _. is_layout (layout_of m' (geometry_of (length m))) ≡ true) [
  | inl e ↦ ap is_layout (kept-laid m m' (geometry_of (length m)) (disk-bytes m m' d e)) ∙ laid
  | inr p ↦ marked-laid m m' (geometry_of (length m)) (λ k low. d.superblock k (omega (arith, low)) (λ q. omega (arith, q, low))) p.0 p.1 laid
])

-- a superblock that is laid out is formatted
pub laid-formatted : (m : List ℕ) → IsLaidOut m → layout_of m (geometry_of (length m)) ≢ Err refusals.NotFormatted
laid-formatted m laid bare = let q : false ≡ true = sym (ap is_layout bare) ∙ laid in cc

-- The mark is programmed.
unmarked-cases : (a b : Bool) → (a && b) ≡ true → (a ≡ true) × (b ≡ true)
unmarked-cases true true e = (refl, refl)
unmarked-cases true false e = (let q : false ≡ true = e in absurd cc)
unmarked-cases false b e = (let q : false ≡ true = e in absurd cc)

eqb-same : (a b : ℕ) → (a == b) ≡ true → a ≡ b
eqb-same a b e = elim (cases_eq a b) [ inl same ↦ same | inr ne ↦ absurd (let q : false ≡ true = sym (ne_eqb a b ne) ∙ e in cc) ]

pub is-unmarked : (m : List ℕ) → is_unmarked m ≡ true → IsUnmarked m
is-unmarked m e = let p = unmarked-cases (layout_in m == 1) (mixed_in m == 255) e in record { layout = eqb-same (layout_in m) 1 p.0; mixed = eqb-same (mixed_in m) 255 p.1 }

pub unmarked-is : (m : List ℕ) → IsUnmarked m → is_unmarked m ≡ true
unmarked-is m u = rw (eq-eqb (layout_in m) 1 u.layout, eq-eqb (mixed_in m) 255 u.mixed) refl

pub marks : (m m' : List ℕ) → is_unmarked m ≡ true → OnlySuper 15 m m' → mixed_in m' ≡ mixed_mark → Marks m m'
marks m m' e only now =
    let u = is-unmarked m e in
    record {
      disk = record { same_length = only.same_length; superblock = only.superblock; mark = inr (u, now) };
      marked = λ z. now;
      blocks = only-marked m m' only;
    }

same-marked : (m : List ℕ) → IsMarked m m
same-marked m = record { same_length = refl; layout = refl; each = λ d low. refl }

pub marks-none : (m m' : List ℕ) → is_unmarked m ≡ false → m' ≡ m → Marks m m'
marks-none m m' e same = subst (λ z. Marks m z) (sym same) (record {
  disk = same-disk m m refl;
  marked = λ u. absurd (let q : true ≡ false = sym (unmarked-is m u) ∙ e in cc);
  blocks = same-marked m;
})

-- What it holds stands.
pub marked-holds : (m m' : List ℕ) → IsMarked m m' → IsSoundMap m → HoldsSectors (sector_at m) m'
marked-holds m m' h sound = (marks-keep m m' h).0 (sector_at m) (sound-holds m sound)

pub marked-sound : (m m' : List ℕ) → IsMarked m m' → IsSoundMap m → IsSoundMap m'
marked-sound m m' h sound = holds-sound m' (sector_at m) (marked-holds m m' h sound)

-- The whole of a mount, and one that was cut.
after-mark : (b c : List ℕ) → Mends b c → mixed_in b ≡ mixed_mark → mixed_in c ≡ mixed_mark
after-mark b c h e = h.chip.superblock 15 (omega arith) ∙ e

pub mounted : (table : List LiveSlots) (m b c : List ℕ) → IsSoundMap m → Marks m b → Repairs b table c → Mounts m table c
mounted table m b c sound h r = record {
  sound = sound;
  disk = disk-after m b c h.disk (chip-disk b c r.mends.chip);
  marked = λ u. after-mark b c r.mends (h.marked u);
  sectors = r.mends.sectors (sector_at m) (marked-holds m b h.blocks sound);
  tabled = r.tabled;
  single = single-tabled table c r.tabled;
  blocks = r.blocks;
  clean = λ q. r.mends.clean ((marks-keep m b h.blocks).1 q);
}

pub cut-none : (m b : List ℕ) → b ≡ m → MountCut m b
cut-none m b e = subst (λ z. MountCut m z) (sym e) (record { disk = same-disk m m refl; first = λ u. inl refl; sectors = λ sound. sound-holds m sound; clean = λ q. q })

pub cut-marked : (m b c : List ℕ) → Marks m b → Mends b c → MountCut m c
cut-marked m b c h r = record {
  disk = disk-after m b c h.disk (chip-disk b c r.chip);
  first = λ u. inr (after-mark b c r (h.marked u));
  sectors = λ sound. r.sectors (sector_at m) (marked-holds m b h.blocks sound);
  clean = λ q. r.clean ((marks-keep m b h.blocks).1 q);
}

mends-none : (m : List ℕ) → Mends m m
mends-none m = record { chip = record { same_length = refl; superblock = λ k low. refl }; sectors = λ s h. h; clean = λ c. c }

pub cut-marking : (m b : List ℕ) → (b ≡ m) ⊎ Marks m b → MountCut m b
cut-marking m b h = elim h as (λ _. MountCut m b) [ inl e ↦ cut-none m b e | inr q ↦ cut-marked m b b q (mends-none b) ]

-- a superblock that is the same says the same
pub unmarked-same : (m m' : List ℕ) → SameBlocks m m' → is_unmarked m' ≡ is_unmarked m
unmarked-same m m' h = rw (h.chip.superblock 8 (omega arith), h.chip.superblock 15 (omega arith)) refl
