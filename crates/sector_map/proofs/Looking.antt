-- The first bytes of block 0 say what the whole block does.
use Rattle.std.proofs.Common.{◌≡◌, ℕ, ◌+◌, ◌<◌, List, refl, ap, ◌∙◌, subst, arith}
use Rattle.std.specs.Prelude.{drop, slice_range}
use Rattle.std.proofs.lemmas.List.{get_or-take, get_or-drop}
use Rattle.chip_model.specs.Memory.{byte}
use Rattle.chip_model.specs.Geometry.{block_count, group_count, sector_count}
use Rattle.chip_model.specs.declared.geometry.Geometry.{Geometry}
use Rattle.nor_layout.specs.Layouts.{layout_of}
use Rattle.sector_map.specs.Maps.{geometry_of}

super-byte : (m h : List ℕ) (k : ℕ) → h ≡ slice_range m 0 16 → k < 16 → byte h k ≡ byte m k
super-byte m h k e low =
    let z : 0 + k ≡ k = omega arith in
    ap (λ q. byte q k) e ∙ (get_or-take 16 (drop 0 m) k 0 low ∙ (get_or-drop 0 m k 0 ∙ ap (λ q. byte m q) z))

pub says-same : (m h : List ℕ) (chip : Geometry) → h ≡ slice_range m 0 16 → layout_of h chip ≡ layout_of m chip
says-same m h chip e = rw (super-byte m h 0 e (omega arith), super-byte m h 1 e (omega arith), super-byte m h 2 e (omega arith), super-byte m h 3 e (omega arith), super-byte m h 4 e (omega arith), super-byte m h 5 e (omega arith), super-byte m h 6 e (omega arith), super-byte m h 7 e (omega arith), super-byte m h 8 e (omega arith), super-byte m h 9 e (omega arith), super-byte m h 10 e (omega arith), super-byte m h 11 e (omega arith), super-byte m h 12 e (omega arith), super-byte m h 14 e (omega arith), super-byte m h 15 e (omega arith)) refl

-- the counts of a chip of so many bytes
counts-are : (chip : Geometry) (n : ℕ) → chip.blocks ≡ block_count n → chip.groups ≡ group_count n → chip.sectors ≡ sector_count n → chip ≡ geometry_of n
counts-are chip n a b c = subst (λ x. chip ≡ record { blocks = x; groups = group_count n; sectors = sector_count n }) a
    (subst (λ x. chip ≡ record { blocks = chip.blocks; groups = x; sectors = sector_count n }) b
    (subst (λ x. chip ≡ record { blocks = chip.blocks; groups = chip.groups; sectors = x }) c refl))

pub geometry-is : (chip : Geometry) (bytes n : ℕ) → bytes ≡ n → chip.blocks ≡ block_count bytes → chip.groups ≡ group_count bytes → chip.sectors ≡ sector_count bytes → chip ≡ geometry_of n
geometry-is chip bytes n e a b c = subst (λ k. chip ≡ geometry_of k) e (counts-are chip bytes a b c)
