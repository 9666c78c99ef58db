-- The disks on two chips of one size may be compared.
use Rattle.std.proofs.Common.{ℕ, zero, suc, List, [], ◌∷◌, length, ap, arith, inl, inr, sym, ◌≡◌, ◌≤◌, ◌+◌, ◌/◌, ◌%◌, ◌*◌, ◌∙◌}
use Rattle.std.proofs.lemmas.List.{length_push}
use Rattle.chip_model.specs.Geometry.{IsChipSize, sector_count}
use Rattle.flash_disk.specs.Contents.{contents_of}
use Rattle.flash_disk.proofs.Sectors.{length-contents}
use Rattle.norbd_transfer.specs.Differing.{Differing}

disk-length : (d m : List ℕ) → d ≡ contents_of m → length d ≡ 512 * sector_count (length m)
disk-length d m is = ap length is ∙ length-contents m

pub disk-whole : (d m : List ℕ) → d ≡ contents_of m → length d % 512 ≡ 0
disk-whole d m is = omega (arith, disk-length d m is)

pub disk-few : (d m : List ℕ) → d ≡ contents_of m → IsChipSize (length m) → length d ≤ 33554432
disk-few d m is size = omega (arith, disk-length d m is, size.most)

pub disk-same : (c d m m' : List ℕ) → c ≡ contents_of m → d ≡ contents_of m' → length m ≡ length m' → length d ≡ length c
disk-same c d m m' left right same =
    disk-length d m' right ∙ ap (λ n. 512 * sector_count n) (sym same) ∙ sym (disk-length c m left)

-- no more sectors differ than there are
differing-few : (these those : List ℕ) (n : ℕ) (numbers : List ℕ) → Differing these those n numbers → length numbers ≤ n
differing-few these those zero numbers none = omega (arith, ap length none)
differing-few these those (suc n) numbers (lower, h, inl (same, is)) = omega (arith, ap length is, differing-few these those n lower h)
differing-few these those (suc n) numbers (lower, h, inr (other, is)) = omega (arith, ap length is, length_push lower n, differing-few these those n lower h)

pub disk-differing-few : (c m : List ℕ) (those numbers : List ℕ) → c ≡ contents_of m → IsChipSize (length m) → Differing c those (length c / 512) numbers → length numbers ≤ 65536
disk-differing-few c m those numbers is size h = omega (arith, disk-few c m is size, differing-few c those (length c / 512) numbers h)
