use Rattle.std.proofs.Common.{◌≡◌, ◌∙◌, ℕ, length, ◌*◌, arith, ap, sym}
use Rattle.chip_model.specs.Geometry.{sector_count}
use Rattle.flash_disk.proofs.Sectors.{length-contents}
use Rattle.norbd_image.proofs.mended.mended_image.Goals as goal

pub filled_image-requires-clause-sectors : goal.filled_image-requires-clause-sectors
filled_image-requires-clause-sectors c =
    let size = c.in-Ok.ensures.image.size in
    let same : length c.in-Ok.fresh.items ≡ length c.args.image.items = omega (arith, size, c.len.ensures, c.requires.whole) in
    ap length c.as_slice.ensures.value ∙ (ap length c.in_ok-sectors.ensures.sectors.0 ∙ (length-contents c.args.image.items ∙ ap (λ (n : ℕ). 512 * sector_count n) (sym same)))
