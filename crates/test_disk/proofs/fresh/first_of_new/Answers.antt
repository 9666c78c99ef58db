use Rattle.std.proofs.Common.{◌∙◌, subst}
use Rattle.std.specs.Prelude.{OnOk}
use Rattle.chip_model.specs.Geometry.{sector_count}
use Rattle.flash_disk.specs.Contents.{contents_of}
use Rattle.flash_disk.specs.Formatted.{Formatted}
use Rattle.test_disk.proofs.Zeros.{zeros-read}
use Rattle.test_disk.proofs.fresh.first_of_new.Goals as goal

pub returns-in-Ok : goal.returns-in-Ok
returns-in-Ok g c read =
    let chip = g.B.SpiBus.chip c.format-bus.result.0 in
    let formatted : Formatted chip = subst (λ r. OnOk r (Formatted chip)) c.in-Ok.is c.format-bus.ensures.formatted in
    zeros-read c.first.new.into (contents_of chip.memory) _ formatted.contents (c.first.ensures read) (c.first.auto.into ∙ c.requires.room)
