use Rattle.std.proofs.Common.{◌∙◌, ap}
use Rattle.chip_model.specs.Chip.{Chip}
use Rattle.norbd_run.proofs.Opening.{any-reason, whole-disk}
use Rattle.norbd_run.proofs.read.sectors_of_image.Goals as goal

pub returns-clause-whole : goal.returns-clause-whole
returns-clause-whole c none =
    let part = c.in_ok-part.ensures.whole none in
    whole-disk (λ bytes. bytes.items) c.sectors_of_disk.result _ _ c.in_ok-part.part.first c.in_ok-part.part.end c.sectors_of_disk.ensures.bytes part.0 part.1 c.in_ok-disk.ensures.from.contents

pub returns-clause-reason : goal.returns-clause-reason
returns-clause-reason c = any-reason c.sectors_of_disk.result c.args.image.items c.sectors_of_disk.ensures.reason
