use Rattle.std.proofs.Common.{sym, ◌∙◌}
use Rattle.std.proofs.lemmas.Bool.{true≢false}
use Rattle.flash_disk.proofs.disk.FlashDisk.mount.Goals as goal

pub mount_as-requires-clause-firmly : goal.mount_as-requires-clause-firmly
mount_as-requires-clause-firmly g c is = absurd (true≢false (sym is ∙ c.requires.plainly))
