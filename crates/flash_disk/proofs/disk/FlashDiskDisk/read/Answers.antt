use Rattle.std.proofs.Common.{◌∙◌, ap, Err, subst}
use Rattle.erase_journal.specs.Steps.{RefusesFirmly}
use Rattle.flash_disk.proofs.disk.FlashDiskDisk.read.Goals as goal

pub returns-in-Err-Cut-clause-firmly : goal.returns-in-Err-Cut-clause-firmly
returns-in-Err-Cut-clause-firmly g c firm cuts slows cut ready sound = c.read_sectors.ensures.firmly firm cuts slows (c.in-Err-Cut.is ∙ ap Err c.in-Err-Cut.field-0-is) (c.args.self.now.clean sound ready.1) (c.args.self.now.named slows).1

pub returns-in-Err-Cut-clause-counts : goal.returns-in-Err-Cut-clause-counts
returns-in-Err-Cut-clause-counts g c = (subst (λ e. RefusesFirmly e c.args.self.now.map c.read_sectors.new.map) c.in-Err-Cut.field-0-is c.in-Err-Cut.ensures.fails).fails.1

pub returns-in-Err-Slow-clause-counts : goal.returns-in-Err-Slow-clause-counts
returns-in-Err-Slow-clause-counts g c = (subst (λ e. RefusesFirmly e c.args.self.now.map c.read_sectors.new.map) c.in-Err-Slow.field-0-is c.in-Err-Slow.ensures.fails).fails.1
