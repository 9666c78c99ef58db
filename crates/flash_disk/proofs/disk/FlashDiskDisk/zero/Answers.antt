use Rattle.std.proofs.Common.{◌∙◌, ap, arith, Err, subst}
use Rattle.nor_driver.proofs.CallLaws.{refuses-cuts, refuses-slows}
use Rattle.flash_disk.proofs.Sectors.{same-size}
use Rattle.erase_journal.proofs.Firmly.{refuses-plainly}
use Rattle.erase_journal.specs.Steps.{RefusesFirmly}
use Rattle.flash_disk.proofs.disk.FlashDiskDisk.zero.Goals as goal

pub returns-in-Ok-clause-goes : goal.returns-in-Ok-clause-goes
returns-in-Ok-clause-goes g c = record { size = same-size c.args.self.now.map.memory c.zero_sectors.new.map.memory c.zero_sectors.ensures.size; cuts = omega (arith, c.in-Ok.ensures.kept.cuts); slows = omega (arith, c.in-Ok.ensures.kept.slows) }

pub returns-in-Err-Cut-clause-goes : goal.returns-in-Err-Cut-clause-goes
returns-in-Err-Cut-clause-goes g c = record { size = same-size c.args.self.now.map.memory c.zero_sectors.new.map.memory c.zero_sectors.ensures.size; cuts = refuses-cuts _ c.args.self.now.map c.zero_sectors.new.map (refuses-plainly _ c.args.self.now.map c.zero_sectors.new.map c.in-Err-Cut.ensures.fails); slows = refuses-slows _ c.args.self.now.map c.zero_sectors.new.map (refuses-plainly _ c.args.self.now.map c.zero_sectors.new.map c.in-Err-Cut.ensures.fails) }

pub returns-in-Err-Slow-clause-goes : goal.returns-in-Err-Slow-clause-goes
returns-in-Err-Slow-clause-goes g c = record { size = same-size c.args.self.now.map.memory c.zero_sectors.new.map.memory c.zero_sectors.ensures.size; cuts = refuses-cuts _ c.args.self.now.map c.zero_sectors.new.map (refuses-plainly _ c.args.self.now.map c.zero_sectors.new.map c.in-Err-Slow.ensures.fails); slows = refuses-slows _ c.args.self.now.map c.zero_sectors.new.map (refuses-plainly _ c.args.self.now.map c.zero_sectors.new.map c.in-Err-Slow.ensures.fails) }

pub returns-in-Err-Cut-clause-firmly : goal.returns-in-Err-Cut-clause-firmly
returns-in-Err-Cut-clause-firmly g c firm cuts slows cut ready sound = c.zero_sectors.ensures.firmly firm cuts slows (c.in-Err-Cut.is ∙ ap Err c.in-Err-Cut.field-0-is) (c.args.self.now.clean sound ready.1) (c.args.self.now.named slows).1

pub returns-in-Err-Cut-clause-counts : goal.returns-in-Err-Cut-clause-counts
returns-in-Err-Cut-clause-counts g c = (subst (λ e. RefusesFirmly e c.args.self.now.map c.zero_sectors.new.map) c.in-Err-Cut.field-0-is c.in-Err-Cut.ensures.fails).fails.1

pub returns-in-Err-Slow-clause-counts : goal.returns-in-Err-Slow-clause-counts
returns-in-Err-Slow-clause-counts g c = (subst (λ e. RefusesFirmly e c.args.self.now.map c.zero_sectors.new.map) c.in-Err-Slow.field-0-is c.in-Err-Slow.ensures.fails).fails.1
