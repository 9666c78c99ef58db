use Rattle.std.proofs.Common.{◌∙◌, ap, subst, arith, Err}
use Rattle.erase_journal.specs.Steps.{RefusesFirmly}
use Rattle.nor_driver.proofs.CallLaws.{refuses-cuts, refuses-slows}
use Rattle.flash_disk.proofs.Sectors.{same-size, contents-keeps}
use Rattle.erase_journal.proofs.Firmly.{refuses-plainly}
use Rattle.flash_disk.proofs.disk.FlashDisk.settle_step.Goals as goal

pub returns-in-Ok-clause-goes : goal.returns-in-Ok-clause-goes
returns-in-Ok-clause-goes g c = record { size = same-size c.args.self.now.map.memory c.renew_part.new.map.memory c.renew_part.ensures.size; cuts = omega (arith, c.in-Ok.ensures.ends.kept.cuts); slows = omega (arith, c.in-Ok.ensures.ends.kept.slows) }

pub returns-in-Err-Cut-clause-goes : goal.returns-in-Err-Cut-clause-goes
returns-in-Err-Cut-clause-goes g c = record { size = same-size c.args.self.now.map.memory c.renew_part.new.map.memory c.renew_part.ensures.size; cuts = refuses-cuts _ c.args.self.now.map c.renew_part.new.map (refuses-plainly _ c.args.self.now.map c.renew_part.new.map c.in-Err-Cut.ensures.ends); slows = refuses-slows _ c.args.self.now.map c.renew_part.new.map (refuses-plainly _ c.args.self.now.map c.renew_part.new.map c.in-Err-Cut.ensures.ends) }

pub returns-in-Err-Slow-clause-goes : goal.returns-in-Err-Slow-clause-goes
returns-in-Err-Slow-clause-goes g c = record { size = same-size c.args.self.now.map.memory c.renew_part.new.map.memory c.renew_part.ensures.size; cuts = refuses-cuts _ c.args.self.now.map c.renew_part.new.map (refuses-plainly _ c.args.self.now.map c.renew_part.new.map c.in-Err-Slow.ensures.ends); slows = refuses-slows _ c.args.self.now.map c.renew_part.new.map (refuses-plainly _ c.args.self.now.map c.renew_part.new.map c.in-Err-Slow.ensures.ends) }

pub returns-in-Ok-clause-contents : goal.returns-in-Ok-clause-contents
returns-in-Ok-clause-contents g c sound = contents-keeps c.args.self.now.map.memory c.renew_part.new.map.memory c.in-Ok.ensures.ok (c.args.self.now.clean sound c.in-Ok.ensures.ends.ready.1)

pub returns-in-Err-Cut-clause-contents : goal.returns-in-Err-Cut-clause-contents
returns-in-Err-Cut-clause-contents g c sound = contents-keeps c.args.self.now.map.memory c.renew_part.new.map.memory (c.renew_part.ensures.cut (c.in-Err-Cut.is ∙ ap Err c.in-Err-Cut.field-0-is))
    (c.args.self.now.clean sound (subst (λ e. RefusesFirmly e c.args.self.now.map c.renew_part.new.map) c.in-Err-Cut.field-0-is c.in-Err-Cut.ensures.ends).first.0)

pub returns-in-Err-Cut-clause-firmly : goal.returns-in-Err-Cut-clause-firmly
returns-in-Err-Cut-clause-firmly g c firm cuts slows cut ready sound = c.renew_part.ensures.firmly firm cuts slows (c.in-Err-Cut.is ∙ ap Err c.in-Err-Cut.field-0-is) (c.args.self.now.clean sound ready.1) (c.args.self.now.named slows).1

pub returns-in-Err-Cut-clause-counts : goal.returns-in-Err-Cut-clause-counts
returns-in-Err-Cut-clause-counts g c = (subst (λ e. RefusesFirmly e c.args.self.now.map c.renew_part.new.map) c.in-Err-Cut.field-0-is c.in-Err-Cut.ensures.ends).fails.1

pub returns-in-Err-Slow-clause-counts : goal.returns-in-Err-Slow-clause-counts
returns-in-Err-Slow-clause-counts g c = (subst (λ e. RefusesFirmly e c.args.self.now.map c.renew_part.new.map) c.in-Err-Slow.field-0-is c.in-Err-Slow.ensures.ends).fails.1
