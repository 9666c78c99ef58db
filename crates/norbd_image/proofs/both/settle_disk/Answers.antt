use Rattle.std.proofs.Common.{◌≡◌, ◌∙◌, Ok, Err, ap, sym, subst}
use Rattle.block_device.specs.Facts.{Facts}
use Rattle.norbd_image.specs.Both.{SettlesLog}
use Rattle.norbd_image.proofs.Holding.{settled-log, unsettled-log}
use Rattle.norbd_image.proofs.both.settle_disk.Goals.{in-Ok, in-Err}
use Rattle.norbd_image.proofs.both.settle_disk.Goals as goal

pub returns : goal.returns
returns g c =
    let medium = g.F.ImageFiles.medium in
    let facts = c.new-logged.ensures.facts in
    let same = c.settle.ensures.settled.contents (ap (λ (f : Facts). f.sound) facts ∙ c.requires.sound) ∙ ap (λ (f : Facts). f.contents) facts in
    let was = ap medium c.new-logged.ensures.files in
    let is = ap (λ v. medium v.1) c.into_parts-files.ensures.parts in
    let holds = c.into_parts-files.ensures.holds in
    elim c.match-settle.branch [
      | in-Ok w ↦ subst (λ v. SettlesLog {T = Unit {0}} (medium c.args.files) v (medium c.into_parts-files.result.1)) (sym w.settled-is)
          (settled-log _ _ (medium c.args.files) _ _ _ _ _ same was is holds _ _ w.in-Ok.ensures.alone)
      | in-Err w ↦ subst (λ v. SettlesLog {T = Unit {0}} (medium c.args.files) v (medium c.into_parts-files.result.1)) (sym w.settled-is)
          (unsettled-log _ _ (medium c.args.files) _ _ _ _ _ same was is holds _ _ w.in-Err.ensures.alone)
    ]
