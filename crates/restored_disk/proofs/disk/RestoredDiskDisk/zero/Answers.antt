use Rattle.std.proofs.Common.{◌≡◌, ◌*◌, List, ℕ, ap, subst, sym, ◌∙◌, length, replicate}
use Rattle.std.proofs.lemmas.List.{length-replicate}
use Rattle.block_device.specs.Contents.{InRange, Outcome, replaced}
use Rattle.block_device.specs.Facts.{Facts}
use Rattle.restored_disk.proofs.Resuming.{outcome_of, writes_again}
use Rattle.restored_disk.proofs.disk.RestoredDiskDisk.zero.Goals as goal

pub returns-in-Ok-resume-clause-contents : goal.returns-in-Ok-resume-clause-contents
returns-in-Ok-resume-clause-contents g c = λ sound.
    let facts = g.D.Disk.facts in
    let zeros : List ℕ = replicate (512 * c.args.count) 0 in
    let long : length zeros ≡ 512 * c.args.count = length-replicate (512 * c.args.count) 0 in
    let cut = c.in-Err-Cut.ensures in
    let up = c.in-Ok-resume.ensures in
    let sound_cut = cut.sound ∙ (ap (λ (f : Facts). f.sound) c.is_cut.ensures.facts ∙ sound) in
    let left = subst (λ (m : List ℕ). Outcome m (replaced m (512 * c.args.first) zeros) (facts c.zero.new.self).contents)
    (ap (λ (f : Facts). f.contents) c.is_cut.ensures.facts) (outcome_of (Unit {0}) c.args.first zeros (facts c.is_cut.new.self.disk).contents (facts c.zero.new.self).contents c.in-Err-Cut.field-0 c.in-Err-Cut.field-0-is (cut.contents (ap (λ (f : Facts). f.sound) c.is_cut.ensures.facts ∙ sound))) in
    writes_again c.sectors_decide_contents.ensures c.write_replaces_sectors.ensures c.sectors-sectors.result c.args.first c.args.count (facts c.args.self.now.disk).contents zeros
    (facts c.zero.new.self).contents (facts c.resume.new.self.disk).contents (facts c.zero-in-Ok-resume.new.self).contents c.zero-in-Ok-resume.result
    c.sectors-sectors.ensures long (subst (InRange (facts c.args.self.now.disk).contents c.args.first) (sym long) c.requires) left (up.contents sound_cut) (c.zero-in-Ok-resume.ensures.contents (up.sound ∙ sound_cut))
