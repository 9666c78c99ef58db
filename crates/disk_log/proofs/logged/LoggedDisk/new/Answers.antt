use Rattle.std.proofs.Common.{◌∙◌, ap, length, List, ℕ}
use Rattle.std.specs.Prelude.{◌/◌}
use Rattle.disk_log.specs.Power.{IsInOrder}
use Rattle.disk_log.proofs.Disks.{of-files, kept-of, held-of, sectors-of, begun-of}
use Rattle.disk_log.proofs.logged.LoggedDisk.new.Goals as goal

pub invariant_of-result : goal.invariant_of-result
invariant_of-result g c =
    let same = held-of g.D.ImageDisk.represents (length (g.D.Disk.facts c.args.disk).contents / 512) (g.D.Disk.facts c.args.disk).contents c.args.image.items c.args.sum (g.F.ImageFiles.medium c.args.files) c.requires.files in
    record {
      few = c.sectors.type_inv;
      len = c.requires.len;
      size = c.sectors.ensures;
      told = ap (λ (v : List ℕ). length v) same ∙ c.sectors.ensures;
      ready = λ e. c.requires.ready;
      counted = λ r m e. sectors-of g.D.ImageDisk.represents 0 (g.D.Disk.facts c.args.disk).contents c.args.image.items c.args.sum (g.F.ImageFiles.medium c.args.files) c.sectors.result c.requires.files c.sectors.ensures m e;
      begun = λ r m e. begun-of g.D.ImageDisk.represents (length (g.D.Disk.facts c.args.disk).contents / 512) (g.D.Disk.facts c.args.disk).contents c.args.image.items c.args.sum (g.F.ImageFiles.medium c.args.files) c.requires.files m e;
      same = λ r s. same;
      kept = λ s. of-files (λ m. IsInOrder g.D.ImageDisk.represents m) (g.F.ImageFiles.medium c.args.files) (kept-of g.D.ImageDisk.represents (length (g.D.Disk.facts c.args.disk).contents / 512) (g.D.Disk.facts c.args.disk).contents c.args.image.items c.args.sum (g.F.ImageFiles.medium c.args.files) c.requires.files);
    }
