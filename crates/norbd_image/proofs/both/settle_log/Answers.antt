use Rattle.std.proofs.Common.{◌≡◌, ◌∙◌, Ok, Err, arith, ap, sym, subst, length, ◌++◌, take, drop}
use Rattle.chip_model.specs.Geometry.{sector_count}
use Rattle.flash_disk.specs.Contents.{contents_of}
use Rattle.disk_log.specs.Files.{OfFiles}
use Rattle.disk_log.specs.Logged.{IsOfDisk}
use Rattle.disk_log.specs.Reading.{ReadsLog, TakesUp}
use Rattle.disk_log.specs.declared.reading.Found.TheVariants.{Nothing, Records, Checkpoint}
use Rattle.norbd_image.specs.Both.{with_changes}
use Rattle.norbd_image.proofs.Holding.{whole-slice, read-as, taken-up, checkpoint-alone, nothing-alone, settles-on, untouched, untaken}
use Rattle.norbd_image.proofs.both.settle_log.Goals as goal

pub returns-in-Ok-Nothing : goal.returns-in-Ok-Nothing
returns-in-Ok-Nothing g c =
    let r = subst (λ f. ReadsLog c.sectors_of-sectors.result c.args.log.now c.as_mut_slice.result.now (Ok f) c.read_log.new.image) c.in-Ok-Nothing.field-0-is c.in-Ok-Nothing.ensures in
    let n : c.sectors_of-sectors.result ≡ sector_count (length c.args.image.items) = c.sectors_of-sectors.ensures ∙ ap (λ v. sector_count (length v)) c.as_slice.ensures.value in
    untouched _ _ (sector_count (length c.args.image.items)) c.args.image.items c.read_log.new.image c.args.log.now _ c.requires.files (read-as c.sectors_of-sectors.result (sector_count (length c.args.image.items)) c.args.log.now c.as_mut_slice.result.now c.args.image.items c.read_log.new.image (Ok Nothing) n c.as_mut_slice.ensures.value r)

pub returns-in_default : goal.returns-in_default
returns-in_default g c = untaken _ _ _ _ _ _ _ c.in_default.ensures

pub returns-in-Records : goal.returns-in-Records
returns-in-Records g c = settles-on _ (sector_count (length c.args.image.items)) c.args.image.items _ c.args.log.now _ _ _ _ _ _ c.in-Ok-take_up.ensures c.settle_records.ensures

pub returns-in-Checkpoint : goal.returns-in-Checkpoint
returns-in-Checkpoint g c =
    let r = subst (λ f. ReadsLog c.sectors_of-sectors.result c.args.log.now c.as_mut_slice.result.now (Ok f) c.read_log.new.image) c.in-Checkpoint.is c.in-Ok.ensures in
    let n : c.sectors_of-sectors.result ≡ sector_count (length c.args.image.items) = c.sectors_of-sectors.ensures ∙ ap (λ v. sector_count (length v)) c.as_slice.ensures.value in
    let e = c.as_mut_slice.ensures.len in
    let f = ap length c.as_mut_slice.ensures.value in
    let l = c.read_log.auto.image in
    let whole = c.as_slice-2.ensures.value ∙ whole-slice c.args.image.len c.read_log.new.image c.args.image.items (omega (arith, l, f)) (omega (arith, e, f)) in
    checkpoint-alone _ (sector_count (length c.args.image.items)) c.args.image.items c.read_log.new.image c.args.log.now _ _ _ c.in-Checkpoint.at _ _ c.requires.files
    (read-as c.sectors_of-sectors.result (sector_count (length c.args.image.items)) c.args.log.now c.as_mut_slice.result.now c.args.image.items c.read_log.new.image (Ok (Checkpoint c.in-Checkpoint.at)) n c.as_mut_slice.ensures.value r)
    (subst (λ v. TakesUp (g.F.ImageFiles.medium c.args.files) v (Ok c.in-Ok-take_up.sum) (g.F.ImageFiles.medium c.take_up.new.files)) whole c.in-Ok-take_up.ensures)

pub returns-in-Nothing : goal.returns-in-Nothing
returns-in-Nothing g c =
    let r = subst (λ f. ReadsLog c.sectors_of-sectors.result c.args.log.now c.as_mut_slice.result.now (Ok f) c.read_log.new.image) c.in-Nothing.is c.in-Ok.ensures in
    let n : c.sectors_of-sectors.result ≡ sector_count (length c.args.image.items) = c.sectors_of-sectors.ensures ∙ ap (λ v. sector_count (length v)) c.as_slice.ensures.value in
    let e = c.as_mut_slice.ensures.len in
    let f = ap length c.as_mut_slice.ensures.value in
    let l = c.read_log.auto.image in
    let whole = c.as_slice-2.ensures.value ∙ whole-slice c.args.image.len c.read_log.new.image c.args.image.items (omega (arith, l, f)) (omega (arith, e, f)) in
    nothing-alone _ (sector_count (length c.args.image.items)) c.args.image.items c.read_log.new.image c.args.log.now _ _ _ _ _ c.requires.files
    (read-as c.sectors_of-sectors.result (sector_count (length c.args.image.items)) c.args.log.now c.as_mut_slice.result.now c.args.image.items c.read_log.new.image (Ok Nothing) n c.as_mut_slice.ensures.value r)
    (subst (λ v. TakesUp (g.F.ImageFiles.medium c.args.files) v (Ok c.in-Ok-take_up.sum) (g.F.ImageFiles.medium c.take_up.new.files)) whole c.in-Ok-take_up.ensures)

pub settle_records-requires-clause-files : goal.settle_records-requires-clause-files
settle_records-requires-clause-files g c =
    let r = subst (λ f. ReadsLog c.sectors_of-sectors.result c.args.log.now c.as_mut_slice.result.now (Ok f) c.read_log.new.image) c.in-Records.is c.in-Ok.ensures in
    let n : c.sectors_of-sectors.result ≡ sector_count (length c.args.image.items) = c.sectors_of-sectors.ensures ∙ ap (λ v. sector_count (length v)) c.as_slice.ensures.value in
    let e = c.as_mut_slice.ensures.len in
    let f = ap length c.as_mut_slice.ensures.value in
    let l = c.read_log.auto.image in
    let slice = whole-slice c.args.image.len c.read_log.new.image c.args.image.items (omega (arith, l, f)) (omega (arith, e, f)) in
    let same : take c.args.image.len (c.read_log.new.image ++ drop (length c.read_log.new.image) c.args.image.items) ≡ c.args.image.items = slice ∙ (r.6 ∙ c.as_mut_slice.ensures.value) in
    subst (λ v. OfFiles (g.F.ImageFiles.medium c.take_up.new.files)
    (λ m. IsOfDisk contents_of (sector_count (length v)) (with_changes (sector_count (length v)) c.args.log.now (contents_of v)) v c.in-Ok-take_up.sum m)) (sym same)
    (taken-up _ (sector_count (length c.args.image.items)) c.args.image.items c.read_log.new.image c.args.log.now c.in-Ok-take_up.sum c.in-Records.len c.in-Records.sum _ _ c.requires.files
    (read-as c.sectors_of-sectors.result (sector_count (length c.args.image.items)) c.args.log.now c.as_mut_slice.result.now c.args.image.items c.read_log.new.image (Ok (Records c.in-Records.len c.in-Records.sum)) n c.as_mut_slice.ensures.value r)
    (subst (λ v. TakesUp (g.F.ImageFiles.medium c.args.files) v (Ok c.in-Ok-take_up.sum) (g.F.ImageFiles.medium c.take_up.new.files)) (c.as_slice-2.ensures.value ∙ slice) c.in-Ok-take_up.ensures))
