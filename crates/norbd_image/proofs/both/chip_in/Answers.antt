use Rattle.std.proofs.Common.{◌≡◌, ◌∙◌, Ok, Err, true, false, arith, ap, subst, length, ◌++◌, [], take, drop}
use Rattle.chip_model.specs.Geometry.{sector_count}
use Rattle.flash_disk.specs.Contents.{contents_of}
use Rattle.disk_log.specs.Checkpoints.{placed_in}
use Rattle.disk_log.specs.Logs.{has_checkpoint, log_changes}
use Rattle.disk_log.specs.Reading.{ReadsLog}
use Rattle.norbd_image.specs.Both.{ReplayFails, with_changes}
use Rattle.norbd_image.proofs.Holding.{whole-slice, nothing-holds, placed-holds, changed-holds, own-of, read-as, refused-of, replay-refused}
use Rattle.norbd_image.proofs.both.chip_in.Goals as goal

pub returns-in-Ok-Nothing-clause-holds : goal.returns-in-Ok-Nothing-clause-holds
returns-in-Ok-Nothing-clause-holds c =
    let r = subst (λ f. ReadsLog c.sectors_of.result c.args.log.now c.as_mut_slice.result.now (Ok f) c.read_log.new.image) c.in-Ok-Nothing.field-0-is c.in-Ok-Nothing.ensures in
    let n : c.sectors_of.result ≡ sector_count (length c.args.image.items) = c.sectors_of.ensures ∙ ap (λ v. sector_count (length v)) c.as_slice.ensures.value in
    let is : c.read_log.new.image ≡ c.args.image.items = r.3 ∙ c.as_mut_slice.ensures.value in
    let e = c.as_mut_slice.ensures.len in
    let f = ap length c.as_mut_slice.ensures.value in
    ap contents_of (whole-slice c.args.image.len c.read_log.new.image c.args.image.items (ap length is) (omega (arith, e, f)) ∙ is)
    ∙ nothing-holds (sector_count (length c.args.image.items)) c.args.image.items c.args.log.now (subst (λ k. (log_changes k c.args.log.now).changes ≡ []) n r.1)
    (subst (λ k. has_checkpoint k c.args.log.now ≡ false) n r.2)

pub returns-in-Ok-Checkpoint-clause-holds : goal.returns-in-Ok-Checkpoint-clause-holds
returns-in-Ok-Checkpoint-clause-holds c =
    let r = subst (λ f. ReadsLog c.sectors_of.result c.args.log.now c.as_mut_slice.result.now (Ok f) c.read_log.new.image) c.in-Ok-Checkpoint.field-0-is c.in-Ok-Checkpoint.ensures in
    let n : c.sectors_of.result ≡ sector_count (length c.args.image.items) = c.sectors_of.ensures ∙ ap (λ v. sector_count (length v)) c.as_slice.ensures.value in
    let e = c.as_mut_slice.ensures.len in
    let f = ap length c.as_mut_slice.ensures.value in
    let l = c.read_log.auto.image in
    ap contents_of (whole-slice c.args.image.len c.read_log.new.image c.args.image.items (omega (arith, l, f)) (omega (arith, e, f)))
    ∙ placed-holds (sector_count (length c.args.image.items)) c.args.image.items c.args.log.now c.read_log.new.image
    (subst (λ k. has_checkpoint k c.args.log.now ≡ true) n r.0)
    (r.3 ∙ (ap (λ v. placed_in (log_changes c.sectors_of.result c.args.log.now).rest v) c.as_mut_slice.ensures.value
    ∙ ap (λ k. placed_in (log_changes k c.args.log.now).rest c.args.image.items) n))

pub returns-in-Ok-clause-holds : goal.returns-in-Ok-clause-holds
returns-in-Ok-clause-holds c =
    let r = subst (λ f. ReadsLog c.sectors_of.result c.args.log.now c.as_mut_slice.result.now (Ok f) c.read_log.new.image) c.in-Ok-Records.field-0-is c.in-Ok-Records.ensures in
    let n : c.sectors_of.result ≡ sector_count (length c.args.image.items) = c.sectors_of.ensures ∙ ap (λ v. sector_count (length v)) c.as_slice.ensures.value in
    let is : c.read_log.new.image ≡ c.args.image.items = r.6 ∙ c.as_mut_slice.ensures.value in
    let e = c.as_mut_slice.ensures.len in
    let f = ap length c.as_mut_slice.ensures.value in
    let same : take c.args.image.len (c.read_log.new.image ++ drop (length c.read_log.new.image) c.args.image.items) ≡ c.args.image.items =
    whole-slice c.args.image.len c.read_log.new.image c.args.image.items (ap length is) (omega (arith, e, f)) ∙ is in
    changed-holds (sector_count (length c.args.image.items)) c.args.image.items c.args.log.now _
    (subst (λ k. has_checkpoint k c.args.log.now ≡ false) n r.1)
    (ap contents_of c.into_inner-in-Ok.ensures ∙ (c.into_inner.ensures.contents ∙ (c.in-Ok.ensures.holds
    ∙ ap (λ v. with_changes (sector_count (length v)) c.args.log.now (contents_of v)) same)))

pub returns-in-Err-replayed-clause-refused : goal.returns-in-Err-replayed-clause-refused
returns-in-Err-replayed-clause-refused c =
    let r = subst (λ f. ReadsLog c.sectors_of.result c.args.log.now c.as_mut_slice.result.now (Ok f) c.read_log.new.image) c.in-Ok-Records.field-0-is c.in-Ok-Records.ensures in
    let n : c.sectors_of.result ≡ sector_count (length c.args.image.items) = c.sectors_of.ensures ∙ ap (λ v. sector_count (length v)) c.as_slice.ensures.value in
    let is : c.read_log.new.image ≡ c.args.image.items = r.6 ∙ c.as_mut_slice.ensures.value in
    let e = c.as_mut_slice.ensures.len in
    let f = ap length c.as_mut_slice.ensures.value in
    let same : take c.args.image.len (c.read_log.new.image ++ drop (length c.read_log.new.image) c.args.image.items) ≡ c.args.image.items =
    whole-slice c.args.image.len c.read_log.new.image c.args.image.items (ap length is) (omega (arith, e, f)) ∙ is in
    replay-refused (sector_count (length c.args.image.items)) c.args.image.items c.args.log.now c.in-Err-replayed.error
    (record {
      own = own-of (sector_count (length c.args.image.items)) c.args.image.items c.read_log.new.image c.args.log.now c.in-Ok-Records.field-0
          (read-as c.sectors_of.result (sector_count (length c.args.image.items)) c.args.log.now c.as_mut_slice.result.now c.args.image.items c.read_log.new.image (Ok c.in-Ok-Records.field-0) n c.as_mut_slice.ensures.value c.in-Ok-Records.ensures);
      none = subst (λ k. has_checkpoint k c.args.log.now ≡ false) n r.1;
    })
    (subst (λ v. ReplayFails v c.in-Err-replayed.error) same c.in-Err-replayed.ensures.refused)

pub returns-in-Err-clause-refused : goal.returns-in-Err-clause-refused
returns-in-Err-clause-refused c =
    let n : c.sectors_of.result ≡ sector_count (length c.args.image.items) = c.sectors_of.ensures ∙ ap (λ v. sector_count (length v)) c.as_slice.ensures.value in
    refused-of (sector_count (length c.args.image.items)) c.args.image.items c.read_log.new.image c.args.log.now c.in-Err.refusal _
    (read-as c.sectors_of.result (sector_count (length c.args.image.items)) c.args.log.now c.as_mut_slice.result.now c.args.image.items c.read_log.new.image (Err c.in-Err.refusal) n c.as_mut_slice.ensures.value c.in-Err.ensures) c.told_of_refusal.ensures
