use Rattle.std.proofs.Common.{◌≡◌, ◌∙◌, length, arith}
use Rattle.norbd_run.proofs.Differing.{disk-differing-few, disk-few, disk-same, disk-whole}
use Rattle.norbd_run.proofs.against.differing_of.Goals as goal

pub differing_sectors-requires-clause-whole : goal.differing_sectors-requires-clause-whole
differing_sectors-requires-clause-whole c = disk-whole c.as_slice.result.now c.args.image.items (c.as_slice.ensures.value ∙ c.in_ok-these.ensures.bytes)

pub differing_sectors-requires-clause-same : goal.differing_sectors-requires-clause-same
differing_sectors-requires-clause-same c =
    let one : length c.args.image.items ≡ length c.args.dump.items = omega (arith, c.if-len.false, c.len.ensures, c.len-2.ensures) in
    disk-same c.as_slice.result.now c.as_slice-2.result.now c.args.image.items c.args.dump.items
    (c.as_slice.ensures.value ∙ c.in_ok-these.ensures.bytes) (c.as_slice-2.ensures.value ∙ c.in_ok-those.ensures.bytes) one

pub differing_sectors-requires-clause-few : goal.differing_sectors-requires-clause-few
differing_sectors-requires-clause-few c = disk-few c.as_slice.result.now c.args.image.items (c.as_slice.ensures.value ∙ c.in_ok-these.ensures.bytes) c.requires.size

pub returns-in-Ok-clause-few : goal.returns-in-Ok-clause-few
returns-in-Ok-clause-few c =
    disk-differing-few c.as_slice.result.now c.args.image.items c.as_slice-2.result.now c.in-Ok.numbers.items
    (c.as_slice.ensures.value ∙ c.in_ok-these.ensures.bytes) c.requires.size c.in-Ok.ensures
