use Rattle.std.proofs.Common.{◌∙◌, false, rules}
use Rattle.norbd_script.specs.Lives.{OnBus}
use Rattle.restored_disk.specs.Lives.{disk_facts}
use Rattle.norbd_script.proofs.Staying.{check_ok, check_cut, checked-by, cut_in_check, not_clean, refused_mount, run_checked}
use Rattle.norbd_script.proofs.running.run_checked.Goals as goal

pub returns-in-Ok-true-clause-says : goal.returns-in-Ok-true-clause-says
returns-in-Ok-true-clause-says g c =
    let old : OnBus = record { chip = g.B.SpiBus.chip c.args.bus; cuts = g.B.SpiBus.cuts c.args.bus; slows = g.B.SpiBus.slows c.args.bus } in
    let bus = c.run_on.result.0 in
    let new : OnBus = record { chip = g.B.SpiBus.chip bus; cuts = g.B.SpiBus.cuts bus; slows = g.B.SpiBus.slows bus } in
    let d = c.in-Ok.disk in
    let d' = c.check.new.self in
    let f0 = disk_facts g.P.Provenance.sound d.checked d.doubtful d.lazy d.map d.cut in
    let f = disk_facts g.P.Provenance.sound d'.checked d'.doubtful d'.lazy d'.map d'.cut in
    let m = d.map.memory in
    let o = c.in-Ok.ensures.opened in
    let k = checked-by old m g.P.Provenance.sound f0 f o c.in-Ok.ensures.from c.in-Ok.ensures.accepted c.in-Ok.ensures.keeps c.check.ensures.goes.cuts c.check.ensures.goes.slows c.check.ensures.contents in
    let n = c.in-Ok-true.ensures.counts in
    run_checked old new m f g.P.Provenance.slows _ k (n.0 ∙ o.cuts_are) (n.1 ∙ o.slows_are) c.requires.counted c.run_on.ensures.past c.run_on.ensures.says

pub returns-in-Ok-false-clause-says : goal.returns-in-Ok-false-clause-says
returns-in-Ok-false-clause-says g c =
    let old : OnBus = record { chip = g.B.SpiBus.chip c.args.bus; cuts = g.B.SpiBus.cuts c.args.bus; slows = g.B.SpiBus.slows c.args.bus } in
    let bus = c.into_inner.result in
    let new : OnBus = record { chip = g.B.SpiBus.chip bus; cuts = g.B.SpiBus.cuts bus; slows = g.B.SpiBus.slows bus } in
    let d = c.in-Ok.disk in
    let d' = c.check.new.self in
    let f0 = disk_facts g.P.Provenance.sound d.checked d.doubtful d.lazy d.map d.cut in
    let f = disk_facts g.P.Provenance.sound d'.checked d'.doubtful d'.lazy d'.map d'.cut in
    let m = d.map.memory in
    let o = c.in-Ok.ensures.opened in
    let e = c.into_inner.ensures in
    let k = checked-by old m g.P.Provenance.sound f0 f o c.in-Ok.ensures.from c.in-Ok.ensures.accepted c.in-Ok.ensures.keeps c.check.ensures.goes.cuts c.check.ensures.goes.slows c.check.ensures.contents in
    let n = c.in-Ok-false.ensures.counts in
    not_clean old new m f g.P.Provenance.slows _ _ k (record { contents = e.contents; cuts = e.cuts; slow_count = e.slows; accepted = e.accepted; idle = e.idle; clean = e.clean; mountable = e.mountable }) (e.memory ∙ c.check.ensures.same) (n.0 ∙ o.cuts_are) (n.1 ∙ o.slows_are) (check_ok false f0 f c.in-Ok-false.ensures.latches) (c.in-Ok-false.ensures.not_clean (search rules))

pub returns-in-Err-Cut-clause-says : goal.returns-in-Err-Cut-clause-says
returns-in-Err-Cut-clause-says g c =
    let old : OnBus = record { chip = g.B.SpiBus.chip c.args.bus; cuts = g.B.SpiBus.cuts c.args.bus; slows = g.B.SpiBus.slows c.args.bus } in
    let bus = c.into_inner-in-Err-Cut.result in
    let new : OnBus = record { chip = g.B.SpiBus.chip bus; cuts = g.B.SpiBus.cuts bus; slows = g.B.SpiBus.slows bus } in
    let d = c.in-Ok.disk in
    let d' = c.check.new.self in
    let f0 = disk_facts g.P.Provenance.sound d.checked d.doubtful d.lazy d.map d.cut in
    let f = disk_facts g.P.Provenance.sound d'.checked d'.doubtful d'.lazy d'.map d'.cut in
    let m = d.map.memory in
    let o = c.in-Ok.ensures.opened in
    let e = c.into_inner-in-Err-Cut.ensures in
    let k = checked-by old m g.P.Provenance.sound f0 f o c.in-Ok.ensures.from c.in-Ok.ensures.accepted c.in-Ok.ensures.keeps c.check.ensures.goes.cuts c.check.ensures.goes.slows c.check.ensures.contents in
    let x = check_cut _ f0 f old.cuts c.in-Err-Cut.field-0-is c.in-Err-Cut.ensures.latches c.in-Err-Cut.ensures.counts o.ready o.cuts_are in
    cut_in_check old new m f g.P.Provenance.slows _ _ k (record { contents = e.contents; cuts = e.cuts; slow_count = e.slows; accepted = e.accepted; idle = e.idle; clean = e.clean; mountable = e.mountable }) (e.memory ∙ c.check.ensures.same) x.0 (x.1 ∙ o.slows_are) x.2

pub returns-in-Err-clause-says : goal.returns-in-Err-clause-says
returns-in-Err-clause-says g c =
    let old : OnBus = record { chip = g.B.SpiBus.chip c.args.bus; cuts = g.B.SpiBus.cuts c.args.bus; slows = g.B.SpiBus.slows c.args.bus } in
    let new : OnBus = record { chip = g.B.SpiBus.chip c.in-Err.back; cuts = g.B.SpiBus.cuts c.in-Err.back; slows = g.B.SpiBus.slows c.in-Err.back } in
    let e = c.in-Err.ensures in
    refused_mount c.in-Err.error old new _ _ e.refused e.left e.told e.idle e.stays
