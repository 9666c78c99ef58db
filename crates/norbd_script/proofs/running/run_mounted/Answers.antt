use Rattle.std.proofs.Common.{◌≡◌, ◌≤◌, ◌∙◌, false, length, sym, arith, rules}
use Rattle.norbd_script.specs.Lives.{OnBus}
use Rattle.restored_disk.specs.Lives.{disk_facts}
use Rattle.norbd_script.specs.NextLife.{found}
use Rattle.norbd_script.proofs.Staying.{check_ok, check_cut, check_slow, checked-by, cut_in_check, not_clean, refused_mount, run_checked, slow_in_check}
use Rattle.norbd_script.proofs.running.run_mounted.Goals as goal

pub returns-in-Ok-true-clause-says : goal.returns-in-Ok-true-clause-says
returns-in-Ok-true-clause-says g c past quiet known =
    let old : OnBus = record { chip = g.B.SpiBus.chip c.args.bus; cuts = g.B.SpiBus.cuts c.args.bus; slows = g.B.SpiBus.slows c.args.bus } in
    let back = c.run_lives.result.0 in
    let d = c.in-Ok.disk in
    let f0 = disk_facts g.L.Provenance.sound d.checked d.doubtful d.lazy d.map d.cut in
    let f = c.new.result.facts in
    let n = c.new.ensures in
    let m = d.map.memory in
    let e = c.in-Ok.ensures in
    let o = e.opened in
    let cuts : f.cuts ≡ old.cuts = n.counts.0 ∙ sym c.requires.cuts.1 in
    let slows : f.slows ≡ old.slows = n.counts.1 ∙ c.requires.slows in
    let more-cuts : f0.cuts ≤ f.cuts = (let x = o.cuts_are in omega (arith, x, cuts)) in
    let more-slows : f0.slows ≤ f.slows = (let x = o.slows_are in omega (arith, x, slows)) in
    let k = checked-by old m g.L.Provenance.sound f0 f o e.from e.accepted e.keeps more-cuts more-slows (n.contents ∙ c.check.ensures.contents) in
    let r = c.run_lives.ensures.says (quiet ∙ sym c.requires.slows) known in
    let new : OnBus = record { chip = found (g.B.PowerCycle.draw (length back.lives.items)) (g.B.SpiBus.chip back.bus); cuts = r.0; slows = g.B.SpiBus.slows back.bus } in
    (r.0, r.1, record { runs = run_checked old new m f g.L.Provenance.slows _ k cuts slows c.requires.slows past r.2.runs; fit = r.2.fit })

pub returns-in-Ok-false-clause-refused : goal.returns-in-Ok-false-clause-refused
returns-in-Ok-false-clause-refused g c past =
    let old : OnBus = record { chip = g.B.SpiBus.chip c.args.bus; cuts = g.B.SpiBus.cuts c.args.bus; slows = g.B.SpiBus.slows c.args.bus } in
    let bus = c.into_inner.result in
    let new : OnBus = record { chip = g.B.SpiBus.chip bus; cuts = g.B.SpiBus.cuts bus; slows = g.B.SpiBus.slows bus } in
    let d = c.in-Ok.disk in
    let d' = c.check.new.self in
    let f0 = disk_facts g.L.Provenance.sound d.checked d.doubtful d.lazy d.map d.cut in
    let f = disk_facts g.L.Provenance.sound d'.checked d'.doubtful d'.lazy d'.map d'.cut in
    let m = d.map.memory in
    let o = c.in-Ok.ensures.opened in
    let e = c.into_inner.ensures in
    let k = checked-by old m g.L.Provenance.sound f0 f o c.in-Ok.ensures.from c.in-Ok.ensures.accepted c.in-Ok.ensures.keeps c.check.ensures.goes.cuts c.check.ensures.goes.slows c.check.ensures.contents in
    let n = c.in-Ok-false.ensures.counts in
    rw c.first-in-Ok-false.ensures.bus
    (not_clean old new m f g.L.Provenance.slows _ _ k (record { contents = e.contents; cuts = e.cuts; slow_count = e.slows; accepted = e.accepted; idle = e.idle; clean = e.clean; mountable = e.mountable }) (e.memory ∙ c.check.ensures.same) (n.0 ∙ o.cuts_are) (n.1 ∙ o.slows_are) (check_ok false f0 f c.in-Ok-false.ensures.latches) (c.in-Ok-false.ensures.not_clean (search rules)))

pub returns-in-Err-Cut-clause-refused : goal.returns-in-Err-Cut-clause-refused
returns-in-Err-Cut-clause-refused g c past =
    let old : OnBus = record { chip = g.B.SpiBus.chip c.args.bus; cuts = g.B.SpiBus.cuts c.args.bus; slows = g.B.SpiBus.slows c.args.bus } in
    let bus = c.into_inner-in-Err-Cut.result in
    let new : OnBus = record { chip = g.B.SpiBus.chip bus; cuts = g.B.SpiBus.cuts bus; slows = g.B.SpiBus.slows bus } in
    let d = c.in-Ok.disk in
    let d' = c.check.new.self in
    let f0 = disk_facts g.L.Provenance.sound d.checked d.doubtful d.lazy d.map d.cut in
    let f = disk_facts g.L.Provenance.sound d'.checked d'.doubtful d'.lazy d'.map d'.cut in
    let m = d.map.memory in
    let o = c.in-Ok.ensures.opened in
    let e = c.into_inner-in-Err-Cut.ensures in
    let k = checked-by old m g.L.Provenance.sound f0 f o c.in-Ok.ensures.from c.in-Ok.ensures.accepted c.in-Ok.ensures.keeps c.check.ensures.goes.cuts c.check.ensures.goes.slows c.check.ensures.contents in
    let x = check_cut _ f0 f old.cuts c.in-Err-Cut.field-0-is c.in-Err-Cut.ensures.latches c.in-Err-Cut.ensures.counts o.ready o.cuts_are in
    rw c.first-in-Err-Cut.ensures.bus
    (cut_in_check old new m f g.L.Provenance.slows _ _ k (record { contents = e.contents; cuts = e.cuts; slow_count = e.slows; accepted = e.accepted; idle = e.idle; clean = e.clean; mountable = e.mountable }) (e.memory ∙ c.check.ensures.same) x.0 (x.1 ∙ o.slows_are) x.2)

pub returns-clause-refused : goal.returns-clause-refused
returns-clause-refused g c past =
    let old : OnBus = record { chip = g.B.SpiBus.chip c.args.bus; cuts = g.B.SpiBus.cuts c.args.bus; slows = g.B.SpiBus.slows c.args.bus } in
    let bus = c.into_inner-in-Err-Slow.result in
    let new : OnBus = record { chip = g.B.SpiBus.chip bus; cuts = g.B.SpiBus.cuts bus; slows = g.B.SpiBus.slows bus } in
    let d = c.in-Ok.disk in
    let d' = c.check.new.self in
    let f0 = disk_facts g.L.Provenance.sound d.checked d.doubtful d.lazy d.map d.cut in
    let f = disk_facts g.L.Provenance.sound d'.checked d'.doubtful d'.lazy d'.map d'.cut in
    let m = d.map.memory in
    let o = c.in-Ok.ensures.opened in
    let e = c.into_inner-in-Err-Slow.ensures in
    let k = checked-by old m g.L.Provenance.sound f0 f o c.in-Ok.ensures.from c.in-Ok.ensures.accepted c.in-Ok.ensures.keeps c.check.ensures.goes.cuts c.check.ensures.goes.slows c.check.ensures.contents in
    let x = check_slow _ f0 f old.slows c.in-Err-Slow.field-0-is c.in-Err-Slow.ensures.latches c.in-Err-Slow.ensures.counts o.ready o.slows_are in
    rw c.first-in-Err-Slow.ensures.bus
    (slow_in_check old new m f g.L.Provenance.slows _ _ k (record { contents = e.contents; cuts = e.cuts; slow_count = e.slows; accepted = e.accepted; idle = e.idle; clean = e.clean; mountable = e.mountable }) (e.memory ∙ c.check.ensures.same) (x.0 ∙ o.cuts_are) x.1)

pub returns-in-Err-clause-refused : goal.returns-in-Err-clause-refused
returns-in-Err-clause-refused g c past =
    let old : OnBus = record { chip = g.B.SpiBus.chip c.args.bus; cuts = g.B.SpiBus.cuts c.args.bus; slows = g.B.SpiBus.slows c.args.bus } in
    let new : OnBus = record { chip = g.B.SpiBus.chip c.in-Err.bus; cuts = g.B.SpiBus.cuts c.in-Err.bus; slows = g.B.SpiBus.slows c.in-Err.bus } in
    let e = c.in-Err.ensures in
    rw c.first.ensures.bus (refused_mount c.in-Err.error old new _ _ e.refused e.left e.told e.idle e.stays)
