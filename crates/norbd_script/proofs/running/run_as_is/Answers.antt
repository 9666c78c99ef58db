use Rattle.std.proofs.Common.{ap, ◌∙◌}
use Rattle.block_device.specs.Facts.{Facts}
use Rattle.norbd_script.specs.Lives.{OnBus}
use Rattle.restored_disk.specs.Lives.{disk_facts}
use Rattle.norbd_script.proofs.Chain.{ran_ok, ran_err, ran_nothing}
use Rattle.norbd_script.proofs.running.run_as_is.Goals as goal

pub returns-in-Ok-run_script-clause-says : goal.returns-in-Ok-run_script-clause-says
returns-in-Ok-run_script-clause-says g c =
    let same = c.into_inner.ensures in
    let e = c.into_inner-in-Ok-run_script.ensures in
    let bus = c.into_inner-in-Ok-run_script.result in
    let new : OnBus = record { chip = g.B.SpiBus.chip bus; cuts = g.B.SpiBus.cuts bus; slows = g.B.SpiBus.slows bus } in
    ran_ok _ g.P.Provenance.slows c.in-Ok.station c.run_script.new.self new c.requires.sound c.requires.ready c.in-Ok.ensures.new c.run_script.ensures.goes
    (record {
      contents = e.contents ∙ ap (λ (x : Facts). x.contents) same;
      cuts = e.cuts ∙ ap (λ (x : Facts). x.cuts) same;
      slow_count = e.slows ∙ ap (λ (x : Facts). x.slows) same;
      accepted = e.accepted;
      idle = λ q. e.idle (ap (λ (x : Facts). x.slow) same ∙ q);
      clean = λ q s. e.clean (ap (λ (x : Facts). x.slow) same ∙ q) (ap (λ (x : Facts). x.sound) same ∙ s);
      mountable = λ q. e.mountable (ap (λ (x : Facts). x.slows) same ∙ q);
    }) _ _ _ _ c.in-Ok-run_script.ensures.says

pub returns-in-Err-run_script-clause-says : goal.returns-in-Err-run_script-clause-says
returns-in-Err-run_script-clause-says g c =
    let same = c.into_inner-in-Err-run_script.ensures in
    let e = c.into_inner-in-Err-run_script-2.ensures in
    let bus = c.into_inner-in-Err-run_script-2.result in
    let new : OnBus = record { chip = g.B.SpiBus.chip bus; cuts = g.B.SpiBus.cuts bus; slows = g.B.SpiBus.slows bus } in
    ran_err _ g.P.Provenance.slows c.in-Ok.station c.run_script.new.self new c.requires.sound c.requires.ready c.in-Ok.ensures.new c.run_script.ensures.goes
    (record {
      contents = e.contents ∙ ap (λ (x : Facts). x.contents) same;
      cuts = e.cuts ∙ ap (λ (x : Facts). x.cuts) same;
      slow_count = e.slows ∙ ap (λ (x : Facts). x.slows) same;
      accepted = e.accepted;
      idle = λ q. e.idle (ap (λ (x : Facts). x.slow) same ∙ q);
      clean = λ q s. e.clean (ap (λ (x : Facts). x.slow) same ∙ q) (ap (λ (x : Facts). x.sound) same ∙ s);
      mountable = λ q. e.mountable (ap (λ (x : Facts). x.slows) same ∙ q);
    }) _ _ _ _ c.in-Err-run_script.error c.in-Err-run_script.ensures.says

pub returns-in-Err-clause-says : goal.returns-in-Err-clause-says
returns-in-Err-clause-says g c =
    let d = c.args.disk in
    let f = disk_facts g.P.Provenance.sound d.checked d.doubtful d.lazy d.map d.cut in
    let same = ap (λ x. disk_facts g.P.Provenance.sound x.checked x.doubtful x.lazy x.map x.cut) c.in-Err.ensures.back in
    let e = c.into_inner-in-Err.ensures in
    let bus = c.into_inner-in-Err.result in
    let new : OnBus = record { chip = g.B.SpiBus.chip bus; cuts = g.B.SpiBus.cuts bus; slows = g.B.SpiBus.slows bus } in
    ran_nothing f g.P.Provenance.slows new _ _ c.requires.sound c.requires.ready
    (record {
      contents = e.contents ∙ ap (λ (x : Facts). x.contents) same;
      cuts = e.cuts ∙ ap (λ (x : Facts). x.cuts) same;
      slow_count = e.slows ∙ ap (λ (x : Facts). x.slows) same;
      accepted = e.accepted;
      idle = λ q. e.idle (ap (λ (x : Facts). x.slow) same ∙ q);
      clean = λ q s. e.clean (ap (λ (x : Facts). x.slow) same ∙ q) (ap (λ (x : Facts). x.sound) same ∙ s);
      mountable = λ q. e.mountable (ap (λ (x : Facts). x.slows) same ∙ q);
    })
