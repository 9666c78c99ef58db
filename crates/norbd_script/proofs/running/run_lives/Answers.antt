use Rattle.std.proofs.Common.{length, ap}
use Rattle.restored_disk.specs.Lives.{Lived}
use Rattle.norbd_script.specs.Lives.{OnBus}
use Rattle.norbd_script.specs.NextLife.{found}
use Rattle.norbd_script.proofs.Chain.{ran_ok, ran_err, ran_nothing}
use Rattle.norbd_script.proofs.NextLife.{at-end, back-as, counts-of, given-back}
use Rattle.norbd_script.proofs.running.run_lives.Goals as goal

pub returns-in-Ok-run_script-clause-says : goal.returns-in-Ok-run_script-clause-says
returns-in-Ok-run_script-clause-says g c quiet known =
    let back = c.into_inner-in-Ok-run_script.result in
    let e = c.into_inner-in-Ok-run_script.ensures in
    let f = c.args.disk.facts in
    let d = c.into_inner.result in
    let p = g.L.Provenance.slows in
    let firm = g.L.Provenance.firm in
    let draws = g.B.PowerCycle.draw in
    let life = length back.lives.items in
    let chip = found (draws life) (g.B.SpiBus.chip back.bus) in
    let new : OnBus = record { chip = chip; cuts = d.facts.cuts; slows = g.B.SpiBus.slows back.bus } in
    let left = at-end firm draws life d.lives p (g.B.SpiBus.slows back.bus) d.refused back.mounted d.facts (g.B.SpiBus.chip back.bus) e.slow e.slows quiet e.mounted known e.lives e.idle e.accepted e.found in
    let back-facts = given-back firm d.facts p chip (g.B.SpiBus.slows back.bus) e.slows left in (
      d.facts.cuts,
      counts-of firm g.B.SpiBus.cuts back.lives.items (g.B.SpiBus.cuts back.bus) d.lives d.refused back.mounted d.facts e.ended e.lives e.first e.mounted known e.told e.cuts,
      record { runs = ran_ok f p c.in-Ok.station c.run_script.new.self new c.requires.sound c.requires.ready c.in-Ok.ensures.new c.run_script.ensures.goes (back-as _ d.facts p new c.into_inner.ensures back-facts) _ _ _ _ c.in-Ok-run_script.ensures.says; fit = left.fit },
    )

pub returns-in-Err-run_script-clause-says : goal.returns-in-Err-run_script-clause-says
returns-in-Err-run_script-clause-says g c quiet known =
    let back = c.into_inner-in-Err-run_script-2.result in
    let e = c.into_inner-in-Err-run_script-2.ensures in
    let f = c.args.disk.facts in
    let d = c.into_inner-in-Err-run_script.result in
    let p = g.L.Provenance.slows in
    let firm = g.L.Provenance.firm in
    let draws = g.B.PowerCycle.draw in
    let life = length back.lives.items in
    let chip = found (draws life) (g.B.SpiBus.chip back.bus) in
    let new : OnBus = record { chip = chip; cuts = d.facts.cuts; slows = g.B.SpiBus.slows back.bus } in
    let left = at-end firm draws life d.lives p (g.B.SpiBus.slows back.bus) d.refused back.mounted d.facts (g.B.SpiBus.chip back.bus) e.slow e.slows quiet e.mounted known e.lives e.idle e.accepted e.found in
    let back-facts = given-back firm d.facts p chip (g.B.SpiBus.slows back.bus) e.slows left in (
      d.facts.cuts,
      counts-of firm g.B.SpiBus.cuts back.lives.items (g.B.SpiBus.cuts back.bus) d.lives d.refused back.mounted d.facts e.ended e.lives e.first e.mounted known e.told e.cuts,
      record { runs = ran_err f p c.in-Ok.station c.run_script.new.self new c.requires.sound c.requires.ready c.in-Ok.ensures.new c.run_script.ensures.goes (back-as _ d.facts p new c.into_inner-in-Err-run_script.ensures back-facts) _ _ _ _ c.in-Err-run_script.fault c.in-Err-run_script.ensures.says; fit = left.fit },
    )

pub returns-in-Err-clause-says : goal.returns-in-Err-clause-says
returns-in-Err-clause-says g c quiet known =
    let back = c.into_inner-in-Err.result in
    let e = c.into_inner-in-Err.ensures in
    let f = c.args.disk.facts in
    let d = c.in-Err.disk in
    let p = g.L.Provenance.slows in
    let firm = g.L.Provenance.firm in
    let draws = g.B.PowerCycle.draw in
    let life = length back.lives.items in
    let chip = found (draws life) (g.B.SpiBus.chip back.bus) in
    let new : OnBus = record { chip = chip; cuts = d.facts.cuts; slows = g.B.SpiBus.slows back.bus } in
    let left = at-end firm draws life d.lives p (g.B.SpiBus.slows back.bus) d.refused back.mounted d.facts (g.B.SpiBus.chip back.bus) e.slow e.slows quiet e.mounted known e.lives e.idle e.accepted e.found in
    let back-facts = given-back firm d.facts p chip (g.B.SpiBus.slows back.bus) e.slows left in (
      d.facts.cuts,
      counts-of firm g.B.SpiBus.cuts back.lives.items (g.B.SpiBus.cuts back.bus) d.lives d.refused back.mounted d.facts e.ended e.lives e.first e.mounted known e.told e.cuts,
      record { runs = ran_nothing f p new _ _ c.requires.sound c.requires.ready (back-as f d.facts p new (ap (λ (x : Lived). x.facts) c.in-Err.ensures.back) back-facts); fit = left.fit },
    )
