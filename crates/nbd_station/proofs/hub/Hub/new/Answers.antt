use Rattle.std.proofs.Common.{◌≡◌, ◌*◌, refl, ◌∙◌, ap, sym, replicate, false, length}
use Rattle.nbd_wire.specs.declared.export.Export.{Export}
use Rattle.nbd_wire.specs.Commands.{default_export}
use Rattle.nbd_station.proofs.Moving.{station}
use Rattle.nbd_station.proofs.Ending.{is_new}
use Rattle.nbd_station.proofs.hub.Hub.new.Goals as goal

pub returns-clause-new : goal.returns-clause-new
returns-clause-new g c =
    let sessions = c.in-Ok.sessions in
    let eight : length sessions.items ≡ 8 = sym sessions.ok.0 ∙ c.in-Ok.ensures.eight in
    let export = c.default_for-export.result in
    let made : export ≡ default_export c.sectors.result = c.default_for-export.ensures in
    let counted = ap (λ (e : Export). 512 * e.sectors) (sym made) in
    let served : export ≡ default_export export.sectors = made ∙ ap (λ (e : Export). default_export e.sectors) (sym made) in
    is_new (g.D.Disk.facts c.args.disk) (station (g.D.Disk.facts c.has_power-power.new.disk) export c.has_power-power.result sessions.items (replicate 8 false))
    c.has_power-power.ensures.facts (c.sectors.ensures ∙ counted) served c.has_power-power.ensures.power eight refl
