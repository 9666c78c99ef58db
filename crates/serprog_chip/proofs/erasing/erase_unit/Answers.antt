use Rattle.std.proofs.Common.{◌∙◌, ap}
use Rattle.std.proofs.lemmas.Result.{on_ok_weaker, IfErr-weaker}
use Rattle.chip_model.specs.Chip.{Chip, completed, is_idle}
use Rattle.nor_driver.proofs.Shape.{IsErase, begins_small}
use Rattle.serprog_chip.proofs.Laws.{unit_stops}
use Rattle.serprog_chip.proofs.erasing.erase_unit.Goals as goal

pub change-requires-clause-running : goal.change-requires-clause-running
change-requires-clause-running g c =
    let p : IsErase (g.B.SpiBus.chip c.args.bus.now) c.deref.result.now c.args.at 32 4096 = record { unprotected = c.requires.open; range = c.requires.range; unit = c.requires.unit; frame = c.deref.ensures.0 ∙ c.erase_small.ensures } in
    ap (λ (d : Chip). is_idle d.operation) (begins_small _ _ _ p).is

pub change-requires-clause-fresh : goal.change-requires-clause-fresh
change-requires-clause-fresh g c =
    let p : IsErase (g.B.SpiBus.chip c.args.bus.now) c.deref.result.now c.args.at 32 4096 = record { unprotected = c.requires.open; range = c.requires.range; unit = c.requires.unit; frame = c.deref.ensures.0 ∙ c.erase_small.ensures } in
    ap (λ (d : Chip). d.polls) (begins_small _ _ _ p).is

pub change-requires-clause-powered : goal.change-requires-clause-powered
change-requires-clause-powered g c =
    let p : IsErase (g.B.SpiBus.chip c.args.bus.now) c.deref.result.now c.args.at 32 4096 = record { unprotected = c.requires.open; range = c.requires.range; unit = c.requires.unit; frame = c.deref.ensures.0 ∙ c.erase_small.ensures } in
    ap (λ (d : Chip). d.powered) (begins_small _ _ _ p).is

pub returns-clause-chip : goal.returns-clause-chip
returns-clause-chip g c =
    let p : IsErase (g.B.SpiBus.chip c.args.bus.now) c.deref.result.now c.args.at 32 4096 = record { unprotected = c.requires.open; range = c.requires.range; unit = c.requires.unit; frame = c.deref.ensures.0 ∙ c.erase_small.ensures } in
    on_ok_weaker c.change.result (λ e. e ∙ ap completed (begins_small _ _ _ p).is) c.change.ensures.chip

pub returns-clause-err : goal.returns-clause-err
returns-clause-err g c =
    let p : IsErase (g.B.SpiBus.chip c.args.bus.now) c.deref.result.now c.args.at 32 4096 = record { unprotected = c.requires.open; range = c.requires.range; unit = c.requires.unit; frame = c.deref.ensures.0 ∙ c.erase_small.ensures } in
    IfErr-weaker c.change.result _ _ (λ e h. unit_stops e _ _ _ _ _ _ _ c.args.at c.requires.idle c.requires.powered p h) c.change.ensures.err
