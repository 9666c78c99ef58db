use Rattle.std.proofs.Common.{length, refl, ap, ◌∙◌}
use Rattle.chip_model.specs.declared.geometry.Geometry.{Geometry}
use Rattle.nor_layout.specs.Layouts.{layout_of}
use Rattle.sector_map.proofs.Looking.{says-same, geometry-is}
use Rattle.sector_survey.proofs.image.layout_in.Goals as goal

pub returns : goal.returns
returns c =
    let m = c.args.image.now in
    let chip = c.in-Some.chip in
    c.read_layout.ensures
    ∙ (says-same m c.copy_from_slice.new.self chip c.copy_from_slice.ensures.after ∙ ap (λ (z : Geometry). layout_of m z) (geometry-is chip (length m) (length m) refl c.in-Some.ensures.blocks c.in-Some.ensures.groups c.in-Some.ensures.sectors))
