use Rattle.std.proofs.Common.{length, ap, ◌∙◌}
use Rattle.chip_model.specs.declared.geometry.Geometry.{Geometry}
use Rattle.nor_layout.specs.Layouts.{layout_of}
use Rattle.sector_map.proofs.Looking.{says-same, geometry-is}
use Rattle.sector_survey.proofs.verdict.look.Goals as goal

pub returns-clause-ok : goal.returns-clause-ok
returns-clause-ok g c =
    let m = (g.N.Nor.state c.args.nor.now).memory in
    let chip = c.in-Some.chip in
    c.read_layout.ensures
    ∙ (says-same m c.read.new.into chip c.in_ok-read.ensures.ok ∙ ap (λ (z : Geometry). layout_of m z) (geometry-is chip c.bytes.result (length m) c.bytes.ensures c.in-Some.ensures.blocks c.in-Some.ensures.groups c.in-Some.ensures.sectors))
