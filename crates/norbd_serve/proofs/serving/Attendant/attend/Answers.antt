use Rattle.std.proofs.Common.{◌∙◌, ap}
use Rattle.norbd_serve.specs.Serving.{Entitled}
use Rattle.norbd_serve.proofs.Attending.{attends}
use Rattle.norbd_serve.proofs.serving.Attendant.attend.Goals as goal

pub returns : goal.returns
returns g c =
    let w = c.worker-pass in
    attends _ _ _ _ _ c.new.result c.rights.inside.pass c.new-writer.result.taken c.new-writer.result.failures w.new.door w.new.writer.taken w.new.writer.failures _
    (c.new.ensures ∙ ap (λ (r : Entitled). r.hand) c.rights.view_is) (ap (λ (r : Entitled). r.pass) c.rights.view_is) c.new-writer.ensures.taken c.new-writer.ensures.failures c.into_hand.ensures.same
    c.into_taken.ensures w.ensures.says
