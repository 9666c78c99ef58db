use Rattle.std.proofs.Common.{◌≡◌, string_bytes, IfOk, subst, sym}
use Rattle.norbd_run.specs.Listening.{serving_text}
use Rattle.norbd_line.specs.declared.line.Place.TheVariants as places
use Rattle.norbd_run.proofs.serve.serving_text.Goals as goal

pub returns-in-None : goal.returns-in-None
returns-in-None c =
    subst (λ place. IfOk c.format.result (λ text. string_bytes text ≡ serving_text c.args.sectors place)) (sym c.in-Port.is)
    (subst (λ bind. IfOk c.format.result (λ text. string_bytes text ≡ serving_text c.args.sectors (places.Port c.in-Port.port bind))) (sym c.in-None.is) c.format.ensures.ok)
