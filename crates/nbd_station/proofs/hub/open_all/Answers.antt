use Rattle.std.proofs.Common.{◌≡◌, ◌++◌, ◌∷◌, [], All, List, Result, Ok, Err, false, if◌then◌else◌, is_ok, is_err, subst, sym, length, length-append, ap, ◌∙◌, arith}
use Rattle.std.proofs.lemmas.Bool.{false≢true}
use Rattle.std.proofs.lemmas.List.Elements.{All-push}
use Rattle.nbd_session.specs.declared.session.Session.{Session}
use Rattle.nbd_station.proofs.hub.open_all.Goals as goal

grown : {T E : Type 0} {X : Type 0} (r : Result T E) (was now : List X) (x : X) → now ≡ (if is_ok r then was ++ x ∷ [] else was) → false ≡ is_err r → now ≡ was ++ x ∷ []
grown (Ok _) was now x e h = e
grown (Err _) was now x e h = absurd (false≢true h)

pub loop-preserved : goal.loop-preserved
loop-preserved c =
    let e = grown c.push.result c.loop.sessions.items c.push.new.self.items c.in-Ok.session c.push.ensures.items c.if-is_err.ensures.value in
    let more = ap (λ (l : List Session). length l) e ∙ length-append c.loop.sessions.items (c.in-Ok.session ∷ []) in
    (omega (arith, more, c.loop.invariant.0), subst (All (λ s. s.export ≡ c.args.export)) (sym e) (All-push (λ s. s.export ≡ c.args.export) c.loop.sessions.items c.in-Ok.session c.loop.invariant.1 c.in-Ok.ensures.fresh.export_is))
