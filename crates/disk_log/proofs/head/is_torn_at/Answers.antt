use Rattle.std.proofs.Common.{◌≡◌, All, take, sym, subst, rules}
use Rattle.std.proofs.lemmas.List.{take_rest}
use Rattle.disk_log.specs.Logs.{log_name}
use Rattle.disk_log.proofs.head.is_torn_at.Goals as goal

pub returns : goal.returns
returns c =
    let rest = take_rest c.args.front.now c.args.named in
    let name : take c.args.named c.args.front.now ≡ take c.args.named log_name = search rules in (
      λ t. (name, subst (λ v. All (λ byte. byte ≡ 0) v) rest (c.is_zero.ensures.0 t)),
      λ h. c.is_zero.ensures.1 (subst (λ v. All (λ byte. byte ≡ 0) v) (sym rest) h.1),
    )
