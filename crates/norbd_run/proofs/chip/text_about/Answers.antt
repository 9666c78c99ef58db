use Rattle.std.proofs.Common.{◌≡◌, ◌++◌, string_bytes, IfOk, codes, subst}
use Rattle.std.specs.Fmt.{decimal}
use Rattle.norbd_run.specs.Chips.{after_port}
use Rattle.norbd_run.proofs.chip.text_about.Goals as goal

pub returns-then-is_known_by_id : goal.returns-then-is_known_by_id
returns-then-is_known_by_id c =
    subst (λ known. IfOk c.format.result (λ text. string_bytes text ≡ codes "chip of " ++ (decimal c.args.kib ++ (codes " KiB on port " ++ (decimal c.args.port ++ after_port known)))))
    c.if-is_known_by_id.ensures c.format.ensures.ok

pub returns-else-is_known_by_id : goal.returns-else-is_known_by_id
returns-else-is_known_by_id c =
    subst (λ known. IfOk c.format-else-is_known_by_id.result (λ text. string_bytes text ≡ codes "chip of " ++ (decimal c.args.kib ++ (codes " KiB on port " ++ (decimal c.args.port ++ after_port known)))))
    c.if-is_known_by_id.ensures c.format-else-is_known_by_id.ensures.ok
