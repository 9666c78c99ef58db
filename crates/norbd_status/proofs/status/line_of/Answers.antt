use Rattle.std.proofs.Common.{◌∙◌, ◌++◌, ap, ap₂, codes}
use Rattle.std.specs.Fmt.{decimal}
use Rattle.norbd_status.proofs.status.line_of.Goals as goal

pub returns : goal.returns
returns c =
    let s = c.args.status.now in
    let one = c.in_ok-push_text.ensures ∙ ap₂ (λ x y. x ++ codes "},\"commands\":" ++ y) c.in_ok-text.ensures (c.as_str.ensures.value ∙ c.in_ok-commands.ensures) in
    let two = c.in_ok-push.ensures ∙ ap (λ x. x ++ codes ",\"errors\":" ++ decimal s.errors) one in
    let three = c.in_ok-push-2.ensures ∙ ap (λ x. x ++ codes ",\"erases\":" ++ decimal s.erases) two in
    let four = c.in_ok-push_text-2.ensures ∙ ap₂ (λ x y. x ++ codes "," ++ y) three (c.as_str-2.ensures.value ∙ c.in_ok-worn.ensures) in
    c.in_ok-push_str.ensures.bytes ∙ ap (λ x. x ++ codes "}\n") four
