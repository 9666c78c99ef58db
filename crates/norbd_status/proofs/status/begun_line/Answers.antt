use Rattle.std.proofs.Common.{◌∙◌, ◌++◌, ap, ap₂, codes}
use Rattle.std.specs.Fmt.{decimal}
use Rattle.norbd_status.proofs.status.begun_line.Goals as goal

pub returns : goal.returns
returns c =
    let s = c.args.status.now in
    let one = c.in_ok-push.ensures ∙ ap (λ x. x ++ codes "{\"version\":1,\"sectors\":" ++ decimal s.sectors) c.new-text.ensures.bytes in
    let two = c.in_ok-push_text.ensures ∙ ap₂ (λ x y. x ++ codes ",\"read_only\":" ++ y) one c.flag_text.ensures in
    let three = c.in_ok-push_text-2.ensures ∙ ap₂ (λ x y. x ++ codes ",\"seconds\":" ++ y) two (c.as_str.ensures.value ∙ c.in_ok-seconds.ensures) in
    let four = c.in_ok-push-2.ensures ∙ ap (λ x. x ++ codes ",\"connections\":{\"now\":" ++ decimal s.connections) three in
    c.in_ok-push-3.ensures ∙ ap (λ x. x ++ codes ",\"all\":" ++ decimal s.all_connections) four
