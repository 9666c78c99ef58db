use Rattle.std.proofs.Common.{◌≡◌, ◌++◌, ap, ◌∙◌, append_assoc, arith}
use Rattle.std.specs.List.{repeat}
use Rattle.std.proofs.Concat.{repeat_push}
use Rattle.test_kit.proofs.spelling.push_repeated.Goals as goal

pub loop-preserved : goal.loop-preserved
loop-preserved c =
    let bytes = c.args.other.now in
    let start = c.args.bytes.now.items in
    let more : c.extend_from_slice.new.self.items ≡ c.loop.bytes.items ++ bytes = c.in_ok-extend_from_slice.ensures.items in (
      omega arith,
      more ∙ ap (λ items. items ++ bytes) c.loop.invariant.1 ∙ append_assoc start (repeat c.loop.counter bytes) bytes
          ∙ ap (λ items. start ++ items) (repeat_push c.loop.counter bytes),
    )
