use Rattle.std.proofs.Common.{◌++◌, ◌∷◌, [], refl}
use Rattle.flash_host.proofs.Turns.{begun, one_more, longer}
use Rattle.flash_host.proofs.answering.answer_all.Goals as goal

pub loop-init : goal.loop-init
loop-init g c = ([], begun _ _, refl)

pub loop-preserved : goal.loop-preserved
loop-preserved g c =
    let i = c.loop.invariant in (
      i.0 ++ record { request = c.in-Some.request; given = c.next.new.bytes; answer = c.answer-answer.result; bytes = c.answer-answer.new.bytes } ∷ [],
      one_more _ _ _ _ _ _ _ i.0 c.in-Some.request _ c.answer-answer.result _ i.1 c.in-Some.ensures.asks c.answer-answer.ensures c.hear.ensures,
      longer i.0 _ _ i.2,
    )
