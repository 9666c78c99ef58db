use Rattle.std.proofs.Common.{◌≡◌, ◌∙◌, ◌+◌, ◌++◌, ◌∷◌, [], length, length-append, ap, subst, true}
use Rattle.std.specs.Prelude.{is_ok, not}
use Rattle.erase_journal.specs.Steps.{RefusesFirmly}
use Rattle.nor_driver.proofs.CallLaws.{fails-as, fails-of}
use Rattle.erase_journal.specs.Steps.{SucceedsSettled}
use Rattle.sector_survey.specs.Summaries.{IsSummaryOf}
use Rattle.erase_journal.proofs.Calls.{repeated-more, repeated-refuses}
use Rattle.sector_survey.proofs.Counting.{summary-more}
use Rattle.sector_survey.proofs.summary.summarize_blocks.Goals as goal

pub loop-block-preserved : goal.loop-block-preserved
loop-block-preserved g c =
    let m = (g.S.SlotCalls.state c.args.slots.now).memory in
    let b = c.loop-block.block in
    let same = c.loop-block.invariant.same in
    let here : IsSummaryOf c.in_ok-summary.summary m b = subst (λ z. IsSummaryOf c.in_ok-summary.summary z b) same c.in_ok-summary.ensures.summary in
    let ok : is_ok c.push.result ≡ true = c.is_err.ensures.negation ∙ ap not c.if-is_err.false in
    let items : c.push.new.self.items ≡ c.loop-block.all.items ++ (c.in_ok-summary.summary ∷ []) = rw ok at c.push.ensures.items in
    record {
      same = c.summarize_block.ensures.same ∙ same;
      since = repeated-more b (b + 1) (g.S.SlotCalls.state c.args.slots.now) (g.S.SlotCalls.state c.loop-block.slots) (g.S.SlotCalls.state c.summarize_block.new.slots) c.loop-block.invariant.since c.in_ok-summary.ensures.ends;
      size = ap length items ∙ (length-append c.loop-block.all.items (c.in_ok-summary.summary ∷ []) ∙ ap (λ n. n + 1) c.loop-block.invariant.size);
      each = summary-more c.loop-block.all.items c.push.new.self.items c.in_ok-summary.summary m b items c.loop-block.invariant.size here c.loop-block.invariant.each;
    }

pub returns-in_err-summary-clause-fails : goal.returns-in_err-summary-clause-fails
returns-in_err-summary-clause-fails g c =
    let s0 = g.S.SlotCalls.state c.args.slots.now in
    let s1 = g.S.SlotCalls.state c.loop-block.slots in
    let s2 = g.S.SlotCalls.state c.summarize_block.new.slots in
    fails-of c.from_residual.result (SucceedsSettled s0 s2) (λ e. RefusesFirmly e s0 s2) (fails-as c.from_residual.result _ (λ _. SucceedsSettled s0 s2) (λ e. RefusesFirmly e s0 s2) c.from_residual.ensures.1
    (repeated-refuses c.loop-block.block _ s0 s1 s2 c.loop-block.invariant.since c.in_err-summary.ensures.ends))
