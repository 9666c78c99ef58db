use Rattle.std.proofs.Common.{◌∙◌, ◌+◌, subst}
use Rattle.sector_slots.specs.Slots.{data_block}
use Rattle.journal_slots.specs.Clean.{IsCleanBlock}
use Rattle.erase_journal.proofs.Calls.{repeated-more}
use Rattle.journal_slots.proofs.Cleaning.{clean-next}
use Rattle.erase_journal.specs.Steps.{RefusesFirmly, SucceedsSettled}
use Rattle.nor_driver.proofs.CallLaws.{fails-as}
use Rattle.erase_journal.proofs.Calls.{repeated-refuses}
use Rattle.journal_slots.proofs.clean.read_clean.Goals as goal

pub loop-block-preserved : goal.loop-block-preserved
loop-block-preserved g c =
    let m = c.args.journal.now.memory in
    let b = c.loop-block.block in
    record {
      same = c.read_clean_block.ensures.same ∙ c.loop-block.invariant.same;
      weak = c.read_clean_block.ensures.weak ∙ c.loop-block.invariant.weak;
      since = repeated-more b (b + 1) c.args.journal.now c.loop-block.journal c.read_clean_block.new.journal c.loop-block.invariant.since c.in_ok-read_clean_block.ensures.ends;
      clean = clean-next m b c.loop-block.invariant.clean (subst (λ z. IsCleanBlock (data_block z b)) c.loop-block.invariant.same (c.in_ok-read_clean_block.ensures.clean (cc c.if-not-branch.false)));
    }

pub returns-in_err-read_clean_block-clause-ends : goal.returns-in_err-read_clean_block-clause-ends
returns-in_err-read_clean_block-clause-ends g c =
    let s0 = c.args.journal.now in
    let s1 = c.loop-block.journal in
    let s2 = c.read_clean_block.new.journal in
    fails-as c.from_residual.result _ (λ _. SucceedsSettled s0 s2) (λ e. RefusesFirmly e s0 s2) c.from_residual.ensures.1
    (repeated-refuses c.loop-block.block _ s0 s1 s2 c.loop-block.invariant.since c.in_err-read_clean_block.ensures.ends)
