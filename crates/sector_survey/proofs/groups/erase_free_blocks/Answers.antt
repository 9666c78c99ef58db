use Rattle.std.proofs.Common.{◌+◌, ◌<◌, subst, sym, arith}
use Rattle.erase_journal.specs.Steps.{RefusesFirmly}
use Rattle.nor_driver.proofs.CallLaws.{fails-as}
use Rattle.erase_journal.specs.Steps.{SucceedsSettled}
use Rattle.erase_journal.proofs.Firmly.{refuses-firmly}
use Rattle.erase_journal.proofs.Calls.{Repeated, repeated-more, repeated-then}
use Rattle.sector_slots.specs.Slots.{data_blocks}
use Rattle.sector_survey.specs.Cleanness.{FreeBlockTells}
use Rattle.sector_survey.proofs.Erasing.{ErasedTo, erased-skip, erased-some, tells-unless}
use Rattle.erase_journal.proofs.Calls.{repeated-refuses}
use Rattle.sector_survey.proofs.groups.erase_free_blocks.Goals.{then-is_some+in_ok-erase, else-is_some}
use Rattle.sector_survey.proofs.groups.erase_free_blocks.Goals as goal

pub loop-block-preserved : goal.loop-block-preserved
loop-block-preserved g c =
    let m = c.args.journal.now.memory in
    let b = c.loop-block.block in
    let inside : b < data_blocks m = omega (arith, c.loop-block-test.true, c.blocks-blocks.ensures.count) in
    let read = repeated-more b (b + 1) c.args.journal.now c.loop-block.journal c.dirty_byte.new.journal c.loop-block.invariant.since c.in_ok-dirty_byte.ensures.ends in
    let erased : ErasedTo b m c.dirty_byte.new.journal.memory = subst (λ z. ErasedTo b m z) (sym c.dirty_byte.ensures.same) c.loop-block.invariant.erased in
    let told : FreeBlockTells c.in_ok-dirty_byte.field-0 c.dirty_byte.new.journal.memory b = subst (λ z. FreeBlockTells c.in_ok-dirty_byte.field-0 z b) (sym c.dirty_byte.ensures.same) c.in_ok-dirty_byte.ensures.told in
    record {
      since = elim c.if-is_some.branch as (λ _. Repeated (b + 1) c.args.journal.now c.if-is_some.journal) [
        | then-is_some+in_ok-erase w ↦ subst (λ z. Repeated (b + 1) c.args.journal.now z) (sym w.journal-is) (repeated-more (b + 1) (b + 1) c.args.journal.now c.dirty_byte.new.journal w.erase.new.self read w.in_ok-erase.ensures.ends)
        | else-is_some w ↦ subst (λ z. Repeated (b + 1) c.args.journal.now z) (sym w.journal-is) read
      ];
      erased = elim c.if-is_some.branch as (λ _. ErasedTo (b + 1) m c.if-is_some.journal.memory) [
        | then-is_some+in_ok-erase w ↦ subst (λ z. ErasedTo (b + 1) m z.memory) (sym w.journal-is) (erased-some b c.in_ok-dirty_byte.field-0 m c.dirty_byte.new.journal.memory w.erase.new.self.memory inside (sym w.if-is_some.ensures) erased told w.in_ok-erase.ensures.erased)
        | else-is_some w ↦ subst (λ z. ErasedTo (b + 1) m z.memory) (sym w.journal-is) (erased-skip b m c.dirty_byte.new.journal.memory inside erased (tells-unless c.in_ok-dirty_byte.field-0 c.dirty_byte.new.journal.memory b (sym w.if-is_some.ensures) told))
      ];
    }

pub returns-in_err-erase-clause-ends : goal.returns-in_err-erase-clause-ends
returns-in_err-erase-clause-ends g c =
    let s0 = c.args.journal.now in
    let s1 = c.loop-block.journal in
    let s2 = c.dirty_byte.new.journal in
    let s3 = c.erase.new.self in
    fails-as c.from_residual-in_err-erase.result _ (λ _. SucceedsSettled s0 s3) (λ e. RefusesFirmly e s0 s3) c.from_residual-in_err-erase.ensures.1
    (refuses-firmly _ s0 s2 s3 (repeated-then c.loop-block.block s0 s1 s2 c.loop-block.invariant.since c.in_ok-dirty_byte.ensures.ends) c.in_err-erase.ensures.ends)

pub returns-in_err-dirty_byte-clause-ends : goal.returns-in_err-dirty_byte-clause-ends
returns-in_err-dirty_byte-clause-ends g c =
    let s0 = c.args.journal.now in
    let s1 = c.loop-block.journal in
    let s2 = c.dirty_byte.new.journal in
    fails-as c.from_residual.result _ (λ _. SucceedsSettled s0 s2) (λ e. RefusesFirmly e s0 s2) c.from_residual.ensures.1
    (repeated-refuses c.loop-block.block _ s0 s1 s2 c.loop-block.invariant.since c.in_err-dirty_byte.ensures.ends)
