use Rattle.std.proofs.Common.{◌∙◌, ap, sym, subst, arith}
use Rattle.sector_stock.specs.Index.{IsIndexOf}
use Rattle.sector_slots.specs.Slots.{data_blocks, descriptor_in, data_block, kind_at}
use Rattle.erase_journal.specs.Steps.{RefusesFirmly}
use Rattle.nor_driver.proofs.CallLaws.{fails-as}
use Rattle.erase_journal.specs.Steps.{SucceedsSettled}
use Rattle.erase_journal.proofs.SettledLaws.{settled-after}
use Rattle.erase_journal.proofs.Firmly.{refuses-firmly}
use Rattle.sector_stock.proofs.Filling.{noted-next, listed-noted, numbers-listed, spare-listed, even-noted, index-filled}
use Rattle.sector_stock.proofs.scan.fill_index.Goals as goal

pub loop-block-preserved : goal.loop-block-preserved
loop-block-preserved g c =
    let m = (g.S.SlotCalls.state c.args.slots.now).memory in
    let same = c.loop-block.invariant.same in
    let count = c.blocks-count.ensures.count in
    let below = c.loop-block-test.true in
    record {
      same = c.in_ok-kind-2.ensures.same ∙ same;
      weak = c.in_ok-kind-2.ensures.weak ∙ c.loop-block.invariant.weak;
      since = settled-after (g.S.SlotCalls.state c.args.slots.now) (g.S.SlotCalls.state c.loop-block.slots) (g.S.SlotCalls.state c.head.new.self) c.loop-block.invariant.since c.in_ok-kind-2.ensures.ends;
      states_size = c.note_block.ensures.states.size ∙ c.loop-block.invariant.states_size;
      blocks_size = c.note_block.ensures.block_size ∙ c.loop-block.invariant.blocks_size;
      noted = noted-next c.loop-block.block (data_blocks m) c.in_ok-kind-2.kind c.head.new.into c.loop-block.states c.note_block.new.states c.loop-block.blocks c.note_block.new.blocks m (omega (arith, below, count))
          (c.loop-block.invariant.states_size ∙ c.requires.states_size) (c.loop-block.invariant.blocks_size ∙ c.requires.blocks_size) c.note_block.ensures
          (c.in_ok-kind-2.ensures.ok ∙ ap (λ a. kind_at a c.loop-block.block) same)
          (λ i low. c.in_ok-kind-2.ensures.slots i low ∙ ap (λ a. descriptor_in (data_block a c.loop-block.block) i) same)
          c.loop-block.invariant.noted;
    }

pub first_cursors-requires-clause-numbers : goal.first_cursors-requires-clause-numbers
first_cursors-requires-clause-numbers g c =
    let m = (g.S.SlotCalls.state c.args.slots.now).memory in
    let count = c.blocks-count.ensures.count in
    let all = c.loop-block-test.false in
    let settled = c.requires.settled c.in_ok-kind.ensures.ends.ready in
    numbers-listed m c.loop-block.states c.loop-block.blocks
    (listed-noted m c.loop-block.states c.loop-block.blocks settled (c.loop-block.invariant.states_size ∙ c.requires.states_size) (c.loop-block.invariant.blocks_size ∙ c.requires.blocks_size)
    (λ d low. c.loop-block.invariant.noted d (omega (arith, low, count, all))))

pub first_cursors-requires-clause-spare : goal.first_cursors-requires-clause-spare
first_cursors-requires-clause-spare g c =
    let m = (g.S.SlotCalls.state c.args.slots.now).memory in
    let count = c.blocks-count.ensures.count in
    let all = c.loop-block-test.false in
    let settled = c.requires.settled c.in_ok-kind.ensures.ends.ready in
    spare-listed m c.loop-block.states c.loop-block.blocks settled
    (listed-noted m c.loop-block.states c.loop-block.blocks settled (c.loop-block.invariant.states_size ∙ c.requires.states_size) (c.loop-block.invariant.blocks_size ∙ c.requires.blocks_size)
    (λ d low. c.loop-block.invariant.noted d (omega (arith, low, count, all))))

pub returns-clause-ok : goal.returns-clause-ok
returns-clause-ok g c =
    let m = (g.S.SlotCalls.state c.args.slots.now).memory in
    let count = c.blocks-count.ensures.count in
    let all = c.loop-block-test.false in
    let settled = c.requires.settled c.in_ok-kind.ensures.ends.ready in
    let listed = listed-noted m c.loop-block.states c.loop-block.blocks settled (c.loop-block.invariant.states_size ∙ c.requires.states_size) (c.loop-block.invariant.blocks_size ∙ c.requires.blocks_size)
    (λ d low. c.loop-block.invariant.noted d (omega (arith, low, count, all))) in
    subst (λ a. IsIndexOf c.loop-block.states c.loop-block.blocks c.first_cursors.result a) (sym c.loop-block.invariant.same)
    (index-filled m c.loop-block.states c.loop-block.blocks c.first_cursors.result settled listed c.first_cursors.ensures.ahead c.first_cursors.ensures.reserve
    (even-noted m c.loop-block.states c.loop-block.blocks (c.loop-block.invariant.blocks_size ∙ c.requires.blocks_size) (λ d low. c.loop-block.invariant.noted d (omega (arith, low, count, all)))))

pub returns-clause-counted : goal.returns-clause-counted
returns-clause-counted g c d low =
    let count = c.blocks-count.ensures.count in
    let all = c.loop-block-test.false in
    let n = c.loop-block.invariant.blocks_size ∙ c.requires.blocks_size in
    ap (λ b. b.erases) (c.loop-block.invariant.noted d (omega (arith, low, n, count, all))).block

pub returns-in_err-kind-2-clause-ends : goal.returns-in_err-kind-2-clause-ends
returns-in_err-kind-2-clause-ends g c =
    let s0 = g.S.SlotCalls.state c.args.slots.now in
    let s1 = g.S.SlotCalls.state c.loop-block.slots in
    let s2 = g.S.SlotCalls.state c.head.new.self in
    fails-as c.from_residual-in_err-kind-2.result _ (λ _. SucceedsSettled s0 s2) (λ e. RefusesFirmly e s0 s2) c.from_residual-in_err-kind-2.ensures.1
    (refuses-firmly _ s0 s1 s2 c.loop-block.invariant.since c.in_err-kind-2.ensures.ends)
