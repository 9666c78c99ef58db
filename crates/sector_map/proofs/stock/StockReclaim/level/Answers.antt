use Rattle.std.proofs.Common.{◌∙◌, sym, subst}
use Rattle.std.proofs.lemmas.List.{with_items_is}
use Rattle.sector_slots.specs.Slots.{data_blocks}
use Rattle.sector_stock.specs.Takes.{CountsErase}
use Rattle.sector_stock.specs.Index.{erases_of}
use Rattle.sector_stock.specs.Index.{AreWithin}
use Rattle.sector_stock.proofs.Even.{index-even}
use Rattle.std.proofs.Common.{true}
use Rattle.std.specs.Vec.{with_items}
use Rattle.sector_stock.specs.Index.{IsStocked}
use Rattle.sector_stock.proofs.Writing.{stocked-indexed}
use Rattle.nor_driver.specs.State.{bits_in}
use Rattle.sector_stock.specs.Index.{IsFirmIn}
use Rattle.sector_map.proofs.stock.StockReclaim.level.Goals as goal

pub returns-clause-must : goal.returns-clause-must
returns-clause-must g c = rw c.as_mut_slice-2.ensures.value at c.in_ok-moved.ensures.must

pub returns-clause-counted : goal.returns-clause-counted
returns-clause-counted g c =
    let s = c.args.self.now in
    let size = rw c.as_mut_slice-2.ensures.value at c.level_block.ensures.blocks_size in
    let blocks = with_items_is s.blocks c.level_block.new.blocks (size ∙ sym s.blocks.ok.0) in
    let counted = rw c.as_mut_slice-2.ensures.value at c.in_ok-moved.ensures.counted in
    subst (λ ys. CountsErase (data_blocks s.slots.memory) c.in_ok-moved.moved (erases_of s.blocks.items) (erases_of ys)) (sym blocks) counted

pub invariant_of-self-2 : goal.invariant_of-self-2
invariant_of-self-2 g c =
    let s = c.args.self.now in
    let m = s.slots.memory in
    let m1 = c.level_block.new.slots.memory in
    let size1 = rw c.as_mut_slice.ensures.value at c.level_block.ensures.states_size in
    let size2 = rw c.as_mut_slice-2.ensures.value at c.level_block.ensures.blocks_size in
    let states = with_items_is s.states c.level_block.new.states (size1 ∙ sym s.states.ok.0) in
    let blocks = with_items_is s.blocks c.level_block.new.blocks (size2 ∙ sym s.blocks.ok.0) in
    record {
      stocked = subst (λ xs. IsStocked xs (with_items s.blocks c.level_block.new.blocks).items c.level_block.new.at true m1) (sym states)
          (subst (λ ys. IsStocked c.level_block.new.states ys c.level_block.new.at true m1) (sym blocks)
          (stocked-indexed s.states.items c.level_block.new.states s.blocks.items c.level_block.new.blocks s.at c.level_block.new.at s.indexed m m1 c.level_block.ensures.size size1 size2 s.stocked c.in_ok-moved.ensures.index));
    }

pub returns-clause-even : goal.returns-clause-even
returns-clause-even g c by =
    let s = c.args.self.now in
    let m1 = c.level_block.new.slots.memory in
    let size = rw c.as_mut_slice-2.ensures.value at c.in_ok-moved.ensures.blocks_size in
    let blocks = with_items_is s.blocks c.level_block.new.blocks (size ∙ sym s.blocks.ok.0) in
    subst (λ ys. AreWithin 32 (data_blocks m1) (erases_of ys)) (sym blocks) (index-even s.at.policy m1 c.level_block.new.states c.level_block.new.blocks c.level_block.new.at c.in_ok-moved.ensures.policy c.in_ok-moved.ensures.index by)

pub returns-clause-least : goal.returns-clause-least
returns-clause-least g c = rw c.as_mut_slice-2.ensures.value at c.in_ok-moved.ensures.least

pub returns-clause-firm : goal.returns-clause-firm
returns-clause-firm g c h =
    let s = c.args.self.now in
    let size = rw c.as_mut_slice-2.ensures.value at c.in_ok-moved.ensures.blocks_size in
    let blocks = with_items_is s.blocks c.level_block.new.blocks (size ∙ sym s.blocks.ok.0) in
    let firm = rw c.as_mut_slice-2.ensures.value at c.in_ok-moved.ensures.firm in
    subst (λ ys. IsFirmIn (bits_in c.level_block.new.slots) ys) (sym blocks) (firm h)
