use Rattle.std.proofs.Common.{◌∙◌, sym, subst, true}
use Rattle.std.proofs.lemmas.List.{with_items_is}
use Rattle.std.specs.Vec.{with_items}
use Rattle.sector_stock.specs.Index.{IsStocked}
use Rattle.sector_stock.proofs.Writing.{stocked-indexed}
use Rattle.sector_slots.specs.Slots.{data_blocks}
use Rattle.sector_stock.specs.Takes.{CountsErase}
use Rattle.sector_stock.specs.Index.{erases_of}
use Rattle.sector_stock.specs.Index.{AreWithin}
use Rattle.sector_stock.proofs.Even.{index-even}
use Rattle.nor_driver.specs.State.{bits_in}
use Rattle.sector_stock.specs.Index.{IsFirmIn}
use Rattle.sector_map.proofs.stock.StockReclaim.take_free.Goals as goal

pub invariant_of-self-2 : goal.invariant_of-self-2
invariant_of-self-2 g c =
    let s = c.args.self.now in
    let m = s.slots.memory in
    let m1 = c.take_slot.new.slots.memory in
    let size1 = rw c.as_mut_slice.ensures.value at c.take_slot.ensures.states_size in
    let size2 = rw c.as_mut_slice-2.ensures.value at c.take_slot.ensures.blocks_size in
    let states = with_items_is s.states c.take_slot.new.states (size1 ∙ sym s.states.ok.0) in
    let blocks = with_items_is s.blocks c.take_slot.new.blocks (size2 ∙ sym s.blocks.ok.0) in
    record {
      stocked = subst (λ xs. IsStocked xs (with_items s.blocks c.take_slot.new.blocks).items c.take_slot.new.at true m1) (sym states)
          (subst (λ ys. IsStocked c.take_slot.new.states ys c.take_slot.new.at true m1) (sym blocks)
          (stocked-indexed s.states.items c.take_slot.new.states s.blocks.items c.take_slot.new.blocks s.at c.take_slot.new.at s.indexed m m1 c.take_slot.ensures.size size1 size2 s.stocked c.in_ok-given.ensures.index));
    }

pub returns-clause-counted : goal.returns-clause-counted
returns-clause-counted g c =
    let s = c.args.self.now in
    let size = rw c.as_mut_slice-2.ensures.value at c.take_slot.ensures.blocks_size in
    let blocks = with_items_is s.blocks c.take_slot.new.blocks (size ∙ sym s.blocks.ok.0) in
    let counted = rw c.as_mut_slice-2.ensures.value at c.in_ok-given.ensures.counted in
    subst (λ ys. CountsErase (data_blocks s.slots.memory) c.in_ok-given.given.copied (erases_of s.blocks.items) (erases_of ys)) (sym blocks) counted

pub returns-clause-even : goal.returns-clause-even
returns-clause-even g c by =
    let s = c.args.self.now in
    let m1 = c.take_slot.new.slots.memory in
    let size = rw c.as_mut_slice-2.ensures.value at c.in_ok-given.ensures.blocks_size in
    let blocks = with_items_is s.blocks c.take_slot.new.blocks (size ∙ sym s.blocks.ok.0) in
    subst (λ ys. AreWithin 32 (data_blocks m1) (erases_of ys)) (sym blocks) (index-even s.at.policy m1 c.take_slot.new.states c.take_slot.new.blocks c.take_slot.new.at c.in_ok-given.ensures.policy c.in_ok-given.ensures.index by)

pub returns-clause-firm : goal.returns-clause-firm
returns-clause-firm g c h =
    let s = c.args.self.now in
    let size = rw c.as_mut_slice-2.ensures.value at c.in_ok-given.ensures.blocks_size in
    let blocks = with_items_is s.blocks c.take_slot.new.blocks (size ∙ sym s.blocks.ok.0) in
    let firm = rw c.as_mut_slice-2.ensures.value at c.in_ok-given.ensures.firm in
    subst (λ ys. IsFirmIn (bits_in c.take_slot.new.slots) ys) (sym blocks) (firm h)
