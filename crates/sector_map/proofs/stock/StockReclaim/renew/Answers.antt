use Rattle.std.proofs.Common.{◌∙◌, sym, subst, true}
use Rattle.std.proofs.lemmas.List.{with_items_is}
use Rattle.std.specs.Vec.{with_items}
use Rattle.sector_slots.specs.Slots.{data_blocks}
use Rattle.sector_stock.specs.Index.{IsStocked, erases_of}
use Rattle.sector_stock.specs.Takes.{IsErasedOnce}
use Rattle.sector_stock.proofs.Writing.{stocked-indexed}
use Rattle.nor_driver.specs.State.{bits_in}
use Rattle.sector_stock.specs.Index.{IsFirmIn}
use Rattle.std.proofs.lemmas.Result.{err_from_is_err_and}
use Rattle.erase_journal.proofs.SettledLaws.{settled-healthy}
use Rattle.sector_stock.specs.Losses.{IsFirmDiskIn}
use Rattle.sector_map.proofs.stock.StockReclaim.renew.Goals as goal

pub invariant_of-self-2 : goal.invariant_of-self-2
invariant_of-self-2 g c =
    let s = c.args.self.now in
    let m = s.slots.memory in
    let m1 = c.renew_block.new.slots.memory in
    let size1 = rw c.as_mut_slice.ensures.value at c.renew_block.ensures.states_size in
    let size2 = rw c.as_mut_slice-2.ensures.value at c.renew_block.ensures.blocks_size in
    let states = with_items_is s.states c.renew_block.new.states (size1 ∙ sym s.states.ok.0) in
    let blocks = with_items_is s.blocks c.renew_block.new.blocks (size2 ∙ sym s.blocks.ok.0) in
    record {
      stocked = subst (λ xs. IsStocked xs (with_items s.blocks c.renew_block.new.blocks).items c.renew_block.new.at true m1) (sym states)
          (subst (λ ys. IsStocked c.renew_block.new.states ys c.renew_block.new.at true m1) (sym blocks)
          (stocked-indexed s.states.items c.renew_block.new.states s.blocks.items c.renew_block.new.blocks s.at c.renew_block.new.at s.indexed m m1 c.renew_block.ensures.size size1 size2 s.stocked c.in_ok-copied.ensures.index));
    }

pub returns-clause-counted : goal.returns-clause-counted
returns-clause-counted g c =
    let s = c.args.self.now in
    let size = rw c.as_mut_slice-2.ensures.value at c.in_ok-copied.ensures.blocks_size in
    let blocks = with_items_is s.blocks c.renew_block.new.blocks (size ∙ sym s.blocks.ok.0) in
    let counted = rw c.as_mut_slice-2.ensures.value at c.in_ok-copied.ensures.counted in
    subst (λ ys. IsErasedOnce (data_blocks s.slots.memory) c.args.block (erases_of s.blocks.items) (erases_of ys)) (sym blocks)
    (subst (λ n. IsErasedOnce n c.args.block (erases_of s.blocks.items) (erases_of c.renew_block.new.blocks)) s.stocked.blocks_size counted)

pub returns-clause-firm : goal.returns-clause-firm
returns-clause-firm g c h =
    let s = c.args.self.now in
    let size = rw c.as_mut_slice-2.ensures.value at c.in_ok-copied.ensures.blocks_size in
    let blocks = with_items_is s.blocks c.renew_block.new.blocks (size ∙ sym s.blocks.ok.0) in
    let firm = rw c.as_mut_slice-2.ensures.value at c.in_ok-copied.ensures.firm in
    subst (λ ys. IsFirmIn (bits_in c.renew_block.new.slots) ys) (sym blocks) (firm h)

pub returns-clause-disk : goal.returns-clause-disk
returns-clause-disk g c h =
    let s = c.args.self.now in
    let size = rw c.as_mut_slice-2.ensures.value at c.in_ok-copied.ensures.blocks_size in
    let blocks = with_items_is s.blocks c.renew_block.new.blocks (size ∙ sym s.blocks.ok.0) in
    let disk = rw c.as_mut_slice-2.ensures.value at c.in_ok-copied.ensures.disk in
    subst (λ ys. IsFirmDiskIn (bits_in c.renew_block.new.slots) ys) (sym blocks) (disk h)

pub returns-in_err-copied-clause-cut : goal.returns-in_err-copied-clause-cut
returns-in_err-copied-clause-cut g c is =
    let p = err_from_is_err_and c.from_residual.result c.from_residual.ensures.1 in
    c.in_err-copied.ensures.cut (cc (p.1, p.2)) (settled-healthy c.args.self.now.slots.memory c.requires.settled)
