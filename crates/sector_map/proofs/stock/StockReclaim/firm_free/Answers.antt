use Rattle.std.proofs.Common.{◌∙◌, sym, subst, true}
use Rattle.std.proofs.lemmas.List.{with_items_is}
use Rattle.std.specs.Vec.{with_items}
use Rattle.sector_slots.specs.Slots.{data_blocks}
use Rattle.nor_driver.specs.State.{bits_in}
use Rattle.sector_stock.specs.Index.{IsStocked, TrustsMore, erases_of, IsFirmIn}
use Rattle.sector_stock.specs.Takes.{KeepsErases, GivesTrusted, MadeTrusted}
use Rattle.sector_stock.proofs.Firming.{trusts-erases}
use Rattle.sector_stock.proofs.Writing.{stocked-indexed}
use Rattle.sector_map.proofs.stock.StockReclaim.firm_free.Goals as goal

pub invariant_of-self-2 : goal.invariant_of-self-2
invariant_of-self-2 g c =
    let s = c.args.self.now in
    let m = s.slots.memory in
    let m1 = c.firm_free.new.slots.memory in
    let size1 = rw c.as_mut_slice.ensures.value at c.firm_free.ensures.states_size in
    let size2 = rw c.as_mut_slice-2.ensures.value at c.firm_free.ensures.blocks_size in
    let states = with_items_is s.states c.firm_free.new.states (size1 ∙ sym s.states.ok.0) in
    let blocks = with_items_is s.blocks c.firm_free.new.blocks (size2 ∙ sym s.blocks.ok.0) in
    record {
      stocked = subst (λ xs. IsStocked xs (with_items s.blocks c.firm_free.new.blocks).items c.firm_free.new.at true m1) (sym states)
          (subst (λ ys. IsStocked c.firm_free.new.states ys c.firm_free.new.at true m1) (sym blocks)
          (stocked-indexed s.states.items c.firm_free.new.states s.blocks.items c.firm_free.new.blocks s.at c.firm_free.new.at s.indexed m m1 c.firm_free.ensures.size size1 size2 s.stocked c.in_ok-firm_free.ensures.index));
    }

pub returns-clause-trusts : goal.returns-clause-trusts
returns-clause-trusts g c =
    let s = c.args.self.now in
    let size = rw c.as_mut_slice-2.ensures.value at c.firm_free.ensures.blocks_size in
    let blocks = with_items_is s.blocks c.firm_free.new.blocks (size ∙ sym s.blocks.ok.0) in
    let trusts = rw c.as_mut_slice-2.ensures.value at c.in_ok-firm_free.ensures.trusts in
    subst (λ ys. TrustsMore s.blocks.items ys) (sym blocks) trusts

pub returns-clause-erases : goal.returns-clause-erases
returns-clause-erases g c =
    let s = c.args.self.now in
    let size = rw c.as_mut_slice-2.ensures.value at c.firm_free.ensures.blocks_size in
    let blocks = with_items_is s.blocks c.firm_free.new.blocks (size ∙ sym s.blocks.ok.0) in
    let trusts = rw c.as_mut_slice-2.ensures.value at c.in_ok-firm_free.ensures.trusts in
    subst (λ ys. KeepsErases (data_blocks s.slots.memory) (erases_of s.blocks.items) (erases_of ys)) (sym blocks)
    (subst (λ n. KeepsErases n (erases_of s.blocks.items) (erases_of c.firm_free.new.blocks)) s.stocked.blocks_size (trusts-erases s.blocks.items c.firm_free.new.blocks trusts))

pub returns-clause-next : goal.returns-clause-next
returns-clause-next g c =
    let s = c.args.self.now in
    let size = rw c.as_mut_slice-2.ensures.value at c.firm_free.ensures.blocks_size in
    let blocks = with_items_is s.blocks c.firm_free.new.blocks (size ∙ sym s.blocks.ok.0) in
    subst (λ ys. GivesTrusted c.firm_free.new.at.policy c.firm_free.new.at ys c.firm_free.new.slots.memory) (sym blocks) c.in_ok-firm_free.ensures.next

pub returns-clause-made : goal.returns-clause-made
returns-clause-made g c =
    let s = c.args.self.now in
    let size = rw c.as_mut_slice-2.ensures.value at c.firm_free.ensures.blocks_size in
    let blocks = with_items_is s.blocks c.firm_free.new.blocks (size ∙ sym s.blocks.ok.0) in
    let made = rw c.as_mut_slice-2.ensures.value at c.in_ok-firm_free.ensures.made in
    subst (λ ys. MadeTrusted s.blocks.items ys s.slots.memory c.firm_free.new.slots.memory) (sym blocks) made

pub returns-clause-firm : goal.returns-clause-firm
returns-clause-firm g c h =
    let s = c.args.self.now in
    let size = rw c.as_mut_slice-2.ensures.value at c.firm_free.ensures.blocks_size in
    let blocks = with_items_is s.blocks c.firm_free.new.blocks (size ∙ sym s.blocks.ok.0) in
    subst (λ ys. IsFirmIn (bits_in c.firm_free.new.slots) ys) (sym blocks)
    (c.in_ok-firm_free.ensures.firm (subst (λ ys. IsFirmIn (bits_in s.slots) ys) (sym c.as_mut_slice-2.ensures.value) h))
