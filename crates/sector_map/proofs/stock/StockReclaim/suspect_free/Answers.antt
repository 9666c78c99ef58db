use Rattle.std.proofs.Common.{◌∙◌, length, sym, subst}
use Rattle.std.proofs.lemmas.List.{with_items_is}
use Rattle.sector_stock.specs.Index.{IsStocked, Suspects}
use Rattle.sector_stock.proofs.Firming.{stocked-suspects}
use Rattle.sector_map.proofs.stock.StockReclaim.suspect_free.Goals as goal

pub invariant_of-self : goal.invariant_of-self
invariant_of-self g c =
    let s = c.args.self.now in
    let h = rw c.as_mut_slice.ensures.value at c.suspect_all.ensures in
    let blocks = with_items_is s.blocks c.suspect_all.new.blocks (h.size ∙ sym s.blocks.ok.0) in
    record {
      stocked = subst (λ ys. IsStocked s.states.items ys s.at s.indexed s.slots.memory) (sym blocks)
          (stocked-suspects s.slots.memory s.states.items s.blocks.items c.suspect_all.new.blocks s.at s.indexed h s.stocked);
    }

pub returns-clause-suspect : goal.returns-clause-suspect
returns-clause-suspect g c =
    let s = c.args.self.now in
    let h = rw c.as_mut_slice.ensures.value at c.suspect_all.ensures in
    let blocks = with_items_is s.blocks c.suspect_all.new.blocks (h.size ∙ sym s.blocks.ok.0) in
    subst (λ ys. Suspects (length s.blocks.items) s.blocks.items ys) (sym blocks) h
