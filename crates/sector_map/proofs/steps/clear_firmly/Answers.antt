use Rattle.std.proofs.Common.{sym, subst}
use Rattle.sector_slots.specs.Sectors.{zeros}
use Rattle.sector_map.specs.Replace.{HeldBy}
use Rattle.sector_map.proofs.Retiring.{table-holder}
use Rattle.sector_map.proofs.SetLosses.{absent-zeros, keeps-sets}
use Rattle.sector_map.proofs.steps.clear_firmly.Goals as goal

pub returns-in-None-clause-firmly : goal.returns-in-None-clause-firmly
returns-in-None-clause-firmly g c =
    let a = g.S.SlotCalls.state c.args.stock.now in
    let s = c.requires.served in
    let none = subst (λ o. HeldBy o c.args.sector a.memory) (sym c.in-None.ensures) (table-holder c.args.table.now a.memory c.args.sector s.tabled c.requires.number) in
    keeps-sets c.args.sector zeros c.clear_levelled.result a (g.S.SlotCalls.state c.clear_levelled.new.stock) (g.S.Reclaim.counts c.args.stock.now) (g.S.Reclaim.counts c.clear_levelled.new.stock) (c.clear_levelled.ensures.firmly (absent-zeros c.args.sector a.memory s.store.slots none))
