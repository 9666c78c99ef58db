use Rattle.std.proofs.Common.{subst}
use Rattle.std.specs.Prelude.{Some, None}
use Rattle.sector_map.specs.Replace.{IsReplaceable}
use Rattle.sector_map.proofs.Replacing.{ok-holder}
use Rattle.sector_map.proofs.SetLosses.{firmly-holder}
use Rattle.sector_map.proofs.steps.rewrite.Goals as goal

pub returns-in-Some-clause-ok : goal.returns-in-Some-clause-ok
returns-in-Some-clause-ok g c = ok-holder c.replace_held.result c.args.holder (Some c.in-Some.held) c.args.to c.args.sector c.args.content.now (g.S.SlotCalls.state c.args.stock.now).memory (g.S.SlotCalls.state c.replace_held.new.stock).memory c.in-Some.is c.replace_held.ensures.ok

pub returns-in-Some-clause-cut : goal.returns-in-Some-clause-cut
returns-in-Some-clause-cut g c is r = c.replace_held.ensures.cut is (subst (λ h. IsReplaceable c.args.to c.args.sector h (g.S.SlotCalls.state c.args.stock.now).memory) c.in-Some.is r)

pub returns-in-None-clause-ok : goal.returns-in-None-clause-ok
returns-in-None-clause-ok g c = ok-holder c.add.result c.args.holder None c.args.to c.args.sector c.args.content.now (g.S.SlotCalls.state c.args.stock.now).memory (g.S.SlotCalls.state c.add.new.stock).memory c.in-None.is c.add.ensures.ok

pub returns-in-None-clause-cut : goal.returns-in-None-clause-cut
returns-in-None-clause-cut g c is r = c.add.ensures.cut is (subst (λ h. IsReplaceable c.args.to c.args.sector h (g.S.SlotCalls.state c.args.stock.now).memory) c.in-None.is r)

pub returns-in-Some-clause-firmly : goal.returns-in-Some-clause-firmly
returns-in-Some-clause-firmly g c =
    firmly-holder c.replace_held.result c.args.holder (Some c.in-Some.held) c.args.to c.args.sector c.args.content.now (g.S.SlotCalls.state c.args.stock.now) (g.S.SlotCalls.state c.replace_held.new.stock) (g.S.Reclaim.counts c.args.stock.now) (g.S.Reclaim.counts c.replace_held.new.stock) c.in-Some.is c.replace_held.ensures.firmly

pub returns-in-None-clause-firmly : goal.returns-in-None-clause-firmly
returns-in-None-clause-firmly g c =
    firmly-holder c.add.result c.args.holder None c.args.to c.args.sector c.args.content.now (g.S.SlotCalls.state c.args.stock.now) (g.S.SlotCalls.state c.add.new.stock) (g.S.Reclaim.counts c.args.stock.now) (g.S.Reclaim.counts c.add.new.stock) c.in-None.is c.add.ensures.firmly
