use Rattle.std.proofs.Common.{◌+◌, arith}
use Rattle.std.proofs.lemmas.Result.{err_from_is_err_and}
use Rattle.sector_stock.proofs.Copying.{erased-found, settle-cut, erased-ends}
use Rattle.sector_stock.proofs.copy.end_erased.Goals as goal

pub returns-in_err-settle-clause-cut : goal.returns-in_err-settle-clause-cut
returns-in_err-settle-clause-cut g c is h spare =
    let p = err_from_is_err_and c.from_residual.result c.from_residual.ensures.1 in
    let m = (g.S.SlotCalls.state c.args.slots.now).memory in
    settle-cut c.args.source c.args.target m m (g.S.SlotCalls.state c.settle.new.self).memory (erased-found c.args.source c.args.target m h spare) (c.in_err-settle.ensures.cut_only (cc (p.1, p.2))) (c.in_err-settle.ensures.cut (cc (p.1, p.2)) (c.args.source + 4) h.committed)

pub returns-clause-ok : goal.returns-clause-ok
returns-clause-ok g c h spare =
    let m = (g.S.SlotCalls.state c.args.slots.now).memory in
    erased-ends c.args.source c.args.target m (g.S.SlotCalls.state c.settle.new.self).memory (erased-found c.args.source c.args.target m h spare) c.in_ok-settle.ensures.only (c.in_ok-settle.ensures.ok (c.args.source + 4) h.committed)

pub returns-clause-settles : goal.returns-clause-settles
returns-clause-settles g c = record { states = c.in_ok-settle.ensures.states; third = c.in_ok-settle.ensures.third }

pub returns-clause-alone : goal.returns-clause-alone
returns-clause-alone g c h = record {
  others = λ d low other again. c.in_ok-settle.ensures.only.only.others (d + 4) (omega arith) (omega (arith, low)) (λ e. other (omega (arith, e)));
  target = c.in_ok-settle.ensures.only.slots;
  settled = c.in_ok-settle.ensures.ok (c.args.source + 4) h.committed;
}
