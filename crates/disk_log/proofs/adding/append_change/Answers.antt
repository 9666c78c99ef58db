use Rattle.disk_log.proofs.Growing.{change-inside, Made}
use Rattle.disk_log.proofs.Held.{added, not-added}
use Rattle.disk_log.proofs.Orders.{added-kept}
use Rattle.disk_log.proofs.adding.append_change.Goals as goal

pub returns-in-Ok : goal.returns-in-Ok
returns-in-Ok g c =
    let h = c.head_of.ensures in
    let inside = change-inside c.args.kind c.args.first c.args.count c.args.body.now c.requires.len in
    let made : Made c.head_of.result.0 c.args.body.now c.args.kind c.args.first c.args.count c.args.sum.now c.head_of.result.1 = record { long = h.len; len = c.requires.len; kind_is = h.kind; first_is = h.first; count_is = h.count; sum_is = h.sum; over = h.over } in
    record {
      adds = added _ _ c.head_of.result.0 c.args.body.now c.args.kind c.args.first c.args.count c.args.sum.now c.head_of.result.1 made c.requires.kind inside _ _ _ c.in-Ok.ensures;
      kept = added-kept c.head_of.result.0 c.args.body.now c.args.kind c.args.first c.args.count c.args.sum.now c.head_of.result.1 made c.requires.kind inside _ _ _ _ _ c.in-Ok.ensures;
    }

pub returns-in-Err : goal.returns-in-Err
returns-in-Err g c =
    let h = c.head_of.ensures in
    let inside = change-inside c.args.kind c.args.first c.args.count c.args.body.now c.requires.len in
    let made : Made c.head_of.result.0 c.args.body.now c.args.kind c.args.first c.args.count c.args.sum.now c.head_of.result.1 = record { long = h.len; len = c.requires.len; kind_is = h.kind; first_is = h.first; count_is = h.count; sum_is = h.sum; over = h.over } in
    record {
      adds = not-added _ _ c.head_of.result.0 c.args.body.now c.args.kind c.args.first c.args.count c.args.sum.now c.head_of.result.1 _ made c.requires.kind inside _ _ _ c.in-Err.ensures;
      kept = added-kept c.head_of.result.0 c.args.body.now c.args.kind c.args.first c.args.count c.args.sum.now c.head_of.result.1 made c.requires.kind inside _ _ _ _ _ c.in-Err.ensures;
    }
