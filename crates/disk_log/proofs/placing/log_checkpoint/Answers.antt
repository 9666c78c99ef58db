use Rattle.std.proofs.Common.{sym}
use Rattle.std.specs.Prelude.{◌-◌, ◌/◌, length}
use Rattle.disk_log.proofs.Growing.{Made}
use Rattle.disk_log.proofs.Settles.{checkpoint-logged, checkpoint-unlogged, checkpoint-kept, checkpoint-unkept}
use Rattle.disk_log.proofs.placing.log_checkpoint.Goals as goal

pub returns-in-Ok : goal.returns-in-Ok
returns-in-Ok g c =
    let h = c.head_of.ensures in
    let made : Made c.head_of.result.0 c.args.body.now 2 0 ((length c.args.body.now - 8) / 4104) c.args.before c.head_of.result.1 =
    record { long = h.len; len = sym c.requires.body.len; kind_is = h.kind; first_is = h.first; count_is = h.count; sum_is = h.sum; over = h.over } in
    record {
      logs = checkpoint-logged c.args.was.now c.args.is.now c.args.body.now c.head_of.result.0 c.args.before c.head_of.result.1 c.requires.same c.requires.body made
          _ _ _ _ _ _ _ c.requires.begun c.in-Ok.ensures c.sync_log.ensures;
      kept = checkpoint-kept c.args.was.now c.args.is.now c.args.body.now c.head_of.result.0 c.args.before c.head_of.result.1 c.requires.same c.requires.body made
          _ _ _ _ _ _ _ c.requires.begun c.in-Ok.ensures c.sync_log.ensures;
    }

pub returns-in-Err : goal.returns-in-Err
returns-in-Err g c =
    let h = c.head_of.ensures in
    let made : Made c.head_of.result.0 c.args.body.now 2 0 ((length c.args.body.now - 8) / 4104) c.args.before c.head_of.result.1 =
    record { long = h.len; len = sym c.requires.body.len; kind_is = h.kind; first_is = h.first; count_is = h.count; sum_is = h.sum; over = h.over } in
    record {
      logs = checkpoint-unlogged c.args.was.now c.args.is.now c.args.body.now c.head_of.result.0 c.args.before c.head_of.result.1 c.requires.same c.requires.body made
          _ _ _ _ _ _ _ _ c.requires.begun c.in-Err.ensures;
      kept = checkpoint-unkept c.args.was.now c.args.is.now c.args.body.now c.head_of.result.0 c.args.before c.head_of.result.1 c.requires.same c.requires.body made
          _ _ _ _ _ c.requires.begun c.in-Err.ensures;
    }
