use Rattle.std.proofs.Common.{◌∙◌, sym, subst}
use Rattle.disk_log.specs.Checkpoints.{IsCheckpointBody}
use Rattle.disk_log.proofs.Settles.{settles, unsettled, logged-blocks, unplaced-settles, emptied-on, unbegun-settles}
use Rattle.disk_log.proofs.placing.settle_files.Goals as goal

pub log_checkpoint-requires-clause-body : goal.log_checkpoint-requires-clause-body
log_checkpoint-requires-clause-body g c = subst (λ v. IsCheckpointBody c.args.was.now c.args.is.now v) (sym c.as_slice-body.ensures.value) c.in-Ok.ensures

pub returns-in_err-log_checkpoint-clause-settles : goal.returns-in_err-log_checkpoint-clause-settles
returns-in_err-log_checkpoint-clause-settles g c =
    let w = subst (λ v. IsCheckpointBody c.args.was.now c.args.is.now v) (sym c.as_slice-body.ensures.value) c.in-Ok.ensures in
    unsettled c.args.was.now c.args.is.now c.as_slice-body.result.now c.args.sum.now w _ _ _ _ _ _ c.from_residual.ensures.0 _ _ _ c.in_err-log_checkpoint.ensures.logs

pub place_blocks-requires-clause-there : goal.place_blocks-requires-clause-there
place_blocks-requires-clause-there g c =
    let w = subst (λ v. IsCheckpointBody c.args.was.now c.args.is.now v) (sym c.as_slice-body.ensures.value) c.in-Ok.ensures in
    logged-blocks c.args.was.now c.args.is.now c.as_slice-body.result.now c.args.sum.now w _ _ _ _ _ c.in_ok-log_checkpoint.ensures.logs

pub returns-in_err-place_blocks-clause-settles : goal.returns-in_err-place_blocks-clause-settles
returns-in_err-place_blocks-clause-settles g c =
    let w = subst (λ v. IsCheckpointBody c.args.was.now c.args.is.now v) (sym c.as_slice-body.ensures.value) c.in-Ok.ensures in
    unplaced-settles c.args.was.now c.args.is.now c.as_slice-body.result.now c.args.sum.now w _ _ _ _ _ _ _ c.from_residual-in_err-place_blocks.ensures.0 _ _ _ _
    c.requires.begun c.in_ok-log_checkpoint.ensures.logs c.in_err-place_blocks.ensures.empties

pub begin_log-requires-clause-sum : goal.begin_log-requires-clause-sum
begin_log-requires-clause-sum g c =
    let w = subst (λ v. IsCheckpointBody c.args.was.now c.args.is.now v) (sym c.as_slice-body.ensures.value) c.in-Ok.ensures in
    c.read_sum.ensures ∙ w.sum

pub begin_log-requires-clause-empty : goal.begin_log-requires-clause-empty
begin_log-requires-clause-empty g c =
    let w = subst (λ v. IsCheckpointBody c.args.was.now c.args.is.now v) (sym c.as_slice-body.ensures.value) c.in-Ok.ensures in
    emptied-on c.args.was.now c.args.is.now c.as_slice-body.result.now c.args.sum.now w _ _ _ _ _ _ c.requires.begun c.in_ok-log_checkpoint.ensures.logs c.in_ok-place_blocks.ensures.empties

pub returns-in_err-sum-clause-settles : goal.returns-in_err-sum-clause-settles
returns-in_err-sum-clause-settles g c =
    let w = subst (λ v. IsCheckpointBody c.args.was.now c.args.is.now v) (sym c.as_slice-body.ensures.value) c.in-Ok.ensures in
    unbegun-settles c.args.was.now c.args.is.now c.as_slice-body.result.now c.args.sum.now w _ _ _ _ _ _ _ c.from_residual-in_err-sum.ensures.0 _ _ _ _ _
    c.requires.begun c.in_ok-log_checkpoint.ensures.logs c.in_ok-place_blocks.ensures.empties c.in_err-sum.ensures.takes

pub returns-clause-settles : goal.returns-clause-settles
returns-clause-settles g c =
    let w = subst (λ v. IsCheckpointBody c.args.was.now c.args.is.now v) (sym c.as_slice-body.ensures.value) c.in-Ok.ensures in
    settles c.args.was.now c.args.is.now c.as_slice-body.result.now c.args.sum.now w _ _ _ _ _ _ _ _ _ _ _
    c.requires.begun c.in_ok-log_checkpoint.ensures.logs c.in_ok-place_blocks.ensures.empties c.in_ok-sum.ensures.takes

pub returns-in_err-log_checkpoint-clause-kept : goal.returns-in_err-log_checkpoint-clause-kept
returns-in_err-log_checkpoint-clause-kept g c = c.in_err-log_checkpoint.ensures.kept

pub returns-in_err-place_blocks-clause-kept : goal.returns-in_err-place_blocks-clause-kept
returns-in_err-place_blocks-clause-kept g c represents k = c.in_err-place_blocks.ensures.kept represents

pub returns-in_err-sum-clause-kept : goal.returns-in_err-sum-clause-kept
returns-in_err-sum-clause-kept g c represents k = c.in_err-sum.ensures.kept represents

pub returns-clause-kept : goal.returns-clause-kept
returns-clause-kept g c represents k = c.in_ok-sum.ensures.kept represents
