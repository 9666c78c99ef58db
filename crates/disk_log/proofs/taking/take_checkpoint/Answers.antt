use Rattle.std.proofs.Common.{◌∙◌, drop, ap}
use Rattle.std.proofs.lemmas.List.{take_rest, drop-drop}
use Rattle.disk_log.proofs.Starts.{kept-on, kept-err, keeps-log, placed-blocks, emptied-keeps, emptied-empty, unplaced-err}
use Rattle.disk_log.proofs.taking.take_checkpoint.Goals as goal

pub returns-in_err-sync_log : goal.returns-in_err-sync_log
returns-in_err-sync_log g c = kept-err _ c.args.image.now _ c.from_residual.ensures.0 _ _ (keeps-log _ _ _ _ _ c.in_err-sync_log.ensures)

pub place_blocks-requires-clause-there : goal.place_blocks-requires-clause-there
place_blocks-requires-clause-there g c =
    placed-blocks _ _ _ c.args.image.now c.args.checkpoint.now c.number_at-count.result _ _ c.requires.long c.number_at-count.ensures c.requires.placed c.in_ok-sync_log.ensures

pub returns-in_err-place_blocks : goal.returns-in_err-place_blocks
returns-in_err-place_blocks g c =
    unplaced-err _ _ _ _ c.args.image.now _ _ _ c.from_residual-in_err-place_blocks.ensures.0 _ _ _ _ _ c.in_ok-sync_log.ensures c.in_err-place_blocks.ensures.empties

pub begin_log-requires-clause-empty : goal.begin_log-requires-clause-empty
begin_log-requires-clause-empty g c =
    let b = c.args.checkpoint.now in
    emptied-empty c.args.image.now b _ c.number_at-count.result c.number_at-count.ensures (ap (λ v. drop 8 v) (take_rest b 24) ∙ drop-drop 8 24 b)
    _ _ _ _ _ _ _ _ c.requires.placed c.in_ok-sync_log.ensures c.in_ok-place_blocks.ensures.empties

pub returns : goal.returns
returns g c =
    let b = c.args.checkpoint.now in
    let h = placed-blocks _ _ _ c.args.image.now b c.number_at-count.result _ _ c.requires.long c.number_at-count.ensures c.requires.placed c.in_ok-sync_log.ensures in
    kept-on _ c.args.image.now _ _ _ _
    (emptied-keeps c.args.image.now b _ c.number_at-count.result c.number_at-count.ensures (ap (λ v. drop 8 v) (take_rest b 24) ∙ drop-drop 8 24 b)
    _ _ _ _ _ _ _ _ c.requires.placed h c.in_ok-sync_log.ensures c.in_ok-place_blocks.ensures.empties)
    c.begin_log.ensures.takes
