use Rattle.disk_log.proofs.Starts.{kept-err, keeps-image}
use Rattle.disk_log.proofs.Cutting.{records-needless, records-taken, records-uncut}
use Rattle.disk_log.proofs.taking.take_records.Goals as goal

pub returns-in_err-sync_image : goal.returns-in_err-sync_image
returns-in_err-sync_image g c = kept-err _ c.args.image.now _ c.from_residual.ensures.0 _ _ (keeps-image _ _ _ _ _ c.in_err-sync_image.ensures)

pub cut_log-requires : goal.cut_log-requires
cut_log-requires g c = records-needless c.args.sectors c.args.len c.args.sum c.args.image.now c.args.log.now _ _ _ _ _ c.requires c.in_ok-sync_image.ensures

pub returns-in_err-cut_log : goal.returns-in_err-cut_log
returns-in_err-cut_log g c =
    records-uncut c.args.sectors c.args.len c.args.sum c.args.image.now c.args.log.now _ _ _ _ _ _ _ c.from_residual-in_err-cut_log.ensures.0 _ _ _ c.requires c.in_ok-sync_image.ensures c.in_err-cut_log.ensures

pub returns : goal.returns
returns g c =
    records-taken c.args.sectors c.args.len c.args.sum c.args.image.now c.args.log.now _ _ _ _ _ _ _ _ _ c.requires c.in_ok-sync_image.ensures c.in_ok-cut_log.ensures
