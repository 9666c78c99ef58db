use Rattle.disk_log.proofs.Starts.{kept-on, kept-err, keeps-image, blank-needless, blank-cut, blank-empty}
use Rattle.disk_log.proofs.taking.begin_anew.Goals as goal

pub returns-in_err-sync_image : goal.returns-in_err-sync_image
returns-in_err-sync_image g c = kept-err _ c.args.image.now _ c.from_residual.ensures.0 _ _ (keeps-image _ _ _ _ _ c.in_err-sync_image.ensures)

pub cut_log-requires : goal.cut_log-requires
cut_log-requires g c = blank-needless _ _ _ c.args.image.now _ _ c.requires c.in_ok-sync_image.ensures

pub returns-in_err-cut_log : goal.returns-in_err-cut_log
returns-in_err-cut_log g c = kept-err _ c.args.image.now _ c.from_residual-in_err-cut_log.ensures.0 _ _ (blank-cut _ _ _ _ _ c.args.image.now _ _ _ c.requires c.in_ok-sync_image.ensures c.in_err-cut_log.ensures)

pub begin_log-requires-clause-empty : goal.begin_log-requires-clause-empty
begin_log-requires-clause-empty g c = blank-empty _ _ _ _ _ c.args.image.now _ _ _ c.requires c.in_ok-sync_image.ensures c.in_ok-cut_log.ensures

pub returns : goal.returns
returns g c = kept-on _ c.args.image.now _ _ _ _ (blank-cut _ _ _ _ _ c.args.image.now _ _ _ c.requires c.in_ok-sync_image.ensures c.in_ok-cut_log.ensures) c.begin_log.ensures.takes
