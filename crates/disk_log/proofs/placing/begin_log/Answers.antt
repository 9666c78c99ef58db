use Rattle.std.proofs.Common.{◌∙◌, sym, subst, Ok}
use Rattle.disk_log.specs.Reading.{TakesUp}
use Rattle.disk_log.proofs.Settles.{log-begun, log-unbegun, log-unsynced, log-kept, synced-kept}
use Rattle.disk_log.proofs.placing.begin_log.Goals as goal

pub returns-in_err-append : goal.returns-in_err-append
returns-in_err-append g c =
    let h = c.log_head.ensures in
    let own = h.sum ∙ c.requires.sum in
    record {
      takes = log-unbegun c.args.image.now c.log_head.result h.len h.head own _ _ _ _ _ c.from_residual.ensures.0 _ _ c.requires.empty c.in_err-append.ensures;
      kept = log-kept c.args.image.now c.log_head.result h.len h.head own _ _ _ _ _ c.requires.empty c.in_err-append.ensures;
    }

pub returns-in_err-sync_log : goal.returns-in_err-sync_log
returns-in_err-sync_log g c =
    let h = c.log_head.ensures in
    let own = h.sum ∙ c.requires.sum in
    record {
      takes = log-unsynced c.args.image.now c.log_head.result h.len h.head own _ _ _ _ _ _ _ c.from_residual-in_err-sync_log.ensures.0 _ _ _ c.requires.empty c.in_ok-append.ensures c.in_err-sync_log.ensures;
      kept = synced-kept c.args.image.now c.log_head.result h.len h.head own _ _ _ _ _ _ _ _ c.requires.empty c.in_ok-append.ensures c.in_err-sync_log.ensures;
    }

pub returns : goal.returns
returns g c =
    let h = c.log_head.ensures in
    let own = h.sum ∙ c.requires.sum in
    record {
      takes = subst (λ v. TakesUp (g.F.ImageFiles.medium c.args.files.now) c.args.image.now (Ok v) (g.F.ImageFiles.medium c.sync_log.new.self)) (sym c.requires.sum)
          (log-begun c.args.image.now c.log_head.result h.len h.head own _ _ _ _ _ _ _ _ _ c.requires.empty c.in_ok-append.ensures c.in_ok-sync_log.ensures);
      kept = synced-kept c.args.image.now c.log_head.result h.len h.head own _ _ _ _ _ _ _ _ c.requires.empty c.in_ok-append.ensures c.in_ok-sync_log.ensures;
    }
