use Rattle.std.proofs.Common.{drop, None}
use Rattle.disk_log.proofs.Entries.{emptied, needless, unplaced, unsynced}
use Rattle.disk_log.proofs.Orders.{emptied-kept, unplaced-kept, unsynced-kept}
use Rattle.disk_log.proofs.placing.place_blocks.Goals as goal

pub returns-in_err-write_blocks : goal.returns-in_err-write_blocks
returns-in_err-write_blocks g c =
    record {
      empties = unplaced _ _ _ _ _ c.args.count (drop 8 c.args.body.now) c.args.len _ c.from_residual.ensures.0 _ _ c.requires.there c.in_err-write_blocks.ensures;
      kept = unplaced-kept _ _ c.args.count (drop 8 c.args.body.now) c.args.len _ None None _ c.requires.there _ c.in_err-write_blocks.ensures;
    }

pub returns-in_err-sync_image : goal.returns-in_err-sync_image
returns-in_err-sync_image g c =
    record {
      empties = unsynced _ _ _ _ _ _ c.args.count (drop 8 c.args.body.now) c.args.len _ c.from_residual-in_err-sync_image.ensures.0 _ _ _ c.requires.there c.in_ok-write_blocks.ensures c.in_err-sync_image.ensures;
      kept = unsynced-kept _ _ c.args.count (drop 8 c.args.body.now) c.args.len _ _ None _ c.requires.there _ _ c.in_ok-write_blocks.ensures c.in_err-sync_image.ensures;
    }

pub cut_log-requires : goal.cut_log-requires
cut_log-requires g c = needless _ _ _ c.args.count (drop 8 c.args.body.now) c.args.len _ _ _ c.requires.there c.in_ok-write_blocks.ensures c.in_ok-sync_image.ensures

pub returns : goal.returns
returns g c =
    record {
      empties = emptied _ _ _ c.args.count (drop 8 c.args.body.now) c.args.len _ _ _ _ _ c.requires.there c.in_ok-write_blocks.ensures c.in_ok-sync_image.ensures c.cut_log.ensures;
      kept = emptied-kept _ _ c.args.count (drop 8 c.args.body.now) c.args.len _ _ _ _ c.requires.there _ _ c.in_ok-write_blocks.ensures c.in_ok-sync_image.ensures c.cut_log.ensures;
    }
