use Rattle.std.proofs.Common.{rules}
use Rattle.nbd_share.proofs.recorder.FullRecordRecorder.add.Goals as goal

pub returns-clause-rows : goal.returns-clause-rows
returns-clause-rows c = search rules
