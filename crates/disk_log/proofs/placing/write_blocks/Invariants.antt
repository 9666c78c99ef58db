use Rattle.std.proofs.Common.{drop}
use Rattle.disk_log.proofs.Entries.{Placing}
use Rattle.disk_log.proofs.placing.write_blocks.Given as goal

abbrev pub invariant-loop-k : goal.invariant-loop-k
invariant-loop-k g l = Placing l.count (drop 8 l.body) (g.F.ImageFiles.medium l.initial.files) l.k (g.F.ImageFiles.medium l.files)
