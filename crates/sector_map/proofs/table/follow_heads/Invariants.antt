use Rattle.sector_map.specs.Scan.{Follows}
use Rattle.sector_map.proofs.table.follow_heads.Given as goal

abbrev pub invariant-loop-place : goal.invariant-loop-place
invariant-loop-place l = record {
  follows : Follows l.place l.fn.block l.fn.heads l.fn.table l.table;
}
