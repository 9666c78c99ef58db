use Rattle.std.proofs.Common.{◌∙◌, sym, inl, inr}
use Rattle.disk_log.proofs.Replays.{out-of}
use Rattle.disk_log.proofs.record.read_record.Goals as goal
use Rattle.disk_log.proofs.record.read_record.Goals.{then-head-gt1-via-then-head-gt1, then-head-gt1-via-else-head-gt1+then-head-sectors}

pub returns-then-head-gt1 : goal.returns-then-head-gt1
returns-then-head-gt1 c =
    out-of c.args.sectors c.args.before c.args.log.now c.in_ok-head.head (sym c.read_head.ensures ∙ c.in_ok-head.was)
    (elim c.then-head-gt1.branch [
      | then-head-gt1-via-then-head-gt1 w ↦ inl w.if-head-gt1.true
      | then-head-gt1-via-else-head-gt1+then-head-sectors w ↦ inr w.if-head-sectors.true
    ])
