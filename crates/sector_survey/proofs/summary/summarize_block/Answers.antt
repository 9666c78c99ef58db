use Rattle.std.proofs.Common.{◌∙◌}
use Rattle.sector_survey.proofs.Counting.{free-of, live-of}
use Rattle.sector_survey.proofs.summary.summarize_block.Goals as goal

pub returns-clause-summary : goal.returns-clause-summary
returns-clause-summary g c =
    let m = (g.S.SlotCalls.state c.args.slots.now).memory in
    record {
      kind = c.in_ok-kind.ensures.ok;
      free = c.count_free.ensures ∙ free-of m c.args.block c.head.new.into c.in_ok-kind.ensures.slots;
      live = c.count_live.ensures ∙ live-of m c.args.block c.head.new.into c.in_ok-kind.ensures.slots;
    }
