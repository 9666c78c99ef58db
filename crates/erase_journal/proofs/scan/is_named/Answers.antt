use Rattle.std.proofs.Common.{refl, sym, ◌∙◌}
use Rattle.erase_journal.proofs.Scans.{named-found}
use Rattle.erase_journal.proofs.scan.is_named.Goals as goal

pub returns-then-named-block : goal.returns-then-named-block
returns-then-named-block c =
    (λ t. named-found c.args.bytes.now c.args.blocks c.args.count c.loop-entry.entry c.args.block c.loop-entry-test.true c.in-Some.ensures.none (sym c.in-Some.ensures.block ∙ c.if-named-block.true), λ some. refl)
