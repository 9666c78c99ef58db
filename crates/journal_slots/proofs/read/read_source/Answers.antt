use Rattle.std.proofs.Common.{◌+◌, arith}
use Rattle.erase_journal.proofs.BlockLaws.{length-block}
use Rattle.journal_slots.proofs.Reading.{source-read}
use Rattle.journal_slots.proofs.read.read_source.Goals as goal

pub returns-clause-named : goal.returns-clause-named
returns-clause-named g c source low begun =
    let m = c.args.journal.now.memory in
    c.marked_source.ensures.named source (omega (arith, low, c.blocks-blocks.ensures.count))
    (source-read c.args.target source m c.read.new.into (length-block m (c.args.target + 4) (omega (arith, c.requires.target))) c.in_ok-read.ensures.ok begun)
