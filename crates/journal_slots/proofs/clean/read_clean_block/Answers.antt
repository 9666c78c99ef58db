use Rattle.std.proofs.Common.{◌+◌, subst, sym, arith}
use Rattle.erase_journal.proofs.BlockLaws.{length-block}
use Rattle.sector_slots.specs.Slots.{data_block}
use Rattle.journal_slots.specs.Clean.{IsCleanBlock}
use Rattle.journal_slots.proofs.Cleaning.{whole-read}
use Rattle.journal_slots.proofs.clean.read_clean_block.Goals as goal

pub returns-clause-clean : goal.returns-clause-clean
returns-clause-clean g c is =
    let m = c.args.journal.now.memory in
    subst (λ q. IsCleanBlock q) (whole-read (data_block m c.args.block) c.read.new.into (length-block m (c.args.block + 4) (omega (arith, c.requires.number))) c.in_ok-read.ensures.ok) (c.is_clean_block.ensures.clean is)

pub returns-clause-not_clean : goal.returns-clause-not_clean
returns-clause-not_clean g c is w =
    let m = c.args.journal.now.memory in
    c.is_clean_block.ensures.not_clean is (subst (λ q. IsCleanBlock q) (sym (whole-read (data_block m c.args.block) c.read.new.into (length-block m (c.args.block + 4) (omega (arith, c.requires.number))) c.in_ok-read.ensures.ok)) w)
