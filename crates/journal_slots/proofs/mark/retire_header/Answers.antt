use Rattle.std.proofs.Common.{◌+◌, arith}
use Rattle.std.proofs.lemmas.Result.{err_from_is_err_and}
use Rattle.erase_journal.proofs.BlockLaws.{length-block}
use Rattle.sector_slots.specs.Slots.{data_block}
use Rattle.journal_slots.proofs.Places.{retire-group, retire-group_cut}
use Rattle.journal_slots.proofs.mark.retire_header.Goals as goal

pub returns-in_err-program-clause-cut : goal.returns-in_err-program-clause-cut
returns-in_err-program-clause-cut g c is tag h =
    let p = err_from_is_err_and c.from_residual.result c.from_residual.ensures.1 in
    retire-group_cut (data_block c.args.journal.now.memory c.args.block) (data_block c.program.new.self.memory c.args.block) tag (length-block c.args.journal.now.memory (c.args.block + 4) (omega (arith, c.requires.number))) h
    (c.in_err-program.ensures.cut (cc (p.1, p.2)))

pub returns-clause-ok : goal.returns-clause-ok
returns-clause-ok g c tag h =
    retire-group (data_block c.args.journal.now.memory c.args.block) (data_block c.program.new.self.memory c.args.block) tag (length-block c.args.journal.now.memory (c.args.block + 4) (omega (arith, c.requires.number))) h c.in_ok-program.ensures.ok
