use Rattle.std.proofs.Common.{◌+◌, ◌∙◌, ap, arith}
use Rattle.std.proofs.lemmas.Result.{err_from_is_err_and}
use Rattle.nor_driver.specs.State.{changed_whole}
use Rattle.nor_layout.specs.Kinds.{kind_of}
use Rattle.erase_journal.proofs.BlockLaws.{length-block}
use Rattle.sector_slots.specs.Slots.{data_block}
use Rattle.journal_slots.proofs.Bytes.{mark-only, state-only, commit-cut}
use Rattle.journal_slots.proofs.mark.commit_mark.Goals as goal

pub returns-in_err-program-clause-cut : goal.returns-in_err-program-clause-cut
returns-in_err-program-clause-cut g c is source h =
    let p = err_from_is_err_and c.from_residual.result c.from_residual.ensures.1 in
    commit-cut c.args.target source c.args.journal.now.memory c.program.new.self.memory (length-block c.args.journal.now.memory (c.args.target + 4) (omega (arith, c.requires.target))) h
    (c.in_err-program.ensures.cut (cc (p.1, p.2)))

pub returns-in_err-program-clause-cut_only : goal.returns-in_err-program-clause-cut_only
returns-in_err-program-clause-cut_only g c is =
    let p = err_from_is_err_and c.from_residual.result c.from_residual.ensures.1 in
    mark-only c.args.target c.args.journal.now.memory c.program.new.self.memory c.in_err-program.ensures.only
    (state-only (data_block c.args.journal.now.memory c.args.target) (data_block c.program.new.self.memory c.args.target) 252 (length-block c.args.journal.now.memory (c.args.target + 4) (omega (arith, c.requires.target)))
    (c.in_err-program.ensures.cut (cc (p.1, p.2))))

pub returns-clause-ok : goal.returns-clause-ok
returns-clause-ok g c source begun =
    ap kind_of c.in_ok-program.ensures.ok ∙ begun.once

pub returns-clause-only : goal.returns-clause-only
returns-clause-only g c =
    mark-only c.args.target c.args.journal.now.memory c.program.new.self.memory c.in_ok-program.ensures.only
    (state-only (data_block c.args.journal.now.memory c.args.target) (data_block c.program.new.self.memory c.args.target) 252 (length-block c.args.journal.now.memory (c.args.target + 4) (omega (arith, c.requires.target)))
    (changed_whole c.in_ok-program.ensures.ok))
