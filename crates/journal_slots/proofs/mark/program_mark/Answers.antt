use Rattle.std.proofs.Common.{◌+◌, arith}
use Rattle.std.proofs.lemmas.Result.{err_from_is_err_and}
use Rattle.nor_driver.specs.State.{changed_whole}
use Rattle.erase_journal.specs.Blocks.{block}
use Rattle.erase_journal.proofs.BlockLaws.{length-block}
use Rattle.journal_slots.proofs.Marks.{mark-leaves, begin-leaves, plain-bytes, mark-state, mark-begun, mark-once}
use Rattle.journal_slots.proofs.mark.program_mark.Goals as goal

pub returns-in_err-program-clause-cut_only : goal.returns-in_err-program-clause-cut_only
returns-in_err-program-clause-cut_only g c is =
    let p = err_from_is_err_and c.from_residual.result c.from_residual.ensures.1 in
    mark-leaves c.args.target c.args.journal.now.memory c.program.new.self.memory c.args.mark.now (length-block c.args.journal.now.memory (c.args.target + 4) (omega (arith, c.requires.target))) c.requires.mark
    c.in_err-program.ensures.only (c.in_err-program.ensures.cut (cc (p.1, p.2)))

pub returns-clause-only : goal.returns-clause-only
returns-clause-only g c =
    mark-leaves c.args.target c.args.journal.now.memory c.program.new.self.memory c.args.mark.now (length-block c.args.journal.now.memory (c.args.target + 4) (omega (arith, c.requires.target))) c.requires.mark
    c.in_ok-program.ensures.only (changed_whole c.in_ok-program.ensures.ok)

pub returns-in_err-program-clause-cut : goal.returns-in_err-program-clause-cut
returns-in_err-program-clause-cut g c is plain =
    let p = err_from_is_err_and c.from_residual.result c.from_residual.ensures.1 in
    let b = block c.args.journal.now.memory (c.args.target + 4) in
    begin-leaves b c.args.mark.now (block c.program.new.self.memory (c.args.target + 4)) (length-block c.args.journal.now.memory (c.args.target + 4) (omega (arith, c.requires.target))) c.requires.mark
    c.requires.begun (plain-bytes b plain) (c.in_err-program.ensures.cut (cc (p.1, p.2)))

pub returns-clause-ok : goal.returns-clause-ok
returns-clause-ok g c plain =
    let b = block c.args.journal.now.memory (c.args.target + 4) in
    let t = block c.program.new.self.memory (c.args.target + 4) in
    let n = length-block c.args.journal.now.memory (c.args.target + 4) (omega (arith, c.requires.target)) in
    record {
      state = mark-state b c.args.mark.now t n c.requires.mark c.requires.begun (plain-bytes b plain) c.in_ok-program.ensures.ok;
      void = mark-begun b c.args.mark.now t n c.requires.mark c.requires.begun (plain-bytes b plain) c.in_ok-program.ensures.ok;
      once = mark-once b c.args.mark.now t (c.args.source + 4) n c.requires.mark c.requires.begun (λ i. omega (arith, c.type_inv.mark i)) (plain-bytes b plain) c.in_ok-program.ensures.ok c.requires.names;
    }
