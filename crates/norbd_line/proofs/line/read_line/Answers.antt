use Rattle.norbd_line.specs.CommandLine.{texts_of}
use Rattle.norbd_line.proofs.Odd.{odd_is_refused}
use Rattle.norbd_line.proofs.line.read_line.Goals as goal

pub returns-clause-odd : goal.returns-clause-odd
returns-clause-odd c =
    let given = c.line_or_fault.ensures in
    odd_is_refused (texts_of c.args.words.now) c.line_or_fault.result given.range given.line given.fault
