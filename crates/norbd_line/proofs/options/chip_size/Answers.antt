use Rattle.std.proofs.Common.{ap, codes, option_map, sym, ◌∙◌}
use Rattle.clap.specs.Words.{found_of}
use Rattle.clap.proofs.WalkLemmas.{one_text-rows}
use Rattle.norbd_line.specs.Line.{number_of}
use Rattle.norbd_line.proofs.options.chip_size.Goals as goal

pub returns-then-kib-ne0-clause-fault : goal.returns-then-kib-ne0-clause-fault
returns-then-kib-ne0-clause-fault c name takes =
    let number = ap (option_map number_of) (sym (one_text-rows (found_of c.args.matches.now) (codes "kib"))) ∙ c.in-Some.ensures.text in
    (takes, number, (c.in-Some.ensures.range.0, c.in-Some.ensures.range.1, c.if-kib-ne0.true))

pub returns-clause-number : goal.returns-clause-number
returns-clause-number c = ap (option_map number_of) (sym (one_text-rows (found_of c.args.matches.now) (codes "kib"))) ∙ c.in-Some.ensures.text
