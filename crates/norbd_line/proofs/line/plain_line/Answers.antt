use Rattle.std.proofs.Common.{ap, codes, option_map, refl, subst, sym, ◌∙◌}
use Rattle.clap.specs.Words.{found_of, rows_of}
use Rattle.clap.proofs.WalkLemmas.{one_text-rows}
use Rattle.norbd_line.specs.Line.{IsSet, number_of}
use Rattle.norbd_line.proofs.Flags.{not-twice}
use Rattle.norbd_line.proofs.line.plain_line.Goals as goal

pub returns-in-Some-clause-line : goal.returns-in-Some-clause-line
returns-in-Some-clause-line c =
    let rows = rows_of (found_of c.args.matches.now) in (
      refl,
      ap (option_map number_of) (sym (one_text-rows (found_of c.args.matches.now) (codes "sectors"))) ∙ c.in-Some.ensures.text,
      subst (IsSet (codes "no-record") rows) (sym (not-twice c.flag-record.result)) c.flag-record.ensures,
    )
