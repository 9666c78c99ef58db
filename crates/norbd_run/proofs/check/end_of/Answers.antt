use Rattle.std.proofs.Common.{◌≡◌, ◌∙◌, sym, subst, ap, true, false}
use Rattle.std.specs.Prelude.{Option, Some, None}
use Rattle.sector_survey.specs.Cleanness.{Judges, is_clean}
use Rattle.norbd_run.specs.Opening.{IsCheckedClean}
use Rattle.norbd_run.proofs.Opening.{judged-clean, judged-copying, report-judges}
use Rattle.norbd_run.proofs.check.end_of.Goals.{in-Some-true, in-None+in-Ok+in_ok-copied_disk-in-None}
use Rattle.norbd_run.proofs.check.end_of.Goals as goal

pub returns-in-Some-false-clause-reason : goal.returns-in-Some-false-clause-reason
returns-in-Some-false-clause-reason c =
    let m = c.args.image.now in
    let h = report-judges c.args.report.now.verdict c.args.report.now.cleanness c.in-Mountable.field-0 c.in-Some.says m c.requires.report.verdict c.requires.report.cleanness c.in-Mountable.is c.in-Some.is in
    let is : is_clean c.in-Some.says ≡ Some false = sym c.in-Some-false.ensures ∙ ap Some c.in-Some-false.field-0-test in
    (h.0, subst (λ z. Judges z m) is h.1)

pub returns-clause-clean : goal.returns-clause-clean
returns-clause-clean c =
    let m = c.args.image.now in
    let h = report-judges c.args.report.now.verdict c.args.report.now.cleanness c.in-Mountable.field-0 c.in-Some.says m c.requires.report.verdict c.requires.report.cleanness c.in-Mountable.is c.in-Some.is in
    elim c.match-is_clean.branch as (λ _. IsCheckedClean c.sectors_of.result m) [
      | in-Some-true w ↦
          let is : is_clean c.in-Some.says ≡ Some true = sym w.in-Some-true.ensures ∙ ap Some w.in-Some-true.field-0-test in
          judged-clean m h.0 (subst (λ z. Judges z m) is h.1) c.sectors_of.result c.sectors_of.ensures
      | in-None+in-Ok+in_ok-copied_disk-in-None w ↦
          let is : is_clean c.in-Some.says ≡ None = sym w.in-None.ensures in
          judged-copying m h.0 (subst (λ z. Judges z m) is h.1) c.sectors_of.result c.sectors_of.ensures
    ]
