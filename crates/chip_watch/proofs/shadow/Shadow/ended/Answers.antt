use Rattle.std.proofs.Common.{◌∙◌, sym}
use Rattle.std.proofs.lemmas.Bool.{cond-true}
use Rattle.chip_watch.proofs.shadow.Shadow.ended.Goals as goal

pub returns-then-is_idle : goal.returns-then-is_idle
returns-then-is_idle c = λ m. sym (cond-true _ _ _ (sym c.is_idle.ensures ∙ c.if-is_idle.true))
