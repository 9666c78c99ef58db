use Rattle.std.proofs.Common.{◌≡◌, ℕ, ◌∙◌, List, Ok, length, is_ok, sym, ap, subst}
use Rattle.std.proofs.lemmas.Bool.{and_from, and_right}
use Rattle.std.proofs.lemmas.Result.{IfOk-at_ok}
use Rattle.sfdp.specs.Params.{params_of}
use Rattle.sfdp.specs.declared.params.Params.{Params}
use Rattle.chip_model.specs.Chip.{Chip}
use Rattle.chip_model.specs.Frames.{Receives, command_of}
use Rattle.chip_model.specs.Geometry.{IsChipSize}
use Rattle.nor_driver.proofs.Sizes.{size_accepted}
use Rattle.nor_driver.proofs.Tell.{table_back}
use Rattle.serprog_chip.proofs.erasing.free_size.Goals as goal

pub returns-in-Ok-clause-some : goal.returns-in-Ok-clause-some
returns-in-Ok-clause-some g c =
    let mid = g.B.SpiBus.chip c.is_free.new.bus in
    let answers = subst (λ (s : List ℕ). Receives mid (command_of s) c.ask.new.into) (c.deref.ensures.0 ∙ c.sfdp.ensures) c.in_ok-ask.ensures.answers in
    let law = g.met.B.SpiBus.lawful c.is_free.new.bus in
    let back : c.ask.new.into ≡ mid.sfdp = table_back mid c.ask.new.into law c.ask.auto.into answers in
    let is : params_of mid.sfdp ≡ Ok c.in-Ok.params = ap params_of (sym back) ∙ (sym c.read_params.ensures ∙ c.in-Ok.is) in
    let first = c.in_ok-is_free.ensures.chip in (
      IfOk-at_ok (λ (q : Params). q.bytes ≡ length mid.memory) is law.size ∙ ap (λ (x : Chip). length x.memory) first,
      IfOk-at_ok (λ (q : Params). IsChipSize q.bytes) is (size_accepted mid.sfdp),
      and_from _ _ (sym c.in_ok-is_free.ensures.value ∙ c.if-not-branch.false) (ap (λ (x : Chip). is_ok (params_of x.sfdp)) (sym first) ∙ ap is_ok is),
    )

pub returns-in-Err-clause-none : goal.returns-in-Err-clause-none
returns-in-Err-clause-none g c =
    let mid = g.B.SpiBus.chip c.is_free.new.bus in
    let answers = subst (λ (s : List ℕ). Receives mid (command_of s) c.ask.new.into) (c.deref.ensures.0 ∙ c.sfdp.ensures) c.in_ok-ask.ensures.answers in
    let law = g.met.B.SpiBus.lawful c.is_free.new.bus in
    let back : c.ask.new.into ≡ mid.sfdp = table_back mid c.ask.new.into law c.ask.auto.into answers in
    let is = ap params_of (sym back) ∙ (sym c.read_params.ensures ∙ c.in-Err.is) in
    and_right _ _ (ap (λ (x : Chip). is_ok (params_of x.sfdp)) (sym c.in_ok-is_free.ensures.chip) ∙ ap is_ok is)
