use Rattle.std.proofs.Common.{◌≡◌, ◌*◌, ℕ, length, arith, rules, sym, subst, IfErr, Result}
use Rattle.chip_model.specs.Geometry.{IsChipSize}
use Rattle.nor_driver.specs.Probe.{told}
use Rattle.nor_driver.specs.declared.error.ProbeError.{ProbeError}
use Rattle.chip_simulator.specs.Sim.{chip_of, cuts_of}
use Rattle.flash_disk.specs.Formatted.{AnswersAsTold, FormatFails}
use Rattle.norbd_image.proofs.Accepted.{refused-of}
use Rattle.norbd_image.proofs.formatted.formatted_image.Goals as goal

pub returns-in-Ok-formatted-clause-image : goal.returns-in-Ok-formatted-clause-image
returns-in-Ok-formatted-clause-image c = search rules

pub returns-in-Err-clause-fault : goal.returns-in-Err-clause-fault
returns-in-Err-clause-fault c =
    let long : length c.in_ok-erased.erased.items ≡ 1024 * c.args.kib = (let e = c.in_ok-erased.ensures.len in omega (arith, e, c.in_ok-erased.erased.ok)) in
    let size : IsChipSize (length c.in_ok-erased.erased.items) = subst (λ (n : ℕ). IsChipSize n) (sym long) c.requires in
    let told_as = subst (λ (r : Result (Unit {0}) ProbeError). AnswersAsTold r (told (chip_of c.in-Ok.chip))) c.in-Err.is c.format-chip.ensures.told in
    let fails = subst (λ (r : Result (Unit {0}) ProbeError). IfErr r (λ e. FormatFails e (cuts_of c.in-Ok.chip) 0 (cuts_of c.format-chip.result.0) 0)) c.in-Err.is c.format-chip.ensures.fails in
    refused-of c.in-Err.error (chip_of c.in-Ok.chip) c.in_ok-erased.erased.items _ _ c.in-Ok.ensures.chip size told_as fails
