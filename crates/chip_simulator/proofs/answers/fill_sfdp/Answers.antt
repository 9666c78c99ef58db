use Rattle.std.proofs.Common.{◌≡◌, ℕ, ◌<◌, ◌+◌, ◌%◌, ◌∙◌, sym, ap, arith, inl, inr}
use Rattle.std.proofs.lemmas.Bool.{cases_eq}
use Rattle.std.proofs.lemmas.List.{get_or-set_other}
use Rattle.std.proofs.lemmas.Grind.{get_or-set_at}
use Rattle.chip_model.specs.Memory.{byte}
use Rattle.chip_simulator.specs.Table.{sfdp_byte, sfdp_table}
use Rattle.chip_simulator.specs.TableLaws.{get-sfdp_table}
use Rattle.chip_simulator.proofs.answers.fill_sfdp.Goals as goal

pub loop-k-preserved : goal.loop-k-preserved
loop-k-preserved c = λ j low.
    let n = c.loop-k.k in
    let here : (c.args.at % 256 + n % 256) % 256 ≡ (c.args.at + n) % 256 = omega arith in
    let small : (c.args.at + n) % 256 < 256 = omega arith in
    let written : c.sfdp_byte.result ≡ byte (sfdp_table c.args.size c.args.spoiled) ((c.args.at + n) % 256) =
    c.sfdp_byte.ensures ∙ (ap (λ (k : ℕ). sfdp_byte c.args.size c.args.spoiled k) here ∙ sym (get-sfdp_table c.args.size c.args.spoiled ((c.args.at + n) % 256) small)) in
    elim (cases_eq j n) [
      | inl same ↦ get_or-set_at c.loop-k.recv n j c.sfdp_byte.result 0 same (omega arith) ∙ (written ∙ ap (λ (k : ℕ). byte (sfdp_table c.args.size c.args.spoiled) ((c.args.at + k) % 256)) (sym same))
      | inr other ↦ get_or-set_other c.loop-k.recv n j c.sfdp_byte.result 0 other ∙ c.loop-k.invariant j (omega (arith, other))
    ]
