use Rattle.chip_model.specs.Wavering.{Bits}
use Rattle.std.proofs.Common.{◌+◌, ◌*◌, ◌∷◌, [], ◌∙◌, ◌≡◌, ap, subst, refl, inr, arith}
use Rattle.std.specs.Prelude.{bit_and}
use Rattle.std.specs.Int.{bit_at}
use Rattle.sector_slots.specs.Weak.{mark_place}
use Rattle.sector_slots.proofs.FirmLaws.{and-bit}
use Rattle.chip_model.specs.Memory.{byte, and_at}
use Rattle.chip_model.proofs.MemoryLaws.{placed-outside}
use Rattle.std.proofs.lemmas.Result.{err_from_is_err_and}
use Rattle.nor_driver.specs.State.{changed_whole}
use Rattle.erase_journal.proofs.BlockLaws.{length-block}
use Rattle.sector_slots.specs.Slots.{data_block}
use Rattle.journal_slots.proofs.Marks.{settle-mark}
use Rattle.journal_slots.proofs.Bytes.{mark-only, state-only, settle-cut}
use Rattle.journal_slots.proofs.mark.settle_mark.Goals as goal

pub returns-in_err-program-clause-cut : goal.returns-in_err-program-clause-cut
returns-in_err-program-clause-cut g c is source h =
    let p = err_from_is_err_and c.from_residual.result c.from_residual.ensures.1 in
    settle-cut c.args.target source c.args.journal.now.memory c.program.new.self.memory (length-block c.args.journal.now.memory (c.args.target + 4) (omega (arith, c.requires.target))) h
    (c.in_err-program.ensures.cut (cc (p.1, p.2)))

pub returns-in_err-program-clause-cut_only : goal.returns-in_err-program-clause-cut_only
returns-in_err-program-clause-cut_only g c is =
    let p = err_from_is_err_and c.from_residual.result c.from_residual.ensures.1 in
    mark-only c.args.target c.args.journal.now.memory c.program.new.self.memory c.in_err-program.ensures.only
    (state-only (data_block c.args.journal.now.memory c.args.target) (data_block c.program.new.self.memory c.args.target) 248 (length-block c.args.journal.now.memory (c.args.target + 4) (omega (arith, c.requires.target)))
    (c.in_err-program.ensures.cut (cc (p.1, p.2))))

pub returns-clause-ok : goal.returns-clause-ok
returns-clause-ok g c source k =
    settle-mark (data_block c.args.journal.now.memory c.args.target) (data_block c.program.new.self.memory c.args.target) source
    (length-block c.args.journal.now.memory (c.args.target + 4) (omega (arith, c.requires.target))) k c.in_ok-program.ensures.ok

pub returns-clause-only : goal.returns-clause-only
returns-clause-only g c =
    mark-only c.args.target c.args.journal.now.memory c.program.new.self.memory c.in_ok-program.ensures.only
    (state-only (data_block c.args.journal.now.memory c.args.target) (data_block c.program.new.self.memory c.args.target) 248 (length-block c.args.journal.now.memory (c.args.target + 4) (omega (arith, c.requires.target)))
    (changed_whole c.in_ok-program.ensures.ok))

pub returns-clause-states : goal.returns-clause-states
returns-clause-states g c i low =
    ap (λ b. byte b (16 + 4 * i)) c.in_ok-program.ensures.ok ∙ placed-outside bit_and (data_block c.args.journal.now.memory c.args.target) 4 (248 ∷ []) (16 + 4 * i) (inr (omega arith))

pub returns-clause-third : goal.returns-clause-third
returns-clause-third g c =
    let z : mark_place c.args.target + 0 ≡ mark_place c.args.target = omega arith in
    ap (λ w. bit_at (byte w (mark_place c.args.target)) 2) (ap (λ (x : Bits). x.weak) c.in_ok-program.ensures.firm)
    ∙ subst (λ k. bit_at (byte (and_at c.args.journal.now.weak (mark_place c.args.target) (248 ∷ [])) k) 2 ≡ 0) z (and-bit c.args.journal.now.weak (mark_place c.args.target) (248 ∷ []) 0 2 (omega arith) refl)
