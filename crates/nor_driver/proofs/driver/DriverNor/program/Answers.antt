use Rattle.std.proofs.Common.{◌∙◌}
use Rattle.std.proofs.lemmas.Result.{on_ok_weaker}
use Rattle.nor_driver.proofs.Shape.{IsProgram, begins_program, program_done, program_cut, program_done_bits, program_cut_bits}
use Rattle.nor_driver.proofs.driver.DriverNor.program.Goals as goal

pub apply-requires : goal.apply-requires
apply-requires g c = record { begins = begins_program _ _ c.args.at c.args.bytes.now (record { unprotected = c.args.self.now.unprotected; range = c.requires.range; some = c.requires.some; page = c.requires.page; frame = c.deref.ensures.0 ∙ c.fill_program.ensures }) }

pub returns-clause-ok : goal.returns-clause-ok
returns-clause-ok g c =
    let p : IsProgram (g.B.SpiBus.chip c.args.self.now.bus) c.deref.result.now c.args.at c.args.bytes.now = record { unprotected = c.args.self.now.unprotected; range = c.requires.range; some = c.requires.some; page = c.requires.page; frame = c.deref.ensures.0 ∙ c.fill_program.ensures } in
    on_ok_weaker c.apply.result (λ e. e ∙ program_done _ _ _ _ p) c.apply.ensures.ok

pub returns-clause-cut : goal.returns-clause-cut
returns-clause-cut g c = λ e.
    let p : IsProgram (g.B.SpiBus.chip c.args.self.now.bus) c.deref.result.now c.args.at c.args.bytes.now = record { unprotected = c.args.self.now.unprotected; range = c.requires.range; some = c.requires.some; page = c.requires.page; frame = c.deref.ensures.0 ∙ c.fill_program.ensures } in
    program_cut _ _ _ _ _ p (c.apply.ensures.cut e)

pub returns-clause-firm : goal.returns-clause-firm
returns-clause-firm g c =
    let p : IsProgram (g.B.SpiBus.chip c.args.self.now.bus) c.deref.result.now c.args.at c.args.bytes.now = record { unprotected = c.args.self.now.unprotected; range = c.requires.range; some = c.requires.some; page = c.requires.page; frame = c.deref.ensures.0 ∙ c.fill_program.ensures } in
    on_ok_weaker c.apply.result (λ e. e ∙ program_done_bits _ _ _ _ p) c.apply.ensures.firm

pub returns-clause-cut_bits : goal.returns-clause-cut_bits
returns-clause-cut_bits g c = λ e.
    let p : IsProgram (g.B.SpiBus.chip c.args.self.now.bus) c.deref.result.now c.args.at c.args.bytes.now = record { unprotected = c.args.self.now.unprotected; range = c.requires.range; some = c.requires.some; page = c.requires.page; frame = c.deref.ensures.0 ∙ c.fill_program.ensures } in
    program_cut_bits _ _ _ _ _ p (c.apply.ensures.cut_bits e)
