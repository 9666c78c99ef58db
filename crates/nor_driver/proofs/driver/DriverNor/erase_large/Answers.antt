use Rattle.std.proofs.Common.{◌∙◌}
use Rattle.std.proofs.lemmas.Result.{on_ok_weaker}
use Rattle.nor_driver.proofs.Shape.{IsErase, begins_large, large_done, large_cut, large_done_bits, large_cut_bits}
use Rattle.nor_driver.proofs.driver.DriverNor.erase_large.Goals as goal

pub apply-requires : goal.apply-requires
apply-requires g c = record { begins = begins_large _ _ c.args.at (record { unprotected = c.args.self.now.unprotected; range = c.requires.range; unit = c.requires.unit; frame = c.deref.ensures.0 ∙ c.erase_large.ensures }) }

pub returns-clause-ok : goal.returns-clause-ok
returns-clause-ok g c =
    let p : IsErase (g.B.SpiBus.chip c.args.self.now.bus) c.deref.result.now c.args.at 216 65536 = record { unprotected = c.args.self.now.unprotected; range = c.requires.range; unit = c.requires.unit; frame = c.deref.ensures.0 ∙ c.erase_large.ensures } in
    on_ok_weaker c.apply.result (λ e. e ∙ large_done _ _ _ p) c.apply.ensures.ok

pub returns-clause-cut : goal.returns-clause-cut
returns-clause-cut g c = λ e.
    let p : IsErase (g.B.SpiBus.chip c.args.self.now.bus) c.deref.result.now c.args.at 216 65536 = record { unprotected = c.args.self.now.unprotected; range = c.requires.range; unit = c.requires.unit; frame = c.deref.ensures.0 ∙ c.erase_large.ensures } in
    large_cut _ _ _ _ p (c.apply.ensures.cut e)

pub returns-clause-firm : goal.returns-clause-firm
returns-clause-firm g c =
    let p : IsErase (g.B.SpiBus.chip c.args.self.now.bus) c.deref.result.now c.args.at 216 65536 = record { unprotected = c.args.self.now.unprotected; range = c.requires.range; unit = c.requires.unit; frame = c.deref.ensures.0 ∙ c.erase_large.ensures } in
    on_ok_weaker c.apply.result (λ e. e ∙ large_done_bits _ _ _ p) c.apply.ensures.firm

pub returns-clause-cut_bits : goal.returns-clause-cut_bits
returns-clause-cut_bits g c = λ e.
    let p : IsErase (g.B.SpiBus.chip c.args.self.now.bus) c.deref.result.now c.args.at 216 65536 = record { unprotected = c.args.self.now.unprotected; range = c.requires.range; unit = c.requires.unit; frame = c.deref.ensures.0 ∙ c.erase_large.ensures } in
    large_cut_bits _ _ _ _ p (c.apply.ensures.cut_bits e)
