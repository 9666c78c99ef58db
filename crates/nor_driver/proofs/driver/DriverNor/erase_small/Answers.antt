use Rattle.std.proofs.Common.{◌∙◌}
use Rattle.std.proofs.lemmas.Result.{on_ok_weaker}
use Rattle.nor_driver.proofs.Shape.{IsErase, begins_small, small_done, small_cut, small_done_bits, small_cut_bits}
use Rattle.nor_driver.proofs.driver.DriverNor.erase_small.Goals as goal

pub apply-requires : goal.apply-requires
apply-requires g c = record { begins = begins_small _ _ c.args.at (record { unprotected = c.args.self.now.unprotected; range = c.requires.range; unit = c.requires.unit; frame = c.deref.ensures.0 ∙ c.erase_small.ensures }) }

pub returns-clause-ok : goal.returns-clause-ok
returns-clause-ok g c =
    let p : IsErase (g.B.SpiBus.chip c.args.self.now.bus) c.deref.result.now c.args.at 32 4096 = record { unprotected = c.args.self.now.unprotected; range = c.requires.range; unit = c.requires.unit; frame = c.deref.ensures.0 ∙ c.erase_small.ensures } in
    on_ok_weaker c.apply.result (λ e. e ∙ small_done _ _ _ p) c.apply.ensures.ok

pub returns-clause-cut : goal.returns-clause-cut
returns-clause-cut g c = λ e.
    let p : IsErase (g.B.SpiBus.chip c.args.self.now.bus) c.deref.result.now c.args.at 32 4096 = record { unprotected = c.args.self.now.unprotected; range = c.requires.range; unit = c.requires.unit; frame = c.deref.ensures.0 ∙ c.erase_small.ensures } in
    small_cut _ _ _ _ p (c.apply.ensures.cut e)

pub returns-clause-firm : goal.returns-clause-firm
returns-clause-firm g c =
    let p : IsErase (g.B.SpiBus.chip c.args.self.now.bus) c.deref.result.now c.args.at 32 4096 = record { unprotected = c.args.self.now.unprotected; range = c.requires.range; unit = c.requires.unit; frame = c.deref.ensures.0 ∙ c.erase_small.ensures } in
    on_ok_weaker c.apply.result (λ e. e ∙ small_done_bits _ _ _ p) c.apply.ensures.firm

pub returns-clause-cut_bits : goal.returns-clause-cut_bits
returns-clause-cut_bits g c = λ e.
    let p : IsErase (g.B.SpiBus.chip c.args.self.now.bus) c.deref.result.now c.args.at 32 4096 = record { unprotected = c.args.self.now.unprotected; range = c.requires.range; unit = c.requires.unit; frame = c.deref.ensures.0 ∙ c.erase_small.ensures } in
    small_cut_bits _ _ _ _ p (c.apply.ensures.cut_bits e)
