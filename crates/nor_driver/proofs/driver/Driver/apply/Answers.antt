use Rattle.std.proofs.Common.{ap, refl, subst, sym, ◌∙◌}
use Rattle.std.proofs.lemmas.Bool.{or_right}
use Rattle.chip_model.specs.Chip.{Chip, is_idle, completed}
use Rattle.chip_model.proofs.FrameLaws.{KeepsShape, still_open}
use Rattle.nor_driver.proofs.Shape.{done_shape, done_firmer, slow_shape, started_table, after_loss, cause, when_down}
use Rattle.nor_driver.proofs.Stays.{accepted_shape}
use Rattle.nor_driver.proofs.driver.Driver.apply.Goals as goal

pub invariant_of-self : goal.invariant_of-self
invariant_of-self g c =
    let d = c.args.self.now in
    let is = c.in-Ok.ensures.chip in
    let old = g.B.SpiBus.chip d.bus in
    let k : KeepsShape old (g.B.SpiBus.chip c.change.new.bus) = subst (λ (x : Chip). KeepsShape old x) (sym is) (done_shape old c.args.frame.now c.requires.begins) in
    let table = ap (λ (x : Chip). x.sfdp) is ∙ started_table old c.args.frame.now c.requires.begins in
    record { size = k.size ∙ d.size; whole = d.whole; least = d.least; most = d.most; accepted = accepted_shape _ _ k table d.accepted; unprotected = still_open _ _ k d.unprotected; in_memory = k.not_setting; idle = or_right _ _ (ap (λ (x : Chip). is_idle x.operation) is) }

pub invariant_of-self-in-Err-Cut : goal.invariant_of-self-in-Err-Cut
invariant_of-self-in-Err-Cut g c =
    let d = c.args.self.now in
    let h = rw c.in-Err-Cut.field-0-is at c.in-Err-Cut.ensures.err in
    let l = after_loss _ _ _ _ _ (when_down _ _ c.if-self.false d.idle) c.requires.begins h.0 in
    record { size = l.shape.size ∙ d.size; whole = d.whole; least = d.least; most = d.most; accepted = accepted_shape _ _ l.shape l.table d.accepted; unprotected = still_open _ _ l.shape d.unprotected; in_memory = l.shape.not_setting; idle = or_right _ _ l.idle }

pub invariant_of-self-in-Err-Slow-clause-accepted : goal.invariant_of-self-in-Err-Slow-clause-accepted
invariant_of-self-in-Err-Slow-clause-accepted g c =
    let d = c.args.self.now in
    let old = g.B.SpiBus.chip d.bus in
    let new = g.B.SpiBus.chip c.change.new.bus in
    let h = rw c.in-Err-Slow.field-0-is at c.in-Err-Slow.ensures.err in
    let k : KeepsShape old new = subst (λ (x : Chip). KeepsShape old x) (sym h.1) (slow_shape old c.args.frame.now 65535 c.requires.begins) in
    accepted_shape old new k (ap (λ (x : Chip). x.sfdp) h.1 ∙ started_table old c.args.frame.now c.requires.begins) d.accepted

pub returns-in-Err-Cut-clause-cut : goal.returns-in-Err-Cut-clause-cut
returns-in-Err-Cut-clause-cut g c = λ e.
    let h = rw c.in-Err-Cut.field-0-is at c.in-Err-Cut.ensures.err in
    (after_loss _ _ _ _ _ (when_down _ _ c.if-self.false c.args.self.now.idle) c.requires.begins h.0).leaves

pub returns-in-Err-Cut-clause-cut_bits : goal.returns-in-Err-Cut-clause-cut_bits
returns-in-Err-Cut-clause-cut_bits g c = λ e.
    let h = rw c.in-Err-Cut.field-0-is at c.in-Err-Cut.ensures.err in
    (after_loss _ _ _ _ _ (when_down _ _ c.if-self.false c.args.self.now.idle) c.requires.begins h.0).bits

pub returns-in-Ok-clause-kept : goal.returns-in-Ok-clause-kept
returns-in-Ok-clause-kept g c =
    let old = g.B.SpiBus.chip c.args.self.now.bus in
    let is = c.in-Ok.ensures.chip in
    record {
      bits = done_firmer old (g.B.SpiBus.chip c.change.new.bus) c.args.frame.now c.requires.begins is;
      cuts = c.in-Ok.ensures.cuts;
      slows = c.in-Ok.ensures.slows;
      powered = ap (λ (x : Chip). x.powered) is ∙ ap (λ (x : Chip). (completed x).powered) c.requires.begins.is;
      is_slow = refl;
      has_large = refl;
    }

pub returns-in-Err-Cut-clause-fails : goal.returns-in-Err-Cut-clause-fails
returns-in-Err-Cut-clause-fails g c =
    let h = rw c.in-Err-Cut.field-0-is at c.in-Err-Cut.ensures.err in
    let l = after_loss _ _ _ _ _ (when_down _ _ c.if-self.false c.args.self.now.idle) c.requires.begins h.0 in
    (cause _ _ _ _ _ h.0, h.1, l.powered, refl, refl, l.interrupted)
