use Rattle.std.proofs.Common.{◌≡◌, ◌∙◌, sym, arith}
use Rattle.chip_model.specs.Frames.{newly_slow, taken}
use Rattle.chip_model.proofs.FrameLaws.{idle_not_slow}
use Rattle.chip_watch.specs.Watched.{shadow_chip}
use Rattle.chip_watch.proofs.shadow.Shadow.follow.Goals as goal

pub returns-then-is_idle-clause-slows : goal.returns-then-is_idle-clause-slows
returns-then-is_idle-clause-slows c =
    let old = shadow_chip c.args.self.now in
    let new = shadow_chip c.take.new.self in
    let idle = sym c.is_idle.ensures ∙ c.if-is_idle.true in
    let e = c.take.ensures in
    let z : newly_slow old new ≡ 0 = idle_not_slow old new c.args.send.now c.take.new.recv idle (taken idle e.receives e.left) in
    let same = e.slows in
    omega (arith, z, same)
