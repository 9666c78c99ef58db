use Rattle.std.proofs.Common.{◌≡◌, ◌∙◌, ◌+◌, ◌-◌, ℕ, drop, take, sym, ap, arith}
use Rattle.chip_watch.proofs.wire.Wire.has_page.Goals as goal

pub returns-then-same : goal.returns-then-same
returns-then-same g c =
    let count : (c.args.at + 256) - c.args.at ≡ 256 = omega arith in
    sym c.deref.ensures.value ∙ (c.same.ensures c.if-same.true ∙ (c.in-Some.ensures.lookup.0.2 ∙ ap (λ (n : ℕ). take n (drop c.args.at c.args.memory.now)) count))
