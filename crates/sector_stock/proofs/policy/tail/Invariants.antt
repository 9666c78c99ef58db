use Rattle.std.proofs.Common.{◌≡◌, None}
use Rattle.std.specs.Prelude.{IfSome}
use Rattle.sector_stock.specs.Policies.{IsTail}
use Rattle.sector_stock.proofs.policy.tail.Given as goal

abbrev pub invariant-loop-block : goal.invariant-loop-block
invariant-loop-block l = record {
  best : IfSome l.best (λ b. IsTail l.at.newest l.blocks b);
  found : l.best ≡ None → IsTail l.at.newest l.blocks l.at.reserve → ⊥;
}
