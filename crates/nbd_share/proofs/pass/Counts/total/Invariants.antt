use Rattle.std.proofs.Common.{◌≡◌, ◌+◌, ◌≤◌, vec_len}
use Rattle.std.specs.Prelude.{sum_by}
use Rattle.nbd_share.proofs.pass.Counts.total.Given as goal

abbrev pub invariant-loop-pass : goal.invariant-loop-pass
invariant-loop-pass g l = record {
  told : l.sum + sum_by (λ p. p.count) l.passes.items ≡ l.fn.self.counted + sum_by (λ p. p.count) l.fn.passes.items;
  parts : l.all.parts + vec_len l.passes ≡ l.kept + vec_len l.fn.passes;
  amount : l.all.amount ≡ l.sum;
  book : l.book.total ≡ l.initial.book.total;
  bound : l.sum ≤ l.book.total;
}

abbrev pub decreases-loop-pass : goal.decreases-loop-pass
decreases-loop-pass g l = goal.left-loop-pass g l
