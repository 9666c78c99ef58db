use Rattle.std.proofs.Common.{◌∙◌, sym, refl}
use Rattle.disk_log.proofs.Finding.{placed-rest, sums-same, sums-differ}
use Rattle.disk_log.proofs.reading.read_placed.Goals as goal

pub returns-then-eq : goal.returns-then-eq
returns-then-eq c = (
  refl,
  placed-rest _ c.args.checkpoint.now _ _ c.put_blocks.ensures c.number_at-count.ensures,
  sym c.read_sum.ensures ∙ (sums-same _ _ c.if-eq.ensures ∙ c.image_sum.ensures),
)

pub returns-else-eq : goal.returns-else-eq
returns-else-eq c = (
  refl,
  placed-rest _ c.args.checkpoint.now _ _ c.put_blocks.ensures c.number_at-count.ensures,
  λ q. sums-differ _ _ c.if-eq.ensures (c.read_sum.ensures ∙ (q ∙ sym c.image_sum.ensures)),
)
