use Rattle.std.proofs.Common.{◌∙◌, ◌+◌, ◌<◌, ap, arith, length, sym}
use Rattle.std.specs.Prelude.{◌||◌, ◌==◌, not}
use Rattle.sector_slots.specs.Slots.{copies, is_copy_of}
use Rattle.sector_rescue.specs.Rescue.{kind_by}
use Rattle.sector_rescue.proofs.Copies.{copied-more, copied-none}
use Rattle.sector_rescue.proofs.copied.note_copies.Goals as goal

pub loop-block-init : goal.loop-block-init
loop-block-init c = record {
  size = c.requires.room;
  each = λ d low. c.requires.none d (omega (arith, low, c.requires.room)) ∙ sym (copied-none (kind_by c.args.layout c.args.image.now) d);
}

pub loop-block-preserved : goal.loop-block-preserved
loop-block-preserved c =
    let b = c.loop-block.block in
    let kind = kind_by c.args.layout c.args.image.now in
    let size = c.loop-block.invariant.size in
    record {
      size = c.note_copy.ensures.size ∙ size;
      each = λ d low.
          let inside : d < length c.loop-block.copied = omega (arith, low, size) in
          c.note_copy.ensures.each d inside
          ∙ (ap (λ p. p || is_copy_of (d + 4) c.kind_of_block-kind.result) (c.loop-block.invariant.each d low)
          ∙ (ap (λ k. not (copies kind b d == 0) || is_copy_of (d + 4) k) c.kind_of_block-kind.ensures.kind ∙ sym (copied-more kind b d)));
    }
