use Rattle.std.proofs.Common.{◌∙◌, ◌<◌, ap, arith, length, sym}
use Rattle.std.specs.Prelude.{slice_index_or}
use Rattle.sector_rescue.specs.Rescue.{none_held, said_at, with_said}
use Rattle.sector_rescue.proofs.Holding.{holders-more}
use Rattle.sector_rescue.proofs.table.note_slots.Goals as goal

pub loop-slot-preserved : goal.loop-slot-preserved
loop-slot-preserved c =
    let s = c.loop-slot.slot in
    let said = said_at c.args.layout c.args.image.now in
    let size = c.loop-slot.invariant.size in
    record {
      size = c.note_slot.ensures.size ∙ size;
      each = λ g low.
          let inside : g < length c.loop-slot.table = omega (arith, low, c.note_slot.ensures.size) in
          c.note_slot.ensures.each g inside
          ∙ (ap (λ x. with_said x s g (slice_index_or c.loop-slot.table g none_held)) c.said_by-said.ensures.said
          ∙ (ap (λ h. with_said (said s) s g h) (c.loop-slot.invariant.each g inside) ∙ sym (holders-more said s g)));
    }
