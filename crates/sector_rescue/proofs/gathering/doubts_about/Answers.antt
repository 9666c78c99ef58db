use Rattle.std.proofs.Common.{◌∙◌, ◌++◌, ap, append_assoc, sym}
use Rattle.std.proofs.lemmas.List.{append-nil}
use Rattle.sector_rescue.specs.Doubts.{doubts_below, doubts_in, layout_doubts}
use Rattle.sector_rescue.specs.Rescue.{said_at}
use Rattle.sector_rescue.proofs.Joining.{doubts-more, doubts-none}
use Rattle.sector_rescue.proofs.gathering.doubts_about.Goals as goal

pub loop-slot-init : goal.loop-slot-init
loop-slot-init c =
    let m = c.args.image.now in
    c.in_ok-doubts.ensures ∙ (sym (append-nil (layout_doubts m)) ∙ ap (λ x. layout_doubts m ++ x) (sym (doubts-none c.args.layout m)))

pub loop-slot-preserved : goal.loop-slot-preserved
loop-slot-preserved c =
    let s = c.loop-slot.slot in
    let m = c.args.image.now in
    let layout = c.args.layout in
    let one = c.doubt_of.ensures ∙ ap (λ x. doubts_in layout m s x) c.said_by-said.ensures.said in
    c.in_ok-push_doubt.ensures
    ∙ (ap (λ x. c.loop-slot.doubts.items ++ x) one
    ∙ (ap (λ x. x ++ doubts_in layout m s (said_at layout m s)) c.loop-slot.invariant
    ∙ (append_assoc (layout_doubts m) (doubts_below layout m s) (doubts_in layout m s (said_at layout m s)) ∙ ap (λ x. layout_doubts m ++ x) (sym (doubts-more layout m s)))))
