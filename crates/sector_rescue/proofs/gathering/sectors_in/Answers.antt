use Rattle.std.proofs.Common.{◌≡◌, ◌∙◌, ◌<◌, ◌++◌, ap, arith, length, sym, true}
use Rattle.std.specs.Prelude.{is_ok}
use Rattle.sector_slots.specs.Slots.{slot_count}
use Rattle.flash_disk.specs.Contents.{joined}
use Rattle.sector_rescue.specs.Rescue.{newest_of, payload_or, rescued_at}
use Rattle.sector_rescue.proofs.Holding.{table-below, zeros-are}
use Rattle.sector_rescue.proofs.Joining.{joined-more, joined-none}
use Rattle.sector_rescue.proofs.gathering.sectors_in.Goals as goal

pub given-requires-clause-zeros : goal.given-requires-clause-zeros
given-requires-clause-zeros c = zeros-are

pub given-requires-clause-below : goal.given-requires-clause-below
given-requires-clause-below c = table-below c.args.layout c.args.image.now (slot_count c.args.image.now) c.args.table.now c.loop-sector.sector c.requires.table (omega arith)

pub loop-sector-init : goal.loop-sector-init
loop-sector-init c = c.new-all.ensures.items ∙ sym (joined-none (rescued_at c.args.layout c.args.image.now))

pub loop-sector-preserved : goal.loop-sector-preserved
loop-sector-preserved c =
    let s = c.loop-sector.sector in
    let m = c.args.image.now in
    let f = rescued_at c.args.layout m in
    let low : s < length c.args.table.now = omega arith in
    let ok : is_ok c.extend_from_slice.result ≡ true = ap is_ok c.in_ok-extend_from_slice.was in
    let items : c.extend_from_slice.new.self.items ≡ c.loop-sector.all.items ++ c.given.result.now = rw ok at c.extend_from_slice.ensures.items in
    let one : c.given.result.now ≡ f s = c.given.ensures ∙ ap (λ h. payload_or m (newest_of h)) (c.requires.table.each s low) in
    items ∙ (ap (λ x. x ++ c.given.result.now) c.loop-sector.invariant ∙ (ap (λ x. joined f s ++ x) one ∙ sym (joined-more f s)))
