use Rattle.std.proofs.Common.{◌≡◌, ◌-◌, ◌*◌, length, arith, ap, ◌∙◌}
use Rattle.std.specs.Prelude.{◌/◌, nat_lt}
use Rattle.sector_slots.specs.Slots.{slot_at, kind_at, data_blocks}
use Rattle.sector_stock.specs.Takes.{is_short, free_slots}
use Rattle.sector_stock.specs.IndexSteps.{free_below}
use Rattle.sector_stock.proofs.Counting.{below-counts}
use Rattle.sector_stock.proofs.room.is_short.Goals as goal

pub overflow_mul-result : goal.overflow_mul-result
overflow_mul-result c =
    let few = c.count_free_slots-free.ensures.most in
    let sub = c.saturating_sub.ensures in
    let size = c.requires.size in
    omega (arith, few, sub, size)

pub returns : goal.returns
unfolding is_short
returns c slots m h =
    let n = h.block_size in
    let all = below-counts slots c.args.blocks.now (slot_at m) (kind_at m) (data_blocks m) (data_blocks m) h (omega arith) in
    let got : c.count_free_slots-free.result ≡ free_slots m = c.count_free_slots-free.ensures.counted ∙ (ap (λ k. free_below c.args.blocks.now k) n ∙ all) in
    let sub : c.saturating_sub.result ≡ free_slots m - 7 = c.saturating_sub.ensures ∙ ap (λ k. k - 7) got in
    ap (λ k. nat_lt (8 * k) (7 * length c.args.blocks.now - 7 - 7 * (7 * length c.args.blocks.now / 8))) sub ∙ ap (λ k. nat_lt (8 * (free_slots m - 7)) (7 * k - 7 - 7 * (7 * k / 8))) n
