use Rattle.std.proofs.Common.{◌≡◌, ◌∙◌, ◌<◌, true, false, ap, arith, sym}
use Rattle.std.specs.Prelude.{◌/◌, ◌==◌, ◌&&◌, not, slice_index_or}
use Rattle.nor_layout.specs.declared.kind.Kind.{Kind}
use Rattle.sector_slots.specs.Slots.{copies, data_blocks, is_counted, is_void}
use Rattle.sector_rescue.specs.Rescue.{kind_by}
use Rattle.sector_rescue.proofs.Saying.{counts-if, said-counted, said-nothing}
use Rattle.sector_rescue.proofs.slot.said_by.Goals as goal

pub returns-then-counts-clause-said : goal.returns-then-counts-clause-said
returns-then-counts-clause-said c =
    let m = c.args.image.now in
    let layout = c.args.layout in
    let block = c.args.slot / 7 in
    let kind = kind_by layout m in
    let copied = slice_index_or c.args.copied.now block false in
    let low : block < data_blocks m = omega (arith, c.requires.number) in
    let same : (not (is_void (kind block)) && not copied) ≡ is_counted kind (data_blocks m) block =
    counts-if (is_void (kind block)) copied (copies kind (data_blocks m) block == 0) (c.requires.copied.each block low) in
    let told : (not (is_void (kind block)) && not copied) ≡ true =
    ap (λ (k : Kind). not (is_void k) && not copied) (sym c.kind_of_block-kind.ensures.kind) ∙ (sym c.counts.ensures ∙ c.if-counts.true) in
    c.said_of_slot.ensures.said ∙ sym (said-counted layout m c.args.slot (sym same ∙ told))

pub returns-else-counts-clause-said : goal.returns-else-counts-clause-said
returns-else-counts-clause-said c =
    let m = c.args.image.now in
    let layout = c.args.layout in
    let block = c.args.slot / 7 in
    let kind = kind_by layout m in
    let copied = slice_index_or c.args.copied.now block false in
    let low : block < data_blocks m = omega (arith, c.requires.number) in
    let same : (not (is_void (kind block)) && not copied) ≡ is_counted kind (data_blocks m) block =
    counts-if (is_void (kind block)) copied (copies kind (data_blocks m) block == 0) (c.requires.copied.each block low) in
    let told : (not (is_void (kind block)) && not copied) ≡ false =
    ap (λ (k : Kind). not (is_void k) && not copied) (sym c.kind_of_block-kind.ensures.kind) ∙ (sym c.counts.ensures ∙ c.if-counts.false) in
    sym (said-nothing layout m c.args.slot (sym same ∙ told))
