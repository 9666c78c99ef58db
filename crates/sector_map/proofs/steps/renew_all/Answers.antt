use Rattle.std.proofs.Common.{◌≡◌, ◌+◌, ◌-◌, ap, sym, subst, ◌∙◌, arith}
use Rattle.std.proofs.lemmas.Result.{err_from_is_err_and}
use Rattle.chip_model.specs.Geometry.{block_count}
use Rattle.sector_slots.specs.Slots.{data_blocks}
use Rattle.sector_stock.specs.Index.{erases_of}
use Rattle.sector_stock.specs.Takes.{IsErasedOnce}
use Rattle.sector_map.proofs.MapCalls.{keeps-after}
use Rattle.sector_map.proofs.Evening.{Renewing, renewing-none, renewing-quiet, renewing-more, round-nearer, fewest-of}
use Rattle.erase_journal.specs.Steps.{RefusesFirmly}
use Rattle.nor_driver.proofs.CallLaws.{fails-as}
use Rattle.erase_journal.specs.Steps.{SucceedsSettled}
use Rattle.erase_journal.proofs.Firmly.{refuses-firmly}
use Rattle.nor_driver.specs.State.{bits_in}
use Rattle.sector_stock.specs.Losses.{IsFirmDiskIn}
use Rattle.sector_map.proofs.KeepLosses.{keeps-fails}
use Rattle.sector_map.proofs.steps.renew_all.Goals as goal
use Rattle.sector_map.proofs.steps.renew_all.Goals.{then-erases-fewest+in_ok-renew_one, else-erases-fewest}

pub loop-block-init : goal.loop-block-init
loop-block-init g c = record { renewing = renewing-none (erases_of (g.S.Reclaim.counts c.args.stock.now) c.args.least) (data_blocks (g.S.SlotCalls.state c.args.stock.now).memory) c.args.table.now (g.S.SlotCalls.state c.args.stock.now) (g.S.SlotCalls.indexed c.args.stock.now) (g.S.Reclaim.policy c.args.stock.now) (erases_of (g.S.Reclaim.counts c.args.stock.now)) c.requires.served (fewest-of c.args.least (data_blocks (g.S.SlotCalls.state c.args.stock.now).memory) (erases_of (g.S.Reclaim.counts c.args.stock.now)) c.requires.least); firm = λ disk. disk }

pub erases-requires : goal.erases-requires
erases-requires g c =
    let n : data_blocks (g.S.SlotCalls.state c.loop-block.stock).memory ≡ data_blocks (g.S.SlotCalls.state c.args.stock.now).memory = ap (λ k. block_count k - 4) c.loop-block.invariant.renewing.kept.keeps.chip.same_length in
    record { number = omega (arith, c.loop-block-test.true, c.blocks-count.ensures.count, n) }

pub renew_one-requires-clause-served : goal.renew_one-requires-clause-served
renew_one-requires-clause-served g c = c.loop-block.invariant.renewing.kept.served

pub renew_one-requires-clause-number : goal.renew_one-requires-clause-number
renew_one-requires-clause-number g c =
    let n : data_blocks (g.S.SlotCalls.state c.loop-block.stock).memory ≡ data_blocks (g.S.SlotCalls.state c.args.stock.now).memory = ap (λ k. block_count k - 4) c.loop-block.invariant.renewing.kept.keeps.chip.same_length in
    omega (arith, c.loop-block-test.true, c.blocks-count.ensures.count, n)

pub renew_one-requires-clause-least : goal.renew_one-requires-clause-least
renew_one-requires-clause-least g c d low =
    let n : data_blocks (g.S.SlotCalls.state c.loop-block.stock).memory ≡ data_blocks (g.S.SlotCalls.state c.args.stock.now).memory = ap (λ k. block_count k - 4) c.loop-block.invariant.renewing.kept.keeps.chip.same_length in
    let is : erases_of (g.S.Reclaim.counts c.loop-block.stock) c.loop-block.block ≡ (erases_of (g.S.Reclaim.counts c.args.stock.now) c.args.least) = sym c.erases.ensures ∙ cc c.if-erases-fewest.true in
    let p = c.loop-block.invariant.renewing.round.least d (omega (arith, low, n)) in
    omega (arith, is, p)

pub returns-in_err-renew_one-clause-cut : goal.returns-in_err-renew_one-clause-cut
returns-in_err-renew_one-clause-cut g c is =
    let p = err_from_is_err_and c.from_residual.result c.from_residual.ensures.1 in
    keeps-after (g.S.SlotCalls.state c.args.stock.now).memory (g.S.SlotCalls.state c.loop-block.stock).memory (g.S.SlotCalls.state c.renew_one.new.stock).memory c.loop-block.invariant.renewing.kept.keeps (c.in_err-renew_one.ensures.cut (cc (p.1, p.2)))

pub loop-block-preserved : goal.loop-block-preserved
loop-block-preserved g c =
    let n : data_blocks (g.S.SlotCalls.state c.loop-block.stock).memory ≡ data_blocks (g.S.SlotCalls.state c.args.stock.now).memory = ap (λ k. block_count k - 4) c.loop-block.invariant.renewing.kept.keeps.chip.same_length in
    let here : erases_of (g.S.Reclaim.counts c.loop-block.stock) c.loop-block.block ≡ c.erases.result = sym c.erases.ensures in
    let h = c.loop-block.invariant.renewing in
    record {
      renewing = elim c.if-erases-fewest.branch as (λ _. Renewing (erases_of (g.S.Reclaim.counts c.args.stock.now) c.args.least) (data_blocks (g.S.SlotCalls.state c.args.stock.now).memory) (c.loop-block.block + 1) c.args.table.now c.if-erases-fewest.table (g.S.SlotCalls.state c.args.stock.now) (g.S.SlotCalls.state c.if-erases-fewest.stock) (g.S.SlotCalls.indexed c.if-erases-fewest.stock) (g.S.Reclaim.policy c.args.stock.now) (g.S.Reclaim.policy c.if-erases-fewest.stock) (erases_of (g.S.Reclaim.counts c.args.stock.now)) (erases_of (g.S.Reclaim.counts c.if-erases-fewest.stock))) [
        | then-erases-fewest+in_ok-renew_one w ↦ subst (λ z. Renewing (erases_of (g.S.Reclaim.counts c.args.stock.now) c.args.least) (data_blocks (g.S.SlotCalls.state c.args.stock.now).memory) (c.loop-block.block + 1) c.args.table.now c.if-erases-fewest.table (g.S.SlotCalls.state c.args.stock.now) (g.S.SlotCalls.state z) (g.S.SlotCalls.indexed z) (g.S.Reclaim.policy c.args.stock.now) (g.S.Reclaim.policy z) (erases_of (g.S.Reclaim.counts c.args.stock.now)) (erases_of (g.S.Reclaim.counts z))) (sym w.stock-is)
            (subst (λ t. Renewing (erases_of (g.S.Reclaim.counts c.args.stock.now) c.args.least) (data_blocks (g.S.SlotCalls.state c.args.stock.now).memory) (c.loop-block.block + 1) c.args.table.now t (g.S.SlotCalls.state c.args.stock.now) (g.S.SlotCalls.state w.renew_one.new.stock) (g.S.SlotCalls.indexed w.renew_one.new.stock) (g.S.Reclaim.policy c.args.stock.now) (g.S.Reclaim.policy w.renew_one.new.stock) (erases_of (g.S.Reclaim.counts c.args.stock.now)) (erases_of (g.S.Reclaim.counts w.renew_one.new.stock))) (sym w.table-is)
            (renewing-more (erases_of (g.S.Reclaim.counts c.args.stock.now) c.args.least) (data_blocks (g.S.SlotCalls.state c.args.stock.now).memory) c.loop-block.block c.args.table.now c.loop-block.table w.renew_one.new.table (g.S.SlotCalls.state c.args.stock.now) (g.S.SlotCalls.state c.loop-block.stock) (g.S.SlotCalls.state w.renew_one.new.stock) (g.S.SlotCalls.indexed c.loop-block.stock) (g.S.SlotCalls.indexed w.renew_one.new.stock) (g.S.Reclaim.policy c.args.stock.now) (g.S.Reclaim.policy c.loop-block.stock) (g.S.Reclaim.policy w.renew_one.new.stock)
            (erases_of (g.S.Reclaim.counts c.args.stock.now)) (erases_of (g.S.Reclaim.counts c.loop-block.stock)) (erases_of (g.S.Reclaim.counts w.renew_one.new.stock)) c.requires.fits (here ∙ cc w.if-erases-fewest.true)
            (subst (λ k. IsErasedOnce k c.loop-block.block (erases_of (g.S.Reclaim.counts c.loop-block.stock)) (erases_of (g.S.Reclaim.counts w.renew_one.new.stock))) n w.in_ok-renew_one.ensures.counted)
            w.in_ok-renew_one.ensures.ok w.in_ok-renew_one.ensures.ends w.in_ok-renew_one.ensures.policy w.in_ok-renew_one.ensures.work w.renew_one.ensures.table h))
        | else-erases-fewest w ↦ subst (λ z. Renewing (erases_of (g.S.Reclaim.counts c.args.stock.now) c.args.least) (data_blocks (g.S.SlotCalls.state c.args.stock.now).memory) (c.loop-block.block + 1) c.args.table.now c.if-erases-fewest.table (g.S.SlotCalls.state c.args.stock.now) (g.S.SlotCalls.state z) (g.S.SlotCalls.indexed z) (g.S.Reclaim.policy c.args.stock.now) (g.S.Reclaim.policy z) (erases_of (g.S.Reclaim.counts c.args.stock.now)) (erases_of (g.S.Reclaim.counts z))) (sym w.stock-is)
            (subst (λ t. Renewing (erases_of (g.S.Reclaim.counts c.args.stock.now) c.args.least) (data_blocks (g.S.SlotCalls.state c.args.stock.now).memory) (c.loop-block.block + 1) c.args.table.now t (g.S.SlotCalls.state c.args.stock.now) (g.S.SlotCalls.state c.loop-block.stock) (g.S.SlotCalls.indexed c.loop-block.stock) (g.S.Reclaim.policy c.args.stock.now) (g.S.Reclaim.policy c.loop-block.stock) (erases_of (g.S.Reclaim.counts c.args.stock.now)) (erases_of (g.S.Reclaim.counts c.loop-block.stock))) (sym w.table-is)
            (renewing-quiet (erases_of (g.S.Reclaim.counts c.args.stock.now) c.args.least) (data_blocks (g.S.SlotCalls.state c.args.stock.now).memory) c.loop-block.block c.args.table.now c.loop-block.table (g.S.SlotCalls.state c.args.stock.now) (g.S.SlotCalls.state c.loop-block.stock) (g.S.SlotCalls.indexed c.loop-block.stock) (g.S.Reclaim.policy c.args.stock.now) (g.S.Reclaim.policy c.loop-block.stock)
            (erases_of (g.S.Reclaim.counts c.args.stock.now)) (erases_of (g.S.Reclaim.counts c.loop-block.stock)) (λ e. w.if-erases-fewest.false (c.erases.ensures ∙ (e ∙ sym c.erases-fewest.ensures))) h))
      ];
      firm = λ disk. elim c.if-erases-fewest.branch as (λ _. IsFirmDiskIn (bits_in (g.S.SlotCalls.state c.if-erases-fewest.stock)) (g.S.Reclaim.counts c.if-erases-fewest.stock)) [
        | then-erases-fewest+in_ok-renew_one w ↦ subst (λ z. IsFirmDiskIn (bits_in (g.S.SlotCalls.state z)) (g.S.Reclaim.counts z)) (sym w.stock-is) (w.in_ok-renew_one.ensures.firmly (c.loop-block.invariant.firm disk))
        | else-erases-fewest w ↦ subst (λ z. IsFirmDiskIn (bits_in (g.S.SlotCalls.state z)) (g.S.Reclaim.counts z)) (sym w.stock-is) (c.loop-block.invariant.firm disk)
      ];
    }

pub returns-clause-nearer : goal.returns-clause-nearer
returns-clause-nearer g c = round-nearer (erases_of (g.S.Reclaim.counts c.args.stock.now) c.args.least) (data_blocks (g.S.SlotCalls.state c.args.stock.now).memory) c.loop-block.block (erases_of (g.S.Reclaim.counts c.args.stock.now)) (erases_of (g.S.Reclaim.counts c.loop-block.stock)) (omega (arith, c.loop-block-test.false, c.blocks-count.ensures.count)) (fewest-of c.args.least (data_blocks (g.S.SlotCalls.state c.args.stock.now).memory) (erases_of (g.S.Reclaim.counts c.args.stock.now)) c.requires.least) c.loop-block.invariant.renewing.round

pub returns-in_err-renew_one-clause-ends : goal.returns-in_err-renew_one-clause-ends
returns-in_err-renew_one-clause-ends g c =
    let s0 = g.S.SlotCalls.state c.args.stock.now in
    let s1 = g.S.SlotCalls.state c.loop-block.stock in
    let s2 = g.S.SlotCalls.state c.renew_one.new.stock in
    fails-as c.from_residual.result _ (λ _. SucceedsSettled s0 s2) (λ e. RefusesFirmly e s0 s2) c.from_residual.ensures.1
    (refuses-firmly _ s0 s1 s2 c.loop-block.invariant.renewing.since c.in_err-renew_one.ensures.ends)

pub returns-in_err-renew_one-clause-firmly : goal.returns-in_err-renew_one-clause-firmly
returns-in_err-renew_one-clause-firmly g c =
    keeps-fails c.from_residual.result _ (g.S.SlotCalls.state c.args.stock.now) (g.S.SlotCalls.state c.loop-block.stock) (g.S.SlotCalls.state c.renew_one.new.stock) (g.S.Reclaim.counts c.args.stock.now) (g.S.Reclaim.counts c.loop-block.stock) (g.S.Reclaim.counts c.renew_one.new.stock) c.from_residual.ensures.1
    c.loop-block.invariant.firm c.loop-block.invariant.renewing.kept.keeps c.in_err-renew_one.ensures.firmly
