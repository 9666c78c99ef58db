use Rattle.std.proofs.Common.{◌≡◌, ◌∙◌, ◌+◌, ◌*◌, ◌/◌, ◌≤◌, ◌<◌, ◌-◌, refl, ap, subst, arith, length, inr}
use Rattle.chip_model.specs.Geometry.{sector_count}
use Rattle.nor_driver.specs.State.{Succeeds, bits_in}
use Rattle.erase_journal.specs.Steps.{RefusesFirmly}
use Rattle.sector_map.proofs.Retiring.{refuses-perhaps, succeeds-perhaps}
use Rattle.nor_driver.proofs.CallLaws.{fails-as, fails-of, kept-after}
use Rattle.sector_slots.proofs.SizeLaws.{length-sector}
use Rattle.block_device.specs.Contents.{bytes_at}
use Rattle.flash_disk.specs.Contents.{contents_of}
use Rattle.std.proofs.lemmas.Result.{err_from_is_err_and}
use Rattle.sector_map.specs.Losses.{KeepsAtLoss}
use Rattle.flash_disk.proofs.Drawn.{draw-mounts, keeps-draw, keeps-fit, same-chip}
use Rattle.flash_disk.proofs.Parts.{long-slice}
use Rattle.flash_disk.proofs.Sectors.{length-contents, place-sector, sector-read, more-read, length-mid}
use Rattle.flash_disk.proofs.range.read_sectors.Goals as goal

pub overflow_cast-sector-in-loop-done : goal.overflow_cast-sector-in-loop-done
overflow_cast-sector-in-loop-done g c =
    let m = c.args.map.now.memory in
    let len = length-contents m in
    omega (arith, len, c.requires.range, c.loop-done-test.true, c.loop-done.invariant.long, c.requires.chip.most)

pub find-requires-clause-number : goal.find-requires-clause-number
find-requires-clause-number g c =
    place-sector c.args.map.now.memory c.loop-done.map.memory c.args.first c.loop-done.done (length c.args.into.now) (ap length c.loop-done.invariant.same) c.requires.range
    (omega (arith, c.loop-done-test.true, c.loop-done.invariant.long))

pub returns-in_err-find-clause-firmly : goal.returns-in_err-find-clause-firmly
returns-in_err-find-clause-firmly g c firm cuts slows is clean laid later drawn =
    let p = err_from_is_err_and c.from_residual.result c.from_residual.ensures.1 in
    let m0 = c.args.map.now.memory in
    let m = c.loop-done.map.memory in
    let b = bits_in c.find.new.self in
    let kept = c.loop-done.invariant.kept in
    let was : m ≡ m0 = c.loop-done.invariant.same in
    let same : b.shown ≡ m0 = c.find.ensures.same ∙ was in
    let lost = c.in_err-find.ensures.firmly firm (kept.cuts ∙ cuts) (kept.slows ∙ slows) (cc (p.1, p.2)) in
    let keeps : KeepsAtLoss m0 b = subst (λ z. KeepsAtLoss z b) was lost.0 in
    let q = keeps-draw m0 b later (ap length same) clean keeps drawn in
    (draw-mounts m0 b later (same-chip m0 b.shown same) laid lost.1.journals q.0 drawn, keeps-fit m0 b later keeps lost.1 drawn, q.1)

pub loop-done-preserved : goal.loop-done-preserved
loop-done-preserved g c =
    let m0 = c.args.map.now.memory in
    let m = c.loop-done.map.memory in
    let d = contents_of m0 in
    let a = 512 * c.args.first in
    let n = c.loop-done.done in
    let s = c.args.first + n / 512 in
    let k = n + 512 - n in
    let size : k ≡ 512 = omega arith in
    let x = c.loop-done.into in
    let fits : n + 512 ≤ length x = omega (arith, c.requires.whole, c.loop-done.invariant.whole, c.loop-done.invariant.long, c.loop-done-test.true) in
    let long = long-slice x n 512 fits in
    let new = c.find.new.into in
    let at : 512 * s ≡ a + n = omega (arith, c.loop-done.invariant.whole) in
    let low : s < sector_count (length m) =
    place-sector m0 m c.args.first n (length c.args.into.now) (ap length c.loop-done.invariant.same) c.requires.range (omega (arith, c.loop-done-test.true, c.loop-done.invariant.long)) in
    let read : new ≡ bytes_at d (512 * s) 512 = sector-read m new s low c.in_ok-find.ensures.ok ∙ ap (λ z. bytes_at (contents_of z) (512 * s) 512) c.loop-done.invariant.same in
    let whole : length new ≡ 512 = ap length c.in_ok-find.ensures.ok ∙ length-sector m s in
    record {
      taken = more-read d x new a n 512 k (512 * s) 512 c.loop-done.invariant.taken fits size refl at read whole;
      long = length-mid n 512 k x new fits size whole ∙ c.loop-done.invariant.long;
      same = c.in_ok-find.ensures.same ∙ c.loop-done.invariant.same;
      within = omega (arith, fits, c.loop-done.invariant.long);
      whole = omega (arith, c.loop-done.invariant.whole);
      kept = kept-after c.args.map.now c.loop-done.map c.find.new.self c.loop-done.invariant.kept c.in_ok-find.ensures.ends.kept;
      since = inr (succeeds-perhaps c.args.map.now c.loop-done.map c.find.new.self c.loop-done.invariant.since c.in_ok-find.ensures.ends);
    }

pub returns-in_err-find-clause-fails : goal.returns-in_err-find-clause-fails
returns-in_err-find-clause-fails g c =
    let s0 = c.args.map.now in
    let s1 = c.loop-done.map in
    let s2 = c.find.new.self in
    fails-of c.from_residual.result (Succeeds s0 s2) (λ e. RefusesFirmly e s0 s2) (fails-as c.from_residual.result _ (λ _. Succeeds s0 s2) (λ e. RefusesFirmly e s0 s2) c.from_residual.ensures.1
    (refuses-perhaps _ s0 s1 s2 c.loop-done.invariant.since c.in_err-find.ensures.ends))
