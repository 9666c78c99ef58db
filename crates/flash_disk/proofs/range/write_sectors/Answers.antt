use Rattle.std.proofs.Common.{◌≡◌, ◌⊎◌, ◌∙◌, ◌+◌, ◌*◌, ◌/◌, ◌%◌, ◌≤◌, ◌<◌, subst, arith, length, inr}
use Rattle.std.specs.Prelude.{slice_range}
use Rattle.std.proofs.lemmas.Result.{err_from_is_err_and}
use Rattle.chip_model.specs.Geometry.{sector_count}
use Rattle.nor_driver.specs.State.{Succeeds, bits_in}
use Rattle.erase_journal.specs.Steps.{RefusesFirmly}
use Rattle.sector_map.proofs.Retiring.{refuses-perhaps, succeeds-perhaps}
use Rattle.nor_driver.proofs.CallLaws.{fails-as, fails-of, kept-after}
use Rattle.flash_disk.specs.Contents.{contents_of}
use Rattle.block_device.specs.Contents.{replaced}
use Rattle.flash_disk.proofs.Parts.{outcome-at, piece-written, long-slice}
use Rattle.erase_journal.proofs.Renewal.{same-chip-on}
use Rattle.flash_disk.proofs.Drawn.{draw-mounts, sets-draw, sets-fit}
use Rattle.sector_map.proofs.FirmMaps.{left-chip}
use Rattle.flash_disk.proofs.Sectors.{length-contents, place-sector, sector-written, sector-left, left-clean}
use Rattle.flash_disk.proofs.range.write_sectors.Goals as goal

pub overflow_cast-sector-in-loop-done : goal.overflow_cast-sector-in-loop-done
overflow_cast-sector-in-loop-done g c =
    let m = c.args.map.now.memory in
    let len = length-contents m in
    omega (arith, len, c.requires.range, c.loop-done-test.true, c.requires.chip.most)

pub replace-requires-clause-number : goal.replace-requires-clause-number
replace-requires-clause-number g c = place-sector c.args.map.now.memory c.loop-done.map.memory c.args.first c.loop-done.done (length c.args.from.now) c.loop-done.invariant.size c.requires.range c.loop-done-test.true

pub returns-in_err-replace-clause-cut : goal.returns-in_err-replace-clause-cut
returns-in_err-replace-clause-cut g c is clean =
    let p = err_from_is_err_and c.from_residual.result c.from_residual.ensures.1 in
    let m = c.loop-done.map.memory in
    let m' = c.replace.new.self.memory in
    let d = contents_of c.args.map.now.memory in
    let r = contents_of m in
    let left = contents_of m' in
    let x = c.args.from.now in
    let a = 512 * c.args.first in
    let n = c.loop-done.done in
    let s = c.args.first + n / 512 in
    let fits : n + 512 ≤ length x = omega (arith, c.requires.whole, c.loop-done.invariant.whole, c.loop-done-test.true) in
    let first : (a + n) % 512 ≡ 0 = omega (arith, c.loop-done.invariant.whole) in
    let second : (a + (n + 512)) % 512 ≡ 0 = omega (arith, c.loop-done.invariant.whole) in
    let at : 512 * s ≡ a + n = omega (arith, c.loop-done.invariant.whole) in
    let low : s < sector_count (length m) = place-sector c.args.map.now.memory m c.args.first n (length x) c.loop-done.invariant.size c.requires.range c.loop-done-test.true in
    outcome-at d r left a n 512 x c.requires.range (long-slice x n 512 fits) first second fits (c.loop-done.invariant.written clean)
    (subst (λ q. (left ≡ r) ⊎ (left ≡ replaced r q (slice_range x n (n + 512)))) at
    (sector-left m m' s (slice_range x n (n + 512)) (c.in_err-replace.ensures.cut (cc (p.1, p.2))) (c.loop-done.invariant.clean clean) low (long-slice x n 512 fits)))

pub returns-in_err-replace-clause-cut_clean : goal.returns-in_err-replace-clause-cut_clean
returns-in_err-replace-clause-cut_clean g c is clean =
    let p = err_from_is_err_and c.from_residual.result c.from_residual.ensures.1 in
    let n = c.loop-done.done in
    left-clean c.loop-done.map.memory c.replace.new.self.memory (c.args.first + n / 512) (slice_range c.args.from.now n (n + 512)) (c.in_err-replace.ensures.cut (cc (p.1, p.2))) (c.loop-done.invariant.clean clean)

pub returns-in_err-replace-clause-cut_chip : goal.returns-in_err-replace-clause-cut_chip
returns-in_err-replace-clause-cut_chip g c is =
    let p = err_from_is_err_and c.from_residual.result c.from_residual.ensures.1 in
    let n = c.loop-done.done in
    same-chip-on c.args.map.now.memory c.loop-done.map.memory c.replace.new.self.memory c.loop-done.invariant.chip
    (left-chip c.loop-done.map.memory c.replace.new.self.memory (c.args.first + n / 512) (slice_range c.args.from.now n (n + 512)) (c.in_err-replace.ensures.cut (cc (p.1, p.2))))

pub returns-in_err-replace-clause-firmly : goal.returns-in_err-replace-clause-firmly
returns-in_err-replace-clause-firmly g c firm cuts slows is clean laid later drawn =
    let p = err_from_is_err_and c.from_residual.result c.from_residual.ensures.1 in
    let m0 = c.args.map.now.memory in
    let m = c.loop-done.map.memory in
    let b = bits_in c.replace.new.self in
    let kept = c.loop-done.invariant.kept in
    let x = c.args.from.now in
    let a = 512 * c.args.first in
    let n = c.loop-done.done in
    let s = c.args.first + n / 512 in
    let fits : n + 512 ≤ length x = omega (arith, c.requires.whole, c.loop-done.invariant.whole, c.loop-done-test.true) in
    let first : (a + n) % 512 ≡ 0 = omega (arith, c.loop-done.invariant.whole) in
    let second : (a + (n + 512)) % 512 ≡ 0 = omega (arith, c.loop-done.invariant.whole) in
    let at : 512 * s ≡ a + n = omega (arith, c.loop-done.invariant.whole) in
    let low : s < sector_count (length m) = place-sector m0 m c.args.first n (length x) c.loop-done.invariant.size c.requires.range c.loop-done-test.true in
    let chip = same-chip-on m0 m b.shown c.loop-done.invariant.chip (left-chip m b.shown s (slice_range x n (n + 512)) (c.in_err-replace.ensures.cut (cc (p.1, p.2)))) in
    let lost = c.in_err-replace.ensures.firmly firm (kept.cuts ∙ cuts) (kept.slows ∙ slows) (cc (p.1, p.2)) in
    let q = sets-draw m b later s (slice_range x n (n + 512)) c.replace.ensures.size (c.loop-done.invariant.clean clean) low (long-slice x n 512 fits) lost.0 drawn in (
      draw-mounts m0 b later chip laid lost.1.journals q.0 drawn,
      sets-fit m b later s (slice_range x n (n + 512)) lost.0 lost.1 drawn,
      outcome-at (contents_of m0) (contents_of m) (contents_of later) a n 512 x c.requires.range (long-slice x n 512 fits) first second fits (c.loop-done.invariant.written clean)
          (subst (λ z. (contents_of later ≡ contents_of m) ⊎ (contents_of later ≡ replaced (contents_of m) z (slice_range x n (n + 512)))) at q.1),
    )

pub loop-done-preserved : goal.loop-done-preserved
loop-done-preserved g c =
    let m = c.loop-done.map.memory in
    let m' = c.replace.new.self.memory in
    let d = contents_of c.args.map.now.memory in
    let r = contents_of m in
    let new = contents_of m' in
    let x = c.args.from.now in
    let a = 512 * c.args.first in
    let n = c.loop-done.done in
    let s = c.args.first + n / 512 in
    let fits : n + 512 ≤ length x = omega (arith, c.requires.whole, c.loop-done.invariant.whole, c.loop-done-test.true) in
    let at : 512 * s ≡ a + n = omega (arith, c.loop-done.invariant.whole) in
    let low : s < sector_count (length m) = place-sector c.args.map.now.memory m c.args.first n (length x) c.loop-done.invariant.size c.requires.range c.loop-done-test.true in
    record {
      written = λ clean. subst (λ q. new ≡ replaced r q (slice_range x n (n + 512))) at (sector-written m m' s (slice_range x n (n + 512)) c.in_ok-replace.ensures.ok (c.loop-done.invariant.clean clean) low (long-slice x n 512 fits))
          ∙ piece-written d r a n 512 x c.requires.range (long-slice x n 512 fits) fits (c.loop-done.invariant.written clean);
      clean = λ clean. c.in_ok-replace.ensures.ok.clean (c.loop-done.invariant.clean clean);
      size = c.replace.ensures.size ∙ c.loop-done.invariant.size;
      chip = same-chip-on c.args.map.now.memory m m' c.loop-done.invariant.chip c.in_ok-replace.ensures.ok.chip;
      within = fits;
      whole = omega (arith, c.loop-done.invariant.whole);
      kept = kept-after c.args.map.now c.loop-done.map c.replace.new.self c.loop-done.invariant.kept c.in_ok-replace.ensures.ends.kept;
      since = inr (succeeds-perhaps c.args.map.now c.loop-done.map c.replace.new.self c.loop-done.invariant.since c.in_ok-replace.ensures.ends);
    }

pub returns-in_err-replace-clause-fails : goal.returns-in_err-replace-clause-fails
returns-in_err-replace-clause-fails g c =
    let s0 = c.args.map.now in
    let s1 = c.loop-done.map in
    let s2 = c.replace.new.self in
    fails-of c.from_residual.result (Succeeds s0 s2) (λ e. RefusesFirmly e s0 s2) (fails-as c.from_residual.result _ (λ _. Succeeds s0 s2) (λ e. RefusesFirmly e s0 s2) c.from_residual.ensures.1
    (refuses-perhaps _ s0 s1 s2 c.loop-done.invariant.since c.in_err-replace.ensures.ends))
