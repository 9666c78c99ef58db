use Rattle.std.proofs.Common.{◌≡◌, ◌⊎◌, ℕ, List, ◌∙◌, ◌+◌, ◌*◌, ◌%◌, ◌≤◌, ◌<◌, subst, sym, arith, length, replicate, inr}
use Rattle.std.specs.Prelude.{slice_range, take}
use Rattle.std.proofs.lemmas.List.{length-replicate}
use Rattle.std.proofs.lemmas.Result.{err_from_is_err_and}
use Rattle.chip_model.specs.Geometry.{sector_count}
use Rattle.nor_driver.specs.State.{Succeeds, bits_in}
use Rattle.erase_journal.specs.Steps.{RefusesFirmly}
use Rattle.sector_map.proofs.Retiring.{refuses-perhaps, succeeds-perhaps}
use Rattle.nor_driver.proofs.CallLaws.{fails-as, fails-of, kept-after}
use Rattle.sector_slots.specs.Sectors.{zeros}
use Rattle.sector_slots.proofs.SizeLaws.{length-zeros}
use Rattle.flash_disk.specs.Contents.{contents_of}
use Rattle.block_device.specs.Contents.{replaced}
use Rattle.flash_disk.proofs.Parts.{outcome-at, piece-written, long-slice}
use Rattle.erase_journal.proofs.Renewal.{same-chip-on}
use Rattle.flash_disk.proofs.Drawn.{draw-mounts, sets-draw, sets-fit}
use Rattle.sector_map.proofs.FirmMaps.{left-chip}
use Rattle.flash_disk.proofs.Sectors.{length-contents, counted-sector, sector-written, sector-left, left-clean, zeros-slice}
use Rattle.flash_disk.proofs.range.zero_sectors.Goals as goal

pub overflow_add-first : goal.overflow_add-first
overflow_add-first g c =
    let len = length-contents c.args.map.now.memory in
    omega (arith, len, c.requires.range, c.loop-done-test.true, c.requires.chip.most)

pub overflow_cast-first : goal.overflow_cast-first
overflow_cast-first g c =
    let len = length-contents c.args.map.now.memory in
    omega (arith, len, c.requires.range, c.loop-done-test.true, c.requires.chip.most)

pub clear-requires : goal.clear-requires
clear-requires g c = record { number = counted-sector c.args.map.now.memory c.loop-done.map.memory c.args.first c.loop-done.done c.args.count c.loop-done.invariant.size c.requires.range (omega (arith, c.loop-done-test.true)) }

pub returns-in_err-clear-clause-cut : goal.returns-in_err-clear-clause-cut
returns-in_err-clear-clause-cut g c is clean =
    let p = err_from_is_err_and c.from_residual.result c.from_residual.ensures.1 in
    let m = c.loop-done.map.memory in
    let m' = c.clear.new.self.memory in
    let d = contents_of c.args.map.now.memory in
    let r = contents_of m in
    let left = contents_of m' in
    let x : List ℕ = replicate (512 * c.args.count) 0 in
    let long : length x ≡ 512 * c.args.count = length-replicate (512 * c.args.count) 0 in
    let a = 512 * c.args.first in
    let n = 512 * c.loop-done.done in
    let s = c.args.first + c.loop-done.done in
    let fits : n + 512 ≤ length x = omega (arith, long, c.loop-done-test.true) in
    let inside : a + length x ≤ length d = omega (arith, long, c.requires.range) in
    let first : (a + n) % 512 ≡ 0 = omega arith in
    let second : (a + (n + 512)) % 512 ≡ 0 = omega arith in
    let at : 512 * s ≡ a + n = omega arith in
    let piece : zeros ≡ slice_range x n (n + 512) = sym (zeros-slice (512 * c.args.count) n (omega (arith, c.loop-done-test.true))) in
    let low : s < sector_count (length m) = counted-sector c.args.map.now.memory m c.args.first c.loop-done.done c.args.count c.loop-done.invariant.size c.requires.range (omega (arith, c.loop-done-test.true)) in
    outcome-at d r left a n 512 x inside (long-slice x n 512 fits) first second fits (c.loop-done.invariant.written clean)
    (subst (λ y. (left ≡ r) ⊎ (left ≡ replaced r (a + n) y)) piece
    (subst (λ q. (left ≡ r) ⊎ (left ≡ replaced r q zeros)) at
    (sector-left m m' s zeros (c.in_err-clear.ensures.cut (cc (p.1, p.2))) (c.loop-done.invariant.clean clean) low length-zeros)))

pub returns-in_err-clear-clause-cut_clean : goal.returns-in_err-clear-clause-cut_clean
returns-in_err-clear-clause-cut_clean g c is clean =
    let p = err_from_is_err_and c.from_residual.result c.from_residual.ensures.1 in
    left-clean c.loop-done.map.memory c.clear.new.self.memory (c.args.first + c.loop-done.done) zeros (c.in_err-clear.ensures.cut (cc (p.1, p.2))) (c.loop-done.invariant.clean clean)

pub returns-in_err-clear-clause-cut_chip : goal.returns-in_err-clear-clause-cut_chip
returns-in_err-clear-clause-cut_chip g c is =
    let p = err_from_is_err_and c.from_residual.result c.from_residual.ensures.1 in
    same-chip-on c.args.map.now.memory c.loop-done.map.memory c.clear.new.self.memory c.loop-done.invariant.chip
    (left-chip c.loop-done.map.memory c.clear.new.self.memory (c.args.first + c.loop-done.done) zeros (c.in_err-clear.ensures.cut (cc (p.1, p.2))))

pub returns-in_err-clear-clause-firmly : goal.returns-in_err-clear-clause-firmly
returns-in_err-clear-clause-firmly g c firm cuts slows is clean laid later drawn =
    let p = err_from_is_err_and c.from_residual.result c.from_residual.ensures.1 in
    let m0 = c.args.map.now.memory in
    let m = c.loop-done.map.memory in
    let b = bits_in c.clear.new.self in
    let kept = c.loop-done.invariant.kept in
    let d = contents_of m0 in
    let r = contents_of m in
    let left = contents_of later in
    let x : List ℕ = replicate (512 * c.args.count) 0 in
    let long : length x ≡ 512 * c.args.count = length-replicate (512 * c.args.count) 0 in
    let a = 512 * c.args.first in
    let n = 512 * c.loop-done.done in
    let s = c.args.first + c.loop-done.done in
    let fits : n + 512 ≤ length x = omega (arith, long, c.loop-done-test.true) in
    let inside : a + length x ≤ length d = omega (arith, long, c.requires.range) in
    let first : (a + n) % 512 ≡ 0 = omega arith in
    let second : (a + (n + 512)) % 512 ≡ 0 = omega arith in
    let at : 512 * s ≡ a + n = omega arith in
    let piece : zeros ≡ slice_range x n (n + 512) = sym (zeros-slice (512 * c.args.count) n (omega (arith, c.loop-done-test.true))) in
    let low : s < sector_count (length m) = counted-sector m0 m c.args.first c.loop-done.done c.args.count c.loop-done.invariant.size c.requires.range (omega (arith, c.loop-done-test.true)) in
    let chip = same-chip-on m0 m b.shown c.loop-done.invariant.chip (left-chip m b.shown s zeros (c.in_err-clear.ensures.cut (cc (p.1, p.2)))) in
    let lost = c.in_err-clear.ensures.firmly firm (kept.cuts ∙ cuts) (kept.slows ∙ slows) (cc (p.1, p.2)) in
    let q = sets-draw m b later s zeros c.clear.ensures.size (c.loop-done.invariant.clean clean) low length-zeros lost.0 drawn in (
      draw-mounts m0 b later chip laid lost.1.journals q.0 drawn,
      sets-fit m b later s zeros lost.0 lost.1 drawn,
      outcome-at d r left a n 512 x inside (long-slice x n 512 fits) first second fits (c.loop-done.invariant.written clean)
          (subst (λ y. (left ≡ r) ⊎ (left ≡ replaced r (a + n) y)) piece
          (subst (λ z. (left ≡ r) ⊎ (left ≡ replaced r z zeros)) at q.1)),
    )

pub loop-done-preserved : goal.loop-done-preserved
loop-done-preserved g c =
    let m = c.loop-done.map.memory in
    let m' = c.clear.new.self.memory in
    let d = contents_of c.args.map.now.memory in
    let r = contents_of m in
    let new = contents_of m' in
    let x : List ℕ = replicate (512 * c.args.count) 0 in
    let long : length x ≡ 512 * c.args.count = length-replicate (512 * c.args.count) 0 in
    let a = 512 * c.args.first in
    let n = 512 * c.loop-done.done in
    let s = c.args.first + c.loop-done.done in
    let fits : n + 512 ≤ length x = omega (arith, long, c.loop-done-test.true) in
    let inside : a + length x ≤ length d = omega (arith, long, c.requires.range) in
    let at : 512 * s ≡ a + n = omega arith in
    let next : n + 512 ≡ 512 * (c.loop-done.done + 1) = omega arith in
    let piece : zeros ≡ slice_range x n (n + 512) = sym (zeros-slice (512 * c.args.count) n (omega (arith, c.loop-done-test.true))) in
    let low : s < sector_count (length m) = counted-sector c.args.map.now.memory m c.args.first c.loop-done.done c.args.count c.loop-done.invariant.size c.requires.range (omega (arith, c.loop-done-test.true)) in
    record {
      written = λ clean. subst (λ k. new ≡ replaced d a (take k x)) next
          (subst (λ y. new ≡ replaced r (a + n) y) piece
          (subst (λ q. new ≡ replaced r q zeros) at (sector-written m m' s zeros c.in_ok-clear.ensures.ok (c.loop-done.invariant.clean clean) low length-zeros))
          ∙ piece-written d r a n 512 x inside (long-slice x n 512 fits) fits (c.loop-done.invariant.written clean));
      clean = λ clean. c.in_ok-clear.ensures.ok.clean (c.loop-done.invariant.clean clean);
      size = c.clear.ensures.size ∙ c.loop-done.invariant.size;
      chip = same-chip-on c.args.map.now.memory m m' c.loop-done.invariant.chip c.in_ok-clear.ensures.ok.chip;
      within = omega (arith, c.loop-done-test.true);
      kept = kept-after c.args.map.now c.loop-done.map c.clear.new.self c.loop-done.invariant.kept c.in_ok-clear.ensures.ends.kept;
      since = inr (succeeds-perhaps c.args.map.now c.loop-done.map c.clear.new.self c.loop-done.invariant.since c.in_ok-clear.ensures.ends);
    }

pub returns-in_err-clear-clause-fails : goal.returns-in_err-clear-clause-fails
returns-in_err-clear-clause-fails g c =
    let s0 = c.args.map.now in
    let s1 = c.loop-done.map in
    let s2 = c.clear.new.self in
    fails-of c.from_residual.result (Succeeds s0 s2) (λ e. RefusesFirmly e s0 s2) (fails-as c.from_residual.result _ (λ _. Succeeds s0 s2) (λ e. RefusesFirmly e s0 s2) c.from_residual.ensures.1
    (refuses-perhaps _ s0 s1 s2 c.loop-done.invariant.since c.in_err-clear.ensures.ends))
