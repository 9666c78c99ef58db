use Rattle.std.proofs.Common.{◌≡◌, ◌∙◌, ◌+◌, ◌*◌, ◌/◌, ◌%◌, ◌≤◌, ◌<◌, ℕ, List, ap, subst, arith, rules, length}
use Rattle.std.specs.Prelude.{slice_range}
use Rattle.std.proofs.lemmas.List.{take_all}
use Rattle.std.proofs.lemmas.Result.{err_from_is_err_and}
use Rattle.block_device.specs.Contents.{replaced}
use Rattle.flash_disk.proofs.Parts.{long-slice, nothing-written, piece-written}
use Rattle.norbd_transfer.proofs.sectors.put_sectors.Goals as goal

pub loop-done-init : goal.loop-done-init
loop-done-init g c = record {
  filled = nothing-written (g.D.Disk.facts c.args.disk.now).contents (512 * c.args.first) c.args.bytes.now (search rules);
  ready = c.requires.ready;
  sound = c.requires.sound;
  goes = search rules;
  within = search rules;
  whole = search rules;
}

fits : (n size : ℕ) → size % 512 ≡ 0 → n % 512 ≡ 0 → n < size → n + 512 ≤ size
fits n size whole w low = omega (arith, whole, w, low)

pub slice_bounds-put-end : goal.slice_bounds-put-end
slice_bounds-put-end g c = fits c.loop-done.done (length c.args.bytes.now) c.requires.whole c.loop-done.invariant.whole c.loop-done-test.true

pub put-requires-clause-range : goal.put-requires-clause-range
put-requires-clause-range g c =
    let f = fits c.loop-done.done (length c.args.bytes.now) c.requires.whole c.loop-done.invariant.whole c.loop-done-test.true in
    omega (arith, f, c.loop-done.invariant.whole, c.requires.range, c.loop-done.invariant.goes.size)

pub put-requires-clause-number : goal.put-requires-clause-number
put-requires-clause-number g c = omega (arith, c.loop-done-test.true, c.requires.few)

pub put-requires-clause-ready : goal.put-requires-clause-ready
put-requires-clause-ready g c = c.loop-done.invariant.ready

pub put-requires-clause-sound : goal.put-requires-clause-sound
put-requires-clause-sound g c = c.loop-done.invariant.sound

pub returns-in_err-put-clause-goes : goal.returns-in_err-put-clause-goes
returns-in_err-put-clause-goes g c =
    let was = c.loop-done.invariant.goes in
    let now = c.put.ensures.goes in
    record { size = now.size ∙ was.size; cuts = omega (arith, was.cuts, now.cuts); slows = omega (arith, was.slows, now.slows) }

pub returns-in_err-put-clause-slow : goal.returns-in_err-put-clause-slow
returns-in_err-put-clause-slow g c is =
    let p = err_from_is_err_and c.from_residual.result c.from_residual.ensures.1 in
    let risen = c.in_err-put.ensures.slow (cc (p.1, p.2)) in
    omega (arith, c.loop-done.invariant.goes.slows, risen)

pub loop-done-preserved : goal.loop-done-preserved
loop-done-preserved g c =
    let d = (g.D.Disk.facts c.args.disk.now).contents in
    let r = (g.D.Disk.facts c.loop-done.disk).contents in
    let new = (g.D.Disk.facts c.put.new.disk).contents in
    let x = c.args.bytes.now in
    let a = 512 * c.args.first in
    let n = c.loop-done.done in
    let f = fits n (length x) c.requires.whole c.loop-done.invariant.whole c.loop-done-test.true in
    let at : 512 * (c.args.first + n / 512) ≡ a + n = omega (arith, c.loop-done.invariant.whole) in
    let was = c.loop-done.invariant.goes in
    let now = c.put.ensures.goes in
    record {
      filled = subst (λ q. new ≡ replaced r q (slice_range x n (n + 512))) at c.in_ok-put.ensures.written
          ∙ piece-written d r a n 512 x (omega (arith, c.requires.range)) (long-slice x n 512 f) f c.loop-done.invariant.filled;
      ready = c.in_ok-put.ensures.ready;
      sound = c.put.ensures.sound;
      goes = record { size = now.size ∙ was.size; cuts = omega (arith, was.cuts, now.cuts); slows = omega (arith, was.slows, now.slows) };
      within = f;
      whole = omega (arith, c.loop-done.invariant.whole);
    }

pub returns-clause-replaced : goal.returns-clause-replaced
returns-clause-replaced g c =
    c.loop-done.invariant.filled ∙ ap (λ (y : List ℕ). replaced (g.D.Disk.facts c.args.disk.now).contents (512 * c.args.first) y) (take_all c.loop-done.done c.args.bytes.now (omega (arith, c.loop-done-test.false)))

pub returns-clause-ready : goal.returns-clause-ready
returns-clause-ready g c = c.loop-done.invariant.ready

pub returns-clause-sound : goal.returns-clause-sound
returns-clause-sound g c = c.loop-done.invariant.sound

pub returns-clause-goes : goal.returns-clause-goes
returns-clause-goes g c = c.loop-done.invariant.goes
