use Rattle.std.proofs.Common.{◌≡◌, ◌+◌, ◌/◌, length, drop, sym, ap, ◌∙◌, arith}
use Rattle.std.proofs.lemmas.List.{length-drop}
use Rattle.disk_log.specs.Records.{body_len, record_len, sum_in, with_change}
use Rattle.disk_log.specs.declared.record.Head.{Head}
use Rattle.disk_log.proofs.Replays.{at-first, at-end, one-on, here-of, none-of, inside-of, kind-of, failed-on, goes-on, whole-of, all-behind, sliced-len, change-here}
use Rattle.disk_log.proofs.replaying.replay_records.Goals as goal

pub loop-head-init : goal.loop-head-init
loop-head-init g c = at-first c.args.log.now c.args.before (g.D.Disk.facts c.args.disk.now)

pub slice_bounds-read_record-count : goal.slice_bounds-read_record-count
slice_bounds-read_record-count g c = c.loop-head.invariant.low

pub slice_bounds-read_record-start : goal.slice_bounds-read_record-start
slice_bounds-read_record-start g c = c.loop-head.invariant.low

pub change-requires-clause-inside : goal.change-requires-clause-inside
change-requires-clause-inside g c =
    let u = c.loop-head.invariant in
    let s = c.sectors-sectors.ensures in
    let size = u.goes.size in
    let here = here-of c.args.log.now (length (g.D.Disk.facts c.args.disk.now).contents / 512) c.sectors-sectors.result c.loop-head.at c.loop-head.sum c.in-Some.head (omega (arith, s)) u.low (sym c.read_record.ensures ∙ c.in-Some.is) in
    let inside = inside-of (length (g.D.Disk.facts c.args.disk.now).contents / 512) c.loop-head.sum (drop c.loop-head.at c.args.log.now) (g.D.Disk.facts c.loop-head.disk).contents here.begins (omega (arith, size)) in
    let says = here.says in
    rw (says) inside

pub change-requires-clause-len : goal.change-requires-clause-len
change-requires-clause-len g c =
    let u = c.loop-head.invariant in
    let s = c.sectors-sectors.ensures in
    let here = here-of c.args.log.now (length (g.D.Disk.facts c.args.disk.now).contents / 512) c.sectors-sectors.result c.loop-head.at c.loop-head.sum c.in-Some.head (omega (arith, s)) u.low (sym c.read_record.ensures ∙ c.in-Some.is) in
    sliced-len c.args.log.now (length (g.D.Disk.facts c.args.disk.now).contents / 512) c.loop-head.at c.body_len-end.result c.loop-head.sum c.in-Some.head u.low c.body_len-end.ensures here

pub loop-head-smaller : goal.loop-head-smaller
loop-head-smaller g c =
    let u = c.loop-head.invariant in
    let s = c.sectors-sectors.ensures in
    let low = u.low in
    let here = here-of c.args.log.now (length (g.D.Disk.facts c.args.disk.now).contents / 512) c.sectors-sectors.result c.loop-head.at c.loop-head.sum c.in-Some.head (omega (arith, s)) low (sym c.read_record.ensures ∙ c.in-Some.is) in
    let w = whole-of (length (g.D.Disk.facts c.args.disk.now).contents / 512) c.loop-head.sum (drop c.loop-head.at c.args.log.now) here.begins in
    let long = length-drop c.loop-head.at c.args.log.now in
    let p = c.body_len-end.ensures ∙ ap (λ b. body_len b) (all-behind c.args.log.now c.loop-head.at low) in
    omega (arith, low, w, long, p)

pub loop-head-preserved : goal.loop-head-preserved
loop-head-preserved g c =
    let u = c.loop-head.invariant in
    let s = c.sectors-sectors.ensures in
    let low = u.low in
    let did = c.in_default-change.ensures in
    let here = here-of c.args.log.now (length (g.D.Disk.facts c.args.disk.now).contents / 512) c.sectors-sectors.result c.loop-head.at c.loop-head.sum c.in-Some.head (omega (arith, s)) low (sym c.read_record.ensures ∙ c.in-Some.is) in
    let p : 24 + c.body_len-end.result ≡ record_len (drop c.loop-head.at c.args.log.now) = ap (λ k. 24 + k) (c.body_len-end.ensures ∙ ap (λ b. body_len b) (all-behind c.args.log.now c.loop-head.at low)) in
    let q : c.in-Some.head.sum ≡ sum_in (drop c.loop-head.at c.args.log.now) = ap (λ (h : Head). h.sum) here.says in
    let r = one-on c.args.log.now c.args.before (g.D.Disk.facts c.args.disk.now) (g.D.Disk.facts c.loop-head.disk) (g.D.Disk.facts c.change.new.disk) c.loop-head.at c.loop-head.sum u here.begins did.sound did.goes (λ r. did.latches.1)
    (λ e. did.contents e ∙ ap (λ x. with_change (g.D.Disk.facts c.loop-head.disk).contents x) (change-here c.args.log.now (length (g.D.Disk.facts c.args.disk.now).contents / 512) c.loop-head.at c.body_len-end.result c.loop-head.sum c.in-Some.head low c.body_len-end.ensures here)) in
    rw (p, q) r

pub change-requires-clause-two : goal.change-requires-clause-two
change-requires-clause-two g c =
    let u = c.loop-head.invariant in
    let s = c.sectors-sectors.ensures in
    let here = here-of c.args.log.now (length (g.D.Disk.facts c.args.disk.now).contents / 512) c.sectors-sectors.result c.loop-head.at c.loop-head.sum c.in-Some.head (omega (arith, s)) u.low (sym c.read_record.ensures ∙ c.in-Some.is) in
    let k = kind-of (length (g.D.Disk.facts c.args.disk.now).contents / 512) c.loop-head.sum (drop c.loop-head.at c.args.log.now) here.begins in
    let says = here.says in
    rw (says) k

pub returns-in-Err : goal.returns-in-Err
returns-in-Err g c =
    let u = c.loop-head.invariant in
    let did = c.in-Err.ensures in
    record {
      contents = tt;
      sound = did.sound ∙ u.sound;
      goes = goes-on _ _ _ u.goes did.goes;
      latches = failed-on (Unit {0}) (Unit {0}) c.in-Err.error _ _ _ u.goes u.ready did.latches;
    }

pub returns-clause-contents : goal.returns-clause-contents
returns-clause-contents g c =
    let u = c.loop-head.invariant in
    let s = c.sectors-sectors.ensures in
    at-end c.args.log.now c.args.before _ _ c.loop-head.at c.loop-head.sum u (none-of c.args.log.now (length (g.D.Disk.facts c.args.disk.now).contents / 512) c.sectors-sectors.result c.loop-head.at c.loop-head.sum (omega (arith, s)) u.low (sym c.read_record.ensures ∙ c.in_default.is))

pub returns-clause-sound : goal.returns-clause-sound
returns-clause-sound g c = c.loop-head.invariant.sound

pub returns-clause-goes : goal.returns-clause-goes
returns-clause-goes g c = c.loop-head.invariant.goes

pub returns-clause-latches : goal.returns-clause-latches
returns-clause-latches g c r = (r, c.loop-head.invariant.ready r)
