use Rattle.std.proofs.Common.{◌≡◌, ◌+◌, drop, sym, ap, ◌∙◌, arith, refl}
use Rattle.std.proofs.lemmas.List.{length-drop}
use Rattle.disk_log.specs.Records.{body_len, record_len, sum_in}
use Rattle.disk_log.specs.declared.record.Head.{Head}
use Rattle.disk_log.proofs.Replays.{reads-first, reads-on, reads-all, here-of, none-of, whole-of, all-behind}
use Rattle.disk_log.proofs.reading.read_changes.Goals as goal

pub loop-head-init : goal.loop-head-init
loop-head-init c = reads-first c.args.log.now c.args.sectors c.args.before

pub slice_bounds-read_record-count : goal.slice_bounds-read_record-count
slice_bounds-read_record-count c = c.loop-head.invariant.low

pub slice_bounds-read_record-start : goal.slice_bounds-read_record-start
slice_bounds-read_record-start c = c.loop-head.invariant.low

pub loop-head-smaller : goal.loop-head-smaller
loop-head-smaller c =
    let low = c.loop-head.invariant.low in
    let here = here-of c.args.log.now c.args.sectors c.args.sectors c.loop-head.len c.loop-head.sum c.in-Some.head refl low (sym c.read_record.ensures ∙ c.in-Some.is) in
    let w = whole-of c.args.sectors c.loop-head.sum (drop c.loop-head.len c.args.log.now) here.begins in
    let long = length-drop c.loop-head.len c.args.log.now in
    let p = c.body_len-record.ensures ∙ ap (λ b. body_len b) (all-behind c.args.log.now c.loop-head.len low) in
    omega (arith, low, w, long, p)

pub loop-head-preserved : goal.loop-head-preserved
loop-head-preserved c =
    let u = c.loop-head.invariant in
    let here = here-of c.args.log.now c.args.sectors c.args.sectors c.loop-head.len c.loop-head.sum c.in-Some.head refl u.low (sym c.read_record.ensures ∙ c.in-Some.is) in
    let p : 24 + c.body_len-record.result ≡ record_len (drop c.loop-head.len c.args.log.now) = ap (λ k. 24 + k) (c.body_len-record.ensures ∙ ap (λ b. body_len b) (all-behind c.args.log.now c.loop-head.len u.low)) in
    let q : c.in-Some.head.sum ≡ sum_in (drop c.loop-head.len c.args.log.now) = ap (λ (h : Head). h.sum) here.says in
    let r = reads-on c.args.log.now c.args.sectors c.args.before c.loop-head.len c.loop-head.sum u here.begins in
    rw (p, q) r

pub returns : goal.returns
returns c =
    let all = reads-all c.args.log.now c.args.sectors c.args.before c.loop-head.len c.loop-head.sum c.loop-head.invariant
    (none-of c.args.log.now c.args.sectors c.args.sectors c.loop-head.len c.loop-head.sum refl c.loop-head.invariant.low (sym c.read_record.ensures ∙ c.in_default.is)) in
    record { low = all.low; rest = all.rest; none = all.none; sum = all.last }
