use Rattle.std.proofs.Common.{◌≡◌, ◌+◌, ◌-◌, ◌*◌, ◌∙◌, take, drop, ap, arith}
use Rattle.disk_log.specs.Checkpoints.{with_block}
use Rattle.disk_log.proofs.Places.{put-next, put-all}
use Rattle.disk_log.proofs.checkpoint.put_blocks.Goals as goal

pub loop-k-preserved : goal.loop-k-preserved
loop-k-preserved c =
    let low = c.loop-k-test.true in
    let k = c.loop-k.k in
    let n : 4104 * k + 4104 - 4104 * k ≡ 4104 = omega arith in
    put-next k c.args.count c.args.entries.now c.loop-k.image _ _ low
    (c.put_block.ensures ∙ ap (λ n. with_block c.loop-k.image (take n (drop (4104 * k) c.args.entries.now))) n)
    c.loop-k.invariant

pub returns : goal.returns
returns c =
    let high = c.loop-k-test.false in
    (let e = put-all c.loop-k.k c.args.count (drop (4104 * c.loop-k.k) c.args.entries.now) c.loop-k.image high in let i = c.loop-k.invariant in cc)
